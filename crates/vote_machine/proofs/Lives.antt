-- Whole lives: each record's call is the machine's, and the messages that the calls made are those that the party has made.
use mathlib.Core.Path.{◌≡◌, refl, ◌∙◌, subst}
use mathlib.Core.Logic.{◌⊎◌, inl, inr}
use mathlib.Core.List.Memᴰ
use mathlib.Core.List.{List, [], ◌∷◌, ◌++◌, Memᴰ}
use lib.Dec.{T}
use Rattle.message.specs.declared.Message.{Message}
use Rattle.journal.specs.declared.Record.{Record}
use Rattle.journal.specs.declared.Record.TheVariants.{Start, Taken}
use Rattle.party.specs.Party.{Party}
use Rattle.party.specs.Run.{Ran}
use Rattle.party_life.specs.Life.{replayed, lived, Fits, Life, made_along}
use Rattle.party_life.proofs.Fits.{fits_start}
use Rattle.vote_machine.specs.Machine.{accepts, accepted, called, Sent, event_of}
use Rattle.vote_machine.specs.Inner.{Regular, Inv, Le}
use Rattle.vote_machine.proofs.Order.{le_refl, le_trans, le_sent}
use Rattle.vote_machine.proofs.Kept.{called_accepted, start_accepted, regular_called, le_called}
use Rattle.vote_machine.proofs.Quiet.{inv_called}
use Rattle.vote_machine.proofs.Made.{Tells, tells_called}

-- ---- a record's call

pub fits_accepts : (p : Party) (r : Record) → Fits p r → T (accepts p (event_of r))
fits_accepts p (Start a x) f = let g = fits_start p a x f in start_accepted p x g.1 g.2
fits_accepts p (Taken s m) f = f

accepted_replayed : (p : Party) (r : Record) → accepted p (event_of r) ≡ replayed p r
unfolding replayed
accepted_replayed p (Start a x) = refl
accepted_replayed p (Taken s m) = refl

-- it is the machine's
pub replayed_called : (p : Party) (r : Record) → Fits p r → called p (event_of r) ≡ replayed p r
replayed_called p r f = called_accepted p (event_of r) (fits_accepts p r f) ∙ accepted_replayed p r

module _ (p : Party) (r : Record) (f : Fits p r) where
  pub regular_replayed : Regular p → Regular (replayed p r).party
  regular_replayed v = subst (λ (a : Ran). Regular a.party) (replayed_called p r f) (regular_called p v (event_of r))

  pub inv_replayed : Inv p → Inv (replayed p r).party
  inv_replayed v = subst (λ (a : Ran). Inv a.party) (replayed_called p r f) (inv_called p v (event_of r))

  pub le_replayed : Regular p → Le p (replayed p r).party
  le_replayed v = subst (λ (a : Ran). Le p a.party) (replayed_called p r f) (le_called p v (event_of r))

  pub tells_replayed : Regular p → Tells p (replayed p r)
  tells_replayed v = subst (Tells p) (replayed_called p r f) (tells_called p v (event_of r))

-- ---- a life from a party

module _ (p : Party) where
  pub regular_lived : Regular p → (rs : List Record) → Life p rs → Regular (lived p rs).party
  unfolding lived
  regular_lived v [] l = v
  regular_lived v (r ∷ rs) l = regular_replayed (lived p rs).party r l.0 (regular_lived v rs l.1)

  pub inv_lived : Inv p → (rs : List Record) → Life p rs → Inv (lived p rs).party
  unfolding lived
  inv_lived v [] l = v
  inv_lived v (r ∷ rs) l = inv_replayed (lived p rs).party r l.0 (inv_lived v rs l.1)

  -- each record rises
  pub le_record : Regular p → (r : Record) (rs : List Record) → Life p (r ∷ rs) → Le (lived p rs).party (lived p (r ∷ rs)).party
  unfolding lived
  le_record v r rs l = le_replayed (lived p rs).party r l.0 (regular_lived v rs l.1)

  pub le_lived : Regular p → (rs : List Record) → Life p rs → Le p (lived p rs).party
  unfolding lived
  le_lived v [] l = le_refl p
  le_lived v (r ∷ rs) l = le_trans p (lived p rs).party (lived p (r ∷ rs)).party (le_lived v rs l.1) (le_record v r rs l)

  -- the messages that the records' calls made
  pub made_lived : Regular p → (rs : List Record) → Life p rs → (m : Message) → Memᴰ m (made_along p rs) → Sent (lived p rs).party m
  unfolding lived
  made_lived v [] l m h = absurd (Memᴰ.not-nil h)
  made_lived v (r ∷ rs) l m h = go (made_lived v rs l.1 m) (Memᴰ.append_cases (made_along p rs) h)
    where
      go : (Memᴰ m (made_along p rs) → Sent (lived p rs).party m) → Memᴰ m (made_along p rs) ⊎ Memᴰ m (replayed (lived p rs).party r).made
          → Sent (replayed (lived p rs).party r).party m
      go ih (inl x) = le_sent (lived p rs).party (lived p (r ∷ rs)).party (le_record v r rs l) m (ih x)
      go ih (inr x) = (tells_replayed (lived p rs).party r l.0 (regular_lived v rs l.1)).made m x

  pub lived_made : Regular p → (rs : List Record) → Life p rs → (m : Message) → Sent (lived p rs).party m → Sent p m ⊎ Memᴰ m (made_along p rs)
  unfolding lived
  lived_made v [] l m s = inl s
  lived_made v (r ∷ rs) l m s = go (lived_made v rs l.1 m) ((tells_replayed (lived p rs).party r l.0 (regular_lived v rs l.1)).back m s)
    where
      more : List Message
      more = (replayed (lived p rs).party r).made

      old : Sent p m ⊎ Memᴰ m (made_along p rs) → Sent p m ⊎ Memᴰ m (made_along p rs ++ more)
      old (inl x) = inl x
      old (inr x) = inr (Memᴰ.append_left more x)

      go : (Sent (lived p rs).party m → Sent p m ⊎ Memᴰ m (made_along p rs)) → Sent (lived p rs).party m ⊎ Memᴰ m more
          → Sent p m ⊎ Memᴰ m (made_along p rs ++ more)
      go ih (inl x) = old (ih x)
      go ih (inr x) = inr (Memᴰ.append_right (made_along p rs) x)
