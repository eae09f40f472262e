-- What a party has heard, made and started with is told by the records of its life, from set-up on; and the machine's state is the party of the records.
use mathlib.Core.Path.{◌≡◌, sym, ap, ◌∙◌, subst}
use mathlib.Core.Logic.{◌⊎◌, inl, inr, ◌↔◌}
use mathlib.Core.List.Memᴰ
use mathlib.Core.List.{List, [], ◌∷◌, Memᴰ}
use Prim.Native.Nat.{ℕ, ◌<◌}
use native.Mathlib.Omega.{arith}
use lib.Dec.{T}
use Rattle.plan.specs.Plan.{Plan}
use Rattle.plan.specs.Valid.{plan_valid}
use Rattle.component.specs.Component.{whole_of}
use Rattle.message.specs.declared.Message.{Message}
use Rattle.message.specs.Message.{in_table}
use Rattle.journal.specs.declared.Record.{Record}
use Rattle.journal.specs.declared.Record.TheVariants.{Start, Taken}
use Rattle.level.specs.Level.{Level}
use Rattle.party.specs.Party.{Party, new_party, level_at, entered, started}
use Rattle.party.specs.Run.{Ran, open_at, step_at, starting, taking}
use Rattle.party.specs.Valid.{settings_pass}
use Rattle.party_laws.proofs.Laws.{entry_level, run_kept, taking_kept, taking_keeps, open_sending, sending_entered, entered_down}
use Rattle.party_life.specs.Life.{replayed, lived, Fits, Life, made_along}
use Rattle.party_life.proofs.Fits.{fits_start, fits_taken}
use Rattle.execution.specs.History.{after}
use Rattle.vote_machine.specs.Machine.{called, Heard, Sent, vote_machine, event_of, events_of}
use Rattle.vote_machine.specs.Inner.{Regular, Le}
use Rattle.vote_machine.proofs.Calls.{heard_entered}
use Rattle.vote_machine.proofs.Kept.{new_sending, new_entered, regular_new, regular_hearing, regular_step}
use Rattle.vote_machine.proofs.Heard.{heard_new, heard_starting, heard_taking, le_heard, taking_heard}
use Rattle.vote_machine.proofs.Lawful.{seat_own}
use Rattle.vote_machine.proofs.Lives.{replayed_called, regular_lived, le_record, le_lived, made_lived, lived_made}

-- ---- what was taken

module _ (p : Party) (v : Regular p) where
  -- a message that was taken is heard
  pub taken_lived : (rs : List Record) → Life p rs → (s : ℕ) (m : Message) → Memᴰ (Taken s m) rs → Heard (lived p rs).party s m
  unfolding lived replayed
  taken_lived [] l s m h = absurd (Memᴰ.not-nil h)
  taken_lived (r ∷ rs) l s m h = go (Memᴰ.cases_cons h) (taken_lived rs l.1 s m)
    where
      q : Party
      q = (lived p rs).party

      first : Fits q (Taken s m) → Heard (replayed q (Taken s m)).party s m
      first f = let g = fits_taken q s m f in taking_heard q (regular_lived p v rs l.1) s m g.2 g.0

      go : (Taken s m ≡ r) ⊎ Memᴰ (Taken s m) rs → (Memᴰ (Taken s m) rs → Heard q s m) → Heard (replayed q r).party s m
      go (inl e) ih = subst (λ (y : Record). Fits q y → Heard (replayed q y).party s m) e first l.0
      go (inr x) ih = le_heard q (replayed q r).party (le_record p v r rs l) s m (ih x)

  -- and nothing else
  replayed_heard : (q : Party) (r : Record) → Fits q r → (s : ℕ) (m : Message) → Heard (replayed q r).party s m → Heard q s m ⊎ (Taken s m ≡ r)
  unfolding replayed
  replayed_heard q (Start a x) f s m h = inl (heard_starting q x (fits_start q a x f).1 s m h)
  replayed_heard q (Taken j k) f s m h = let g = fits_taken q j k f in go (heard_taking q j k g.2 g.0 s m h)
    where
      go : Heard q s m ⊎ ((j ≡ s) × (k ≡ m)) → Heard q s m ⊎ (Taken s m ≡ Taken j k)
      go (inl y) = inl y
      go (inr y) = inr (λ z. Taken (sym y.0 z) (sym y.1 z))

  pub lived_taken : (rs : List Record) → Life p rs → (s : ℕ) (m : Message) → Heard (lived p rs).party s m → Heard p s m ⊎ Memᴰ (Taken s m) rs
  unfolding lived
  lived_taken [] l s m h = inl h
  lived_taken (r ∷ rs) l s m h = go (replayed_heard (lived p rs).party r l.0 s m h) (lived_taken rs l.1 s m)
    where
      old : Heard p s m ⊎ Memᴰ (Taken s m) rs → Heard p s m ⊎ Memᴰ (Taken s m) (r ∷ rs)
      old (inl y) = inl y
      old (inr y) = inr (Memᴰ.tail y)

      go : Heard (lived p rs).party s m ⊎ (Taken s m ≡ r) → (Heard (lived p rs).party s m → Heard p s m ⊎ Memᴰ (Taken s m) rs)
          → Heard p s m ⊎ Memᴰ (Taken s m) (r ∷ rs)
      go (inl y) ih = old (ih y)
      go (inr y) ih = inr (Memᴰ.head y)

-- ---- what it started with

-- a start enters level 0 at its position
pub starting_at : (p : Party) → Regular p → (x : ℕ) → T (started (starting p x).party) × ((level_at (starting p x).party 0).position ≡ x)
unfolding starting entered
starting_at p r x =
    let e = entry_level p 0 (whole_of p.plan) 0 x (omega (arith, r.formed.full)) in
    let k = (run_kept (entered p x)).0.entry 0 (subst (λ (l : Level). T l.entered) (sym e) tt) in
    (k.0, k.2 ∙ ap (λ (l : Level). l.position) e)

-- a message does not start
pub started_taking : (p : Party) → Regular p → (s : ℕ) (m : Message) → s < p.n → T (in_table m) → T (started (taking p s m).party) → T (started p)
started_taking p r s m k t =
    (taking_keeps (λ q. Regular q × (T (started q) → T (started p))) step p s m (r, λ h. h)
    (regular_hearing p r s m k t, λ h. subst T (heard_entered p r s m k t 0) h)).1
  where
    step : (q : Party) (i : ℕ) → Regular q × (T (started q) → T (started p)) → T (open_at q i) → Regular (step_at q i) × (T (started (step_at q i)) → T (started p))
    step q i h o = (regular_step q h.0 i o, λ _. h.1 (entered_down q h.0.formed 0 i (omega arith) (sending_entered q i (open_sending q i o))))

module _ (p : Party) (v : Regular p) where
  -- of the records one start
  pub start_lived : (rs : List Record) → Life p rs → (a x : ℕ) → Memᴰ (Start a x) rs
      → (a ≡ p.agreement) × (x < p.plan.count) × T (started (lived p rs).party) × ((level_at (lived p rs).party 0).position ≡ x)
  unfolding lived replayed
  start_lived [] l a x h = absurd (Memᴰ.not-nil h)
  start_lived (r ∷ rs) l a x h = go (Memᴰ.cases_cons h) (start_lived rs l.1 a x)
    where
      q : Party
      q = (lived p rs).party

      b : Le p (lived p rs).party
      b = le_lived p v rs l.1

      Goal : Party → Type 0
      Goal z = (a ≡ p.agreement) × (x < p.plan.count) × T (started z) × ((level_at z 0).position ≡ x)

      first : Fits q (Start a x) → Goal (replayed q (Start a x)).party
      first f =
          let g = fits_start q a x f in
          let s = starting_at q (regular_lived p v rs l.1) x in
          (g.0 ∙ b.board.agreement, subst (λ (z : Plan). x < z.count) b.board.plan g.2, s.0, s.1)

      go : (Start a x ≡ r) ⊎ Memᴰ (Start a x) rs → (Memᴰ (Start a x) rs → Goal q) → Goal (replayed q r).party
      go (inl e) ih = subst (λ (y : Record). Fits q y → Goal (replayed q y).party) e first l.0
      go (inr y) ih =
          let g = ih y in
          let k = ((le_record p v r rs l).grown 0).entered g.2 in
          (g.0, g.1, k.0, k.2 ∙ g.3)

  -- a party that is started has it among its records
  replayed_started : (q : Party) → Regular q → (r : Record) → Fits q r → T (started (replayed q r).party)
      → (T (started q) × ((level_at (replayed q r).party 0).position ≡ (level_at q 0).position)) ⊎ ((a : ℕ) × (Start a (level_at (replayed q r).party 0).position ≡ r))
  unfolding replayed
  replayed_started q w (Start a x) f h = inr (a, ap (Start a) (starting_at q w x).1)
  replayed_started q w (Taken s m) f h =
      let g = fits_taken q s m f in
      let o = started_taking q w s m g.1 g.2 h in
      inl (o, ((taking_kept q s m).entry 0 o).2)

  pub lived_start : (rs : List Record) → Life p rs → T (started (lived p rs).party)
      → T (started p) ⊎ ((a : ℕ) × Memᴰ (Start a (level_at (lived p rs).party 0).position) rs)
  unfolding lived
  lived_start [] l h = inl h
  lived_start (r ∷ rs) l h = go (replayed_started q (regular_lived p v rs l.1) r l.0 h) (lived_start rs l.1)
    where
      q : Party
      q = (lived p rs).party

      x : ℕ
      x = (level_at (replayed q r).party 0).position

      old : x ≡ (level_at q 0).position → T (started p) ⊎ ((a : ℕ) × Memᴰ (Start a (level_at q 0).position) rs) → T (started p) ⊎ ((a : ℕ) × Memᴰ (Start a x) (r ∷ rs))
      old e (inl y) = inl y
      old e (inr y) = inr (y.0, Memᴰ.tail (subst (λ (z : ℕ). Memᴰ (Start y.0 z) rs) (sym e) y.1))

      go : (T (started q) × (x ≡ (level_at q 0).position)) ⊎ ((a : ℕ) × (Start a x ≡ r))
          → (T (started q) → T (started p) ⊎ ((a : ℕ) × Memᴰ (Start a (level_at q 0).position) rs)) → T (started p) ⊎ ((a : ℕ) × Memᴰ (Start a x) (r ∷ rs))
      go (inl y) ih = old y.1 (ih y.0)
      go (inr y) ih = inr (y.0, Memᴰ.head y.1)

-- ---- from set-up on

module _ (n t own a : ℕ) (plan : Plan) (s : T (settings_pass (new_party n t own a plan))) (h : T (plan_valid plan)) (rs : List Record)
    (l : Life (new_party n t own a plan) rs) where
  abbrev p : Party
  p = new_party n t own a plan

  abbrev v : Regular (new_party n t own a plan)
  v = regular_new n t own a plan s h

  -- "what a board's calls made" is what its party has made
  pub made_sent : (m : Message) → Memᴰ m (made_along (new_party n t own a plan) rs) ↔ Sent (lived (new_party n t own a plan) rs).party m
  made_sent m = (made_lived p v rs l m, λ x. go (lived_made p v rs l m x))
    where
      go : Sent p m ⊎ Memᴰ m (made_along p rs) → Memᴰ m (made_along p rs)
      go (inl y) = absurd (new_sending n t own a plan s h m.level y.sends)
      go (inr y) = y

  -- the messages taken are those that its party has heard
  pub taken_heard : (j : ℕ) (m : Message) → Memᴰ (Taken j m) rs ↔ Heard (lived (new_party n t own a plan) rs).party j m
  taken_heard j m = (taken_lived p v rs l j m, λ x. go (lived_taken p v rs l j m x))
    where
      go : Heard p j m ⊎ Memᴰ (Taken j m) rs → Memᴰ (Taken j m) rs
      go (inl y) = absurd (heard_new n t own a plan j m y)
      go (inr y) = y

  -- it started with its position at level 0
  pub start_entered : (x : ℕ)
      → ((b : ℕ) × Memᴰ (Start b x) rs)
      ↔ (T (started (lived (new_party n t own a plan) rs).party) × ((level_at (lived (new_party n t own a plan) rs).party 0).position ≡ x))
  start_entered x = (
    (λ y. let z = start_lived p v rs l y.0 x y.1 in (z.2, z.3)),
    (λ y. subst (λ (z : ℕ). (b : ℕ) × Memᴰ (Start b z) rs) y.1 (go (lived_start p v rs l y.0))),
  )
    where
      go : T (started p) ⊎ ((b : ℕ) × Memᴰ (Start b (level_at (lived p rs).party 0).position) rs)
          → (b : ℕ) × Memᴰ (Start b (level_at (lived p rs).party 0).position) rs
      go (inl y) = absurd (new_entered n t own a plan s h 0 y)
      go (inr y) = y

-- ---- the machine

-- the state of board i by a log is the party of its records
pub after_lived : (n t a : ℕ) (plan : Plan) (i : ℕ) → i < n → (rs : List Record) → Life (new_party n t i a plan) rs
    → after (vote_machine n t a plan) i (events_of rs) ≡ (lived (new_party n t i a plan) rs).party
unfolding after lived events_of
after_lived n t a plan i k [] l = ap (λ (own : ℕ). new_party n t own a plan) (seat_own n i k)
after_lived n t a plan i k (r ∷ rs) l =
    ap (λ (q : Party). (called q (event_of r)).party) (after_lived n t a plan i k rs l.1)
    ∙ ap (λ (z : Ran). z.party) (replayed_called (lived (new_party n t i a plan) rs).party r l.0)
