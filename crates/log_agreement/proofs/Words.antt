-- What stands in a log shows in the party that the log gives, and nothing else does: demand 3's words on logs by the log's accepted calls.
use mathlib.Core.Path.{◌≡◌, refl, sym, ap, ◌∙◌, subst, subst₂}
use mathlib.Core.Logic.{◌⊎◌, inl, inr}
use mathlib.Core.List.Memᴰ
use mathlib.Core.List.{List, [], ◌∷◌, ◌++◌, append-nil, Memᴰ}
use Prim.Native.Nat.{ℕ, ◌<◌}
use lib.Dec.{T}
use Rattle.plan.specs.Plan.{Plan}
use Rattle.message.specs.declared.Message.{Message}
use Rattle.message.specs.Message.{in_table}
use Rattle.party.specs.Party.{Party, level_at, held_by}
use Rattle.party.specs.Run.{Ran}
use Rattle.party_laws.proofs.Laws.{taking_kept}
use Rattle.execution.specs.Machine.{Event, start, take, Machine}
use Rattle.execution.specs.History.{after}
use Rattle.execution.proofs.Logs.{handed_sent}
use Rattle.vote_machine.specs.Machine.{accepts, accepted, called, vote_machine, Heard, Sent, seat}
use Rattle.vote_machine.specs.Inner.{Le}
use Rattle.vote_machine.proofs.Laws.{le_refl, le_trans, le_called, le_sent, le_heard, new_entered, called_cases, called_accepted, called_refused, start_fits, take_fits, start_accepted, take_accepted}
use Rattle.vote_machine.proofs.Laws.{tells_called, sent_proper, heard_new, heard_start, heard_taking, taking_heard, starting_at, started_taking, Passes, seat_settings, vote_lawful}
use Rattle.log_agreement.specs.Logs.{Steps, log_of, party_by, messages_by}
use Rattle.log_agreement.specs.Words.{AcceptedCall, CallMade, Calls, Words, LogWords}
use Rattle.log_agreement.proofs.Joint.{settings}
use Rattle.log_agreement.proofs.Logs.{heard_held, held_heard, regular, tells_made, allowed_valid}

-- the message under another number
abbrev pub numbered : ℕ → Message → Message
numbered k m = record { number = k; level = m.level; body = m.body }

module _ (n t agreement : ℕ) (plan : Plan) (v : Passes n t plan) where
  abbrev M : Machine
  M = vote_machine n t agreement plan

  abbrev Log : Type 0
  Log = List (Event Message ℕ)

  abbrev Stands : ℕ → List (Event Message ℕ) → Event Message ℕ → Type 0
  Stands = AcceptedCall n t agreement plan

  -- the newest call, and the older ones
  abbrev newest : (i : ℕ) (e : Event Message ℕ) (l : Log) → T (accepts (after M i l) e) → Stands i (e ∷ l) e
  newest i e l f = record { later = []; older = l; stands = refl; fits = f }

  abbrev one_more : (i : ℕ) (d : Event Message ℕ) (l : Log) (e : Event Message ℕ) → Stands i l e → Stands i (d ∷ l) e
  one_more i d l e c = record { later = d ∷ c.later; older = c.older; stands = ap (λ (k : Log). d ∷ k) c.stands; fits = c.fits }

  -- ---- what stands shows

  le_later : (i : ℕ) (later older : Log) → Le (after M i older) (after M i (later ++ older))
  unfolding after
  le_later i [] older = le_refl (after M i older)
  le_later i (e ∷ later) older =
      let p = after M i (later ++ older) in
      le_trans (after M i older) p (called p e).party (le_later i later older) (le_called p (regular n t agreement plan v i (later ++ older)) e)

  module _ (i : ℕ) (l : Log) (e : Event Message ℕ) (c : Stands i l e) where
    abbrev before : Party
    before = after M i c.older

    call_le : Le (accepted before e).party (after M i l)
    unfolding after
    call_le =
        subst₂ (λ (a : Ran) (k : Log). Le a.party (after M i k)) (called_accepted before e c.fits) (sym c.stands) (le_later i c.later (e ∷ c.older))

  start_shows : (i : ℕ) (l : Log) (x : ℕ) → Stands i l (start x) → T (level_at (after M i l) 0).entered × ((level_at (after M i l) 0).position ≡ x)
  start_shows i l x c =
      let s = starting_at (after M i c.older) (regular n t agreement plan v i c.older) x in
      let g = ((call_le i l (start x) c).grown 0).entered s.0 in
      (g.0, g.2 ∙ s.1)

  take_shows : (i : ℕ) (l : Log) (s : ℕ) (m : Message) → Stands i l (take s m) → (m.number ≡ agreement) × T (in_table m) × T (held_by (after M i l) s m)
  take_shows i l s m c =
      let p = after M i c.older in
      let f = take_fits p s m c.fits in
      let h = taking_heard p (regular n t agreement plan v i c.older) s m f.1 f.2 in (
        f.2 ∙ (settings n t agreement plan v i c.older).number,
        f.1,
        heard_held (after M i l) s m (le_heard (accepted p (take s m)).party (after M i l) (call_le i l (take s m) c) s m h),
      )

  made_shows : (i : ℕ) (l : Log) (m : Message) → CallMade n t agreement plan i l m → Memᴰ m (messages_by n t agreement plan i l)
  made_shows i l m (e, c, x) =
      let p = after M i c.older in
      let s =
      subst (λ (a : Ran). Memᴰ m a.made → Sent a.party m) (called_accepted p e c.fits)
      ((tells_called p (regular n t agreement plan v i c.older) e).made m) x in
      tells_made n t agreement plan v i l m (le_sent (accepted p e).party (after M i l) (call_le i l e c) m s)

  -- ---- what shows stands

  -- the start at which level 0 was entered
  start_stands : (i : ℕ) (l : Log) → T (level_at (after M i l) 0).entered → Stands i l (start (level_at (after M i l) 0).position)
  unfolding after
  start_stands i [] h = absurd (new_entered n t (seat n i) agreement plan (seat_settings n t agreement plan v i) v.valid 0 h)
  start_stands i (start x ∷ l) h =
      let p = after M i l in
      called_cases (λ (a : Ran). T (level_at a.party 0).entered → Stands i (start x ∷ l) (start (level_at a.party 0).position)) p (start x)
      (λ f k.
      subst (λ (z : ℕ). Stands i (start x ∷ l) (start z)) (sym (starting_at p (regular n t agreement plan v i l) x).1) (newest i (start x) l f))
      (λ k. one_more i (start x) l _ (start_stands i l k)) h
  start_stands i (take s m ∷ l) h =
      let p = after M i l in
      called_cases (λ (a : Ran). T (level_at a.party 0).entered → Stands i (take s m ∷ l) (start (level_at a.party 0).position)) p (take s m)
      (λ f k.
      let g = take_fits p s m f in
      let o = started_taking p (regular n t agreement plan v i l) s m g.0 g.1 k in
      subst (λ (z : ℕ). Stands i (take s m ∷ l) (start z)) (sym ((taking_kept p s m).entry 0 o).2) (one_more i (take s m) l _ (start_stands i l o)))
      (λ k. one_more i (take s m) l _ (start_stands i l k)) h

  -- a message heard
  heard_stands : (i : ℕ) (l : Log) (s : ℕ) (m : Message) → Heard (after M i l) s m → Stands i l (take s m)
  unfolding after
  heard_stands i [] s m h = absurd (heard_new n t (seat n i) agreement plan s m h)
  heard_stands i (start x ∷ l) s m h = one_more i (start x) l (take s m) (heard_stands i l s m (heard_start (after M i l) x s m h))
  heard_stands i (take j k ∷ l) s m h =
      called_cases (λ (a : Ran). Heard a.party s m → Stands i (take j k ∷ l) (take s m)) p (take j k)
      (λ f y. let g = take_fits p j k f in go f (heard_taking p j k g.1 g.2 s m y) (heard_stands i l s m))
      (λ y. one_more i (take j k) l (take s m) (heard_stands i l s m y)) h
    where
      p : Party
      p = after M i l

      go : T (accepts p (take j k)) → Heard p s m ⊎ ((j ≡ s) × (k ≡ m)) → (Heard p s m → Stands i l (take s m)) → Stands i (take j k ∷ l) (take s m)
      go f (inl y) ih = one_more i (take j k) l (take s m) (ih y)
      go f (inr y) ih = subst₂ (λ (a : ℕ) (b : Message). Stands i (take j k ∷ l) (take a b)) y.0 y.1 (newest i (take j k) l f)

  -- a message made
  made_stands : (i : ℕ) (l : Log) (m : Message) → Memᴰ m (messages_by n t agreement plan i l) → CallMade n t agreement plan i l m
  unfolding messages_by
  made_stands i [] m x = absurd (Memᴰ.not-nil x)
  made_stands i (e ∷ l) m x = go (Memᴰ.append_cases (messages_by n t agreement plan i l) x) (made_stands i l m)
    where
      p : Party
      p = after M i l

      go : Memᴰ m (messages_by n t agreement plan i l) ⊎ Memᴰ m (called p e).made
          → (Memᴰ m (messages_by n t agreement plan i l) → CallMade n t agreement plan i l m) → CallMade n t agreement plan i (e ∷ l) m
      go (inl y) ih = let z = ih y in (z.0, one_more i e l z.0 z.1, z.2)
      go (inr y) ih =
          called_cases (λ (a : Ran). Memᴰ m a.made → CallMade n t agreement plan i (e ∷ l) m) p e
          (λ f w. (e, newest i e l f, w)) (λ w. absurd (Memᴰ.not-nil w)) y

  -- ---- a refused call

  refused_party : (i : ℕ) (e : Event Message ℕ) (later older : Log) → (T (accepts (after M i older) e) → ⊥)
      → after M i (later ++ (e ∷ older)) ≡ after M i (later ++ older)
  unfolding after
  refused_party i e [] older d = ap (λ (a : Ran). a.party) (called_refused (after M i older) e d)
  refused_party i e (c ∷ later) older d = ap (λ (p : Party). (called p c).party) (refused_party i e later older d)

  refused_made : (i : ℕ) (e : Event Message ℕ) (later older : Log) → (T (accepts (after M i older) e) → ⊥)
      → messages_by n t agreement plan i (later ++ (e ∷ older)) ≡ messages_by n t agreement plan i (later ++ older)
  unfolding messages_by
  refused_made i e [] older d =
      ap (λ (a : Ran). messages_by n t agreement plan i older ++ a.made) (called_refused (after M i older) e d) ∙ append-nil (messages_by n t agreement plan i older)
  refused_made i e (c ∷ later) older d =
      λ z. refused_made i e later older d z ++ (called (refused_party i e later older d z) c).made

  -- ---- accepted calls

  start_free : (i : ℕ) (l : Log) (x : ℕ) → T (accepts (after M i l) (start x)) → ((y : ℕ) → Stands i l (start y) → ⊥) × (x < plan.count)
  start_free i l x f =
      let g = start_fits (after M i l) x f in
      (λ y c. g.0 (start_shows i l y c).0, subst (λ (p : Plan). x < p.count) (settings n t agreement plan v i l).on g.1)

  free_start : (i : ℕ) (l : Log) (x : ℕ) → ((y : ℕ) → Stands i l (start y) → ⊥) → x < plan.count → T (accepts (after M i l) (start x))
  free_start i l x d k =
      start_accepted (after M i l) x (λ h. d (level_at (after M i l) 0).position (start_stands i l h))
      (subst (λ (p : Plan). x < p.count) (sym (settings n t agreement plan v i l).on) k)

  take_proper : (i : ℕ) (l : Log) (s : ℕ) (m : Message) → T (accepts (after M i l) (take s m)) → (m.number ≡ agreement) × (s < n) × T (in_table m)
  take_proper i l s m f =
      let g = take_fits (after M i l) s m f in
      let k = settings n t agreement plan v i l in
      (g.2 ∙ k.number, subst (λ (z : ℕ). s < z) k.boards g.0, g.1)

  proper_take : (i : ℕ) (l : Log) (s : ℕ) (m : Message) → m.number ≡ agreement → s < n → T (in_table m) → T (accepts (after M i l) (take s m))
  proper_take i l s m e k f =
      let g = settings n t agreement plan v i l in
      take_accepted (after M i l) s m (subst (λ (z : ℕ). s < z) (sym g.boards) k) f (e ∙ sym g.number)

  -- ---- the words

  held_stands : (i : ℕ) (l : Log) (s : ℕ) (m : Message) → m.number ≡ agreement → T (in_table m) → T (held_by (after M i l) s m) → Stands i l (take s m)
  held_stands i l s m e f h = heard_stands i l s m (held_heard (after M i l) s m (e ∙ sym (settings n t agreement plan v i l).number) f h)

  calls : (i : ℕ) (l : Log) → Calls n t agreement plan i l
  calls i l = record {
    starts = λ x. (start_free i l x, λ y. free_start i l x y.0 y.1);
    takes = λ s m. (take_proper i l s m, λ y. proper_take i l s m y.0 y.1 y.2);
    refused = λ e d later. (refused_party i e later l d, refused_made i e later l d);
  }

  words : (h : Steps n t agreement plan) (i : ℕ) → Words n t agreement plan h i
  words h i = record {
    started = λ x. (λ s. subst (λ (z : ℕ). Stands i l (start z)) s.1 (start_stands i l s.0), start_shows i l x);
    taken = λ s m. (λ x. held_stands i l s m x.0 x.1 x.2, take_shows i l s m);
    handed = λ bad a j m x.
        let s = handed_sent M n bad (vote_lawful n t agreement plan v) h (allowed_valid n t agreement plan v bad h a) j m x in
        let q = log_of n t agreement plan h j in (
          held_stands i l j m (s.number ∙ (settings n t agreement plan v j q).number) (sent_proper (after M j q) (regular n t agreement plan v j q) m s),
          λ c. (take_shows i l j m c).2,
        );
    made = λ m. (made_stands i l m, made_shows i l m);
  }
    where
      l : Log
      l = log_of n t agreement plan h i

  -- ---- what the words rule out

  -- a second start, which would have been accepted as the first one
  pub second_start : (i x y : ℕ) → x < plan.count → y < plan.count
      → T (accepts (party_by n t agreement plan i []) (start y)) × (AcceptedCall n t agreement plan i (start y ∷ (start x ∷ [])) (start y) → x ≡ y)
  unfolding after
  second_start i x y a b =
      (fits y b, λ c. sym (start_shows i l x (one_more i (start y) (start x ∷ []) (start x) (newest i (start x) [] (fits x a)))).1 ∙ (start_shows i l y c).1)
    where
      l : Log
      l = start y ∷ (start x ∷ [])

      fits : (z : ℕ) → z < plan.count → T (accepts (after M i []) (start z))
      fits z =
          start_accepted (after M i []) z (new_entered n t (seat n i) agreement plan (seat_settings n t agreement plan v i) v.valid 0)

  -- a message of another vote with the level and body of one that was taken: it is held, and was not taken
  pub other_vote : (i : ℕ) (l : List (Event Message ℕ)) (s k : ℕ) (m : Message) → AcceptedCall n t agreement plan i l (take s m) → (k ≡ agreement → ⊥)
      → T (in_table (numbered k m)) × T (held_by (party_by n t agreement plan i l) s (numbered k m))
      × (AcceptedCall n t agreement plan i l (take s (numbered k m)) → ⊥)
  unfolding held_by
  other_vote i l s k m c d = let x = take_shows i l s m c in (x.1, x.2, λ e. d (take_shows i l s (numbered k m) e).0)

pub log_words : LogWords
log_words n t agreement plan boards faults valid =
    let v : Passes n t plan = record { boards = boards; faults = faults; valid = valid } in
    (calls n t agreement plan v, words n t agreement plan v)
