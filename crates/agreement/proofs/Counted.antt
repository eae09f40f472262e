-- The calls that count, beside the records of the board's journal: each wrote one of them, or took a message that one of them has.
use mathlib.Core.Path.{◌≡◌, refl, sym, ap, ◌∙◌, subst}
use mathlib.Core.Logic.{◌⊎◌, inl, inr}
use mathlib.Core.Bool.{Bool, true, false, not}
use mathlib.Core.List.Memᴰ
use mathlib.Core.List.{List, [], ◌∷◌, Memᴰ}
use Prim.Native.Nat.{ℕ, zero, suc, ◌≤◌}
use native.Mathlib.Omega.{arith}
use borrow.Author.Tests.{leb-true, leb-false}
use lib.Dec.{T, leb}
use lib.ListN.{length, drop}
use Rattle.std.specs.Prelude.{Ok}
use Rattle.base.specs.Pick.{pick}
use Rattle.plan.specs.Plan.{Plan}
use Rattle.message.specs.declared.Message.{Message}
use Rattle.level.specs.Level.{no_output}
use Rattle.journal.specs.declared.Record.{Record}
use Rattle.journal.specs.declared.Record.TheVariants.{Start, Taken}
use Rattle.journal.specs.Records.{journal_bytes}
use Rattle.journal.proofs.Records.{journal_length}
use Rattle.party.specs.Party.{Party}
use Rattle.party_life.specs.Life.{replayed, lived, made_along}
use Rattle.board_calls.specs.Answers.{position_of}
use Rattle.agreement.specs.History.{StartInput, voted_input, Act, a_start, a_take, Counted, kept_calls}

-- the record of a call
abbrev pub Says : Plan → Act → Record → Type 0
Says plan (a_start x input) r = (a : ℕ) × (Start a x ≡ r) × (position_of plan (voted_input input) ≡ x) × (x ≡ no_output → ⊥)
Says plan (a_take s e) r = (m : Message) × (e ≡ Ok m) × (Taken s m ≡ r)

-- the call wrote the newest of the records rs, where `older` were there before, from the party p on
pub record Wrote (plan : Plan) (p : Party) (c : Counted) (rs older : List Record) : Type 0 where
  pub newest : Record
  pub records : rs ≡ newest ∷ older
  pub says : Says plan c.act newest
  pub made : c.made ≡ (replayed (lived p older).party newest).made
  pub used : c.used ≡ length (journal_bytes rs)

-- the call wrote none: it took a message that one of the records has
pub record Repeats (c : Counted) (rs : List Record) : Type 0 where
  pub sender : ℕ
  pub message : Message
  pub act : c.act ≡ a_take sender (Ok message)
  pub held : Memᴰ (Taken sender message) rs
  pub made : c.made ≡ []
  pub used : c.used ≡ length (journal_bytes rs)

-- the calls beside the records, the latest first in both
abbrev pub Follows : Plan → Party → List Counted → List Record → Type 0
Follows plan p [] rs = rs ≡ []
Follows plan p (c ∷ cs) rs = (Repeats c rs × Follows plan p cs rs) ⊎ ((older : List Record) × Wrote plan p c rs older × Follows plan p cs older)

-- ---- a cut

drop_none : (rs : List Record) (d : ℕ) → rs ≡ [] → drop d rs ≡ []
drop_none rs zero e = e
drop_none rs (suc d) e = ap (drop (suc d)) e

-- the records that a cut leaves are those of the calls that still count
pub cut_follows : (plan : Plan) (p : Party) (k : ℕ) (cs : List Counted) (rs : List Record) → Follows plan p cs rs → (d : ℕ) → length (journal_bytes (drop d rs)) ≤ k
    → ((e : ℕ) → length (journal_bytes (drop e rs)) ≤ k → d ≤ e) → Follows plan p (kept_calls k cs) (drop d rs)
unfolding kept_calls
cut_follows plan p k [] rs w d l m = drop_none rs d w
cut_follows plan p k (c ∷ cs) rs (inl (x, w)) d l m = go (leb c.used k) refl d (m 0) (cut_follows plan p k cs rs w d l m)
  where
    go : (b : Bool) → leb c.used k ≡ b → (d : ℕ) → (length (journal_bytes rs) ≤ k → d ≤ 0) → Follows plan p (kept_calls k cs) (drop d rs)
        → Follows plan p (pick b (c ∷ kept_calls k cs) (kept_calls k cs)) (drop d rs)
    go true e zero n ih = inl (x, ih)
    go true e (suc d) n ih = let l = leb-true c.used k e in absurd (let z : suc d ≤ 0 = n (omega (arith, x.used)) in omega arith)
    go false e d n ih = ih
cut_follows plan p k (c ∷ cs) rs (inr (older, x, w)) d l m = go (leb c.used k) refl d l m (cut_follows plan p k cs older w)
  where
    size : length (journal_bytes rs) ≡ length (journal_bytes (x.newest ∷ older))
    size = ap (λ (ts : List Record). length (journal_bytes ts)) x.records

    go : (b : Bool) → leb c.used k ≡ b → (d : ℕ) → length (journal_bytes (drop d rs)) ≤ k → ((e : ℕ) → length (journal_bytes (drop e rs)) ≤ k → d ≤ e)
        → ((d : ℕ) → length (journal_bytes (drop d older)) ≤ k → ((e : ℕ) → length (journal_bytes (drop e older)) ≤ k → d ≤ e) → Follows plan p (kept_calls k cs) (drop d older))
        → Follows plan p (pick b (c ∷ kept_calls k cs) (kept_calls k cs)) (drop d rs)
    go true e zero l m ih =
        let t = leb-true c.used k e in
        inr (older, x, ih 0 (omega (arith, x.used, size, journal_length x.newest older)) (λ y n. omega arith))
    go true e (suc d) l m ih = let t = leb-true c.used k e in absurd (let z : suc d ≤ 0 = m 0 (omega (arith, x.used)) in omega arith)
    go false e zero l m ih = let t = leb-false c.used k e in absurd (omega (arith, x.used))
    go false e (suc d) l m ih =
        subst (λ (ts : List Record). Follows plan p (kept_calls k cs) (drop (suc d) ts)) (sym x.records)
        (ih d (subst (λ (ts : List Record). length (journal_bytes (drop (suc d) ts)) ≤ k) x.records l)
        (λ y n.
        let z : suc d ≤ suc y = m (suc y) (subst (λ (ts : List Record). length (journal_bytes (drop (suc y) ts)) ≤ k) (sym x.records) n) in
        omega arith))

-- ---- what the calls and the records tell of each other

module _ (plan : Plan) (p : Party) where
  -- a call that counts has its record
  pub record_of : (cs : List Counted) (rs : List Record) → Follows plan p cs rs → (c : Counted) → Memᴰ c cs → (r : Record) × Memᴰ r rs × Says plan c.act r
  record_of [] rs w c m = absurd (Memᴰ.not-nil m)
  record_of (d ∷ cs) rs (inl (x, w)) c m = go (record_of cs rs w c) (Memᴰ.cases_cons m)
    where
      go : (Memᴰ c cs → (r : Record) × Memᴰ r rs × Says plan c.act r) → (c ≡ d) ⊎ Memᴰ c cs → (r : Record) × Memᴰ r rs × Says plan c.act r
      go ih (inl e) = (
        Taken x.sender x.message,
        x.held,
        subst (λ (y : Act). Says plan y (Taken x.sender x.message)) (sym x.act ∙ ap (λ (y : Counted). y.act) (sym e)) (x.message, refl, refl),
      )
      go ih (inr n) = ih n
  record_of (d ∷ cs) rs (inr (older, x, w)) c m = go (record_of cs older w c) (Memᴰ.cases_cons m)
    where
      go : (Memᴰ c cs → (r : Record) × Memᴰ r older × Says plan c.act r) → (c ≡ d) ⊎ Memᴰ c cs → (r : Record) × Memᴰ r rs × Says plan c.act r
      go ih (inl e) = (
        x.newest,
        subst (λ (ts : List Record). Memᴰ x.newest ts) (sym x.records) (Memᴰ.head refl),
        subst (λ (y : Counted). Says plan y.act x.newest) (sym e) x.says,
      )
      go ih (inr n) = let y = ih n in (y.0, subst (λ (ts : List Record). Memᴰ y.0 ts) (sym x.records) (Memᴰ.tail y.1), y.2)

  -- a record was written by a call that counts
  pub call_of : (cs : List Counted) (rs : List Record) → Follows plan p cs rs → (r : Record) → Memᴰ r rs → (c : Counted) × Memᴰ c cs × Says plan c.act r
  call_of [] rs w r m = absurd (Memᴰ.not-nil (subst (λ (ts : List Record). Memᴰ r ts) w m))
  call_of (d ∷ cs) rs (inl (x, w)) r m = let y = call_of cs rs w r m in (y.0, Memᴰ.tail y.1, y.2)
  call_of (d ∷ cs) rs (inr (older, x, w)) r m =
      go (call_of cs older w r) (Memᴰ.cases_cons (subst (λ (ts : List Record). Memᴰ r ts) x.records m))
    where
      go : (Memᴰ r older → (c : Counted) × Memᴰ c cs × Says plan c.act r) → (r ≡ x.newest) ⊎ Memᴰ r older
          → (c : Counted) × Memᴰ c (d ∷ cs) × Says plan c.act r
      go ih (inl e) = (d, Memᴰ.head refl, subst (Says plan d.act) (sym e) x.says)
      go ih (inr n) = let y = ih n in (y.0, Memᴰ.tail y.1, y.2)

  -- what the calls made is what the records' calls make
  pub made_along_lem : (cs : List Counted) (rs : List Record) → Follows plan p cs rs → (c : Counted) → Memᴰ c cs → (m : Message) → Memᴰ m c.made
      → Memᴰ m (made_along p rs)
  unfolding lived
  made_along_lem [] rs w c k m n = absurd (Memᴰ.not-nil k)
  made_along_lem (d ∷ cs) rs (inl (x, w)) c k m n = go (made_along_lem cs rs w c) (Memᴰ.cases_cons k)
    where
      go : (Memᴰ c cs → (m : Message) → Memᴰ m c.made → Memᴰ m (made_along p rs)) → (c ≡ d) ⊎ Memᴰ c cs → Memᴰ m (made_along p rs)
      go ih (inl e) = absurd (Memᴰ.not-nil (subst (λ (l : List Message). Memᴰ m l) (ap (λ (y : Counted). y.made) e ∙ x.made) n))
      go ih (inr y) = ih y m n
  made_along_lem (d ∷ cs) rs (inr (older, x, w)) c k m n = go (made_along_lem cs older w c) (Memᴰ.cases_cons k)
    where
      go : (Memᴰ c cs → (m : Message) → Memᴰ m c.made → Memᴰ m (made_along p older)) → (c ≡ d) ⊎ Memᴰ c cs → Memᴰ m (made_along p rs)
      go ih (inl e) =
          subst (λ (ts : List Record). Memᴰ m (made_along p ts)) (sym x.records)
          (Memᴰ.append_right (made_along p older) (subst (λ (l : List Message). Memᴰ m l) (ap (λ (y : Counted). y.made) e ∙ x.made) n))
      go ih (inr y) =
          subst (λ (ts : List Record). Memᴰ m (made_along p ts)) (sym x.records)
          (Memᴰ.append_left (replayed (lived p older).party x.newest).made (ih y m n))

  pub made_by : (cs : List Counted) (rs : List Record) → Follows plan p cs rs → (m : Message) → Memᴰ m (made_along p rs)
      → (c : Counted) × Memᴰ c cs × Memᴰ m c.made
  unfolding lived
  made_by [] rs w m k = absurd (Memᴰ.not-nil (subst (λ (ts : List Record). Memᴰ m (made_along p ts)) w k))
  made_by (d ∷ cs) rs (inl (x, w)) m k = let y = made_by cs rs w m k in (y.0, Memᴰ.tail y.1, y.2)
  made_by (d ∷ cs) rs (inr (older, x, w)) m k =
      go (made_by cs older w m) (Memᴰ.append_cases (made_along p older) (subst (λ (ts : List Record). Memᴰ m (made_along p ts)) x.records k))
    where
      go : (Memᴰ m (made_along p older) → (c : Counted) × Memᴰ c cs × Memᴰ m c.made)
          → Memᴰ m (made_along p older) ⊎ Memᴰ m (replayed (lived p older).party x.newest).made
          → (c : Counted) × Memᴰ c (d ∷ cs) × Memᴰ m c.made
      go ih (inl n) = let y = ih n in (y.0, Memᴰ.tail y.1, y.2)
      go ih (inr n) = (d, Memᴰ.head refl, subst (λ (l : List Message). Memᴰ m l) (sym x.made) n)

  -- ---- by what they were

  abbrev is_start : Record → Bool
  is_start (Start a x) = true
  is_start (Taken s m) = false

  -- a record of a start is a start's
  pub says_start : (a : Act) (b x : ℕ) → Says plan a (Start b x) → (input : StartInput) × (a ≡ a_start x input) × (position_of plan (voted_input input) ≡ x) × (x ≡ no_output → ⊥)
  says_start (a_start y input) b x (c, e, at, on) =
      let i : y ≡ x = cc in
      (input, ap (λ (k : ℕ). a_start k input) i, at ∙ i, λ n. on (i ∙ n))
  says_start (a_take s e) b x (m, i, j) = absurd (subst (λ (r : Record). T (not (is_start r))) j tt)

  -- a record of a message taken is that take's
  pub says_take : (a : Act) (s : ℕ) (m : Message) → Says plan a (Taken s m) → a ≡ a_take s (Ok m)
  says_take (a_start y input) s m (c, e, at, on) = absurd (subst (λ (r : Record). T (is_start r)) e tt)
  says_take (a_take t e) s m (n, i, j) =
      let k : t ≡ s = cc in
      let l : n ≡ m = cc in
      (λ z. a_take (k z) (i z)) ∙ ap (λ (y : Message). a_take s (Ok y)) l
