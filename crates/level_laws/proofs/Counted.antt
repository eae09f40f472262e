-- From masks to sets: each count of a level is the number of boards from which it has heard something.
use mathlib.Core.Path.{◌≡◌, refl, ap, ap₂, ◌∙◌}
use mathlib.Core.Logic.{◌↔◌}
use mathlib.Core.Bool.{Bool, true, false, not, ◌&&◌, ◌||◌}
use Prim.Native.Nat.{ℕ, zero, suc, ◌+◌, ◌-◌, ◌*◌, ◌^◌, ◌≤◌, ◌<◌}
use native.Mathlib.Nat.{le_refl}
use native.Mathlib.Numerals.{add-one}
use native.Mathlib.Omega.{arith}
use lib.Dec.{T, leb, eqb, leb→le, le→leb, ltb→lt, lt→ltb}
use Rattle.base.specs.Pick.{pick, smallest}
use Rattle.base.specs.Sets.{Set, count}
use Rattle.base.specs.Inner.{any_below}
use Rattle.base.proofs.Any.{any_same}
use Rattle.base.proofs.Bools.{T_and, T-left, T-right}
use Rattle.base.proofs.Counts.{count_same}
use Rattle.base.proofs.Smallest.{sought, found}
use Rattle.message.specs.Message.{none_value, max_value, body_in_table}
use Rattle.message.specs.declared.Body.{Body}
use Rattle.message.specs.declared.Body.TheVariants.{FirstEcho, FirstProposal, SecondEcho, SecondProposal, Side, Centre}
use Rattle.senders.specs.Senders.{is_in, union, size, union_over}
use Rattle.senders.proofs.Laws.{in_empty, in_union, union_lt, size_count}
use Rattle.level.specs.declared.Context.{Context}
use Rattle.level.specs.Level.{Level, senders}
use Rattle.level.specs.Counts.{bit_places, weak, strong, quorum, other_echoes, at_least, may_propose, proposed, digit, digit_echoes, split_at, split, echoed_by, second_proposed, sided}
use Rattle.level_laws.specs.Inner.{Heard, heard_from}
use Rattle.level_laws.proofs.Messages.{Valued}
use Rattle.level_laws.proofs.Evidence.{senders_below, others_below, digits_below}

-- at least k senders are in the mask m
pub reached→ : (n k m : ℕ) → m < 2 ^ n → T (at_least k m) → k ≤ count n (is_in m)
reached→ n k m h p = let i = leb→le k (size m) p in omega (arith, size_count n m h)

pub →reached : (n k m : ℕ) → m < 2 ^ n → k ≤ count n (is_in m) → T (at_least k m)
→reached n k m h p = le→leb k (size m) (omega (arith, size_count n m h))

-- a mask with the same members as a set
reached_as : (n k m : ℕ) (f : Set) → m < 2 ^ n → ((s : ℕ) → is_in m s ≡ f s) → T (at_least k m) ↔ (k ≤ count n f)
reached_as n k m f h e =
    let i : count n (is_in m) ≡ count n f = count_same n (is_in m) f (λ s _. e s) in
    ((λ p. let x = reached→ n k m h p in omega arith), (λ p. →reached n k m h (omega arith)))

and_true : (a b : Bool) → T a → b ≡ a && b
and_true true b h = refl
and_true false b h = absurd h

-- a message of the table
pub heard_as : (l : Level) (b : Body) → T (body_in_table b) → (s : ℕ) → is_in (senders l b) s ≡ heard_from l b s
heard_as l b h s = and_true (body_in_table b) (is_in (senders l b) s) h

pub heard_reached : (n k : ℕ) (l : Level) (b : Body) → Heard n l → T (body_in_table b) → T (at_least k (senders l b)) ↔ (k ≤ count n (heard_from l b))
heard_reached n k l b h t = reached_as n k (senders l b) (heard_from l b) (senders_below n l h b) (heard_as l b t)

-- ---- unions over values

or_swap : (a b : Bool) → a || b ≡ b || a
or_swap true true = refl
or_swap true false = refl
or_swap false true = refl
or_swap false false = refl

over_any : (p : Set) (f : ℕ → ℕ) (k s : ℕ) → is_in (union_over p f k) s ≡ any_below k (λ v. p v && is_in (f v) s)
unfolding union_over any_below
over_any p f zero s = in_empty s
over_any p f (suc k) s = go (p k) (over_any p f k s)
  where
    go : (b : Bool) → is_in (union_over p f k) s ≡ any_below k (λ v. p v && is_in (f v) s)
        → is_in (pick b (union (union_over p f k) (f k)) (union_over p f k)) s ≡ (b && is_in (f k) s) || any_below k (λ v. p v && is_in (f v) s)
    go true e = in_union (union_over p f k) (f k) s ∙ or_swap (is_in (union_over p f k) s) (is_in (f k) s) ∙ ap (λ (x : Bool). is_in (f k) s || x) e
    go false e = e

-- senders of a first echo of none or of a value 0 to d whose digit at place i is b
abbrev pub digit_from : Context → Level → ℕ → ℕ → Set
digit_from c l i b s = any_below (suc c.degree) (λ v. eqb (digit i v) b && heard_from l (FirstEcho v) s) || heard_from l (FirstEcho none_value) s

module _ (c : Context) (l : Level) (d : Valued c) (h : Heard c.n l) where
  -- senders of a first echo of a value 0 to d that passes
  echoers : (p : Set) (s : ℕ) → is_in (union_over p (λ v. senders l (FirstEcho v)) (c.degree + 1)) s ≡ any_below (suc c.degree) (λ v. p v && heard_from l (FirstEcho v) s)
  echoers p s =
      over_any p (λ v. senders l (FirstEcho v)) (c.degree + 1) s
      ∙ ap (λ (k : ℕ). any_below k (λ v. p v && is_in (senders l (FirstEcho v)) s)) (add-one c.degree)
      ∙ any_same (suc c.degree) _ _ (λ v i. ap (λ (x : Bool). p v && x) (heard_as l (FirstEcho v) (le→leb v none_value (omega (arith, d.degree))) s))

  -- rule 2
  pub others_reached : T (at_least (weak c) (other_echoes c l))
      ↔ (c.t < count c.n (λ s. any_below (suc c.degree) (λ v. not (eqb v c.port) && heard_from l (FirstEcho v) s)))
  unfolding other_echoes
  others_reached =
      let r = reached_as c.n (weak c) (other_echoes c l) _ (others_below c l h) (echoers (λ v. not (eqb v c.port))) in
      ((λ p. let x = r.0 p in omega arith), (λ p. r.1 (omega arith)))

  -- a value 0 to d or none is in the table
  value_in : (v : ℕ) → v ≤ c.degree → v ≤ none_value
  value_in v k = omega (arith, d.degree)

  none_in : T (body_in_table (FirstEcho none_value))
  none_in = le→leb none_value none_value (le_refl none_value)

  -- rule 3
  pub propose_reached : (v : ℕ) → v ≤ c.degree
      → T (may_propose c l v)
      ↔ ((c.t < count c.n (heard_from l (FirstEcho v))) × (2 * c.t < count c.n (λ s. heard_from l (FirstEcho v) s || heard_from l (FirstEcho none_value) s)))
  unfolding may_propose
  propose_reached v k =
      let a : Bool = at_least (weak c) (senders l (FirstEcho v)) in
      let u : ℕ = union (senders l (FirstEcho v)) (senders l (FirstEcho none_value)) in
      let b : Bool = at_least (strong c) u in
      let i : T (body_in_table (FirstEcho v)) = le→leb v none_value (value_in v k) in
      let x = heard_reached c.n (weak c) l (FirstEcho v) h i in
      let y = reached_as c.n (strong c) u _
      (union_lt c.n _ _ (senders_below c.n l h (FirstEcho v)) (senders_below c.n l h (FirstEcho none_value)))
      (λ s. in_union (senders l (FirstEcho v)) (senders l (FirstEcho none_value)) s
      ∙ ap₂ ◌||◌ (heard_as l (FirstEcho v) i s) (heard_as l (FirstEcho none_value) none_in s)) in (
        (λ p. let q = x.0 (T-left a b p) in let r = y.0 (T-right a b p) in (omega arith, omega arith)),
        (λ p. T_and a b (x.1 (omega arith)) (y.1 (omega arith))),
      )

  -- rule 4: n-t first proposals
  pub proposed_reached : (v : ℕ) → v ≤ c.degree → T (proposed c l v) ↔ (c.n - c.t ≤ count c.n (heard_from l (FirstProposal v)))
  unfolding proposed
  proposed_reached v k = heard_reached c.n (quorum c) l (FirstProposal v) h (le→leb v max_value (omega (arith, d.degree)))

  -- rule 4: one digit at one place
  digit_reached : (i b : ℕ) → T (at_least (weak c) (digit_echoes c l i b)) ↔ (c.t < count c.n (digit_from c l i b))
  unfolding digit_echoes
  digit_reached i b =
      let r = reached_as c.n (weak c) (digit_echoes c l i b) _ (digits_below c l h i b)
      (λ s. in_union (union_over (λ v. eqb (digit i v) b) (λ v. senders l (FirstEcho v)) (c.degree + 1)) (senders l (FirstEcho none_value)) s
      ∙ ap₂ ◌||◌ (echoers (λ v. eqb (digit i v) b) s) (heard_as l (FirstEcho none_value) none_in s)) in
      ((λ p. let x = r.0 p in omega arith), (λ p. r.1 (omega arith)))

  -- rule 4: both digits at some place
  pub split_reached : T (split c l) ↔ ((i : ℕ) × (i < bit_places) × (c.t < count c.n (digit_from c l i 0)) × (c.t < count c.n (digit_from c l i 1)))
  unfolding split split_at
  split_reached = (
    (λ p.
        let i : ℕ = smallest bit_places (split_at c l) in
        let k : i < bit_places = ltb→lt i bit_places p in
        let q : T (split_at c l i) = (sought bit_places (split_at c l)).hit k in
        (i, k, (digit_reached i 0).0 (T-left (zeros i) (ones i) q), (digit_reached i 1).0 (T-right (zeros i) (ones i) q))),
    (λ p. let q = T_and (zeros p.0) (ones p.0) ((digit_reached p.0 0).1 p.2) ((digit_reached p.0 1).1 p.3) in
        lt→ltb (smallest bit_places (split_at c l)) bit_places (found bit_places (split_at c l) p.0 p.1 q).1),
  )
    where
      zeros : ℕ → Bool
      zeros i = at_least (weak c) (digit_echoes c l i 0)

      ones : ℕ → Bool
      ones i = at_least (weak c) (digit_echoes c l i 1)

  -- rules 6 to 8: second echoes
  pub echoed_reached : (k w : ℕ) → w ≤ none_value → T (echoed_by k l w) ↔ (k ≤ count c.n (heard_from l (SecondEcho w)))
  unfolding echoed_by
  echoed_reached k w i = heard_reached c.n k l (SecondEcho w) h (le→leb w none_value i)

  pub weak_reached : (w : ℕ) → w ≤ none_value → T (echoed_by (weak c) l w) ↔ (c.t < count c.n (heard_from l (SecondEcho w)))
  weak_reached w i =
      let r = echoed_reached (weak c) w i in
      ((λ p. let x = r.0 p in omega arith), (λ p. r.1 (omega arith)))

  pub strong_reached : (w : ℕ) → w ≤ none_value → T (echoed_by (strong c) l w) ↔ (2 * c.t < count c.n (heard_from l (SecondEcho w)))
  strong_reached w i =
      let r = echoed_reached (strong c) w i in
      ((λ p. let x = r.0 p in omega arith), (λ p. r.1 (omega arith)))

  -- rule 8: second proposals
  pub second_reached : (w : ℕ) → w ≤ none_value → T (second_proposed c l w) ↔ (c.n - c.t ≤ count c.n (heard_from l (SecondProposal w)))
  unfolding second_proposed
  second_reached w i = heard_reached c.n (quorum c) l (SecondProposal w) h (le→leb w none_value i)

  -- rule 12
  pub sided_reached : (k : ℕ) → 1 ≤ k → k ≤ c.degree → T (sided c l k) ↔ (c.t < count c.n (heard_from l (Side k)))
  unfolding sided
  sided_reached k i j =
      let r = heard_reached c.n (weak c) l (Side k) h (T_and (leb 1 k) (leb k max_value) (le→leb 1 k i) (le→leb k max_value (omega (arith, d.degree)))) in
      ((λ p. let x = r.0 p in omega arith), (λ p. r.1 (omega arith)))

  -- rule 13
  pub centre_reached : T (at_least (weak c) (senders l Centre)) ↔ (c.t < count c.n (heard_from l Centre))
  centre_reached =
      let r = heard_reached c.n (weak c) l Centre h tt in
      ((λ p. let x = r.0 p in omega arith), (λ p. r.1 (omega arith)))
