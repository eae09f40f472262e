-- Messages taken keep the law: with more senders every count that was reached is reached.
use mathlib.Core.Path.{◌≡◌, sym, ◌∙◌, subst}
use mathlib.Core.Logic.{◌⊎◌, inl, inr}
use mathlib.Core.Bool.{Bool, ◌&&◌, ◌||◌}
use Prim.Native.Nat.{ℕ, ◌+◌, ◌^◌, ◌<◌}
use native.Mathlib.Omega.{arith}
use lib.Dec.{T, leb→le, le→leb, ltb→lt, lt→ltb}
use lib.ListN.{get_or, length-set}
use Rattle.base.specs.Pick.{smallest}
use Rattle.base.proofs.Bools.{T_and, T-left, T-right, or_split, or_left, or_right}
use Rattle.base.proofs.Smallest.{sought, found}
use Rattle.message.specs.Message.{none_value}
use Rattle.message.specs.declared.Body.{Body}
use Rattle.message.specs.declared.Body.TheVariants.{FirstEcho, FirstProposal, SecondEcho, SecondProposal, Side}
use Rattle.senders.specs.Senders.{is_in, with_sender, union, size, union_over}
use Rattle.senders.proofs.Laws.{in_union, with_lt, union_lt, over_lt, over_in, in_over, size_mono}
use Rattle.level.specs.declared.Context.{Context}
use Rattle.level.specs.Level.{Level, senders, slot, with_heard}
use Rattle.level.specs.Counts.{weak, strong, quorum, other_echoes, at_least, may_propose, proposed, digit_echoes, split_at, split, echoed_by, second_proposed, sided}
use Rattle.level_laws.specs.Inner.{Heard, FirstBy, ResultBy, Law, Untouched}
use Rattle.level_laws.proofs.Grows.{store_cases, grows_heard}

-- ---- bounds of the sets that are counted

pub senders_below : (n : ℕ) (l : Level) → Heard n l → (b : Body) → senders l b < 2 ^ n
unfolding senders
senders_below n l h b = h.below (slot b)

pub others_below : (c : Context) (l : Level) → Heard c.n l → other_echoes c l < 2 ^ c.n
unfolding other_echoes
others_below c l h = over_lt c.n _ _ (c.degree + 1) (λ v _. senders_below c.n l h (FirstEcho v))

pub digits_below : (c : Context) (l : Level) → Heard c.n l → (i b : ℕ) → digit_echoes c l i b < 2 ^ c.n
unfolding digit_echoes
digits_below c l h i b =
    union_lt c.n _ _ (over_lt c.n _ _ (c.degree + 1) (λ v _. senders_below c.n l h (FirstEcho v))) (senders_below c.n l h (FirstEcho none_value))

-- a message taken from a board below n
pub heard_keeps : (n : ℕ) (l : Level) (b : Body) (s : ℕ) → s < n → Heard n l → Heard n (with_heard l b s)
unfolding with_heard senders
heard_keeps n l b s k h = record {
  slots = length-set l.sets (slot b) _ ∙ h.slots;
  values = h.values;
  below = λ i. store_cases l.sets (slot b) i (with_sender (get_or l.sets (slot b) 0) s) (λ m. m < 2 ^ n) (h.below i)
      (λ _. with_lt n (get_or l.sets (slot b) 0) s (h.below (slot b)) k);
}

-- ---- more senders

-- a larger set reaches what a smaller reached
reached : (n k a b : ℕ) → a < 2 ^ n → b < 2 ^ n → ((s : ℕ) → T (is_in a s) → T (is_in b s)) → T (at_least k a) → T (at_least k b)
reached n k a b p q f h = le→leb k (size b) (let i = leb→le k (size a) h in let j = size_mono n a b p q (λ s _. f s) in omega arith)

union_more : (a b x y : ℕ) → ((s : ℕ) → T (is_in a s) → T (is_in x s)) → ((s : ℕ) → T (is_in b s) → T (is_in y s)) → (s : ℕ) → T (is_in (union a b) s) → T (is_in (union x y) s)
union_more a b x y f g s h = subst T (sym (in_union x y s)) (go (or_split (is_in a s) (is_in b s) (subst T (in_union a b s) h)))
  where
    go : T (is_in a s) ⊎ T (is_in b s) → T (is_in x s || is_in y s)
    go (inl p) = or_left (is_in x s) (is_in y s) (f s p)
    go (inr p) = or_right (is_in x s) (is_in y s) (g s p)

over_more : (p : ℕ → Bool) (f g : ℕ → ℕ) (k : ℕ) → ((v s : ℕ) → T (is_in (f v) s) → T (is_in (g v) s)) → (s : ℕ) → T (is_in (union_over p f k) s) → T (is_in (union_over p g k) s)
over_more p f g k h s q = let w = over_in p f k s q in in_over p g k s w.0 w.1 w.2 (h w.0 s w.3)

both : (a b x y : Bool) → (T a → T x) → (T b → T y) → T (a && b) → T (x && y)
both a b x y f g h = T_and x y (f (T-left a b h)) (g (T-right a b h))

-- m has every sender that l has
module _ (c : Context) (l m : Level) (p : Heard c.n l) (q : Heard c.n m) (g : (b : Body) (s : ℕ) → T (is_in (senders l b) s) → T (is_in (senders m b) s)) where
  pub more_senders : (k : ℕ) (b : Body) → T (at_least k (senders l b)) → T (at_least k (senders m b))
  more_senders k b = reached c.n k (senders l b) (senders m b) (senders_below c.n l p b) (senders_below c.n m q b) (g b)

  pub more_others : T (at_least (weak c) (other_echoes c l)) → T (at_least (weak c) (other_echoes c m))
  unfolding other_echoes
  more_others = reached c.n (weak c) _ _ (others_below c l p) (others_below c m q) (over_more _ _ _ (c.degree + 1) (λ v. g (FirstEcho v)))

  pub more_may_propose : (v : ℕ) → T (may_propose c l v) → T (may_propose c m v)
  unfolding may_propose
  more_may_propose v =
      both (at_least (weak c) (senders l (FirstEcho v))) (at_least (strong c) (or_none l)) (at_least (weak c) (senders m (FirstEcho v))) (at_least (strong c) (or_none m))
      (more_senders (weak c) (FirstEcho v))
      (reached c.n (strong c) _ _
      (union_lt c.n _ _ (senders_below c.n l p (FirstEcho v)) (senders_below c.n l p (FirstEcho none_value)))
      (union_lt c.n _ _ (senders_below c.n m q (FirstEcho v)) (senders_below c.n m q (FirstEcho none_value)))
      (union_more _ _ _ _ (g (FirstEcho v)) (g (FirstEcho none_value))))
    where
      or_none : Level → ℕ
      or_none x = union (senders x (FirstEcho v)) (senders x (FirstEcho none_value))

  pub more_proposed : (v : ℕ) → T (proposed c l v) → T (proposed c m v)
  unfolding proposed
  more_proposed v = more_senders (quorum c) (FirstProposal v)

  more_digits : (i b : ℕ) → T (at_least (weak c) (digit_echoes c l i b)) → T (at_least (weak c) (digit_echoes c m i b))
  unfolding digit_echoes
  more_digits i b =
      reached c.n (weak c) _ _ (digits_below c l p i b) (digits_below c m q i b)
      (union_more _ _ _ _ (over_more _ _ _ (c.degree + 1) (λ v. g (FirstEcho v))) (g (FirstEcho none_value)))

  pub more_split_at : (i : ℕ) → T (split_at c l i) → T (split_at c m i)
  unfolding split_at
  more_split_at i =
      both (at_least (weak c) (digit_echoes c l i 0)) (at_least (weak c) (digit_echoes c l i 1)) (at_least (weak c) (digit_echoes c m i 0))
      (at_least (weak c) (digit_echoes c m i 1)) (more_digits i 0) (more_digits i 1)

  pub more_split : T (split c l) → T (split c m)
  unfolding split
  more_split h =
      let a : smallest 4 (split_at c l) < 4 = ltb→lt (smallest 4 (split_at c l)) 4 h in
      let f = found 4 (split_at c m) (smallest 4 (split_at c l)) a (more_split_at _ ((sought 4 (split_at c l)).hit a)) in
      lt→ltb (smallest 4 (split_at c m)) 4 f.1

  pub more_echoed_by : (k w : ℕ) → T (echoed_by k l w) → T (echoed_by k m w)
  unfolding echoed_by
  more_echoed_by k w = more_senders k (SecondEcho w)

  pub more_second_proposed : (w : ℕ) → T (second_proposed c l w) → T (second_proposed c m w)
  unfolding second_proposed
  more_second_proposed w = more_senders (quorum c) (SecondProposal w)

  pub more_sided : (k : ℕ) → T (sided c l k) → T (sided c m k)
  unfolding sided
  more_sided k = more_senders (weak c) (Side k)

  more_first : (v : ℕ) → FirstBy c l v → FirstBy c m v
  more_first v (inl x) = inl (x.0, more_proposed v x.1)
  more_first v (inr x) = inr (x.0, more_split x.1)

  more_echoed : (w f : ℕ) → (w ≡ f) ⊎ T (echoed_by (weak c) l w) → (w ≡ f) ⊎ T (echoed_by (weak c) m w)
  more_echoed w f (inl x) = inl x
  more_echoed w f (inr x) = inr (more_echoed_by (weak c) w x)

  more_result : (w : ℕ) (sure : Bool) → ResultBy c l w sure → ResultBy c m w sure
  more_result w sure (inl x) = inl (x.0, x.1, more_second_proposed w x.2)
  more_result w sure (inr (inl x)) = inr (inl (x.0, x.1, more_echoed_by (weak c) none_value x.2, more_echoed_by (weak c) w x.3))
  more_result w sure (inr (inr x)) = inr (inr (x.0, x.1, more_second_proposed none_value x.2))

-- a message taken from a board below n keeps the law
pub law_heard : (c : Context) (l : Level) (b : Body) (s : ℕ) → s < c.n → Law c l → Law c (with_heard l b s)
unfolding with_heard
law_heard c l b s k h =
    let m : Level = with_heard l b s in
    let p : Heard c.n l = h.heard in
    let q : Heard c.n m = heard_keeps c.n l b s k p in
    let g : (x : Body) (j : ℕ) → T (is_in (senders l x) j) → T (is_in (senders m x) j) = (grows_heard l b s).heard in
    record {
      heard = q;
      echoed_none_lem = λ e. more_others c l m p q g (h.echoed_none_lem e);
      proposal = λ e. let x = h.proposal e in (x.0, more_may_propose c l m p q g l.proposal x.1);
      first = λ e. more_first c l m p q g l.first (h.first e);
      echoed = λ w e. let x = h.echoed w e in (x.0, x.1, more_echoed c l m p q g w l.first x.2);
      second_proposal_lem = λ e. let x = h.second_proposal_lem e in (x.0, x.1, more_echoed_by c l m p q g (strong c) l.second_proposal x.2);
      result = λ e. let x = h.result e in (x.0, more_result c l m p q g l.result l.sure x.1);
      told = h.told;
    }

-- and leaves a level untouched at which nothing was made
pub untouched_heard : (l : Level) (b : Body) (s : ℕ) → Untouched l → Untouched (with_heard l b s)
unfolding with_heard
untouched_heard l b s u = record {
  echoed_port_lem = u.echoed_port_lem;
  echoed_none_lem = u.echoed_none_lem;
  proposal = u.proposal;
  first = u.first;
  echoed = u.echoed;
  second_proposal_lem = u.second_proposal_lem;
  result = u.result;
  told = u.told;
}
