-- Once no rule applies and everything is taken, every sound board has a first result.
use mathlib.Core.Path.{◌≡◌, sym, ◌∙◌, subst}
use mathlib.Core.Logic.{◌⊎◌, inl, inr}
use mathlib.Core.Bool.{not, ◌&&◌}
use Prim.Native.Nat.{ℕ, suc, ◌^◌, ◌≤◌, ◌<◌}
use native.Mathlib.Decide.{dec_lt, ℕ_discrete}
use native.Mathlib.Omega.{arith}
use lib.Dec.{T, eqb, eqb→eq, eqb_refl}
use Rattle.base.specs.Sets.{Set, count}
use Rattle.base.proofs.Any.{some_below}
use Rattle.base.proofs.Bools.{T_and, or_split, or_left, or_right}
use Rattle.base.proofs.Counts.{count_not, count_split}
use Rattle.message.specs.declared.Body.TheVariants.{FirstEcho, FirstProposal}
use Rattle.message.specs.Message.{none_value}
use Rattle.level.specs.Level.{not_yet}
use Rattle.graded_consensus.specs.Inner.{Setting, Sound, Fair, View, Justified, Settled, echoers, others, or_none, digit_side}
use Rattle.graded_consensus.proofs.Tests.{same, differs, not_same}
use Rattle.graded_consensus.proofs.Digits.{digit, digits_differ, both_digits}
use Rattle.graded_consensus.proofs.Sounds.{sounds, all_reach, sounds_reach, part_reach}
use Rattle.graded_consensus.proofs.First.{echo_none_differ}

-- boards with port v
abbrev ported : View → ℕ → Set
ported B v j = eqb (B.port j) v

module _ {G : Setting} (F : Fair G) {B : View} (J : Justified G B) (S : Settled G B) (within : (i : ℕ) → Sound G i → B.Entered i) where
  -- everyone has heard a sound board's port
  hears_port : (i j : ℕ) → Sound G i → Sound G j → T (B.heard i (FirstEcho (B.port j)) j)
  hears_port i j si sj = S.taken i j (FirstEcho (B.port j)) si sj (S.rule1 j sj (within j sj))

  -- so everyone has heard v from the sound boards with port v
  hears_ported : (i j v : ℕ) → Sound G i → Sound G j → T (ported B v j) → T (B.heard i (FirstEcho v) j)
  hears_ported i j v si sj p = subst (λ (x : ℕ). T (B.heard i (FirstEcho x) j)) (eqb→eq (B.port j) v p) (hears_port i j si sj)

  -- t+1 sound boards with other ports than i's make i echo none
  none_by : (i : ℕ) (f : Set) → Sound G i → G.t < count G.n (sounds G f) → ((j : ℕ) → T (f j) → B.port j ≡ B.port i → ⊥)
      → B.Sent i (FirstEcho none_value)
  none_by i f s l d = S.rule2 i s (within i s) (omega (arith, sounds_reach F f (others G B i) counted))
    where
      counted : (j : ℕ) → Sound G j → T (f j) → T (others G B i j)
      counted j sj p = some_below (suc G.d) (λ v. not (eqb v (B.port i)) && B.heard i (FirstEcho v) j) (B.port j)
          (omega (arith, J.port_low j sj (within j sj)))
          (T_and (not (eqb (B.port j) (B.port i))) (B.heard i (FirstEcho (B.port j)) j) (not_same (B.port j) (B.port i) (d j p)) (hears_port i j s sj))

  module _ (i : ℕ) (s : Sound G i) (open' : B.first i ≡ not_yet) where
    -- not all sound boards have echoed none: two ports would differ, and everyone stand on both sides of their digit
    not_all_none : ((j : ℕ) → Sound G j → B.Sent j (FirstEcho none_value)) → ⊥
    not_all_none h =
        let x = echo_none_differ F J i s (h i s) in
        let k = digits_differ G.K (B.port x.0) (B.port x.1) (small x.0 x.2) (small x.1 x.3) x.6 in
        S.rule4' i k.0 s (within i s) k.1 (full k.0 0) (full k.0 1) open'
      where
        small : (j : ℕ) → Sound G j → B.port j < 2 ^ G.K
        small j sj = omega (arith, F.bits, J.port_low j sj (within j sj))

        full : (k b : ℕ) → G.t < count G.n (digit_side G B i k b)
        full k b = omega (
          arith,
          F.third,
          all_reach F (digit_side G B i k b) (λ j sj.
              or_right (echoers G B i (λ v. eqb (digit k v) b) j) (B.heard i (FirstEcho none_value) j) (S.taken i j (FirstEcho none_value) s sj (h j sj))),
        )

    -- suppose that v is the port of t+1 sound boards
    module _ (v : ℕ) (low : v ≤ G.d) (held : G.t < count G.n (sounds G (ported B v))) where
      -- every sound board counts t+1 senders of v
      echoed : (j : ℕ) → Sound G j → G.t < count G.n (B.heard j (FirstEcho v))
      echoed j sj = omega (arith, held, sounds_reach F (ported B v) (B.heard j (FirstEcho v)) (λ k sk p. hears_ported j k v sj sk p))

      -- and every sound board as a sender of v or none
      spoke : (j k : ℕ) → Sound G j → Sound G k → T (or_none B j v k)
      spoke j k sj sk = go (ℕ_discrete (B.port k) v)
        where
          go : Dec (B.port k ≡ v) → T (or_none B j v k)
          go (yes e) = or_left (B.heard j (FirstEcho v) k) (B.heard j (FirstEcho none_value) k) (hears_ported j k v sj sk (same (B.port k) v e))
          go (no e) =
              or_right (B.heard j (FirstEcho v) k) (B.heard j (FirstEcho none_value) k)
              (S.taken j k (FirstEcho none_value) sj sk (none_by k (ported B v) sk held (λ m p q. e (sym q ∙ eqb→eq (B.port m) v p))))

      -- so it has proposed
      proposed : (j : ℕ) → Sound G j → (w : ℕ) × B.Sent j (FirstProposal w)
      proposed j sj = S.rule3 j v sj (within j sj) low (echoed j sj) (omega (arith, F.third, all_reach F (or_none B j v) (λ k sk. spoke j k sj sk)))

      -- a sender of u stands on the side of u's digit
      on_side_lem : (k u j : ℕ) → u ≤ G.d → T (B.heard i (FirstEcho u) j) → T (digit_side G B i k (digit k u) j)
      on_side_lem k u j l h =
          or_left (echoers G B i (λ x. eqb (digit k x) (digit k u)) j) (B.heard i (FirstEcho none_value) j)
          (some_below (suc G.d) (λ x. eqb (digit k x) (digit k u) && B.heard i (FirstEcho x) j) u (omega arith)
          (T_and (eqb (digit k u) (digit k u)) (B.heard i (FirstEcho u) j) (eqb_refl (digit k u)) h))

      -- no sound board proposed another value: both sides of some digit would be full
      no_stray : (j w : ℕ) → Sound G j → B.Sent j (FirstProposal w) → (v ≡ w → ⊥) → ⊥
      no_stray j w sj h ne =
          let x = J.proposal j w sj h in
          let k = digits_differ G.K v w (omega (arith, F.bits)) (omega (arith, F.bits, x.0)) ne in
          let one : G.t < count G.n (digit_side G B i k.0 (digit k.0 v)) =
          omega (arith, held, sounds_reach F (ported B v) (digit_side G B i k.0 (digit k.0 v)) (λ m sm p. on_side_lem k.0 v m low (hears_ported i m v s sm p))) in
          let two : G.t < count G.n (digit_side G B i k.0 (digit k.0 w)) =
          omega (arith, x.2, part_reach F (or_none B j w) (digit_side G B i k.0 (digit k.0 w)) (other k.0 x.0)) in
          let r = both_digits (λ b. G.t < count G.n (digit_side G B i k.0 b)) (digit k.0 v) (digit k.0 w) (omega arith) (omega arith) k.2 one two in
          S.rule4' i k.0 s (within i s) k.1 r.0 r.1 open'
        where
          other : (k : ℕ) → w ≤ G.d → (m : ℕ) → Sound G m → T (or_none B j w m) → T (digit_side G B i k (digit k w) m)
          other k l m sm p = go (or_split (B.heard j (FirstEcho w) m) (B.heard j (FirstEcho none_value) m) p)
            where
              passed : (u : ℕ) → T (B.heard j (FirstEcho u) m) → T (B.heard i (FirstEcho u) m)
              passed u q = S.taken i m (FirstEcho u) s sm (J.wire j m (FirstEcho u) sj sm q)

              go : T (B.heard j (FirstEcho w) m) ⊎ T (B.heard j (FirstEcho none_value) m) → T (digit_side G B i k (digit k w) m)
              go (inl q) = on_side_lem k w m l (passed w q)
              go (inr q) = or_right (echoers G B i (λ x. eqb (digit k x) (digit k w)) m) (B.heard i (FirstEcho none_value) m) (passed none_value q)

      -- so all proposed v, and rule 4 would apply: no value is the port of t+1 sound boards
      not_held : ⊥
      not_held = S.rule4 i v s (within i s) low (all_reach F (B.heard i (FirstProposal v)) (λ j sj. at j sj (proposed j sj))) open'
        where
          at : (j : ℕ) → Sound G j → (w : ℕ) × B.Sent j (FirstProposal w) → T (B.heard i (FirstProposal v) j)
          at j sj p = go (ℕ_discrete v p.0)
            where
              go : Dec (v ≡ p.0) → T (B.heard i (FirstProposal v) j)
              go (yes e) = S.taken i j (FirstProposal v) s sj (subst (λ (x : ℕ). B.Sent j (FirstProposal x)) (sym e) p.1)
              go (no e) = absurd (no_stray j p.0 sj p.1 e)

    -- then every sound board has seen t+1 others' ports and echoed none
    all_none : (j : ℕ) → Sound G j → B.Sent j (FirstEcho none_value)
    all_none j sj = go (dec_lt G.t (count G.n (sounds G (ported B (B.port j)))))
      where
        go : Dec (G.t < count G.n (sounds G (ported B (B.port j)))) → B.Sent j (FirstEcho none_value)
        go (yes h) = absurd (not_held (B.port j) (J.port_low j sj (within j sj)) h)
        go (no h) =
            none_by j (λ k. not (ported B (B.port j) k)) sj
            (omega (arith, F.third, F.few, h, count_not G.n G.bad, count_split G.n (λ k. not (G.bad k)) (ported B (B.port j))))
            (λ k p. differs (B.port k) (B.port j) p)

  -- every sound board has a first result
  pub first_live : (i : ℕ) → Sound G i → B.first i ≡ not_yet → ⊥
  first_live i s e = not_all_none i s e (all_none i s e)
