-- Once no rule applies and everything is taken, every sound board has a result.
use mathlib.Core.Path.{◌≡◌, refl, sym, ◌∙◌, subst}
use mathlib.Core.Logic.{inl, inr}
use mathlib.Core.Bool.{not}
use Prim.Native.Nat.{ℕ, ◌*◌, ◌≤◌, ◌<◌}
use native.Mathlib.Decide.{dec_lt, ℕ_discrete}
use native.Mathlib.Omega.{arith}
use lib.Dec.{T, eqb, eqb→eq}
use Rattle.base.specs.Sets.{Set, count}
use Rattle.base.proofs.Bools.{T_and, T-right}
use Rattle.base.proofs.Counts.{count_not, count_split}
use Rattle.message.specs.declared.Body.TheVariants.{SecondEcho, SecondProposal}
use Rattle.message.specs.Message.{none_value}
use Rattle.level.specs.Level.{not_yet}
use Rattle.graded_consensus.specs.Inner.{Setting, Sound, Fair, View, Justified, Settled, Value}
use Rattle.graded_consensus.proofs.Tests.{same, differs}
use Rattle.graded_consensus.proofs.Sounds.{sounds, sound_of, all_reach, sounds_reach, part_reach}
use Rattle.graded_consensus.proofs.First.{first_agree}
use Rattle.graded_consensus.proofs.Second.{echoes_origin, origin_agree}
use Rattle.graded_consensus.proofs.FirstLive.{first_live}

-- boards with first result w
abbrev came : View → ℕ → Set
came B w j = eqb (B.first j) w

module _ {G : Setting} (F : Fair G) {B : View} (J : Justified G B) (S : Settled G B) (within : (i : ℕ) → Sound G i → B.Entered i) where
  -- everyone has a first result
  begun : (i : ℕ) → Sound G i → B.first i ≡ not_yet → ⊥
  begun i s = first_live F J S within i s

  module _ (i : ℕ) (s : Sound G i) (open' : B.result i ≡ not_yet) where
    -- not both none and a value are echoed by t+1: rule 8 would apply
    not_both : (v : ℕ) → v ≤ G.d → G.t < count G.n (B.heard i (SecondEcho none_value)) → G.t < count G.n (B.heard i (SecondEcho v)) → ⊥
    not_both v l p q =
        S.rule8' i v s (within i s) (begun i s) l p q (λ w m r. origin_agree F J w v m l (echoes_origin F J i w s r) (echoes_origin F J i v s q)) open'

    -- suppose that w is the first result of t+1 sound boards
    module _ (w : ℕ) (val : Value G w) (held : G.t < count G.n (sounds G (came B w))) where
      -- everyone counts t+1 second echoes of w
      loud : (j : ℕ) → Sound G j → G.t < count G.n (B.heard j (SecondEcho w))
      loud j sj = omega (
        arith,
        held,
        sounds_reach F (came B w) (B.heard j (SecondEcho w)) (λ k sk p.
            S.taken j k (SecondEcho w) sj sk
            (subst (λ (x : ℕ). B.Sent k (SecondEcho x)) (eqb→eq (B.first k) w p) (S.rule5 k sk (within k sk) (begun k sk)))),
      )

      -- so everyone echoes w and has proposed
      proposed : (j : ℕ) → Sound G j → (p : ℕ) × B.Sent j (SecondProposal p)
      proposed j sj = S.rule7 j w sj (within j sj) (begun j sj) val (omega (
        arith,
        F.third,
        all_reach F (B.heard j (SecondEcho w)) (λ k sk.
            S.taken j k (SecondEcho w) sj sk (S.rule6 k w sk (within k sk) (begun k sk) val (loud k sk))),
      ))

      -- no sound board proposed another value
      no_stray : (j p : ℕ) → Sound G j → B.Sent j (SecondProposal p) → (w ≡ p → ⊥) → ⊥
      no_stray j p sj h ne = go val x.0
        where
          x : Value G p × (2 * G.t < count G.n (B.heard j (SecondEcho p)))
          x = J.second_proposal_lem j p sj h

          loud_p : G.t < count G.n (B.heard i (SecondEcho p))
          loud_p = omega (
            arith,
            x.1,
            part_reach F (B.heard j (SecondEcho p)) (B.heard i (SecondEcho p)) (λ k sk q.
                S.taken i k (SecondEcho p) s sk (J.wire j k (SecondEcho p) sj sk q)),
          )

          Loud : ℕ → Type 0
          Loud u = G.t < count G.n (B.heard i (SecondEcho u))

          go : Value G w → Value G p → ⊥
          go (inl a) (inl b) = ne (origin_agree F J w p a b (echoes_origin F J i w s (loud i s)) (echoes_origin F J i p s loud_p))
          go (inl a) (inr b) = not_both w a (subst Loud b loud_p) (loud i s)
          go (inr a) (inl b) = not_both p b (subst Loud a (loud i s)) loud_p
          go (inr a) (inr b) = ne (a ∙ sym b)

      -- so all proposed w, and rule 8 would apply: no w is the first result of t+1 sound boards
      not_held : ⊥
      not_held = S.rule8 i w s (within i s) (begun i s) val (all_reach F (B.heard i (SecondProposal w)) (λ j sj. at j sj (proposed j sj))) open'
        where
          at : (j : ℕ) → Sound G j → (p : ℕ) × B.Sent j (SecondProposal p) → T (B.heard i (SecondProposal w) j)
          at j sj p = go (ℕ_discrete w p.0)
            where
              go : Dec (w ≡ p.0) → T (B.heard i (SecondProposal w) j)
              go (yes e) = S.taken i j (SecondProposal w) s sj (subst (λ (x : ℕ). B.Sent j (SecondProposal x)) (sym e) p.1)
              go (no e) = absurd (no_stray j p.0 sj p.1 e)

  -- a sound first result other than none is a value
  valued : (j : ℕ) → Sound G j → T (not (came B none_value j)) → B.first j ≤ G.d
  valued j s p = go (J.first_value j s (begun j s))
    where
      go : Value G (B.first j) → B.first j ≤ G.d
      go (inl l) = l
      go (inr e) = absurd (differs (B.first j) none_value p e)

  -- every sound board has a result: none, or else one value, is the first result of t+1 sound boards
  pub result_live : (i : ℕ) → Sound G i → B.result i ≡ not_yet → ⊥
  result_live i s e = go (dec_lt G.t (count G.n (sounds G (came B none_value))))
    where
      rest : Set
      rest j = not (came B none_value j)

      go : Dec (G.t < count G.n (sounds G (came B none_value))) → ⊥
      go (yes h) = not_held i s e none_value (inr refl) h
      go (no h) =
          let many : G.t < count G.n (sounds G rest) =
          omega (arith, F.third, F.few, h, count_not G.n G.bad, count_split G.n (λ j. not (G.bad j)) (came B none_value)) in
          let r = sound_of F (sounds G rest) many in
          let l = valued r.0 r.1 (T-right (not (G.bad r.0)) (rest r.0) r.2) in
          not_held i s e (B.first r.0) (inl l)
          (omega (
            arith,
            many,
            sounds_reach F rest (sounds G (came B (B.first r.0))) (λ j sj p.
                T_and (not (G.bad j)) (came B (B.first r.0) j) sj.1 (same (B.first j) (B.first r.0) (first_agree F J j r.0 sj r.1 (valued j sj p) l))),
          ))
