-- The first results (rules 1 to 4): values agree and are sound ports; none means that sound ports differ.
use mathlib.Core.Path.{◌≡◌, sym, ap, ◌∙◌}
use mathlib.Core.Logic.{◌⊎◌, inl, inr}
use mathlib.Core.Bool.{Bool, not, ◌&&◌}
use Prim.Native.Nat.{ℕ, suc, ◌≤◌, ◌<◌}
use native.Mathlib.Omega.{arith}
use lib.Dec.{T, eqb, eqb→eq}
use Rattle.base.specs.Sets.{count}
use Rattle.base.proofs.Bools.{T-left, T-right, or_split}
use Rattle.base.proofs.Any.{below_some}
use Rattle.message.specs.declared.Body.TheVariants.{FirstEcho, FirstProposal}
use Rattle.message.specs.Message.{none_value}
use Rattle.graded_consensus.specs.Inner.{Setting, Sound, Fair, View, Justified, echoers, others, digit_side}
use Rattle.graded_consensus.proofs.Tests.{differs}
use Rattle.graded_consensus.proofs.Digits.{digit}
use Rattle.graded_consensus.proofs.Sounds.{sound_of, sender_of, sender_of_both}

-- v is the port of a sound board that is in
abbrev pub SoundPort : Setting → View → ℕ → Type 0
SoundPort G B v = (j : ℕ) × Sound G j × B.Entered j × (B.port j ≡ v)

-- the ports of two sound boards that are in differ
abbrev pub Differ : Setting → View → Type 0
Differ G B = (j k : ℕ) × Sound G j × Sound G k × B.Entered j × B.Entered k × (B.port j ≡ B.port k → ⊥)

module _ {G : Setting} (F : Fair G) {B : View} (J : Justified G B) where
  -- sound first results other than none are equal
  pub first_agree : (i j : ℕ) → Sound G i → Sound G j → B.first i ≤ G.d → B.first j ≤ G.d → B.first i ≡ B.first j
  first_agree i j si sj li lj =
      let r = sender_of_both F J i j (FirstProposal (B.first i)) (FirstProposal (B.first j)) si sj (J.first_by_proposals i si li) (J.first_by_proposals j sj lj) in
      J.proposal_once r.0 (B.first i) (B.first j) r.1 r.2 r.3

  -- a sound board that echoes a value has it as its port
  echo_port : (j v : ℕ) → Sound G j → v ≤ G.d → B.Sent j (FirstEcho v) → B.Entered j × (B.port j ≡ v)
  echo_port j v s l h = (J.sender_in j (FirstEcho v) s h, go (J.first_echo_lem j v s h))
    where
      go : (v ≡ B.port j) ⊎ ((v ≡ none_value) × (G.t < count G.n (others G B j))) → B.port j ≡ v
      go (inl e) = sym e
      go (inr e) = absurd (omega (arith, F.values, e.0))

  -- a sound first proposal is a sound port
  pub proposal_port : (i v : ℕ) → Sound G i → B.Sent i (FirstProposal v) → SoundPort G B v
  proposal_port i v s h =
      let p = J.proposal i v s h in
      let r = sender_of F J i (FirstEcho v) s p.1 in
      let e = echo_port r.0 v r.1 p.0 r.2 in
      (r.0, r.1, e.0, e.1)

  -- a sound first result other than none is a sound port
  pub first_port : (i : ℕ) → Sound G i → B.first i ≤ G.d → SoundPort G B (B.first i)
  first_port i s l =
      let r = sender_of F J i (FirstProposal (B.first i)) s (omega (arith, F.third, J.first_by_proposals i s l)) in
      proposal_port r.0 (B.first i) r.1 r.2

  -- a sound board among the echoers has a port that passes
  echoer_port : (i j : ℕ) (f : ℕ → Bool) → Sound G i → Sound G j → T (echoers G B i f j) → B.Entered j × T (f (B.port j))
  echoer_port i j f si sj h =
      let x = below_some (suc G.d) (λ v. f v && B.heard i (FirstEcho v) j) h in
      let e = echo_port j x.0 sj (omega (arith, x.1)) (J.wire i j (FirstEcho x.0) si sj (T-right (f x.0) (B.heard i (FirstEcho x.0) j) x.2)) in
      (e.0, rw e.1 (T-left (f x.0) (B.heard i (FirstEcho x.0) j) x.2))

  -- a sound first echo of none means that sound ports differ
  pub echo_none_differ : (i : ℕ) → Sound G i → B.Sent i (FirstEcho none_value) → Differ G B
  echo_none_differ i s h = go (J.first_echo_lem i none_value s h)
    where
      here : B.Entered i
      here = J.sender_in i (FirstEcho none_value) s h

      go : (none_value ≡ B.port i) ⊎ ((none_value ≡ none_value) × (G.t < count G.n (others G B i))) → Differ G B
      go (inl e) = absurd (omega (arith, F.values, J.port_low i s here, e))
      go (inr e) =
          let r = sound_of F (others G B i) e.1 in
          let p = echoer_port i r.0 (λ v. not (eqb v (B.port i))) s r.1 r.2 in
          (i, r.0, s, r.1, here, p.0, λ q. differs (B.port r.0) (B.port i) p.1 (sym q))

  -- a sound sender on one side of a digit: it echoed none, or its port has that digit
  side_port : (i k b : ℕ) → Sound G i → G.t < count G.n (digit_side G B i k b)
      → Differ G B ⊎ ((j : ℕ) × Sound G j × B.Entered j × (digit k (B.port j) ≡ b))
  side_port i k b s l = go (or_split (echoers G B i (λ v. eqb (digit k v) b) r.0) (B.heard i (FirstEcho none_value) r.0) r.2)
    where
      r : (j : ℕ) × Sound G j × T (digit_side G B i k b j)
      r = sound_of F (digit_side G B i k b) l

      go : T (echoers G B i (λ v. eqb (digit k v) b) r.0) ⊎ T (B.heard i (FirstEcho none_value) r.0)
          → Differ G B ⊎ ((j : ℕ) × Sound G j × B.Entered j × (digit k (B.port j) ≡ b))
      go (inl h) =
          let p = echoer_port i r.0 (λ v. eqb (digit k v) b) s r.1 h in
          inr (r.0, r.1, p.0, eqb→eq (digit k (B.port r.0)) b p.1)
      go (inr h) = inl (echo_none_differ r.0 r.1 (J.wire i r.0 (FirstEcho none_value) s r.1 h))

  -- a first result of none means that sound ports differ
  pub first_none_differ : (i : ℕ) → Sound G i → B.first i ≡ none_value → Differ G B
  first_none_differ i s e = let x = J.first_by_split i s e in go x.0 (side_port i x.0 0 s x.2) (side_port i x.0 1 s x.3)
    where
      On : ℕ → ℕ → Type 0
      On k b = (j : ℕ) × Sound G j × B.Entered j × (digit k (B.port j) ≡ b)

      go : (k : ℕ) → Differ G B ⊎ On k 0 → Differ G B ⊎ On k 1 → Differ G B
      go k (inl x) y = x
      go k (inr x) (inl y) = y
      go k (inr x) (inr y) =
          (x.0, y.0, x.1, y.1, x.2, y.2, λ q. let z : ◌≡◌ {A = ℕ} 0 1 = sym x.3 ∙ ap (digit k) q ∙ y.3 in omega arith)
