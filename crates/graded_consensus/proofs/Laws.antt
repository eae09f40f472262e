-- What the sound boards' results at one level have in common, and that each gets one.
use mathlib.Core.Path.{◌≡◌, refl, ◌∙◌}
use mathlib.Core.Logic.{◌⊎◌, inl, inr}
use mathlib.Core.Bool.{Bool, true, false}
use Prim.Native.Nat.{ℕ, ◌≤◌}
use native.Mathlib.Omega.{arith}
use Rattle.message.specs.declared.Body.TheVariants.{SecondProposal}
use Rattle.message.specs.Message.{none_value}
use Rattle.level.specs.Level.{not_yet}
use Rattle.graded_consensus.specs.Inner.{Setting, Sound, Fair, View, Justified, Settled}
use Rattle.graded_consensus.proofs.Sounds.{sender_of_both}
use Rattle.graded_consensus.proofs.First.{SoundPort, Differ}
use Rattle.graded_consensus.proofs.Second.{echoes_origin, by_proposals_origin, result_origin, origin_agree, origin_port, origin_none_differ}
use Rattle.graded_consensus.proofs.SecondLive.{result_live}

module _ {G : Setting} (F : Fair G) {B : View} (J : Justified G B) where
  -- sound results other than none are equal
  pub agree : (i j : ℕ) → Sound G i → Sound G j → B.result i ≤ G.d → B.result j ≤ G.d → B.result i ≡ B.result j
  agree i j si sj li lj = origin_agree F J (B.result i) (B.result j) li lj (result_origin F J i si li) (result_origin F J j sj lj)

  -- next to a result of none no other is of grade 2
  pub weak : (i j : ℕ) → Sound G i → Sound G j → B.result i ≤ G.d → B.result j ≡ none_value → B.sure i ≡ false
  weak i j si sj l e = go (B.sure i) refl
    where
      go : (b : Bool) → B.sure i ≡ b → B.sure i ≡ false
      go false q = q
      go true q =
          let r = sender_of_both F J i j (SecondProposal (B.result i)) (SecondProposal (B.result j)) si sj (J.result_sure i si l q) (J.result_none_lem j sj e) in
          let same : B.result i ≡ B.result j = J.second_proposal_once r.0 (B.result i) (B.result j) r.1 r.2 r.3 in
          absurd (omega (arith, F.values))

  -- a result of a value is a sound board's port
  pub port_of_lem : (i : ℕ) → Sound G i → B.result i ≤ G.d → SoundPort G B (B.result i)
  port_of_lem i s l = origin_port F J (B.result i) l (result_origin F J i s l)

  -- a result of grade 1 or of none means that sound ports differ
  pub differ : (i : ℕ) → Sound G i → ((B.result i ≤ G.d) × (B.sure i ≡ false)) ⊎ (B.result i ≡ none_value) → Differ G B
  differ i s (inl h) = origin_none_differ F J (echoes_origin F J i none_value s (J.result_unsure i s h.0 h.1).0)
  differ i s (inr e) = origin_none_differ F J (let o = by_proposals_origin F J i s (J.result_none_lem i s e) in (o.0, o.1, o.2 ∙ e))

  -- once no rule applies and everything is taken, every sound board has a result, if all have entered
  pub live : Settled G B → ((i : ℕ) → Sound G i → B.Entered i) → (i : ℕ) → Sound G i → B.result i ≡ not_yet → ⊥
  live S within = result_live F J S within
