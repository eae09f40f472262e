-- The results (rules 5 to 8): every one comes from sound first results.
use mathlib.Core.Path.{◌≡◌, refl, sym, ◌∙◌, subst}
use mathlib.Core.Bool.{Bool, true, false}
use Prim.Native.Nat.{ℕ, ◌≤◌, ◌<◌}
use native.Mathlib.Omega.{arith}
use Rattle.base.specs.Sets.{count}
use Rattle.message.specs.declared.Body.TheVariants.{SecondEcho, SecondProposal}
use Rattle.message.specs.Message.{none_value}
use Rattle.graded_consensus.specs.Inner.{Setting, Sound, Fair, View, Justified, Origin, ByProposals}
use Rattle.graded_consensus.proofs.Sounds.{sender_of}
use Rattle.graded_consensus.proofs.First.{SoundPort, Differ, first_agree, first_port, first_none_differ}

module _ {G : Setting} (F : Fair G) {B : View} (J : Justified G B) where
  -- t+1 second echoes name a sound first result
  pub echoes_origin : (i w : ℕ) → Sound G i → G.t < count G.n (B.heard i (SecondEcho w)) → Origin G B w
  echoes_origin i w s l = let r = sender_of F J i (SecondEcho w) s l in J.second_echo_lem r.0 w r.1 r.2

  -- so does a result by n-t second proposals
  pub by_proposals_origin : (i : ℕ) → Sound G i → ByProposals G B i → Origin G B (B.result i)
  by_proposals_origin i s l =
      let r = sender_of F J i (SecondProposal (B.result i)) s (omega (arith, F.third, l)) in
      echoes_origin r.0 (B.result i) r.1 (omega (arith, (J.second_proposal_lem r.0 (B.result i) r.1 r.2).1))

  -- and every sound result of a value
  pub result_origin : (i : ℕ) → Sound G i → B.result i ≤ G.d → Origin G B (B.result i)
  result_origin i s l = go (B.sure i) refl
    where
      go : (b : Bool) → B.sure i ≡ b → Origin G B (B.result i)
      go true e = by_proposals_origin i s (J.result_sure i s l e)
      go false e = echoes_origin i (B.result i) s (J.result_unsure i s l e).1

  -- two values that are sound first results are equal
  pub origin_agree : (v w : ℕ) → v ≤ G.d → w ≤ G.d → Origin G B v → Origin G B w → v ≡ w
  origin_agree v w lv lw x y =
      sym x.2 ∙ first_agree F J x.0 y.0 x.1 y.1 (omega (arith, x.2)) (omega (arith, y.2)) ∙ y.2

  -- and are a sound port
  pub origin_port : (v : ℕ) → v ≤ G.d → Origin G B v → SoundPort G B v
  origin_port v l x = subst (SoundPort G B) x.2 (first_port F J x.0 x.1 (omega (arith, x.2)))

  -- none as a sound first result means that sound ports differ
  pub origin_none_differ : Origin G B none_value → Differ G B
  origin_none_differ x = first_none_differ F J x.0 x.1 x.2
