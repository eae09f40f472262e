-- No sound board makes a message at a level at or beyond its plan's number of sending levels.
use mathlib.Core.Path.{subst}
use Prim.Native.Nat.{ℕ, ◌<◌}
use lib.Dec.{T}
use Rattle.plan.specs.Plan.{Plan}
use Rattle.plan_levels.specs.Levels.{levels_of}
use Rattle.plan_levels.proofs.Theorem.{nested_levels}
use Rattle.party.specs.Party.{Party, sending}
use Rattle.party_laws.proofs.Laws.{Formed, sending_entered, sending_three, entered_nested}
use Rattle.party_laws.proofs.Valid.{valid→}
use Rattle.vote_machine.specs.Machine.{Sent}
use Rattle.agreement.proofs.Boards.{state_of, state_formed, state_plan, makes_state}
use Rattle.agreement.proofs.Words.{made_records}
use Rattle.agreement_levels.specs.Statement.{NoDeeper}

-- a level at which a party sends is below its plan's number
sends_above : (p : Party) → Formed p → (L : ℕ) → T (sending p L) → L < levels_of p.plan
sends_above p w L h =
    nested_levels p.plan (valid→ p w.valid).plan (entered_nested p w L (sending_entered p L h)) (sending_three p L h)

pub no_deeper : NoDeeper
no_deeper v plan bad h f a i m g made =
    let s : Sent (state_of v plan h i) m = (makes_state v plan bad f h a i g.0 m).0 ((made_records v plan bad f h a i m).0 made) in
    subst (λ (q : Plan). m.level < levels_of q) (state_plan v plan bad f h a i g.0)
    (sends_above (state_of v plan h i) (state_formed v plan bad f h a i g.0) m.level s.sends)
