-- Demand 3 of every example: its premises hold, so what it promises does.
use mathlib.Core.Path.{refl}
use Rattle.base.specs.Limits.{max_number}
use Rattle.base.specs.Sets.{Set}
use Rattle.plan.specs.Plan.{Plan}
use Rattle.agreement.specs.History.{Instance, History}
use Rattle.agreement.specs.Demand.{Holds, Premises}
use Rattle.agreement.specs.Ranges.{HoldsOnRange}
use Rattle.agreement.proofs.Theorem.{demand3}
use Rattle.agreement.proofs.Ranges.{on_range_lem}
use Rattle.agreement_histories.specs.Scripts.{history_of}
use Rattle.agreement_histories.specs.Alone as alone
use Rattle.agreement_histories.specs.Deep as deep
use Rattle.agreement_histories.specs.Cuts as cuts
use Rattle.agreement_histories.specs.Restores as restores
use Rattle.agreement_histories.specs.Forgotten as forgotten
use Rattle.agreement_histories.specs.Liar as liar
use Rattle.agreement_histories.specs.Neighbours as neighbours
use Rattle.agreement_histories.specs.Negative as negative
use Rattle.agreement_histories.specs.Grades as grades
use Rattle.agreement_histories.specs.Modes as modes
use Rattle.agreement_histories.specs.Refusals as refusals
use Rattle.agreement_histories.proofs.Alone as alone-run
use Rattle.agreement_histories.proofs.Deep as deep-run
use Rattle.agreement_histories.proofs.Cuts as cuts-run
use Rattle.agreement_histories.proofs.Restores as restores-run
use Rattle.agreement_histories.proofs.Forgotten as forgotten-run
use Rattle.agreement_histories.proofs.Liar as liar-run
use Rattle.agreement_histories.proofs.Neighbours as neighbours-run
use Rattle.agreement_histories.proofs.Negative as negative-run
use Rattle.agreement_histories.proofs.Grades as grades-run
use Rattle.agreement_histories.proofs.Modes as modes-run
use Rattle.agreement_histories.proofs.Refusals as refusals-run

-- demand 3 of a history whose premises hold
holding : {v : Instance} {plan : Plan} {bad : Set} {h : History} → Premises v plan bad h → Holds v plan bad h
holding {v} {plan} {bad} {h} = demand3 v plan bad h

pub alone_holds : Holds (alone.vote 1) alone.plan alone.bad (history_of (alone.vote 1) (alone.script 1))
alone_holds = holding (alone-run.conclusion).premises

pub largest_holds : Holds (alone.vote max_number) alone.plan alone.bad (history_of (alone.vote max_number) (alone.script max_number))
largest_holds = holding (alone-run.conclusion_largest).premises

pub deep_holds : Holds deep.vote deep.plan deep.bad (history_of deep.vote deep.script)
deep_holds = holding (deep-run.conclusion).premises

pub cuts_holds : Holds cuts.vote cuts.plan cuts.bad (history_of cuts.vote cuts.script)
cuts_holds = holding (cuts-run.conclusion).premises

pub restores_holds : Holds restores.vote restores.plan restores.bad (history_of restores.vote restores.script)
restores_holds = holding (restores-run.conclusion).premises

pub forgotten_holds : Holds forgotten.vote forgotten.plan forgotten.bad (history_of forgotten.vote forgotten.script)
forgotten_holds = holding (forgotten-run.conclusion).premises

pub liar_holds : Holds liar.vote liar.plan liar.bad (history_of liar.vote liar.script)
liar_holds = holding (liar-run.conclusion).premises

pub neighbours_holds : Holds neighbours.vote neighbours.plan neighbours.bad (history_of neighbours.vote neighbours.script)
neighbours_holds = holding (neighbours-run.conclusion).premises

pub negative_holds : Holds negative.vote negative.plan negative.bad (history_of negative.vote negative.script)
negative_holds = holding (negative-run.conclusion).premises

-- on this range, by readings alone
pub negative_range : HoldsOnRange negative.vote negative.plan negative.bad (history_of negative.vote negative.script)
negative_range = on_range_lem negative.vote negative.plan negative.bad (history_of negative.vote negative.script) refl negative_holds

pub grades_holds : Holds grades.vote grades.plan grades.bad (history_of grades.vote grades.script)
grades_holds = holding (grades-run.conclusion).premises

pub modes_holds : Holds modes.vote modes.plan modes.bad (history_of modes.vote modes.script)
modes_holds = holding (modes-run.conclusion).premises

pub refusals_holds : Holds refusals.vote refusals.plan refusals.bad (history_of refusals.vote refusals.script)
refusals_holds = holding refusals-run.premises
