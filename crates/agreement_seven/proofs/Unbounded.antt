-- More faulty boards than t: a sound board makes 22 different messages at level 0.
use mathlib.Core.Path.{◌≡◌, refl}
use mathlib.Core.Bool.{true, ◌&&◌}
use mathlib.Core.List.{[]}
use Prim.Native.Nat.{suc, ◌≤◌}
use native.Mathlib.Omega.{arith}
use lib.ListN.{length}
use Rattle.base.specs.Sets.{count}
use Rattle.base.specs.Limits.{max_rules, level_messages, level_messages_worst}
use Rattle.base.proofs.Bools.{T-left, T-right, true→T}
use Rattle.agreement.specs.History.{board_after}
use Rattle.agreement.specs.Allowed.{Allowed}
use Rattle.agreement_histories.specs.Scripts.{history_of, followed}
use Rattle.agreement_histories.proofs.Computing.{computing}
use Rattle.agreement_messages.specs.Statement.{Different}
use Rattle.agreement_seven.specs.Seven.{AtLevel}
use Rattle.agreement_seven.specs.Unbounded.{OneMore, vote, plan, bad, told, relays, hearing, script, messages}
use Rattle.agreement_seven.proofs.Making.{all_differ, all_at, all_among, distinct, at_level}
use Rattle.agreement_seven.proofs.OneLevel.{level_run, begun}
use Rattle.agreement_seven.proofs.Standing.{start_stands}
use Rattle.agreement_seven.proofs.Following.{going, Makes, follow}
pub use Rattle.agreement_seven.proofs.Standing.{shared, sound}

-- the start, and what follows it
goes : (level_run max_rules begun).fine && going messages (level_run max_rules begun).level (level_run max_rules begun).made [] hearing ≡ true
unfolding computing level_run going all_among hearing told relays
goes = refl

makes : Makes messages (history_of vote script)
unfolding followed board_after
makes =
    let l = level_run max_rules begun in
    let on = going messages l.level l.made [] hearing in
    follow messages hearing _ l.level l.made [] (start_stands (T-left l.fine on (true→T goes))) (T-right l.fine on (true→T goes))

pub allowed : Allowed vote bad (history_of vote script)
allowed = makes.allowed

pub one_more : count vote.n bad ≡ suc vote.t
unfolding count
one_more = refl

different_tested : all_differ messages ≡ true
unfolding computing all_differ relays
different_tested = refl

pub different : Different (history_of vote script) 0 messages
different = record { once = distinct messages (true→T different_tested); made = makes.made }

pub at_0 : AtLevel 0 messages
unfolding all_at relays
at_0 = at_level 0 messages tt

-- as many as a level can make at most, whoever is faulty
pub how_many_lem : length messages ≡ level_messages_worst
unfolding relays
how_many_lem = refl

pub one_more_fails : OneMore → ⊥
one_more_fails claim =
    let l : length messages ≤ level_messages = ((claim vote plan bad (history_of vote script) shared (omega (arith, one_more)) allowed).level 0 0 messages sound different at_0).messages in
    omega (arith, how_many_lem)
