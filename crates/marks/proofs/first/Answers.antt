use Rattle.std.proofs.Common.{◌≡◌, ℕ, eqb, take, rules, tests}
use Rattle.std.specs.Prelude.{position}
use Rattle.std.proofs.lemmas.Iterator.{YieldsList-from_slice}
use Rattle.std.proofs.lemmas.Iterator.Search.{position_from_yields_List}
use Rattle.marks.proofs.Marks.{first_mark}
use Rattle.marks.proofs.first.Goals as goal

pub returns : goal.returns
returns c =
    let e : c.position.result ≡ position (λ (x : ℕ). eqb x 1) (take c.args.n c.args.m.now) = position_from_yields_List {all = take c.args.n c.args.m.now} (λ (x : ℕ). eqb x 1) _ _ c.position.result c.position.ensures.ran (YieldsList-from_slice _ cc) (λ x b q k. search (rules, tests)) in
    let f = first_mark c.args.m.now c.args.n c.requires in
    cc
