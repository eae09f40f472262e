-- `journal::append` meets its contract.
use mathlib.Core.Path.{ap, ◌∙◌}
use Prim.Native.Nat.{ℕ, ◌+◌}
use Rattle.base.proofs.Puts.{put_tail, put_zero}
use Rattle.journal.specs.Journal.{record_bytes}
use Rattle.journal.proofs.append.Goals as goal

pub returns : goal.returns
returns c =
    let a = c.args in
    let w = c.put in
    (ap (λ (x : ℕ). a.used + x) w.ensures.0, put_tail a.journal.now a.used w.new.out (record_bytes a.r) (w.ensures.1 ∙ put_zero _ _))
