-- How the code's result stands for the definitions'.
use Rattle.std.specs.Prelude.{None, Result, Ok, Err}
use Rattle.base.specs.declared.Refusal.{Refusal}
use Rattle.base.specs.Verdict.{Verdict, refused_by}
use Rattle.board_pair.specs.Pair.{PairAnswer, PairAnswered}

abbrev pub as_pair_answered : Result PairAnswer Refusal → PairAnswered
as_pair_answered (Ok a) = record { verdict = Verdict.Accepted; answer = a }
as_pair_answered (Err r) = record { verdict = refused_by r; answer = None }
