-- Laws that the functions' proofs cite.
use mathlib.Core.Path.{◌≡◌}
use mathlib.Core.Bool.{true}
use Prim.Native.Nat.{ℕ, ◌≤◌, ◌<◌}
use native.Mathlib.Omega.{arith}
use lib.Dec.{eqb, ltb, ltb→lt}
use lib.ListN.{length, get_or}
use Rattle.base.proofs.Bools.{T-left, true→T}
use Rattle.script_commands.specs.declared.Command.{Command}
use Rattle.script_commands.specs.declared.Command.TheVariants.{Boards, Agreement, Range, Start, Give}
use Rattle.script_commands.specs.Commands.{spelling}
use Rattle.script_commands.specs.Inner.{byte_is}

-- a name has at most nine letters
pub name_short : (c : Command) → length (spelling c) ≤ 9
name_short Boards = omega arith
name_short Agreement = omega arith
name_short Range = omega arith
name_short Start = omega arith
name_short Give = omega arith

-- a place with a letter is within the name
pub letter_within : (c : Command) (i b : ℕ) → byte_is (spelling c) i b ≡ true → i < length (spelling c)
letter_within c i b e = ltb→lt i (length (spelling c)) (T-left (ltb i (length (spelling c))) (eqb b (get_or (spelling c) i 0)) (true→T e))
