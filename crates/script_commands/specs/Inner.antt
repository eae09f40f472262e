-- A first word read letter by letter: what the functions of this crate compute. proofs/Keywords.antt shows that it is the command that the word names.
use Rattle.std.specs.Prelude.{Bool, false, ◌&&◌, Option, Some, None, List, ℕ, ◌+◌, eqb, ltb, length, get_or}
use Rattle.base.specs.Pick.{pick}
use Rattle.script_commands.specs.declared.Command.{Command}
use Rattle.script_commands.specs.declared.Command.TheVariants.{Boards, Agreement, Range, Start, Give}
use Rattle.script_commands.specs.declared.Keyword.{Keyword}
use Rattle.script_commands.specs.Commands.{spelling}

-- no two names begin with the same letter
abbrev pub by_initial : ℕ → Option Command
by_initial b =
    pick (eqb b 98) (Some Boards)
    (pick (eqb b 97) (Some Agreement)
    (pick (eqb b 114) (Some Range)
    (pick (eqb b 115) (Some Start)
    (pick (eqb b 103) (Some Give)
    None))))

-- does b stand at place i?
abbrev pub byte_is : List ℕ → ℕ → ℕ → Bool
byte_is s i b = ltb i (length s) && eqb b (get_or s i 0)

-- no letter yet
abbrev pub no_keyword : Keyword
no_keyword = record { command = None; letters = 0 }

-- does the name go on so?
abbrev pub goes_on : Option Command → ℕ → ℕ → Bool
goes_on (Some c) i b = byte_is (spelling c) i b
goes_on None i b = false

abbrev pub continues : Keyword → ℕ → Bool
continues k b = goes_on k.command k.letters b

-- the first word with one byte more
unfoldable pub keyword_with : Keyword → ℕ → Keyword
keyword_with k b =
    pick (eqb k.letters 0) (record { command = by_initial b; letters = 1 })
    (pick (continues k b) (record { command = k.command; letters = k.letters + 1 })
    (record { command = None; letters = k.letters }))

-- the command, if its whole name is there
abbrev pub whole : Option Command → ℕ → Option Command
whole (Some c) n = pick (eqb n (length (spelling c))) (Some c) None
whole None n = None

unfoldable pub command_named : Keyword → Option Command
command_named k = whole k.command k.letters
