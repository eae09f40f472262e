-- Document 01, "The bench program": the first word of a line names a command.
use Rattle.std.specs.Prelude.{Bool, true, false, ◌&&◌, Option, Some, None, List, [], ◌∷◌, ℕ, eqb}
use Rattle.base.specs.Pick.{pick}
use Rattle.script_commands.specs.declared.Command.{Command}
use Rattle.script_commands.specs.declared.Command.TheVariants.{Boards, Agreement, Range, Start, Give}

-- the commands' names, in ASCII
abbrev pub spelling : Command → List ℕ
spelling Boards = 98 ∷ 111 ∷ 97 ∷ 114 ∷ 100 ∷ 115 ∷ []
spelling Agreement = 97 ∷ 103 ∷ 114 ∷ 101 ∷ 101 ∷ 109 ∷ 101 ∷ 110 ∷ 116 ∷ []
spelling Range = 114 ∷ 97 ∷ 110 ∷ 103 ∷ 101 ∷ []
spelling Start = 115 ∷ 116 ∷ 97 ∷ 114 ∷ 116 ∷ []
spelling Give = 103 ∷ 105 ∷ 118 ∷ 101 ∷ []

-- are two words the same?
unfoldable pub same : List ℕ → List ℕ → Bool
same [] [] = true
same [] (b ∷ t) = false
same (a ∷ s) [] = false
same (a ∷ s) (b ∷ t) = eqb a b && same s t

-- the command that a word names
unfoldable pub command_of : List ℕ → Option Command
command_of w =
    pick (same w (spelling Boards)) (Some Boards)
    (pick (same w (spelling Agreement)) (Some Agreement)
    (pick (same w (spelling Range)) (Some Range)
    (pick (same w (spelling Start)) (Some Start)
    (pick (same w (spelling Give)) (Some Give)
    None))))
