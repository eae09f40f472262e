-- The words of a line, which are split at blanks.
use Rattle.std.specs.Prelude.{Bool, ◌||◌, List, [], ◌∷◌, ◌++◌, ℕ, eqb}
use Rattle.base.specs.Pick.{pick}

-- space, tab, carriage return
abbrev pub is_blank : ℕ → Bool
is_blank b = eqb b 32 || (eqb b 9 || eqb b 13)

-- a word in front of others; no byte is no word
abbrev pub before : List ℕ → List (List ℕ) → List (List ℕ)
before [] ws = ws
before (b ∷ w) ws = (b ∷ w) ∷ ws

-- the words of a line, after the bytes w of its first one
unfoldable pub words_from : List ℕ → List ℕ → List (List ℕ)
words_from w [] = before w []
words_from w (b ∷ s) = pick (is_blank b) (before w (words_from [] s)) (words_from (w ++ (b ∷ [])) s)

-- the words of a line
abbrev pub words : List ℕ → List (List ℕ)
words s = words_from [] s
