-- A line of some words, and reading on in it.
use mathlib.Core.Path.{◌≡◌, sym, ap, ◌∙◌}
use mathlib.Core.Bool.{Bool, true, false}
use mathlib.Core.List.{List, [], ◌∷◌, ◌++◌}
use Rattle.std.specs.Prelude.{Option}
use Prim.Native.Nat.{ℕ}
use Rattle.script_commands.specs.declared.Command.{Command}
use Rattle.script_commands.specs.Inner.{no_keyword, command_named}
use Rattle.script_commands.proofs.Keywords.{keyword_from, keyword_more}
use Rattle.script_numbers.specs.declared.Number.{Number}
use Rattle.script_numbers.specs.Inner.{no_number}
use Rattle.script_numbers.proofs.Numbers.{number_from, number_more}
use Rattle.script_words.specs.Words.{is_blank, words}
use Rattle.script_words.specs.Scan.{up_to}
use Rattle.script_words.proofs.Words.{word_at, words_read}
use Rattle.script_words.proofs.Scan.{read_more}
use Rattle.script_lines.specs.declared.Line.{Line}
use Rattle.script_lines.specs.declared.Scanned.{Scanned}
use Rattle.script_lines.specs.Lines.{no_line, line_with, line_from, scanned, Scans}

-- ---- a line of some words

-- how many there are; 4 stands for more
abbrev pub how_many : List (List ℕ) → ℕ
how_many [] = 0
how_many (x ∷ []) = 1
how_many (x ∷ y ∷ []) = 2
how_many (x ∷ y ∷ z ∷ []) = 3
how_many (x ∷ y ∷ z ∷ u ∷ ws) = 4

-- a word as the command and as the number that it is read as
abbrev pub key : List ℕ → Option Command
key w = command_named (keyword_from no_keyword w)

abbrev pub num : List ℕ → Number
num w = number_from no_number w

-- the line of these words
abbrev pub line_of : List (List ℕ) → Bool → Line
line_of ws inside = record {
  words = how_many ws;
  inside = inside;
  keyword = keyword_from no_keyword (word_at ws 0);
  first = num (word_at ws 0);
  second = num (word_at ws 1);
  third = num (word_at ws 2);
}

-- ---- a byte more

blank_with : (ws : List (List ℕ)) (inside : Bool) (b : ℕ) → is_blank b ≡ true → line_with (line_of ws inside) b ≡ line_of ws false
unfolding line_with
blank_with ws inside b e = rw e

byte_begins : (ws : List (List ℕ)) (b : ℕ) → is_blank b ≡ false → line_with (line_of ws false) b ≡ line_of (ws ++ ((b ∷ []) ∷ [])) true
unfolding line_with keyword_from number_from
byte_begins [] b e = rw e
byte_begins (x ∷ []) b e = rw e
byte_begins (x ∷ y ∷ []) b e = rw e
byte_begins (x ∷ y ∷ z ∷ []) b e = rw e
byte_begins (x ∷ y ∷ z ∷ u ∷ ws) b e = rw e

byte_follows : (ws : List (List ℕ)) (w : List ℕ) (b : ℕ) → is_blank b ≡ false → line_with (line_of (ws ++ (w ∷ [])) true) b ≡ line_of (ws ++ ((w ++ (b ∷ [])) ∷ [])) true
unfolding line_with
byte_follows [] w b e = rw (e, keyword_more no_keyword w b, number_more no_number w b)
byte_follows (x ∷ []) w b e = rw (e, number_more no_number w b)
byte_follows (x ∷ y ∷ []) w b e = rw (e, number_more no_number w b)
byte_follows (x ∷ y ∷ z ∷ []) w b e = rw e
byte_follows (x ∷ y ∷ z ∷ u ∷ []) w b e = rw e
byte_follows (x ∷ y ∷ z ∷ u ∷ v ∷ ws) w b e = rw e

-- ---- all bytes of a line

-- what is told of a line's words is told of what is read of its bytes
pub reads : {A : Type 0} (tells : Line → A) (told : List (List ℕ) → A) → ((ws : List (List ℕ)) (inside : Bool) → tells (line_of ws inside) ≡ told ws)
    → (s : List ℕ) → tells (line_from no_line s) ≡ told (words s)
unfolding keyword_from number_from
reads tells told says s = words_read line_of line_with tells told blank_with byte_begins byte_follows says [] [] s

-- ---- reading on

pub scans : (l : Line) (s : List ℕ) (i : ℕ) {r : Scanned} → r ≡ scanned l s i → Scans l s i r
scans l s i e = record {
  found = e;
  line = λ p f. ap (λ (r : Scanned). r.line) e ∙ ap (λ (k : Line). line_from k (up_to s)) f ∙ sym (read_more line_with no_line p (up_to s));
}
