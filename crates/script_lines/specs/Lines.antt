-- A line read byte by byte: what the functions of this crate compute. Crates script and drawing_lines show that it is what the line's words say.
use Rattle.std.specs.Prelude.{◌≡◌, Bool, true, false, List, ◌++◌, ℕ, ◌+◌, eqb, ltb}
use Rattle.base.specs.Pick.{pick}
use Rattle.script_commands.specs.Inner.{no_keyword, keyword_with}
use Rattle.script_numbers.specs.Inner.{no_number, number_with}
use Rattle.script_words.specs.Words.{is_blank}
use Rattle.script_words.specs.Scan.{up_to, read_from, scan_by}
use Rattle.script_lines.specs.declared.Line.{Line}
use Rattle.script_lines.specs.declared.Scanned.{Scanned}

-- no byte yet
abbrev pub no_line : Line
no_line = record { words = 0; inside = false; keyword = no_keyword; first = no_number; second = no_number; third = no_number }

-- the word that a byte belongs to, counted from 1; 4 for every further one
abbrev pub word_of : Line → ℕ
word_of l = pick l.inside l.words (pick (ltb l.words 4) (l.words + 1) 4)

-- the line with one byte more
unfoldable pub line_with : Line → ℕ → Line
line_with l b = pick (is_blank b) outside (inside (word_of l))
  where
    outside : Line
    outside = record { words = l.words; inside = false; keyword = l.keyword; first = l.first; second = l.second; third = l.third }

    inside : ℕ → Line
    inside w = record {
      words = w;
      inside = true;
      keyword = pick (eqb w 1) (keyword_with l.keyword b) l.keyword;
      first = pick (eqb w 1) (number_with l.first b) l.first;
      second = pick (eqb w 2) (number_with l.second b) l.second;
      third = pick (eqb w 3) (number_with l.third b) l.third;
    }

-- the line that is read from bytes
abbrev pub line_from : Line → List ℕ → Line
line_from = read_from line_with

-- what is found at a place
abbrev pub found : Bool → Line → ℕ → Scanned
found ended l next = record { ended = ended; line = l; next = next }

-- the line l goes on with the bytes s from place i on, up to the next newline
abbrev pub scanned : Line → List ℕ → ℕ → Scanned
scanned = scan_by line_with found

-- that is what reading on finds; after the bytes p of a line, the line so far is that of all its bytes
pub record Scans (l : Line) (s : List ℕ) (i : ℕ) (r : Scanned) : Type 0 where
  pub found : r ≡ scanned l s i
  pub line : (p : List ℕ) → l ≡ line_from no_line p → r.line ≡ line_from no_line (p ++ up_to s)
