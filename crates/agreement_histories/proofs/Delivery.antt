-- Complete delivery, and all tests of a script in one run.
use mathlib.Core.Path.{◌≡◌, refl, ap}
use mathlib.Core.Bool.{Bool, true, false, not, ◌&&◌, ◌||◌}
use mathlib.Core.List.{List, [], ◌∷◌, ◌++◌}
use Prim.Native.Nat.{ℕ}
use lib.Dec.{leb, ltb, eqb}
use lib.ListN.{length}
use Rattle.std.specs.Prelude.{Ok, Err}
use Rattle.base.specs.Sets.{Set, count}
use Rattle.base.specs.Limits.{max_number}
use Rattle.message.specs.declared.Message.{Message}
use Rattle.message.specs.Reading.{broken}
use Rattle.message.specs.Message.{in_table}
use Rattle.agreement.specs.History.{Instance, Act, a_start, a_take, Counted}
use Rattle.agreement_histories.specs.Scripts.{Action}
use Rattle.agreement_histories.proofs.Worlds.{Handing, World, board_of, beginning, acted, world_after, same, sent_by, sound, fits, all_fit}
use Rattle.agreement_histories.proofs.Passing.{listed, answer_in}
use Rattle.board_calls.specs.Answers.{Answer}

-- ---- the tests of a board's calls that count

-- the positions at which it was started
abbrev pub start_of : Act → List ℕ → List ℕ
start_of (a_start x input) l = x ∷ l
start_of (a_take s e) l = l

unfoldable pub starts_in : List Counted → List ℕ
starts_in [] = []
starts_in (c ∷ cs) = start_of c.act (starts_in cs)

abbrev pub has_start : List Counted → Bool
has_start cs = ltb 0 (length (starts_in cs))

-- it took m from board j
abbrev pub is_taken : ℕ → Message → Act → Bool
is_taken j m (a_start x input) = false
is_taken j m (a_take s (Ok y)) = eqb j s && same m y
is_taken j m (a_take s (Err e)) = false

unfoldable pub has_taken : ℕ → Message → List Counted → Bool
has_taken j m [] = false
has_taken j m (c ∷ cs) = is_taken j m c.act || has_taken j m cs

-- all that its calls made
unfoldable pub all_made : List Counted → List Message
all_made [] = []
all_made (c ∷ cs) = c.made ++ all_made cs

-- ---- complete delivery

-- board i handed every one of the messages over
unfoldable pub all_sent : ℕ → List Message → List Handing → Bool
all_sent i [] l = true
all_sent i (m ∷ ms) l = sent_by i m l && all_sent i ms l

-- its bytes are read as it
abbrev pub readable : Message → Bool
readable m = in_table m && leb m.number max_number

-- what sound boards handed over was taken
abbrev pub was_taken : Instance → Set → List Counted → Handing → Bool
was_taken v bad cs x = not (sound v bad x.by) || (readable x.message && has_taken x.by x.message cs)

unfoldable pub all_taken : Instance → Set → List Counted → List Handing → Bool
all_taken v bad cs [] = true
all_taken v bad cs (x ∷ l) = was_taken v bad cs x && all_taken v bad cs l

abbrev pub full_board : Instance → Set → List Handing → ℕ → List Counted → Bool
full_board v bad l i cs = has_start cs && (all_sent i (all_made cs) l && all_taken v bad cs l)

abbrev pub full_at : Instance → Set → World → ℕ → Bool
full_at v bad w i = not (sound v bad i) || full_board v bad w.since i (board_of w i).counted

abbrev pub full : Instance → Set → World → Bool
full v bad w = leb v.n (count v.n (full_at v bad w))

-- ---- all tests in one run of the script

pub record Judged : Type 0 where
  -- every action is allowed
  pub lawful : Bool
  -- all is delivered at the end
  pub whole : Bool
  -- the answers of the boards 0, 1, .. then
  pub said : List Answer

-- the test of an action before the judgement of the rest
unfoldable pub first_then : Bool → Judged → Judged
first_then b j = record { lawful = b && j.lawful; whole = j.whole; said = j.said }

-- what the actions make of the world, with the answers of k boards
unfoldable pub judging : Instance → Set → ℕ → World → List Action → Judged
judging v bad k w [] = record { lawful = true; whole = full v bad w; said = listed 0 k (answer_in v w) }
judging v bad k w (a ∷ rest) = first_then (fits v bad w a) (judging v bad k (acted v w a) rest)

-- from boards not yet set up
abbrev pub judge : Instance → Set → ℕ → List Action → Judged
judge v bad k script = judging v bad k (beginning v) script

-- it is lawful, all is delivered at the end, and the boards 0, 1, .. have these answers
abbrev pub Judges : Instance → Set → List Action → List Answer → Type 0
Judges v bad script l = judge v bad (length l) script ≡ record { lawful = true; whole = true; said = l }

-- the run gives what the tests give one by one
pub judging_tests : (v : Instance) (bad : Set) (k : ℕ) (w : World) (script : List Action) → judging v bad k w script
    ≡ record { lawful = all_fit v bad w script; whole = full v bad (world_after v w script); said = listed 0 k (answer_in v (world_after v w script)) }
unfolding judging first_then all_fit world_after
judging_tests v bad k w [] = refl
judging_tests v bad k w (a ∷ rest) = ap (first_then (fits v bad w a)) (judging_tests v bad k (acted v w a) rest)
