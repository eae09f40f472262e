-- What steps of both votes are in one of them.
use mathlib.Core.Path.{◌≡◌, refl, sym, ap, ◌∙◌, subst}
use mathlib.Core.Logic.{◌⊎◌, inl, inr}
use mathlib.Core.Bool.{Bool, true, false}
use mathlib.Core.List.Memᴰ
use mathlib.Core.List.{[], ◌∷◌, ◌++◌, append-nil, append_assoc, Memᴰ}
use lib.IntN.{ℤ}
use Rattle.std.specs.Prelude.{Some}
use Rattle.base.specs.Pick.{pick}
use Rattle.base.specs.Found.{found}
use Rattle.party.specs.Party.{Party}
use Rattle.board_pair.specs.Pair.{pair_questions}
use Rattle.agreement.specs.History.{read_answer, Step, calls, History}
use Rattle.agreement_pair.specs.History.{Coordinate, first, second, same, Seats, PairStep, reads_pair, PairHistory, read_steps, steps_in, history_in, within, in_both}

-- ---- a pair reading

module _ (c : Coordinate) (own : Seats) (p : Coordinate → Party) (y z : ℤ) (e : pair_questions (p first) (p second) ≡ found (Some (y, z))) where
  -- in each vote, what one that gives an answer is
  abbrev reading : Step
  reading = calls (own c) (read_answer (p c))

  reading_is : steps_in c (reads_pair own p) ≡ reading ∷ []
  reading_is = ap (read_steps (own c) (p c)) e

  pub read_now : (h : PairHistory) → history_in c (reads_pair own p ∷ h) ≡ calls (own c) (read_answer (p c)) ∷ history_in c h
  unfolding history_in
  read_now h = ap (λ (t : History). t ++ history_in c h) reading_is

  pub read_in : (h : PairHistory) → Memᴰ (reads_pair own p) h → Memᴰ (calls (own c) (read_answer (p c))) (history_in c h)
  unfolding history_in
  read_in [] m = absurd (Memᴰ.not-nil m)
  read_in (s ∷ h) m = go (read_in h) (Memᴰ.cases_cons m)
    where
      now : Memᴰ reading (steps_in c (reads_pair own p))
      now = subst (Memᴰ reading) (sym reading_is) (Memᴰ.head refl)

      go : (Memᴰ (reads_pair own p) h → Memᴰ reading (history_in c h)) → (reads_pair own p ≡ s) ⊎ Memᴰ (reads_pair own p) h
          → Memᴰ reading (steps_in c s ++ history_in c h)
      go below (inl x) = Memᴰ.append_left (history_in c h) (subst (λ (s : PairStep). Memᴰ reading (steps_in c s)) x now)
      go below (inr x) = Memᴰ.append_right (steps_in c s) (below x)

-- ---- steps of one vote, and of the other

wrapped : (c d : Coordinate) (b : Bool) → same c d ≡ b → (l : History) (h : PairHistory) → history_in c (within d l ++ h) ≡ pick b l [] ++ history_in c h
unfolding history_in
wrapped c d true e [] h = refl
wrapped c d false e [] h = refl
wrapped c d true e (s ∷ l) h =
    ap (λ (b : Bool). pick b (s ∷ []) [] ++ history_in c (within d l ++ h)) e ∙ ap (λ (t : History). s ∷ t) (wrapped c d true e l h)
wrapped c d false e (s ∷ l) h = ap (λ (b : Bool). pick b (s ∷ []) [] ++ history_in c (within d l ++ h)) e ∙ wrapped c d false e l h

-- in each vote, its own
pub in_both_lem : (m : Coordinate → History) (h : PairHistory) (c : Coordinate) → history_in c (in_both m ++ h) ≡ m c ++ history_in c h
in_both_lem m h c = ap (history_in c) (append_assoc (within second (m second)) (within first (m first)) h) ∙ go c
  where
    go : (c : Coordinate) → history_in c (within second (m second) ++ (within first (m first) ++ h)) ≡ m c ++ history_in c h
    go first = wrapped first second false refl (m second) (within first (m first) ++ h) ∙ wrapped first first true refl (m first) h
    go second =
        wrapped second second true refl (m second) (within first (m first) ++ h)
        ∙ ap (λ (t : History). m second ++ t) (wrapped second first false refl (m first) h)

pub alone : (m : Coordinate → History) (c : Coordinate) → history_in c (in_both m) ≡ m c
unfolding history_in
alone m c = ap (history_in c) (sym (append-nil (in_both m))) ∙ in_both_lem m [] c ∙ append-nil (m c)
