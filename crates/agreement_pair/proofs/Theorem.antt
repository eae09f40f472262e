-- Q-13's theorem. Each reading of a pair answer is an answer in its own vote, so what demand 3 says on a range holds of it. "One argument serves both readings":
-- over one coordinate c, once for both, are that a reading of the pair is an answer of its vote (`pair_answers`), `near` and `validity`, that it is still the
-- vote's answer (`each` of `stays`) and what is guarded. Over both at once are only the call's own laws, `of_each` (from the pair to each vote) and `pair_now_lem`
-- (back); by it the ending and `pair_stays` join what each vote says.
use mathlib.Core.Path.{◌≡◌, refl, sym, ap, ◌∙◌}
use mathlib.Core.Logic.{inl, inr}
use mathlib.Core.List.{[], ◌++◌}
use Prim.Native.Nat.{ℕ}
use native.Mathlib.Omega.{arith}
use lib.Dec.{eqb, eqb_refl}
use lib.IntN.{ℤ}
use lib.ListN.{length}
use Rattle.std.specs.Prelude.{Some, None}
use Rattle.base.specs.Pick.{pick}
use Rattle.base.specs.Sets.{Set}
use Rattle.base.specs.Found.{Found, found, refused}
use Rattle.base.proofs.Bools.{T→true}
use Rattle.plan.specs.Plan.{Plan}
use Rattle.party.specs.Party.{Party}
use Rattle.party_laws.specs.Inner.{SameBoard}
use Rattle.board_calls.specs.Calls.{answered_of}
use Rattle.board_pair.specs.Pair.{pair_questions, pair_gives, PairAnswer}
use Rattle.board_pair.proofs.Theorem.{exact}
use Rattle.agreement.specs.History.{Instance, read_answer, calls, History, Board, after_own, board_after}
use Rattle.agreement.specs.Demand.{party_now, answer_now, Answers}
use Rattle.agreement.specs.Ranges.{HoldsOnRange}
use Rattle.agreement.proofs.Tied.{new_board}
use Rattle.agreement.proofs.Boards.{answer_now_lem}
use Rattle.agreement.proofs.Answers.{answers_state}
use Rattle.agreement.proofs.Theorem.{demand3}
use Rattle.agreement.proofs.Ranges.{demand3_range}
use Rattle.agreement_pair.specs.History.{Coordinate, first, second, Seats, PairHistory, read_steps, history_in}
use Rattle.agreement_pair.specs.Demand.{SoundInBoth, pair_now, PairAnswers, PairHolds, PairPremises, PairDemand, PairExactly, PairStays, PairGuards}
use Rattle.agreement_pair.proofs.Parties.{answering_board}
use Rattle.agreement_pair.proofs.Steps.{read_now, read_in}

-- ---- a pair answer, in one vote

-- a board's own reading that gives an answer guards its journal
own_reading : (b : Board) (i : ℕ) (p : Party) (z : ℤ) → (answered_of p).answer ≡ Some z
    → (pick (eqb i i) (after_own b (calls i (read_answer p))) b).guarded ≡ length b.journal
own_reading b i p z e = rw (T→true (eqb i i) (eqb_refl i), e)

-- each of the parties answers its reading
of_each : (p : Coordinate → Party) (y : Coordinate → ℤ) → pair_questions (p first) (p second) ≡ found (Some (y first, y second))
    → (c : Coordinate) → (answered_of (p c)).answer ≡ Some (y c)
of_each p y e first = ((exact (p first) (p second) (y first) (y second)).0 e).first
of_each p y e second = ((exact (p first) (p second) (y first) (y second)).0 e).second

-- an answer was found
gives_found : (f : Found PairAnswer) (y z : ℤ) → (pair_gives f).answer ≡ Some (y, z) → f ≡ found (Some (y, z))
gives_found (found a) y z e = ap found e
gives_found (refused number place) y z e = let o : ◌≡◌ {A = ℕ} 0 1 = cc in absurd (omega arith)

pub now_each : (v : Coordinate → Instance) (h : PairHistory) (own : Seats) (y : Coordinate → ℤ) → pair_now v h own ≡ Some (y first, y second)
    → (c : Coordinate) → answer_now (v c) (history_in c h) (own c) ≡ Some (y c)
now_each v h own y e = of_each (λ c. party_now (v c) (history_in c h) (own c)) y (gives_found _ (y first) (y second) e)

-- held then or read earlier, it is so in the vote
pub pair_answers : (v : Coordinate → Instance) (h : PairHistory) (own : Seats) (y : Coordinate → ℤ) → PairAnswers v h own y
    → (c : Coordinate) → Answers (v c) (history_in c h) (own c) (y c)
pair_answers v h own y (inl e) c = inl (now_each v h own y e c)
pair_answers v h own y (inr (p, m, e)) c = inr (p c, inl (read_in c own p (y first) (y second) e h m), of_each p y e c)

module _ (v : Coordinate → Instance) (plan : Coordinate → Plan) (bad : Coordinate → Set) (h : PairHistory) (given : PairPremises v plan bad h) where
  -- ---- answers of both votes, as a pair

  pub pair_now_lem : (own : Seats) → SoundInBoth v bad own → (y : Coordinate → ℤ)
      → ((c : Coordinate) → answer_now (v c) (history_in c h) (own c) ≡ Some (y c)) → pair_now v h own ≡ Some (y first, y second)
  pair_now_lem own g y a =
      ap (λ (f : Found PairAnswer). (pair_gives f).answer)
      ((exact (p first) (p second) (y first) (y second)).1 (record {
        first = a first;
        second = a second;
        numbers = λ e. given.numbers (sym (board first).agreement ∙ e ∙ (board second).agreement);
        ranges = (kind first, kind second);
      }))
    where
      p : Coordinate → Party
      p c = party_now (v c) (history_in c h) (own c)

      board : (c : Coordinate) → SameBoard (new_board (v c) (plan c) (own c)) (p c)
      board c = answering_board (v c) (plan c) (bad c) (history_in c h) (given.votes c) (own c) (g c) (y c) (a c)

      kind : (c : Coordinate) → (p c).plan.kind ≡ 2
      kind c = ap (λ (x : Plan). x.kind) (board c).plan ∙ given.ranges c

  -- a reading of the pair is still the vote's answer, in each of them
  stays : (own : Seats) (y : Coordinate → ℤ) → SoundInBoth v bad own → PairAnswers v h own y → pair_now v h own ≡ Some (y first, y second)
  stays own y g a = pair_now_lem own g y each
    where
      each : (c : Coordinate) → answer_now (v c) (history_in c h) (own c) ≡ Some (y c)
      each c =
          let o = given.votes c in
          answer_now_lem (v c) (plan c) (bad c) o.shared (history_in c h) o.allowed (own c) (g c).0
          ∙ answers_state (v c) (plan c) (bad c) o.shared (history_in c h) o.allowed (own c) (g c).0 (y c) (pair_answers v h own y a c)

  -- ---- the demand

  on_range_lem : (c : Coordinate) → HoldsOnRange (v c) (plan c) (bad c) (history_in c h)
  on_range_lem c = demand3_range (v c) (plan c) (bad c) (history_in c h) (given.votes c) (given.ranges c)

  holds : PairHolds v plan bad h
  holds = record {
    near = λ own own' y z g g' a b c. (on_range_lem c).near (own c) (own' c) (y c) (z c) (g c) (g' c) (pair_answers v h own y a c) (pair_answers v h own' z b c);
    validity = λ own y g a c. (on_range_lem c).validity (own c) (y c) (g c) (pair_answers v h own y a c);
    ending = λ full own g.
        let r : (c : Coordinate) → (z : ℤ) × (answer_now (v c) (history_in c h) (own c) ≡ Some z) =
        λ c. (demand3 (v c) (plan c) (bad c) (history_in c h) (given.votes c)).ending (full c) (own c) (g c) in
        (λ c. (r c).0, pair_now_lem own g (λ c. (r c).0) (λ c. (r c).1));
  }

-- Q-13.
pub pair_demand : PairDemand
pair_demand = holds

pub pair_exactly : PairExactly
pair_exactly v plan bad h given own y g = (now_each v h own y, pair_now_lem v plan bad h given own g y)

-- A pair once read stays the board's pair.
pub pair_stays : PairStays
pair_stays = stays

-- A pair reading that gives an answer guards both journals.
pub pair_guards : (own : Seats) (p : Coordinate → Party) (h : PairHistory) → PairGuards own p h
unfolding history_in board_after
pair_guards own p h = record {
  guards = λ y e c.
      ap (λ (l : History). (board_after l (own c)).guarded) (read_now c own p (y first) (y second) e h)
      ∙ own_reading (board_after (history_in c h) (own c)) (own c) (p c) (y c) (of_each p y e c);
  otherwise = λ d c. ap (λ (l : History). l ++ history_in c h) (no_steps (pair_questions (p first) (p second)) d (own c) (p c));
}
  where
    part : ℤ → ℤ → Coordinate → ℤ
    part y z first = y
    part y z second = z

    no_steps : (f : Found PairAnswer) → ((y : Coordinate → ℤ) → f ≡ found (Some (y first, y second)) → ⊥) → (i : ℕ) (r : Party) → read_steps i r f ≡ []
    no_steps (found None) d i r = refl
    no_steps (found (Some (y, z))) d i r = absurd (d (part y z) refl)
    no_steps (refused number place) d i r = refl
