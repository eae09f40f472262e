-- What a board's starts and takes reported is what the records of its journal count.
use mathlib.Core.Path.{◌≡◌, refl, sym, ap, ap₂, ◌∙◌, subst}
use mathlib.Core.Logic.{◌⊎◌, inl, inr}
use mathlib.Core.Bool.{Bool, true, false}
use mathlib.Core.List.{List, [], ◌∷◌}
use Prim.Native.Nat.{ℕ, zero, suc, ◌-◌, ◌<◌}
use native.Mathlib.Omega.{arith}
use lib.Dec.{eqb, eqb→eq}
use lib.ListN.{length, drop, length-drop}
use Rattle.std.specs.Prelude.{Some, None}
use Rattle.base.specs.Pick.{pick}
use Rattle.base.specs.Sets.{Set}
use Rattle.base.specs.Verdict.{Verdict}
use Rattle.base.specs.Found.{Found, found, refused}
use Rattle.base.proofs.Bools.{true→T}
use Rattle.plan.specs.Plan.{Plan}
use Rattle.journal.specs.declared.Record.{Record}
use Rattle.message.specs.Reading.{exact_message}
use Rattle.journal.specs.Reading.{records_from}
use Rattle.party.specs.Party.{Party}
use Rattle.party.specs.Run.{Ran}
use Rattle.party_life.specs.Life.{replayed, lived}
use Rattle.board_calls.specs.Answers.{position_of, Answer}
use Rattle.board_calls.specs.Calls.{Entry, again, fresh, set_up_of, answered_of}
use Rattle.agreement.specs.History.{Instance, Lent, voted_input, Call, set_up, start, take_message_lem, read_answer, read_count, restore, start_finds, take_finds, read_as_count, Step, calls, hands, cut, whose, History, Act, a_start, a_take, Board, after_set_up, after_answer, board_after}
use Rattle.agreement.specs.Allowed.{Refuses, Continues, Accepts, Allowed}
use Rattle.agreement.specs.Demand.{Shared}
use Rattle.agreement.specs.Inner.{records_of}
use Rattle.agreement.proofs.Entries.{Recorded, start_recorded, take_recorded}
use Rattle.agreement.proofs.Lent.{entered}
use Rattle.agreement.proofs.Tied.{new_board, AtStage}
use Rattle.agreement.proofs.Histories.{TiedAfter, tied}
use Rattle.agreement.proofs.Boards.{records_of_lem}
use Rattle.agreement.proofs.Steps.{held_records, own, other, refused_nothing, party_lived, start_board, start_newest, take_board, take_newest, cut_oldest, restore_records}
use Rattle.agreement_bounds.specs.Reports.{entry_reports, call_reports, oldest, step_reports, reports, total}

-- ---- the rules of records

-- what each record's call counts, the latest first
abbrev pub rules_along : Party → List Record → List ℕ
rules_along p [] = []
rules_along p (r ∷ rs) = (replayed (lived p rs).party r).rules ∷ rules_along p rs

along_length : (p : Party) (rs : List Record) → length (rules_along p rs) ≡ length rs
along_length p [] = refl
along_length p (r ∷ rs) = ap suc (along_length p rs)

along_drop : (p : Party) (d : ℕ) (rs : List Record) → drop d (rules_along p rs) ≡ rules_along p (drop d rs)
along_drop p zero rs = refl
along_drop p (suc d) [] = refl
along_drop p (suc d) (r ∷ rs) = along_drop p d rs

-- their sum
pub along_total : (p : Party) (rs : List Record) → total (rules_along p rs) ≡ (lived p rs).rules
unfolding total lived
along_total p [] = refl
along_total p (r ∷ rs) = omega (arith, along_total p rs)

-- so many are dropped as are missing
drop_missing : {A : Type 0} (d : ℕ) (l : List A) → drop (length l - length (drop d l)) l ≡ drop d l
drop_missing zero l = let e : length l - length l ≡ 0 = omega arith in ap (λ (k : ℕ). drop k l) e
drop_missing (suc d) [] = refl
drop_missing (suc d) (x ∷ l) = ap (λ (k : ℕ). drop k (x ∷ l)) (less (length-drop d l)) ∙ drop_missing d l
  where
    less : length (drop d l) ≡ length l - d → suc (length l) - length (drop d l) ≡ suc (length l - length (drop d l))
    less e = omega arith

-- the oldest that are left of records
oldest_along : (p : Party) (d : ℕ) (rs : List Record) → oldest (length (drop d rs)) (rules_along p rs) ≡ rules_along p (drop d rs)
oldest_along p d rs =
    let e : length (drop d rs) ≡ length (drop d (rules_along p rs)) = sym (ap length (along_drop p d rs) ∙ along_length p (drop d rs)) in
    ap (λ (k : ℕ). oldest k (rules_along p rs)) e ∙ drop_missing d (rules_along p rs) ∙ along_drop p d rs

-- ---- a step of its own board

-- before the first step there is no record
none_kept : (i : ℕ) → records_of [] i ≡ []
unfolding board_after records_from
none_kept i = refl

-- nor right after an accepted set-up
set_up_kept : (b : Board) (x : Verdict) (p : Party) → held_records b ≡ [] → held_records (after_set_up b x p) ≡ []
unfolding records_from
set_up_kept b Verdict.Accepted p e = refl
set_up_kept b (Verdict.Refused number place) p e = e

-- a reading leaves them
answer_kept : (b : Board) (z : Answer) → held_records (after_answer b z) ≡ held_records b
answer_kept b None = refl
answer_kept b (Some z) = refl

-- a refused call reports nothing
refused_reports : (c : Call) → Refuses c → (l : List ℕ) → call_reports c l ≡ l
refused_reports (set_up n t a g bytes) e l = refl
refused_reports (start p input lent used) e l = ap (λ (q : Found Entry). entry_reports p used q l) e.1.1
refused_reports (take_message_lem p sender bytes lent used) e l = ap (λ (q : Found Entry). entry_reports p used q l) e.1.1
refused_reports (read_answer p) e l = refl
refused_reports (read_count p g c) e l = refl
refused_reports (restore n t a g bytes lent) e l = refl

module _ (v : Instance) (plan : Plan) (bad : Set) (f : Shared v plan) where
  -- board i's reports are what its records count
  abbrev pub Reported : History → ℕ → Type 0
  Reported h i = reports h i ≡ rules_along (new_board v plan i) (records_of h i)

  module _ (h : History) (i : ℕ) (ih : reports h i ≡ rules_along (new_board v plan i) (records_of h i)) where
    -- the same reports, the same records
    stays : (b : Board) → held_records b ≡ records_of h i → reports h i ≡ rules_along (new_board v plan i) (held_records b)
    stays b e = ih ∙ ap (rules_along (new_board v plan i)) (sym e)

    -- an accepted start or take that found q
    by_entry : (a : Allowed v bad h) (k : i < v.n) (p : Party) (lent : Lent) (used : ℕ) (c : Continues (board_after h i) p lent used) (d : Act) (q : Found Entry) (b : Board)
        → b ≡ entered (board_after h i) d q
        → ((r : Record) (ran : Ran) → q ≡ found (fresh r ran) → (held_records b ≡ r ∷ records_of h i) × Recorded p (length lent.journal) used r ran)
        → entry_reports p used q (reports h i) ≡ rules_along (new_board v plan i) (held_records b)
    by_entry a k p lent used c d (found again) b e g = stays b (ap held_records e)
    by_entry a k p lent used c d (found (fresh r ran)) b e g =
        let x = g r ran refl in
        let does : ran.rules ≡ (replayed (lived (new_board v plan i) (records_of h i)).party r).rules =
        ap (λ (y : Ran). y.rules) (sym x.1.does ∙ ap (λ (y : Party). replayed y r) (party_lived v plan bad f h i p lent used a k c)) in
        ap₂ (λ (y : ℕ) (l : List ℕ). y ∷ l) does ih ∙ ap (rules_along (new_board v plan i)) (sym x.0)
    by_entry a k p lent used c d (refused number place) b e g = stays b (ap held_records e)

    by_call : (c : Call) → Allowed v bad (calls i c ∷ h) → Accepts v bad i h (board_after h i) c
        → call_reports c (reports h i) ≡ rules_along (new_board v plan i) (records_of (calls i c ∷ h) i)
    by_call (set_up n t a g bytes) (m, al) (e, o) =
        let s : Step = calls i (set_up n t a g bytes) in
        let w : TiedAfter v plan bad f h i = tied v plan bad f h al i m.0.0 in
        let z : records_of h i ≡ [] = records_of_lem v plan bad f h al i m.0.0 ∙ subst (AtStage v plan i (board_after h i) w.records) e w.stage in
        stays (board_after (s ∷ h) i) (ap held_records (own s h) ∙ set_up_kept (board_after h i) (set_up_of n t a g bytes).verdict (set_up_of n t a g bytes).party z ∙ sym z)
    by_call (start p input lent used) (m, al) c =
        by_entry al m.0.0 p lent used c (a_start (position_of p.plan (voted_input input)) input) (start_finds p input lent used) (board_after (calls i (start p input lent used) ∷ h) i)
        (start_board v plan bad f h i p lent used input c) (λ r ran e.
        (start_newest v plan bad f h i p lent used input (m, al) r ran e, (start_recorded p input lent used r ran e).2))
    by_call (take_message_lem p sender bytes lent used) (m, al) (c, from) =
        by_entry al m.0.0 p lent used c (a_take sender (exact_message bytes)) (take_finds p sender bytes lent used) (board_after (calls i (take_message_lem p sender bytes lent used) ∷ h) i)
        (take_board v plan bad f h i p lent used sender bytes c) (λ r ran e.
        (take_newest v plan bad f h i p lent used sender bytes (m, al) r ran e, (take_recorded p sender bytes (length lent.journal) used lent.out r ran e).3))
    by_call (read_answer p) al e =
        stays (board_after (calls i (read_answer p) ∷ h) i) (ap held_records (own (calls i (read_answer p)) h) ∙ answer_kept (board_after h i) (answered_of p).answer)
    by_call (read_count p g c) al e =
        stays (board_after (calls i (read_count p g c) ∷ h) i) (ap held_records (own (calls i (read_count p g c)) h) ∙ answer_kept (board_after h i) (read_as_count p g c).answer)
    by_call (restore n t a g bytes lent) al e =
        stays (board_after (calls i (restore n t a g bytes lent) ∷ h) i) (restore_records v plan bad f h i n t a g bytes lent al)

  by_own : (s : Step) (h : History) → Allowed v bad (s ∷ h) → Reported h (whose s)
      → step_reports s (records_of (s ∷ h) (whose s)) (reports h (whose s)) ≡ rules_along (new_board v plan (whose s)) (records_of (s ∷ h) (whose s))
  by_own (calls i c) h (m, a) ih = go m.1
    where
      go : Refuses c ⊎ Accepts v bad i h (board_after h i) c → call_reports c (reports h i) ≡ rules_along (new_board v plan i) (records_of (calls i c ∷ h) i)
      go (inl r) = refused_reports c r (reports h i) ∙ stays h i ih (board_after (calls i c ∷ h) i) (ap held_records (refused_nothing h i c r))
      go (inr e) = by_call h i ih c (m, a) e
  by_own (hands i bytes) h a ih = stays h i ih (board_after (hands i bytes ∷ h) i) (ap held_records (own (hands i bytes) h))
  by_own (cut i left) h a ih =
      let d = cut_oldest v plan bad f h i left a in
      let p : Party = new_board v plan i in
      ap₂ oldest (ap length d.1) ih ∙ oldest_along p d.0 (records_of h i) ∙ ap (rules_along p) (sym d.1)

  -- ---- whole histories

  pub reported : (h : History) → Allowed v bad h → (i : ℕ) → Reported h i
  unfolding reports
  reported [] a i = ap (rules_along (new_board v plan i)) (sym (none_kept i))
  reported (s ∷ h) (m, a) i = go (eqb (whose s) i) refl (reported h a)
    where
      go : (c : Bool) → eqb (whose s) i ≡ c → ((j : ℕ) → Reported h j) → pick c (step_reports s (records_of (s ∷ h) i) (reports h i)) (reports h i) ≡ rules_along (new_board v plan i) (records_of (s ∷ h) i)
      go true e ih =
          subst (λ (j : ℕ). step_reports s (records_of (s ∷ h) j) (reports h j) ≡ rules_along (new_board v plan j) (records_of (s ∷ h) j)) (eqb→eq (whose s) i (true→T e))
          (by_own s h (m, a) (ih (whose s)))
      go false e ih = stays h i (ih i) (board_after (s ∷ h) i) (ap held_records (other s h i e))
