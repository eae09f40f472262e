-- On every allowed history the calls of a board that count stand beside the records of its journal.
use mathlib.Core.Path.{◌≡◌, refl, sym, ap, ◌∙◌, subst, subst₂}
use mathlib.Core.Logic.{◌⊎◌, inl, inr}
use mathlib.Core.Bool.{Bool, true, false, not}
use mathlib.Core.List.{List, [], ◌∷◌}
use Prim.Native.Nat.{ℕ, ◌+◌, ◌<◌}
use native.Mathlib.Omega.{arith}
use lib.Dec.{T, leb, ltb, eqb, eqb→eq}
use lib.IntN.{ℤ}
use lib.ListN.{length}
use Rattle.std.specs.Prelude.{Ok, Some, None, Err}
use Rattle.base.specs.Pick.{pick}
use Rattle.base.specs.Sets.{Set}
use Rattle.base.specs.Limits.{last_level}
use Rattle.base.proofs.Bools.{T-right, T_and, true→T}
use Rattle.base.specs.Verdict.{Verdict}
use Rattle.base.specs.Found.{Found, found, refused, ask}
use Rattle.plan.specs.Plan.{Plan}
use Rattle.plan.proofs.Listed.{asked}
use Rattle.message.specs.declared.Message.{Message}
use Rattle.message.specs.Reading.{Exactly, broken, exact_message}
use Rattle.message.specs.Message.{body_in_table}
use Rattle.senders.specs.Senders.{is_in}
use Rattle.level.specs.Level.{no_output, senders, held}
use Rattle.journal.specs.declared.Record.{Record}
use Rattle.journal.specs.declared.Record.TheVariants.{Start, Taken}
use Rattle.journal.specs.Journal.{record_bytes}
use Rattle.journal.specs.Records.{journal_bytes}
use Rattle.journal.specs.Reading.{records_from}
use Rattle.journal.proofs.Records.{journal_length}
use Rattle.party.specs.Party.{Party, level_at, started, held_by}
use Rattle.party.specs.Run.{Ran, starting, taking}
use Rattle.party_life.specs.Life.{replayed}
use Rattle.board_calls.specs.Answers.{position_of, Answer}
use Rattle.board_calls.specs.Calls.{Entry, again, fresh, fitting, set_up_of, start_questions, take_message, take_questions, answered_of}
use Rattle.board_calls.specs.Restore.{Replay}
use Rattle.vote_machine.specs.Machine.{Heard}
use Rattle.agreement.specs.History.{Instance, Lent, StartInput, voted_input, Call, set_up, start, take_message_lem, read_answer, read_count, restore, start_finds, take_finds, restore_finds, read_as_count, Step, calls, hands, cut, whose, History, Stage, waiting, running, down, a_start, a_take, Counted, Board, after_set_up, after_answer, after_restore, cut_off, after_cut, board_after}
use Rattle.agreement.specs.Allowed.{Refuses, Continues, Accepts, Allowed}
use Rattle.agreement.specs.Demand.{Shared}
use Rattle.agreement.specs.Inner.{records_of}
use Rattle.agreement.proofs.Entries.{past_door, Recorded, voted_start, start_recorded, take_recorded, exact_table}
use Rattle.agreement.proofs.Lent.{entered}
use Rattle.agreement.proofs.Tied.{new_board, Running, AtStage}
use Rattle.agreement.proofs.Histories.{TiedAfter, tied}
use Rattle.agreement.proofs.Boards.{running_state, state_plan, records_of_lem, took_state}
use Rattle.agreement.proofs.Steps.{held_records, own, other, refused_nothing, party_lived, start_board, start_newest, take_board, take_newest, cut_left, restore_records}
use Rattle.agreement.proofs.Counted.{Says, Follows, cut_follows}

-- ---- calls without a record

-- what fits the journal has a record
fitting_fresh : (room used : ℕ) (r : Record) (ran : Ran) → fitting room used r ran ≡ found again → ⊥
fitting_fresh room used r ran e =
    let y = asked (leb (used + length (record_bytes r)) room) 17 0 (found (fresh r ran)) again e in
    let z : found (fresh r ran) ≡ found again = y.1 in
    let o : ◌≡◌ {A = ℕ} 0 1 = cc in omega arith

-- an accepted start has one
position_fresh : (p : Party) (z : ℤ) (room used out : ℕ) → start_questions p z room used out ≡ found again → ⊥
unfolding start_questions
position_fresh p z room used out e = fitting_fresh room used (Start p.agreement x) (starting p x) twelve.1
  where
    x : ℕ
    x = position_of p.plan z

    last : Found Entry
    last = fitting room used (Start p.agreement x) (starting p x)

    thirteen : T (not (started p)) × (ask (not (eqb x no_output)) 12 0 last ≡ found again)
    thirteen = asked (not (started p)) 13 0 (ask (not (eqb x no_output)) 12 0 last) again (past_door p room used out _ again e)

    twelve : T (not (eqb x no_output)) × (last ≡ found again)
    twelve = asked (not (eqb x no_output)) 12 0 last again thirteen.1

start_fresh : (p : Party) (input : StartInput) (lent : Lent) (used : ℕ) → start_finds p input lent used ≡ found again → ⊥
start_fresh p input lent used e = position_fresh p (voted_input input) (length lent.journal) used lent.out (voted_start p input lent used again e)

-- a take without one read a message that was heard before
held_heard : (p : Party) (s : ℕ) (bytes : List ℕ) (room used out : ℕ) → take_questions p s bytes room used out ≡ found again
    → (m : Message) × (exact_message bytes ≡ Ok m) × Heard p s m
unfolding take_questions held_by held
held_heard p s bytes room used out e = go (exact_message bytes) refl (asked (ltb s p.n) 14 0 (take_message p s room used (exact_message bytes)) again (past_door p room used out _ again e)).1
  where
    before : (m : Message) (b : Bool) → pick b (found again) (fitting room used (Taken s m) (taking p s m)) ≡ found again → T b
    before m true x = tt
    before m false x = absurd (fitting_fresh room used (Taken s m) (taking p s m) x)

    go : (x : Exactly) → exact_message bytes ≡ x → take_message p s room used x ≡ found again → (m : Message) × (x ≡ Ok m) × Heard p s m
    go (Ok m) g k =
        let sixteen = asked (eqb m.number p.agreement) 16 0 (pick (held_by p s m) (found again) (fitting room used (Taken s m) (taking p s m))) again k in (
          m,
          refl,
          record {
            number = eqb→eq m.number p.agreement sixteen.0;
            body = T_and (body_in_table m.body) (is_in (senders (level_at p m.level) m.body) s) (T-right (leb m.level last_level) (body_in_table m.body) (true→T (exact_table bytes m g)))
                (before m (held_by p s m) sixteen.1);
          },
        )
    go (Err y) g k = let o : ◌≡◌ {A = ℕ} 0 1 = cc in absurd (omega arith)

module _ (v : Instance) (plan : Plan) (bad : Set) (f : Shared v plan) where
  -- a board's calls beside its records
  abbrev pub FollowsIn : ℕ → Board → Type 0
  FollowsIn i b = Follows plan (new_board v plan i) b.counted (held_records b)

  module _ (h : History) (i : ℕ) (a : Allowed v bad h) (k : i < v.n) (ih : Follows plan (new_board v plan i) (board_after h i).counted (records_of h i)) where
    abbrev b : Board
    b = board_after h i

    -- the used bytes are those of the records
    used_records : (board_after h i).stage ≡ running → length (board_after h i).journal ≡ length (journal_bytes (records_of h i))
    used_records up =
        let w : TiedAfter v plan bad f h i = tied v plan bad f h a i k in
        let u : Running v plan i (board_after h i) w.records = subst (AtStage v plan i (board_after h i) w.records) up w.stage in
        ap length u.journal ∙ ap (λ (rs : List Record). length (journal_bytes rs)) (sym (records_of_lem v plan bad f h a i k))

    module _ (p : Party) (lent : Lent) (used : ℕ) (c : Continues (board_after h i) p lent used) where
      same_plan : p.plan ≡ plan
      same_plan = ap (λ (q : Party). q.plan) (c.same ∙ running_state v plan bad f h a i k c.up) ∙ state_plan v plan bad f h a i k

      -- a call that wrote a record
      by_fresh : (d : Counted) (r : Record) (ran : Ran) → Recorded p (length lent.journal) used r ran → Says plan d.act r → d.made ≡ ran.made
          → d.used ≡ length (board_after h i).journal + length (record_bytes r) → (rs : List Record) → rs ≡ r ∷ records_of h i
          → Follows plan (new_board v plan i) (d ∷ (board_after h i).counted) rs
      by_fresh d r ran x says made long rs e = inr (
        records_of h i,
        record {
          newest = r;
          records = e;
          says = says;
          made = made ∙ ap (λ (y : Ran). y.made) (sym x.does ∙ ap (λ (q : Party). replayed q r) (party_lived v plan bad f h i p lent used a k c));
          used = omega (arith, long, used_records c.up, journal_length r (records_of h i), ap (λ (ts : List Record). length (journal_bytes ts)) e);
        },
        ih,
      )

    by_set_up : (x : Verdict) (p : Party) → FollowsIn i (after_set_up (board_after h i) x p)
    unfolding records_from
    by_set_up Verdict.Accepted p = refl
    by_set_up (Verdict.Refused number place) p = ih

    by_answer : (z : Answer) → FollowsIn i (after_answer (board_after h i) z)
    by_answer None = ih
    by_answer (Some z) = ih

    -- a restore leaves both as they were
    restored_counted : (lent : Lent) (q : Found Replay) → (after_restore (board_after h i) lent q).counted ≡ (board_after h i).counted
    restored_counted lent (found r) = refl
    restored_counted lent (refused number place) = refl

    cut_both : (left : ℕ) → FollowsIn i (cut_off (board_after h i) left)
    cut_both left =
        let x = cut_left v plan bad f h a i left k in
        subst (Follows plan (new_board v plan i) (cut_off b left).counted) (sym x.records)
        (cut_follows plan (new_board v plan i) left b.counted (records_of h i) ih x.lost x.fits x.least)

    by_cut : (s : Stage) (left : ℕ) → FollowsIn i (after_cut (board_after h i) s left)
    by_cut waiting left = ih
    by_cut running left = cut_both left
    by_cut down left = cut_both left

    by_call : (c : Call) → Allowed v bad (calls i c ∷ h) → Accepts v bad i h (board_after h i) c → FollowsIn i (board_after (calls i c ∷ h) i)
    by_call (set_up n t o g bytes) al x =
        subst (FollowsIn i) (sym (own (calls i (set_up n t o g bytes)) h)) (by_set_up (set_up_of n t o g bytes).verdict (set_up_of n t o g bytes).party)
    by_call (start p input lent used) al c = go (start_finds p input lent used) refl
      where
        board : (q : Found Entry) → start_finds p input lent used ≡ q → board_after (calls i (start p input lent used) ∷ h) i ≡ entered (board_after h i) (a_start (position_of p.plan (voted_input input)) input) q
        board q e = start_board v plan bad f h i p lent used input c ∙ ap (entered (board_after h i) (a_start (position_of p.plan (voted_input input)) input)) e

        go : (q : Found Entry) → start_finds p input lent used ≡ q → FollowsIn i (board_after (calls i (start p input lent used) ∷ h) i)
        go (found again) e = absurd (start_fresh p input lent used e)
        go (refused number place) e = subst (FollowsIn i) (sym (board (refused number place) e)) ih
        go (found (fresh r ran)) e =
            let g = start_recorded p input lent used r ran e in
            let at : position_of plan (voted_input input) ≡ position_of p.plan (voted_input input) = ap (λ (y : Plan). position_of y (voted_input input)) (sym (same_plan p lent used c)) in
            subst (λ (cs : List Counted). Follows plan (new_board v plan i) cs (records_of (calls i (start p input lent used) ∷ h) i))
            (ap (λ (y : Board). y.counted) (sym (board (found (fresh r ran)) e)))
            (by_fresh p lent used c (record { act = a_start (position_of p.plan (voted_input input)) input; made = ran.made; used = length b.journal + length (record_bytes r) }) r ran g.2
            (p.agreement, g.0, at, g.1) refl refl (records_of (calls i (start p input lent used) ∷ h) i) (start_newest v plan bad f h i p lent used input al r ran e))
    by_call (take_message_lem p s bytes lent used) al (c, from) = go (take_finds p s bytes lent used) refl
      where
        board : (q : Found Entry) → take_finds p s bytes lent used ≡ q → board_after (calls i (take_message_lem p s bytes lent used) ∷ h) i ≡ entered (board_after h i) (a_take s (exact_message bytes)) q
        board q e = take_board v plan bad f h i p lent used s bytes c ∙ ap (entered (board_after h i) (a_take s (exact_message bytes))) e

        go : (q : Found Entry) → take_finds p s bytes lent used ≡ q → FollowsIn i (board_after (calls i (take_message_lem p s bytes lent used) ∷ h) i)
        go (found again) e =
            let x = held_heard p s bytes (length lent.journal) used lent.out e in
            subst (FollowsIn i) (sym (board (found again) e))
            (inl (
              record {
                sender = s;
                message = x.0;
                act = ap (a_take s) x.1;
                held =
                    (took_state v plan bad f h a i k s x.0).1
                    (subst (λ (q : Party). Heard q s x.0) (c.same ∙ running_state v plan bad f h a i k c.up) x.2);
                made = refl;
                used = used_records c.up;
              },
              ih,
            ))
        go (refused number place) e = subst (FollowsIn i) (sym (board (refused number place) e)) ih
        go (found (fresh r ran)) e =
            let g = take_recorded p s bytes (length lent.journal) used lent.out r ran e in
            subst (λ (cs : List Counted). Follows plan (new_board v plan i) cs (records_of (calls i (take_message_lem p s bytes lent used) ∷ h) i))
            (ap (λ (y : Board). y.counted) (sym (board (found (fresh r ran)) e)))
            (by_fresh p lent used c (record { act = a_take s (exact_message bytes); made = ran.made; used = length b.journal + length (record_bytes r) }) r ran g.3
            (g.0, g.1, g.2) refl refl (records_of (calls i (take_message_lem p s bytes lent used) ∷ h) i) (take_newest v plan bad f h i p lent used s bytes al r ran e))
    by_call (read_answer p) al x = subst (FollowsIn i) (sym (own (calls i (read_answer p)) h)) (by_answer (answered_of p).answer)
    by_call (read_count p g c) al x = subst (FollowsIn i) (sym (own (calls i (read_count p g c)) h)) (by_answer (read_as_count p g c).answer)
    by_call (restore n t o g bytes lent) al x =
        subst₂ (Follows plan (new_board v plan i))
        (sym (ap (λ (y : Board). y.counted) (own (calls i (restore n t o g bytes lent)) h) ∙ restored_counted lent (restore_finds n t o g bytes lent)))
        (sym (restore_records v plan bad f h i n t o g bytes lent al)) ih

  by_own : (s : Step) (h : History) → Allowed v bad (s ∷ h) → FollowsIn (whose s) (board_after h (whose s)) → FollowsIn (whose s) (board_after (s ∷ h) (whose s))
  by_own (calls i c) h (m, a) ih = go m.1
    where
      go : Refuses c ⊎ Accepts v bad i h (board_after h i) c → FollowsIn i (board_after (calls i c ∷ h) i)
      go (inl r) = subst (FollowsIn i) (sym (refused_nothing h i c r)) ih
      go (inr x) = by_call h i a m.0.0 ih c (m, a) x
  by_own (hands i bytes) h (m, a) ih = subst (FollowsIn i) (sym (own (hands i bytes) h)) ih
  by_own (cut i left) h (m, a) ih = subst (FollowsIn i) (sym (own (cut i left) h)) (by_cut h i a m.0.0 ih (board_after h i).stage left)

  pub follows : (h : History) → Allowed v bad h → (i : ℕ) → Follows plan (new_board v plan i) (board_after h i).counted (records_of h i)
  unfolding board_after records_from
  follows [] a i = refl
  follows (s ∷ h) (m, a) i = go (eqb (whose s) i) refl (follows h a)
    where
      go : (c : Bool) → eqb (whose s) i ≡ c → ((j : ℕ) → FollowsIn j (board_after h j)) → FollowsIn i (board_after (s ∷ h) i)
      go true e ih = subst (λ (j : ℕ). FollowsIn j (board_after (s ∷ h) j)) (eqb→eq (whose s) i (true→T e)) (by_own s h (m, a) (ih (whose s)))
      go false e ih = subst (FollowsIn i) (sym (other s h i e)) (ih i)
