-- Board 0 in a history of the vote on the star, by the record of its level 0: what set-up, start, a take and a handing over make of it.
use mathlib.Core.Path.{◌≡◌, refl, sym, ap, ◌∙◌, subst}
use mathlib.Core.Logic.{◌⊎◌, inl, inr}
use mathlib.Core.Bool.{false}
use mathlib.Core.List.Memᴰ
use mathlib.Core.List.{List, [], ◌∷◌, ◌++◌, Memᴰ}
use Prim.Native.Nat.{ℕ, ◌+◌, ◌≤◌, ◌<◌}
use native.Mathlib.Omega.{arith}
use lib.Dec.{T}
use lib.IntN.{ℤ, pos}
use lib.ListN.{length, replicate, length-append}
use lib.Seq.{take-append_seam}
use Rattle.std.specs.Prelude.{Ok}
use Rattle.base.specs.Limits.{max_rules, outgoing_size}
use Rattle.base.specs.Found.{found}
use Rattle.base.proofs.Bools.{T→true}
use Rattle.plan.specs.Positions.{reading_of}
use Rattle.message.specs.declared.Body.{Body}
use Rattle.message.specs.declared.Message.{Message}
use Rattle.message.specs.Message.{in_table, message_bytes}
use Rattle.message.specs.Reading.{exact_message}
use Rattle.message.proofs.RoundTrip.{exact_message_read}
use Rattle.journal.specs.declared.Record.{Record}
use Rattle.journal.specs.declared.Record.TheVariants.{Start, Taken}
use Rattle.journal.specs.Journal.{record_bytes}
use Rattle.level.specs.Level.{Level, blank_level, held, with_heard}
use Rattle.party.specs.Party.{Party, level_at, started, held_by}
use Rattle.party.specs.Run.{Ran, starting, taking}
use Rattle.party.specs.Valid.{party_valid}
use Rattle.board_calls.specs.Answers.{position_of}
use Rattle.board_calls.specs.Calls.{SetUp, fresh}
use Rattle.board_laws.proofs.Questions.{take_fits}
use Rattle.board_promises.proofs.Starts.{start_anywhere}
use Rattle.agreement.specs.History.{Lent, plain, set_up, start_finds, take_finds, Step, calls, hands, History, running, Act, a_start, a_take, Counted, Board, unborn, after_set_up, after_entry, board_after}
use Rattle.agreement.specs.Allowed.{Sound, Handed, Continues, Allowed}
use Rattle.agreement.specs.Demand.{Made, Shared}
use Rattle.agreement.proofs.Tied.{set_up_found}
use Rattle.agreement.proofs.Boards.{running_state, state_formed}
use Rattle.agreement_histories.specs.Scripts.{starts, takes, reads, sends, lent, says, step_of}
use Rattle.agreement_histories.proofs.Worlds.{same}
use Rattle.agreement_histories.proofs.Computing.{computing}
use Rattle.agreement_seven.specs.Unbounded.{vote, star, plan, bad}
use Rattle.agreement_seven.proofs.OneLevel.{at, Rest, level_run, Follows, begun, start_follows, take_follows}

pub shared : Shared vote plan
unfolding computing star
shared = record { boards = omega arith; faults = omega arith; number = omega arith; reads = refl }

pub sound : Sound vote bad 0
sound = (omega arith, tt)

-- ---- after a history board 0 has this level, made these messages, and handed those over

pub record Stands (h : History) (l : Level) (ms sent : List Message) : Type 0 where
  pub allowed : Allowed vote bad h
  pub up : (board_after h 0).stage ≡ running
  pub party : (board_after h 0).party ≡ at l
  pub made : (m : Message) → Memᴰ m ms → Made h 0 m
  pub posted : (m : Message) → Memᴰ m ms → Memᴰ m (board_after h 0).outbox
  pub handed : (m : Message) → Memᴰ m sent → Handed 0 (message_bytes m) h

first_board : board_after (calls 0 (set_up 2 0 0 1 vote.plan) ∷ []) 0
    ≡ record { stage = running; party = at blank_level; journal = []; guarded = 0; outbox = []; counted = [] }
unfolding board_after
first_board = ap (λ (s : SetUp). after_set_up unborn s.verdict s.party) (set_up_found vote plan shared 0 (omega arith))

set_up_stands : Stands (calls 0 (set_up 2 0 0 1 vote.plan) ∷ []) blank_level [] []
unfolding board_after
set_up_stands = record {
  allowed = ((sound, inr (refl, record { boards = refl; faults = refl; seat = refl; number = refl; bytes = refl })), tt);
  up = ap (λ (b : Board). b.stage) first_board;
  party = ap (λ (b : Board). b.party) first_board;
  made = λ m k. absurd (Memᴰ.not-nil k);
  posted = λ m k. absurd (Memᴰ.not-nil k);
  handed = λ m k. absurd (Memᴰ.not-nil k);
}

-- an accepted call with a record
entry : (h : History) (l : Level) (ms sent : List Message) → Stands h l ms sent → (s : Step) (a : Act) (j : Lent) (used : ℕ) (r : Record) (ran : Ran) (next : Rest)
    → Allowed vote bad (s ∷ h) → board_after (s ∷ h) 0 ≡ after_entry (board_after h 0) a (board_after h 0).party j used (found (fresh r ran)) → Follows ran next
    → Stands (s ∷ h) next.level (ms ++ next.made) sent
entry h l ms sent w s a j used r ran next ok e g = record {
  allowed = ok;
  up = ap (λ (b : Board). b.stage) e ∙ w.up;
  party = ap (λ (b : Board). b.party) e ∙ g.party;
  made = λ m k. subst (λ (b : Board). (c : Counted) × Memᴰ c b.counted × Memᴰ m c.made) (sym e) (made_more m (Memᴰ.append_cases ms k));
  posted = λ m k. subst (λ (b : Board). Memᴰ m b.outbox) (sym e) (posted_more m (Memᴰ.append_cases ms k));
  handed = λ m k. Memᴰ.tail (w.handed m k);
}
  where
    new : Board
    new = after_entry (board_after h 0) a (board_after h 0).party j used (found (fresh r ran))

    made_more : (m : Message) → Memᴰ m ms ⊎ Memᴰ m next.made → (c : Counted) × Memᴰ c new.counted × Memᴰ m c.made
    made_more m (inl k) = let x = w.made m k in (x.0, Memᴰ.tail x.1, x.2)
    made_more m (inr k) =
        (record { act = a; made = ran.made; used = used + length (record_bytes r) }, Memᴰ.head refl, subst (λ (x : List Message). Memᴰ m x) (sym g.made) k)

    posted_more : (m : Message) → Memᴰ m ms ⊎ Memᴰ m next.made → Memᴰ m new.outbox
    posted_more m (inl k) = Memᴰ.append_left ran.made (w.posted m k)
    posted_more m (inr k) = Memᴰ.append_right (board_after h 0).outbox (subst (λ (x : List Message). Memᴰ m x) (sym g.made) k)

module _ (h : History) (l : Level) (ms sent : List Message) (w : Stands h l ms sent) where
  abbrev b : Board
  b = board_after h 0

  valid : T (party_valid (board_after h 0).party)
  valid =
      subst (λ (q : Party). T (party_valid q)) (sym (running_state vote plan bad shared h w.allowed 0 (omega arith) w.up))
      (state_formed vote plan bad shared h w.allowed 0 (omega arith)).valid

  continues : Continues (board_after h 0) (board_after h 0).party (lent (board_after h 0).journal) (length (board_after h 0).journal)
  continues = record { up = w.up; same = refl; at = refl; kept = take-append_seam b.journal (replicate 32 0) }

  room : (k : ℕ) → k ≤ 32 → length (board_after h 0).journal + k ≤ length (lent (board_after h 0).journal).journal
  room k f = let e : length (b.journal ++ replicate 32 0) ≡ length b.journal + 32 = length-append b.journal (replicate 32 0) in omega (arith, e)

  -- a message that was not taken before, from the faulty board or handed over by itself
  pub take_stands : (s : ℕ) (y : Body) → s < 2 → T (in_table (says y)) → length (record_bytes (Taken s (says y))) ≤ 32 → held l y s ≡ false
      → (Sound vote bad s → Handed s (message_bytes (says y)) h) → T (level_run max_rules (with_heard l y s)).fine
      → Stands (step_of vote (board_after h 0) (takes 0 s (says y)) ∷ h) (level_run max_rules (with_heard l y s)).level (ms ++ (level_run max_rules (with_heard l y s)).made) sent
  unfolding board_after held_by level_at
  take_stands s y low table short new given fine =
      let p : Party = b.party in
      let r : Record = Taken s (says y) in
      let j : Lent = lent b.journal in
      let used : ℕ = length b.journal in
      let one : exact_message (message_bytes (says y)) ≡ Ok (says y) = exact_message_read (says y) (T→true (in_table (says y)) table) (omega arith) in
      let e : take_finds p s (message_bytes (says y)) j used ≡ found (fresh r (taking p s (says y))) =
      take_fits p s (message_bytes (says y)) (length j.journal) used outgoing_size valid (omega arith) (omega (arith, room 0 (omega arith)))
      (subst (λ (q : Party). s < q.n) (sym w.party) low) (says y) one
      (ap (λ (q : Party). q.agreement) (sym w.party)) (ap (λ (q : Party). held_by q s (says y)) w.party ∙ new) (room (length (record_bytes r)) short) in
      entry h l ms sent w (step_of vote b (takes 0 s (says y))) (a_take s (exact_message (message_bytes (says y)))) j used r (taking p s (says y)) (level_run max_rules (with_heard l y s))
      ((sound, inr (continues, given)), w.allowed)
      (ap (after_entry b (a_take s (exact_message (message_bytes (says y)))) p j used) e)
      (subst (λ (q : Party). Follows (taking q s (says y)) (level_run max_rules (with_heard l y s))) (sym w.party) (take_follows l s y new fine))

  -- a message made is handed over
  pub send_stands : (m : Message) → Memᴰ m ms → Stands (step_of vote (board_after h 0) (sends 0 m) ∷ h) l ms (m ∷ sent)
  unfolding board_after
  send_stands m k = record {
    allowed = ((sound, w.up, (m, refl, w.posted m k)), w.allowed);
    up = w.up;
    party = w.party;
    made = w.made;
    posted = w.posted;
    handed = λ x g. go x (Memᴰ.cases_cons g);
  }
    where
      go : (x : Message) → (x ≡ m) ⊎ Memᴰ x sent → Handed 0 (message_bytes x) (hands 0 (message_bytes m) ∷ h)
      go x (inl e) = Memᴰ.head (ap (λ (y : Message). hands 0 (message_bytes y)) e)
      go x (inr g) = Memᴰ.tail (w.handed x g)

-- ---- the start

reading_0 : reading_of plan 0 ≡ pos 0
unfolding reading_of
reading_0 = refl

short_start : length (record_bytes (Start 1 0)) ≤ 32
unfolding computing
short_start = omega arith

starts_at_lem : (h : History) (w : Stands h blank_level [] []) → start_finds (board_after h 0).party (plain (pos 0)) (lent (board_after h 0).journal) (length (board_after h 0).journal)
    ≡ found (fresh (Start (board_after h 0).party.agreement 0) (starting (board_after h 0).party 0))
unfolding level_at
starts_at_lem h w =
    let p : Party = (board_after h 0).party in
    let j : Lent = lent (board_after h 0).journal in
    let used : ℕ = length (board_after h 0).journal in
    subst (λ (z : ℤ). start_finds p (plain z) j used ≡ found (fresh (Start p.agreement 0) (starting p 0))) (ap (λ (q : Party). reading_of q.plan 0) w.party ∙ reading_0)
    (start_anywhere p (valid h blank_level [] [] w) (λ t. subst (λ (q : Party). T (started q)) w.party t) 0 (length j.journal) used outgoing_size
    (subst (λ (q : Party). 0 < q.plan.count) (sym w.party) (omega arith)) (omega arith)
    (room h blank_level [] [] w (length (record_bytes (Start p.agreement 0))) (subst (λ (q : Party). length (record_bytes (Start q.agreement 0)) ≤ 32) (sym w.party) short_start)))

abbrev pub set_up_step : Step
set_up_step = calls 0 (set_up 2 0 0 1 vote.plan)

abbrev pub start_step : Step
start_step = step_of vote (board_after (set_up_step ∷ []) 0) (starts 0 (pos 0))

pub start_stands : T (level_run max_rules begun).fine → Stands (start_step ∷ set_up_step ∷ []) (level_run max_rules begun).level (level_run max_rules begun).made []
unfolding board_after
start_stands fine =
    let h : History = set_up_step ∷ [] in
    let w : Stands h blank_level [] [] = set_up_stands in
    let b : Board = board_after h 0 in
    let p : Party = b.party in
    let r : Record = Start p.agreement 0 in
    let j : Lent = lent b.journal in
    let used : ℕ = length b.journal in
    let e : start_finds p (plain (pos 0)) j used ≡ found (fresh r (starting p 0)) = starts_at_lem h w in
    entry h blank_level [] [] w start_step (a_start (position_of p.plan (pos 0)) (plain (pos 0))) j used r (starting p 0) (level_run max_rules begun)
    ((sound, inr (continues h blank_level [] [] w)), w.allowed)
    (ap (after_entry b (a_start (position_of p.plan (pos 0)) (plain (pos 0))) p j used) e)
    (subst (λ (q : Party). Follows (starting q 0) (level_run max_rules begun)) (sym w.party) (start_follows fine))
