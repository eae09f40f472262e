-- The pass that replays the records: those so far are replayed, and their messages written one after the other.
use mathlib.Core.Path.{◌≡◌, refl, sym, ap, ◌∙◌, subst}
use mathlib.Core.List.{List}
use Prim.Native.Nat.{ℕ, ◌+◌, ◌≤◌, ◌<◌}
use native.Mathlib.Omega.{arith}
use lib.Dec.{T}
use lib.ListN.{length}
use borrow.Author.Tests.{le-ltb}
use Rattle.std.specs.Prelude.{Ok}
use Rattle.base.specs.Put.{put_at}
use Rattle.base.specs.Limits.{max_rules}
use Rattle.base.specs.Verdict.{Verdict}
use Rattle.base.specs.Found.{Found, found}
use Rattle.base.proofs.Puts.{put_none, then_put}
use Rattle.varint.specs.declared.Parsed.{Parsed}
use Rattle.component_laws.proofs.Laws.{rows_lent}
use Rattle.component.specs.Inner.{Lent}
use Rattle.message.specs.declared.Message.{Message}
use Rattle.journal.specs.declared.Record.{Record}
use Rattle.journal.specs.Reading.{RecordRead, whole_record, record_at}
use Rattle.party.specs.declared.Chart.{Chart}
use Rattle.party.specs.Party.{Party, sending}
use Rattle.party.specs.Run.{Ran, resting, bytes_of}
use Rattle.party.specs.Valid.{party_valid}
use Rattle.party.specs.Inner.{Charts}
use Rattle.party_life.specs.Life.{replayed, following, Fits}
use Rattle.party_run.specs.Inner.{Outcome, Gives, Ready, Room}
use Rattle.party_run.proofs.Going.{bytes_none, bytes_append, bytes_length}
use Rattle.board_calls.specs.Calls.{Called}
use Rattle.board_calls.specs.Restore.{Replay, replay_from, restored_of, restore_outgoing}
use Rattle.board_calls.specs.Results.{RestoreGives}
use Rattle.board_laws.specs.Inner.{New, One, Many, none}
use Rattle.board_laws.proofs.Replays.{new_entered, new_sized, one_record, one_read, many_sized, many_board, many_first, many_last, many_then, many_rules, many_outgoing}
use Rattle.board_restore.specs.Inner.{Ends, Replayable}

-- ---- a party that has entered no level

-- any chart of no level is its chart
pub new_charts : {p : Party} → New p → {c : Chart} → c.sending ≡ 0 → Charts p c
unfolding sending
new_charts {p} w e = record {
  sends = λ i h. rw (new_entered p w i h, e) (sym (le-ltb i 0 (omega arith)));
  last = omega (arith, e);
  surveys = λ i h. absurd (omega (arith, e));
  deepest = λ i h. absurd (omega (arith, e));
  numbered = λ i h. absurd (omega (arith, e));
}

-- ---- the pass

-- a restore that is accepted
restored_gives : {out out_then : List ℕ} {r : Called} {q : Found Replay} {x : Replay} → q ≡ found x → r ≡ restored_of (found x) → out_then ≡ restore_outgoing out (found x)
    → RestoreGives q out r out_then
restored_gives {out} e i k = record { result = i ∙ ap restored_of (sym e); outgoing = k ∙ ap (restore_outgoing out) (sym e) }

-- the records before `at` are replayed, and those from there to `end` are left, where all make q; the messages made so far are written from the first byte on
pub record Replaying (p : Party) (j : List ℕ) (end : ℕ) (out : List ℕ) (now : Party) (d : Chart) (sum sent at : ℕ) (out_now : List ℕ) : Type 0 where
  pub r : Ran
  pub q : Ran
  pub ends : Ends p j end q
  pub done : Many j 0 (resting p) at r
  pub rest : Many j at r end q
  pub party : now ≡ r.party
  pub chart : Charts now d
  pub rules : sum ≡ r.rules
  pub bytes : sent ≡ length (bytes_of r.made)
  pub outgoing : out_now ≡ put_at out 0 (bytes_of r.made)
  pub long : length out_now ≡ length out

pub replaying_start : {p : Party} {j : List ℕ} {end : ℕ} {out : List ℕ} → Replayable p j end (length out) → {c : Chart} → c.sending ≡ 0
    → Replaying p j end out p c 0 0 0 out
replaying_start {p} {j} {end} {out} h e = record {
  r = resting p;
  q = h.ran;
  ends = h.ends;
  done = none;
  rest = h.ends.records;
  party = refl;
  chart = new_charts h.new e;
  rules = refl;
  bytes = ap length (sym bytes_none);
  outgoing = sym (ap (put_at out 0) bytes_none ∙ put_none out 0);
  long = refl;
}

module _ {p : Party} {j : List ℕ} {end : ℕ} {out : List ℕ} (w : Replayable p j end (length out)) {now : Party} {d : Chart} {sum sent at : ℕ}
    {out_now : List ℕ} (s : Replaying p j end out now d sum sent at out_now) where
  module _ (h : at < end) where
    -- a record stands there
    pub replaying_read : (r : RecordRead) → r ≡ record_at j at → ((x : Parsed Record) → r ≡ Ok x → ⊥) → ⊥
    replaying_read r e n = let x = one_record (many_first s.rest h).2 in n _ (e ∙ x.1)

    module _ {x : Record} {next : ℕ} (e : record_at j at ≡ whole_record x next) where
      abbrev then : Ran
      then = following s.r (replayed s.r.party x)

      here : (next ≡ (many_first s.rest h).0) × Fits s.r.party x × ((many_first s.rest h).1 ≡ then)
      here = one_read (many_first s.rest h).2 e

      -- it is the next
      ahead : One j at s.r next then
      ahead =
          subst (λ (n : ℕ). One j at s.r n then) (sym here.0)
          (subst (One j at s.r (many_first s.rest h).0) here.2 (many_first s.rest h).2)

      left : Many j next then end s.q
      left =
          subst (λ (n : ℕ). Many j n then end s.q) (sym here.0)
          (subst (λ (z : Ran). Many j (many_first s.rest h).0 z end s.q) here.2 (many_first s.rest h).3)

      -- its messages
      abbrev added : List Message
      added = (replayed s.r.party x).made

      same : replayed now x ≡ replayed s.r.party x
      same = ap (λ (z : Party). replayed z x) s.party

      -- with those before, they fit the buffer
      fits : length (bytes_of s.r.made) + length (bytes_of added) ≤ length out
      fits = omega (arith, many_outgoing p w.new (many_then s.done ahead), bytes_length s.r.made added, w.room)

      pub replaying_asks : Ready now d × Room (replayed now x) sent (length out_now) × Fits now x
      replaying_asks =
          let sized = many_sized s.done (new_sized p w.new) in
          let plan = ap (λ (z : Party). z.plan) s.party ∙ (many_board s.done).plan in (
            record {
              valid = subst (λ (z : Party). T (party_valid z)) (sym s.party) sized.formed.valid;
              rows = subst Lent (sym plan) (rows_lent p.plan w.new.plan w.parents w.children);
              charts = s.chart;
            },
            omega (arith, fits, s.bytes, s.long, ap (λ (z : Ran). length (bytes_of z.made)) same),
            subst (λ (z : Party). Fits z x) (sym s.party) here.1,
          )

      -- the rules add up to few
      pub replaying_sum : (rules : ℕ) → rules ≡ (replayed now x).rules → sum + rules ≤ max_rules
      replaying_sum rules k =
          let f = many_rules p w.new (many_then s.done ahead) in
          omega (arith, f, s.rules, k, ap (λ (z : Ran). z.rules) same)

      pub replaying_next : {g : Outcome} {out_then : List ℕ} → Gives (replayed now x) sent out_now g out_then → length out_then ≡ length out_now
          → Replaying p j end out g.party g.chart (sum + g.rules) g.sent next out_then
      replaying_next {out_then = out_then} k l = record {
        r = then;
        q = s.q;
        ends = s.ends;
        done = many_then s.done ahead;
        rest = left;
        party = k.party ∙ ap (λ (z : Ran). z.party) same;
        chart = k.chart;
        rules = omega (arith, s.rules, k.rules, ap (λ (z : Ran). z.rules) same);
        bytes = omega (arith, s.bytes, k.sent, ap (λ (z : Ran). length (bytes_of z.made)) same, bytes_length s.r.made added);
        outgoing =
            then_put out out_now out_then 0 sent (bytes_of s.r.made) (bytes_of added) (omega (arith, fits)) s.outgoing (omega (arith, s.bytes))
            (k.outgoing ∙ ap (λ (z : Ran). put_at out_now sent (bytes_of z.made)) same)
            ∙ ap (put_at out 0) (sym (bytes_append s.r.made added));
        long = l ∙ s.long;
      }

  -- all records are replayed
  pub replaying_end : end ≤ at
      → RestoreGives (replay_from (length j) j 0 (resting p)) out (record { verdict = Verdict.Accepted; party = now; used = end; sent = sent; rules = sum }) out_now
  replaying_end h =
      let all : s.r ≡ s.q = many_last s.rest h in
      let party : now ≡ s.q.party = s.party ∙ ap (λ (z : Ran). z.party) all in
      let bytes : sent ≡ length (bytes_of s.q.made) = s.bytes ∙ ap (λ (z : Ran). length (bytes_of z.made)) all in
      let rules : sum ≡ s.q.rules = s.rules ∙ ap (λ (z : Ran). z.rules) all in
      restored_gives s.ends.replay (λ z. record { verdict = Verdict.Accepted; party = party z; used = end; sent = bytes z; rules = rules z })
      (s.outgoing ∙ ap (λ (z : Ran). put_at out 0 (bytes_of z.made)) all)
