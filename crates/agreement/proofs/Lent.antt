-- What an accepted call leaves in the caller's hands: its record appended, its messages' bytes, and what the next call gets.
use mathlib.Core.Path.{◌≡◌, refl, sym, ap, ◌∙◌, subst}
use mathlib.Core.List.{List, [], ◌∷◌, ◌++◌, append_assoc, append-nil}
use Prim.Native.Nat.{ℕ, ◌+◌, ◌≤◌}
use native.Mathlib.Omega.{arith}
use lib.ListN.{length, take, drop, length-append, length-take}
use lib.Seq.{take_at}
use Rattle.base.specs.Put.{put_at}
use Rattle.base.specs.Verdict.{Verdict}
use Rattle.base.specs.Found.{Found, found, refused}
use Rattle.message.specs.Reading.{exact_message}
use Rattle.journal.specs.declared.Record.{Record}
use Rattle.journal.specs.Journal.{record_bytes}
use Rattle.party.specs.Party.{Party}
use Rattle.party.specs.Run.{Ran, bytes_of}
use Rattle.board_calls.specs.Answers.{position_of}
use Rattle.board_calls.specs.Calls.{Entry, again, fresh, called_of, journal_after, outgoing_after}
use Rattle.board_calls.specs.Restore.{Replay, restored_of, restore_outgoing}
use Rattle.agreement.specs.History.{Lent, StartInput, voted_input, start, take_message_lem, start_finds, take_finds, Act, a_start, a_take, Counted, Board, after_set_up, made_in, after_entry, after_call}
use Rattle.agreement.specs.Allowed.{Continues}
use Rattle.agreement.proofs.Entries.{start_recorded, take_recorded}

-- ---- the outgoing buffer

put_front : (out bs : List ℕ) → take (length bs) (put_at out 0 bs) ≡ bs
unfolding put_at
put_front out bs = take_at bs (drop (0 + length bs) out) (length bs) refl

-- the messages that wait after a start or take are those whose bytes it wrote
pub entry_outgoing : (p : Party) (used : ℕ) (out : List ℕ) (e : Entry) → take (called_of p used (found e)).sent (outgoing_after out (found e)) ≡ bytes_of (made_in e)
unfolding bytes_of
entry_outgoing p used out again = refl
entry_outgoing p used out (fresh r ran) = put_front out (bytes_of ran.made)

-- and so after a restore
pub restore_outgoing_lem : (out : List ℕ) (r : Replay) → take (restored_of (found r)).sent (restore_outgoing out (found r)) ≡ bytes_of r.ran.made
restore_outgoing_lem out r = put_front out (bytes_of r.ran.made)

-- ---- the journal

-- the used bytes with a record written after them
written : (l : List ℕ) (used : ℕ) (bs : List ℕ) → used + length bs ≤ length l → take (used + length bs) (put_at l used bs) ≡ take used l ++ bs
unfolding put_at
written l used bs h =
    ap (take (used + length bs)) (sym (append_assoc (take used l) bs (drop (used + length bs) l)))
    ∙ take_at (take used l ++ bs) (drop (used + length bs) l) (used + length bs) (omega (arith, length-append (take used l) bs, length-take used l))

-- the board with these calls that count
abbrev pub counting : Board → List Counted → Board
counting b cs = record { stage = b.stage; party = b.party; journal = b.journal; guarded = b.guarded; outbox = b.outbox; counted = cs }

-- the board with the found record appended to its journal, if there is one, and the call among those that count
abbrev pub entered : Board → Act → Found Entry → Board
entered b a (found again) = counting b (record { act = a; made = []; used = length b.journal } ∷ b.counted)
entered b a (found (fresh r ran)) = record {
  stage = b.stage;
  party = ran.party;
  journal = b.journal ++ record_bytes r;
  guarded = b.guarded;
  outbox = b.outbox ++ ran.made;
  counted = record { act = a; made = ran.made; used = length b.journal + length (record_bytes r) } ∷ b.counted;
}
entered b a (refused number place) = b

-- a found record has room in the lent journal
abbrev Room : Lent → ℕ → Found Entry → Type 0
Room lent used q = (r : Record) (ran : Ran) → q ≡ found (fresh r ran) → used + length (record_bytes r) ≤ length lent.journal

start_room : (p : Party) (input : StartInput) (lent : Lent) (used : ℕ) → Room lent used (start_finds p input lent used)
start_room p input lent used r ran e = (start_recorded p input lent used r ran e).2.inside

take_room : (p : Party) (sender : ℕ) (bytes : List ℕ) (lent : Lent) (used : ℕ) → Room lent used (take_finds p sender bytes lent used)
take_room p sender bytes lent used r ran e = (take_recorded p sender bytes (length lent.journal) used lent.out r ran e).3.inside

-- ---- what the next call gets

-- "its journal then empty with used length 0"
pub set_up_continues : (b : Board) (p : Party) (lent : Lent) → Continues (after_set_up b Verdict.Accepted p) p lent 0
set_up_continues b p lent = record { up = refl; same = refl; at = refl; kept = refl }

-- what is lent to the call after one that found q
abbrev pub lent_after : Lent → ℕ → Found Entry → Lent
lent_after lent used q = record { journal = journal_after lent.journal used q; out = lent.out }

module _ (b : Board) (p : Party) (lent : Lent) (used : ℕ) (c : Continues b p lent used) where
  after_entry_lem : (a : Act) (q : Found Entry) → Room lent used q → after_entry b a p lent used q ≡ entered b a q
  after_entry_lem a (found again) h = λ z. record {
    stage = b.stage;
    party = c.same z;
    journal = c.kept z;
    guarded = b.guarded;
    outbox = append-nil b.outbox z;
    counted = record { act = a; made = []; used = c.at z } ∷ b.counted;
  }
  after_entry_lem a (found (fresh r ran)) h =
      let e : take (used + length (record_bytes r)) (put_at lent.journal used (record_bytes r)) ≡ b.journal ++ record_bytes r
      = written lent.journal used (record_bytes r) (h r ran refl) ∙ ap (λ (x : List ℕ). x ++ record_bytes r) c.kept in
      λ z. record {
        stage = b.stage;
        party = ran.party;
        journal = e z;
        guarded = b.guarded;
        outbox = b.outbox ++ ran.made;
        counted = record { act = a; made = ran.made; used = c.at z + length (record_bytes r) } ∷ b.counted;
      }
  after_entry_lem a (refused number place) h = refl

  entered_continues : (a : Act) (q : Found Entry) → Room lent used q → Continues (entered b a q) (called_of p used q).party (lent_after lent used q) (called_of p used q).used
  entered_continues a (found again) h = record { up = c.up; same = c.same; at = c.at; kept = c.kept }
  entered_continues a (found (fresh r ran)) h = record {
    up = c.up;
    same = refl;
    at = omega (arith, c.at, length-append b.journal (record_bytes r));
    kept = written lent.journal used (record_bytes r) (h r ran refl) ∙ ap (λ (x : List ℕ). x ++ record_bytes r) c.kept;
  }
  entered_continues a (refused number place) h = c

  entry_continues : (a : Act) (q : Found Entry) → Room lent used q
      → Continues (after_entry b a p lent used q) (called_of p used q).party (lent_after lent used q) (called_of p used q).used
  entry_continues a q h =
      subst (λ (x : Board). Continues x (called_of p used q).party (lent_after lent used q) (called_of p used q).used) (sym (after_entry_lem a q h)) (entered_continues a q h)

  -- what a start leaves is the board with its record appended, if it has one
  pub start_entered : (input : StartInput) → after_call b (start p input lent used) ≡ entered b (a_start (position_of p.plan (voted_input input)) input) (start_finds p input lent used)
  start_entered input = after_entry_lem (a_start (position_of p.plan (voted_input input)) input) (start_finds p input lent used) (start_room p input lent used)

  -- and so for a take
  pub take_entered : (sender : ℕ) (bytes : List ℕ)
      → after_call b (take_message_lem p sender bytes lent used) ≡ entered b (a_take sender (exact_message bytes)) (take_finds p sender bytes lent used)
  take_entered sender bytes = after_entry_lem (a_take sender (exact_message bytes)) (take_finds p sender bytes lent used) (take_room p sender bytes lent used)

  -- "each later call gets the record, journal and used length as the call before left them"
  pub start_continues : (input : StartInput) →
      let q = start_finds p input lent used in
      Continues (after_call b (start p input lent used)) (called_of p used q).party (lent_after lent used q) (called_of p used q).used
  start_continues input = entry_continues (a_start (position_of p.plan (voted_input input)) input) (start_finds p input lent used) (start_room p input lent used)

  pub take_continues : (sender : ℕ) (bytes : List ℕ) →
      let q = take_finds p sender bytes lent used in
      Continues (after_call b (take_message_lem p sender bytes lent used)) (called_of p used q).party (lent_after lent used q) (called_of p used q).used
  take_continues sender bytes = entry_continues (a_take sender (exact_message bytes)) (take_finds p sender bytes lent used) (take_room p sender bytes lent used)
