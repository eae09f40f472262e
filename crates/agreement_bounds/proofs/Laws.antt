-- Document 01's bounds, said of the definitions that the calls' contracts cite, whatever is lent; of whole histories; and of the fuel of a run.
use mathlib.Core.Path.{◌≡◌, refl, sym, ap, ◌∙◌}
use mathlib.Core.Logic.{◌⊎◌, inl, inr}
use mathlib.Core.List.{List, ◌∷◌}
use Prim.Native.Nat.{ℕ, ◌+◌, ◌≤◌}
use native.Mathlib.Omega.{arith}
use lib.Dec.{T}
use lib.ListN.{length}
use Rattle.base.specs.Limits.{last_level, level_count, max_rules, outgoing_size}
use Rattle.base.specs.Sets.{Set}
use Rattle.base.specs.Verdict.{Verdict}
use Rattle.base.specs.Found.{Found, found, refused}
use Rattle.varint.specs.Varint.{AllBytes}
use Rattle.plan.specs.Plan.{Plan}
use Rattle.journal.specs.declared.Record.{Record}
use Rattle.party.specs.Party.{Party}
use Rattle.party.specs.Run.{Ran, open_level, run_up_to, run}
use Rattle.party.specs.Valid.{party_valid}
use Rattle.party_life.specs.Life.{lived}
use Rattle.party_bounds.proofs.Laws.{rules_most, run_quiescent, runs_same, set_up_rules, typed_sized}
use Rattle.board_calls.specs.Calls.{again, fresh, take_questions, called_of}
use Rattle.board_calls.specs.Restore.{Replay, restore_questions, restored_of}
use Rattle.party.specs.Typed.{Typed}
use Rattle.agreement.specs.History.{Instance, Lent, StartInput, restore, start_finds, restore_finds, calls, History, board_after}
use Rattle.agreement.specs.Allowed.{Sound, Refuses, Accepts, Allowed}
use Rattle.agreement.specs.Demand.{Shared}
use Rattle.agreement.specs.Inner.{records_of}
use Rattle.agreement.proofs.Restored.{lendable_begins, restored_found}
use Rattle.agreement.proofs.Tied.{new_board, plan_valid_lem, settings_pass_lem}
use Rattle.agreement.proofs.Histories.{TiedAfter, tied}
use Rattle.agreement.proofs.Boards.{records_of_lem}
use Rattle.agreement_bounds.specs.Reports.{reports, total}
use Rattle.agreement_bounds.proofs.Calls.{start_bounded, take_bounded, start_quiescent, take_quiescent, called_sent, called_rules, restore_bounded, restore_quiescent, restored_sent, restored_rules}
use Rattle.agreement_bounds.proofs.Reported.{along_total, reported}

-- ---- each call, of any party record with its type's shape and any bytes

-- "Has the outgoing buffer 2,640 bytes (15 × 22 × 8)?": no call sends more
pub start_sent : (p : Party) → Typed p → (input : StartInput) (lent : Lent) (used : ℕ) → (called_of p used (start_finds p input lent used)).sent ≤ outgoing_size
start_sent p t input lent used =
    called_sent p t (length lent.journal) used lent.out (start_finds p input lent used) (start_bounded p t input lent used)

pub take_sent : (p : Party) → Typed p → (sender : ℕ) (bytes : List ℕ) (room used out : ℕ) → (called_of p used (take_questions p sender bytes room used out)).sent ≤ outgoing_size
take_sent p t s bytes room used out = called_sent p t room used out (take_questions p s bytes room used out) (take_bounded p t room used out s bytes)

pub restore_sent : (n t own agreement : ℕ) (plan journal : List ℕ) (out : ℕ) → AllBytes journal → (restored_of (restore_questions n t own agreement plan journal out)).sent ≤ outgoing_size
restore_sent n t own a bytes j out all = restored_sent (restore_questions n t own a bytes j out) (restore_bounded n t own a bytes j all out)

-- none reports more than 390 rules; for a restore these are the rules of all its records
pub start_rules : (p : Party) → Typed p → (input : StartInput) (lent : Lent) (used : ℕ) → (called_of p used (start_finds p input lent used)).rules ≤ max_rules
start_rules p t input lent used =
    called_rules p t (length lent.journal) used lent.out (start_finds p input lent used) (start_bounded p t input lent used)

pub take_rules : (p : Party) → Typed p → (sender : ℕ) (bytes : List ℕ) (room used out : ℕ) → (called_of p used (take_questions p sender bytes room used out)).rules ≤ max_rules
take_rules p t s bytes room used out = called_rules p t room used out (take_questions p s bytes room used out) (take_bounded p t room used out s bytes)

pub restore_rules : (n t own agreement : ℕ) (plan journal : List ℕ) (out : ℕ) → AllBytes journal → (restored_of (restore_questions n t own agreement plan journal out)).rules ≤ max_rules
restore_rules n t own a bytes j out all = restored_rules (restore_questions n t own a bytes j out) (restore_bounded n t own a bytes j all out)

-- a take of a message already held reports none
pub again_rules : (p : Party) (used : ℕ) → (called_of p used (found again)).rules ≡ 0
again_rules p used = refl

-- ---- whole histories

module _ (v : Instance) (plan : Plan) (bad : Set) (f : Shared v plan) where
  -- what the starts and takes that are not lost reported is what the journal's records count
  pub reports_sum : (h : History) → Allowed v bad h → (i : ℕ) → total (reports h i) ≡ (lived (new_board v plan i) (records_of h i)).rules
  reports_sum h a i = ap total (reported v plan bad f h a i) ∙ along_total (new_board v plan i) (records_of h i)

  -- "over all starts and takes from set-up, lost ones left out, that is at most 390"
  pub reports_most : (h : History) → Allowed v bad h → (i : ℕ) → Sound v bad i → total (reports h i) ≤ max_rules
  reports_most h a i o =
      let w : TiedAfter v plan bad f h i = tied v plan bad f h a i o.0 in
      let e = reports_sum h a i ∙ ap (λ rs. (lived (new_board v plan i) rs).rules) (records_of_lem v plan bad f h a i o.0) in
      omega (arith, set_up_rules v.n v.t i v.agreement plan (settings_pass_lem v plan f i o.0) (plan_valid_lem v plan f i o.0) w.records w.life)

  -- "and restore reports the sum for its records": what an accepted restore reports is the sum of what the starts and takes before it reported
  pub restore_reports : (h : History) (i n t own agreement : ℕ) (bytes : List ℕ) (lent : Lent) → Allowed v bad (calls i (restore n t own agreement bytes lent) ∷ h)
      → (restored_of (restore_finds n t own agreement bytes lent)).verdict ≡ Verdict.Accepted
      → (restored_of (restore_finds n t own agreement bytes lent)).rules ≡ total (reports h i)
  restore_reports h i n t seat agreement bytes lent (m, a) ok = go m.1 (restore_finds n t seat agreement bytes lent) refl ok
    where
      go : Refuses (restore n t seat agreement bytes lent) ⊎ Accepts v bad i h (board_after h i) (restore n t seat agreement bytes lent)
          → (q : Found Replay) → restore_finds n t seat agreement bytes lent ≡ q → (restored_of q).verdict ≡ Verdict.Accepted → (restored_of q).rules ≡ total (reports h i)
      go x (refused number place) e k = let z : ◌≡◌ {A = ℕ} 0 1 = cc in absurd (omega arith)
      go (inl x) (found r) e k = let b : found r ≡ refused x.0 x.1.0 = sym e ∙ x.1.1 in let z : ◌≡◌ {A = ℕ} 0 1 = cc in absurd (omega arith)
      go (inr (up, s, given)) (found r) e k =
          let w : TiedAfter v plan bad f h i = tied v plan bad f h a i m.0.0 in
          ap (λ (y : Replay). y.ran.rules)
          (restored_found v.n v.t i v.agreement v.plan plan f.boards f.faults m.0.0 f.reads w.records w.life lent.journal
          (lendable_begins (board_after h i).journal lent.journal w.records w.holds given) lent.out r
          (sym (λ z. restore_finds (s.boards z) (s.faults z) (s.seat z) (s.number z) (s.bytes z) lent) ∙ e))
          ∙ sym (reports_sum h a i ∙ ap (λ rs. (lived (new_board v plan i) rs).rules) (records_of_lem v plan bad f h a i m.0.0))

-- ---- "until none does": the fuel of a run is never used up

-- after a run of a record that passes question 19 no rule applies
pub run_ends : (p : Party) → Typed p → T (party_valid p) → open_level (run p).party ≡ level_count
run_ends p t v = run_quiescent p (typed_sized p t v)

-- and more fuel changes nothing
pub run_any : (p : Party) → Typed p → T (party_valid p) → (f : ℕ) → max_rules ≤ f → run_up_to f p ≡ run p
unfolding run
run_any p t v f h =
    let l = rules_most (last_level + 1) p in
    runs_same (last_level + 1) (omega arith) f max_rules p (typed_sized p t v) (omega arith) (omega arith)

-- so none applies after an accepted start, a take that made a record, or an accepted restore
pub start_ends : (p : Party) → Typed p → (input : StartInput) (lent : Lent) (used : ℕ) (r : Record) (ran : Ran) → start_finds p input lent used ≡ found (fresh r ran)
    → open_level ran.party ≡ level_count
start_ends = start_quiescent

pub take_ends : (p : Party) → Typed p → (sender : ℕ) (bytes : List ℕ) (room used out : ℕ) (r : Record) (ran : Ran)
    → take_questions p sender bytes room used out ≡ found (fresh r ran) → open_level ran.party ≡ level_count
take_ends p t s bytes room used out = take_quiescent p t room used out s bytes

pub restore_ends : (n t own agreement : ℕ) (plan journal : List ℕ) (out : ℕ) → AllBytes journal → (x : Replay)
    → restore_questions n t own agreement plan journal out ≡ found x → open_level x.ran.party ≡ level_count
restore_ends n t own a bytes j out all = restore_quiescent n t own a bytes j all out
