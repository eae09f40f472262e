-- Set-up and restore on plan bytes that give twin plans.
use mathlib.Core.Path.{◌≡◌, refl, ap, subst}
use mathlib.Core.Bool.{Bool, true, false, ◌&&◌}
use mathlib.Core.List.{List}
use Prim.Native.Nat.{ℕ, zero, suc}
use lib.Dec.{leb, ltb, eqb}
use lib.ListN.{length}
use Rattle.std.specs.Prelude.{Err, Ok}
use Rattle.base.specs.Put.{put_at}
use Rattle.base.specs.Limits.{outgoing_size}
use Rattle.base.specs.Found.{Found, ask}
use Rattle.settings.specs.Settings.{settings_fault, settings_fit}
use Rattle.plan.specs.Plan.{Plan}
use Rattle.plan.specs.Reading.{plan_of, settled_plan}
use Rattle.message.specs.declared.Message.{Message}
use Rattle.journal.specs.declared.Record.{Record}
use Rattle.journal.specs.declared.RecordError.TheVariants.{Torn, Bad}
use Rattle.journal.specs.Reading.{RecordRead, whole_record, record_at}
use Rattle.party.specs.Party.{Party, new_party}
use Rattle.party.specs.Run.{Ran, resting, bytes_of}
use Rattle.party_life.specs.Life.{replayed, following, fault}
use Rattle.board_calls.specs.Calls.{set_up_answer, set_up_of}
use Rattle.board_calls.specs.Restore.{record_fits, Replay, replay_from, on_plan_read, restore_questions}
use Rattle.range_as_path.specs.Twin.{TwinPlans, TwinParties, TwinRan, TwinFound, both, neither, TwinReplay, TwinSetUp, set_up, not_set_up, restored, not_restored, TwinRestore}
use Rattle.range_as_path.proofs.Twins.{twin_fault, twin_replayed, twin_following, twin_resting, twin_new}
use Rattle.range_as_path.proofs.Calls.{twin_ask}

-- ---- plans

-- questions 1 to 3, then the plan
pub twin_settled : (n t own : ℕ) (s s' : List ℕ) → TwinFound TwinPlans (plan_of s) (plan_of s') → TwinFound TwinPlans (settled_plan n t own s) (settled_plan n t own s')
unfolding settled_plan
twin_settled n t own s s' w = twin_ask (settings_fit n t own) (settings_fit n t own) refl (settings_fault n t own) 0 (plan_of s) (plan_of s') w

twin_set_up : (n t own agreement : ℕ) (a b : Found Plan) → TwinFound TwinPlans a b → TwinSetUp (set_up_answer n t own agreement a) (set_up_answer n t own agreement b)
twin_set_up n t own agreement a b (both {a = r} {b = q} w) = set_up (twin_new n t own agreement r q w)
twin_set_up n t own agreement a b neither = not_set_up

pub twin_set_up_lem : (n t own agreement : ℕ) (s s' : List ℕ) → TwinFound TwinPlans (plan_of s) (plan_of s') → TwinSetUp (set_up_of n t own agreement s) (set_up_of n t own agreement s')
unfolding set_up_of
twin_set_up_lem n t own agreement s s' w = twin_set_up n t own agreement (settled_plan n t own s) (settled_plan n t own s') (twin_settled n t own s s' w)

-- ---- records

twin_record : (p p' : Party) → TwinParties p p' → (at : ℕ) (r : Record) (a b : Found Replay) → TwinFound TwinReplay a b → TwinFound TwinReplay (record_fits p at r a) (record_fits p' at r b)
twin_record p p' w at r a b h =
    subst (λ (k : ℕ). TwinFound TwinReplay (record_fits p at r a) (ask (eqb k 0) k at b)) (twin_fault p p' w r)
    (twin_ask (eqb (fault p r) 0) (eqb (fault p r) 0) refl (fault p r) at a b h)

-- the records from `at` on, after twin runs
pub twin_replay : (f : ℕ) (j : List ℕ) (at : ℕ) (a b : Ran) → TwinRan a b → TwinFound TwinReplay (replay_from f j at a) (replay_from f j at b)
unfolding replay_from
twin_replay zero j at a b w = both (record { ran = w; used = refl })
twin_replay (suc f) j at a b w = ended (leb (length j) at) refl (record_at j at) refl (twin_replay f j)
  where
    ended : (e : Bool) → leb (length j) at ≡ e → (x : RecordRead) → record_at j at ≡ x
        → ((at : ℕ) (a b : Ran) → TwinRan a b → TwinFound TwinReplay (replay_from f j at a) (replay_from f j at b))
        → TwinFound TwinReplay (replay_from (suc f) j at a) (replay_from (suc f) j at b)
    ended true e x i ih = rw e (both (record { ran = w; used = refl }))
    ended false e (Ok x) i ih =
        rw (e, i) (twin_record a.party b.party w.party at x.value
        (replay_from f j x.next (following a (replayed a.party x.value))) (replay_from f j x.next (following b (replayed b.party x.value)))
        (ih x.next (following a (replayed a.party x.value)) (following b (replayed b.party x.value))
        (twin_following a b (replayed a.party x.value) (replayed b.party x.value) w (twin_replayed a.party b.party w.party x.value))))
    ended false e (Err Torn) i ih = rw (e, i) (both (record { ran = w; used = refl }))
    ended false e (Err Bad) i ih = rw (e, i) neither

twin_read : (n t own agreement : ℕ) (j : List ℕ) (a b : Found Plan) → TwinFound TwinPlans a b
    → TwinFound TwinReplay (on_plan_read n t own agreement j a) (on_plan_read n t own agreement j b)
twin_read n t own agreement j a b (both {a = r} {b = q} w) =
    twin_replay (length j) j 0 (resting (new_party n t own agreement r)) (resting (new_party n t own agreement q))
    (twin_resting (new_party n t own agreement r) (new_party n t own agreement q) (twin_new n t own agreement r q w))
twin_read n t own agreement j a b neither = neither

pub twin_restore : (n t own agreement : ℕ) (s s' : List ℕ) → TwinFound TwinPlans (plan_of s) (plan_of s') → (j : List ℕ) (out : ℕ)
    → TwinFound TwinReplay (restore_questions n t own agreement s j out) (restore_questions n t own agreement s' j out)
unfolding restore_questions
twin_restore n t own agreement s s' w j out =
    twin_ask (leb outgoing_size out) (leb outgoing_size out) refl 18 0
    (on_plan_read n t own agreement j (settled_plan n t own s)) (on_plan_read n t own agreement j (settled_plan n t own s'))
    (twin_read n t own agreement j (settled_plan n t own s) (settled_plan n t own s') (twin_settled n t own s s' w))

-- ---- what a restore gives

pub twin_restored : (out : List ℕ) (a b : Found Replay) → TwinFound TwinReplay a b → TwinRestore out a b
twin_restored out a b (both h) = record {
  called = restored refl (record {
    verdict = refl;
    party = h.ran.party;
    used = h.used;
    sent = ap (λ (ms : List Message). length (bytes_of ms)) h.ran.made;
    rules = h.ran.rules;
  });
  outgoing = ap (λ (ms : List Message). put_at out 0 (bytes_of ms)) h.ran.made;
}
twin_restored out a b neither = record { called = not_restored refl; outgoing = refl }
