-- Every sound board is brought up: it is set up if it waits, restored if it is down, hands over all that it may, and starts if it has not.
use mathlib.Core.Path.{◌≡◌, refl, sym, subst}
use mathlib.Core.Logic.{inr}
use mathlib.Core.Bool.{Bool, true, false}
use mathlib.Core.List.{List, ◌∷◌}
use Prim.Native.Nat.{ℕ, suc, ◌<◌}
use native.Mathlib.Omega.{arith}
use lib.Dec.{T, eqb}
use lib.IntN.{ℤ}
use lib.ListN.{length}
use Rattle.base.specs.Sets.{Set}
use Rattle.base.specs.Found.{found}
use Rattle.base.proofs.Bools.{true→T, false→not-T}
use Rattle.plan.specs.Plan.{Plan}
use Rattle.message.specs.declared.Message.{Message}
use Rattle.journal.specs.declared.Record.{Record}
use Rattle.party.specs.Party.{Party, level_at, started}
use Rattle.party.specs.Run.{Ran}
use Rattle.board_calls.specs.Answers.{position_of}
use Rattle.board_calls.specs.Calls.{fresh}
use Rattle.agreement.specs.History.{Instance, Lent, StartInput, voted_input, Call, start, start_finds, calls, History, Stage, waiting, running, down, Board, board_after}
use Rattle.agreement.specs.Allowed.{Sound, Continues, Allowed}
use Rattle.agreement.specs.Starts.{Startable}
use Rattle.agreement.specs.Demand.{Started, StartedWith, Shared}
use Rattle.agreement.proofs.Boards.{state_of, running_state, started_state}
use Rattle.agreement.proofs.Words.{started_records}
use Rattle.agreement.proofs.Accepted.{start_accepted, can_start}
use Rattle.agreement_completion.proofs.Boards.{either, below, sound_below, over_sound}
use Rattle.agreement_completion.proofs.Kept.{Kept, kept_trans, kept_other, kept_counts, Begun, begun_later}
use Rattle.agreement_completion.proofs.Ways.{Way, at, none, further, HandsOver, hands_over_lem}
use Rattle.agreement_completion.proofs.Calls.{lent_to, lent_room, lent_continues, start_grown}
use Rattle.agreement_completion.proofs.Serving.{Up, kept_up, up_handed, Served, serve}
use Rattle.agreement_completion.proofs.Standing.{Ready, by_set_up, by_restore}

module _ (v : Instance) (plan : Plan) (bad : Set) (f : Shared v plan) where
  -- ---- started or not, by the party

  module _ (h : History) (a : Allowed v bad h) (i : ℕ) (o : Sound v bad i) (up : (board_after h i).stage ≡ running) where
    begun : T (started (board_after h i).party) → Begun h i
    begun t =
        let y : ℕ = (level_at (state_of v plan h i) 0).position in
        let e : T (started (state_of v plan h i)) = subst (λ (p : Party). T (started p)) (running_state v plan bad f h a i o.0 up) t in
        let s = (started_records v plan bad f h a i y).1 ((started_state v plan bad f h a i o.0 y).1 (e, refl)) in
        (y, s.0, s.1)

    not_begun : started (board_after h i).party ≡ false → (x : ℕ) (z : ℤ) → Started h i x z → ⊥
    not_begun e x z s =
        false→not-T e
        (subst (λ (p : Party). T (started p)) (sym (running_state v plan bad f h a i o.0 up))
        ((started_state v plan bad f h a i o.0 x).0 ((started_records v plan bad f h a i x).0 (z, s))).0)

  -- those that have not started start with this input
  module _ (h : History) (input : StartInput) (on : Startable plan input) where
    -- board i is up, and no other has changed
    record Raised (w : Way v bad h input) (i : ℕ) : Type 0 where
      after : Way v bad h input
      up : Up (at v bad h input after) i
      others : (j : ℕ) → eqb i j ≡ false → Kept j (at v bad h input w) (at v bad h input after)

    -- a board that runs hands over all that it may
    hands_all : (w : Way v bad h input) (i : ℕ) → Sound v bad i → (board_after (at v bad h input w) i).stage ≡ running → Raised w i
    hands_all w i o up = go (hands_over_lem v bad h input w i o up ms (λ m x. x))
      where
        ms : List Message
        ms = (board_after (at v bad h input w) i).outbox

        go : HandsOver v bad h input w i ms → Raised w i
        go r = record { after = r.after; up = up_handed v bad h input w i ms r up (λ m x. inr x); others = λ j d. r.kept j }

    -- any other is set up or restored first
    raise : (w : Way v bad h input) (i : ℕ) → Sound v bad i → Raised w i
    raise w i o = by (board_after now i).stage refl
      where
        now : History
        now = at v bad h input w

        after : Ready v bad now i → Raised w i
        after s = go (hands_all w1 i o s.stage)
          where
            w1 : Way v bad h input
            w1 = further v bad h input w (calls i s.call) (s.keeping input) s.order s.may

            go : Raised w1 i → Raised w i
            go r = record {
              after = r.after;
              up = r.up;
              others = λ j d. kept_trans j now (at v bad h input w1) (at v bad h input r.after) (kept_other (calls i s.call) now j d) (r.others j d);
            }

        by : (s : Stage) → (board_after now i).stage ≡ s → Raised w i
        by waiting e = after (by_set_up v plan bad f now w.allowed i o e)
        by running e = hands_all w i o e
        by down e = after (by_restore v plan bad f now w.allowed i o e)

    -- and it has started
    record Risen (w : Way v bad h input) (i : ℕ) : Type 0 where
      raised : Raised w i
      begun : Begun (at v bad h input raised.after) i

    -- a board that is up starts
    starts : (w : Way v bad h input) (i : ℕ) → Sound v bad i → Up (at v bad h input w) i → started (board_after (at v bad h input w) i).party ≡ false → Risen w i
    starts w i o u e =
        go (serve v bad h input w i o u c refl u.handed ok.0.0 (start_grown v plan bad f now w.allowed i o.0 b.party lent used more input x.0 x.1 x.2))
      where
        now : History
        now = at v bad h input w

        b : Board
        b = board_after now i

        lent : Lent
        lent = lent_to b

        used : ℕ
        used = length b.journal

        more : Continues b b.party lent used
        more = lent_continues b u.stage

        c : Call
        c = start b.party input lent used

        new : (x : ℕ) (z : ℤ) → Started now i x z → ⊥
        new = not_begun now w.allowed i o u.stage e

        x : (r : Record) × (ran : Ran) × (start_finds b.party input lent used ≡ found (fresh r ran))
        x = start_accepted v plan bad f now w.allowed i o.0 b.party lent used more (lent_room b) (omega arith) input on new

        ok : Allowed v bad (calls i c ∷ now) × StartedWith plan (calls i c ∷ now) i (position_of plan (voted_input input)) (voted_input input)
        ok = can_start v plan bad f now w.allowed i o b.party lent used more (lent_room b) (omega arith) input on new

        go : Served v bad h input w i c → Risen w i
        go r = record {
          raised = record { after = r.after; up = r.up; others = r.others };
          begun =
              begun_later i (calls i c ∷ now) (at v bad h input r.after) (kept_counts i (calls i c ∷ now) (at v bad h input r.after) r.own)
              (position_of plan (voted_input input), voted_input input, ok.1.started);
        }

    rise : (w : Way v bad h input) (i : ℕ) → Sound v bad i → Risen w i
    rise w i o = go (raise w i o)
      where
        then : (r : Raised w i) → Risen r.after i → Risen w i
        then r s = record {
          raised = record {
            after = s.raised.after;
            up = s.raised.up;
            others = λ j d. kept_trans j (at v bad h input w) (at v bad h input r.after) (at v bad h input s.raised.after) (r.others j d) (s.raised.others j d);
          };
          begun = s.begun;
        }

        by : (r : Raised w i) (t : Bool) → started (board_after (at v bad h input r.after) i).party ≡ t → Risen w i
        by r true e = record { raised = r; begun = begun (at v bad h input r.after) r.after.allowed i o r.up.stage (true→T e) }
        by r false e = then r (starts r.after i o r.up e)

        go : Raised w i → Risen w i
        go r = by r (started (board_after (at v bad h input r.after) i).party) refl

    -- ---- all of them

    -- the sound boards below k are up and have started
    pub record AllUp (k : ℕ) : Type 0 where
      pub way : Way v bad h input
      pub up : (i : ℕ) → i < k → Sound v bad i → Up (at v bad h input way) i
      pub begun : (i : ℕ) → i < k → Sound v bad i → Begun (at v bad h input way) i

    skipped : (k : ℕ) → bad k ≡ true → AllUp k → AllUp (suc k)
    skipped k e all = record {
      way = all.way;
      up = λ i l o. all.up i (sound_below v bad k e i l o) o;
      begun = λ i l o. all.begun i (sound_below v bad k e i l o) o;
    }

    joined : (k : ℕ) (all : AllUp k) → Risen all.way k → AllUp (suc k)
    joined k all r = record {
      way = r.raised.after;
      up = λ i l. either (λ (y : ℕ). Sound v bad y → Up later y) k i (λ s. r.raised.up) (λ d s.
          kept_up i now later (r.raised.others i d) (all.up i (below k i l d) s));
      begun = λ i l. either (λ (y : ℕ). Sound v bad y → Begun later y) k i (λ s. r.begun) (λ d s.
          begun_later i now later (kept_counts i now later (r.raised.others i d)) (all.begun i (below k i l d) s));
    }
      where
        now : History
        now = at v bad h input all.way

        later : History
        later = at v bad h input r.raised.after

    pub all_up : Allowed v bad h → AllUp v.n
    all_up a =
        over_sound v bad AllUp (record { way = none v bad h input a; up = λ i l o. absurd (omega arith); begun = λ i l o. absurd (omega arith) }) skipped
        (λ k o all. joined k all (rise all.way k o)) v.n (omega arith)
