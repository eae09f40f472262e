-- A sound board makes at most seven different messages at each level, with at most t faulty boards.
use mathlib.Core.Path.{◌≡◌, refl, sym, ap, subst}
use mathlib.Core.List.{List, Memᴰ}
use Prim.Native.Nat.{ℕ, ◌*◌, ◌≤◌, ◌<◌}
use native.Mathlib.Omega.{arith}
use lib.ListN.{length}
use Rattle.base.specs.Sets.{Set, count}
use Rattle.base.specs.Limits.{sending_levels, level_messages, message_size}
use Rattle.base.specs.Found.{Found}
use Rattle.base.proofs.Bools.{T→true}
use Rattle.base.proofs.Distinct.{distinct_within}
use Rattle.message.specs.declared.Message.{Message}
use Rattle.message.specs.Message.{in_table, message_bytes}
use Rattle.message.proofs.RoundTrip.{message_length_most}
use Rattle.plan.specs.Plan.{Plan}
use Rattle.plan_levels.specs.Levels.{levels_of}
use Rattle.plan_messages.specs.Bound.{bound_by, bound_of}
use Rattle.party.specs.Party.{Party}
use Rattle.party_laws.proofs.Laws.{sending_level}
use Rattle.party_bounds.proofs.Runs.{bytes_most}
use Rattle.vote_machine.specs.Machine.{Sent}
use Rattle.vote_machine.proofs.Laws.{sent_proper}
use Rattle.log_agreement.proofs.Joint.{Joint, joint}
use Rattle.agreement.specs.History.{Instance, History}
use Rattle.agreement.specs.Allowed.{Sound, Allowed}
use Rattle.agreement.specs.Demand.{Made, Shared}
use Rattle.agreement.proofs.Told.{told}
use Rattle.agreement.proofs.Tied.{shared_passes}
use Rattle.agreement.proofs.Histories.{told_valid}
use Rattle.agreement.proofs.Boards.{state_of, makes_state}
use Rattle.agreement.proofs.Words.{made_records}
use Rattle.agreement_levels.proofs.NoDeeper.{no_deeper}
use Rattle.agreement_messages.specs.Statement.{Different, Within, Bounded, Numbers, Statement}
use Rattle.agreement_messages.proofs.Echoes.{one_value}
use Rattle.agreement_messages.proofs.Messages.{messages_at, at_length, at_member, messages_below, below_length, below_member}

module _ (v : Instance) (plan : Plan) (bad : Set) (h : History) (f : Shared v plan) (few : count v.n bad ≤ v.t) (a : Allowed v bad h) where
  abbrev st : ℕ → Party
  st i = state_of v plan h i

  -- the boards' states
  J : Joint v.n v.t v.agreement plan bad (state_of v plan h)
  J = joint v.n v.t v.agreement plan (shared_passes v plan f) bad few (told v plan h) (told_valid v plan bad f h a)

  module _ (i : ℕ) (g : Sound v bad i) where
    -- what board i's calls made, its state has sent
    sent : (m : Message) → Made h i m → Sent (state_of v plan h i) m
    sent m x = (makes_state v plan bad f h a i g.0 m).0 ((made_records v plan bad f h a i m).0 x)

    -- so it is one of seven at its level
    made_at : (m : Message) → Made h i m → Memᴰ m (messages_at (state_of v plan h i) m.level)
    made_at m x = let s = sent m x in at_member (st i) m s (one_value J i m.level g s.sends)

    -- which is one of fifteen
    made_below : (m : Message) → Made h i m → m.level < sending_levels
    made_below m x = omega (arith, (sending_level (st i) (J.inv i).regular.formed m.level (sent m x).sends).last)

    -- and it has at most 8 bytes
    made_short : (m : Message) → Made h i m → length (message_bytes m) ≤ message_size
    made_short m x = message_length_most m (T→true (in_table m) (sent_proper (st i) (J.inv i).regular m (sent m x)))

    module _ (ms : List Message) (d : Different h i ms) where
      -- different messages that are all in one list
      within : (most : ℕ) (all : List Message) → length all ≡ most → ((m : Message) → Made h i m → Memᴰ m ms → Memᴰ m all) → Within most ms
      within most all e in_all =
          let k : length ms ≤ length all = distinct_within ms all d.once (λ m x. in_all m (d.made m x) x) in
          record {
            messages = omega arith;
            bytes = omega (arith, bytes_most message_size ms (λ m x. made_short m (d.made m x)));
          }

      at_level : (L : ℕ) → ((m : Message) → Memᴰ m ms → m.level ≡ L) → Within level_messages ms
      at_level L at =
          within level_messages (messages_at (st i) L) (at_length (st i) L)
          (λ m x k. subst (λ (l : ℕ). Memᴰ m (messages_at (st i) l)) (at m k) (made_at m x))

      below_levels : (K : ℕ) → ((m : Message) → Made h i m → m.level < K) → Within (level_messages * K) ms
      below_levels K low =
          within (level_messages * K) (messages_below (st i) K) (below_length (st i) K)
          (λ m x _. below_member (st i) m K (low m x) (made_at m x))

  -- what the call says of the plan's bytes
  call_messages : (bound_of v.plan).messages ≡ level_messages * levels_of plan
  call_messages = ap (λ (r : Found Plan). (bound_by r).messages) f.reads

  holds : Bounded v bad h
  holds = record {
    level = λ i L ms g d at. at_level i g ms d L at;
    vote = λ i ms g d. below_levels i g ms d sending_levels (made_below i g);
    call = λ i ms g d.
        subst (λ (most : ℕ). Within most ms) (sym call_messages) (below_levels i g ms d (levels_of plan) (λ m x. no_deeper v plan bad h f a i m g x));
  }

pub bounded : Statement
bounded v plan bad h given = holds v plan bad h given.shared given.few given.allowed

pub numbers : Numbers
numbers = record { messages = refl; bytes = refl }
