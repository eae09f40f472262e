-- A board that hands over all that it may: it stays so if it makes a call and hands over at once what that made.
use mathlib.Core.Path.{◌≡◌, sym, ◌∙◌, subst}
use mathlib.Core.Logic.{◌⊎◌, inl, inr}
use mathlib.Core.Bool.{false}
use mathlib.Core.List.Memᴰ
use mathlib.Core.List.{List, ◌∷◌, Memᴰ}
use Prim.Native.Nat.{ℕ}
use lib.Dec.{eqb}
use Rattle.base.specs.Sets.{Set}
use Rattle.message.specs.declared.Message.{Message}
use Rattle.message.specs.Message.{message_bytes}
use Rattle.agreement.specs.History.{Instance, StartInput, Call, calls, History, running, board_after}
use Rattle.agreement.specs.Allowed.{Sound, May}
use Rattle.agreement.specs.Demand.{HandedSince}
use Rattle.agreement_completion.specs.Statement.{AllHandedOver, Orderly}
use Rattle.agreement_completion.proofs.Kept.{Kept, kept_trans, kept_other}
use Rattle.agreement_completion.proofs.Keeping.{Keeping}
use Rattle.agreement_completion.proofs.Ways.{Way, at, further, HandsOver, hands_over_lem}
use Rattle.agreement_completion.proofs.Calls.{Grown}

-- board i runs, and has handed over all that it may, since its last restore
pub record Up (h : History) (i : ℕ) : Type 0 where
  pub stage : (board_after h i).stage ≡ running
  pub handed : AllHandedOver h i

pub kept_up : (i : ℕ) (h later : History) → Kept i h later → Up h i → Up later i
kept_up i h later k u = record {
  stage = k.board.stage ∙ u.stage;
  handed = λ m x. k.since (message_bytes m) (u.handed m (subst (Memᴰ m) k.board.outbox x));
}

module _ (v : Instance) (bad : Set) (h : History) (input : StartInput) where
  -- a running board that hands over ms, which are at least those that it may and has not yet
  pub up_handed : (w : Way v bad h input) (i : ℕ) (ms : List Message) (r : HandsOver v bad h input w i ms)
      → (board_after (at v bad h input w) i).stage ≡ running
      → ((m : Message) → Memᴰ m (board_after (at v bad h input w) i).outbox → HandedSince i (message_bytes m) (at v bad h input w) ⊎ Memᴰ m ms)
      → Up (at v bad h input r.after) i
  up_handed w i ms r up each = record {
    stage = (r.kept i).board.stage ∙ up;
    handed = λ m x. by m (each m (subst (Memᴰ m) (r.kept i).board.outbox x));
  }
    where
      by : (m : Message) → HandedSince i (message_bytes m) (at v bad h input w) ⊎ Memᴰ m ms → HandedSince i (message_bytes m) (at v bad h input r.after)
      by m (inl y) = (r.kept i).since (message_bytes m) y
      by m (inr y) = r.given m y

  -- board i's call c, and what it made handed over
  pub record Served (w : Way v bad h input) (i : ℕ) (c : Call) : Type 0 where
    pub after : Way v bad h input
    pub up : Up (at v bad h input after) i
    pub own : Kept i (calls i c ∷ at v bad h input w) (at v bad h input after)
    pub others : (j : ℕ) → eqb i j ≡ false → Kept j (at v bad h input w) (at v bad h input after)

  pub serve : (w : Way v bad h input) (i : ℕ) → Sound v bad i → Up (at v bad h input w) i → (c : Call) → Keeping input (calls i c) → Orderly v bad (calls i c) (at v bad h input w)
      → May v bad (calls i c) (at v bad h input w) → Grown (at v bad h input w) i (calls i c) → Served w i c
  serve w i o u c k order may g = go (hands_over_lem v bad h input w1 i o running_still g.new posts)
    where
      w1 : Way v bad h input
      w1 = further v bad h input w (calls i c) k order may

      running_still : (board_after (at v bad h input w1) i).stage ≡ running
      running_still = g.stage ∙ u.stage

      posts : (m : Message) → Memᴰ m g.new → Memᴰ m (board_after (at v bad h input w1) i).outbox
      posts m x = subst (Memᴰ m) (sym g.outbox) (Memᴰ.append_right (board_after (at v bad h input w) i).outbox x)

      of : (m : Message) → Memᴰ m (board_after (at v bad h input w) i).outbox ⊎ Memᴰ m g.new
          → HandedSince i (message_bytes m) (at v bad h input w1) ⊎ Memᴰ m g.new
      of m (inl x) = inl (g.since (message_bytes m) (u.handed m x))
      of m (inr x) = inr x

      each : (m : Message) → Memᴰ m (board_after (at v bad h input w1) i).outbox → HandedSince i (message_bytes m) (at v bad h input w1) ⊎ Memᴰ m g.new
      each m x =
          of m (Memᴰ.append_cases (board_after (at v bad h input w) i).outbox (subst (Memᴰ m) g.outbox x))

      go : HandsOver v bad h input w1 i g.new → Served w i c
      go r = record {
        after = r.after;
        up = up_handed w1 i g.new r running_still each;
        own = r.kept i;
        others = λ j d. kept_trans j (at v bad h input w) (at v bad h input w1) (at v bad h input r.after) (kept_other (calls i c) (at v bad h input w) j d) (r.kept j);
      }
