-- What completion cannot do without: further steps, and starts and restores among them.
use mathlib.Core.Path.{◌≡◌, refl, sym, ap, ◌∙◌, subst}
use mathlib.Core.Logic.{◌⊎◌, inl, inr}
use mathlib.Core.Bool.{Bool, true, false}
use mathlib.Core.List.Memᴰ
use mathlib.Core.List.{List, [], ◌∷◌, ◌++◌, Memᴰ}
use Prim.Native.Nat.{ℕ, ◌≤◌}
use native.Mathlib.Omega.{arith}
use lib.Dec.{T}
use Rattle.base.specs.Sets.{Set}
use Rattle.plan.specs.Plan.{Plan}
use Rattle.board_calls.specs.Calls.{SetUp}
use Rattle.agreement.specs.History.{Instance, StartInput, Call, set_up, start, take_message_lem, read_answer, read_count, restore, Step, calls, hands, cut, whose, History, Stage, running, down, Counted, Board, unborn, after_set_up, kept_calls, after_cut, board_after}
use Rattle.agreement.specs.Allowed.{Sound, Refuses, Accepts, May, Allowed}
use Rattle.agreement.specs.Demand.{StartedBy, Complete, Shared}
use Rattle.agreement.proofs.Tied.{new_board, set_up_found}
use Rattle.agreement.proofs.Steps.{own, other, refused_nothing}
use Rattle.agreement_completion.proofs.Boards.{down_waiting, down_running, either}

-- at first no board has started
pub not_at_once : (v : Instance) (bad : Set) (i : ℕ) → Sound v bad i → Complete v bad [] → ⊥
unfolding board_after
not_at_once v bad i o c = Memᴰ.not-nil (c.started i o).2.1.1

-- so some start is not among those before
pub start_needed : (v : Instance) (bad : Set) (i : ℕ) → Sound v bad i → (more : History) → Complete v bad (more ++ [])
    → ((j x : ℕ) (input : StartInput) → StartedBy (more ++ []) j x input → StartedBy [] j x input) → ⊥
unfolding board_after
start_needed v bad i o more c before =
    let (x, z, (input, s, voted)) = c.started i o in
    Memᴰ.not-nil (before i x input s).1

-- no step is a restore
abbrev other_call : Call → Bool
other_call (set_up n t own agreement plan) = true
other_call (start p input lent used) = true
other_call (take_message_lem p sender bytes lent used) = true
other_call (read_answer p) = true
other_call (read_count p g c) = true
other_call (restore n t own agreement plan lent) = false

abbrev pub other_step : Step → Bool
other_step (calls i c) = other_call c
other_step (hands i bytes) = true
other_step (cut i left) = true

abbrev pub NoRestore : History → Type 0
NoRestore [] = Unit {0}
NoRestore (s ∷ more) = T (other_step s) × NoRestore more

-- board b is cut, and no call of it counts
record Idle (b : Board) : Type 0 where
  stage : b.stage ≡ down
  counted : b.counted ≡ []

module _ (v : Instance) (bad : Set) where
  -- then only a restore goes on
  by_call : (i : ℕ) (h : History) (c : Call) → T (other_call c) → Idle (board_after h i) → Accepts v bad i h (board_after h i) c → ⊥
  by_call i h (set_up n t seat agreement plan) no-restore w x = down_waiting (board_after h i).stage w.stage x.0
  by_call i h (start p input lent used) no-restore w x = down_running (board_after h i).stage w.stage x.up
  by_call i h (take_message_lem p sender bytes lent used) no-restore w x = down_running (board_after h i).stage w.stage x.0.up
  by_call i h (read_answer p) no-restore w x = down_running (board_after h i).stage w.stage x.0
  by_call i h (read_count p g c) no-restore w x = down_running (board_after h i).stage w.stage x.0
  by_call i h (restore n t seat agreement plan lent) no-restore w x = no-restore

  by_own : (s : Step) (h : History) → T (other_step s) → May v bad s h → Idle (board_after h (whose s)) → Idle (board_after (s ∷ h) (whose s))
  unfolding kept_calls
  by_own (calls i c) h no-restore (o, m) w = go m
    where
      go : Refuses c ⊎ Accepts v bad i h (board_after h i) c → Idle (board_after (calls i c ∷ h) i)
      go (inl r) = subst Idle (sym (refused_nothing h i c r)) w
      go (inr x) = absurd (by_call i h c no-restore w x)
  by_own (hands i bytes) h no-restore (o, up, m) w = absurd (down_running (board_after h i).stage w.stage up)
  by_own (cut i left) h no-restore m w =
      subst Idle (sym (own (cut i left) h ∙ ap (λ (s : Stage). after_cut (board_after h i) s left) w.stage))
      (record { stage = refl; counted = ap (kept_calls left) w.counted })

  stays_idle : (more h : History) (i : ℕ) → NoRestore more → Allowed v bad (more ++ h) → Idle (board_after h i) → Idle (board_after (more ++ h) i)
  stays_idle [] h i x a w = w
  stays_idle (s ∷ more) h i (x, y) (m, a) w =
      either (λ (k : ℕ). Idle (board_after (more ++ h) k) → Idle (board_after (s ∷ (more ++ h)) k)) (whose s) i (by_own s (more ++ h) x m)
      (λ e z. subst Idle (sym (other s (more ++ h) i e)) z) (stays_idle more h i y a w)

-- A board that is set up and cut: without a restore no further steps complete the delivery.
pub restore_needed : (v : Instance) (plan : Plan) (bad : Set) → Shared v plan → (i : ℕ) → Sound v bad i
    → (h : History) × Allowed v bad h × ((more : History) → NoRestore more → Allowed v bad (more ++ h) → Complete v bad (more ++ h) → ⊥)
unfolding board_after kept_calls
restore_needed v plan bad f i o = (cut i 0 ∷ h, ((o, low), ((o, inr (refl, record { boards = refl; faults = refl; seat = refl; number = refl; bytes = refl })), tt)), never)
  where
    h : History
    h = calls i (set_up v.n v.t i v.agreement v.plan) ∷ []

    b : Board
    b = record { stage = running; party = new_board v plan i; journal = []; guarded = 0; outbox = []; counted = [] }

    first : board_after h i ≡ b
    first =
        own (calls i (set_up v.n v.t i v.agreement v.plan)) []
        ∙ ap (λ (x : SetUp). after_set_up unborn x.verdict x.party) (set_up_found v plan f i o.0)

    low : (board_after h i).guarded ≤ 0
    low = subst (λ (x : Board). x.guarded ≤ 0) (sym first) (omega arith)

    idle : Idle (board_after (cut i 0 ∷ h) i)
    idle =
        subst Idle (sym (own (cut i 0) h ∙ ap (λ (x : Board). after_cut x x.stage 0) first))
        (record { stage = refl; counted = refl })

    never : (more : History) → NoRestore more → Allowed v bad (more ++ (cut i 0 ∷ h)) → Complete v bad (more ++ (cut i 0 ∷ h)) → ⊥
    never more x a c =
        let (y, z, (input, (d, m, e), voted)) = c.started i o in
        Memᴰ.not-nil (subst (λ (cs : List Counted). Memᴰ d cs) (stays_idle v bad more (cut i 0 ∷ h) i x a idle).counted m)
