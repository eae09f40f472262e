-- The party that an answer or a count answer came from: it passes question 19 and has the vote's plan.
use mathlib.Core.Path.{◌≡◌, refl, sym, ◌∙◌, subst}
use mathlib.Core.Logic.{◌⊎◌, inl, inr}
use mathlib.Core.List.Memᴰ
use mathlib.Core.List.{[], ◌∷◌, Memᴰ}
use Prim.Native.Nat.{ℕ, ◌<◌}
use native.Mathlib.Omega.{arith}
use lib.Dec.{T}
use lib.IntN.{ℤ}
use Rattle.std.specs.Prelude.{Some, None}
use Rattle.base.specs.Sets.{Set}
use Rattle.plan.specs.Plan.{Plan}
use Rattle.party.specs.Party.{Party}
use Rattle.party.specs.Valid.{party_valid}
use Rattle.board_calls.specs.Answers.{Answer}
use Rattle.board_calls.specs.Calls.{answered_of}
use Rattle.board_laws.proofs.Counts.{count_refused}
use Rattle.agreement.specs.History.{Instance, read_count, read_as_count, Step, calls, History, Stage, waiting, running, down, board_after}
use Rattle.agreement.specs.Allowed.{May, Allowed}
use Rattle.agreement.specs.Demand.{party_by, party_now, answer_now, Shared}
use Rattle.agreement.proofs.Boards.{answered_none, state_of, running_state, down_state, state_plan, state_formed}

no_answer : {x : Answer} {z : ℤ} → x ≡ None → x ≡ Some z → ⊥
no_answer {x} {z} n e = let y : None ≡ Some z = sym n ∙ e in let o : ◌≡◌ {A = ℕ} 0 1 = cc in omega arith

module _ (v : Instance) (plan : Plan) (bad : Set) (f : Shared v plan) (i : ℕ) (k : i < v.n) where
  -- what a reading of the board is asked of
  pub record Ours (p : Party) : Type 0 where
    pub valid : T (party_valid p)
    pub plans : p.plan ≡ plan

  state_ours : (h : History) (a : Allowed v bad h) → Ours (state_of v plan h i)
  state_ours h a = record { valid = (state_formed v plan bad f h a i k).valid; plans = state_plan v plan bad f h a i k }

  -- the party that gives the answer now: a board not set up gives none
  pub now_ours : (h : History) (a : Allowed v bad h) (z : ℤ) → answer_now v h i ≡ Some z → Ours (party_now v h i)
  now_ours h a z = go (board_after h i).stage refl
    where
      go : (s : Stage) → (board_after h i).stage ≡ s → (answered_of (party_by v i (board_after h i) s)).answer ≡ Some z → Ours (party_by v i (board_after h i) s)
      go waiting up e = absurd (no_answer answered_none e)
      go running up e = subst Ours (sym (running_state v plan bad f h a i k up)) (state_ours h a)
      go down up e = subst Ours (sym (down_state v plan bad f h a i k)) (state_ours h a)

  -- the party of a count reading that gave an answer
  pub read_ours : (h : History) → Allowed v bad h → (p : Party) (g : ℕ) (c b : ℤ) → Memᴰ (calls i (read_count p g c)) h → (read_as_count p g c).answer ≡ Some b → Ours p
  read_ours [] a p g c b m e = absurd (Memᴰ.not-nil m)
  read_ours (s ∷ h) (n, a) p g c b m e = go (Memᴰ.cases_cons m) (λ y. read_ours h a p g c b y e)
    where
      of : May v bad (calls i (read_count p g c)) h → Ours p
      of (o, inl r) = absurd (no_answer (count_refused p g c r.1.1) e)
      of (o, inr y) = subst Ours (sym (y.1 ∙ running_state v plan bad f h a i k y.0)) (state_ours h a)

      go : (calls i (read_count p g c) ≡ s) ⊎ Memᴰ (calls i (read_count p g c)) h → (Memᴰ (calls i (read_count p g c)) h → Ours p) → Ours p
      go (inl y) ih = of (subst (λ (x : Step). May v bad x h) (sym y) n)
      go (inr y) ih = ih y
