-- Laws of executions without cuts.
use mathlib.Core.Path.{◌≡◌, subst₂}
use mathlib.Core.Logic.{◌⊎◌, inl, inr}
use mathlib.Core.List.{List, [], ◌∷◌}
use mathlib.Core.Bool.{Bool, true, false}
use Prim.Native.Nat.{ℕ}
use lib.Dec.{eqb}
use Rattle.base.specs.Sets.{Set, Sound}
use Rattle.execution.specs.Machine.{Event, start, take, Machine}
use Rattle.execution.specs.Inner.{Step, move, state, Fair, Valid}
use Rattle.execution.proofs.Lawful.{Lawful}

module _ (M : Machine) (W : Lawful M) where
  inv_move : (b : Bool) (s : M.State) (e : Event M.Msg M.Input) → W.Inv s → W.Inv (move M b s e)
  unfolding move
  inv_move true s e v = W.inv_run s e v
  inv_move false s e v = v

  -- every board's state meets the invariant
  pub inv_state : (tr : List (Step M)) (i : ℕ) → W.Inv (state M i tr)
  unfolding state
  inv_state [] i = W.inv_initial i
  inv_state (x ∷ tr) i = inv_move (eqb x.who i) (state M i tr) x.what (inv_state tr i)

  le_move : (b : Bool) (s : M.State) (e : Event M.Msg M.Input) → W.Inv s → W.Le s (move M b s e)
  unfolding move
  le_move true s e v = W.le_run s e v
  le_move false s e v = W.le_refl s

  -- a board's state only rises
  pub le_step : (x : Step M) (tr : List (Step M)) (i : ℕ) → W.Le (state M i tr) (state M i (x ∷ tr))
  unfolding state
  le_step x tr i = le_move (eqb x.who i) (state M i tr) x.what (inv_state tr i)

  module _ (n : ℕ) (bad : Set) where
    -- what was heard of sound boards after a step was made before the step
    heard_event : (e : Event M.Msg M.Input) (s : M.State) (tr : List (Step M)) → Fair M n bad e tr
        → ((j : ℕ) (m : M.Msg) → Sound n bad j → M.Heard s j m → M.Sent (state M j tr) m)
        → (b : Bool) (j : ℕ) (m : M.Msg) → Sound n bad j → M.Heard (move M b s e) j m → M.Sent (state M j tr) m
    unfolding move
    heard_event e s tr f ih false j m g h = ih j m g h
    heard_event (start x) s tr f ih true j m g h = ih j m g (W.heard_start s x j m h)
    heard_event (take k l) s tr f ih true j m g h = go (W.heard_take s k l j m h)
      where
        go : M.Heard s j m ⊎ ((k ≡ j) × (l ≡ m)) → M.Sent (state M j tr) m
        go (inl h') = ih j m g h'
        go (inr p) = subst₂ (λ a c. Sound n bad a → M.Sent (state M a tr) c) p.0 p.1 f g

    -- what any board heard of a sound one, the sound one made
    pub authentic : (tr : List (Step M)) → Valid M n bad tr → (i j : ℕ) (m : M.Msg) → Sound n bad j → M.Heard (state M i tr) j m → M.Sent (state M j tr) m
    unfolding state
    authentic [] v i j m g h = absurd (W.heard_initial i j m h)
    authentic (x ∷ tr) v i j m g h =
        W.le_sent (state M j tr) (state M j (x ∷ tr)) (le_step x tr j) m
        (heard_event x.what (state M i tr) tr v.1 (authentic tr v.0 i) (eqb x.who i) j m g h)

    -- and it made it before the last step
    pub heard_before : (x : Step M) (tr : List (Step M)) → Valid M n bad (x ∷ tr) → (i j : ℕ) (m : M.Msg) → Sound n bad j
        → M.Heard (state M i (x ∷ tr)) j m → M.Sent (state M j tr) m
    unfolding state
    heard_before x tr v i j m g h = heard_event x.what (state M i tr) tr v.1 (authentic tr v.0 i) (eqb x.who i) j m g h

    -- Induction along causes: a property holds of all messages that sound boards make, if a sound board that has heard
    -- only such messages of sound boards has made only such.
    pub causal : (tr : List (Step M)) → Valid M n bad tr → (Good : ℕ → M.Msg → Type 0)
        → ((i : ℕ) (s : M.State) → Sound n bad i → W.Inv s → W.Le s (state M i tr)
        → ((j : ℕ) (m : M.Msg) → Sound n bad j → M.Heard s j m → Good j m)
        → (m : M.Msg) → M.Sent s m → Good i m)
        → (i : ℕ) → Sound n bad i → (m : M.Msg) → M.Sent (state M i tr) m → Good i m
    unfolding state
    causal [] v Good each i g m h =
        each i (M.initial i) g (W.inv_initial i) (W.le_refl (M.initial i)) (λ j k _ z. absurd (W.heard_initial i j k z)) m h
    causal (x ∷ tr) v Good each i g m h =
        let before = causal tr v.0 Good (λ a s ga va l. each a s ga va (W.le_trans s (state M a tr) (state M a (x ∷ tr)) l (le_step x tr a))) in
        each i (state M i (x ∷ tr)) g (inv_state (x ∷ tr) i) (W.le_refl (state M i (x ∷ tr)))
        (λ j k gj z. before j gj k (heard_before x tr v i j k gj z)) m h
