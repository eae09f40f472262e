-- The world after a script shows the history: its boards, and what was handed over.
use mathlib.Core.Path.{◌≡◌, refl, sym, ap, ◌∙◌, subst}
use mathlib.Core.List.Memᴰ
use mathlib.Core.List.{List, [], ◌∷◌, Memᴰ}
use Prim.Native.Nat.{ℕ, ◌≤◌, ◌<◌}
use native.Mathlib.Decide.{dec_lt, ℕ_discrete}
use native.Mathlib.Omega.{arith}
use lib.Dec.{T, eqb, eqb→eq, eqb_refl}
use lib.ListN.{length, get_or, set, replicate, length-set, length-replicate, get_or-replicate, get_or-eq_default}
use lib.Seq.{get_or-set_same, get_or-set_other}
use Rattle.base.specs.Pick.{pick}
use Rattle.base.proofs.Bools.{not-T→false, T→true}
use Rattle.message.specs.declared.Message.{Message}
use Rattle.message.specs.Message.{message_bytes}
use Rattle.agreement.specs.History.{Instance, Step, whose, History, Board, unborn, after_own, board_after}
use Rattle.agreement.specs.Allowed.{Handed}
use Rattle.agreement.specs.Demand.{since_restore, HandedSince}
use Rattle.agreement_histories.specs.Scripts.{Action, actor, step_of}
use Rattle.agreement_histories.proofs.Worlds.{Handing, World, board_of, beginning, since_with, acted}
use Rattle.agreement_histories.proofs.Handings.{Known, whose_action, handed_more, known_more, since_more, known_since_more}

pub record Shows (v : Instance) (w : World) (h : History) : Type 0 where
  pub many : length w.boards ≡ v.n
  pub board : (i : ℕ) → board_of w i ≡ board_after h i
  pub handed : (i : ℕ) (m : Message) → Memᴰ (record { by = i; message = m }) w.sent → Handed i (message_bytes m) h
  pub known : (i : ℕ) (bytes : List ℕ) → Handed i bytes h → Known w.sent i bytes
  pub handed_since : (i : ℕ) (m : Message) → Memᴰ (record { by = i; message = m }) w.since → HandedSince i (message_bytes m) h
  pub known_since : (i : ℕ) (bytes : List ℕ) → HandedSince i bytes h → Known w.since i bytes

module _ (s : Step) (i : ℕ) (b : Board) where
  -- a step moves the board whose it is
  own_moves : whose s ≡ i → pick (eqb (whose s) i) (after_own b s) b ≡ after_own b s
  own_moves e = rw (T→true (eqb (whose s) i) (subst (λ (j : ℕ). T (eqb (whose s) j)) e (eqb_refl (whose s)))) refl

  -- and leaves the others as they are
  other_stays : (whose s ≡ i → ⊥) → pick (eqb (whose s) i) (after_own b s) b ≡ b
  other_stays d = rw (not-T→false (eqb (whose s) i) (λ h. d (eqb→eq (whose s) i h))) refl

pub shows_beginning : (v : Instance) → Shows v (beginning v) []
unfolding board_after since_restore
shows_beginning v = record {
  many = length-replicate v.n unborn;
  board = λ i. unborn_there v.n i;
  handed = λ i m h. absurd (Memᴰ.not-nil h);
  known = λ i bytes h. absurd (Memᴰ.not-nil h);
  handed_since = λ i m h. absurd (Memᴰ.not-nil h);
  known_since = λ i bytes h. absurd (Memᴰ.not-nil h);
}
  where
    unborn_there : (n i : ℕ) → get_or (replicate n unborn) i unborn ≡ unborn
    unborn_there n i = go (dec_lt i n)
      where
        go : Dec (i < n) → get_or (replicate n unborn) i unborn ≡ unborn
        go (yes l) = get_or-replicate n i unborn unborn l
        go (no d) = get_or-eq_default (replicate n unborn) unborn (subst (λ (k : ℕ). k ≤ i) (sym (length-replicate n unborn)) (omega arith))

pub shows_action : (v : Instance) (w : World) (h : History) (a : Action) → Shows v w h → actor a < v.n → Shows v (acted v w a) (step_of v (board_after h (actor a)) a ∷ h)
unfolding board_after
shows_action v w h a s l = record {
  many = length-set w.boards (actor a) new ∙ s.many;
  board = λ i. there i (ℕ_discrete i (actor a));
  handed = λ i m. handed_more v w.sent h b i m (s.handed i m) a;
  known = λ i bytes. known_more v w.sent h b i bytes (s.known i bytes) a;
  handed_since = λ i m k. since_more v w.since h b a i m (s.handed_since i m) (subst (Memᴰ (record { by = i; message = m })) since_is k);
  known_since = λ i bytes k. subst (λ (l : List Handing). Known l i bytes) (sym since_is) (known_since_more v w.since h b a i bytes (s.known_since i bytes) k);
}
  where
    b : Board
    b = board_after h (actor a)

    since_is : since_with w.since a (step_of v (board_of w (actor a)) a) ≡ since_with w.since a (step_of v (board_after h (actor a)) a)
    since_is = ap (λ (y : Board). since_with w.since a (step_of v y a)) (s.board (actor a))

    new : Board
    new = after_own (board_of w (actor a)) (step_of v (board_of w (actor a)) a)

    step : Step
    step = step_of v (board_after h (actor a)) a

    mine : whose step ≡ actor a
    mine = whose_action v (board_after h (actor a)) a

    there : (i : ℕ) → Dec (i ≡ actor a) → get_or (set w.boards (actor a) new) i unborn ≡ pick (eqb (whose step) i) (after_own (board_after h i) step) (board_after h i)
    there i (yes e) =
        subst (λ (j : ℕ). get_or (set w.boards (actor a) new) j unborn ≡ pick (eqb (whose step) j) (after_own (board_after h j) step) (board_after h j)) (sym e)
        (get_or-set_same w.boards (actor a) new unborn (subst (λ (k : ℕ). actor a < k) (sym s.many) l)
        ∙ ap (λ (b : Board). after_own b (step_of v b a)) (s.board (actor a))
        ∙ sym (own_moves step (actor a) (board_after h (actor a)) mine))
    there i (no d) =
        get_or-set_other w.boards (actor a) i new unborn d ∙ s.board i ∙ sym (other_stays step i (board_after h i) (λ e. d (sym e ∙ mine)))
