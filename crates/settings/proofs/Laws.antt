-- What the settings' questions tell, one by one.
use mathlib.Core.Path.{◌≡◌, refl, sym, subst}
use mathlib.Core.Bool.{Bool, true, false, ◌&&◌}
use Prim.Native.Nat.{ℕ, ◌*◌, ◌≤◌, ◌<◌}
use lib.Dec.{T, eqb, leb, ltb, leb→le, le→leb, ltb→lt, lt→ltb}
use borrow.Author.Tests.{lt-ltb, le-ltb}
use Rattle.base.specs.Limits.{max_boards}
use Rattle.base.specs.Found.{Found, ask}
use Rattle.base.proofs.Bools.{T_and, T-left, T-right, T→true, not-T→false}
use Rattle.settings.specs.Settings.{unless, settings_fault, settings_fit}

-- settings that pass, question by question
pub record Passed (n t seat : ℕ) : Type 0 where
  pub some : 1 ≤ n
  pub most : n ≤ max_boards
  pub faults : 3 * t < n
  pub own : seat < n

-- ---- the number and the three questions

-- the number is 0 exactly if no question fails
pub fit_all : (a b c : Bool) → eqb (unless a 1 (unless b 2 (unless c 3 0))) 0 ≡ (a && (b && c))
fit_all true true true = refl
fit_all true true false = refl
fit_all true false c = refl
fit_all false b c = refl

-- to refuse by the number is to ask one question after the other
pub ask_all : {A : Type 0} (a b c : Bool) (place : ℕ) (go : Found A)
    → ask (eqb (unless a 1 (unless b 2 (unless c 3 0))) 0) (unless a 1 (unless b 2 (unless c 3 0))) place go ≡ ask a 1 place (ask b 2 place (ask c 3 place go))
ask_all true true true place go = refl
ask_all true true false place go = refl
ask_all true false c place go = refl
ask_all false b c place go = refl

module _ (n t own : ℕ) where
  abbrev boards : Bool
  boards = leb 1 n && leb n max_boards

  abbrev few : Bool
  few = ltb (3 * t) n

  abbrev seated : Bool
  seated = ltb own n

  pub fit_is : settings_fit n t own ≡ ((leb 1 n && leb n max_boards) && (ltb (3 * t) n && ltb own n))
  fit_is = fit_all boards few seated

  pub fit→ : T (settings_fit n t own) → Passed n t own
  fit→ h =
      let all : T (boards && (few && seated)) = subst T fit_is h in
      let a = T-left boards (few && seated) all in
      let b = T-right boards (few && seated) all in
      record {
        some = leb→le 1 n (T-left (leb 1 n) (leb n max_boards) a);
        most = leb→le n max_boards (T-right (leb 1 n) (leb n max_boards) a);
        faults = ltb→lt (3 * t) n (T-left few seated b);
        own = ltb→lt own n (T-right few seated b);
      }

  pub →fit : Passed n t own → T (settings_fit n t own)
  →fit s =
      subst T (sym fit_is)
      (T_and boards (few && seated) (T_and (leb 1 n) (leb n max_boards) (le→leb 1 n s.some) (le→leb n max_boards s.most))
      (T_and few seated (lt→ltb (3 * t) n s.faults) (lt→ltb own n s.own)))

  -- ---- the number, by where it fails

  pub fault_boards : (1 ≤ n → n ≤ max_boards → ⊥) → settings_fault n t own ≡ 1
  fault_boards h =
      rw (not-T→false (leb 1 n && leb n max_boards) (λ x. h (leb→le 1 n (T-left (leb 1 n) (leb n max_boards) x)) (leb→le n max_boards (T-right (leb 1 n) (leb n max_boards) x))))

  module _ (a : 1 ≤ n) (b : n ≤ max_boards) where
    enough : boards ≡ true
    enough = T→true boards (T_and (leb 1 n) (leb n max_boards) (le→leb 1 n a) (le→leb n max_boards b))

    pub fault_faults : n ≤ 3 * t → settings_fault n t own ≡ 2
    fault_faults h = rw (enough, le-ltb (3 * t) n h)

    pub fault_own : 3 * t < n → n ≤ own → settings_fault n t own ≡ 3
    fault_own h k = rw (enough, lt-ltb (3 * t) n h, le-ltb own n k)

    pub fault_none : 3 * t < n → own < n → settings_fault n t own ≡ 0
    fault_none h k = rw (enough, lt-ltb (3 * t) n h, lt-ltb own n k)
