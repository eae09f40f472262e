-- What counts as handed over since a board's last restore.
use mathlib.Core.Path.{◌≡◌, refl, sym, ap, ap₂, ◌∙◌, subst}
use mathlib.Core.Logic.{◌⊎◌, inl, inr}
use mathlib.Core.Bool.{Bool, true, false, ◌&&◌}
use mathlib.Core.List.Memᴰ
use mathlib.Core.List.{List, [], ◌∷◌, Memᴰ}
use Prim.Native.Nat.{ℕ}
use lib.Dec.{T, eqb, eqb→eq, eqb_refl}
use Rattle.base.specs.Pick.{pick}
use Rattle.base.specs.Found.{Found, found}
use Rattle.base.proofs.Bools.{T-left, T→true, not-T→false, false→not-T}
use Rattle.board_calls.specs.Restore.{Replay}
use Rattle.agreement.specs.History.{Lent, Call, set_up, start, take_message_lem, read_answer, read_count, restore, restore_finds, Step, calls, hands, cut, whose, History}
use Rattle.agreement.specs.Allowed.{Handed, Refuses}
use Rattle.agreement.specs.Demand.{accepted, is_restore_of, since_restore, HandedSince}

-- ---- restores

-- a restore of board i is its own step
pub restore_own : (i : ℕ) (s : Step) → T (is_restore_of i s) → whose s ≡ i
restore_own i (calls j (set_up n t own agreement plan)) k = absurd k
restore_own i (calls j (start p input lent used)) k = absurd k
restore_own i (calls j (take_message_lem p sender bytes lent used)) k = absurd k
restore_own i (calls j (read_answer p)) k = absurd k
restore_own i (calls j (read_count p g c)) k = absurd k
restore_own i (calls j (restore n t own agreement plan lent)) k = eqb→eq j i (T-left (eqb j i) (accepted (restore_finds n t own agreement plan lent)) k)
restore_own i (hands j bytes) k = absurd k
restore_own i (cut j left) k = absurd k

-- another board's step is none
pub restore_other : (i : ℕ) (s : Step) → eqb (whose s) i ≡ false → is_restore_of i s ≡ false
restore_other i s d = not-T→false (is_restore_of i s) (λ k. false→not-T d (subst (λ (j : ℕ). T (eqb (whose s) j)) (restore_own i s k) (eqb_refl (whose s))))

-- a refused call is none, a refused restore too
refused_none : (i j : ℕ) (c : Call) → Refuses c → is_restore_of i (calls j c) ≡ false
refused_none i j (set_up n t own agreement plan) r = refl
refused_none i j (start p input lent used) r = refl
refused_none i j (take_message_lem p sender bytes lent used) r = refl
refused_none i j (read_answer p) r = refl
refused_none i j (read_count p g c) r = refl
refused_none i j (restore n t own agreement plan lent) (k, (at, e)) = ap (λ (q : Found Replay). eqb j i && accepted q) e ∙ never (eqb j i)
  where
    never : (b : Bool) → (b && false) ≡ false
    never true = refl
    never false = refl

-- ---- which steps count

-- a step that is no accepted restore of board i
since_step : (i : ℕ) (s : Step) (h : History) → is_restore_of i s ≡ false → since_restore i (s ∷ h) ≡ s ∷ since_restore i h
unfolding since_restore
since_step i s h e = ap (λ (b : Bool). pick b [] (s ∷ since_restore i h)) e

-- a refused call, a restore too, changes nothing
pub since_refused : (i j : ℕ) (c : Call) (h : History) → Refuses c → since_restore i (calls j c ∷ h) ≡ calls j c ∷ since_restore i h
since_refused i j c h r = since_step i (calls j c) h (refused_none i j c r)

-- after an accepted restore, whether a cut was before it or not, nothing counts that was before
pub since_restored : (i n t own agreement : ℕ) (plan : List ℕ) (lent : Lent) (h : History) (r : Replay) → restore_finds n t own agreement plan lent ≡ found r
    → since_restore i (calls i (restore n t own agreement plan lent) ∷ h) ≡ []
unfolding since_restore
since_restored i n t own agreement plan lent h r e =
    ap (λ (b : Bool). pick b [] (calls i (restore n t own agreement plan lent) ∷ since_restore i h)) (ap₂ ◌&&◌ (T→true (eqb i i) (eqb_refl i)) (ap accepted e))

-- without one all counts
pub since_all : (i : ℕ) (h : History) → ((s : Step) → Memᴰ s h → is_restore_of i s ≡ false) → since_restore i h ≡ h
unfolding since_restore
since_all i [] none = refl
since_all i (s ∷ h) none =
    since_step i s h (none s (Memᴰ.head refl)) ∙ ap (λ (l : History). s ∷ l) (since_all i h (λ t m. none t (Memᴰ.tail m)))

-- ---- what was handed over

-- what was handed over since was handed over
pub since_handed : (i : ℕ) (bytes : List ℕ) (h : History) → HandedSince i bytes h → Handed i bytes h
unfolding since_restore
since_handed i bytes [] x = x
since_handed i bytes (s ∷ h) x = go (is_restore_of i s) x (since_handed i bytes h)
  where
    older : (hands i bytes ≡ s) ⊎ Handed i bytes (since_restore i h) → (HandedSince i bytes h → Handed i bytes h) → Handed i bytes (s ∷ h)
    older (inl e) ih = Memᴰ.head e
    older (inr y) ih = Memᴰ.tail (ih y)

    go : (b : Bool) → Handed i bytes (pick b [] (s ∷ since_restore i h)) → (HandedSince i bytes h → Handed i bytes h) → Handed i bytes (s ∷ h)
    go true y ih = absurd (Memᴰ.not-nil y)
    go false y ih = older (Memᴰ.cases_cons y) ih

-- it stays so over a step that is no accepted restore of its own
pub since_later : (i : ℕ) (bytes : List ℕ) (s : Step) (h : History) → is_restore_of i s ≡ false → HandedSince i bytes h → HandedSince i bytes (s ∷ h)
since_later i bytes s h e x = subst (Handed i bytes) (sym (since_step i s h e)) (Memᴰ.tail x)

-- what is handed over counts
pub since_now : (i : ℕ) (bytes : List ℕ) (h : History) → HandedSince i bytes (hands i bytes ∷ h)
unfolding since_restore
since_now i bytes h = Memᴰ.head refl
