-- What an action adds to what was handed over, ever and since the last accepted restore.
use mathlib.Core.Path.{◌≡◌, refl, sym, ap, ◌∙◌, subst}
use mathlib.Core.Logic.{◌⊎◌, inl, inr}
use mathlib.Core.Bool.{Bool, true, false, not}
use mathlib.Core.List.Memᴰ
use mathlib.Core.List.{List, [], ◌∷◌, Memᴰ}
use Prim.Native.Nat.{ℕ}
use native.Mathlib.Decide.{ℕ_discrete}
use lib.Dec.{T, eqb, eqb→eq, eqb_refl}
use Rattle.base.specs.Pick.{pick}
use Rattle.base.proofs.Bools.{not-T→false, true→T, false→not-T}
use Rattle.message.specs.declared.Message.{Message}
use Rattle.message.specs.Message.{message_bytes}
use Rattle.agreement.specs.History.{Instance, Step, calls, hands, cut, whose, History, Board}
use Rattle.agreement.specs.Allowed.{Handed}
use Rattle.agreement.specs.Demand.{is_restore_of, since_restore, HandedSince}
use Rattle.agreement.proofs.Since.{restore_own, since_later}
use Rattle.agreement_histories.specs.Scripts.{Action, sets_up, starts, starts_count, takes, reads, reads_count, sends, cuts, restores, restores_torn, tries, actor, step_of}
use Rattle.agreement_histories.proofs.Worlds.{Handing, sent_with, not_by, since_with}

-- an entry of the list says that board i handed these bytes over
abbrev pub Known : List Handing → ℕ → List ℕ → Type 0
Known l i bytes = (x : Handing) × Memᴰ x l × (i ≡ x.by) × (bytes ≡ message_bytes x.message)

-- the step of an action is its actor's
pub whose_action : (v : Instance) (b : Board) (a : Action) → whose (step_of v b a) ≡ actor a
whose_action v b (sets_up j) = refl
whose_action v b (starts j z) = refl
whose_action v b (starts_count j g c) = refl
whose_action v b (takes j s m) = refl
whose_action v b (reads j) = refl
whose_action v b (reads_count j g c) = refl
whose_action v b (sends j m) = refl
whose_action v b (cuts j k) = refl
whose_action v b (restores j) = refl
whose_action v b (restores_torn j tail) = refl
whose_action v b (tries j k c) = refl

-- what a step hands over, and whether it does
abbrev hands_over : Step → Bool
hands_over (hands i m) = true
hands_over (calls i c) = false
hands_over (cut i k) = false

abbrev hands_by : Step → ℕ
hands_by (hands i m) = i
hands_by (calls i c) = 0
hands_by (cut i k) = 0

abbrev hands_bytes : Step → List ℕ
hands_bytes (hands i m) = m
hands_bytes (calls i c) = []
hands_bytes (cut i k) = []

no_handing : {i : ℕ} {m : List ℕ} {s : Step} → hands i m ≡ s → T (not (hands_over s)) → ⊥
no_handing e h = subst (λ (x : Step). T (not (hands_over x))) (sym e) h

module _ (v : Instance) (l : List Handing) (h : History) (b : Board) (i : ℕ) where
  pub handed_more : (m : Message) → (Memᴰ (record { by = i; message = m }) l → Handed i (message_bytes m) h)
      → (a : Action) → Memᴰ (record { by = i; message = m }) (sent_with l a) → Handed i (message_bytes m) (step_of v b a ∷ h)
  handed_more m f (sets_up j) x = Memᴰ.tail (f x)
  handed_more m f (starts j z) x = Memᴰ.tail (f x)
  handed_more m f (starts_count j g c) x = Memᴰ.tail (f x)
  handed_more m f (takes j s y) x = Memᴰ.tail (f x)
  handed_more m f (reads j) x = Memᴰ.tail (f x)
  handed_more m f (reads_count j g c) x = Memᴰ.tail (f x)
  handed_more m f (sends j y) x = go (Memᴰ.cases_cons x)
    where
      go : (◌≡◌ {A = Handing} (record { by = i; message = m }) (record { by = j; message = y })) ⊎ Memᴰ (record { by = i; message = m }) l
          → Handed i (message_bytes m) (hands j (message_bytes y) ∷ h)
      go (inl e) = Memᴰ.head (ap (λ (k : Handing). hands k.by (message_bytes k.message)) e)
      go (inr r) = Memᴰ.tail (f r)
  handed_more m f (cuts j k) x = Memᴰ.tail (f x)
  handed_more m f (restores j) x = Memᴰ.tail (f x)
  handed_more m f (restores_torn j tail) x = Memᴰ.tail (f x)
  handed_more m f (tries j k c) x = Memᴰ.tail (f x)

  module _ (bytes : List ℕ) (f : Handed i bytes h → Known l i bytes) where
    known_still : (s : Step) → T (not (hands_over s)) → (hands i bytes ≡ s) ⊎ Handed i bytes h → Known l i bytes
    known_still s d (inl e) = absurd (no_handing e d)
    known_still s d (inr r) = f r

    pub known_more : (a : Action) → Handed i bytes (step_of v b a ∷ h) → Known (sent_with l a) i bytes
    known_more (sets_up j) x = known_still (step_of v b (sets_up j)) tt (Memᴰ.cases_cons x)
    known_more (starts j z) x = known_still (step_of v b (starts j z)) tt (Memᴰ.cases_cons x)
    known_more (starts_count j g c) x = known_still (step_of v b (starts_count j g c)) tt (Memᴰ.cases_cons x)
    known_more (takes j s y) x = known_still (step_of v b (takes j s y)) tt (Memᴰ.cases_cons x)
    known_more (reads j) x = known_still (step_of v b (reads j)) tt (Memᴰ.cases_cons x)
    known_more (reads_count j g c) x = known_still (step_of v b (reads_count j g c)) tt (Memᴰ.cases_cons x)
    known_more (sends j y) x = go (Memᴰ.cases_cons x)
      where
        new : Handing
        new = record { by = j; message = y }

        go : (hands i bytes ≡ hands j (message_bytes y)) ⊎ Handed i bytes h → Known (new ∷ l) i bytes
        go (inl e) = (new, Memᴰ.head refl, ap hands_by e, ap hands_bytes e)
        go (inr r) = let k = f r in (k.0, Memᴰ.tail k.1, k.2, k.3)
    known_more (cuts j k) x = known_still (step_of v b (cuts j k)) tt (Memᴰ.cases_cons x)
    known_more (restores j) x = known_still (step_of v b (restores j)) tt (Memᴰ.cases_cons x)
    known_more (restores_torn j tail) x = known_still (step_of v b (restores_torn j tail)) tt (Memᴰ.cases_cons x)
    known_more (tries j k c) x = known_still (step_of v b (tries j k c)) tt (Memᴰ.cases_cons x)

-- ---- since the last accepted restore

-- an accepted restore hands nothing over
restores_silent : (i : ℕ) (s : Step) → T (is_restore_of i s) → T (not (hands_over s))
restores_silent i (calls j c) k = tt
restores_silent i (hands j bytes) k = absurd k
restores_silent i (cut j left) k = tt

not_by→ : (i : ℕ) (x : Handing) (l : List Handing) → Memᴰ x (not_by i l) → (i ≡ x.by → ⊥) × Memᴰ x l
unfolding not_by
not_by→ i x [] k = absurd (Memᴰ.not-nil k)
not_by→ i x (y ∷ l) k = go (eqb i y.by) refl k (not_by→ i x l)
  where
    later : (i ≡ x.by → ⊥) × Memᴰ x l → (i ≡ x.by → ⊥) × Memᴰ x (y ∷ l)
    later r = (r.0, Memᴰ.tail r.1)

    first : eqb i y.by ≡ false → (Memᴰ x (not_by i l) → (i ≡ x.by → ⊥) × Memᴰ x l) → (x ≡ y) ⊎ Memᴰ x (not_by i l)
        → (i ≡ x.by → ⊥) × Memᴰ x (y ∷ l)
    first d below (inl e) =
        (λ w. false→not-T d (subst (λ (j : ℕ). T (eqb i j)) (w ∙ ap (λ (z : Handing). z.by) e) (eqb_refl i)), Memᴰ.head e)
    first d below (inr r) = later (below r)

    go : (b : Bool) → eqb i y.by ≡ b → Memᴰ x (pick b (not_by i l) (y ∷ not_by i l)) → (Memᴰ x (not_by i l) → (i ≡ x.by → ⊥) × Memᴰ x l)
        → (i ≡ x.by → ⊥) × Memᴰ x (y ∷ l)
    go true d k below = later (below k)
    go false d k below = first d below (Memᴰ.cases_cons k)

→notBy : (i : ℕ) (x : Handing) (l : List Handing) → (i ≡ x.by → ⊥) → Memᴰ x l → Memᴰ x (not_by i l)
unfolding not_by
→notBy i x [] d k = k
→notBy i x (y ∷ l) d k = go (eqb i y.by) refl (Memᴰ.cases_cons k) (→notBy i x l d)
  where
    go : (b : Bool) → eqb i y.by ≡ b → (x ≡ y) ⊎ Memᴰ x l → (Memᴰ x l → Memᴰ x (not_by i l))
        → Memᴰ x (pick b (not_by i l) (y ∷ not_by i l))
    go true e (inl q) below = absurd (d (eqb→eq i y.by (true→T e) ∙ ap (λ (z : Handing). z.by) (sym q)))
    go true e (inr r) below = below r
    go false e (inl q) below = Memᴰ.head q
    go false e (inr r) below = Memᴰ.tail (below r)

module _ (v : Instance) (l : List Handing) (h : History) (b : Board) (a : Action) (i : ℕ) where
  abbrev now : Step
  now = step_of v b a

  -- an action of another board is no restore of this one
  other_restores : (actor a ≡ i → ⊥) → is_restore_of i (step_of v b a) ≡ false
  other_restores d = not-T→false (is_restore_of i now) (λ k. d (sym (whose_action v b a) ∙ restore_own i now k))

  -- nor is one that does not restore its own
  none_restores : is_restore_of (actor a) (step_of v b a) ≡ false → is_restore_of i (step_of v b a) ≡ false
  none_restores e = not-T→false (is_restore_of i now) (λ k.
      false→not-T e (subst (λ (j : ℕ). T (is_restore_of j now)) (sym (restore_own i now k) ∙ whose_action v b a) k))

  pub since_more : (m : Message) → (Memᴰ (record { by = i; message = m }) l → HandedSince i (message_bytes m) h)
      → Memᴰ (record { by = i; message = m }) (since_with l a (step_of v b a)) → HandedSince i (message_bytes m) (step_of v b a ∷ h)
  unfolding since_restore
  since_more m f x = go (is_restore_of (actor a) now) refl x
    where
      go : (y : Bool) → is_restore_of (actor a) now ≡ y → Memᴰ (record { by = i; message = m }) (pick y (not_by (actor a) l) (sent_with l a))
          → HandedSince i (message_bytes m) (now ∷ h)
      go true e k = let r = not_by→ (actor a) (record { by = i; message = m }) l k in since_later i (message_bytes m) now h (other_restores r.0) (f r.1)
      go false e k =
          subst (λ (z : Bool). Handed i (message_bytes m) (pick z [] (now ∷ since_restore i h))) (sym (none_restores e))
          (handed_more v l (since_restore i h) b i m f a k)

  pub known_since_more : (bytes : List ℕ) → (HandedSince i bytes h → Known l i bytes) → HandedSince i bytes (step_of v b a ∷ h)
      → Known (since_with l a (step_of v b a)) i bytes
  unfolding since_restore
  known_since_more bytes f x = go (is_restore_of (actor a) now) refl (ℕ_discrete (actor a) i)
    where
      here : (z : Bool) → is_restore_of i now ≡ z → Handed i bytes (pick z [] (now ∷ since_restore i h))
      here z e = subst (λ (y : Bool). Handed i bytes (pick y [] (now ∷ since_restore i h))) e x

      others : (actor a ≡ i → ⊥) → Known l i bytes → Known (not_by (actor a) l) i bytes
      others d (y, k, e, g) = (y, →notBy (actor a) y l (λ w. d (w ∙ sym e)) k, e, g)

      go : (y : Bool) → is_restore_of (actor a) now ≡ y → Dec (actor a ≡ i) → Known (pick y (not_by (actor a) l) (sent_with l a)) i bytes
      go true e (yes w) = absurd (Memᴰ.not-nil (here true (subst (λ (j : ℕ). is_restore_of j now ≡ true) w e)))
      go true e (no d) =
          others d (known_still v l (since_restore i h) b i bytes f now (restores_silent (actor a) now (true→T e)) (Memᴰ.cases_cons (here false (other_restores d))))
      go false e w = known_more v l (since_restore i h) b i bytes f a (here false (none_restores e))
