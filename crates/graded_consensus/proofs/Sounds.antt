-- Sets of senders and the sound boards in them.
use mathlib.Core.Bool.{not, ◌&&◌}
use Prim.Native.Nat.{ℕ, ◌+◌, ◌-◌, ◌≤◌, ◌<◌}
use native.Mathlib.Omega.{arith}
use lib.Dec.{T}
use Rattle.base.specs.Sets.{Set, count}
use Rattle.base.proofs.Bools.{T-left, T-right}
use Rattle.base.proofs.Counts.{count_mono, count_not, sound_member, sound_part, quorum}
use Rattle.message.specs.declared.Body.{Body}
use Rattle.graded_consensus.specs.Inner.{Setting, Sound, Fair, View, Justified}

-- a set's sound boards
abbrev pub sounds : Setting → Set → Set
sounds G f j = not (G.bad j) && f j

module _ {G : Setting} (F : Fair G) where
  -- t+1 boards include a sound one
  pub sound_of : (f : Set) → G.t < count G.n f → (j : ℕ) × Sound G j × T (f j)
  sound_of f l = let r = sound_member G.n G.t G.bad f F.few l in (r.0, (r.1, r.3), r.2)

  -- a set with every sound board has n-t members
  pub all_reach : (g : Set) → ((j : ℕ) → Sound G j → T (g j)) → G.n - G.t ≤ count G.n g
  all_reach g h = omega (arith, F.few, count_not G.n G.bad, count_mono G.n (λ j. not (G.bad j)) g (λ j l o. h j (l, o)))

  -- a set with all of f's sound boards counts as many at least
  pub sounds_reach : (f g : Set) → ((j : ℕ) → Sound G j → T (f j) → T (g j)) → count G.n (sounds G f) ≤ count G.n g
  sounds_reach f g h = count_mono G.n (sounds G f) g (λ j l p. h j (l, T-left (not (G.bad j)) (f j) p) (T-right (not (G.bad j)) (f j) p))

  -- and lacks at most t of f's members
  pub part_reach : (f g : Set) → ((j : ℕ) → Sound G j → T (f j) → T (g j)) → count G.n f ≤ G.t + count G.n g
  part_reach f g h =
      omega (
        arith,
        sound_part G.n G.t G.bad f F.few,
        count_mono G.n (λ j. f j && not (G.bad j)) g (λ j l p. h j (l, T-right (f j) (not (G.bad j)) p) (T-left (f j) (not (G.bad j)) p)),
      )

  module _ {B : View} (J : Justified G B) where
    -- a message heard from t+1 boards was sent by a sound one
    pub sender_of : (i : ℕ) (b : Body) → Sound G i → G.t < count G.n (B.heard i b) → (j : ℕ) × Sound G j × B.Sent j b
    sender_of i b s l = let r = sound_of (B.heard i b) l in (r.0, r.1, J.wire i r.0 b s r.1 r.2)

    -- two messages heard from n-t boards each were both sent by one sound board
    pub sender_of_both : (i j : ℕ) (b c : Body) → Sound G i → Sound G j → G.n - G.t ≤ count G.n (B.heard i b) → G.n - G.t ≤ count G.n (B.heard j c)
        → (k : ℕ) × Sound G k × B.Sent k b × B.Sent k c
    sender_of_both i j b c si sj l m =
        let r = quorum G.n G.t G.bad (B.heard i b) (B.heard j c) F.third F.few l m in
        let s : Sound G r.0 = (r.1, r.4) in
        (r.0, s, J.wire i r.0 b si s r.2, J.wire j r.0 c sj s r.3)
