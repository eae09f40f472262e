-- All sound boards are up, and of what they may hand over only the letters of a list may still be untaken: what a call of one board makes of that.
use mathlib.Core.Path.{◌≡◌, sym, ap, ◌∙◌, subst}
use mathlib.Core.Logic.{◌⊎◌, inl, inr}
use mathlib.Core.Bool.{false}
use mathlib.Core.List.Memᴰ
use mathlib.Core.List.{List, ◌∷◌, ◌++◌, map, Memᴰ}
use Prim.Native.Nat.{ℕ, ◌+◌, ◌≤◌, ◌<◌}
use native.Mathlib.Omega.{arith}
use lib.Dec.{eqb}
use lib.ListN.{length}
use Rattle.base.specs.Sets.{Set}
use Rattle.base.specs.Limits.{last_level}
use Rattle.message.specs.declared.Message.{Message}
use Rattle.party_bounds.proofs.Sums.{sum, sum_less}
use Rattle.party_bounds.proofs.Laws.{messages_left}
use Rattle.agreement.specs.History.{Instance, Call, calls, History, board_after}
use Rattle.agreement.specs.Allowed.{Sound}
use Rattle.agreement.specs.Demand.{Took}
use Rattle.agreement_completion.proofs.Boards.{either}
use Rattle.agreement_completion.proofs.Kept.{Kept, Counts, kept_counts, Begun, begun_later, took_later}
use Rattle.agreement_completion.proofs.Calls.{left_at, Grown}
use Rattle.agreement_completion.proofs.Serving.{Up, kept_up}

-- a message that a board may hand over
pub record Letter : Type 0 where
  pub sender : ℕ
  pub message : Message

abbrev pub letter : ℕ → Message → Letter
letter j m = record { sender = j; message = m }

-- the message is one that board j may hand over
abbrev pub Posted : History → ℕ → Message → Type 0
Posted h j m = Memᴰ m (board_after h j).outbox

-- of what sound boards may hand over, only the letters q may be untaken by some sound board
pub record Open (v : Instance) (bad : Set) (h : History) (q : List Letter) : Type 0 where
  pub up : (i : ℕ) → Sound v bad i → Up h i
  pub begun : (i : ℕ) → Sound v bad i → Begun h i
  pub waits : (i j : ℕ) (m : Message) → Sound v bad i → Sound v bad j → Posted h j m → Took h i j m ⊎ Memᴰ (letter j m) q
  pub given : (l : Letter) → Memᴰ l q → Sound v bad l.sender × Posted h l.sender l.message

-- how many messages the boards below n can still make
abbrev pub left_of : ℕ → History → ℕ
left_of n h = sum n (left_at h)

-- ---- board k makes a call and hands over the messages `new` that it made

pub record Changes (h later : History) (k : ℕ) (new : List Message) : Type 0 where
  pub up : Up later k
  pub outbox : (board_after later k).outbox ≡ (board_after h k).outbox ++ new
  pub counts : Counts k h later
  pub fewer : length new + left_at later k ≤ left_at h k
  pub others : (j : ℕ) → eqb k j ≡ false → Kept j h later

-- from the call, and what is kept after it
pub changes : (h later : History) (k : ℕ) (c : Call) → (g : Grown h k (calls k c)) → Up later k → Kept k (calls k c ∷ h) later
    → ((j : ℕ) → eqb k j ≡ false → Kept j h later) → Changes h later k g.new
changes h later k c g up kept others = record {
  up = up;
  outbox = kept.board.outbox ∙ g.outbox;
  counts = λ n x. kept_counts k (calls k c ∷ h) later kept n (g.counts n x);
  fewer = omega (arith, g.fewer, ap (messages_left (last_level + 1)) kept.board.party);
  others = others;
}

module _ (v : Instance) (bad : Set) (h later : History) (k : ℕ) (new : List Message) (x : Changes h later k new) where
  -- whichever board it is
  still_up : (i : ℕ) → Up h i → Up later i
  still_up i u = either (Up later) k i x.up (λ e. kept_up i h later (x.others i e) u)

  pub still_counts : (i : ℕ) → Counts i h later
  still_counts i = either (λ (y : ℕ). Counts y h later) k i x.counts (λ e. kept_counts i h later (x.others i e))

  still_posted : (j : ℕ) (m : Message) → Posted h j m → Posted later j m
  still_posted j m =
      either (λ (y : ℕ). Posted h y m → Posted later y m) k j (λ y. subst (Memᴰ m) (sym x.outbox) (Memᴰ.append_left new y))
      (λ e y. subst (Memᴰ m) (sym (x.others j e).board.outbox) y)

  -- only board k has more to hand over
  posted_later : (j : ℕ) (m : Message) → Posted later j m → Posted h j m ⊎ Memᴰ (letter j m) (map (letter k) new)
  posted_later j m =
      either (λ (y : ℕ). Posted later y m → Posted h y m ⊎ Memᴰ (letter y m) (map (letter k) new)) k j
      (λ y. own (Memᴰ.append_cases (board_after h k).outbox (subst (Memᴰ m) x.outbox y)))
      (λ e y. inl (subst (Memᴰ m) (x.others j e).board.outbox y))
    where
      own : Posted h k m ⊎ Memᴰ m new → Posted h k m ⊎ Memᴰ (letter k m) (map (letter k) new)
      own (inl y) = inl y
      own (inr y) = inr (Memᴰ.map (letter k) y)

  -- of all that can still come, as much less as was made
  pub fewer_left : (n : ℕ) → k < n → left_of n later + length new ≤ left_of n h
  fewer_left n l =
      sum_less n (left_at later) (left_at h) k (length new) l (omega (arith, x.fewer)) (λ i.
      either (λ (y : ℕ). left_at later y ≤ left_at h y) k i (omega (arith, x.fewer)) (λ e. omega (arith, ap (messages_left (last_level + 1)) (x.others i e).board.party)))

  -- so of what sound boards may hand over, only the letters before and those of `new` may be untaken
  pub opened : Sound v bad k → (l : Letter) (q : List Letter) → Open v bad h (l ∷ q) → Open v bad later (l ∷ (map (letter k) new ++ q))
  opened s l q w = record {
    up = λ i o. still_up i (w.up i o);
    begun = λ i o. begun_later i h later (still_counts i) (w.begun i o);
    waits = λ i j m o p y. waits i j m o p (posted_later j m y);
    given = λ n y. given n (Memᴰ.cases_cons y);
  }
    where
      letters : List Letter
      letters = map (letter k) new

      on : (n : Letter) → (n ≡ l) ⊎ Memᴰ n q → Memᴰ n (l ∷ (letters ++ q))
      on n (inl e) = Memᴰ.head e
      on n (inr y) = Memᴰ.tail (Memᴰ.append_right letters y)

      older : (i j : ℕ) (m : Message) → Took h i j m ⊎ Memᴰ (letter j m) (l ∷ q) → Took later i j m ⊎ Memᴰ (letter j m) (l ∷ (letters ++ q))
      older i j m (inl y) = inl (took_later i h later (still_counts i) j m y)
      older i j m (inr y) = inr (on (letter j m) (Memᴰ.cases_cons y))

      waits : (i j : ℕ) (m : Message) → Sound v bad i → Sound v bad j → Posted h j m ⊎ Memᴰ (letter j m) letters
          → Took later i j m ⊎ Memᴰ (letter j m) (l ∷ (letters ++ q))
      waits i j m o p (inl y) = older i j m (w.waits i j m o p y)
      waits i j m o p (inr y) = inr (Memᴰ.tail (Memᴰ.append_left q y))

      before : (n : Letter) → Memᴰ n (l ∷ q) → Sound v bad n.sender × Posted later n.sender n.message
      before n y = let g = w.given n y in (g.0, still_posted n.sender n.message g.1)

      Good : Letter → Type 0
      Good n = Sound v bad n.sender × Posted later n.sender n.message

      of_new : (n : Letter) → Memᴰ n letters → Good n
      of_new n y =
          let (m, z, e) = Memᴰ.of_map (letter k) new y in
          subst Good e (s, subst (Memᴰ m) (sym x.outbox) (Memᴰ.append_right (board_after h k).outbox z))

      split : (n : Letter) → Memᴰ n letters ⊎ Memᴰ n q → Good n
      split n (inl y) = of_new n y
      split n (inr y) = before n (Memᴰ.tail y)

      given : (n : Letter) → (n ≡ l) ⊎ Memᴰ n (letters ++ q) → Good n
      given n (inl e) = before n (Memᴰ.head e)
      given n (inr y) = split n (Memᴰ.append_cases letters y)
