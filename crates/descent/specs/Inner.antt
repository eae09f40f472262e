-- What the vote asks of a plan, what the boards came to at each level, and what that rests on: rules 9 to 14 of document 01, and graded consensus
-- (rules 1 to 8) at each level. These definitions serve proofs only.
use Rattle.std.specs.Prelude.{◌≡◌, ◌⊎◌, Bool, true, false, ℕ, suc, ◌≤◌, ◌<◌, T}
use Rattle.base.specs.Sets.{Set, Sound, count}

-- ---- plans: components with a centre, numbered neighbours of it, and sides; and which positions are near

pub record Shape : Type 1 where
  -- what components are given by, and which of these are components of the plan
  pub Comp : Type 0
  pub Proper : Comp → Type 0
  pub Member : Comp → ℕ → Type 0
  -- how many positions a component has
  pub size : Comp → ℕ
  pub centre : Comp → ℕ
  -- "its port is 0 at the centre, else its side"
  pub port : Comp → ℕ → ℕ
  -- neighbour k, and side k, which holds it
  pub neighbour : Comp → ℕ → ℕ
  pub side : Comp → ℕ → Comp
  -- at most one edge apart
  pub Near : ℕ → ℕ → Type 0

-- "a component of s positions, s at least 3": one that has a centre and sides
pub record Large (P : Shape) (c : P.Comp) : Type 0 where
  pub proper : P.Proper c
  pub three : 3 ≤ P.size c

-- x is a position of port k, k at least 1: side k is there
pub record OnSide (P : Shape) (c : P.Comp) (x k : ℕ) : Type 0 where
  pub large : Large P c
  pub member : P.Member c x
  pub low : 1 ≤ k
  pub port : P.port c x ≡ k

-- the laws by which answers end near one another
pub record Laws (P : Shape) : Type 0 where
  pub near_refl : (x : ℕ) → P.Near x x
  pub near_sym : (x y : ℕ) → P.Near x y → P.Near y x
  -- two positions of a component of one or two are near
  pub small_near : (c : P.Comp) (x y : ℕ) → P.Proper c → P.size c ≤ 2 → P.Member c x → P.Member c y → P.Near x y
  -- only the centre has port 0
  pub port_zero : (c : P.Comp) (x : ℕ) → Large P c → P.Member c x → P.port c x ≡ 0 → x ≡ P.centre c
  -- a side is a smaller component, which holds the positions of its number and its neighbour
  pub side_proper : (c : P.Comp) (x k : ℕ) → OnSide P c x k → P.Proper (P.side c k)
  pub side_smaller : (c : P.Comp) (x k : ℕ) → OnSide P c x k → P.size (P.side c k) < P.size c
  pub side_member : (c : P.Comp) (x k : ℕ) → OnSide P c x k → P.Member (P.side c k) x
  pub neighbour_member : (c : P.Comp) (x k : ℕ) → OnSide P c x k → P.Member (P.side c k) (P.neighbour c k)
  -- the neighbour is near the centre
  pub neighbour_near : (c : P.Comp) (x k : ℕ) → OnSide P c x k → P.Near (P.centre c) (P.neighbour c k)

-- A convex set of positions: it has what lies between two of its positions, as far as the vote goes there.
pub record Convex (P : Shape) (H : ℕ → Type 0) : Type 0 where
  -- the centre is between positions of different ports
  pub has_centre : (c : P.Comp) (x y : ℕ) → Large P c → P.Member c x → P.Member c y → (P.port c x ≡ P.port c y → ⊥) → H x → H y → H (P.centre c)
  -- neighbour k is between a position of port k and one of another port
  pub has_neighbour : (c : P.Comp) (x y k : ℕ) → OnSide P c x k → P.Member c y → (P.port c y ≡ k → ⊥) → H x → H y → H (P.neighbour c k)

-- ---- the boards' levels

module _ (P : Shape) where
  pub record Levels : Type 1 where
    -- board i has entered level L, over the component c, at position x
    pub Entered : (i L : ℕ) (c : P.Comp) (x : ℕ) → Type 0
    -- its result there is the value v, of grade 2 if sure, else of grade 1
    pub Result : (i L v : ℕ) (sure : Bool) → Type 0
    -- its result there is none
    pub None : (i L : ℕ) → Type 0
    -- its output there is y
    pub Output : (i L y : ℕ) → Type 0

  module _ (B : Levels) (n : ℕ) (bad : Set) where
    -- how board i came from level L to the next, over the component c at position x
    pub data Entry (i L : ℕ) (c : P.Comp) (x : ℕ) : Type 0 where
      -- rule 10 at grade 2: "at the old position if .. it lies there"
      stays : (c₀ : P.Comp) (k : ℕ) → B.Entered i L c₀ x → 3 ≤ P.size c₀ → B.Result i L k true → 1 ≤ k
          → P.port c₀ x ≡ k → c ≡ P.side c₀ k → Entry i L c x
      -- rule 10 at grade 2: "else at neighbour k"
      moves : (c₀ : P.Comp) (x₀ k : ℕ) → B.Entered i L c₀ x₀ → 3 ≤ P.size c₀ → B.Result i L k true → 1 ≤ k
          → (P.port c₀ x₀ ≡ k → ⊥) → c ≡ P.side c₀ k → x ≡ P.neighbour c₀ k → Entry i L c x
      -- rule 10 at grade 1, or rule 12: a sound board j, itself or one of the t+1 senders of side k, has grade 1
      follows : (c₀ : P.Comp) (x₀ j k : ℕ) → B.Entered i L c₀ x₀ → 3 ≤ P.size c₀ → Sound n bad j → B.Result j L k false → 1 ≤ k
          → c ≡ P.side c₀ k → x ≡ P.neighbour c₀ k → Entry i L c x

    -- how board i came to the output y at level L
    pub data Outcome (i L y : ℕ) : Type 0 where
      -- "Entering a component of 1 or 2 positions gives that level's output, the board's position"
      on_entry : (c : P.Comp) → B.Entered i L c y → P.size c ≤ 2 → Outcome i L y
      -- rule 9
      by_zero : (c : P.Comp) (x : ℕ) (sure : Bool) → B.Entered i L c x → 3 ≤ P.size c → B.Result i L 0 sure → y ≡ P.centre c → Outcome i L y
      -- rule 11, or rule 13: a sound board j, itself or one of the t+1 senders of centre, has result none
      by_none : (c : P.Comp) (x j : ℕ) → B.Entered i L c x → 3 ≤ P.size c → Sound n bad j → B.None j L → y ≡ P.centre c → Outcome i L y
      -- rule 14
      from_below : (c : P.Comp) (x k : ℕ) (sure : Bool) → B.Entered i L c x → 3 ≤ P.size c → B.Result i L k sure → 1 ≤ k → B.Output i (suc L) y
          → Outcome i L y

    -- a sound board that entered c at level L, with port v
    pub record Ported (L : ℕ) (c : P.Comp) (v : ℕ) : Type 0 where
      pub board : ℕ
      pub place : ℕ
      pub sound : Sound n bad board
      pub entered : B.Entered board L c place
      pub port : P.port c place ≡ v

    -- two sound boards that entered c at level L, with different ports
    pub record Differ (L : ℕ) (c : P.Comp) : Type 0 where
      pub one : ℕ
      pub two : ℕ
      pub place : ℕ
      pub other : ℕ
      pub sound : Sound n bad one
      pub sound' : Sound n bad two
      pub entered : B.Entered one L c place
      pub entered' : B.Entered two L c other
      pub apart : P.port c place ≡ P.port c other → ⊥

    -- all sound boards that entered level L entered the component c, in it
    abbrev pub Shared : ℕ → P.Comp → Type 0
    Shared L c = (i : ℕ) (d : P.Comp) (x : ℕ) → Sound n bad i → B.Entered i L d x → (d ≡ c) × P.Member c x

    -- graded consensus at level L, over the component c: what sound boards' results there have in common
    pub record Graded (L : ℕ) (c : P.Comp) : Type 0 where
      -- they have one value
      pub agree : (i j v w : ℕ) (a b : Bool) → Sound n bad i → Sound n bad j → B.Result i L v a → B.Result j L w b → v ≡ w
      -- grade 2 and none do not occur together
      pub unsure : (i j v : ℕ) → Sound n bad i → Sound n bad j → B.Result i L v true → B.None j L → ⊥
      -- the value is some sound port
      pub port : (i v : ℕ) (a : Bool) → Sound n bad i → B.Result i L v a → Ported L c v
      -- grade 1 and none occur only where sound ports differ
      pub mixed : (i v : ℕ) → Sound n bad i → B.Result i L v false → Differ L c
      pub split : (i : ℕ) → Sound n bad i → B.None i L → Differ L c

    -- What sound boards' levels rest on, whatever was heard from others; level 0 is over the component `whole`.
    pub record Facts (whole : P.Comp) : Type 0 where
      -- "A board enters level 0 at its start, at its input."
      pub first : (i : ℕ) (c : P.Comp) (x : ℕ) → Sound n bad i → B.Entered i 0 c x → (c ≡ whole) × P.Member c x
      -- rules 10 and 12
      pub entry : (i L : ℕ) (c : P.Comp) (x : ℕ) → Sound n bad i → B.Entered i (suc L) c x → Entry i L c x
      -- entering, and rules 9, 11, 13 and 14
      pub outcome : (i L y : ℕ) → Sound n bad i → B.Output i L y → Outcome i L y
      -- rules 1 to 8, at a level whose component all share
      pub graded : (L : ℕ) (c : P.Comp) → P.Proper c → 3 ≤ P.size c → Shared L c → Graded L c

    -- x is the input of a sound board
    abbrev pub Input : ℕ → Type 0
    Input x = (i : ℕ) × (c : P.Comp) × Sound n bad i × B.Entered i 0 c x

    -- board i has entered level L, has a result there, has an output there
    abbrev pub Reached : ℕ → ℕ → Type 0
    Reached i L = (c : P.Comp) × (x : ℕ) × B.Entered i L c x

    abbrev pub Resulted : ℕ → ℕ → Type 0
    Resulted i L = ((v : ℕ) × (a : Bool) × B.Result i L v a) ⊎ B.None i L

    abbrev pub Answered : ℕ → ℕ → Type 0
    Answered i L = (y : ℕ) × B.Output i L y

    -- more than t boards, all of them sound, of which A holds
    abbrev pub Many : ℕ → (ℕ → Type 0) → Type 0
    Many t A = (f : Set) × (t < count n f) × ((j : ℕ) → j < n → T (f j) → Sound n bad j × A j)

    -- What holds besides once no rule applies and every sound board has taken all that sound boards made.
    pub record Quiet (t : ℕ) : Type 0 where
      -- "Entering a component of 1 or 2 positions gives that level's output"
      pub on_entry : (i L : ℕ) (c : P.Comp) (x : ℕ) → Sound n bad i → B.Entered i L c x → P.size c ≤ 2 → Answered i L
      -- rules 1 to 8, at a level that all sound boards have entered
      pub result : (L : ℕ) (c : P.Comp) → P.Proper c → 3 ≤ P.size c → Shared L c → ((i : ℕ) → Sound n bad i → Reached i L)
          → (i : ℕ) → Sound n bad i → Resulted i L
      -- rule 9
      pub by_zero : (i L : ℕ) (c : P.Comp) (x : ℕ) (a : Bool) → Sound n bad i → B.Entered i L c x → 3 ≤ P.size c → B.Result i L 0 a → Answered i L
      -- rule 10
      pub onward : (i L : ℕ) (c : P.Comp) (x k : ℕ) (a : Bool) → Sound n bad i → B.Entered i L c x → 3 ≤ P.size c → B.Result i L k a → 1 ≤ k → Reached i (suc L)
      -- rule 11
      pub by_none : (i L : ℕ) (c : P.Comp) (x : ℕ) → Sound n bad i → B.Entered i L c x → 3 ≤ P.size c → B.None i L → Answered i L
      -- rule 12, where side k is there and more than t sound boards sent it by rule 10 at grade 1
      pub led : (i L : ℕ) (c : P.Comp) (x y k : ℕ) → Sound n bad i → B.Entered i L c x → OnSide P c y k → B.None i L
          → Many t (λ j. B.Result j L k false) → Reached i (suc L)
      -- rule 13, where more than t sound boards sent centre by rule 11
      pub by_many : (i L : ℕ) (c : P.Comp) (x : ℕ) → Sound n bad i → B.Entered i L c x → 3 ≤ P.size c → Many t (λ j. B.None j L) → Answered i L
      -- rule 14
      pub from_below : (i L : ℕ) (c : P.Comp) (x k : ℕ) (a : Bool) → Sound n bad i → B.Entered i L c x → 3 ≤ P.size c → B.Result i L k a → 1 ≤ k
          → Answered i (suc L) → Answered i L
