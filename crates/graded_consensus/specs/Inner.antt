-- What the boards came to at one level (rules 1 to 8), and what each sound board's state there rests on.
-- n boards, at most t of them faulty; d the level's degree; K bit places tell the values 0 to d apart.
use Rattle.std.specs.Prelude.{◌≡◌, ◌⊎◌, Bool, true, false, not, ◌&&◌, ◌||◌, ℕ, suc, ◌-◌, ◌*◌, ◌/◌, ◌%◌, ◌^◌, ◌≤◌, ◌<◌, T, eqb}
use Rattle.base.specs.Sets.{Set, count}
use Rattle.base.specs.Inner.{any_below}
use Rattle.base.specs.Sets as sets
use Rattle.message.specs.declared.Body.{Body}
use Rattle.message.specs.declared.Body.TheVariants.{FirstEcho, FirstProposal, SecondEcho, SecondProposal}
use Rattle.message.specs.Message.{none_value}
use Rattle.level.specs.Level.{not_yet}

pub record Setting : Type 0 where
  pub n : ℕ
  pub t : ℕ
  pub bad : Set
  pub d : ℕ
  pub K : ℕ

-- a sound board's number
abbrev pub Sound : Setting → ℕ → Type 0
Sound G i = sets.Sound G.n G.bad i

-- 3t below n, at most t faulty, values fit their bits and are not none
pub record Fair (G : Setting) : Type 0 where
  pub third : 3 * G.t < G.n
  pub few : count G.n G.bad ≤ G.t
  pub bits : G.d < 2 ^ G.K
  pub values : G.d < none_value

-- the boards' states at the level
pub record View : Type 1 where
  pub Entered : ℕ → Type 0
  pub port : ℕ → ℕ
  pub heard : ℕ → Body → Set
  pub Sent : ℕ → Body → Type 0
  pub first : ℕ → ℕ
  pub result : ℕ → ℕ
  pub sure : ℕ → Bool

-- senders of a first echo of a value 0 to d that passes
abbrev pub echoers : Setting → View → ℕ → (ℕ → Bool) → Set
echoers G B i f s = any_below (suc G.d) (λ v. f v && B.heard i (FirstEcho v) s)

-- rule 2: of a value other than the port
abbrev pub others : Setting → View → ℕ → Set
others G B i = echoers G B i (λ v. not (eqb v (B.port i)))

-- rule 3: of v or none
abbrev pub or_none : View → ℕ → ℕ → Set
or_none B i v s = B.heard i (FirstEcho v) s || B.heard i (FirstEcho none_value) s

-- rule 4: of none or a value whose digit at place k is b
abbrev pub digit_side : Setting → View → ℕ → ℕ → ℕ → Set
digit_side G B i k b s = echoers G B i (λ v. eqb ((v / 2 ^ k) % 2) b) s || B.heard i (FirstEcho none_value) s

-- a value 0 to d, or none
abbrev pub Value : Setting → ℕ → Type 0
Value G w = (w ≤ G.d) ⊎ (w ≡ none_value)

-- some sound board has the first result w
abbrev pub Origin : Setting → View → ℕ → Type 0
Origin G B w = (j : ℕ) × Sound G j × (B.first j ≡ w)

-- how a (second) result came: by n-t second proposals, or by t+1 second echoes of none and of the value
abbrev pub ByProposals : Setting → View → ℕ → Type 0
ByProposals G B i = G.n - G.t ≤ count G.n (B.heard i (SecondProposal (B.result i)))

abbrev pub ByEchoes : Setting → View → ℕ → Type 0
ByEchoes G B i =
    (G.t < count G.n (B.heard i (SecondEcho none_value))) × (G.t < count G.n (B.heard i (SecondEcho (B.result i))))

-- What sound boards' states rest on, whatever was heard from others.
pub record Justified (G : Setting) (B : View) : Type 0 where
  -- "a message taken as a sound board's was handed over earlier by it"
  pub wire : (i j : ℕ) (b : Body) → Sound G i → Sound G j → T (B.heard i b j) → B.Sent j b
  pub port_low : (i : ℕ) → Sound G i → B.Entered i → B.port i ≤ G.d
  pub sender_in : (i : ℕ) (b : Body) → Sound G i → B.Sent i b → B.Entered i
  pub first_echo_lem : (i v : ℕ) → Sound G i → B.Sent i (FirstEcho v) → (v ≡ B.port i) ⊎ ((v ≡ none_value) × (G.t < count G.n (others G B i)))
  pub proposal : (i v : ℕ) → Sound G i → B.Sent i (FirstProposal v)
      → (v ≤ G.d) × (G.t < count G.n (B.heard i (FirstEcho v))) × (2 * G.t < count G.n (or_none B i v))
  pub proposal_once : (i v w : ℕ) → Sound G i → B.Sent i (FirstProposal v) → B.Sent i (FirstProposal w) → v ≡ w
  pub first_value : (i : ℕ) → Sound G i → (B.first i ≡ not_yet → ⊥) → Value G (B.first i)
  pub first_by_proposals : (i : ℕ) → Sound G i → B.first i ≤ G.d → G.n - G.t ≤ count G.n (B.heard i (FirstProposal (B.first i)))
  pub first_by_split : (i : ℕ) → Sound G i → B.first i ≡ none_value
      → (k : ℕ) × (k < G.K) × (G.t < count G.n (digit_side G B i k 0)) × (G.t < count G.n (digit_side G B i k 1))
  -- by induction along causes: the first to echo w did not relay it
  pub second_echo_lem : (i w : ℕ) → Sound G i → B.Sent i (SecondEcho w) → Origin G B w
  pub second_proposal_lem : (i w : ℕ) → Sound G i → B.Sent i (SecondProposal w) → Value G w × (2 * G.t < count G.n (B.heard i (SecondEcho w)))
  pub second_proposal_once : (i v w : ℕ) → Sound G i → B.Sent i (SecondProposal v) → B.Sent i (SecondProposal w) → v ≡ w
  pub result_value : (i : ℕ) → Sound G i → (B.result i ≡ not_yet → ⊥) → Value G (B.result i)
  pub result_sure : (i : ℕ) → Sound G i → B.result i ≤ G.d → B.sure i ≡ true → ByProposals G B i
  pub result_unsure : (i : ℕ) → Sound G i → B.result i ≤ G.d → B.sure i ≡ false → ByEchoes G B i
  pub result_none_lem : (i : ℕ) → Sound G i → B.result i ≡ none_value → ByProposals G B i

-- What holds besides once no rule applies and every sound board has taken all that sound boards made.
pub record Settled (G : Setting) (B : View) : Type 0 where
  pub taken : (i j : ℕ) (b : Body) → Sound G i → Sound G j → B.Sent j b → T (B.heard i b j)
  pub rule1 : (i : ℕ) → Sound G i → B.Entered i → B.Sent i (FirstEcho (B.port i))
  pub rule2 : (i : ℕ) → Sound G i → B.Entered i → G.t < count G.n (others G B i) → B.Sent i (FirstEcho none_value)
  pub rule3 : (i v : ℕ) → Sound G i → B.Entered i → v ≤ G.d → G.t < count G.n (B.heard i (FirstEcho v)) → 2 * G.t < count G.n (or_none B i v)
      → (w : ℕ) × B.Sent i (FirstProposal w)
  pub rule4 : (i v : ℕ) → Sound G i → B.Entered i → v ≤ G.d → G.n - G.t ≤ count G.n (B.heard i (FirstProposal v)) → B.first i ≡ not_yet → ⊥
  pub rule4' : (i k : ℕ) → Sound G i → B.Entered i → k < G.K → G.t < count G.n (digit_side G B i k 0) → G.t < count G.n (digit_side G B i k 1)
      → B.first i ≡ not_yet → ⊥
  pub rule5 : (i : ℕ) → Sound G i → B.Entered i → (B.first i ≡ not_yet → ⊥) → B.Sent i (SecondEcho (B.first i))
  pub rule6 : (i w : ℕ) → Sound G i → B.Entered i → (B.first i ≡ not_yet → ⊥) → Value G w → G.t < count G.n (B.heard i (SecondEcho w))
      → B.Sent i (SecondEcho w)
  pub rule7 : (i w : ℕ) → Sound G i → B.Entered i → (B.first i ≡ not_yet → ⊥) → Value G w → 2 * G.t < count G.n (B.heard i (SecondEcho w))
      → (v : ℕ) × B.Sent i (SecondProposal v)
  pub rule8 : (i w : ℕ) → Sound G i → B.Entered i → (B.first i ≡ not_yet → ⊥) → Value G w → G.n - G.t ≤ count G.n (B.heard i (SecondProposal w))
      → B.result i ≡ not_yet → ⊥
  pub rule8' : (i v : ℕ) → Sound G i → B.Entered i → (B.first i ≡ not_yet → ⊥) → v ≤ G.d
      → G.t < count G.n (B.heard i (SecondEcho none_value)) → G.t < count G.n (B.heard i (SecondEcho v))
      → ((w : ℕ) → w ≤ G.d → G.t < count G.n (B.heard i (SecondEcho w)) → w ≡ v) → B.result i ≡ not_yet → ⊥
