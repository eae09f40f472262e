-- One board at one level, in the words of crate graded_consensus: what its state rests on, and what it has done where no rule applies.
use Rattle.std.specs.Prelude.{◌≡◌, ◌⊎◌, Bool, true, false, not, ◌&&◌, ◌||◌, ℕ, suc, ◌-◌, ◌*◌, ◌/◌, ◌%◌, ◌^◌, ◌≤◌, ◌<◌, eqb}
use Rattle.base.specs.Sets.{Set, count}
use Rattle.base.specs.Inner.{any_below}
use Rattle.message.specs.Message.{none_value}
use Rattle.message.specs.declared.Body.{Body}
use Rattle.message.specs.declared.Body.TheVariants.{FirstEcho, FirstProposal, SecondEcho, SecondProposal}
use Rattle.level.specs.declared.Context.{Context}
use Rattle.level.specs.Level.{Level, not_yet}
use Rattle.level.specs.Counts.{bit_places}
use Rattle.graded_consensus.specs.Inner.{Setting, View}
use Rattle.level_laws.specs.Inner.{SentIn, heard_from}

-- ---- a board's part of a view

pub record Board : Type 1 where
  pub n : ℕ
  pub t : ℕ
  pub d : ℕ
  pub K : ℕ
  pub port : ℕ
  pub heard : Body → Set
  pub Sent : Body → Type 0
  pub first : ℕ
  pub result : ℕ
  pub sure : Bool

-- board i of a view
abbrev pub board_at : Setting → View → ℕ → Board
board_at G B i = record {
  n = G.n;
  t = G.t;
  d = G.d;
  K = G.K;
  port = B.port i;
  heard = B.heard i;
  Sent = B.Sent i;
  first = B.first i;
  result = B.result i;
  sure = B.sure i;
}

-- the board of a level's record
abbrev pub board_of : Context → Level → Board
board_of c l = record {
  n = c.n;
  t = c.t;
  d = c.degree;
  K = bit_places;
  port = c.port;
  heard = heard_from l;
  Sent = SentIn c l;
  first = l.first;
  result = l.result;
  sure = l.sure;
}

-- the boards from which messages that pass were heard
abbrev pub Heard-any : Board → (ℕ → Bool) → Set
Heard-any X f s = any_below (suc X.d) (λ v. f v && X.heard (FirstEcho v) s)

abbrev pub Digit : Board → ℕ → ℕ → Set
Digit X k b s = Heard-any X (λ v. eqb ((v / 2 ^ k) % 2) b) s || X.heard (FirstEcho none_value) s

abbrev pub Or-none : Board → ℕ → Set
Or-none X v s = X.heard (FirstEcho v) s || X.heard (FirstEcho none_value) s

abbrev pub Among : Board → ℕ → Type 0
Among X w = (w ≤ X.d) ⊎ (w ≡ none_value)

-- what a board's state rests on: the clauses of Justified that are about one board
pub record Own (X : Board) : Type 0 where
  pub first_echo_lem : (v : ℕ) → X.Sent (FirstEcho v)
      → (v ≡ X.port) ⊎ ((v ≡ none_value) × (X.t < count X.n (Heard-any X (λ w. not (eqb w X.port)))))
  pub proposal : (v : ℕ) → X.Sent (FirstProposal v)
      → (v ≤ X.d) × (X.t < count X.n (X.heard (FirstEcho v))) × (2 * X.t < count X.n (Or-none X v))
  pub proposal_once : (v w : ℕ) → X.Sent (FirstProposal v) → X.Sent (FirstProposal w) → v ≡ w
  pub first_value : (X.first ≡ not_yet → ⊥) → Among X X.first
  pub first_by_proposals : X.first ≤ X.d → X.n - X.t ≤ count X.n (X.heard (FirstProposal X.first))
  pub first_by_split : X.first ≡ none_value
      → (k : ℕ) × (k < X.K) × (X.t < count X.n (Digit X k 0)) × (X.t < count X.n (Digit X k 1))
  -- a second echo is of the own first result, or relayed
  pub second_echo_lem : (w : ℕ) → X.Sent (SecondEcho w) → ((X.first ≡ not_yet → ⊥) × (X.first ≡ w)) ⊎ (X.t < count X.n (X.heard (SecondEcho w)))
  pub second_proposal_lem : (w : ℕ) → X.Sent (SecondProposal w) → Among X w × (2 * X.t < count X.n (X.heard (SecondEcho w)))
  pub second_proposal_once : (v w : ℕ) → X.Sent (SecondProposal v) → X.Sent (SecondProposal w) → v ≡ w
  pub result_value : (X.result ≡ not_yet → ⊥) → Among X X.result
  pub result_sure : X.result ≤ X.d → X.sure ≡ true → X.n - X.t ≤ count X.n (X.heard (SecondProposal X.result))
  pub result_unsure : X.result ≤ X.d → X.sure ≡ false
      → (X.t < count X.n (X.heard (SecondEcho none_value))) × (X.t < count X.n (X.heard (SecondEcho X.result)))
  pub result_none_lem : X.result ≡ none_value → X.n - X.t ≤ count X.n (X.heard (SecondProposal X.result))

-- what a board has done where no rule applies: the clauses of Settled that are about one board
pub record Done (X : Board) : Type 0 where
  pub rule1 : X.Sent (FirstEcho X.port)
  pub rule2 : X.t < count X.n (Heard-any X (λ w. not (eqb w X.port))) → X.Sent (FirstEcho none_value)
  pub rule3 : (v : ℕ) → v ≤ X.d → X.t < count X.n (X.heard (FirstEcho v)) → 2 * X.t < count X.n (Or-none X v) → (w : ℕ) × X.Sent (FirstProposal w)
  pub rule4 : (v : ℕ) → v ≤ X.d → X.n - X.t ≤ count X.n (X.heard (FirstProposal v)) → X.first ≡ not_yet → ⊥
  pub rule4' : (k : ℕ) → k < X.K → X.t < count X.n (Digit X k 0) → X.t < count X.n (Digit X k 1) → X.first ≡ not_yet → ⊥
  pub rule5 : (X.first ≡ not_yet → ⊥) → X.Sent (SecondEcho X.first)
  pub rule6 : (w : ℕ) → (X.first ≡ not_yet → ⊥) → Among X w → X.t < count X.n (X.heard (SecondEcho w)) → X.Sent (SecondEcho w)
  pub rule7 : (w : ℕ) → (X.first ≡ not_yet → ⊥) → Among X w → 2 * X.t < count X.n (X.heard (SecondEcho w)) → (v : ℕ) × X.Sent (SecondProposal v)
  pub rule8 : (w : ℕ) → (X.first ≡ not_yet → ⊥) → Among X w → X.n - X.t ≤ count X.n (X.heard (SecondProposal w)) → X.result ≡ not_yet → ⊥
  pub rule8' : (v : ℕ) → (X.first ≡ not_yet → ⊥) → v ≤ X.d
      → X.t < count X.n (X.heard (SecondEcho none_value)) → X.t < count X.n (X.heard (SecondEcho v))
      → ((w : ℕ) → w ≤ X.d → X.t < count X.n (X.heard (SecondEcho w)) → w ≡ v) → X.result ≡ not_yet → ⊥

-- ---- boards of a view

-- board i of the view is at the level with record l and context c
pub record Shows (G : Setting) (B : View) (i : ℕ) (c : Context) (l : Level) : Type 1 where
  pub n : G.n ≡ c.n
  pub t : G.t ≡ c.t
  pub d : G.d ≡ c.degree
  pub K : G.K ≡ bit_places
  pub port : B.port i ≡ c.port
  pub heard : B.heard i ≡ heard_from l
  pub sent : B.Sent i ≡ SentIn c l
  pub first : B.first i ≡ l.first
  pub result : B.result i ≡ l.result
  pub sure : B.sure i ≡ l.sure
