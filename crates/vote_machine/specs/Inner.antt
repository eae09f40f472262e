-- What holds of every party that came about by starts, messages taken and rules, whatever was taken; and the order in which it only rises.
-- These definitions serve proofs only.
use Rattle.std.specs.Prelude.{◌≡◌, false, not, ℕ, suc, ◌<◌, T}
use Rattle.base.specs.Sets.{Set, count}
use Rattle.base.specs.Limits.{level_count}
use Rattle.plan.specs.Plan.{Plan}
use Rattle.component.specs.Component.{port_of, neighbour_of}
use Rattle.message.specs.declared.Body.TheVariants.{Side}
use Rattle.message.specs.Message.{none_value}
use Rattle.level.specs.Level.{Level}
use Rattle.party.specs.Party.{Party, level_at, component_of, sending, context_of}
use Rattle.party.specs.Run.{open_at}
use Rattle.level_laws.specs.Inner.{heard_from, Heard, Law, Descends, OutputBy, Untouched}
use Rattle.party_laws.specs.Inner.{Formed, SameBoard, Fresh, Grown}

-- How a board came to side k of a component S of the plan, at position x, from the level over S with the record l, among n boards.
pub data Way (plan : Plan) (S : Set) (n t : ℕ) (l : Level) (k x : ℕ) : Type 0 where
  -- rule 10 at grade 2: "at the old position if .. it lies there"
  stays : l.result ≡ k → T l.sure → port_of plan S l.position ≡ k → x ≡ l.position → Way plan S n t l k x
  -- rule 10 at grade 2: "else at neighbour k"
  moves : l.result ≡ k → T l.sure → (port_of plan S l.position ≡ k → ⊥) → x ≡ neighbour_of plan S k → Way plan S n t l k x
  -- rule 10 at grade 1
  leads : l.result ≡ k → T (not l.sure) → x ≡ neighbour_of plan S k → Way plan S n t l k x
  -- rule 12
  follows : l.result ≡ none_value → t < count n (heard_from l (Side k)) → x ≡ neighbour_of plan S k → Way plan S n t l k x

-- how the party came from level i to the next
abbrev pub EntryBy : Party → ℕ → Type 0
EntryBy p i = Way p.plan (component_of p i) p.n p.t (level_at p i) (level_at p (suc i)).side (level_at p (suc i)).position

-- what every start, message and rule keeps
pub record Regular (p : Party) : Type 0 where
  -- it passes question 19 and has all its levels
  pub formed : Formed p
  -- levels that are not entered are as at set-up, but for what was heard
  pub fresh : Fresh p
  pub heard : (i : ℕ) → i < level_count → Heard p.n (level_at p i)
  -- a level that sends: what was made rests on what was heard, the next level is entered with a result, and the output is by a rule
  pub law : (i : ℕ) → T (sending p i) → Law (context_of p i) (level_at p i)
  pub descends : (i : ℕ) → T (sending p i) → Descends (context_of p i) (level_at p i)
  pub output : (i : ℕ) → T (sending p i) → OutputBy (context_of p i) (level_at p i)
  -- at the others nothing was made, and an entered one has its output by the entry
  pub untouched : (i : ℕ) → i < level_count → (T (sending p i) → ⊥) → Untouched (level_at p i)
  pub small : (i : ℕ) → T (level_at p i).entered → (T (sending p i) → ⊥) → (level_at p i).output ≡ (level_at p i).position
  -- how each level past 0 was entered
  pub entry : (i : ℕ) → T (level_at p (suc i)).entered → EntryBy p i

-- the same, after a call: no rule applies
pub record Inv (p : Party) : Type 0 where
  pub regular : Regular p
  pub quiet : (i : ℕ) → open_at p i ≡ false

-- q is p later: the settings and the plan are the same, what is there at a level stays, and an entered level stays over its component
pub record Le (p q : Party) : Type 0 where
  pub board : SameBoard p q
  pub grown : Grown p q
  pub component : (i : ℕ) → T (level_at p i).entered → component_of q i ≡ component_of p i
