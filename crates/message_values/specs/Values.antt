-- The limits of a value by its kind, for reading and testing messages: document 01, "Messages", the table of six kinds.
use Rattle.std.specs.Prelude.{◌≡◌, ◌⊎◌, ℕ, ◌<◌, eqb, Result, MatchResult}
use Rattle.base.specs.Pick.{pick}
use Rattle.base.specs.Limits.{max_degree, none_value}
use Rattle.message_values.specs.declared.Kind.{Kind}
use Rattle.message_values.specs.declared.Kind.TheVariants.{FirstEcho, FirstProposal, SecondEcho, SecondProposal, Side, Centre}
use Rattle.message_values.specs.declared.UnknownKind.{UnknownKind}

-- the table's column "Kind"
abbrev pub kind_number : Kind → ℕ
kind_number FirstEcho = 1
kind_number FirstProposal = 2
kind_number SecondEcho = 3
kind_number SecondProposal = 4
kind_number Side = 5
kind_number Centre = 6

-- the kind with this number, or none has it
abbrev pub HasNumber : ℕ → Result Kind UnknownKind → Type 0
HasNumber n r = MatchResult r (λ k. kind_number k ≡ n) (λ e. (n < 1) ⊎ (6 < n))

-- the table's column "Value": each kind's least and largest value; kind 6 has none
abbrev pub value_low : ℕ → ℕ
value_low k = pick (eqb k 5) 1 0

abbrev pub value_high : ℕ → ℕ
value_high k = pick (eqb k 2) max_degree (pick (eqb k 5) max_degree none_value)
