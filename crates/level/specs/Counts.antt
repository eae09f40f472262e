-- What the rules count at a level. c is the level's context: the settings n and t, the degree d, the port.
-- "Values above d at that level, none excepted, are kept and never counted": every count below goes over the values 0 to d, and none where it says so.
use Rattle.std.specs.Prelude.{Bool, not, ◌&&◌, ℕ, ◌+◌, ◌-◌, ◌*◌, ◌/◌, ◌%◌, ◌^◌, leb, ltb, eqb}
use Rattle.base.specs.Pick.{pick, smallest}
use Rattle.base.specs.Sets.{count}
use Rattle.message.specs.Message.{none_value}
use Rattle.message.specs.declared.Body.TheVariants.{FirstEcho, FirstProposal, SecondEcho, SecondProposal, Side}
use Rattle.senders.specs.Senders.{union, union_over}
pub use Rattle.senders.specs.Senders.{at_least}
pub use Rattle.level_counts.specs.Places.{bit_places}
use Rattle.level.specs.declared.Context.{Context}
use Rattle.level.specs.Level.{Level, senders}

-- the three thresholds: t + 1, 2t + 1, n - t
abbrev pub weak : Context → ℕ
weak c = c.t + 1

abbrev pub strong : Context → ℕ
strong c = 2 * c.t + 1

abbrev pub quorum : Context → ℕ
quorum c = c.n - c.t

-- candidates in the order "smallest, none last": 0 to d, then none
abbrev pub candidate : Context → ℕ → ℕ
candidate c i = pick (leb i c.degree) i none_value

abbrev pub candidates : Context → ℕ
candidates c = c.degree + 2

-- rule 2: the senders that first-echoed a value other than the port
unfoldable pub other_echoes : Context → Level → ℕ
other_echoes c l = union_over (λ v. not (eqb v c.port)) (λ v. senders l (FirstEcho v)) (c.degree + 1)

-- rule 3: t+1 senders first-echoed v and 2t+1 first-echoed v or none
unfoldable pub may_propose : Context → Level → ℕ → Bool
may_propose c l v =
    at_least (weak c) (senders l (FirstEcho v)) && at_least (strong c) (union (senders l (FirstEcho v)) (senders l (FirstEcho none_value)))

-- rule 4: n-t first proposals of v
unfoldable pub proposed : Context → Level → ℕ → Bool
proposed c l v = at_least (quorum c) (senders l (FirstProposal v))

-- the binary digit of v at place i
abbrev pub digit : ℕ → ℕ → ℕ
digit i v = (v / 2 ^ i) % 2

-- rule 4: the senders that first-echoed none or a value with digit b at place i
unfoldable pub digit_echoes : Context → Level → ℕ → ℕ → ℕ
digit_echoes c l i b = union (union_over (λ v. eqb (digit i v) b) (λ v. senders l (FirstEcho v)) (c.degree + 1)) (senders l (FirstEcho none_value))

-- rule 4: at place i both digits have t+1 senders
unfoldable pub split_at : Context → Level → ℕ → Bool
split_at c l i = at_least (weak c) (digit_echoes c l i 0) && at_least (weak c) (digit_echoes c l i 1)

-- "at some bit place 0 to 3"
unfoldable pub split : Context → Level → Bool
split c l = ltb (smallest bit_places (split_at c l)) bit_places

-- rules 6, 7 and 8: k second echoes of w
unfoldable pub echoed_by : ℕ → Level → ℕ → Bool
echoed_by k l w = at_least k (senders l (SecondEcho w))

-- rule 8: n-t second proposals of w
unfoldable pub second_proposed : Context → Level → ℕ → Bool
second_proposed c l w = at_least (quorum c) (senders l (SecondProposal w))

-- rule 8: how many values 0 to d have t+1 second echoes
unfoldable pub echoed_values : Context → Level → ℕ
echoed_values c l = count (c.degree + 1) (echoed_by (weak c) l)

-- rule 12: t+1 side k
unfoldable pub sided : Context → Level → ℕ → Bool
sided c l k = at_least (weak c) (senders l (Side k))
