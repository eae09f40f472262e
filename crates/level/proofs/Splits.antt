-- Rule 4: the echoes split a level where its sets of senders say so.
use mathlib.Core.Path.{◌≡◌, refl}
use Rattle.level_counts_first_result.specs.Inner.{splits}
use Rattle.level.specs.declared.Context.{Context}
use Rattle.level.specs.Level.{Level, senders, slot}
use Rattle.level.specs.Counts.{split, split_at, digit_echoes}

pub split_by_sets : (c : Context) (l : Level) → split c l ≡ splits l.sets c.degree c.t
unfolding split split_at digit_echoes senders slot splits
split_by_sets c l = refl
