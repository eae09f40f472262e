-- Reading by any format finds what is written, and nothing else, and its faults are what they say.
use Rattle.format.specs.Format.{Format}
use Rattle.format.specs.Statement.{Sensible, Reads}
use Rattle.format.proofs.Reading.{spelled_read, whole_written, beginning_cut}
use Rattle.format.proofs.Faults.{cut_beginning, fault_fails, fails_read}

pub reads : {A : Type 0} (f : Format A) → Sensible f → Reads f
reads f k = record {
  written = spelled_read f k;
  only = whole_written f;
  cut = beginning_cut f k;
  cut_only = cut_beginning f k;
  fails = fault_fails f k;
  always = fails_read f k;
}
