-- Reading records finds what is written, and nothing else; what is torn is the beginning of a record.
use mathlib.Core.Path.{refl}
use native.Mathlib.Omega.{arith}
use Rattle.journal.specs.Statement.{Reads}
use Rattle.journal.proofs.RoundTrip.{record_read, record_was_written}
use Rattle.journal.proofs.Torn.{torn_beginning, torn_is_beginning}
use Rattle.journal.proofs.Records.{journal_torn_read, bytes_begin}

pub reads : Reads
reads = record {
  written = record_read;
  only = λ s at r next h e.
      let w = record_was_written s at r next h e in
      (w.limits, (omega (arith, w.longer), w.inside, w.bytes));
  torn = torn_beginning;
  torn_only = torn_is_beginning;
  records = λ rs r tail a h b. journal_torn_read rs r tail _ a h b refl;
  begins = bytes_begin;
}
