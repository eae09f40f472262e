-- Reading a varint finds what is written, and nothing else; where it finds no value it says why; the table gives how long a varint is.
use mathlib.Core.Path.{sym, ap}
use Prim.Native.Nat.{ℕ, ◌+◌}
use native.Mathlib.Omega.{arith}
use lib.Dec.{leb}
use lib.ListN.{length}
use Rattle.std.specs.Prelude.{Ok, Err}
use Rattle.base.specs.Pick.{pick}
use Rattle.varint.specs.Statement.{Reads, Sizes}
use Rattle.varint.proofs.RoundTrip.{varint_read, varint_was_written}
use Rattle.varint.proofs.Bytes.{short_begins, short_least, none_begins, none_stands}
use Rattle.varint.proofs.Lengths.{table_bytes}

pub reads : Reads
reads = record {
  written = λ v p q h. varint_read v p q (omega arith);
  only = λ s at v next h e.
      let w = varint_was_written s at v next h e in
      (omega (arith, w.0), (omega (arith, w.1), w.2, w.3));
  short = λ s at least h l e. ((short_begins s at least h l e).0, (short_begins s at least h l e).1, short_least s at least l e);
  malformed = λ s at l e v h. (none_begins s at l e v h, none_stands s at l e v h);
}

pub sizes : Sizes
sizes = record {
  bytes = λ v h. table_bytes v (omega arith);
  written = λ l at v h. sym (ap (λ (k : ℕ). pick (leb (at + k) (length l)) (Ok k) (Err (record {}))) (table_bytes v (omega arith)));
}
