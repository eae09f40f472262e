-- Reading a message finds what is written, and nothing else; what is refused is broken as the refusal says.
use native.Mathlib.Omega.{arith}
use Rattle.message.specs.Statement.{Reads, Refuses}
use Rattle.message.proofs.RoundTrip.{message_read, message_was_written, exact_message_read, exact_message_written}
use Rattle.message.proofs.Broken.{failed_fails, broken_group, group_always, cut_always, broken_spare, spare_always}

pub reads : Reads
reads = record {
  written = λ m p q h. message_read m p q h.0 (omega (arith, h.1));
  only = λ s at m next h e.
      let w = message_was_written s at m next e h in
      ((w.0, omega (arith, w.1)), (omega (arith, w.2), w.3, w.4));
  exactly = λ m h. exact_message_read m h.0 (omega (arith, h.1));
  exactly_only = λ s m h e.
      let w = exact_message_written s m h e in
      ((w.0, omega (arith, w.1)), w.2);
}

pub refuses : Refuses
refuses = record {
  group = broken_group;
  group_always = group_always;
  cut_always = cut_always;
  spare = broken_spare;
  spare_always = spare_always;
  anywhere = failed_fails;
}
