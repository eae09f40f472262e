-- A torn record is one that only further bytes could make whole.
use mathlib.Core.Path.{◌≡◌, refl, sym, ap, subst}
use mathlib.Core.List.{List, ◌++◌}
use Prim.Native.Nat.{ℕ, ◌≤◌}
use native.Mathlib.Omega.{arith}
use lib.ListN.{length, drop}
use Rattle.varint.specs.Varint.{AllBytes}
use Rattle.varint.proofs.Laws.{varint_at_end}
use Rattle.format.specs.declared.Fault.{Fault}
use Rattle.format.specs.Reading.{Read, failed, read_at}
use Rattle.varint.specs.Statement.{Beginning}
use Rattle.format.proofs.Fields.{read_as, of_short}
use Rattle.format.proofs.Reading.{read_fails}
use Rattle.journal.specs.declared.Record.{Record}
use Rattle.std.specs.Prelude.{Ok, Err}
use Rattle.journal.specs.declared.RecordError.TheVariants.{Torn}
use Rattle.journal.specs.Journal.{record_bytes}
use Rattle.journal.specs.Format.{record_format}
use Rattle.journal.specs.Reading.{fails_as, as_read, record_at}
use Rattle.journal.specs.Records.{InLimits, ProperBeginning}
use Rattle.journal.proofs.Laws.{after_tag}
use Rattle.journal.proofs.RoundTrip.{spells, spelled, by_format}

-- only a cut is torn
found_cut : (x : Read Record) → as_read x ≡ Err Torn → (place : ℕ) × (x ≡ failed Fault.Cut place)
found_cut (Ok r) e = let z : ◌≡◌ {A = ℕ} 0 1 = cc in absurd (omega arith)
found_cut (Err x) e = (x.at, ap (λ (y : Fault). failed y x.at) (only x.fault (cc)))
  where
    only : (fault : Fault) → fails_as fault ≡ Torn → fault ≡ Fault.Cut
    only Fault.Cut e = refl
    only Fault.CutOutside e = let z : ◌≡◌ {A = ℕ} 0 1 = cc in absurd (omega arith)
    only Fault.Malformed e = let z : ◌≡◌ {A = ℕ} 0 1 = cc in absurd (omega arith)
    only Fault.Outside e = let z : ◌≡◌ {A = ℕ} 0 1 = cc in absurd (omega arith)
    only Fault.Spare e = let z : ◌≡◌ {A = ℕ} 0 1 = cc in absurd (omega arith)

-- past the last byte
pub record_at_end : (s : List ℕ) → record_at s (length s) ≡ Err Torn
unfolding record_at
record_at_end s =
    ap as_read (read_fails 1 2 after_tag s (length s) (sym (read_as 1 2 s (length s) (varint_at_end s) (of_short 1 2 (length s) 0 (omega arith)))))

-- a proper beginning of a record's bytes, perhaps empty, is torn
pub torn_beginning : (r : Record) (p tail : List ℕ) → InLimits r → ProperBeginning r tail → record_at (p ++ tail) (length p) ≡ Err Torn
unfolding record_at
torn_beginning r p tail h b = ap as_read (by_format.cut (record_bytes r) r p tail (spells r h) b).1

-- what is torn is a proper beginning of a record in its limits
pub torn_is_beginning : (s : List ℕ) (at : ℕ) → AllBytes s → at ≤ length s → record_at s at ≡ Err Torn → (r : Record) × InLimits r × ProperBeginning r (drop at s)
unfolding record_at
torn_is_beginning s at h l e =
    let f = found_cut (read_at record_format s at) e in
    let c = by_format.cut_only s at f.0 h l f.1 in
    let w = spelled c.0 c.1 c.2 in
    (c.1, w.0, subst (λ (bs : List ℕ). Beginning bs (drop at s)) w.1 c.3)
