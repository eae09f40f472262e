-- What every record that fits keeps, replaying a journal keeps.
use mathlib.Core.Path.{◌≡◌, refl, sym, ◌∙◌, subst}
use mathlib.Core.List.{List}
use Prim.Native.Nat.{ℕ, zero, suc, ◌<◌}
use native.Mathlib.Decide.{dec_lt}
use native.Mathlib.Omega.{arith}
use lib.Dec.{eqb, eqb→eq}
use lib.ListN.{length}
use Rattle.std.specs.Prelude.{Err, Ok}
use Rattle.base.specs.Found.{found, refused}
use Rattle.varint.specs.Varint.{AllBytes}
use Rattle.plan.proofs.Listed.{asked}
use Rattle.journal.specs.declared.Record.{Record}
use Rattle.journal.specs.declared.RecordError.TheVariants.{Torn, Bad}
use Rattle.journal.specs.Reading.{RecordRead, record_at}
use Rattle.journal.proofs.RoundTrip.{record_was_written}
use Rattle.party.specs.Run.{Ran}
use Rattle.party_life.specs.Life.{replayed, following, fault, Fits}
use Rattle.party_life.proofs.Fits.{fault_fits}
use Rattle.board_calls.specs.Restore.{Replay, replay_from}
use Rattle.board_laws.proofs.Replays.{replay_end, replay_torn, replay_bad, replay_read}

module _ (Q : Ran → Type 0) (j : List ℕ) (all : AllBytes j) (keeps : (r : Ran) (x : Record) → Q r → Fits r.party x → Q (following r (replayed r.party x))) where
  -- where the records end
  ends : (r : Ran) (at : ℕ) (x : Replay) → Q r → found (record { ran = r; used = at }) ≡ found x → Q x.ran
  ends r at x w e = let i : record { ran = r; used = at } ≡ x = cc in subst (λ (y : Replay). Q y.ran) i w

  -- what the records from some place on make
  pub replay_keeps : (f at : ℕ) (r : Ran) (x : Replay) → Q r → replay_from f j at r ≡ found x → Q x.ran
  unfolding replay_from
  replay_keeps zero at r x w e = ends r at x w e
  replay_keeps (suc f) at r x w e = go (dec_lt at (length j)) (replay_keeps f)
    where
      Rest : Type 0
      Rest = (at : ℕ) (r : Ran) (x : Replay) → Q r → replay_from f j at r ≡ found x → Q x.ran

      read : at < length j → (y : RecordRead) → record_at j at ≡ y → Rest → Q x.ran
      read h (Ok y) i rest =
          let rec : Record = y.value in
          let next : ℕ = y.next in
          let q : Ran = following r (replayed r.party rec) in
          let k : ℕ = fault r.party rec in
          let a = asked (eqb k 0) k at (replay_from f j next q) x (sym (replay_read f j at r h rec next i) ∙ e) in
          rest next q x (keeps r rec w (fault_fits r.party rec (record_was_written j at rec next all i).limits (eqb→eq k 0 a.0))) a.1
      read h (Err Torn) i rest = ends r at x w (sym (replay_torn f j at r h i) ∙ e)
      read h (Err Bad) i rest =
          let b : refused 21 at ≡ found x = sym (replay_bad f j at r h i) ∙ e in
          let z : ◌≡◌ {A = ℕ} 0 1 = cc in absurd (omega arith)

      go : Dec (at < length j) → Rest → Q x.ran
      go (yes h) rest = read h (record_at j at) refl rest
      go (no h) rest = ends r at x w (sym (replay_end (suc f) j at r (omega (arith, h))) ∙ e)
