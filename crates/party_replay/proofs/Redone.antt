-- What a record's call gives when it is made again.
use mathlib.Core.Path.{◌≡◌, refl, sym, ap, ◌∙◌, subst}
use mathlib.Core.Bool.{true}
use mathlib.Core.List.{List}
use Prim.Native.Nat.{ℕ}
use native.Mathlib.Omega.{arith}
use lib.ListN.{length}
use Rattle.base.specs.Put.{put_at}
use Rattle.base.proofs.Puts.{put_none}
use Rattle.message.specs.declared.Message.{Message}
use Rattle.journal.specs.declared.Record.{Record}
use Rattle.journal.specs.declared.Record.TheVariants.{Start, Taken}
use Rattle.party.specs.declared.Chart.{Chart}
use Rattle.party.specs.Party.{Party, held_by}
use Rattle.party.specs.Run.{Ran, resting, starting, taking}
use Rattle.party.specs.Inner.{Charts}
use Rattle.party_life.specs.Life.{replayed}
use Rattle.party_run.specs.Inner.{Outcome, Gives, Room}
use Rattle.party_run.proofs.Going.{bytes_none}

module _ (p : Party) (x : Record) where
  pub replayed_start : {a y : ℕ} → x ≡ Start a y → replayed p x ≡ starting p y
  unfolding replayed
  replayed_start e = ap (replayed p) e

  pub replayed_taken : {s : ℕ} {m : Message} → x ≡ Taken s m → replayed p x ≡ taking p s m
  unfolding replayed
  replayed_taken e = ap (replayed p) e

-- a message that is held
pub taking_held : (p : Party) (s : ℕ) (m : Message) → held_by p s m ≡ true → taking p s m ≡ resting p
unfolding taking
taking_held p s m h = rw h

-- what is run is the same
module _ {x y : Ran} (e : x ≡ y) where
  pub gives_same : {from : ℕ} {out out_then : List ℕ} {g : Outcome} → Gives y from out g out_then → Gives x from out g out_then
  gives_same {from} {out} {out_then} {g} h = subst (λ (z : Ran). Gives z from out g out_then) (sym e) h

  pub room_same : (from out : ℕ) → Room y from out → Room x from out
  room_same from out h = subst (λ (z : Ran). Room z from out) (sym e) h

-- nothing is done
pub gives_rest : (p : Party) (c : Chart) (from : ℕ) (out : List ℕ) → Charts p c
    → Gives (resting p) from out (record { party = p; chart = c; rules = 0; sent = from }) out
gives_rest p c from out h = record {
  party = refl;
  chart = h;
  rules = refl;
  sent = omega (arith, ap length bytes_none);
  outgoing = sym (ap (put_at out from) bytes_none ∙ put_none out from);
}
