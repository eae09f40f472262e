-- Handed over, forgotten in a cut, and handed over again: the vote comes through, and the newest record's messages alone would not be all.
use mathlib.Core.Path.{◌≡◌, refl, ap, ◌∙◌, subst}
use mathlib.Core.List.Memᴰ
use mathlib.Core.List.{List, [], ◌∷◌, ◌++◌, Memᴰ}
use Prim.Native.Nat.{ℕ}
use native.Mathlib.Omega.{arith}
use lib.IntN.{pos}
use Rattle.std.specs.Prelude.{Some}
use Rattle.message.specs.declared.Body.TheVariants.{FirstEcho, FirstProposal}
use Rattle.message.specs.declared.Message.{Message}
use Rattle.message.specs.Message.{kind_of}
use Rattle.journal.specs.declared.Record.TheVariants.{Start, Taken}
use Rattle.journal.specs.Reading.{records_in}
use Rattle.party.specs.Party.{new_party}
use Rattle.party_life.specs.Life.{lived}
use Rattle.agreement.specs.History.{board_after}
use Rattle.agreement.specs.Demand.{Made, Complete}
use Rattle.agreement_histories.specs.Scripts.{cuts, says, history_of, Concludes}
use Rattle.agreement_histories.specs.Forgotten.{vote, plan, bad, opening, back, rest, early, script, last_made}
use Rattle.agreement_histories.proofs.Delivery.{Judges}
use Rattle.agreement_histories.proofs.Delivered.{concludes}
use Rattle.agreement_histories.proofs.Computing.{computing}

judged : Judges vote bad script (Some (pos 2) ∷ Some (pos 2) ∷ [])
unfolding computing opening back rest
judged = refl

pub conclusion : Concludes vote plan bad (history_of vote script) (Some (pos 2) ∷ Some (pos 2) ∷ [])
unfolding computing
conclusion = concludes vote plan bad script _ judged refl refl

-- ---- after the restore: both messages are to be handed over again, in the first order

pub before : (board_after (history_of vote opening) 0).outbox ≡ says (FirstEcho 2) ∷ says (FirstProposal 2) ∷ []
unfolding computing opening
before = refl

-- the cut leaves none of them to hand over
pub forgotten : (board_after (history_of vote (opening ++ (cuts 0 9 ∷ []))) 0).outbox ≡ []
unfolding computing opening
forgotten = refl

pub again : (board_after (history_of vote early) 0).outbox ≡ says (FirstEcho 2) ∷ says (FirstProposal 2) ∷ []
unfolding computing opening back
again = refl

-- ---- the newest record's call made only the second

pub records : records_in (board_after (history_of vote early) 0).journal ≡ Taken 1 (says (FirstEcho 2)) ∷ Start 1 2 ∷ []
unfolding computing opening back
records = refl

pub last : last_made (new_party 2 0 0 1 plan) (Taken 1 (says (FirstEcho 2)) ∷ Start 1 2 ∷ []) ≡ says (FirstProposal 2) ∷ []
unfolding computing lived
last = refl

-- so the echo is a message that was made, and is not among them
pub made : Made (history_of vote early) 0 (says (FirstEcho 2))
unfolding computing opening back
made = (_, Memᴰ.tail (Memᴰ.head refl), Memᴰ.head refl)

pub not_last : Memᴰ (says (FirstEcho 2)) (last_made (new_party 2 0 0 1 plan) (records_in (board_after (history_of vote early) 0).journal)) → ⊥
not_last k =
    let e : says (FirstEcho 2) ≡ says (FirstProposal 2) =
    Memᴰ.eq_of_singleton (subst (λ (l : List Message). Memᴰ (says (FirstEcho 2)) l) (ap (last_made (new_party 2 0 0 1 plan)) records ∙ last) k) in
    let z : ◌≡◌ {A = ℕ} 1 2 = ap (λ (m : Message). kind_of m.body) e in
    omega arith

-- ---- before it hands anything over again, delivery is not complete

pub incomplete : Complete vote bad (history_of vote early) → ⊥
unfolding computing opening back
incomplete c = Memᴰ.not-nil (c.handed 0 (says (FirstEcho 2)) (omega arith, tt) made)
