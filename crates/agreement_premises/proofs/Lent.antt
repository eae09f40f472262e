-- Journals and records that are not as the call before left them.
use mathlib.Core.Path.{refl}
use mathlib.Core.Logic.{inl, inr}
use mathlib.Core.List.Memᴰ
use mathlib.Core.List.{[], ◌∷◌}
use lib.IntN.{pos}
use Rattle.agreement.specs.History.{board_after}
use Rattle.agreement_histories.specs.Scripts.{lent, lent_back}
use Rattle.agreement_histories.proofs.Computing.{computing}
use Rattle.agreement_histories.proofs.Passing.{ours}
use Rattle.agreement_premises.specs.Edits.{journal_overwritten, record_altered, other_record_read, other_record_counted, other_journal_restored, overwritten, altered, misread, miscounted, restored}
use Rattle.agreement_premises.specs.Examples.{two, alone, example_of, Fails}
use Rattle.agreement_premises.proofs.Running.{history_before, Strays}
use Rattle.agreement_premises.proofs.Starts.{all_in}
use Rattle.agreement_premises.proofs.Failing.{sound_alone, sound_four, not_waiting, invalid, invalid_now}

overwritten_strays : Strays journal_overwritten (example_of journal_overwritten)
unfolding computing
overwritten_strays = overwritten (lent (1 ∷ 1 ∷ 0 ∷ [])) (sound_four two) (record { up = refl; same = refl; at = refl; kept = refl }, λ o. absurd o.1)

pub overwritten_fails : Fails journal_overwritten (example_of journal_overwritten)
unfolding computing all_in
overwritten_fails = invalid_now journal_overwritten (example_of journal_overwritten) refl refl overwritten_strays 0 (pos 1) refl refl

altered_strays : Strays record_altered (example_of record_altered)
unfolding computing
altered_strays = altered (board_after (history_before (example_of record_altered)) 0).party (sound_alone two) (record { up = refl; same = refl; at = refl; kept = refl })

pub altered_fails : Fails record_altered (example_of record_altered)
unfolding computing all_in
altered_fails = invalid_now record_altered (example_of record_altered) refl refl altered_strays 0 (pos 5) refl refl

misread_strays : Strays other_record_read (example_of other_record_read)
unfolding computing
misread_strays = misread (board_after (history_before (example_of other_record_read)) 0).party (sound_alone two) (refl, refl)

pub misread_fails : Fails other_record_read (example_of other_record_read)
unfolding computing all_in
misread_fails = invalid other_record_read (example_of other_record_read) refl refl misread_strays 1 (pos 0) refl (inr (_, inl (Memᴰ.head refl), refl))

miscounted_strays : Strays other_record_counted (example_of other_record_counted)
unfolding computing
miscounted_strays = miscounted (board_after (history_before (example_of other_record_counted)) 0).party (sound_alone two) (refl, refl)

pub miscounted_fails : Fails other_record_counted (example_of other_record_counted)
unfolding computing all_in
miscounted_fails =
    invalid other_record_counted (example_of other_record_counted) refl refl miscounted_strays 1 (pos 0) refl
    (inr (_, inr (2, pos 0, pos 0, Memᴰ.head refl, refl), refl))

restored_strays : Strays other_journal_restored (example_of other_journal_restored)
unfolding computing
restored_strays = restored (lent_back (1 ∷ 1 ∷ 0 ∷ [])) (sound_alone two) (not_waiting, ours (alone two) 0, inl refl)

pub restored_fails : Fails other_journal_restored (example_of other_journal_restored)
unfolding computing all_in
restored_fails = invalid_now other_journal_restored (example_of other_journal_restored) refl refl restored_strays 0 (pos 1) refl refl
