-- An accepted restore gives what the board's calls that are not lost made: both are what the records of its journal make.
use mathlib.Core.Path.{◌≡◌, sym, ap, ◌∙◌}
use mathlib.Core.Logic.{inl, inr}
use Prim.Native.Nat.{ℕ}
use native.Mathlib.Omega.{arith}
use Rattle.base.specs.Found.{found, refused}
use Rattle.party.specs.Party.{Party}
use Rattle.party_life.specs.Life.{made_along}
use Rattle.board_calls.specs.Restore.{Replay}
use Rattle.agreement.specs.History.{restore_finds, board_after}
use Rattle.agreement.specs.Inner.{records_of}
use Rattle.agreement.proofs.Restored.{lendable_begins, lived_replay, restored_found}
use Rattle.agreement.proofs.Tied.{new_board}
use Rattle.agreement.proofs.Histories.{TiedAfter, tied}
use Rattle.agreement.proofs.Boards.{records_of_lem}
use Rattle.agreement.proofs.Follows.{follows}
use Rattle.agreement_messages.specs.Restored.{GivenAgain}
use Rattle.agreement_messages.proofs.Once.{made_same}

pub given_again : GivenAgain
given_again v plan bad h i n t own agreement bytes lent r f ((o, inl (k, (at, e))), a) g =
    let y : refused k at ≡ found r = sym e ∙ g in
    let z : ◌≡◌ {A = ℕ} 0 1 = cc in absurd (omega arith)
given_again v plan bad h i n t own agreement bytes lent r f ((o, inr (up, s, given)), a) g =
    let p : Party = new_board v plan i in
    let w : TiedAfter v plan bad f h i = tied v plan bad f h a i o.0 in
    let x : r ≡ lived_replay p w.records =
    restored_found v.n v.t i v.agreement v.plan plan f.boards f.faults o.0 f.reads w.records w.life lent.journal
    (lendable_begins (board_after h i).journal lent.journal w.records w.holds given) lent.out r
    (sym (λ z. restore_finds (s.boards z) (s.faults z) (s.seat z) (s.number z) (s.bytes z) lent) ∙ g) in
    ap (λ (y : Replay). y.ran.made) x
    ∙ ap (made_along p) (sym (records_of_lem v plan bad f h a i o.0))
    ∙ sym (made_same plan p (board_after h i).counted (records_of h i) (follows v plan bad f h a i))
