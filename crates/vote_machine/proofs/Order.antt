-- Laws of the order: an entered level's rules see the same, and what was made stays made.
use mathlib.Core.Path.{◌≡◌, refl, sym, ◌∙◌, subst}
use Prim.Native.Nat.{ℕ, ◌+◌}
use lib.Dec.{T}
use Rattle.base.proofs.Bools.{T→true}
use Rattle.component.specs.Component.{degree_of, centre_of, port_of}
use Rattle.message.specs.declared.Message.{Message}
use Rattle.level_laws.proofs.Law.{Same}
use Rattle.level_laws.proofs.Messages.{sent_grows}
use Rattle.level_laws.proofs.Output.{Later}
use Rattle.party.specs.Party.{Party, level_at, sending, context_of}
use Rattle.party_laws.proofs.Laws.{board_refl, board_trans, Formed, Keeps, Grown, grown_refl, grown_trans, kept_component, sending_entered}
use Rattle.party_laws.proofs.Updates.{sending_same}
use Rattle.vote_machine.specs.Machine.{Sent}
use Rattle.vote_machine.specs.Inner.{Le}

pub le_refl : (p : Party) → Le p p
le_refl p = record { board = board_refl p; grown = grown_refl p; component = λ i h. refl }

pub le_trans : (p q r : Party) → Le p q → Le q r → Le p r
le_trans p q r a b = record {
  board = board_trans p q r a.board b.board;
  grown = grown_trans p q r a.grown b.grown;
  component = λ i h. b.component i ((a.grown i).entered h).0 ∙ a.component i h;
}

-- settings, entries and records that are kept
pub kept_le : (p q : Party) → Formed p → Keeps p q → Grown p q → Le p q
kept_le p q w k g = record { board = k.board; grown = g; component = λ i h. kept_component p q w k i h }

pub le_keeps : (p q : Party) → Le p q → Keeps p q
le_keeps p q o = record { board = o.board; entry = λ i h. (o.grown i).entered h }

-- an entered level
module _ (p q : Party) (o : Le p q) (i : ℕ) (h : T (level_at p i).entered) where
  pub le_entered : T (level_at q i).entered
  le_entered = ((o.grown i).entered h).0

  pub le_sending : sending q i ≡ sending p i
  le_sending = sending_same p q i o.board.plan (o.component i h) (T→true (level_at q i).entered le_entered ∙ sym (T→true (level_at p i).entered h))

  -- what its rules see, but for the next level
  pub le_same : Same (context_of p i) (context_of q i)
  unfolding context_of
  le_same =
      let b = o.board in
      let c = o.component i h in
      record {
        n = sym b.n;
        t = sym b.t;
        degree = λ z. degree_of (sym b.plan z) (sym c z);
        port = λ z. port_of (sym b.plan z) (sym c z) (sym ((o.grown i).entered h).2 z);
        centre = λ z. centre_of (sym b.plan z) (sym c z);
      }

  -- the next level's entry and output stay
  pub le_next : T (context_of p i).next_entered → T (context_of q i).next_entered
  unfolding context_of
  le_next n = ((o.grown (i + 1)).entered n).0

  pub le_later : Later (context_of p i) (context_of q i)
  unfolding context_of
  le_later = record { same = le_same; output = (o.grown (i + 1)).output }

-- a message that was made
pub le_sent : (p q : Party) → Le p q → (m : Message) → Sent p m → Sent q m
le_sent p q o m s =
    let h = sending_entered p m.level s.sends in
    record {
      number = s.number ∙ sym o.board.agreement;
      sends = subst T (sym (le_sending p q o m.level h)) s.sends;
      body = sent_grows (context_of p m.level) (context_of q m.level) (level_at p m.level) (level_at q m.level)
          (le_same p q o m.level h) (le_next p q o m.level h) (o.grown m.level) m.body s.body;
    }
