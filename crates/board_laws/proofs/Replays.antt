-- Records read and replayed, one after the other.
use mathlib.Core.Path.{◌≡◌, refl, sym, ap, ◌∙◌, subst}
use mathlib.Core.Bool.{Bool, true, false, not}
use mathlib.Core.List.{List, [], ◌∷◌}
use Prim.Native.Nat.{ℕ, zero, suc, ◌+◌, ◌≤◌, ◌<◌}
use native.Mathlib.Omega.{arith}
use lib.Dec.{T, ltb, eqb}
use lib.ListN.{length}
use borrow.Author.Tests.{le-leb, lt-leb, ne_eqb}
use Rattle.std.specs.Prelude.{Err}
use Rattle.base.specs.Pick.{pick}
use Rattle.base.specs.Limits.{last_level, level_count, max_rules, outgoing_size}
use Rattle.base.specs.Found.{Found, found, refused, ask}
use Rattle.base.proofs.Bools.{T→true}
use Rattle.message.specs.declared.Message.{Message}
use Rattle.message.specs.Message.{in_table}
use Rattle.message.proofs.RoundTrip.{message_length_most}
use Rattle.level.specs.Level.{Level, with_heard}
use Rattle.level_laws.proofs.Grows.{move_unmoved}
use Rattle.journal.specs.declared.Record.{Record}
use Rattle.journal.specs.declared.Record.TheVariants.{Start, Taken}
use Rattle.journal.specs.declared.RecordError.TheVariants.{Torn, Bad}
use Rattle.journal.proofs.Laws.{same_record}
use Rattle.journal.specs.Reading.{whole_record, record_at}
use Rattle.journal.proofs.RoundTrip.{record_place}
use Rattle.party.specs.Party.{Party, new_party, level_at, context_of, started, entered, hearing}
use Rattle.party.specs.Run.{Ran, resting, open_at, step_at, bytes_of}
use Rattle.party_life.specs.Life.{replayed, following, lived, fault_of, fault, Fits, Life}
use Rattle.party_life.proofs.Fits.{fits_start, fits_fault}
use Rattle.party_laws.proofs.Laws.{SameBoard, board_refl, board_trans, Step, changes, enters, open_step, level_field, entry_other, entry_level, starting_kept, taking_kept, starting_keeps, taking_keeps}
use Rattle.party_laws.proofs.Calls.{new_level}
use Rattle.party_bounds.proofs.Laws.{Sized, sized_new, sized_replayed, set_up_rules, Within, lived_within, within_outgoing}
use Rattle.board_calls.specs.Restore.{record_fits, Replay, replay_from}
use Rattle.board_laws.specs.Inner.{New, started_by, One, one, Many, none, more}

-- ---- one record

module _ (f : ℕ) (j : List ℕ) (at : ℕ) (r : Ran) where
  -- past the last byte
  pub replay_end : length j ≤ at → replay_from f j at r ≡ found (record { ran = r; used = at })
  unfolding replay_from
  replay_end h = go f
    where
      go : (f : ℕ) → replay_from f j at r ≡ found (record { ran = r; used = at })
      go zero = refl
      go (suc f) = rw (le-leb (length j) at h)

  module _ (h : at < length j) where
    pub replay_torn : record_at j at ≡ Err Torn → replay_from (suc f) j at r ≡ found (record { ran = r; used = at })
    unfolding replay_from
    replay_torn e = rw (lt-leb (length j) at h, e)

    pub replay_bad : record_at j at ≡ Err Bad → replay_from (suc f) j at r ≡ refused 21 at
    unfolding replay_from
    replay_bad e = rw (lt-leb (length j) at h, e)

    pub replay_read : (x : Record) (next : ℕ) → record_at j at ≡ whole_record x next
        → replay_from (suc f) j at r ≡ record_fits r.party at x (replay_from f j next (following r (replayed r.party x)))
    unfolding replay_from
    replay_read x next e = rw (lt-leb (length j) at h, e)

-- the questions of a record, in their order
pub asked_start : {A : Type 0} (p : Party) (at a x : ℕ) (go : Found A)
    → record_fits p at (Start a x) go ≡ ask (eqb a p.agreement) 16 at (ask (not (started p)) 13 at (ask (ltb x p.plan.count) 12 at go))
asked_start p at a x go = by (eqb a p.agreement) (started p) (ltb x p.plan.count)
  where
    by : (b s c : Bool) → pick (eqb (pick b (pick s 13 (pick c 0 12)) 16) 0) go (refused (pick b (pick s 13 (pick c 0 12)) 16) at) ≡ ask b 16 at (ask (not s) 13 at (ask c 12 at go))
    by true true c = refl
    by true false true = refl
    by true false false = refl
    by false s c = refl

pub asked_taken : {A : Type 0} (p : Party) (at s : ℕ) (m : Message) (go : Found A)
    → record_fits p at (Taken s m) go ≡ ask (eqb m.number p.agreement) 16 at (ask (ltb s p.n) 14 at go)
asked_taken p at s m go = by (eqb m.number p.agreement) (ltb s p.n)
  where
    by : (b c : Bool) → pick (eqb (pick b (pick c 0 14) 16) 0) go (refused (pick b (pick c 0 14) 16) at) ≡ ask b 16 at (ask c 14 at go)
    by true true = refl
    by true false = refl
    by false c = refl

-- a record that fits goes on, and one with a fault does not
pub fits_on : {A : Type 0} (p : Party) (at : ℕ) (x : Record) (go : Found A) → Fits p x → record_fits p at x go ≡ go
fits_on p at x go f = ap (λ (n : ℕ). ask (eqb n 0) n at go) (fits_fault p x f)

faults : {A : Type 0} (p : Party) (at : ℕ) (x : Record) (go : Found A) (k : ℕ) → k ≡ fault p x → (k ≡ 0 → ⊥) → record_fits p at x go ≡ refused k at
faults p at x go k i d = ap (λ (n : ℕ). ask (eqb n 0) n at go) (sym i) ∙ rw (ne_eqb k 0 d)

-- the questions of a party of the same board, vote and plan
pub fault_same : (p q : Party) → SameBoard p q → (b : Bool) (x : Record) → fault_of p b x ≡ fault_of q b x
fault_same p q s b (Start a x) = rw (s.agreement, s.plan)
fault_same p q s b (Taken z m) = rw (s.agreement, s.n)

-- ---- what a record keeps

pub board_replayed : (p : Party) (x : Record) → Fits p x → SameBoard p (replayed p x).party
unfolding replayed
board_replayed p (Start a x) f = (starting_kept p x (fits_start p a x f).1).0.board
board_replayed p (Taken s m) f = (taking_kept p s m).board

-- rules do not start a board
started_step : (p : Party) (i : ℕ) → T (open_at p i) → started (step_at p i) ≡ started p
started_step p i h = go (step_at p i) (open_step p i h)
  where
    go : (q : Party) → Step p i q → started q ≡ started p
    go q (changes m e x) = level_field p i m (λ (l : Level). l.entered) (move_unmoved (context_of p i) (level_at p i) m e x).entered 0
    go q (enters k x new) = ap (λ (l : Level). l.entered) (entry_other p (i + 1) _ k x 0 (λ e. omega arith))

-- nor does a message
started_hearing : (p : Party) (s : ℕ) (m : Message) → started (hearing p s m) ≡ started p
unfolding hearing with_heard
started_hearing p s m = level_field p m.level (with_heard (level_at p m.level) m.body s) (λ (l : Level). l.entered) refl 0

started_entered : (p : Party) (x : ℕ) → 0 < length p.levels → started (entered p x) ≡ true
unfolding entered
started_entered p x h = ap (λ (l : Level). l.entered) (entry_level p 0 _ 0 x h)

pub started_replayed : (p : Party) (x : Record) → 0 < length p.levels → started (replayed p x).party ≡ started_by x (started p)
unfolding replayed
started_replayed p (Start a x) h =
    starting_keeps (λ q. started q ≡ true) (λ q i e o. started_step q i o ∙ e) p x (started_entered p x h)
started_replayed p (Taken s m) h =
    taking_keeps (λ q. started q ≡ started p) (λ q i e o. started_step q i o ∙ e) p s m refl (started_hearing p s m)

-- ---- a party as a set-up gives it

module _ (p : Party) (w : New p) where
  new_is : p ≡ new_party p.n p.t p.own p.agreement p.plan
  new_is = λ i. record { n = p.n; t = p.t; own = p.own; agreement = p.agreement; plan = p.plan; levels = w.levels i }

  pub new_sized : Sized p
  new_sized = subst Sized (sym new_is) (sized_new p.n p.t p.own p.agreement p.plan w.settings w.plan)

  pub new_entered : (i : ℕ) → i < level_count → (level_at p i).entered ≡ false
  new_entered i h =
      ap (λ (q : Party). (level_at q i).entered) new_is
      ∙ ap (λ (l : Level). l.entered) (new_level p.n p.t p.own p.agreement p.plan i h)

  pub new_started : started p ≡ false
  new_started = new_entered 0 (omega arith)

  pub new_rules : (rs : List Record) → Life p rs → (lived p rs).rules ≤ max_rules
  new_rules rs l =
      let q : Party = new_party p.n p.t p.own p.agreement p.plan in
      subst (λ (z : Party). Life z rs → (lived z rs).rules ≤ max_rules) (sym new_is) (set_up_rules p.n p.t p.own p.agreement p.plan w.settings w.plan rs) l

-- ---- records one after the other

lived_more : (p : Party) (x : Record) (rs : List Record) (r : Ran) → r ≡ lived p rs → following r (replayed r.party x) ≡ lived p (x ∷ rs)
unfolding lived
lived_more p x rs r e = ap (λ (z : Ran). following z (replayed z.party x)) e

module _ {j : List ℕ} where
  pub one_longer : {at next : ℕ} {r s : Ran} → One j at r next s → at < next
  one_longer {at} {next} (one x h e f) = (record_place j at x next e).0

  pub one_inside : {at next : ℕ} {r s : Ran} → One j at r next s → at < length j
  one_inside (one x h e f) = h

  pub one_board : {at next : ℕ} {r s : Ran} → One j at r next s → SameBoard r.party s.party
  one_board {r = r} (one x h e f) = board_replayed r.party x f

  pub one_sized : {at next : ℕ} {r s : Ran} → One j at r next s → Sized r.party → Sized s.party
  one_sized {r = r} (one x h e f) z = sized_replayed r.party z x f

  -- there is a record
  pub one_record : {at next : ℕ} {r s : Ran} → One j at r next s → (x : Record) × (record_at j at ≡ whole_record x next)
  one_record (one x h e f) = (x, e)

  -- and it is the one that is read
  pub one_read : {at next : ℕ} {r s : Ran} → One j at r next s → {x : Record} {n : ℕ} → record_at j at ≡ whole_record x n
      → (n ≡ next) × Fits r.party x × (s ≡ following r (replayed r.party x))
  one_read {at} {next} {r} (one y h e f) {x} {n} i =
      let ex : y ≡ x = (same_record (sym e ∙ i)).0 in
      let en : n ≡ next = (same_record (sym i ∙ e)).1 in
      (en, subst (Fits r.party) ex f, ap (λ (z : Record). following r (replayed r.party z)) ex)

  pub many_le : {at end : ℕ} {r q : Ran} → Many j at r end q → at ≤ end
  many_le none = omega arith
  many_le (more o m) = omega (arith, one_longer o, many_le m)

  pub many_sized : {at end : ℕ} {r q : Ran} → Many j at r end q → Sized r.party → Sized q.party
  many_sized none z = z
  many_sized (more o m) z = many_sized m (one_sized o z)

  pub many_board : {at end : ℕ} {r q : Ran} → Many j at r end q → SameBoard r.party q.party
  many_board {r = r} none = board_refl r.party
  many_board {r = r} {q = q} (more {s = s} o m) = board_trans r.party s.party q.party (one_board o) (many_board m)

  pub many_then : {at mid end : ℕ} {r s q : Ran} → Many j at r mid s → One j mid s end q → Many j at r end q
  many_then none o = more o none
  many_then (more x m) o = more x (many_then m o)

  -- before the end there is a record
  pub many_first : {at end : ℕ} {r q : Ran} → Many j at r end q → at < end → (next : ℕ) × (s : Ran) × One j at r next s × Many j next s end q
  many_first none h = absurd (omega arith)
  many_first (more {next = next} {s = s} o m) h = (next, s, o, m)

  pub many_last : {at end : ℕ} {r q : Ran} → Many j at r end q → end ≤ at → r ≡ q
  many_last none h = refl
  many_last (more o m) h = absurd (omega (arith, one_longer o, many_le m))

  -- they are a life
  pub many_life : (p : Party) {at end : ℕ} {r q : Ran} → Many j at r end q → (rs : List Record) → Life p rs → r ≡ lived p rs → (ts : List Record) × Life p ts × (q ≡ lived p ts)
  many_life p none rs l e = (rs, l, e)
  many_life p {r = r} (more (one x h i f) m) rs l e =
      many_life p m (x ∷ rs) (subst (λ (z : Ran). Fits z.party x) e f, l) (lived_more p x rs r e)

-- the rules of some records after a set-up
pub many_rules : (p : Party) → New p → {j : List ℕ} {end : ℕ} {q : Ran} → Many j 0 (resting p) end q → q.rules ≤ max_rules
unfolding lived
many_rules p w m = let l = many_life p m [] tt refl in subst (λ (z : Ran). z.rules ≤ max_rules) (sym l.2) (new_rules p w l.0 l.1)

-- what is made within the bounds fits the outgoing buffer
pub outgoing_most : (p : Party) (r : Ran) → Within (last_level + 1) p r → length (bytes_of r.made) ≤ outgoing_size
outgoing_most p r w = within_outgoing (λ m h. message_length_most m (T→true (in_table m) h)) p r w

-- so do the messages of some records after a set-up, all together
pub many_outgoing : (p : Party) → New p → {j : List ℕ} {end : ℕ} {q : Ran} → Many j 0 (resting p) end q → length (bytes_of q.made) ≤ outgoing_size
unfolding lived
many_outgoing p w m =
    let l = many_life p m [] tt refl in
    subst (λ (z : Ran). length (bytes_of z.made) ≤ outgoing_size) (sym l.2)
    (outgoing_most p (lived p l.0) (lived_within (last_level + 1) (omega arith) p (new_sized p w) l.0 l.1))

-- ---- replaying goes on where some records end

one_replay : (f : ℕ) {j : List ℕ} {at next : ℕ} {r s : Ran} → One j at r next s → replay_from (suc f) j at r ≡ replay_from f j next s
one_replay f {j} {at} {next} {r} (one x h e i) =
    replay_read f j at r h x next e ∙ fits_on r.party at x _ i

-- with fuel for the rest
pub record Goes (j : List ℕ) (total : Found Replay) (at : ℕ) (r : Ran) : Type 0 where
  pub fuel : ℕ
  pub enough : length j ≤ at + fuel
  pub same : total ≡ replay_from fuel j at r

pub goes_one : {j : List ℕ} {total : Found Replay} {at next : ℕ} {r s : Ran} → Goes j total at r → One j at r next s → Goes j total next s
goes_one {j} {total} {at} {next} {r} {s} g o = go g.fuel g.enough g.same
  where
    go : (f : ℕ) → length j ≤ at + f → total ≡ replay_from f j at r → Goes j total next s
    go zero l e = absurd (omega (arith, one_inside o))
    go (suc f) l e = record { fuel = f; enough = omega (arith, one_longer o); same = e ∙ one_replay f o }

pub goes_many : {j : List ℕ} {total : Found Replay} {at end : ℕ} {r q : Ran} → Goes j total at r → Many j at r end q → Goes j total end q
goes_many g none = g
goes_many g (more o m) = goes_many (goes_one g o) m

pub goes_start : (j : List ℕ) (r : Ran) → Goes j (replay_from (length j) j 0 r) 0 r
goes_start j r = record { fuel = length j; enough = omega arith; same = refl }

module _ {j : List ℕ} {total : Found Replay} {at : ℕ} {r : Ran} (g : Goes j total at r) where
  pub goes_end : length j ≤ at → total ≡ found (record { ran = r; used = at })
  goes_end h = g.same ∙ replay_end g.fuel j at r h

  module _ (h : at < length j) where
    -- one step of fuel is there
    step : (f : ℕ) × (total ≡ replay_from (suc f) j at r)
    step = go g.fuel g.enough g.same
      where
        go : (f : ℕ) → length j ≤ at + f → total ≡ replay_from f j at r → (f : ℕ) × (total ≡ replay_from (suc f) j at r)
        go zero l e = absurd (omega arith)
        go (suc f) l e = (f, e)

    pub goes_torn : record_at j at ≡ Err Torn → total ≡ found (record { ran = r; used = at })
    goes_torn e = step.1 ∙ replay_torn step.0 j at r h e

    pub goes_bad : record_at j at ≡ Err Bad → total ≡ refused 21 at
    goes_bad e = step.1 ∙ replay_bad step.0 j at r h e

    pub goes_fault : (x : Record) (next k : ℕ) → record_at j at ≡ whole_record x next → k ≡ fault r.party x → (k ≡ 0 → ⊥) → total ≡ refused k at
    goes_fault x next k e i d =
        step.1 ∙ replay_read step.0 j at r h x next e ∙ faults r.party at x _ k i d
