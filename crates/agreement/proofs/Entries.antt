-- What an accepted start or take is: the record of a call that its party accepts, and what that call does.
use mathlib.Core.Path.{◌≡◌, refl, sym, ap, ◌∙◌, subst}
use mathlib.Core.Logic.{◌⊎◌, inl, inr}
use mathlib.Core.Bool.{Bool, true, false, not}
use mathlib.Core.List.{List}
use Prim.Native.Nat.{ℕ, ◌+◌, ◌-◌, ◌≤◌, ◌<◌}
use native.Mathlib.Omega.{arith}
use lib.Dec.{T, leb, ltb, eqb, T_not, leb→le, ltb→lt, eqb→eq, eqb_refl}
use lib.IntN.{ℤ, pos, negsuc}
use lib.ListN.{length}
use Rattle.std.specs.Prelude.{Ok, Err}
use Rattle.base.specs.Pick.{pick}
use Rattle.base.specs.Limits.{max_number, offset_zero, max_boards, max_width, outgoing_size}
use Rattle.base.proofs.Bools.{T→true, true→T}
use Rattle.base.specs.Found.{Found, found, ask}
use Rattle.plan.specs.Plan.{Plan}
use Rattle.plan.proofs.Listed.{asked}
use Rattle.message.specs.declared.Message.{Message}
use Rattle.message.specs.Reading.{Exactly, broken, exact_message}
use Rattle.message.specs.Message.{in_table}
use Rattle.message.proofs.RoundTrip.{message_table, exact_message_at}
use Rattle.level.specs.Level.{no_output}
use Rattle.journal.specs.declared.Record.{Record}
use Rattle.journal.specs.declared.Record.TheVariants.{Start, Taken}
use Rattle.journal.specs.Journal.{record_bytes}
use Rattle.journal.specs.Records.{InLimits}
use Rattle.party.specs.Party.{Party, started, held_by}
use Rattle.party.specs.Run.{Ran, starting, taking}
use Rattle.party.specs.Valid.{party_valid}
use Rattle.party_life.specs.Life.{replayed, Fits}
use Rattle.party_life.proofs.Fits.{fits_start, fitting_start, fits_taken, fitting_taken}
use Rattle.board_calls.specs.Answers.{on_plan, range_position, position_of}
use Rattle.board_calls.specs.Calls.{Entry, again, fresh, at_door, fitting, start_questions, take_message, take_questions}
use Rattle.board_laws.proofs.Counts.{count_start}
use Rattle.agreement.specs.History.{Lent, StartInput, plain, by_count, voted_input, start_finds}

-- ---- inputs

-- an input is on the plan or has no position
module _ (p : Plan) where
  abbrev Placed : ℕ → Type 0
  Placed x = (x ≡ no_output) ⊎ (x < p.count)

  on_plan_lem : (x : ℕ) → Placed (on_plan p x)
  on_plan_lem x = go (ltb x p.count) refl
    where
      go : (b : Bool) → ltb x p.count ≡ b → Placed (pick b x no_output)
      go true e = inr (ltb→lt x p.count (true→T e))
      go false e = inl refl

  either : (b : Bool) (x y : ℕ) → Placed x → Placed y → Placed (pick b x y)
  either true x y f g = f
  either false x y f g = g

  pub input_placed : (z : ℤ) → (position_of p z ≡ no_output) ⊎ (position_of p z < p.count)
  unfolding position_of
  input_placed (pos x) =
      either (eqb p.kind 1) (on_plan p x) (range_position p (pos x)) (on_plan_lem x)
      (either (leb p.low (x + offset_zero)) (on_plan p (x + offset_zero - p.low)) no_output (on_plan_lem (x + offset_zero - p.low)) (inl refl))
  input_placed (negsuc x) =
      either (eqb p.kind 1) no_output (range_position p (negsuc x)) (inl refl)
      (either (leb (p.low + (x + 1)) offset_zero) (on_plan p (offset_zero - (x + 1) - p.low)) no_output (on_plan_lem (offset_zero - (x + 1) - p.low)) (inl refl))

-- ---- messages

-- what is read as one message is in the table
pub exact_table : (s : List ℕ) (m : Message) → exact_message s ≡ Ok m → in_table m ≡ true
exact_table s m e = message_table s 0 m (length s) (exact_message_at s m e)

-- ---- accepted calls

-- past the questions of every call
pub past_door : {A : Type 0} (p : Party) (room used out : ℕ) (go : Found A) (x : A) → at_door p room used out go ≡ found x → go ≡ found x
past_door p room used out go x e =
    let a = asked (party_valid p) 19 0 (ask (leb outgoing_size out) 18 0 (ask (leb used room) 20 0 go)) x e in
    let b = asked (leb outgoing_size out) 18 0 (ask (leb used room) 20 0 go) x a.1 in
    (asked (leb used room) 20 0 go x b.1).1

-- a record that fits the journal
fitted : (room used : ℕ) (r q : Record) (ran run : Ran) → fitting room used r ran ≡ found (fresh q run) → (used + length (record_bytes r) ≤ room) × (r ≡ q) × (ran ≡ run)
fitted room used r q ran run e =
    let n : ℕ = used + length (record_bytes r) in
    let a = asked (leb n room) 17 0 (found (fresh r ran)) (fresh q run) e in
    let f : found (fresh r ran) ≡ found (fresh q run) = a.1 in
    (leb→le n room a.0, cc, cc)

-- what is recorded: a record of a call that the party accepts, with room for it; and what comes of it
pub record Recorded (p : Party) (room used : ℕ) (r : Record) (ran : Ran) : Type 0 where
  pub fits : Fits p r
  pub inside : used + length (record_bytes r) ≤ room
  pub does : replayed p r ≡ ran

-- an accepted start of a vertex or reading records its position
position_recorded : (p : Party) (z : ℤ) (room used out : ℕ) (r : Record) (ran : Ran) → start_questions p z room used out ≡ found (fresh r ran)
    → (Start p.agreement (position_of p.plan z) ≡ r) × (position_of p.plan z ≡ no_output → ⊥) × Recorded p room used r ran
unfolding start_questions replayed
position_recorded p z room used out r ran e = go (input_placed p.plan z)
  where
    x : ℕ
    x = position_of p.plan z

    last : Found Entry
    last = fitting room used (Start p.agreement x) (starting p x)

    thirteen : T (not (started p)) × (ask (not (eqb x no_output)) 12 0 last ≡ found (fresh r ran))
    thirteen = asked (not (started p)) 13 0 (ask (not (eqb x no_output)) 12 0 last) (fresh r ran) (past_door p room used out _ (fresh r ran) e)

    twelve : T (not (eqb x no_output)) × (last ≡ found (fresh r ran))
    twelve = asked (not (eqb x no_output)) 12 0 last (fresh r ran) thirteen.1

    on : x ≡ no_output → ⊥
    on n = T_not (eqb x no_output) twelve.0 (subst (λ (y : ℕ). T (eqb x y)) n (eqb_refl x))

    go : (x ≡ no_output) ⊎ (x < p.plan.count) → (Start p.agreement x ≡ r) × (x ≡ no_output → ⊥) × Recorded p room used r ran
    go (inl n) = absurd (on n)
    go (inr h) =
        let f = fitted room used (Start p.agreement x) r (starting p x) ran twelve.1 in
        (f.1, on, subst (λ (q : Record). Recorded p room used q ran) f.1 (record { fits = fitting_start p p.agreement x (refl, T_not (started p) thirteen.0, h); inside = f.0; does = f.2 }))

-- what is accepted of a count is accepted of its nearest step
pub voted_start : (p : Party) (input : StartInput) (lent : Lent) (used : ℕ) (x : Entry) → start_finds p input lent used ≡ found x
    → start_questions p (voted_input input) (length lent.journal) used lent.out ≡ found x
voted_start p (plain z) lent used x e = e
voted_start p (by_count g c) lent used x e = (count_start p g c (length lent.journal) used lent.out e).2

-- an accepted start records the position of what is voted on
pub start_recorded : (p : Party) (input : StartInput) (lent : Lent) (used : ℕ) (r : Record) (ran : Ran) → start_finds p input lent used ≡ found (fresh r ran) →
    let x = position_of p.plan (voted_input input) in
    (Start p.agreement x ≡ r) × (x ≡ no_output → ⊥) × Recorded p (length lent.journal) used r ran
start_recorded p input lent used r ran e =
    position_recorded p (voted_input input) (length lent.journal) used lent.out r ran (voted_start p input lent used (fresh r ran) e)

-- at position x, so the call finds the record of a start at x and what that does
pub start_at_lem : (p : Party) (input : StartInput) (lent : Lent) (used x : ℕ) (r : Record) (ran : Ran) → start_finds p input lent used ≡ found (fresh r ran)
    → position_of p.plan (voted_input input) ≡ x → start_finds p input lent used ≡ found (fresh (Start p.agreement x) (starting p x))
unfolding replayed
start_at_lem p input lent used x r ran e at =
    let g = start_recorded p input lent used r ran e in
    let s : r ≡ Start p.agreement x = sym g.0 ∙ ap (Start p.agreement) at in
    let does : ran ≡ starting p x = sym g.2.does ∙ ap (replayed p) s in
    e ∙ (λ z. found (fresh (s z) (does z)))

pub take_recorded : (p : Party) (s : ℕ) (bytes : List ℕ) (room used out : ℕ) (r : Record) (ran : Ran) → take_questions p s bytes room used out ≡ found (fresh r ran)
    → (m : Message) × (exact_message bytes ≡ Ok m) × (Taken s m ≡ r) × Recorded p room used r ran
unfolding take_questions replayed
take_recorded p s bytes room used out r ran e = go (exact_message bytes) refl fourteen.1
  where
    fourteen : T (ltb s p.n) × (take_message p s room used (exact_message bytes) ≡ found (fresh r ran))
    fourteen = asked (ltb s p.n) 14 0 (take_message p s room used (exact_message bytes)) (fresh r ran) (past_door p room used out _ (fresh r ran) e)

    new : (m : Message) (b : Bool) → pick b (found again) (fitting room used (Taken s m) (taking p s m)) ≡ found (fresh r ran)
        → (used + length (record_bytes (Taken s m)) ≤ room) × (Taken s m ≡ r) × (taking p s m ≡ ran)
    new m true e = let z : ◌≡◌ {A = ℕ} 0 1 = cc in absurd (omega arith)
    new m false e = fitted room used (Taken s m) r (taking p s m) ran e

    go : (x : Exactly) → exact_message bytes ≡ x → take_message p s room used x ≡ found (fresh r ran)
        → (m : Message) × (x ≡ Ok m) × (Taken s m ≡ r) × Recorded p room used r ran
    go (Ok m) i f =
        let sixteen = asked (eqb m.number p.agreement) 16 0 (pick (held_by p s m) (found again) (fitting room used (Taken s m) (taking p s m))) (fresh r ran) f in
        let w = new m (held_by p s m) sixteen.1 in (
          m,
          refl,
          w.1,
          subst (λ (q : Record). Recorded p room used q ran) w.1 (record {
            fits = fitting_taken p s m (eqb→eq m.number p.agreement sixteen.0, ltb→lt s p.n fourteen.0, true→T (exact_table bytes m i));
            inside = w.0;
            does = w.2;
          }),
        )
    go (Err y) i f = let z : ◌≡◌ {A = ℕ} 0 1 = cc in absurd (omega arith)

-- the record of an accepted call is within its limits
pub fits_limits : (p : Party) → p.agreement ≤ max_number → p.n ≤ max_boards → p.plan.count ≤ max_width + 1 → (r : Record) → Fits p r → InLimits r
fits_limits p a n c (Start b x) f = let g = fits_start p b x f in (subst (λ (z : ℕ). z ≤ max_number) (sym g.0) a, omega (arith, g.2))
fits_limits p a n c (Taken s m) f = let g = fits_taken p s m f in (omega (arith, g.1), (T→true (in_table m) g.2, subst (λ (z : ℕ). z ≤ max_number) (sym g.0) a))
