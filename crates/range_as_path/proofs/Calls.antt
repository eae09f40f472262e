-- The calls of twin parties: questions answered alike, and twin results.
use mathlib.Core.Path.{◌≡◌, refl, ap, subst, subst₂}
use mathlib.Core.Logic.{◌⊎◌, inl, inr}
use mathlib.Core.Bool.{Bool, true, false, not, ◌&&◌}
use mathlib.Core.List.{List}
use Prim.Native.Nat.{ℕ, zero, suc, ◌+◌, ◌<◌}
use lib.Dec.{T, leb, ltb, eqb, ltb→lt, eqb→eq}
use lib.IntN.{ℤ}
use lib.ListN.{length}
use Rattle.std.specs.Prelude.{Ok, None, Err}
use Rattle.base.specs.Pick.{pick}
use Rattle.base.specs.Put.{put_at}
use Rattle.base.specs.Sets.{Set}
use Rattle.base.specs.Limits.{outgoing_size, level_count}
use Rattle.base.specs.Verdict.{Verdict}
use Rattle.base.proofs.Bools.{T-left, T-right, or_split, true→T}
use Rattle.base.specs.Found.{Found, found, ask}
use Rattle.message.specs.declared.Message.{Message}
use Rattle.message.specs.Reading.{Exactly, broken, exact_message}
use Rattle.level.specs.Level.{no_output}
use Rattle.journal.specs.declared.Record.{Record}
use Rattle.journal.specs.declared.Record.TheVariants.{Start, Taken}
use Rattle.journal.specs.Journal.{record_bytes}
use Rattle.party.specs.Party.{Party, level_at, started, held_by, output_of}
use Rattle.party.specs.Run.{Ran, starting, taking, bytes_of}
use Rattle.party.specs.Valid.{every_level, settings_pass, sets_pass, output_passes, place_passes, results_pass, level_passes, party_valid}
use Rattle.plan.specs.Valid.{plan_valid}
use Rattle.board_calls.specs.Answers.{position_of, answer_of}
use Rattle.board_calls.specs.Calls.{Entry, again, fresh, at_door, fitting, start_questions, take_message, take_questions, answered_of, Answered}
use Rattle.range_as_path.specs.Twin.{TwinParties, TwinRan, TwinFound, both, neither, TwinEntry, held, recorded, TwinCall, nothing, TwinAnswered}
use Rattle.range_as_path.proofs.Twins.{twin_started, twin_held, twin_output, twin_valid, twin_starting, twin_taking}
use Rattle.range_as_path.proofs.Positions.{twin_answer}

-- ---- questions

-- the same question, and then twins
pub twin_ask : {A : Type 0} {R : A → A → Type 0} (s t : Bool) → s ≡ t → (number place : ℕ) (a b : Found A) → TwinFound R a b → TwinFound R (ask s number place a) (ask t number place b)
twin_ask {R = R} s t e number place a b w = subst (λ (u : Bool). TwinFound R (ask s number place a) (ask u number place b)) e (go s)
  where
    go : (s : Bool) → TwinFound R (ask s number place a) (ask s number place b)
    go true = w
    go false = neither

module _ (p p' : Party) (w : TwinParties p p') (room used : ℕ) where
  twin_fitting : (r : Record) (a b : Ran) → TwinRan a b → TwinFound TwinEntry (fitting room used r a) (fitting room used r b)
  twin_fitting r a b h =
      twin_ask (leb (used + length (record_bytes r)) room) (leb (used + length (record_bytes r)) room) refl 17 0 (found (fresh r a)) (found (fresh r b)) (both (recorded h))

  twin_door : (out : ℕ) (a b : Found Entry) → TwinFound TwinEntry a b → TwinFound TwinEntry (at_door p room used out a) (at_door p' room used out b)
  twin_door out a b h =
      let c = twin_ask (leb used room) (leb used room) refl 20 0 a b h in
      let d = twin_ask (leb outgoing_size out) (leb outgoing_size out) refl 18 0 (ask (leb used room) 20 0 a) (ask (leb used room) 20 0 b) c in
      twin_ask (party_valid p) (party_valid p') (twin_valid p p' w) 19 0
      (ask (leb outgoing_size out) 18 0 (ask (leb used room) 20 0 a)) (ask (leb outgoing_size out) 18 0 (ask (leb used room) 20 0 b)) d

  -- a start at inputs of the same position
  pub twin_start : (z z' : ℤ) → position_of p.plan z ≡ position_of p'.plan z' → (out : ℕ)
      → TwinFound TwinEntry (start_questions p z room used out) (start_questions p' z' room used out)
  unfolding start_questions
  twin_start z z' e out = twin_door out (asked p x) (asked p' (position_of p'.plan z')) (subst (λ (y : ℕ). TwinFound TwinEntry (asked p x) (asked p' y)) e same)
    where
      x : ℕ
      x = position_of p.plan z

      rest : Party → ℕ → Found Entry
      rest p x = fitting room used (Start p.agreement x) (starting p x)

      asked : Party → ℕ → Found Entry
      asked p x = ask (not (started p)) 13 0 (ask (not (eqb x no_output)) 12 0 (rest p x))

      fits : TwinFound TwinEntry (rest p x) (rest p' x)
      fits = subst (λ (a : ℕ). TwinFound TwinEntry (rest p x) (fitting room used (Start a x) (starting p' x))) w.agreement
          (twin_fitting (Start p.agreement x) (starting p x) (starting p' x) (twin_starting p p' w x))

      same : TwinFound TwinEntry (asked p x) (asked p' x)
      same =
          twin_ask (not (started p)) (not (started p')) (ap not (twin_started p p' w)) 13 0
          (ask (not (eqb x no_output)) 12 0 (rest p x)) (ask (not (eqb x no_output)) 12 0 (rest p' x))
          (twin_ask (not (eqb x no_output)) (not (eqb x no_output)) refl 12 0 (rest p x) (rest p' x) fits)

  -- a take of the same bytes
  twin_message : (s : ℕ) (x : Exactly) → TwinFound TwinEntry (take_message p s room used x) (take_message p' s room used x)
  twin_message s (Ok m) =
      twin_ask (eqb m.number p.agreement) (eqb m.number p'.agreement) (ap (eqb m.number) w.agreement) 16 0
      (pick (held_by p s m) (found again) (fitting room used (Taken s m) (taking p s m)))
      (pick (held_by p' s m) (found again) (fitting room used (Taken s m) (taking p' s m)))
      (subst (λ (c : Bool). TwinFound TwinEntry (pick (held_by p s m) (found again) (fitting room used (Taken s m) (taking p s m)))
      (pick c (found again) (fitting room used (Taken s m) (taking p' s m)))) (twin_held p p' w s m) (go (held_by p s m)))
    where
      go : (c : Bool) → TwinFound TwinEntry (pick c (found again) (fitting room used (Taken s m) (taking p s m))) (pick c (found again) (fitting room used (Taken s m) (taking p' s m)))
      go true = both held
      go false = twin_fitting (Taken s m) (taking p s m) (taking p' s m) (twin_taking p p' w s m)
  twin_message s (Err e) = neither

  pub twin_take : (s : ℕ) (bytes : List ℕ) (out : ℕ) → TwinFound TwinEntry (take_questions p s bytes room used out) (take_questions p' s bytes room used out)
  unfolding take_questions
  twin_take s bytes out =
      twin_door out (ask (ltb s p.n) 14 0 (take_message p s room used (exact_message bytes))) (ask (ltb s p'.n) 14 0 (take_message p' s room used (exact_message bytes)))
      (twin_ask (ltb s p.n) (ltb s p'.n) (ap (ltb s) w.n) 14 0 (take_message p s room used (exact_message bytes)) (take_message p' s room used (exact_message bytes))
      (twin_message s (exact_message bytes)))

-- ---- what a start or take gives

pub twin_call : (p p' : Party) → TwinParties p p' → (j : List ℕ) (used : ℕ) (out : List ℕ) (a b : Found Entry) → TwinFound TwinEntry a b → TwinCall p p' j used out a b
twin_call p p' w j used out a b (both held) = record {
  called = record { verdict = refl; party = w; used = refl; sent = refl; rules = refl };
  journal = refl;
  outgoing = refl;
}
twin_call p p' w j used out a b (both (recorded h)) = record {
  called = record { verdict = refl; party = h.party; used = refl; sent = ap (λ (ms : List Message). length (bytes_of ms)) h.made; rules = h.rules };
  journal = refl;
  outgoing = ap (λ (ms : List Message). put_at out 0 (bytes_of ms)) h.made;
}
twin_call p p' w j used out a b neither = record {
  called = record { verdict = refl; party = w; used = refl; sent = refl; rules = refl };
  journal = refl;
  outgoing = refl;
}

-- ---- reading the answer

-- a valid party's output is none, or on the plan
first_passes : (k : ℕ) (f : Set) → T (every_level (suc k) f) → T (f 0)
unfolding every_level
first_passes zero f h = T-right true (f 0) h
first_passes (suc k) f h = first_passes k f (T-left (every_level (suc k) f) (f (suc k)) h)

output_passes_lem : (p : Party) → T (level_passes p 0) → (output_of p ≡ no_output) ⊎ (output_of p < p.plan.count)
unfolding level_passes
output_passes_lem p h =
    let sets : Bool = sets_pass p.n (level_at p 0).sets in
    let out : Bool = output_passes p (level_at p 0) in
    go (or_split (eqb (output_of p) no_output) (ltb (output_of p) p.plan.count) (T-right sets out (T-left (sets && out) (place_passes p 0 && results_pass p 0) h)))
  where
    go : T (eqb (output_of p) no_output) ⊎ T (ltb (output_of p) p.plan.count) → (output_of p ≡ no_output) ⊎ (output_of p < p.plan.count)
    go (inl e) = inl (eqb→eq (output_of p) no_output e)
    go (inr e) = inr (ltb→lt (output_of p) p.plan.count e)

valid_output : (p : Party) → T (party_valid p) → (output_of p ≡ no_output) ⊎ (output_of p < p.plan.count)
unfolding party_valid
valid_output p h =
    output_passes_lem p (first_passes 15 (level_passes p) (T-right (settings_pass p && plan_valid p.plan) (every_level level_count (level_passes p)) h))

pub twin_answered : (p p' : Party) → TwinParties p p' → TwinAnswered p.plan (answered_of p) (answered_of p')
unfolding answered_of
twin_answered p p' w =
    subst₂ (λ (v : Bool) (x : ℕ). TwinAnswered p.plan (given (party_valid p) p (output_of p)) (given v p' x)) (twin_valid p p' w) (twin_output p p' w) (go (party_valid p) refl)
  where
    given : Bool → Party → ℕ → Answered
    given v p x = pick v (record { verdict = Verdict.Accepted; answer = answer_of p.plan x }) (record { verdict = Verdict.Refused 19 0; answer = None })

    go : (v : Bool) → party_valid p ≡ v → TwinAnswered p.plan (given v p (output_of p)) (given v p' (output_of p))
    go true e = record { verdict = refl; answer = twin_answer p.plan p'.plan w.plans (output_of p) (valid_output p (true→T e)) }
    go false e = record { verdict = refl; answer = nothing }
