-- What a level's output rests on, and that it is there where no rule applies.
use mathlib.Core.Path.{◌≡◌, refl, sym, ◌∙◌, subst}
use mathlib.Core.Logic.{inl, inr}
use mathlib.Core.Bool.{Bool, true, false}
use mathlib.Core.List.{List}
use Prim.Native.Nat.{ℕ, ◌+◌, ◌≤◌, ◌<◌}
use native.Mathlib.Omega.{arith}
use lib.Dec.{T}
use lib.ListN.{get_or}
use Rattle.base.specs.Pick.{pick}
use Rattle.message.specs.Message.{none_value}
use Rattle.message.specs.declared.Body.{Body}
use Rattle.message.specs.declared.Body.TheVariants.{Centre}
use Rattle.level.specs.declared.Context.{Context}
use Rattle.level.specs.Rules.{Effect}
use Rattle.level.specs.Level.{Level, senders, slot, not_yet, no_output, with_heard, with_result}
use Rattle.level.specs.Counts.{weak, at_least}
use Rattle.level.specs.Rules.{unanswered, lowest_rule}
use Rattle.level_laws.specs.Inner.{Answered, Heard, Law, CentreBy, by_zero, by_none, by_messages, OutputFrom, OutputBy}
use Rattle.level_laws.proofs.Moves.{AtRest, Move, told_cases, lowest_all}
use Rattle.level_laws.proofs.Moves.{port_echo, none_echo, first_proposal_lem, first_value, first_none, own_echo, relay, second_proposal_lem, sure_result, none_result, unsure_result, centre_output, sure_entry, unsure_entry, centre_message, sided_entry, told_output, next_output_lem}
use Rattle.level_laws.proofs.Law.{Same}
use Rattle.level_laws.proofs.Grows.{grows_heard}
use Rattle.level_laws.proofs.Evidence.{heard_keeps, more_senders}

pub unanswered_output : (c : Context) (l : Level) → l.output ≡ no_output → OutputBy c l
unanswered_output c l e p = absurd (p e)

-- a result now there: before, only messages can have made the centre the output
result_output : (c : Context) (l : Level) (w : ℕ) (sure : Bool) → l.result ≡ not_yet → OutputBy c l → OutputBy c (with_result l w sure)
unfolding senders
result_output c l w sure e h p = go (h p)
  where
    by : CentreBy c l → CentreBy c (with_result l w sure)
    by (by_zero x) = absurd (omega arith)
    by (by_none x) = absurd (omega arith)
    by (by_messages x) = by_messages x

    go : OutputFrom c l → OutputFrom c (with_result l w sure)
    go (inl x) = inl (x.0, by x.1)
    go (inr x) = absurd (omega (arith, x.1.1))

-- a change of other fields
keeps_output : (c : Context) (l m : Level) → m.sets ≡ l.sets → m.output ≡ l.output → m.result ≡ l.result → OutputBy c l → OutputBy c m
unfolding senders
keeps_output c l m s o r h p = go (h (λ e. p (o ∙ e)))
  where
    by : CentreBy c l → CentreBy c m
    by (by_zero x) = by_zero (r ∙ x)
    by (by_none x) = by_none (r ∙ x)
    by (by_messages x) = by_messages (subst (λ (z : List ℕ). T (at_least (weak c) (get_or z (slot Centre) 0))) (sym s) x)

    go : OutputFrom c l → OutputFrom c m
    go (inl x) = inl (o ∙ x.0, by x.1)
    go (inr x) = inr (o ∙ x.0, subst (λ (z : ℕ). (1 ≤ z) × (z < none_value)) (sym r) x.1)

-- rule 11's output
told_output_by : (c : Context) (l m : Level) → m.sets ≡ l.sets → m.result ≡ l.result → l.result ≡ none_value
    → m.output ≡ pick (unanswered l) c.centre l.output → OutputBy c l → OutputBy c m
told_output_by c l m s r e o h =
    told_cases l c.centre (λ x. m.output ≡ x → OutputBy c m) (λ _ x p. inl (x, by_none (r ∙ e))) (λ _ x. keeps_output c l m s x r h) o

move_output : (c : Context) (l : Level) → OutputBy c l → (m : Level) (e : Effect) → Move c l m e → OutputBy c m
unfolding senders
move_output c l h m e (port_echo p) = keeps_output c l m refl refl refl h
move_output c l h m e (none_echo p q) = keeps_output c l m refl refl refl h
move_output c l h m e (first_proposal_lem v p k q) = keeps_output c l m refl refl refl h
move_output c l h m e (first_value v p k q) = keeps_output c l m refl refl refl h
move_output c l h m e (first_none p q) = keeps_output c l m refl refl refl h
move_output c l h m e (own_echo p q) = keeps_output c l m refl refl refl h
move_output c l h m e (relay w p k q r) = keeps_output c l m refl refl refl h
move_output c l h m e (second_proposal_lem w p r k q) = keeps_output c l m refl refl refl h
move_output c l h m e (sure_result v p r k q) = result_output c l v true r h
move_output c l h m e (none_result p r q) = result_output c l none_value false r h
move_output c l h m e (unsure_result v p r k q q') = result_output c l v false r h
move_output c l h m e (centre_output r o) = λ _. inl (refl, by_zero r)
move_output c l h m e (sure_entry r n s) = h
move_output c l h m e (unsure_entry r n s) = h
move_output c l h m e (centre_message r t) = told_output_by c l m refl refl r refl h
move_output c l h m e (sided_entry k r n x y q) = h
move_output c l h m e (told_output q o) = λ _. inl (refl, by_messages q)
move_output c l h m e (next_output_lem r o x) = λ _. inr (refl, r)

-- the next level's output, once there, stays
pub record Later (c c' : Context) : Type 0 where
  pub same : Same c c'
  pub output : (c.next_output ≡ no_output → ⊥) → c'.next_output ≡ c.next_output

pub output_later : (c c' : Context) (l : Level) → Later c c' → OutputBy c l → OutputBy c' l
output_later c c' l a h p = go (h p)
  where
    by : CentreBy c l → CentreBy c' l
    by (by_zero x) = by_zero x
    by (by_none x) = by_none x
    by (by_messages x) = by_messages (subst (λ (t : ℕ). T (at_least (t + 1) (senders l Centre))) a.same.t x)

    go : OutputFrom c l → OutputFrom c' l
    go (inl x) = inl (x.0 ∙ a.same.centre, by x.1)
    go (inr x) = inr (x.0 ∙ sym (a.output (λ e. p (x.0 ∙ e))), x.1)

pub lowest_output : (c c' : Context) (l : Level) → Later c c' → OutputBy c l → OutputBy c' (lowest_rule c l).level
lowest_output c c' l a h = output_later c c' (lowest_rule c l).level a (lowest_all c l (λ m e. OutputBy c m) (λ _. h) (move_output c l h))

pub output_heard : (c : Context) (l : Level) (b : Body) (s : ℕ) → s < c.n → Heard c.n l → OutputBy c l → OutputBy c (with_heard l b s)
unfolding with_heard
output_heard c l b s k q h p = go (h p)
  where
    by : CentreBy c l → CentreBy c (with_heard l b s)
    by (by_zero x) = by_zero x
    by (by_none x) = by_none x
    by (by_messages x) = by_messages (more_senders c l (with_heard l b s) q (heard_keeps c.n l b s k q) (grows_heard l b s).heard (weak c) Centre x)

    go : OutputFrom c l → OutputFrom c (with_heard l b s)
    go (inl x) = inl (x.0, by x.1)
    go (inr x) = inr x

-- where no rule applies a result none has told the centre, and its output is there
pub rest_none : (c : Context) (l : Level) → Law c l → AtRest c l → l.result ≡ none_value → Answered l
rest_none c l h r e = (h.told (r.centre_message e)).1
