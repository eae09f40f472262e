-- A level at which all sound boards that send are over one component: rules 1 to 8 among them.
use mathlib.Core.Path.{◌≡◌, refl, sym, ◌∙◌, subst}
use mathlib.Core.Logic.{◌⊎◌, inl, inr}
use mathlib.Core.Bool.{Bool, true, false}
use Prim.Native.Nat.{ℕ, ◌≤◌, ◌<◌}
use native.Mathlib.Omega.{arith}
use lib.Dec.{T}
use Rattle.base.specs.Sets.{Set, Sound}
use Rattle.base.specs.Limits.{level_count}
use Rattle.base.proofs.Bools.{T-dec}
use Rattle.plan.specs.Plan.{Plan}
use Rattle.component.specs.Component.{degree_of, port_of}
use Rattle.message.specs.declared.Body.{Body}
use Rattle.message.specs.declared.Body.TheVariants.{SecondEcho}
use Rattle.message.specs.declared.Message.{Message}
use Rattle.message.specs.Message.{none_value}
use Rattle.level_laws.specs.Inner.{SentIn}
use Rattle.level_laws.proofs.Messages.{untouched_sent, result_low}
use Rattle.graded_levels.specs.Inner.{board_at, Own, Shows}
use Rattle.graded_levels.proofs.Board.{shown_own, shown_done, silent_own, justified, settled}
use Rattle.party.specs.Party.{Party, level_at, component_of, sending, context_of}
use Rattle.party_laws.proofs.Laws.{sending_entered}
use Rattle.graded_consensus.specs.Inner.{Setting, View, Fair, Justified, Settled}
use Rattle.graded_consensus.proofs.First.{SoundPort, Differ as Apart}
use Rattle.graded_consensus.proofs.Laws as grades
use Rattle.vote_machine.specs.Machine.{Heard, Sent}
use Rattle.vote_machine.proofs.Laws.{valued, at_rest}
use Rattle.descent.specs.Inner.{Ported, Differ, Graded}
use Rattle.log_agreement.proofs.Joint.{Joint}
use Rattle.log_agreement.proofs.Views.{plan_shape, EnteredAt, ResultAt, NoneAt, levels_of, setting_of, view_of, degree_limit, context_n, context_t, context_degree, context_port}

module _ {n t agreement : ℕ} {plan : Plan} {bad : Set} {st : ℕ → Party} (J : Joint n t agreement plan bad st)
    (L : ℕ) (low : L < level_count) (S : Set) (same : (i : ℕ) → Sound n bad i → T (sending (st i) L) → component_of (st i) L ≡ S) where
  abbrev G : Setting
  G = setting_of n t plan bad S

  abbrev B : View
  B = view_of st L

  abbrev values : degree_of plan S < none_value
  values = omega (arith, degree_limit plan J.passes.valid S)

  -- the level's degree is that of the component
  degree_here : (i : ℕ) → Sound n bad i → T (sending (st i) L) → (context_of (st i) L).degree ≡ degree_of plan S
  degree_here i g on = context_degree (st i) (J.seated i) L ∙ (λ z. degree_of plan (same i g on z))

  port_here : (i : ℕ) → Sound n bad i → T (sending (st i) L) → (context_of (st i) L).port ≡ port_of plan S (level_at (st i) L).position
  port_here i g on = context_port (st i) (J.seated i) L ∙ (λ z. port_of plan (same i g on z) (level_at (st i) L).position)

  -- a board that sends is as its record and context say
  shows : (i : ℕ) → Sound n bad i → T (sending (st i) L) → Shows G B i (context_of (st i) L) (level_at (st i) L)
  shows i g on = record {
    n = sym (context_n (st i) (J.seated i) L);
    t = sym (context_t (st i) (J.seated i) L);
    d = sym (degree_here i g on);
    K = refl;
    port = refl;
    heard = refl;
    sent = refl;
    first = refl;
    result = refl;
    sure = refl;
  }

  -- where a board does not send it has made nothing
  sender_in : (i : ℕ) (b : Body) → Sound n bad i → SentIn (context_of (st i) L) (level_at (st i) L) b → T (sending (st i) L)
  sender_in i b g s = go (T-dec (sending (st i) L))
    where
      go : Dec (T (sending (st i) L)) → T (sending (st i) L)
      go (yes on) = on
      go (no off) = absurd (untouched_sent (context_of (st i) L) (level_at (st i) L) ((J.inv i).regular.untouched L low off) b s)

  -- so what each board's state rests on
  own : (i : ℕ) → Sound n bad i → Own (board_at G B i)
  own i g = go (T-dec (sending (st i) L))
    where
      go : Dec (T (sending (st i) L)) → Own (board_at G B i)
      go (yes on) =
          shown_own G B i (context_of (st i) L) (level_at (st i) L) (shows i g on)
          (valued (st i) (J.inv i).regular.formed L (sending_entered (st i) L on)) ((J.inv i).regular.law L on)
      go (no off) =
          let u = (J.inv i).regular.untouched L low off in
          silent_own (board_at G B i) values (untouched_sent (context_of (st i) L) (level_at (st i) L) u) u.first u.result

  pub fair : Fair G
  fair = record {
    third = J.passes.faults;
    few = J.few;
    bits = omega (arith, degree_limit plan J.passes.valid S);
    values = values;
  }

  -- and all of it
  pub level_justified : Justified G B
  level_justified =
      justified G B
      (λ i j b si sj h. (J.authentic i j (record { number = agreement; level = L; body = b }) sj (record { number = sym (J.seated i).number; body = h })).body)
      (λ i g on. omega (arith, degree_here i g on, (valued (st i) (J.inv i).regular.formed L (sending_entered (st i) L on)).port))
      sender_in
      (λ i w g s. let r = J.origin i L w g (sender_in i (SecondEcho w) g s) s in (r.0, r.1, r.3))
      own

  -- ---- in the words of crate descent

  -- a result that is a value is at most the degree
  result_here : (i v : ℕ) (a : Bool) → Sound n bad i → ResultAt (st i) L v a → (level_at (st i) L).result ≤ degree_of plan S
  result_here i v a g r =
      omega (
        arith,
        degree_here i g r.sends,
        result_low (context_of (st i) L) (level_at (st i) L) ((J.inv i).regular.law L r.sends) (omega (arith, r.result, r.value)),
      )

  entered_here : (i : ℕ) → Sound n bad i → T (sending (st i) L) → EnteredAt (st i) L S (level_at (st i) L).position
  entered_here i g on = record { entered = sending_entered (st i) L on; over = sym (same i g on); place = refl }

  differ_here : Apart G B → Differ (plan_shape plan) (levels_of plan st) n bad L S
  differ_here (j, k, gj, gk, ej, ek, d) = record {
    one = j;
    two = k;
    place = (level_at (st j) L).position;
    other = (level_at (st k) L).position;
    sound = gj;
    sound' = gk;
    entered = entered_here j gj ej;
    entered' = entered_here k gk ek;
    apart = λ e. d (port_here j gj ej ∙ e ∙ sym (port_here k gk ek));
  }

  ported_here : (v : ℕ) → SoundPort G B v → Ported (plan_shape plan) (levels_of plan st) n bad L S v
  ported_here v (j, g, e, p) = record {
    board = j;
    place = (level_at (st j) L).position;
    sound = g;
    entered = entered_here j g e;
    port = sym (port_here j g e) ∙ p;
  }

  pub level_graded : Graded (plan_shape plan) (levels_of plan st) n bad L S
  level_graded = record {
    agree = λ i j v w a b si sj r q.
        sym r.result ∙ grades.agree fair level_justified i j si sj (result_here i v a si r) (result_here j w b sj q) ∙ q.result;
    unsure = λ i j v si sj r q. bits (sym r.grade ∙ grades.weak fair level_justified i j si sj (result_here i v true si r) q.result);
    port = λ i v a g r.
        ported_here v (subst (SoundPort G B) r.result (grades.port_of_lem fair level_justified i g (result_here i v a g r)));
    mixed = λ i v g r. differ_here (grades.differ fair level_justified i g (inl (result_here i v false g r, r.grade)));
    split = λ i g r. differ_here (grades.differ fair level_justified i g (inr r.result));
  }
    where
      bits : true ≡ false → ⊥
      bits e = subst T e tt

  -- ---- once no rule applies and everything is taken

  module _ (delivered : (i j : ℕ) (m : Message) → Sound n bad i → Sound n bad j → Sent (st j) m → Heard (st i) j m) where
    level_settled : Settled G B
    level_settled =
        settled G B
        (λ i j b si sj s.
        (delivered i j (record { number = agreement; level = L; body = b }) si sj (record { number = sym (J.seated j).number; sends = sender_in j b sj s; body = s })).body)
        (λ i g on.
        shown_done G B i (context_of (st i) L) (level_at (st i) L) (shows i g on)
        (valued (st i) (J.inv i).regular.formed L (sending_entered (st i) L on)) ((J.inv i).regular.law L on) (at_rest (st i) (J.inv i) L on))

    -- every sound board has a result, if all send here
    pub level_result : ((i : ℕ) → Sound n bad i → T (sending (st i) L)) → (i : ℕ) → Sound n bad i → ((v : ℕ) × (a : Bool) × ResultAt (st i) L v a) ⊎ NoneAt (st i) L
    level_result all i g = go (level_justified.result_value i g (grades.live fair level_justified level_settled all i g))
      where
        go : ((level_at (st i) L).result ≤ degree_of plan S) ⊎ ((level_at (st i) L).result ≡ none_value) → ((v : ℕ) × (a : Bool) × ResultAt (st i) L v a) ⊎ NoneAt (st i) L
        go (inl k) =
            inl ((level_at (st i) L).result, (level_at (st i) L).sure, record { sends = all i g; result = refl; value = omega (arith, values); grade = refl })
        go (inr e) = inr (record { sends = all i g; result = e })
