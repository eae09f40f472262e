-- Rules one after another: what holds between two of them, and what the end gives.
use mathlib.Core.Path.{◌≡◌, refl, sym, ap, ◌∙◌, subst}
use mathlib.Core.Bool.{Bool}
use mathlib.Core.List.{List, [], ◌∷◌, ◌++◌, append_assoc, append-nil}
use Prim.Native.Nat.{ℕ, zero, suc, ◌+◌, ◌-◌, ◌≤◌, ◌<◌}
use native.Mathlib.Nat.{zero-add, add-zero}
use native.Mathlib.Omega.{arith}
use lib.Dec.{T, ltb, lt→ltb}
use lib.ListN.{length, length-append}
use Rattle.base.specs.Pick.{pick}
use Rattle.base.specs.Put.{put_at}
use Rattle.base.specs.Limits.{last_level, level_count, max_rules}
use Rattle.base.proofs.Bools.{T→true}
use Rattle.base.proofs.Puts.{put_none, length_put, then_put}
use Rattle.message.specs.declared.Message.{Message}
use Rattle.message.specs.Message.{message_bytes}
use Rattle.party.specs.Party.{Party}
use Rattle.party.specs.declared.Chart.{Chart}
use Rattle.party.specs.Run.{Ran, open_at, open_level, rule_at, made_by, step_at, resting, one_more, run_up_to, run, bytes_of}
use Rattle.party.specs.Inner.{Charts}
use Rattle.party_bounds.proofs.Laws.{Sized, sized_step, rules_left, rules_most, step_rules, open_last}
use Rattle.party_step.proofs.Openings.{Closed, closed_open}
use Rattle.party_run.specs.Inner.{Room, Gives}

-- ---- bytes

pub bytes_none : bytes_of [] ≡ []
unfolding bytes_of
bytes_none = refl

pub bytes_append : (a b : List Message) → bytes_of (a ++ b) ≡ bytes_of a ++ bytes_of b
unfolding bytes_of
bytes_append [] b = refl
bytes_append (m ∷ a) b = ap (λ (x : List ℕ). message_bytes m ++ x) (bytes_append a b) ∙ sym (append_assoc (message_bytes m) (bytes_of a) (bytes_of b))

pub bytes_length : (a b : List Message) → length (bytes_of (a ++ b)) ≡ length (bytes_of a) + length (bytes_of b)
bytes_length a b = ap length (bytes_append a b) ∙ length-append (bytes_of a) (bytes_of b)

-- ---- runs

-- k rules with these messages before r
abbrev pub after : ℕ → List Message → Ran → Ran
after k ms r = record { party = r.party; rules = k + r.rules; made = ms ++ r.made }

-- no rule is left
pub run_stop : (f : ℕ) (q : Party) → open_level q ≡ level_count → run_up_to f q ≡ resting q
unfolding run_up_to
run_stop zero q e = refl
run_stop (suc f) q e =
    ap (λ (x : ℕ). pick (ltb x level_count) (one_more (made_by q.agreement (open_level q) (rule_at q (open_level q)).effect) (run_up_to f (step_at q (open_level q)))) (resting q)) e

-- one rule more
run_on : (f : ℕ) (q : Party) (i : ℕ) → open_level q ≡ i → i < level_count → run_up_to (suc f) q ≡ one_more (made_by q.agreement i (rule_at q i).effect) (run_up_to f (step_at q i))
unfolding run_up_to
run_on f q i e l =
    ap (λ (j : ℕ). pick (ltb j level_count) (one_more (made_by q.agreement j (rule_at q j).effect) (run_up_to f (step_at q j))) (resting q)) e
    ∙ ap (λ (b : Bool). pick b (one_more (made_by q.agreement i (rule_at q i).effect) (run_up_to f (step_at q i))) (resting q)) (T→true (ltb i level_count) (lt→ltb i level_count l))

-- ---- between two rules

-- so many rules led from p to q with its chart; their messages are written from a place on
pub record Going (p : Party) (from : ℕ) (before : List ℕ) (q : Party) (d : Chart) (out : List ℕ) (sent rules : ℕ) : Type 0 where
  pub sized : Sized q
  pub charts : Charts q d
  pub left : rules + rules_left (last_level + 1) q ≤ max_rules
  pub made : List Message
  pub state : run p ≡ after rules made (run_up_to (max_rules - rules) q)
  pub long : length out ≡ length before
  pub written : out ≡ put_at before from (bytes_of made)
  pub count : sent ≡ from + length (bytes_of made)

-- before the first rule
pub going_start : (p : Party) (from : ℕ) (before : List ℕ) (c : Chart) → Sized p → Charts p c → Going p from before p c before from 0
unfolding run
going_start p from before c z h = record {
  sized = z;
  charts = h;
  left = omega (arith, rules_most (last_level + 1) p);
  made = [];
  state = λ k. record { party = (run_up_to max_rules p).party; rules = sym (zero-add (run_up_to max_rules p).rules) k; made = (run_up_to max_rules p).made };
  long = refl;
  written = sym (ap (put_at before from) bytes_none ∙ put_none before from);
  count = omega (arith, ap length bytes_none);
}

module _ (p : Party) (from : ℕ) (before : List ℕ) (q : Party) (d : Chart) (out : List ℕ) (sent rules : ℕ) (g : Going p from before q d out sent rules) where
  -- no rule applies any more
  pub going_end : open_level q ≡ level_count → Gives (run p) from before (record { party = q; chart = d; rules = rules; sent = sent }) out
  going_end o =
      let s : run p ≡ after rules g.made (resting q) = g.state ∙ ap (after rules g.made) (run_stop (max_rules - rules) q o) in
      let m : (run p).made ≡ g.made = ap (λ (r : Ran). r.made) s ∙ append-nil g.made in
      record {
        party = sym (ap (λ (r : Ran). r.party) s);
        chart = g.charts;
        rules = sym (ap (λ (r : Ran). r.rules) s ∙ add-zero rules);
        sent = g.count ∙ ap (λ (ms : List Message). from + length (bytes_of ms)) (sym m);
        outgoing = g.written ∙ ap (λ (ms : List Message). put_at before from (bytes_of ms)) (sym m);
      }

  -- a rule at level i, the lowest at which one applies
  module _ (i : ℕ) (closed : Closed q i) (on : T (open_at q i)) where
    abbrev ms : List Message
    ms = made_by q.agreement i (rule_at q i).effect

    -- what comes after it
    abbrev rest : Ran
    rest = run_up_to (max_rules - (rules + 1)) (step_at q i)

    going_last : i ≤ last_level
    going_last = open_last q g.sized i on

    chosen : open_level q ≡ i
    chosen = closed_open q i (omega (arith, going_last)) closed on

    -- it is one of those that are left
    pub going_more : rules < max_rules
    going_more = omega (arith, g.left, step_rules q g.sized i on (last_level + 1) (omega (arith, going_last)))

    run_next : run_up_to (max_rules - rules) q ≡ one_more ms rest
    run_next =
        let f : max_rules - rules ≡ suc (max_rules - (rules + 1)) = omega (arith, going_more) in
        ap (λ (n : ℕ). run_up_to n q) f ∙ run_on (max_rules - (rules + 1)) q i chosen (omega (arith, going_last))

    -- the messages of the run: those so far, its own, and those to come
    all_made : (run p).made ≡ g.made ++ (ms ++ rest.made)
    all_made = ap (λ (r : Ran). r.made) (g.state ∙ ap (after rules g.made) run_next)

    module _ (room : Room (run p) from (length before)) where
      -- its message fits
      pub going_fits : sent + length (bytes_of (made_by q.agreement i (rule_at q i).effect)) ≤ length out
      going_fits =
          omega (
            arith,
            room,
            g.count,
            g.long,
            ap (λ (x : List Message). length (bytes_of x)) all_made,
            bytes_length g.made (ms ++ rest.made),
            bytes_length ms rest.made,
          )

      regroup : (r : Ran) → after rules g.made (one_more ms r) ≡ after (rules + 1) (g.made ++ ms) r
      regroup r =
          let a : rules + suc r.rules ≡ rules + 1 + r.rules = omega arith in
          λ k. record { party = r.party; rules = a k; made = sym (append_assoc g.made ms r.made) k }

      pub going_on : (q' : Party) (d' : Chart) (out' : List ℕ) (sent' : ℕ) → q' ≡ step_at q i → Charts q' d'
          → (ns : List Message) → ns ≡ made_by q.agreement i (rule_at q i).effect → sent' ≡ sent + length (bytes_of ns) → out' ≡ put_at out sent (bytes_of ns)
          → Going p from before q' d' out' sent' (rules + 1)
      going_on q' d' out' sent' eq ch ns en es eo =
          let el : length (bytes_of ns) ≡ length (bytes_of ms) = ap (λ (x : List Message). length (bytes_of x)) en in
          let eb : out' ≡ put_at out sent (bytes_of ms) = eo ∙ ap (λ (x : List Message). put_at out sent (bytes_of x)) en in
          let lr : rules_left (last_level + 1) q' ≡ rules_left (last_level + 1) (step_at q i) = ap (rules_left (last_level + 1)) eq in
          record {
            sized = subst Sized (sym eq) (sized_step q g.sized i on);
            charts = ch;
            left = omega (arith, g.left, step_rules q g.sized i on (last_level + 1) (omega (arith, going_last)));
            made = g.made ++ ms;
            state = g.state ∙ ap (after rules g.made) run_next ∙ regroup rest
                ∙ ap (λ (x : Party). after (rules + 1) (g.made ++ ms) (run_up_to (max_rules - (rules + 1)) x)) (sym eq);
            long = ap length eb ∙ length_put out sent (bytes_of ms) going_fits ∙ g.long;
            written =
                then_put before out out' from sent (bytes_of g.made) (bytes_of ms) (omega (arith, going_fits, g.count, g.long)) g.written g.count eb
                ∙ ap (put_at before from) (sym (bytes_append g.made ms));
            count = omega (arith, es, el, g.count, bytes_length g.made ms);
          }
