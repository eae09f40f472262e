-- A start, and a message taken: the party to which rules are then applied, as the code stores its parts.
use mathlib.Core.Path.{◌≡◌, sym, ap, ◌∙◌, subst}
use mathlib.Core.Bool.{Bool, true, false}
use mathlib.Core.List.{List}
use Prim.Native.Nat.{ℕ, ◌+◌, ◌*◌, ◌<◌}
use native.Mathlib.Omega.{arith}
use lib.Dec.{T}
use lib.ListN.{length, get_or, set}
use Rattle.base.specs.Pick.{pick}
use Rattle.base.specs.Limits.{max_boards, level_count}
use Rattle.base.proofs.Bools.{true→T, false→not-T}
use Rattle.plan.specs.Plan.{Plan}
use Rattle.plan.specs.Valid.{plan_valid}
use Rattle.plan.specs.Tie.{as_plan}
use Rattle.component.specs.declared.Component.{Component}
use Rattle.component.specs.Component.{whole_of}
use Rattle.component.specs.Inner.{Lent, Enterable, Holds}
use Rattle.component_laws.proofs.Laws.{whole_plan, whole_in}
use Rattle.message.specs.declared.Message.{Message}
use Rattle.message.specs.Message.{in_table}
use Rattle.message.proofs.RoundTrip.{table_parts}
use Rattle.senders.specs.Senders.{is_in, with_sender}
use Rattle.level_counts.proofs.Slots.{slot_lt}
use Rattle.level.specs.declared.Level as CodeLevel
use Rattle.level.specs.Level.{slot_count, slot}
use Rattle.level.specs.Inner.{no_code_level}
use Rattle.party.specs.declared.Chart.{Chart}
use Rattle.party.specs.declared.Party as Code
use Rattle.party.specs.Party.{Party, entered, started, held_by, hearing}
use Rattle.party.specs.Run.{resting, run, starting, taking}
use Rattle.party.specs.Valid.{party_valid}
use Rattle.party.specs.Inner.{Charts, set_count}
use Rattle.party.specs.Tie.{vote_of, as_party, sets_at}
use Rattle.party.proofs.Ties.{length_tied, level_in, put_in, held_in, hearing_in}
use Rattle.party_laws.proofs.Laws.{Formed, valid→, entry_whole, formed_entered, formed_hearing}
use Rattle.party_step.specs.Inner.{Enters}
use Rattle.party_step.proofs.Entries.{holds_enterable}
use Rattle.party_step.proofs.Charts.{charts_hearing, new_charted, entered_charts, entered_party}
use Rattle.party_run.specs.Inner.{Ready}
use Rattle.party_run.proofs.Parts.{with_levels, with_sets}
use Rattle.party_bounds.proofs.Laws.{Sized}
use Rattle.party_bounds.proofs.Sized.{sized_entered, sized_hearing}

-- a valid party's plan, and how many boards there are
pub valid_plan : (p : Party) → T (party_valid p) → T (plan_valid p.plan)
valid_plan p v = (valid→ p v).plan

pub valid_sender : (p : Party) → T (party_valid p) → (s : ℕ) → s < p.n → s < max_boards
valid_sender p v s h = omega (arith, (valid→ p v).settings.most)

-- a party that is known by another name
ready_as : {p q : Party} {c : Chart} → p ≡ q → Sized p → Lent q.plan → Charts p c → Ready q c
ready_as {p} {q} {c} e z r h =
    let y : Sized q = subst Sized e z in
    record { valid = y.formed.valid; rows = r; charts = subst (λ (x : Party). Charts x c) e h }

-- the place of a message's set
pub taken_place : (m : Message) → in_table m ≡ true → (k : ℕ) → k ≡ slot_count * m.level + slot m.body → k < set_count
taken_place m t k at = omega (arith, (table_parts m t).0, slot_lt m.body (table_parts m t).1)

-- the whole plan as it is kept
pub whole_enterable : (plan : Plan) → T (plan_valid plan) → Lent plan → (d : Component) → Holds plan d (whole_of plan) → (x : ℕ) → x < plan.count → Enterable plan d x
whole_enterable plan v r d h x l = holds_enterable plan d (whole_of plan) h x (whole_plan plan v) (whole_in plan x l) r

module _ (q : Code.Party) (c : Chart) (z : Sized (as_party q)) (r : Ready (as_party q) c) where
  abbrev p : Party
  p = as_party q

  abbrev plan : Plan
  plan = as_plan q.plan

  w : Formed (as_party q)
  w = z.formed

  h : Charts (as_party q) c
  h = r.charts

  full : length q.levels ≡ level_count
  full = sym (length_tied slot_count q.levels q.sets) ∙ w.full

  -- ---- a start

  module _ (x : ℕ) (new : started (as_party q) ≡ false) (l : x < q.plan.count) (m : CodeLevel.Level) (after : Chart)
      (g : Enters (as_plan q.plan) (whole_of (as_plan q.plan)) (get_or q.levels 0 no_code_level) 0 x 0 c m after) where
    start_party : as_party (with_levels q (set q.levels 0 m)) ≡ entered (as_party q) x
    unfolding entered
    start_party =
        put_in (vote_of q) plan q.levels q.sets 0 m
        ∙ entered_party p 0 (whole_of plan) 0 x (sets_at q.sets 0) (get_or q.levels 0 no_code_level) (level_in (vote_of q) plan q.levels q.sets 0 (omega (arith, full))) c m after g

    formed : Formed (entered (as_party q) x)
    formed = formed_entered p w x (false→not-T new) l

    charts : length c.surveys ≡ level_count → Charts (entered (as_party q) x) after
    unfolding entered
    charts f =
        let at : c.sending ≡ 0 = omega (arith, new_charted p c h 0 (omega arith) new) in
        entered_charts p c 0 (whole_of plan) 0 x w h at new (entry_whole p 0 (whole_of plan) 0 x) (get_or q.levels 0 no_code_level) m after g formed f

    pub start_ready : length c.surveys ≡ level_count → Ready (as_party (with_levels q (set q.levels 0 m))) after
    start_ready f = ready_as (sym start_party) (record { formed = formed; echoes = (sized_entered p z x (false→not-T new) l).echoes }) r.rows (charts f)

    pub start_runs : starting (as_party q) x ≡ run (as_party (with_levels q (set q.levels 0 m)))
    unfolding starting
    start_runs = ap run (sym start_party)

  -- ---- a message taken, whose set of senders lies at k

  module _ (sender : ℕ) (m : Message) (below : sender < q.n) (t : in_table m ≡ true) (k : ℕ) (at : k ≡ slot_count * m.level + slot m.body) where
    level : m.level < length q.levels
    level = omega (arith, (table_parts m t).0, full)

    pub taken_held : (b : Bool) → b ≡ is_in (get_or q.sets k 0) sender → held_by (as_party q) sender m ≡ b
    taken_held b e = held_in (vote_of q) plan q.levels q.sets m t level sender ∙ ap (λ (j : ℕ). is_in (get_or q.sets j 0) sender) (sym at) ∙ sym e

    module _ (n : ℕ) (e : n ≡ with_sender (get_or q.sets k 0) sender) where
      taken_party : as_party (with_sets q (set q.sets k n)) ≡ hearing (as_party q) sender m
      taken_party =
          ap (λ (j : ℕ). as_party (with_sets q (set q.sets k j))) e ∙ ap (λ (j : ℕ). as_party (with_sets q (set q.sets j (with_sender (get_or q.sets j 0) sender)))) at
          ∙ hearing_in (vote_of q) plan q.levels q.sets m t level sender

      pub taken_ready : Ready (as_party (with_sets q (set q.sets k n))) c
      taken_ready = ready_as (sym taken_party) (sized_hearing p z sender m below (true→T t)) r.rows (charts_hearing p c sender m h)

      pub taken_runs : held_by (as_party q) sender m ≡ false → taking (as_party q) sender m ≡ run (as_party (with_sets q (set q.sets k n)))
      unfolding taking
      taken_runs f = ap (λ (b : Bool). pick b (resting p) (run (hearing p sender m))) f ∙ ap run (sym taken_party)
