-- A new party passes question 19, and a message taken and a start keep it.
use mathlib.Core.Path.{◌≡◌, refl, sym, ap, subst}
use mathlib.Core.Logic.{inl, inr}
use mathlib.Core.Bool.{Bool}
use Prim.Native.Nat.{ℕ, ◌^◌, ◌≤◌, ◌<◌}
use native.Mathlib.Omega.{arith}
use lib.Dec.{T, leb, leb→le}
use lib.ListN.{length, get_or, get_or-replicate}
use Rattle.base.specs.Limits.{level_count}
use Rattle.base.proofs.Bools.{T-left}
use Rattle.plan.specs.Plan.{Plan}
use Rattle.plan.specs.Valid.{plan_valid}
use Rattle.component.specs.Component.{whole_of, degree_of}
use Rattle.component_laws.proofs.Laws.{whole_in}
use Rattle.message.specs.declared.Body.{Body}
use Rattle.message.specs.declared.Message.{Message}
use Rattle.message.specs.Message.{in_table, body_in_table, last_level}
use Rattle.senders.specs.Senders.{with_sender}
use Rattle.senders.proofs.Laws.{with_lt}
use Rattle.level.specs.Level.{Level, no_level, blank_level, senders, slot, with_heard}
use Rattle.level_laws.proofs.Law.{blank_heard}
use Rattle.level_laws.proofs.Grows.{store_cases}
use Rattle.party.specs.Party.{Party, new_party, level_at, component_of, sending, entered, started, hearing}
use Rattle.party.specs.Valid.{settings_pass}
use Rattle.party_laws.proofs.Levels.{entry_level, entry_whole}
use Rattle.party_laws.proofs.Valid.{Contents, Valid, settings→}
use Rattle.party_laws.proofs.Updates.{SameEntry, update_valid, enter_valid}

-- ---- a party that has not started

pub new_level : (n t own a : ℕ) (plan : Plan) (i : ℕ) → i < level_count → level_at (new_party n t own a plan) i ≡ blank_level
unfolding level_at
new_level n t own a plan i h = get_or-replicate level_count i blank_level no_level h

pub new_valid : (n t own a : ℕ) (plan : Plan) → T (settings_pass (new_party n t own a plan)) → T (plan_valid plan) → Valid (new_party n t own a plan)
new_valid n t own a plan s h = record {
  settings = settings→ (new_party n t own a plan) s;
  plan = h;
  holds = λ i l.
      subst (Contents n plan.count (degree_of plan (component_of p i)) (sending p i)) (sym (new_level n t own a plan i l))
      (blank (degree_of plan (component_of p i)) (sending p i));
  place = λ i l e. absurd (subst (λ (m : Level). T m.entered) (new_level n t own a plan i l) e);
}
  where
    p : Party
    p = new_party n t own a plan

    blank : (d : ℕ) (b : Bool) → Contents n plan.count d b blank_level
    blank d b = record { sets = (blank_heard n).below; output = inl refl; results = λ _. (inr (inr refl), inr (inr refl)); blank = λ _. (refl, refl) }

-- ---- a message is taken

contents_heard : (n count d : ℕ) (b : Bool) (l : Level) → Contents n count d b l → (m : Body) (s : ℕ) → s < n → Contents n count d b (with_heard l m s)
unfolding with_heard senders
contents_heard n count d b l c m s h = record {
  sets = λ j.
      store_cases l.sets (slot m) j (with_sender (get_or l.sets (slot m) 0) s) (λ x. x < 2 ^ n) (c.sets j)
      (λ _. with_lt n (get_or l.sets (slot m) 0) s (c.sets (slot m)) h);
  output = c.output;
  results = c.results;
  blank = c.blank;
}

heard_entry : (l : Level) (m : Body) (s : ℕ) → SameEntry l (with_heard l m s)
unfolding with_heard
heard_entry l m s = record { entered = refl; side = refl; position = refl }

-- a message of the table is for a level of the party
pub table_level : (m : Message) → T (in_table m) → m.level < level_count
table_level m h = let l : m.level ≤ last_level = leb→le m.level last_level (T-left (leb m.level last_level) (body_in_table m.body) h) in omega arith

pub hearing_valid : (p : Party) → Valid p → length p.levels ≡ level_count → (s : ℕ) (m : Message) → s < p.n → T (in_table m) → Valid (hearing p s m)
unfolding hearing
hearing_valid p v full s m h k =
    let i : ℕ = m.level in
    let l : i < level_count = table_level m k in
    update_valid p v i (with_heard (level_at p i) m.body s) (omega arith) (heard_entry (level_at p i) m.body s)
    (contents_heard p.n p.plan.count (degree_of p.plan (component_of p i)) (sending p i) (level_at p i) (v.holds i l) m.body s h)

-- ---- a start

pub entered_valid : (p : Party) → Valid p → length p.levels ≡ level_count → (x : ℕ) → (T (started p) → ⊥) → x < p.plan.count → Valid (entered p x)
unfolding entered
entered_valid p v full x new h =
    enter_valid p v full 0 (whole_of p.plan) 0 x (omega arith) new (entry_whole p 0 (whole_of p.plan) 0 x)
    (ap (λ (l : Level). l.side) (entry_level p 0 (whole_of p.plan) 0 x (omega arith))) h (whole_in p.plan x h)
