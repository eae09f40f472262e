-- Demand 2: "A range of at most 255 readings behaves, position for position, as the same path given as a tree numbered along it."
-- Theorem. Let s be the bytes of a range of at most 255 readings, and s' those of the tree whose edges are the path's, in any order and direction:
-- they are read as plans r and q of as many positions, of which the same are neighbours (`bytes`). Then every component has on both the same size,
-- centre, degree, ports, neighbours and sides (`geometry`). Two parties with the same settings and levels, one on r and one on q, answer question 19
-- alike, see the same at every level, and apply as many rules, the same ones in the same order, with the same messages, to two such parties (`rules`).
-- Every call on them, with inputs of the same position, is refused with the same number and place, or writes the same bytes into both buffers, gives
-- the same numbers and leaves two such parties; a reading gives reading low + x of the range and vertex x of the tree, for the same x; set-up and
-- restore on s and s' do likewise (`behaviour`). So it is after any list of calls (`script`), and from the set-up on (`votes`).
use mathlib.Core.Path.{◌≡◌, refl, sym, subst₂}
use mathlib.Core.Logic.{◌↔◌}
use mathlib.Core.List.{List, ◌++◌}
use Prim.Native.Nat.{ℕ, ◌≤◌}
use native.Mathlib.Omega.{arith}
use lib.ListN.{length}
use Rattle.base.specs.Limits.{max_vertices}
use Rattle.base.specs.Sets.{Set}
use Rattle.base.specs.Verdict.{Verdict}
use Rattle.varint.specs.Varint.{varint_bytes}
use Rattle.tree.specs.Edges.{Edges}
use Rattle.base.specs.Found.{Found, found}
use Rattle.plan.specs.Plan.{Plan}
use Rattle.plan.specs.Reading.{plan_of}
use Rattle.plan.specs.Bytes.{edge_bytes}
use Rattle.component.specs.Component.{size_of, centre_of, degree_of, port_of, neighbour_of, side_of}
use Rattle.message.specs.declared.Message.{Message}
use Rattle.journal.specs.declared.Record.{Record}
use Rattle.party.specs.Party.{Party, level_at, component_of, sending, context_of, entered, held_by, hearing, output_of}
use Rattle.party.specs.Run.{rule_at, open_at, open_level, step_at, run_up_to, run, starting, taking}
use Rattle.party.specs.Valid.{party_valid}
use Rattle.party_life.specs.Life.{lived, Life}
use Rattle.board_calls.specs.Calls.{SetUp, set_up_of, start_questions, take_questions}
use Rattle.board_calls.specs.Restore.{restore_questions}
use Rattle.range_as_path.specs.Twin.{PathListed, TwinPlans, TwinParties, TwinRan, TwinFound, both, TwinSetUp, set_up, not_set_up, TwinBytes, SameBehaviour}
use Rattle.range_as_path.specs.Script.{Ask, Desk, after, TwinDesks, SameNext}
use Rattle.range_as_path.proofs.Geometry.{twin_alike, alike_size, alike_centre, alike_degree, alike_port, alike_neighbour, alike_side}
use Rattle.range_as_path.proofs.Twins.{
  twin_level,
  twin_component,
  twin_sending,
  twin_context,
  twin_rule,
  twin_open,
  twin_lowest,
  twin_held,
  twin_output,
  twin_valid,
  twin_step,
  twin_entered,
  twin_hearing,
  twin_runs,
  twin_run,
  twin_starting,
  twin_taking,
  twin_lived,
  twin_life,
}
use Rattle.range_as_path.proofs.Positions.{twin_input}
use Rattle.range_as_path.proofs.Calls.{twin_start, twin_take, twin_call, twin_answered}
use Rattle.range_as_path.proofs.Restores.{twin_set_up_lem, twin_restore, twin_restored}
use Rattle.range_as_path.proofs.Scripts.{twin_script}
use Rattle.range_as_path.proofs.Bytes.{twin_bytes}

-- ---- the plans

-- a range of at most so many readings, and the bytes of the tree of the path's edges
pub bytes : (s : List ℕ) (r : Plan) → plan_of s ≡ found r → r.kind ≡ 2 → r.count ≤ max_vertices → (E : Edges) → PathListed r.count E
    → TwinBytes s (varint_bytes 1 ++ (varint_bytes r.count ++ edge_bytes E))
bytes s r e k l E h = twin_bytes s r e k l E h.numbered h.many

-- ---- the geometry

pub record SameGeometry (r q : Plan) (S : Set) : Type 0 where
  pub size : size_of r S ≡ size_of q S
  pub centre : centre_of r S ≡ centre_of q S
  pub degree : degree_of r S ≡ degree_of q S
  pub port : (x : ℕ) → port_of r S x ≡ port_of q S x
  pub neighbour : (k : ℕ) → neighbour_of r S k ≡ neighbour_of q S k
  pub side : (k : ℕ) → side_of r S k ≡ side_of q S k

pub geometry : (r q : Plan) → TwinPlans r q → (S : Set) → SameGeometry r q S
geometry r q w S =
    let a = twin_alike r q w in
    record {
      size = alike_size r q a S;
      centre = alike_centre r q a S;
      degree = alike_degree r q a S;
      port = alike_port r q a S;
      neighbour = alike_neighbour r q a S;
      side = alike_side r q a S;
    }

-- ---- the rules

pub record SameRules (p p' : Party) : Type 0 where
  pub valid : party_valid p ≡ party_valid p'
  pub level : (i : ℕ) → level_at p i ≡ level_at p' i
  pub component : (i : ℕ) → component_of p i ≡ component_of p' i
  pub sends : (i : ℕ) → sending p i ≡ sending p' i
  pub context : (i : ℕ) → context_of p i ≡ context_of p' i
  pub rule : (i : ℕ) → rule_at p i ≡ rule_at p' i
  pub applies : (i : ℕ) → open_at p i ≡ open_at p' i
  pub lowest : open_level p ≡ open_level p'
  pub held : (s : ℕ) (m : Message) → held_by p s m ≡ held_by p' s m
  pub output : output_of p ≡ output_of p'
  pub step : (i : ℕ) → TwinParties (step_at p i) (step_at p' i)
  pub enters : (x : ℕ) → TwinParties (entered p x) (entered p' x)
  pub hears : (s : ℕ) (m : Message) → TwinParties (hearing p s m) (hearing p' s m)
  pub some_rules : (f : ℕ) → TwinRan (run_up_to f p) (run_up_to f p')
  pub all_rules : TwinRan (run p) (run p')
  pub starts : (x : ℕ) → TwinRan (starting p x) (starting p' x)
  pub takes : (s : ℕ) (m : Message) → TwinRan (taking p s m) (taking p' s m)
  pub lives : (rs : List Record) → TwinRan (lived p rs) (lived p' rs)
  pub life : (rs : List Record) → Life p rs ↔ Life p' rs

pub rules : (p p' : Party) → TwinParties p p' → SameRules p p'
rules p p' w = record {
  valid = twin_valid p p' w;
  level = twin_level p p' w;
  component = twin_component p p' w;
  sends = twin_sending p p' w;
  context = twin_context p p' w;
  rule = twin_rule p p' w;
  applies = twin_open p p' w;
  lowest = twin_lowest p p' w;
  held = twin_held p p' w;
  output = twin_output p p' w;
  step = twin_step p p' w;
  enters = twin_entered p p' w;
  hears = twin_hearing p p' w;
  some_rules = twin_runs p p' w;
  all_rules = twin_run p p' w;
  starts = twin_starting p p' w;
  takes = twin_taking p p' w;
  lives = twin_lived p p' w;
  life = twin_life p p' w;
}

-- ---- the calls

-- what twin bytes give
twin_found : (s s' : List ℕ) → TwinBytes s s' → TwinFound TwinPlans (plan_of s) (plan_of s')
twin_found s s' b = subst₂ (λ (x y : Found Plan). TwinFound TwinPlans x y) (sym b.read) (sym b.read') (both b.twins)

pub behaviour : SameBehaviour
behaviour = record {
  set_up = λ s s' b n t own agreement. twin_set_up_lem n t own agreement s s' (twin_found s s' b);
  inputs = twin_input;
  start = λ p p' w z z' e j used out.
      twin_call p p' w j used out (start_questions p z (length j) used (length out)) (start_questions p' z' (length j) used (length out))
      (twin_start p p' w (length j) used z z' e (length out));
  take = λ p p' w sender bytes j used out.
      twin_call p p' w j used out (take_questions p sender bytes (length j) used (length out)) (take_questions p' sender bytes (length j) used (length out))
      (twin_take p p' w (length j) used sender bytes (length out));
  answer = twin_answered;
  restore = λ s s' b n t own agreement j out.
      twin_restored out (restore_questions n t own agreement s j (length out)) (restore_questions n t own agreement s' j (length out))
      (twin_restore n t own agreement s s' (twin_found s s' b) j (length out));
}

-- ---- lists of calls

pub script : (asks : List Ask) (d d' : Desk) → TwinDesks d d' → SameNext (after d asks) (after d' asks)
script = twin_script

-- a party just set up, and an empty journal in the lent bytes j
abbrev pub from_set_up : SetUp → List ℕ → Desk
from_set_up u j = record { party = u.party; journal = j; used = 0 }

-- from a set-up that is accepted on s, and so on s', the same calls by positions give twins, call for call
pub votes : (s s' : List ℕ) → TwinBytes s s' → (n t own agreement : ℕ) (j : List ℕ) → (set_up_of n t own agreement s).verdict ≡ Verdict.Accepted
    → (asks : List Ask) → SameNext (after (from_set_up (set_up_of n t own agreement s) j) asks) (after (from_set_up (set_up_of n t own agreement s') j) asks)
votes s s' b n t own agreement j e asks = go (set_up_of n t own agreement s) (set_up_of n t own agreement s') (behaviour.set_up s s' b n t own agreement) e
  where
    go : (u u' : SetUp) → TwinSetUp u u' → u.verdict ≡ Verdict.Accepted → SameNext (after (from_set_up u j) asks) (after (from_set_up u' j) asks)
    go u u' (set_up {p = p} {p' = p'} w) e =
        script asks (record { party = p; journal = j; used = 0 }) (record { party = p'; journal = j; used = 0 }) (record { party = w; journal = refl; used = refl })
    go u u' not_set_up e = let z : ◌≡◌ {A = ℕ} 0 1 = cc in absurd (omega arith)
