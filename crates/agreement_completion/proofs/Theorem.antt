-- From every allowed history further steps lead to a complete delivery, and so to an answer of every sound board.
use mathlib.Core.Path.{◌≡◌, sym, ap, ◌∙◌, subst}
use mathlib.Core.Logic.{◌⊎◌, inl, inr}
use mathlib.Core.List.Memᴰ
use mathlib.Core.List.{List, [], ◌++◌, map, Memᴰ}
use Prim.Native.Nat.{ℕ, suc, ◌+◌, ◌<◌}
use native.Mathlib.Omega.{arith}
use lib.ListN.{length}
use Rattle.std.specs.Prelude.{Ok}
use Rattle.base.specs.Sets.{Set}
use Rattle.plan.specs.Plan.{Plan}
use Rattle.plan.specs.Positions.{reading_of}
use Rattle.plan_laws.proofs.Shape.{shape}
use Rattle.message.specs.declared.Message.{Message}
use Rattle.message.specs.Reading.{Exactly, exact_message}
use Rattle.message.specs.Message.{message_bytes}
use Rattle.level.specs.Level.{no_output}
use Rattle.board_calls.specs.Answers.{position_of}
use Rattle.board_laws.proofs.Inputs.{reading_position}
use Rattle.agreement.specs.History.{Instance, StartInput, plain, History, board_after}
use Rattle.agreement.specs.Allowed.{Sound, Allowed}
use Rattle.agreement.specs.Starts.{Startable}
use Rattle.agreement.specs.Demand.{Took, Made, Complete, Shared, Premises}
use Rattle.agreement.proofs.Tied.{plan_valid_lem}
use Rattle.agreement.proofs.Words.{made_records, handed_made}
use Rattle.agreement.proofs.Since.{since_handed}
use Rattle.agreement.proofs.Theorem.{demand3}
use Rattle.agreement_completion.specs.Statement.{Completed, Completes, CompletedWith, CompletesWith, ComesThrough}
use Rattle.agreement_completion.proofs.Boards.{either, below, sound_below, over_sound}
use Rattle.agreement_completion.proofs.Keeping.{starts_before}
use Rattle.agreement_completion.proofs.Ways.{Way, at}
use Rattle.agreement_completion.proofs.Posted.{running_posted}
use Rattle.agreement_completion.proofs.Rising.{AllUp, all_up}
use Rattle.agreement_completion.proofs.Open.{Letter, letter, Posted, Open, left_of}
use Rattle.agreement_completion.proofs.Delivering.{posted_read, delivered}

-- ---- at first all that sound boards may hand over waits

-- the letters of the sound boards below k
record Letters (v : Instance) (bad : Set) (h : History) (k : ℕ) : Type 0 where
  letters : List Letter
  all : (j : ℕ) (m : Message) → j < k → Sound v bad j → Posted h j m → Memᴰ (letter j m) letters
  good : (l : Letter) → Memᴰ l letters → Sound v bad l.sender × Posted h l.sender l.message

module _ (v : Instance) (bad : Set) (h : History) where
  more_letters : (k : ℕ) → Sound v bad k → Letters v bad h k → Letters v bad h (suc k)
  more_letters k o r = record {
    letters = own ++ r.letters;
    all = λ j m l.
        either (λ (y : ℕ). Sound v bad y → Posted h y m → Memᴰ (letter y m) (own ++ r.letters)) k j
        (λ s x. Memᴰ.append_left r.letters (Memᴰ.map (letter k) x)) (λ e s x. Memᴰ.append_right own (r.all j m (below k j l e) s x));
    good = λ n x. good n (Memᴰ.append_cases own x);
  }
    where
      own : List Letter
      own = map (letter k) (board_after h k).outbox

      Good : Letter → Type 0
      Good n = Sound v bad n.sender × Posted h n.sender n.message

      good : (n : Letter) → Memᴰ n own ⊎ Memᴰ n r.letters → Good n
      good n (inl x) = let (m, y, e) = Memᴰ.of_map (letter k) (board_after h k).outbox x in subst Good e (o, y)
      good n (inr x) = r.good n x

  all_letters : Letters v bad h v.n
  all_letters =
      over_sound v bad (Letters v bad h) (record { letters = []; all = λ j m l. absurd (omega arith); good = λ n x. absurd (Memᴰ.not-nil x) })
      (λ k e r. record { letters = r.letters; all = λ j m l s. r.all j m (sound_below v bad k e j l s) s; good = r.good }) more_letters v.n (omega arith)

module _ (v : Instance) (plan : Plan) (bad : Set) (f : Shared v plan) where
  -- ---- in the end none waits

  nothing_waits : (h : History) → Allowed v bad h → Open v bad h [] → Complete v bad h
  nothing_waits h a w = record {
    started = w.begun;
    handed = λ i m o x. (w.up i o).handed m (posted i m o x);
    taken = λ i j bytes m o p x e. taken i j bytes m o p (handed_made v plan bad f h a j bytes (since_handed j bytes h x)) e;
  }
    where
      posted : (i : ℕ) (m : Message) → Sound v bad i → Made h i m → Posted h i m
      posted i m o x = subst (Memᴰ m) (sym (running_posted v plan bad f h a i (w.up i o).stage)) ((made_records v plan bad f h a i m).0 x)

      of : (i j : ℕ) (m : Message) → Took h i j m ⊎ Memᴰ (letter j m) [] → Took h i j m
      of i j m (inl x) = x
      of i j m (inr x) = absurd (Memᴰ.not-nil x)

      taken : (i j : ℕ) (bytes : List ℕ) (m : Message) → Sound v bad i → Sound v bad j → (n : Message) × (bytes ≡ message_bytes n) × Made h j n
          → exact_message bytes ≡ Ok m → Took h i j m
      taken i j bytes m o p (n, is, x) e =
          let y : ◌≡◌ {A = Exactly} (Ok n) (Ok m) = sym (posted_read v plan bad f h a j p (w.up j p) n (posted j n p x)) ∙ ap exact_message (sym is) ∙ e in
          let same : n ≡ m = cc in
          subst (Took h i j) same (of i j n (w.waits i j n o p (posted j n p x)))

  module _ (h : History) (input : StartInput) (on : Startable plan input) (a : Allowed v bad h) where
    ready : AllUp v plan bad f h input on v.n
    ready = all_up v plan bad f h input on a

    abbrev now : History
    now = at v bad h input ready.way

    waiting_letters : Letters v bad now v.n
    waiting_letters = all_letters v bad now

    open_first : Open v bad now waiting_letters.letters
    open_first = record {
      up = λ i o. ready.up i o.0 o;
      begun = λ i o. ready.begun i o.0 o;
      waits = λ i j m o p x. inr (waiting_letters.all j m p.0 p x);
      given = waiting_letters.good;
    }

    ends : (later : Way v bad h input) × Open v bad (at v bad h input later) []
    ends = delivered v plan bad f h input (length waiting_letters.letters + left_of v.n now) ready.way waiting_letters.letters (omega arith) open_first

    completed : CompletedWith v bad h input
    completed = record {
      completed = record {
        more = ends.0.more;
        order = ends.0.order;
        allowed = ends.0.allowed;
        complete = nothing_waits (at v bad h input ends.0) ends.0.allowed ends.1;
      };
      starts = starts_before input ends.0.more h ends.0.keeping;
    }

pub completes_with : CompletesWith
completes_with v plan bad h input f on a = completed v plan bad f h input on a

-- with the input of position 0, which every plan has
pub completes : Completes
completes v plan bad h f a = (completes_with v plan bad h (plain (reading_of plan 0)) f on a).completed
  where
    on : position_of plan (reading_of plan 0) ≡ no_output → ⊥
    on e = let z : position_of plan (reading_of plan 0) ≡ 0 = reading_position plan 0 (shape plan (plan_valid_lem v plan f 0 (omega (arith, f.faults)))).some in omega arith

pub comes_through : ComesThrough
comes_through v plan bad h given =
    let c : Completed v bad h = completes v plan bad h given.shared given.allowed in
    let p : Premises v plan bad (c.more ++ h) = record { shared = given.shared; few = given.few; allowed = c.allowed } in
    (c, (demand3 v plan bad (c.more ++ h) p).ending c.complete)
