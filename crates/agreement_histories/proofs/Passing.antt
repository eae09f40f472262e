-- A script that passes its tests gives a history that is allowed.
use mathlib.Core.Path.{◌≡◌, refl, sym, ap, ◌∙◌, subst}
use mathlib.Core.Logic.{◌⊎◌, inl, inr}
use mathlib.Core.Bool.{Bool, true, not, ◌&&◌, ◌||◌}
use mathlib.Core.List.{List, [], ◌∷◌, ◌++◌, Memᴰ}
use Prim.Native.Nat.{ℕ, zero, suc, ◌+◌, ◌*◌, ◌≤◌, ◌<◌}
use native.Mathlib.Omega.{arith}
use lib.Dec.{T, leb, ltb, leb→le, ltb→lt, T_not}
use lib.ListN.{length, get_or, replicate}
use lib.Seq.{take-append_seam}
use Rattle.std.specs.Prelude.{None}
use Rattle.base.specs.Sets.{Set, count}
use Rattle.base.specs.Limits.{max_boards, max_number}
use Rattle.base.proofs.Bools.{T-left, T-right, or_split, true→T}
use Rattle.base.specs.Found.{found}
use Rattle.plan.specs.Plan.{Plan}
use Rattle.plan.specs.Reading.{plan_of}
use Rattle.message.specs.Message.{message_bytes}
use Rattle.journal.specs.Records.{journal_bytes}
use Rattle.journal.specs.Reading.{records_in}
use Rattle.board_calls.specs.Answers.{Answer}
use Rattle.board_calls.specs.Calls.{answered_of}
use Rattle.agreement.specs.History.{Instance, History, Board, board_after}
use Rattle.agreement.specs.Allowed.{Sound, Handed, Continues, Ours, TornAfter, May, Allowed}
use Rattle.agreement.specs.Demand.{party_by, answer_now, Shared, Premises}
use Rattle.agreement_histories.specs.Scripts.{Action, sets_up, starts, starts_count, takes, reads, reads_count, sends, cuts, restores, restores_torn, tries, actor, lent, step_of, followed, history_of, RefusedIn, Refusing}
use Rattle.agreement_histories.proofs.Worlds.{World, board_of, beginning, acted, world_after, same, among, sent_by, sound, is_waiting, is_running, torn_behind, fits_board, fits, all_fit}
use Rattle.agreement_histories.proofs.Tests.{among→, sent_by→, sound→, →sound, waiting→, running→, not_waiting→, torn_behind→, is_refused→}
use Rattle.agreement_histories.proofs.Shows.{Shows, shows_beginning, shows_action}

-- the lent journal begins with the used bytes
continues : (b : Board) → T (is_running b.stage) → Continues b b.party (lent b.journal) (length b.journal)
continues b h = record { up = running→ b.stage h; same = refl; at = refl; kept = take-append_seam b.journal (replicate 32 0) }

-- the settings of the vote
pub ours : (v : Instance) (i : ℕ) → Ours v i v.n v.t i v.agreement v.plan
ours v i = record { boards = refl; faults = refl; seat = refl; number = refl; bytes = refl }

module _ (v : Instance) (bad : Set) (w : World) (h : History) (s : Shows v w h) where
  may_board : (b : Board) (a : Action) → b ≡ board_after h (actor a) → Sound v bad (actor a) → T (fits_board v bad w.sent b a) → May v bad (step_of v b a) h
  may_board b (sets_up i) e o f = (o, inr (ap (λ (c : Board). c.stage) (sym e) ∙ waiting→ b.stage f, ours v i))
  may_board b (starts i z) e o f = (o, inr (subst (λ (c : Board). Continues c b.party (lent b.journal) (length b.journal)) e (continues b f)))
  may_board b (starts_count i g c) e o f = (o, inr (subst (λ (c : Board). Continues c b.party (lent b.journal) (length b.journal)) e (continues b f)))
  may_board b (takes i j m) e o f = (
    o,
    inr (
      subst (λ (c : Board). Continues c b.party (lent b.journal) (length b.journal)) e (continues b (T-left up heard f)),
      λ k. go k (or_split (not (sound v bad j)) (sent_by j m w.sent) (T-right up heard f)),
    ),
  )
    where
      up : Bool
      up = is_running b.stage

      heard : Bool
      heard = not (sound v bad j) || sent_by j m w.sent

      go : Sound v bad j → T (not (sound v bad j)) ⊎ T (sent_by j m w.sent) → Handed j (message_bytes m) h
      go k (inl d) = absurd (T_not (sound v bad j) d (→sound v bad j k))
      go k (inr t) = s.handed j m (sent_by→ j m w.sent t)
  may_board b (reads i) e o f = (o, inr (ap (λ (c : Board). c.stage) (sym e) ∙ running→ b.stage f, ap (λ (c : Board). c.party) e))
  may_board b (reads_count i g c) e o f = (o, inr (ap (λ (c : Board). c.stage) (sym e) ∙ running→ b.stage f, ap (λ (c : Board). c.party) e))
  may_board b (sends i m) e o f = (
    o,
    ap (λ (c : Board). c.stage) (sym e) ∙ running→ b.stage (T-left (is_running b.stage) (among m b.outbox) f),
    (m, refl, subst (λ (c : Board). Memᴰ m c.outbox) e (among→ m b.outbox (T-right (is_running b.stage) (among m b.outbox) f))),
  )
  may_board b (cuts i k) e o f = (o, subst (λ (c : Board). c.guarded ≤ k) e (leb→le b.guarded k f))
  may_board b (restores i) e o f =
      (o, inr (λ x. not_waiting→ b.stage f (ap (λ (c : Board). c.stage) e ∙ x), ours v i, inl (ap (λ (c : Board). c.journal) e)))
  may_board b (restores_torn i tail) e o f = (
    o,
    inr (
      λ x. not_waiting→ b.stage (T-left up torn f) (ap (λ (c : Board). c.stage) e ∙ x),
      ours v i,
      inr (subst (λ (c : Board). TornAfter c.journal (b.journal ++ tail)) e (torn_behind→ b.journal (b.journal ++ tail) (T-right up torn f))),
    ),
  )
    where
      up : Bool
      up = not (is_waiting b.stage)

      torn : Bool
      torn = torn_behind (journal_bytes (records_in b.journal)) (b.journal ++ tail)
  may_board b (tries i k c) e o f = (o, inl (k, is_refused→ k (c b) f))

  -- an action that is to be refused is
  refused_in : (b : Board) (a : Action) → T (fits_board v bad w.sent b a) → RefusedIn b a
  refused_in b (sets_up i) f = tt
  refused_in b (starts i z) f = tt
  refused_in b (starts_count i g c) f = tt
  refused_in b (takes i j m) f = tt
  refused_in b (reads i) f = tt
  refused_in b (reads_count i g c) f = tt
  refused_in b (sends i m) f = tt
  refused_in b (cuts i k) f = tt
  refused_in b (restores i) f = tt
  refused_in b (restores_torn i tail) f = tt
  refused_in b (tries i k c) f = is_refused→ k (c b) f

  pub may : (a : Action) → T (fits v bad w a) → May v bad (step_of v (board_after h (actor a)) a) h
  may a f =
      subst (λ (b : Board). May v bad (step_of v b a) h) (s.board (actor a))
      (may_board (board_of w (actor a)) a (s.board (actor a))
      (sound→ v bad (actor a) (T-left (sound v bad (actor a)) (fits_board v bad w.sent (board_of w (actor a)) a) f))
      (T-right (sound v bad (actor a)) (fits_board v bad w.sent (board_of w (actor a)) a) f))

-- all at once, along the script
followed_fits : (v : Instance) (bad : Set) (w : World) (h : History) (script : List Action) → Shows v w h → Allowed v bad h → T (all_fit v bad w script)
    → Shows v (world_after v w script) (followed v h script) × Allowed v bad (followed v h script) × Refusing v h script
unfolding all_fit world_after followed Refusing
followed_fits v bad w h [] s p f = (s, p, tt)
followed_fits v bad w h (a ∷ rest) s p f =
    let r = followed_fits v bad (acted v w a) (step_of v (board_after h (actor a)) a ∷ h) rest
    (shows_action v w h a s (sound→ v bad (actor a) (T-left (sound v bad (actor a)) (fits_board v bad w.sent (board_of w (actor a)) a) first)).0)
    (may v bad w h s a first, p)
    (T-right (fits v bad w a) (all_fit v bad (acted v w a) rest) f) in
    (r.0, r.1, (refused_now, r.2))
  where
    first : T (fits v bad w a)
    first = T-left (fits v bad w a) (all_fit v bad (acted v w a) rest) f

    refused_now : RefusedIn (board_after h (actor a)) a
    refused_now =
        subst (λ (b : Board). RefusedIn b a) (s.board (actor a))
        (refused_in v bad w h s (board_of w (actor a)) a (T-right (sound v bad (actor a)) (fits_board v bad w.sent (board_of w (actor a)) a) first))

-- the world after a script
abbrev pub ending : Instance → List Action → World
ending v script = world_after v (beginning v) script

abbrev pub passes : Instance → Set → List Action → Bool
passes v bad script = all_fit v bad (beginning v) script

-- few enough boards, faults and faulty boards
abbrev pub settled : Instance → Set → Bool
settled v bad = (leb v.n max_boards && ltb (3 * v.t) v.n) && (leb v.agreement max_number && leb (count v.n bad) v.t)

-- settings that pass
pub sharing : (v : Instance) (plan : Plan) (bad : Set) → T (settled v bad) → plan_of v.plan ≡ found plan → Shared v plan × (count v.n bad ≤ v.t)
sharing v plan bad f g = (
  record {
    boards = leb→le v.n max_boards (T-left one two ones);
    faults = ltb→lt (3 * v.t) v.n (T-right one two ones);
    number = leb→le v.agreement max_number (T-left three four twos);
    reads = g;
  },
  leb→le (count v.n bad) v.t (T-right three four twos),
)
  where
    one : Bool
    one = leb v.n max_boards

    two : Bool
    two = ltb (3 * v.t) v.n

    three : Bool
    three = leb v.agreement max_number

    four : Bool
    four = leb (count v.n bad) v.t

    ones : T (one && two)
    ones = T-left (one && two) (three && four) f

    twos : T (three && four)
    twos = T-right (one && two) (three && four) f

-- f at, f (at + 1), ..: k of them
unfoldable pub listed : ℕ → ℕ → (ℕ → Answer) → List Answer
listed at zero f = []
listed at (suc k) f = f at ∷ listed (suc at) k f

listed_at : (at k i : ℕ) (f : ℕ → Answer) → i < length (listed at k f) → get_or (listed at k f) i None ≡ f (at + i)
unfolding listed
listed_at at zero i f l = absurd (omega arith)
listed_at at (suc k) zero f l = ap f (let e : at ≡ at + 0 = omega arith in e)
listed_at at (suc k) (suc i) f l = listed_at (suc at) k i f (omega arith) ∙ ap f (let e : suc at + i ≡ at + suc i = omega arith in e)

-- the answer of a board
abbrev pub answer_in : Instance → World → ℕ → Answer
answer_in v w i = (answered_of (party_by v i (board_of w i) (board_of w i).stage)).answer

module _ (v : Instance) (bad : Set) (script : List Action) (f : passes v bad script ≡ true) where
  pub shown : Shows v (ending v script) (history_of v script)
  shown = (followed_fits v bad (beginning v) [] script (shows_beginning v) tt (true→T f)).0

  pub allowed : Allowed v bad (history_of v script)
  allowed = (followed_fits v bad (beginning v) [] script (shows_beginning v) tt (true→T f)).1

  -- every call that is to be refused is refused by its question
  pub refusals : Refusing v [] script
  refusals = (followed_fits v bad (beginning v) [] script (shows_beginning v) tt (true→T f)).2

  -- with settings and a plan that pass, demand 3's premises hold
  pub premises_of : (plan : Plan) → settled v bad ≡ true → plan_of v.plan ≡ found plan → Premises v plan bad (history_of v script)
  premises_of plan e g = let c = sharing v plan bad (true→T e) g in record { shared = c.0; few = c.1; allowed = allowed }

  -- the answers are those of the boards 0, 1, .. at the end
  pub answers : (l : List Answer) → listed 0 (length l) (answer_in v (ending v script)) ≡ l
      → (i : ℕ) → i < length l → answer_now v (history_of v script) i ≡ get_or l i None
  answers l e i k =
      subst (λ (b : Board). (answered_of (party_by v i b b.stage)).answer ≡ get_or l i None) (shown.board i)
      (ap (answer_in v (ending v script)) (let z : i ≡ 0 + i = omega arith in z)
      ∙ sym (listed_at 0 (length l) i (answer_in v (ending v script)) (subst (λ (x : List Answer). i < length x) (sym e) k))
      ∙ ap (λ (x : List Answer). get_or x i None) e)
