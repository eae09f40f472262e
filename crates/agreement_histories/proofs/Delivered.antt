-- What the tests of delivery tell.
use mathlib.Core.Path.{◌≡◌, refl, sym, ap, ap₂, ◌∙◌, subst}
use mathlib.Core.Logic.{◌⊎◌, inl, inr}
use mathlib.Core.Bool.{Bool, true, false, not, ◌&&◌, ◌||◌}
use mathlib.Core.List.Memᴰ
use mathlib.Core.List.{List, [], ◌∷◌, ◌++◌, Memᴰ}
use Prim.Native.Nat.{ℕ, ◌≤◌}
use native.Mathlib.Omega.{arith}
use lib.Dec.{T, leb, ltb, eqb, leb→le, eqb→eq}
use lib.IntN.{ℤ}
use lib.ListN.{length}
use Rattle.std.specs.Prelude.{Ok, Err}
use Rattle.base.specs.Sets.{Set, count}
use Rattle.base.specs.Limits.{max_number}
use Rattle.base.proofs.Bools.{T-left, T-right, or_split, T→true, true→T}
use Rattle.base.proofs.Counts.{count_full}
use Rattle.base.specs.Found.{found}
use Rattle.plan.specs.Plan.{Plan}
use Rattle.plan.specs.Reading.{plan_of}
use Rattle.message.specs.declared.Message.{Message}
use Rattle.message.specs.Reading.{Exactly, broken, exact_message}
use Rattle.message.specs.Message.{message_bytes, in_table}
use Rattle.message.proofs.RoundTrip.{exact_message_read}
use Rattle.agreement.specs.History.{Instance, StartInput, voted_input, History, Act, a_start, a_take, Counted, Board, board_after}
use Rattle.agreement.specs.Allowed.{Sound}
use Rattle.agreement.specs.Demand.{StartedBy, Started, Took, Made, HandedSince, Complete}
use Rattle.agreement_histories.specs.Scripts.{Action, history_of, Concludes}
use Rattle.agreement_histories.proofs.Worlds.{Handing, World, board_of, beginning, same, sent_by, sound}
use Rattle.agreement_histories.proofs.Tests.{same→, sent_by→, →sound}
use Rattle.agreement_histories.proofs.Shows.{Shows}
use Rattle.agreement_histories.proofs.Passing.{listed, answer_in, settled, ending, passes, shown, premises_of, answers}
use Rattle.agreement_histories.proofs.Delivery.{start_of, starts_in, has_start, is_taken, has_taken, all_made, all_sent, readable, was_taken, all_taken, full_board, full_at, full, Judged, Judges, judging_tests}
use Rattle.board_calls.specs.Answers.{Answer}

-- ---- what the tests tell of a list of calls

-- it has a call of a start at x, with some input
abbrev Starts : ℕ → List Counted → Type 0
Starts x cs = (input : StartInput) × ((c : Counted) × Memᴰ c cs × (c.act ≡ a_start x input))

pub in_starts : (x : ℕ) (input : StartInput) (c : Counted) (cs : List Counted) → Memᴰ c cs → c.act ≡ a_start x input → Memᴰ x (starts_in cs)
unfolding starts_in
in_starts x input c [] h e = absurd (Memᴰ.not-nil h)
in_starts x input c (d ∷ cs) h e = go (in_starts x input c cs) (Memᴰ.cases_cons h)
  where
    later : (a : Act) → Memᴰ x (starts_in cs) → Memᴰ x (start_of a (starts_in cs))
    later (a_start y w) n = Memᴰ.tail n
    later (a_take s r) n = n

    go : (Memᴰ c cs → c.act ≡ a_start x input → Memᴰ x (starts_in cs)) → (c ≡ d) ⊎ Memᴰ c cs → Memᴰ x (start_of d.act (starts_in cs))
    go below (inl i) = subst (λ (a : Act). Memᴰ x (start_of a (starts_in cs))) (sym e ∙ ap (λ (y : Counted). y.act) i) (Memᴰ.head refl)
    go below (inr n) = later d.act (below n e)

starts_in_lem : (x : ℕ) (cs : List Counted) → Memᴰ x (starts_in cs) → Starts x cs
unfolding starts_in
starts_in_lem x [] h = absurd (Memᴰ.not-nil h)
starts_in_lem x (c ∷ cs) h = go (starts_in_lem x cs) c.act refl h
  where
    later : Starts x cs → Starts x (c ∷ cs)
    later k = (k.0, (k.1.0, Memᴰ.tail k.1.1, k.1.2))

    first : (Memᴰ x (starts_in cs) → Starts x cs) → (y : ℕ) (input : StartInput) → c.act ≡ a_start y input → (x ≡ y) ⊎ Memᴰ x (starts_in cs) → Starts x (c ∷ cs)
    first below y input e (inl i) = (input, (c, Memᴰ.head refl, e ∙ ap (λ (k : ℕ). a_start k input) (sym i)))
    first below y input e (inr n) = later (below n)

    go : (Memᴰ x (starts_in cs) → Starts x cs) → (a : Act) → c.act ≡ a → Memᴰ x (start_of a (starts_in cs)) → Starts x (c ∷ cs)
    go below (a_start y input) e n = first below y input e (Memᴰ.cases_cons n)
    go below (a_take s r) e n = later (below n)

has_start→ : (cs : List Counted) → T (has_start cs) → (x : ℕ) × Starts x cs
has_start→ cs h = go (starts_in cs) refl h
  where
    go : (l : List ℕ) → starts_in cs ≡ l → T (ltb 0 (length l)) → (x : ℕ) × Starts x cs
    go [] e k = absurd k
    go (x ∷ l) e k = (x, starts_in_lem x cs (subst (λ (s : List ℕ). Memᴰ x s) (sym e) (Memᴰ.head refl)))

is_taken→ : (j : ℕ) (m : Message) (a : Act) → T (is_taken j m a) → a ≡ a_take j (Ok m)
is_taken→ j m (a_start x input) h = absurd h
is_taken→ j m (a_take s (Ok y)) h =
    sym (ap₂ (λ (k : ℕ) (n : Message). a_take k (Ok n)) (eqb→eq j s (T-left (eqb j s) (same m y) h)) (same→ m y (T-right (eqb j s) (same m y) h)))
is_taken→ j m (a_take s (Err e)) h = absurd h

has_taken→ : (j : ℕ) (m : Message) (cs : List Counted) → T (has_taken j m cs) → (c : Counted) × Memᴰ c cs × (c.act ≡ a_take j (Ok m))
unfolding has_taken
has_taken→ j m [] h = absurd h
has_taken→ j m (c ∷ cs) h = go (has_taken→ j m cs) (or_split (is_taken j m c.act) (has_taken j m cs) h)
  where
    go : (T (has_taken j m cs) → (c : Counted) × Memᴰ c cs × (c.act ≡ a_take j (Ok m))) → T (is_taken j m c.act) ⊎ T (has_taken j m cs)
        → (d : Counted) × Memᴰ d (c ∷ cs) × (d.act ≡ a_take j (Ok m))
    go below (inl e) = (c, Memᴰ.head refl, is_taken→ j m c.act e)
    go below (inr n) = let k = below n in (k.0, Memᴰ.tail k.1, k.2)

pub in_made : (c : Counted) (cs : List Counted) → Memᴰ c cs → (m : Message) → Memᴰ m c.made → Memᴰ m (all_made cs)
unfolding all_made
in_made c [] h m k = absurd (Memᴰ.not-nil h)
in_made c (d ∷ cs) h m k = go (λ n. in_made c cs n m k) (Memᴰ.cases_cons h)
  where
    go : (Memᴰ c cs → Memᴰ m (all_made cs)) → (c ≡ d) ⊎ Memᴰ c cs → Memᴰ m (d.made ++ all_made cs)
    go below (inl e) = Memᴰ.append_left (all_made cs) (subst (λ (y : Counted). Memᴰ m y.made) e k)
    go below (inr n) = Memᴰ.append_right d.made (below n)

all_sent→ : (i : ℕ) (ms : List Message) (l : List Handing) → T (all_sent i ms l) → (m : Message) → Memᴰ m ms → Memᴰ (record { by = i; message = m }) l
unfolding all_sent
all_sent→ i [] l h m k = absurd (Memᴰ.not-nil k)
all_sent→ i (x ∷ ms) l h m k = go (all_sent→ i ms l (T-right (sent_by i x l) (all_sent i ms l) h) m) (Memᴰ.cases_cons k)
  where
    go : (Memᴰ m ms → Memᴰ (record { by = i; message = m }) l) → (m ≡ x) ⊎ Memᴰ m ms → Memᴰ (record { by = i; message = m }) l
    go below (inl e) = Memᴰ.cast (ap (λ (y : Message). record { by = i; message = y }) e) (sent_by→ i x l (T-left (sent_by i x l) (all_sent i ms l) h))
    go below (inr r) = below r

all_taken→ : (v : Instance) (bad : Set) (cs : List Counted) (l : List Handing) → T (all_taken v bad cs l) → (x : Handing) → Memᴰ x l → T (was_taken v bad cs x)
unfolding all_taken
all_taken→ v bad cs [] h x k = absurd (Memᴰ.not-nil k)
all_taken→ v bad cs (y ∷ l) h x k = go (all_taken→ v bad cs l (T-right (was_taken v bad cs y) (all_taken v bad cs l) h) x) (Memᴰ.cases_cons k)
  where
    go : (Memᴰ x l → T (was_taken v bad cs x)) → (x ≡ y) ⊎ Memᴰ x l → T (was_taken v bad cs x)
    go below (inl e) = subst (λ (z : Handing). T (was_taken v bad cs z)) (sym e) (T-left (was_taken v bad cs y) (all_taken v bad cs l) h)
    go below (inr r) = below r

readable→ : (m : Message) → T (readable m) → exact_message (message_bytes m) ≡ Ok m
readable→ m h =
    let l : m.number ≤ max_number = leb→le m.number max_number (T-right (in_table m) (leb m.number max_number) h) in
    exact_message_read m (T→true (in_table m) (T-left (in_table m) (leb m.number max_number) h)) (omega arith)

unless : (a b : Bool) → T (not a || b) → T a → T b
unless true b h k = h
unless false b h k = absurd k

-- ---- a world where all is delivered

module _ (v : Instance) (bad : Set) (w : World) (h : History) (s : Shows v w h) (f : T (full v bad w)) where
  at_board : (i : ℕ) → Sound v bad i → T (full_board v bad w.since i (board_after h i).counted)
  at_board i o =
      subst (λ (b : Board). T (full_board v bad w.since i b.counted)) (s.board i)
      (unless (sound v bad i) (full_board v bad w.since i (board_of w i).counted)
      (count_full v.n (full_at v bad w) (leb→le v.n (count v.n (full_at v bad w)) f) i o.0) (→sound v bad i o))

  module _ (i : ℕ) (o : Sound v bad i) where
    abbrev cs : List Counted
    cs = (board_after h i).counted

    rest : T (all_sent i (all_made cs) w.since && all_taken v bad cs w.since)
    rest = T-right (has_start cs) (all_sent i (all_made cs) w.since && all_taken v bad cs w.since) (at_board i o)

    board_started : (x : ℕ) × (z : ℤ) × Started h i x z
    board_started =
        let k = has_start→ cs (T-left (has_start cs) (all_sent i (all_made cs) w.since && all_taken v bad cs w.since) (at_board i o)) in
        (k.0, voted_input k.1.0, (k.1.0, k.1.1, refl))

    board_handed : (m : Message) → Made h i m → HandedSince i (message_bytes m) h
    board_handed m k =
        s.handed_since i m (all_sent→ i (all_made cs) w.since (T-left (all_sent i (all_made cs) w.since) (all_taken v bad cs w.since) rest) m (in_made k.0 cs k.1 m k.2))

    board_took : (j : ℕ) (bytes : List ℕ) (m : Message) → Sound v bad j → HandedSince j bytes h → exact_message bytes ≡ Ok m → Took h i j m
    board_took j bytes m d k e =
        let x = s.known_since j bytes k in
        let fine : Bool = readable x.0.message in
        let had : Bool = has_taken x.0.by x.0.message cs in
        let t : T (fine && had) =
        unless (sound v bad x.0.by) (fine && had)
        (all_taken→ v bad cs w.since (T-right (all_sent i (all_made cs) w.since) (all_taken v bad cs w.since) rest) x.0 x.1)
        (subst (λ (y : ℕ). T (sound v bad y)) x.2 (→sound v bad j d)) in
        let f : ◌≡◌ {A = Exactly} (Ok m) (Ok x.0.message) = sym e ∙ ap exact_message x.3 ∙ readable→ x.0.message (T-left fine had t) in
        let g : m ≡ x.0.message = cc in
        let c = has_taken→ x.0.by x.0.message cs (T-right fine had t) in
        (c.0, c.1, c.2 ∙ sym (ap₂ (λ (y : ℕ) (n : Message). a_take y (Ok n)) x.2 g))

  pub completed : Complete v bad h
  completed = record { started = board_started; handed = λ i m o k. board_handed i o m k; taken = λ i j bytes m o d k e. board_took i o j bytes m d k e }

-- ---- after a script that passes

module _ (v : Instance) (bad : Set) (script : List Action) (f : passes v bad script ≡ true) where
  abbrev h : History
  h = history_of v script

  -- all is delivered
  pub complete : full v bad (ending v script) ≡ true → Complete v bad (history_of v script)
  complete g = completed v bad (ending v script) h (shown v bad script f) (true→T g)

  module _ (i : ℕ) where
    abbrev counted : List Counted
    counted = (board_of (ending v script) i).counted

    same_calls : (board_of (ending v script) i).counted ≡ (board_after (history_of v script) i).counted
    same_calls = ap (λ (b : Board). b.counted) ((shown v bad script f).board i)

    -- board i started at x, and nowhere else
    module _ (x : ℕ) (e : starts_in counted ≡ x ∷ []) where
      pub started_by_lem : (input : StartInput) × StartedBy (history_of v script) i x input
      started_by_lem = starts_in_lem x (board_after h i).counted (subst (λ (l : List Counted). Memᴰ x (starts_in l)) same_calls (subst (λ (l : List ℕ). Memᴰ x l) (sym e) (Memᴰ.head refl)))

      pub started : (z : ℤ) × Started (history_of v script) i x z
      started = (voted_input started_by_lem.0, (started_by_lem.0, started_by_lem.1, refl))

      pub only_there : (y : ℕ) (z : ℤ) → Started (history_of v script) i y z → y ≡ x
      only_there y z (input, (c, m, k), voted) =
          Memᴰ.eq_of_singleton (subst (λ (l : List ℕ). Memᴰ y l) e (subst (λ (l : List Counted). Memᴰ y (starts_in l)) (sym same_calls) (in_starts y input c (board_after h i).counted m k)))

    -- board i took m from board j
    pub took : (j : ℕ) (m : Message) → has_taken j m counted ≡ true → Took (history_of v script) i j m
    took j m e = has_taken→ j m (board_after h i).counted (subst (λ (l : List Counted). T (has_taken j m l)) same_calls (true→T e))

-- a script that is lawful, ends with all delivered, and gives these answers
module _ (v : Instance) (plan : Plan) (bad : Set) (script : List Action) (l : List Answer) (j : Judges v bad script l) where
  tests : ◌≡◌ {A = Judged}
      (record { lawful = passes v bad script; whole = full v bad (ending v script); said = listed 0 (length l) (answer_in v (ending v script)) })
      (record { lawful = true; whole = true; said = l })
  tests = sym (judging_tests v bad (length l) (beginning v) script) ∙ j

  pub passed : passes v bad script ≡ true
  passed = ap (λ (x : Judged). x.lawful) tests

  -- the premises hold, all is delivered, and these are the answers
  pub concludes : settled v bad ≡ true → plan_of v.plan ≡ found plan → Concludes v plan bad (history_of v script) l
  concludes e g = record {
    premises = premises_of v bad script passed plan e g;
    complete = complete v bad script passed (ap (λ (x : Judged). x.whole) tests);
    answer = answers v bad script passed l (ap (λ (x : Judged). x.said) tests);
  }
