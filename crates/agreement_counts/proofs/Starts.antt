-- A start by count that counts was accepted, so its step size passes and the plan is a range; and a board has one start that counts.
use mathlib.Core.Path.{◌≡◌, refl, sym, ap, ◌∙◌, subst}
use mathlib.Core.Logic.{◌⊎◌, inl, inr}
use mathlib.Core.Bool.{Bool, true, false, not}
use mathlib.Core.List.Memᴰ
use mathlib.Core.List.{List, [], ◌∷◌, Memᴰ}
use Prim.Native.Nat.{ℕ, ◌<◌}
use native.Mathlib.Omega.{arith}
use lib.Dec.{T, leb, ltb, eqb, eqb→eq}
use lib.IntN.{ℤ}
use lib.ListN.{length}
use Rattle.std.specs.Prelude.{Some, None}
use Rattle.base.specs.Pick.{pick}
use Rattle.base.specs.Sets.{Set}
use Rattle.base.specs.Verdict.{Verdict}
use Rattle.base.specs.Found.{Found, found, refused}
use Rattle.base.proofs.Bools.{T-left, true→T}
use Rattle.rounding.specs.Rounding.{size_passes}
use Rattle.plan.specs.Plan.{Plan}
use Rattle.message.specs.Reading.{exact_message}
use Rattle.journal.specs.declared.Record.{Record}
use Rattle.journal.specs.declared.Record.TheVariants.{Start}
use Rattle.party.specs.Party.{Party, started}
use Rattle.party_life.specs.Life.{lived, fault_of, tabled, Fits, Life}
use Rattle.board_calls.specs.Answers.{position_of, Answer}
use Rattle.board_calls.specs.Calls.{Entry, set_up_of, answered_of}
use Rattle.board_calls.specs.Restore.{Replay}
use Rattle.board_laws.proofs.Counts.{count_start}
use Rattle.vote_machine.proofs.Laws.{start_lived}
use Rattle.agreement.specs.History.{Instance, Lent, StartInput, plain, by_count, voted_input, Call, set_up, start, take_message_lem, read_answer, read_count, restore, start_finds, take_finds, restore_finds, read_as_count, Step, calls, hands, cut, whose, History, Stage, waiting, running, down, Act, a_start, a_take, Counted, Board, after_set_up, after_entry, after_answer, after_restore, kept_calls, after_cut, board_after}
use Rattle.agreement.specs.Allowed.{Refuses, Continues, Accepts, May, Allowed}
use Rattle.agreement.specs.Starts.{Startable}
use Rattle.agreement.specs.Demand.{StartedBy, Shared}
use Rattle.agreement.specs.Inner.{records_of}
use Rattle.agreement.proofs.Tied.{new_board, board_regular}
use Rattle.agreement.proofs.Histories.{tied}
use Rattle.agreement.proofs.Boards.{running_state, state_plan, records_of_lem}
use Rattle.agreement.proofs.Steps.{own, other, refused_nothing}
use Rattle.agreement.proofs.Counted.{Says, Follows, record_of}
use Rattle.agreement.proofs.Follows.{follows}
use Rattle.agreement_counts.specs.Demand.{OneStart}

-- ---- accepted starts by count

-- what the questions of a start by count found
abbrev Asked : Plan → Act → Type 0
Asked plan (a_start x (plain z)) = Unit {0}
Asked plan (a_start x (by_count g c)) = T (size_passes g) × (plan.kind ≡ 2)
Asked plan (a_take s e) = Unit {0}

abbrev AllAsked : Plan → List Counted → Type 0
AllAsked plan cs = (d : Counted) → Memᴰ d cs → Asked plan d.act

cons_asked : (plan : Plan) (c : Counted) (cs : List Counted) → Asked plan c.act → AllAsked plan cs → AllAsked plan (c ∷ cs)
cons_asked plan c cs x w d m = go (Memᴰ.cases_cons m)
  where
    go : (d ≡ c) ⊎ Memᴰ d cs → Asked plan d.act
    go (inl e) = subst (λ (y : Counted). Asked plan y.act) (sym e) x
    go (inr n) = w d n

kept_asked : (plan : Plan) (left : ℕ) (cs : List Counted) → AllAsked plan cs → AllAsked plan (kept_calls left cs)
unfolding kept_calls
kept_asked plan left [] w = w
kept_asked plan left (c ∷ cs) w = go (leb c.used left) (kept_asked plan left cs (λ e n. w e (Memᴰ.tail n)))
  where
    go : (b : Bool) → AllAsked plan (kept_calls left cs) → AllAsked plan (pick b (c ∷ kept_calls left cs) (kept_calls left cs))
    go true ih = cons_asked plan c (kept_calls left cs) (w c (Memᴰ.head refl)) ih
    go false ih = ih

module _ (v : Instance) (plan : Plan) (bad : Set) (f : Shared v plan) where
  abbrev AskedIn : Board → Type 0
  AskedIn b = AllAsked plan b.counted

  module _ (b : Board) (ih : AskedIn b) where
    by_entry : (a : Act) (p : Party) (lent : Lent) (used : ℕ) (q : Found Entry) → ((e : Entry) → q ≡ found e → Asked plan a) → AskedIn (after_entry b a p lent used q)
    by_entry a p lent used (found e) w = cons_asked plan _ b.counted (w e refl) ih
    by_entry a p lent used (refused number place) w = ih

    by_set_up : (x : Verdict) (p : Party) → AskedIn (after_set_up b x p)
    by_set_up Verdict.Accepted p d m = absurd (Memᴰ.not-nil m)
    by_set_up (Verdict.Refused number place) p d m = ih d m

    by_answer : (z : Answer) → AskedIn (after_answer b z)
    by_answer None d m = ih d m
    by_answer (Some z) d m = ih d m

    by_restore : (lent : Lent) (q : Found Replay) → AskedIn (after_restore b lent q)
    by_restore lent (found r) d m = ih d m
    by_restore lent (refused number place) d m = ih d m

    by_cut : (s : Stage) (left : ℕ) → AskedIn (after_cut b s left)
    by_cut waiting left = ih
    by_cut running left = kept_asked plan left b.counted ih
    by_cut down left = kept_asked plan left b.counted ih

  module _ (h : History) (a : Allowed v bad h) (i : ℕ) (k : i < v.n) (ih : AskedIn (board_after h i)) where
    -- the party's plan is the vote's
    by_start : (p : Party) (input : StartInput) (lent : Lent) (used : ℕ) → Continues (board_after h i) p lent used → (x : ℕ) (e : Entry)
        → start_finds p input lent used ≡ found e → Asked plan (a_start x input)
    by_start p (plain z) lent used c x e w = tt
    by_start p (by_count g z) lent used c x e w =
        let s = count_start p g z (length lent.journal) used lent.out w in
        let same : p.plan ≡ plan = ap (λ (y : Party). y.plan) (c.same ∙ running_state v plan bad f h a i k c.up) ∙ state_plan v plan bad f h a i k in
        (s.0, sym (ap (λ (y : Plan). y.kind) same) ∙ s.1)

    by_call : (c : Call) → Accepts v bad i h (board_after h i) c → AskedIn (board_after (calls i c ∷ h) i)
    by_call (set_up n t o g bytes) x =
        subst AskedIn (sym (own (calls i (set_up n t o g bytes)) h)) (by_set_up (board_after h i) ih (set_up_of n t o g bytes).verdict (set_up_of n t o g bytes).party)
    by_call (start p input lent used) x =
        subst AskedIn (sym (own (calls i (start p input lent used)) h))
        (by_entry (board_after h i) ih (a_start (position_of p.plan (voted_input input)) input) p lent used (start_finds p input lent used)
        (by_start p input lent used x (position_of p.plan (voted_input input))))
    by_call (take_message_lem p s bytes lent used) x =
        subst AskedIn (sym (own (calls i (take_message_lem p s bytes lent used)) h))
        (by_entry (board_after h i) ih (a_take s (exact_message bytes)) p lent used (take_finds p s bytes lent used) (λ e w. tt))
    by_call (read_answer p) x = subst AskedIn (sym (own (calls i (read_answer p)) h)) (by_answer (board_after h i) ih (answered_of p).answer)
    by_call (read_count p g c) x = subst AskedIn (sym (own (calls i (read_count p g c)) h)) (by_answer (board_after h i) ih (read_as_count p g c).answer)
    by_call (restore n t o g bytes lent) x =
        subst AskedIn (sym (own (calls i (restore n t o g bytes lent)) h)) (by_restore (board_after h i) ih lent (restore_finds n t o g bytes lent))

  by_own : (s : Step) (h : History) → May v bad s h → Allowed v bad h → AskedIn (board_after h (whose s)) → AskedIn (board_after (s ∷ h) (whose s))
  by_own (calls i c) h (o, m) a ih = go m
    where
      go : Refuses c ⊎ Accepts v bad i h (board_after h i) c → AskedIn (board_after (calls i c ∷ h) i)
      go (inl r) = subst AskedIn (sym (refused_nothing h i c r)) ih
      go (inr x) = by_call h a i o.0 ih c x
  by_own (hands i bytes) h m a ih = subst AskedIn (sym (own (hands i bytes) h)) ih
  by_own (cut i left) h m a ih = subst AskedIn (sym (own (cut i left) h)) (by_cut (board_after h i) ih (board_after h i).stage left)

  all_asked : (h : History) → Allowed v bad h → (i : ℕ) → AskedIn (board_after h i)
  unfolding board_after
  all_asked [] a i = λ d m. absurd (Memᴰ.not-nil m)
  all_asked (s ∷ h) (m, a) i = go (eqb (whose s) i) refl (all_asked h a)
    where
      go : (b : Bool) → eqb (whose s) i ≡ b → ((j : ℕ) → AskedIn (board_after h j)) → AskedIn (board_after (s ∷ h) i)
      go true e ih = subst (λ (j : ℕ). AskedIn (board_after (s ∷ h) j)) (eqb→eq (whose s) i (true→T e)) (by_own s h m a (ih (whose s)))
      go false e ih = subst AskedIn (sym (other s h i e)) (ih i)

  -- A start by count that counts has a step size that passes, on a range that has its nearest step.
  pub count_asked : (h : History) → Allowed v bad h → (i x g : ℕ) (c : ℤ) → StartedBy h i x (by_count g c) → Startable plan (by_count g c)
  count_asked h a i x g c (d, m, e) =
      let w = subst (Asked plan) e (all_asked h a i d m) in
      let r = record_of plan (new_board v plan i) (board_after h i).counted (records_of h i) (follows v plan bad f h a i) d m in
      let s : Says plan (a_start x (by_count g c)) r.0 = subst (λ (k : Act). Says plan k r.0) e r.2 in
      (w.0, w.1, λ n. s.3 (sym s.2 ∙ n))

-- ---- one start

-- a start does not fit a party that has started
second_start : (p : Party) (a x : ℕ) → T (started p) → Fits p (Start a x) → ⊥
second_start p a x s w = go (started p) s (eqb a p.agreement) (T-left (eqb (fault_of p (started p) (Start a x)) 0) (tabled (Start a x)) w)
  where
    go : (begun : Bool) → T begun → (b : Bool) → T (eqb (pick b (pick begun 13 (pick (ltb x p.plan.count) 0 12)) 16) 0) → ⊥
    go true t true z = z
    go true t false z = z
    go false t b z = t

module _ (plan : Plan) (p : Party) (begun : (rs : List Record) → Life p rs → (a x : ℕ) → Memᴰ (Start a x) rs → T (started (lived p rs).party)) where
  -- two starts that count are one call's
  same_act : (cs : List Counted) (rs : List Record) → Follows plan p cs rs → Life p rs → (c d : Counted) → Memᴰ c cs → Memᴰ d cs
      → (x y : ℕ) (input input' : StartInput) → c.act ≡ a_start x input → d.act ≡ a_start y input' → a_start x input ≡ a_start y input'
  same_act [] rs w l c d m n x y s t e i = absurd (Memᴰ.not-nil m)
  same_act (b ∷ cs) rs (inl (r, w)) l c d m n x y s t e i = go (Memᴰ.cases_cons m) (Memᴰ.cases_cons n) (same_act cs rs w l c d)
    where
      no_take : (z : Counted) (k : ℕ) (u : StartInput) → z ≡ b → z.act ≡ a_start k u → ⊥
      no_take z k u q o =
          let f : a_take r.sender _ ≡ a_start k u = sym r.act ∙ ap (λ (y : Counted). y.act) (sym q) ∙ o in
          let o : ◌≡◌ {A = ℕ} 0 1 = cc in omega arith

      go : (c ≡ b) ⊎ Memᴰ c cs → (d ≡ b) ⊎ Memᴰ d cs
          → (Memᴰ c cs → Memᴰ d cs → (x y : ℕ) (input input' : StartInput) → c.act ≡ a_start x input → d.act ≡ a_start y input' → a_start x input ≡ a_start y input')
          → a_start x s ≡ a_start y t
      go (inl q) k ih = absurd (no_take c x s q e)
      go (inr j) (inl q) ih = absurd (no_take d y t q i)
      go (inr j) (inr k) ih = ih j k x y s t e i
  same_act (b ∷ cs) rs (inr (older, r, w)) l c d m n x y s t e i =
      go (Memᴰ.cases_cons m) (Memᴰ.cases_cons n) (same_act cs older w lives.1 c d)
    where
      lives : Life p (r.newest ∷ older)
      lives = subst (Life p) r.records l

      -- the newest record is a start, and an older one too
      two : (z z' : Counted) (k k' : ℕ) (u u' : StartInput) → z ≡ b → Memᴰ z' cs → z.act ≡ a_start k u → z'.act ≡ a_start k' u' → ⊥
      two z z' k k' u u' q j o o' =
          let first : Says plan (a_start k u) r.newest = subst (λ (y : Act). Says plan y r.newest) (ap (λ (y : Counted). y.act) (sym q) ∙ o) r.says in
          let old = record_of plan p cs older w z' j in
          let second : Says plan (a_start k' u') old.0 = subst (λ (y : Act). Says plan y old.0) o' old.2 in
          second_start (lived p older).party first.0 k
          (begun older lives.1 second.0 k' (subst (λ (y : Record). Memᴰ y older) (sym second.1) old.1))
          (subst (Fits (lived p older).party) (sym first.1) lives.0)

      go : (c ≡ b) ⊎ Memᴰ c cs → (d ≡ b) ⊎ Memᴰ d cs
          → (Memᴰ c cs → Memᴰ d cs → (x y : ℕ) (input input' : StartInput) → c.act ≡ a_start x input → d.act ≡ a_start y input' → a_start x input ≡ a_start y input')
          → a_start x s ≡ a_start y t
      go (inl q) (inl q') ih = sym e ∙ ap (λ (y : Counted). y.act) (q ∙ sym q') ∙ i
      go (inl q) (inr k) ih = absurd (two c d x y s t q k e i)
      go (inr j) (inl q) ih = absurd (two d c y x t s q j i e)
      go (inr j) (inr k) ih = ih j k x y s t e i

-- A board has one start that counts.
pub one_start : OneStart
one_start v plan bad h given i x y input input' o (c, m, e) (d, n, e') =
    let w = tied v plan bad given.shared h given.allowed i o.0 in
    let p = new_board v plan i in
    let begun : (rs : List Record) → Life p rs → (a x : ℕ) → Memᴰ (Start a x) rs → T (started (lived p rs).party) =
    λ rs l a x m. (start_lived p (board_regular v plan given.shared i o.0) rs l a x m).2 in
    let acts = same_act plan p begun (board_after h i).counted (records_of h i) (follows v plan bad given.shared h given.allowed i)
    (subst (Life p) (sym (records_of_lem v plan bad given.shared h given.allowed i o.0)) w.life) c d m n x y input input' e e' in
    (cc, cc)
