-- What one step makes of each level of a party, and that what holds of every party is kept.
use mathlib.Core.Path.{◌≡◌, refl, sym, ap, ◌∙◌, subst}
use mathlib.Core.Logic.{◌⊎◌, inl, inr}
use Prim.Native.Nat.{ℕ, suc, ◌<◌}
use native.Mathlib.Numerals.{add-one}
use native.Mathlib.Omega.{arith}
use lib.Dec.{T}
use Rattle.base.specs.Limits.{level_count}
use Rattle.message.specs.declared.Body.{Body}
use Rattle.level.specs.declared.Context.{Context}
use Rattle.level.specs.Level.{Level, no_output, with_heard, with_entry}
use Rattle.level.specs.Rules.{lowest_rule}
use Rattle.level_laws.specs.Inner.{Heard, Law, Untouched, Descends, OutputBy}
use Rattle.level_laws.proofs.Law.{untouched_law, untouched_entry, heard_entry, law_same, lowest_law}
use Rattle.level_laws.proofs.Grows.{grows_heard}
use Rattle.level_laws.proofs.Evidence.{heard_keeps, law_heard, untouched_heard}
use Rattle.level_laws.proofs.Messages.{After, descends_grows, descends_lowest}
use Rattle.level_laws.proofs.Output.{unanswered_output, output_later, output_heard, lowest_output}
use Rattle.party.specs.Party.{Party, level_at, sending, context_of}
use Rattle.party_laws.proofs.Laws.{Formed, Fresh, sending_entered, entered_level, entered_before, context_centre, position_output}
use Rattle.vote_machine.specs.Inner.{EntryBy, Regular, Le}
use Rattle.vote_machine.proofs.Order.{le_sending, le_same, le_later}
use Rattle.vote_machine.proofs.Entries.{entry_grows}

-- level j + 1 is entered in q only if it was in p
abbrev pub NextOld : Party → Party → ℕ → Type 0
NextOld p q j = T (context_of q j).next_entered → T (context_of p j).next_entered

-- what became of level j from p to q; R tells the levels at which a rule was applied
pub data Change (p q : Party) (R : ℕ → Type 0) (j : ℕ) : Type 0 where
  same : level_at q j ≡ level_at p j → NextOld p q j → Change p q R j
  -- a message was taken
  heard : (b : Body) (s : ℕ) → s < p.n → level_at q j ≡ with_heard (level_at p j) b s → NextOld p q j → Change p q R j
  -- it was entered: with three or more positions the output stays, with fewer it is the position
  entered : (k x out : ℕ) → (T (level_at p j).entered → ⊥) → level_at q j ≡ with_entry (level_at p j) k x out
      → (T (sending q j) → out ≡ (level_at p j).output) → ((T (sending q j) → ⊥) → out ≡ x) → NextOld p q j → Change p q R j
  -- the lowest rule was applied
  ruled : R j → T (sending p j) → level_at q j ≡ (lowest_rule (context_of p j) (level_at p j)).level
      → After (context_of p j) (lowest_rule (context_of p j) (level_at p j)).effect (context_of q j) → Change p q R j

-- from p to q in one step
pub record Changed (p q : Party) (R : ℕ → Type 0) : Type 0 where
  pub le : Le p q
  pub formed : Formed q
  pub fresh : Fresh q
  pub each : (j : ℕ) → j < level_count → Change p q R j
  -- a level that is entered was so before, or this says how
  pub entry : (j : ℕ) → T (level_at q (suc j)).entered → T (level_at p (suc j)).entered ⊎ EntryBy q j

-- ---- each part is kept

pub heard_fields : (l : Level) (b : Body) (s : ℕ) → ((with_heard l b s).entered ≡ l.entered) × ((with_heard l b s).output ≡ l.output) × ((with_heard l b s).position ≡ l.position)
unfolding with_heard
heard_fields l b s = (refl, refl, refl)

pub context_n : (p : Party) (i : ℕ) → (context_of p i).n ≡ p.n
unfolding context_of
context_n p i = refl

module _ (p q : Party) (R : ℕ → Type 0) (r : Regular p) (o : Le p q) (j : ℕ) where
  abbrev l : Level
  l = level_at p j

  abbrev c : Context
  c = context_of p j

  abbrev c' : Context
  c' = context_of q j

  -- a level that sends, and was entered before, did send
  sent_before : T (level_at p j).entered → T (sending q j) → T (sending p j)
  sent_before h on = subst T (le_sending p q o j h) on

  sends_still : T (sending p j) → T (sending q j)
  sends_still on = subst T (sym (le_sending p q o j (sending_entered p j on))) on

  -- the entry of the next level, told with suc
  next_entered_lem : T (context_of p j).next_entered → T (level_at p (suc j)).entered
  unfolding context_of
  next_entered_lem n = subst (λ (i : ℕ). T (level_at p i).entered) (add-one j) n

  -- a level is not entered while the next one is
  gapless : (T (level_at p j).entered → ⊥) → T (context_of p j).next_entered → ⊥
  gapless new n = new (sending_entered p j (entered_before p r.formed j (next_entered_lem n)))

  -- where nothing was entered
  idle : (T (level_at p j).entered → ⊥) → T (sending p j) → ⊥
  idle new on = new (sending_entered p j on)

  centre_there : T (sending p j) → (context_of p j).centre ≡ no_output → ⊥
  centre_there on = position_output p r.formed (context_of p j).centre (context_centre p r.formed j on)

  law_change : Change p q R j → T (sending q j) → j < level_count → Law (context_of q j) (level_at q j)
  law_change (same e nx) on k =
      let h = subst (λ (m : Level). T m.entered) e (sending_entered q j on) in
      subst (Law c') (sym e) (law_same c c' l (le_same p q o j h) (r.law j (sent_before h on)))
  law_change (heard b s z e nx) on k =
      let h = subst T (ap (λ (m : Level). m.entered) e ∙ (heard_fields l b s).0) (sending_entered q j on) in
      subst (Law c') (sym e) (law_same c c' (with_heard l b s) (le_same p q o j h) (law_heard c l b s (omega (arith, context_n p j)) (r.law j (sent_before h on))))
  law_change (entered i x out new e f g nx) on k =
      subst (Law c') (sym e)
      (untouched_law c' (with_entry l i x out) (subst (λ (n : ℕ). Heard n (with_entry l i x out)) (sym (context_n q j ∙ o.board.n)) (heard_entry p.n l i x out (r.heard j k)))
      (untouched_entry l i x out (r.untouched j k (idle new))))
  law_change (ruled y z e a) on k = subst (Law c') (sym e) (lowest_law c c' l a.same (centre_there z) (r.law j z))

  heard_change : Change p q R j → j < level_count → Heard q.n (level_at q j)
  heard_change (same e nx) k = subst (Heard q.n) (sym e) (subst (λ (n : ℕ). Heard n l) (sym o.board.n) (r.heard j k))
  heard_change (heard b s z e nx) k =
      subst (Heard q.n) (sym e) (subst (λ (n : ℕ). Heard n (with_heard l b s)) (sym o.board.n) (heard_keeps p.n l b s z (r.heard j k)))
  heard_change (entered i x out new e f g nx) k =
      subst (Heard q.n) (sym e) (subst (λ (n : ℕ). Heard n (with_entry l i x out)) (sym o.board.n) (heard_entry p.n l i x out (r.heard j k)))
  heard_change (ruled y z e a) k = subst (λ (n : ℕ). Heard n (level_at q j)) (context_n q j) (law_change (ruled y z e a) (sends_still z) k).heard

  descends_change : Change p q R j → T (sending q j) → Descends (context_of q j) (level_at q j)
  descends_change (same e nx) on =
      let h = subst (λ (m : Level). T m.entered) e (sending_entered q j on) in
      subst (Descends c') (sym e) (λ n. r.descends j (sent_before h on) (nx n))
  descends_change (heard b s z e nx) on =
      let h = subst T (ap (λ (m : Level). m.entered) e ∙ (heard_fields l b s).0) (sending_entered q j on) in
      subst (Descends c') (sym e) (descends_grows c c' l (with_heard l b s) nx (grows_heard l b s) (r.descends j (sent_before h on)))
  descends_change (entered i x out new e f g nx) on = λ n. absurd (gapless new (nx n))
  descends_change (ruled y z e a) on = subst (Descends c') (sym e) (descends_lowest c c' l (r.law j z) a (r.descends j z))

  output_change : Change p q R j → T (sending q j) → j < level_count → OutputBy (context_of q j) (level_at q j)
  output_change (same e nx) on k =
      let h = subst (λ (m : Level). T m.entered) e (sending_entered q j on) in
      subst (OutputBy c') (sym e) (output_later c c' l (le_later p q o j h) (r.output j (sent_before h on)))
  output_change (heard b s z e nx) on k =
      let h = subst T (ap (λ (m : Level). m.entered) e ∙ (heard_fields l b s).0) (sending_entered q j on) in
      let was = sent_before h on in
      subst (OutputBy c') (sym e)
      (output_later c c' (with_heard l b s) (le_later p q o j h) (output_heard c l b s (omega (arith, context_n p j)) (r.law j was).heard (r.output j was)))
  output_change (entered i x out new e f g nx) on k =
      subst (OutputBy c') (sym e) (unanswered_output c' (with_entry l i x out) (f on ∙ (r.fresh j k new).output))
  output_change (ruled y z e a) on k = subst (OutputBy c') (sym e) (lowest_output c c' l (le_later p q o j (sending_entered p j z)) (r.output j z))

  untouched_change : Change p q R j → j < level_count → (T (sending q j) → ⊥) → Untouched (level_at q j)
  untouched_change (same e nx) k off = subst Untouched (sym e) (r.untouched j k (λ on. off (sends_still on)))
  untouched_change (heard b s z e nx) k off = subst Untouched (sym e) (untouched_heard l b s (r.untouched j k (λ on. off (sends_still on))))
  untouched_change (entered i x out new e f g nx) k off = subst Untouched (sym e) (untouched_entry l i x out (r.untouched j k (idle new)))
  untouched_change (ruled y z e a) k off = absurd (off (sends_still z))

  small_change : Change p q R j → T (level_at q j).entered → (T (sending q j) → ⊥) → (level_at q j).output ≡ (level_at q j).position
  small_change (same e nx) h off =
      subst (λ (m : Level). m.output ≡ m.position) (sym e) (r.small j (subst (λ (m : Level). T m.entered) e h) (λ on. off (sends_still on)))
  small_change (heard b s z e nx) h off =
      let i = heard_fields l b s in
      subst (λ (m : Level). m.output ≡ m.position) (sym e)
      (i.1 ∙ r.small j (subst T (ap (λ (m : Level). m.entered) e ∙ i.0) h) (λ on. off (sends_still on)) ∙ sym i.2)
  small_change (entered i x out new e f g nx) h off = subst (λ (m : Level). m.output ≡ m.position) (sym e) (g off)
  small_change (ruled y z e a) h off = absurd (off (sends_still z))

-- ---- all of it

pub regular_changed : (p q : Party) (R : ℕ → Type 0) → Regular p → Changed p q R → Regular q
regular_changed p q R r x = record {
  formed = x.formed;
  fresh = x.fresh;
  heard = λ j k. heard_change p q R r x.le j (x.each j k) k;
  law = λ j on. let k = exists j (sending_entered q j on) in law_change p q R r x.le j (x.each j k) on k;
  descends = λ j on. descends_change p q R r x.le j (x.each j (exists j (sending_entered q j on))) on;
  output = λ j on. let k = exists j (sending_entered q j on) in output_change p q R r x.le j (x.each j k) on k;
  untouched = λ j k off. untouched_change p q R r x.le j (x.each j k) k off;
  small = λ j h off. small_change p q R r x.le j (x.each j (exists j h)) h off;
  entry = λ j h. by j (x.entry j h);
}
  where
    exists : (j : ℕ) → T (level_at q j).entered → j < level_count
    exists j h = (entered_level q x.formed j h).exists

    by : (j : ℕ) → T (level_at p (suc j)).entered ⊎ EntryBy q j → EntryBy q j
    by j (inl h) = entry_grows p q r.formed x.le j h (r.entry j h)
    by j (inr e) = e
