-- The messages that a call makes are those that its party has made and the party before it had not.
use mathlib.Core.Path.{◌≡◌, refl, sym, ap, ◌∙◌, subst}
use mathlib.Core.Logic.{◌⊎◌, inl, inr}
use mathlib.Core.Bool.{Bool, true, false}
use mathlib.Core.List.Memᴰ
use mathlib.Core.List.{List, ◌++◌, Memᴰ}
use Prim.Native.Nat.{ℕ, zero, suc, ◌<◌}
use lib.Dec.{T, leb, ltb, ltb→lt, le→leb}
use Rattle.base.specs.Pick.{pick}
use Rattle.base.specs.Limits.{level_count, max_rules}
use Rattle.base.proofs.Bools.{T_and}
use Rattle.message.specs.declared.Body.{Body}
use Rattle.message.specs.declared.Message.{Message}
use Rattle.message.specs.Message.{in_table, body_in_table, last_level}
use Rattle.level.specs.declared.Context.{Context}
use Rattle.level.specs.Rules.{Effect}
use Rattle.level.specs.Rules.{Nothing, Quiet, Send, Enter, SendEnter}
use Rattle.level.specs.Level.{Level, with_entry}
use Rattle.level.specs.Rules.{lowest_rule}
use Rattle.level_laws.proofs.Law.{Same, untouched_entry}
use Rattle.level_laws.proofs.Grows.{grows_refl}
use Rattle.level_laws.specs.Inner.{SentIn}
use Rattle.level_laws.proofs.Messages.{Makes, sent_step, sent_grows, sent_heard, sent_table, untouched_sent}
use Rattle.party.specs.Party.{Party, level_at, sending, context_of, entered, started, held_by, hearing}
use Rattle.party.specs.Run.{Ran, rule_at, open_at, open_level, made_by, step_at, one_more, resting, run_up_to, run, starting, taking}
use Rattle.party_laws.proofs.Laws.{sending_entered, sending_level, entered_level, open_sending, open_level_lem, runs_kept, runs_grown}
use Rattle.execution.specs.Machine.{Event, start, take}
use Rattle.vote_machine.specs.Machine.{accepts, accepted, called, Sent}
use Rattle.vote_machine.specs.Inner.{Regular, Le}
use Rattle.vote_machine.proofs.Order.{kept_le, le_sending, le_same, le_sent}
use Rattle.vote_machine.proofs.Changes as changes
use Rattle.vote_machine.proofs.Changes.{NextOld, Change, Changed, heard_fields}
use Rattle.vote_machine.proofs.Calls.{hearing_changed, entered_changed}
use Rattle.vote_machine.proofs.Steps.{valued, step_changed, step_own}
use Rattle.vote_machine.proofs.Kept.{regular_hearing, regular_entered, regular_step, called_cases, start_fits, take_fits}

-- ---- one step

same_sym : (c c' : Context) → Same c c' → Same c' c
same_sym c c' e = record { n = sym e.n; t = sym e.t; degree = sym e.degree; port = sym e.port; centre = sym e.centre }

-- a message made at level j after a step was made before, or by the rule applied there
module _ (p q : Party) (R : ℕ → Type 0) (r : Regular p) (o : Le p q) (j : ℕ) (k : j < level_count) (on : T (sending q j)) where
  abbrev l : Level
  l = level_at p j

  abbrev c : Context
  c = context_of p j

  abbrev c' : Context
  c' = context_of q j

  told_before : (b : Body) → T (level_at p j).entered → NextOld p q j → SentIn (context_of q j) (level_at p j) b
      → T (sending p j) × SentIn (context_of p j) (level_at p j) b
  told_before b h nx x = (subst T (le_sending p q o j h) on, sent_grows c' c l l (same_sym c c' (le_same p q o j h)) nx (grows_refl l) b x)

  told_change : Change p q R j → (b : Body) → SentIn (context_of q j) (level_at q j) b
      → (T (sending p j) × SentIn (context_of p j) (level_at p j) b) ⊎ (R j × Makes (lowest_rule (context_of p j) (level_at p j)).effect b)
  told_change (changes.same e nx) b x =
      inl (told_before b (subst (λ (m : Level). T m.entered) e (sending_entered q j on)) nx (subst (λ (m : Level). SentIn c' m b) e x))
  told_change (changes.heard b' s z e nx) b x =
      inl (told_before b (subst T (ap (λ (m : Level). m.entered) e ∙ (heard_fields l b' s).0) (sending_entered q j on)) nx
      ((sent_heard c' l b' s b).0 (subst (λ (m : Level). SentIn c' m b) e x)))
  told_change (changes.entered i x out new e f g nx) b y =
      absurd (untouched_sent c' (with_entry l i x out) (untouched_entry l i x out (r.untouched j k (λ z. new (sending_entered p j z)))) b
      (subst (λ (m : Level). SentIn c' m b) e y))
  told_change (changes.ruled y z e a) b x =
      go ((sent_step c c' l (valued p r.formed j (sending_entered p j z)) (r.law j z) (r.descends j z) a).back b (subst (λ (m : Level). SentIn c' m b) e x))
    where
      go : SentIn c l b ⊎ Makes (lowest_rule c l).effect b → (T (sending p j) × SentIn c l b) ⊎ (R j × Makes (lowest_rule c l).effect b)
      go (inl u) = inl (z, u)
      go (inr u) = inr (y, u)

sent_changed : (p q : Party) (R : ℕ → Type 0) → Regular p → Changed p q R → (m : Message) → Sent q m
    → Sent p m ⊎ (R m.level × Makes (lowest_rule (context_of p m.level) (level_at p m.level)).effect m.body)
sent_changed p q R r x m s =
    go (told_change p q R r x.le m.level k s.sends (x.each m.level k) m.body s.body)
  where
    k : m.level < level_count
    k = (entered_level q x.formed m.level (sending_entered q m.level s.sends)).exists

    go : (T (sending p m.level) × SentIn (context_of p m.level) (level_at p m.level) m.body)
        ⊎ (R m.level × Makes (lowest_rule (context_of p m.level) (level_at p m.level)).effect m.body)
        → Sent p m ⊎ (R m.level × Makes (lowest_rule (context_of p m.level) (level_at p m.level)).effect m.body)
    go (inl y) = inl (record { number = s.number ∙ x.le.board.agreement; sends = y.0; body = y.1 })
    go (inr y) = inr y

-- a step without a rule makes none
unmade : (p q : Party) → Regular p → Changed p q (λ _. ⊥) → (m : Message) → Sent q m → Sent p m
unmade p q r x m s = go (sent_changed p q (λ _. ⊥) r x m s)
  where
    go : Sent p m ⊎ (⊥ × Makes (lowest_rule (context_of p m.level) (level_at p m.level)).effect m.body) → Sent p m
    go (inl y) = y
    go (inr y) = absurd y.0

-- ---- one rule

-- the messages in the list that an effect makes at level i
made_makes : (p : Party) (i : ℕ) (e : Effect) (m : Message) → Memᴰ m (made_by p.agreement i e) → (m.number ≡ p.agreement) × (m.level ≡ i) × Makes e m.body
made_makes p i Nothing m h = absurd (Memᴰ.not-nil h)
made_makes p i Quiet m h = absurd (Memᴰ.not-nil h)
made_makes p i (Send b) m h =
    let e = Memᴰ.eq_of_singleton h in
    (ap (λ (x : Message). x.number) e, ap (λ (x : Message). x.level) e, sym (ap (λ (x : Message). x.body) e))
made_makes p i (Enter k keep) m h = absurd (Memᴰ.not-nil h)
made_makes p i (SendEnter k) m h =
    let e = Memᴰ.eq_of_singleton h in
    (ap (λ (x : Message). x.number) e, ap (λ (x : Message). x.level) e, sym (ap (λ (x : Message). x.body) e))

makes_made : (p : Party) (i : ℕ) (e : Effect) (m : Message) → m.number ≡ p.agreement → m.level ≡ i → Makes e m.body → Memᴰ m (made_by p.agreement i e)
makes_made p i Nothing m a l b = absurd b
makes_made p i Quiet m a l b = absurd b
makes_made p i (Send x) m a l b = Memᴰ.head (λ z. record { number = a z; level = l z; body = sym b z })
makes_made p i (Enter k keep) m a l b = absurd b
makes_made p i (SendEnter k) m a l b = Memᴰ.head (λ z. record { number = a z; level = l z; body = sym b z })

module _ (p : Party) (r : Regular p) (i : ℕ) (h : T (open_at p i)) where
  abbrev q : Party
  q = step_at p i

  abbrev e : Effect
  e = (lowest_rule (context_of p i) (level_at p i)).effect

  -- the rule's message is made
  step_made : (m : Message) → Memᴰ m (made_by p.agreement i (rule_at p i).effect) → Sent (step_at p i) m
  unfolding rule_at
  step_made m x =
      let y = made_makes p i e m x in
      let on = open_sending p i h in
      let w = step_own p r i h in
      let s = sent_step (context_of p i) (context_of q i) (level_at p i) (valued p r.formed i (sending_entered p i on)) (r.law i on) (r.descends i on) w.1 in
      let b = (step_changed p r i h).le in
      record {
        number = y.0 ∙ sym b.board.agreement;
        sends = subst (λ (j : ℕ). T (sending q j)) (sym y.1) (subst T (sym (le_sending p q b i (sending_entered p i on))) on);
        body = subst (λ (j : ℕ). SentIn (context_of q j) (level_at q j) m.body) (sym y.1)
            (subst (λ (l : Level). SentIn (context_of q i) l m.body) (sym w.0) (s.made m.body y.2));
      }

  -- and no other
  step_back : (m : Message) → Sent (step_at p i) m → Sent p m ⊎ Memᴰ m (made_by p.agreement i (rule_at p i).effect)
  unfolding rule_at
  step_back m s = go (sent_changed p q (λ j. j ≡ i) r (step_changed p r i h) m s)
    where
      go : Sent p m ⊎ ((m.level ≡ i) × Makes (lowest_rule (context_of p m.level) (level_at p m.level)).effect m.body)
          → Sent p m ⊎ Memᴰ m (made_by p.agreement i (lowest_rule (context_of p i) (level_at p i)).effect)
      go (inl y) = inl y
      go (inr y) =
          inr (makes_made p i e m (s.number ∙ (step_changed p r i h).le.board.agreement) y.0
          (subst (λ (j : ℕ). Makes (lowest_rule (context_of p j) (level_at p j)).effect m.body) y.0 y.1))

-- ---- runs

-- the messages of a are made in its party, and no others were made since p
pub record Tells (p : Party) (a : Ran) : Type 0 where
  pub made : (m : Message) → Memᴰ m a.made → Sent a.party m
  pub back : (m : Message) → Sent a.party m → Sent p m ⊎ Memᴰ m a.made

pub tells_resting : (p : Party) → Tells p (resting p)
tells_resting p = record { made = λ m h. absurd (Memᴰ.not-nil h); back = λ m. inl }

-- from a party that has made the same messages
tells_from : (p q : Party) (a : Ran) → ((m : Message) → Sent q m → Sent p m) → Tells q a → Tells p a
tells_from p q a f t = record { made = t.made; back = λ m s. go m (t.back m s) }
  where
    go : (m : Message) → Sent q m ⊎ Memᴰ m a.made → Sent p m ⊎ Memᴰ m a.made
    go m (inl s) = inl (f m s)
    go m (inr h) = inr h

-- one rule before others
tells_more : (p : Party) (r : Regular p) (i : ℕ) (h : T (open_at p i)) (a : Ran) → Le (step_at p i) a.party → Tells (step_at p i) a
    → Tells p (one_more (made_by p.agreement i (rule_at p i).effect) a)
tells_more p r i h a o t = record {
  made = λ m x. from m (Memᴰ.append_cases ms x);
  back = λ m s. to m (t.back m s);
}
  where
    ms : List Message
    ms = made_by p.agreement i (rule_at p i).effect

    from : (m : Message) → Memᴰ m ms ⊎ Memᴰ m a.made → Sent a.party m
    from m (inl x) = le_sent (step_at p i) a.party o m (step_made p r i h m x)
    from m (inr x) = t.made m x

    here : (m : Message) → Sent p m ⊎ Memᴰ m ms → Sent p m ⊎ Memᴰ m (ms ++ a.made)
    here m (inl s) = inl s
    here m (inr x) = inr (Memᴰ.append_left a.made x)

    to : (m : Message) → Sent (step_at p i) m ⊎ Memᴰ m a.made → Sent p m ⊎ Memᴰ m (ms ++ a.made)
    to m (inl s) = here m (step_back p r i h m s)
    to m (inr x) = inr (Memᴰ.append_right ms x)

le_runs : (f : ℕ) (p : Party) → Regular p → Le p (run_up_to f p).party
le_runs f p r = kept_le p (run_up_to f p).party r.formed (runs_kept f p).0 (runs_grown p r.formed.full r.fresh f).0

tells_runs : (f : ℕ) (p : Party) → Regular p → Tells p (run_up_to f p)
unfolding run_up_to
tells_runs zero p r = tells_resting p
tells_runs (suc f) p r = go (ltb (open_level p) level_count) refl (tells_runs f (step_at p (open_level p)))
  where
    next : Ran
    next = run_up_to f (step_at p (open_level p))

    go : (b : Bool) → ltb (open_level p) level_count ≡ b → (Regular (step_at p (open_level p)) → Tells (step_at p (open_level p)) next)
        → Tells p (pick b (one_more (made_by p.agreement (open_level p) (rule_at p (open_level p)).effect) next) (resting p))
    go true e ih =
        let h = open_level_lem p (ltb→lt (open_level p) level_count (subst T (sym e) tt)) in
        let s = regular_step p r (open_level p) h in
        tells_more p r (open_level p) h next (le_runs f (step_at p (open_level p)) s) (ih s)
    go false e ih = tells_resting p

pub tells_run : (p : Party) → Regular p → Tells p (run p)
unfolding run
tells_run p r = tells_runs max_rules p r

-- ---- calls

pub tells_starting : (p : Party) → Regular p → (x : ℕ) → (T (started p) → ⊥) → x < p.plan.count → Tells p (starting p x)
unfolding starting
tells_starting p r x new k =
    tells_from p (entered p x) (run (entered p x)) (unmade p (entered p x) r (entered_changed p r x new k)) (tells_run (entered p x) (regular_entered p r x new k))

pub tells_taking : (p : Party) → Regular p → (s : ℕ) (m : Message) → s < p.n → T (in_table m) → Tells p (taking p s m)
unfolding taking
tells_taking p r s m k t = go (held_by p s m)
  where
    go : (b : Bool) → Tells p (pick b (resting p) (run (hearing p s m)))
    go true = tells_resting p
    go false =
        tells_from p (hearing p s m) (run (hearing p s m)) (unmade p (hearing p s m) r (hearing_changed p r s m k t))
        (tells_run (hearing p s m) (regular_hearing p r s m k t))

tells_accepted : (p : Party) → Regular p → (e : Event Message ℕ) → T (accepts p e) → Tells p (accepted p e)
tells_accepted p r (start x) h = let f = start_fits p x h in tells_starting p r x f.0 f.1
tells_accepted p r (take s m) h = let f = take_fits p s m h in tells_taking p r s m f.0 f.1

pub tells_called : (p : Party) → Regular p → (e : Event Message ℕ) → Tells p (called p e)
tells_called p r e = called_cases (Tells p) p e (tells_accepted p r e) (tells_resting p)

-- ---- a message that was made is of the table

pub sent_proper : (p : Party) → Regular p → (m : Message) → Sent p m → T (in_table m)
sent_proper p r m s =
    let on = s.sends in
    T_and (leb m.level last_level) (body_in_table m.body) (le→leb m.level last_level (sending_level p r.formed m.level on).last)
    (sent_table (context_of p m.level) (level_at p m.level) (valued p r.formed m.level (sending_entered p m.level on)) (r.law m.level on) m.body s.body)
