-- The code's record of a party stands for one party, and one party only; its levels and sets of senders are read and stored one by one.
use mathlib.Core.Path.{◌≡◌, refl, sym, ap, ap₂, ◌∙◌}
use mathlib.Core.Bool.{Bool, true}
use mathlib.Core.List.{List, [], ◌∷◌, ◌++◌, map}
use Prim.Native.Nat.{ℕ, zero, suc, ◌+◌, ◌-◌, ◌*◌, ◌<◌}
use native.Mathlib.Nat.{not-suc-le-zero, mul-suc, zero-add}
use native.Mathlib.Omega.{arith}
use lib.ListN.{length, get_or, set, take, drop, replicate, take-append-drop, length-drop, length-replicate, replicate-append-replicate}
use lib.Seq.{take-nil, take-set-le, take-set-lt, drop-set-lt, drop-set-add, drop-drop, get_or-take, get_or-drop, take_at, drop_at}
use Rattle.message.specs.declared.Message.{Message}
use Rattle.message.specs.Message.{in_table}
use Rattle.message.proofs.RoundTrip.{table_parts}
use Rattle.senders.specs.Senders.{is_in, with_sender}
use Rattle.plan.specs.Plan.{Plan}
use Rattle.plan.specs.declared.Plan as CodePlan
use Rattle.plan.specs.Tie.{as_plan}
use Rattle.level_counts.proofs.Slots.{slot_lt}
use Rattle.level.specs.Level.{Level, no_level, slot_count, slot, senders, held, with_heard}
use Rattle.level.specs.declared.Level as CodeLevel
use Rattle.level.specs.Inner.{no_code_level}
use Rattle.level.specs.Tie.{as_level}
use Rattle.party.specs.Party.{Party, level_at, with_level, started, output_of, held_by, hearing}
use Rattle.party.specs.Tie.{tied, sets_at, party_in, vote_of, as_party}
use Rattle.party.specs.Inner.{Whole}
use Rattle.party.specs.declared.Vote.{Vote}
use Rattle.party.specs.declared.Party as Code

-- ---- levels one by one

-- past the first w, and i times w more
further : {A : Type 0} (w i : ℕ) (s : List A) → drop (w * i) (drop w s) ≡ drop (w * suc i) s
further w i s =
    let e : w + w * i ≡ w * suc i = omega (arith, mul-suc w i) in
    drop-drop (w * i) w s ∙ ap (λ (k : ℕ). drop k s) e

none : (w : ℕ) → 0 ≡ w * 0
none w = omega arith

pub length_tied : (w : ℕ) (ls : List CodeLevel.Level) (s : List ℕ) → length (tied w ls s) ≡ length ls
unfolding tied
length_tied w [] s = refl
length_tied w (l ∷ ls) s = ap suc (length_tied w ls (drop w s))

-- level i of those tied is what the code reads at i, with its sets
tied_at : (w : ℕ) (ls : List CodeLevel.Level) (s : List ℕ) (i : ℕ) → i < length ls
    → get_or (tied w ls s) i no_level ≡ as_level (take w (drop (w * i) s)) (get_or ls i no_code_level)
unfolding tied
tied_at w [] s i h = absurd (not-suc-le-zero h)
tied_at w (l ∷ ls) s zero h = ap (λ (k : ℕ). as_level (take w (drop k s)) l) (none w)
tied_at w (l ∷ ls) s (suc i) h =
    tied_at w ls (drop w s) i (omega arith) ∙ ap (λ (z : List ℕ). as_level (take w z) (get_or ls i no_code_level)) (further w i s)

-- a level replaced
tied_put : (w : ℕ) (ls : List CodeLevel.Level) (s : List ℕ) (i : ℕ) (l : CodeLevel.Level)
    → tied w (set ls i l) s ≡ set (tied w ls s) i (as_level (take w (drop (w * i) s)) l)
unfolding tied
tied_put w [] s i l = refl
tied_put w (x ∷ ls) s zero l = ap (λ (k : ℕ). as_level (take w (drop k s)) l ∷ tied w ls (drop w s)) (none w)
tied_put w (x ∷ ls) s (suc i) l =
    ap (λ (zs : List Level). as_level (take w s) x ∷ zs)
    (tied_put w ls (drop w s) i l ∙ ap (λ (z : List ℕ). set (tied w ls (drop w s)) i (as_level (take w z) l)) (further w i s))

-- a set of senders replaced, among the first w or after them
tied_first : (w : ℕ) (x : CodeLevel.Level) (ls : List CodeLevel.Level) (s : List ℕ) (k m : ℕ) → k < w
    → tied w (x ∷ ls) (set s k m) ≡ as_level (set (take w s) k m) x ∷ tied w ls (drop w s)
unfolding tied
tied_first w x ls s k m h = ap₂ (λ (y z : List ℕ). as_level y x ∷ tied w ls z) (take-set-lt w s k m h) (drop-set-lt w s k m h)

tied_later : (w : ℕ) (x : CodeLevel.Level) (ls : List CodeLevel.Level) (s : List ℕ) (j m : ℕ)
    → tied w (x ∷ ls) (set s (w + j) m) ≡ as_level (take w s) x ∷ tied w ls (set (drop w s) j m)
unfolding tied
tied_later w x ls s j m = ap₂ (λ (y z : List ℕ). as_level y x ∷ tied w ls z) (take-set-le w s (w + j) m (omega arith)) (drop-set-add w s j m)

tied_heard : (w : ℕ) (ls : List CodeLevel.Level) (s : List ℕ) (i k m : ℕ) → k < w
    → tied w ls (set s (w * i + k) m) ≡ set (tied w ls s) i (as_level (set (take w (drop (w * i) s)) k m) (get_or ls i no_code_level))
unfolding tied
tied_heard w [] s i k m h = refl
tied_heard w (x ∷ ls) s zero k m h =
    let e : w * 0 + k ≡ k = omega arith in
    ap (λ (j : ℕ). tied w (x ∷ ls) (set s j m)) e
    ∙ tied_first w x ls s k m h
    ∙ ap (λ (j : ℕ). as_level (set (take w (drop j s)) k m) x ∷ tied w ls (drop w s)) (none w)
tied_heard w (x ∷ ls) s (suc i) k m h =
    let e : w * suc i + k ≡ w + (w * i + k) = omega (arith, mul-suc w i) in
    ap (λ (j : ℕ). tied w (x ∷ ls) (set s j m)) e
    ∙ tied_later w x ls s (w * i + k) m
    ∙ ap (λ (zs : List Level). as_level (take w s) x ∷ zs)
    (tied_heard w ls (drop w s) i k m h ∙ ap (λ (z : List ℕ). set (tied w ls (drop w s)) i (as_level (set (take w z) k m) (get_or ls i no_code_level))) (further w i s))

-- a part of a list, from either end
pub slice_take : (f w : ℕ) (s : List ℕ) → drop f (take (f + w) s) ≡ take w (drop f s)
slice_take zero w s = ap (λ (k : ℕ). take k s) (zero-add w)
slice_take (suc f) w [] = ap (drop (suc f)) (take-nil (suc f + w)) ∙ sym (take-nil w)
slice_take (suc f) w (x ∷ s) =
    let e : suc f + w ≡ suc (f + w) = omega arith in
    ap (λ (k : ℕ). drop (suc f) (take k (x ∷ s))) e ∙ slice_take f w s

-- ---- of a party whose parts are lent one by one

module _ (v : Vote) (plan : Plan) (ls : List CodeLevel.Level) (s : List ℕ) where
  -- level i of the party is what the code reads at i, with its sets
  pub level_in : (i : ℕ) → i < length ls → level_at (party_in v plan ls s) i ≡ as_level (sets_at s i) (get_or ls i no_code_level)
  unfolding level_at
  level_in i h = tied_at slot_count ls s i h

  -- level i replaced
  pub put_in : (i : ℕ) (l : CodeLevel.Level) → party_in v plan (set ls i l) s ≡ with_level (party_in v plan ls s) i (as_level (sets_at s i) l)
  unfolding with_level
  put_in i l =
      ap (λ (zs : List Level). record { n = v.n; t = v.t; own = v.own; agreement = v.agreement; plan = plan; levels = zs }) (tied_put slot_count ls s i l)

  -- a set of senders of level i replaced
  pub heard_in : (i k m : ℕ) → k < slot_count
      → party_in v plan ls (set s (slot_count * i + k) m) ≡ with_level (party_in v plan ls s) i (as_level (set (sets_at s i) k m) (get_or ls i no_code_level))
  unfolding with_level
  heard_in i k m h =
      ap (λ (zs : List Level). record { n = v.n; t = v.t; own = v.own; agreement = v.agreement; plan = plan; levels = zs }) (tied_heard slot_count ls s i k m h)

  -- ---- a message of the table, whose set lies at `place`

  module _ (m : Message) (t : in_table m ≡ true) (h : m.level < length ls) where
    abbrev place : ℕ
    place = slot_count * m.level + slot m.body

    there : slot m.body < slot_count
    there = slot_lt m.body (table_parts m t).1

    -- the set as the code reads it
    pub senders_in : senders (level_at (party_in v plan ls s) m.level) m.body ≡ get_or s (slot_count * m.level + slot m.body) 0
    unfolding senders
    senders_in =
        ap (λ (l : Level). get_or l.sets (slot m.body) 0) (level_in m.level h)
        ∙ get_or-take slot_count (drop (slot_count * m.level) s) (slot m.body) 0 there
        ∙ get_or-drop (slot_count * m.level) s (slot m.body) 0

    -- was it taken from the sender already?
    pub held_in : (sender : ℕ) → held_by (party_in v plan ls s) sender m ≡ is_in (get_or s (slot_count * m.level + slot m.body) 0) sender
    unfolding held_by held
    held_in sender = ap (λ (k : ℕ). is_in k sender) senders_in

    -- it is taken from the sender
    pub hearing_in : (sender : ℕ)
        → party_in v plan ls (set s (slot_count * m.level + slot m.body) (with_sender (get_or s (slot_count * m.level + slot m.body) 0) sender)) ≡ hearing (party_in v plan ls s) sender m
    unfolding hearing with_heard senders
    hearing_in sender =
        let q = get_or s (slot_count * m.level + slot m.body) 0 in
        let S = sets_at s m.level in
        let l = get_or ls m.level no_code_level in
        let e : get_or S (slot m.body) 0 ≡ q = get_or-take slot_count (drop (slot_count * m.level) s) (slot m.body) 0 there ∙ get_or-drop (slot_count * m.level) s (slot m.body) 0 in
        heard_in m.level (slot m.body) (with_sender q sender) there
        ∙ ap (λ (k : ℕ). with_level (party_in v plan ls s) m.level (as_level (set S (slot m.body) (with_sender k sender)) l)) (sym e)
        ∙ ap (λ (k : Level). with_level (party_in v plan ls s) m.level (with_heard k m.body sender)) (sym (level_in m.level h))

-- ---- of the code's record

-- whether it has started, and its answer, as the code reads them at level 0
pub entry : (c : Code.Party) → 0 < length c.levels → {b : Bool} → (get_or c.levels 0 no_code_level).entered ≡ b → started (as_party c) ≡ b
entry c h e = ap (λ (l : Level). l.entered) (level_in (vote_of c) (as_plan c.plan) c.levels c.sets 0 h) ∙ e

pub output : (c : Code.Party) → 0 < length c.levels → output_of (as_party c) ≡ (get_or c.levels 0 no_code_level).output
output c h = ap (λ (l : Level). l.output) (level_in (vote_of c) (as_plan c.plan) c.levels c.sets 0 h)

-- ---- levels at which nothing was heard

-- w times one more
more : (w k : ℕ) → w * suc k ≡ w + w * k
more w k = omega (arith, mul-suc w k)

abbrev zeros : ℕ → List ℕ
zeros n = replicate n 0

pub tied_new : (w k : ℕ) (l : CodeLevel.Level) → tied w (replicate k l) (replicate (w * k) 0) ≡ replicate k (as_level (replicate w 0) l)
unfolding tied
tied_new w zero l = refl
tied_new w (suc k) l =
    let r : zeros (w * suc k) ≡ zeros w ++ zeros (w * k) = ap zeros (more w k) ∙ sym (replicate-append-replicate w (w * k) 0) in
    let a : take w (zeros (w * suc k)) ≡ zeros w = ap (take w) r ∙ take_at (zeros w) (zeros (w * k)) w (length-replicate w 0) in
    let b : drop w (zeros (w * suc k)) ≡ zeros (w * k) = ap (drop w) r ∙ drop_at (zeros w) (zeros (w * k)) w (length-replicate w 0) in
    ap₂ (λ (y z : List ℕ). as_level y l ∷ tied w (replicate k l) z) a b ∙ ap (λ (zs : List Level). as_level (zeros w) l ∷ zs) (tied_new w k l)

-- ---- nothing is lost

abbrev code_level : Level → CodeLevel.Level
code_level l = record {
  entered = l.entered;
  side = l.side;
  position = l.position;
  echoed_port = l.echoed_port;
  echoed_none = l.echoed_none;
  proposal = l.proposal;
  first = l.first;
  echoed = l.echoed;
  second_proposal = l.second_proposal;
  result = l.result;
  sure = l.sure;
  told_centre = l.told_centre;
  output = l.output;
}

-- the sets of senders of all levels
heard_at : List Level → List ℕ
heard_at [] = []
heard_at (l ∷ ls) = l.sets ++ heard_at ls

levels_back : (w : ℕ) (ls : List CodeLevel.Level) (s : List ℕ) → map code_level (tied w ls s) ≡ ls
unfolding tied
levels_back w [] s = refl
levels_back w (x ∷ ls) s = ap (λ (ys : List CodeLevel.Level). x ∷ ys) (levels_back w ls (drop w s))

sets_back : (w : ℕ) (ls : List CodeLevel.Level) (s : List ℕ) → length s ≡ w * length ls → heard_at (tied w ls s) ≡ s
unfolding tied heard_at
sets_back w [] [] e = refl
sets_back w [] (x ∷ s) e = absurd (omega arith)
sets_back w (l ∷ ls) s e =
    ap (λ (z : List ℕ). take w s ++ z) (sets_back w ls (drop w s) (length-drop w s ∙ shorter)) ∙ take-append-drop w s
  where
    shorter : length s - w ≡ w * length ls
    shorter = omega (arith, mul-suc w (length ls))

abbrev code_plan : Plan → CodePlan.Plan
code_plan p = record { kind = p.kind; count = p.count; low = p.low; parent = p.parent; child = p.child }

abbrev code_party : Party → Code.Party
code_party p =
    record { n = p.n; t = p.t; own = p.own; agreement = p.agreement; plan = code_plan p.plan; levels = map code_level p.levels; sets = heard_at p.levels }

back : (c : Code.Party) → Whole c → code_party (as_party c) ≡ c
back c h =
    ap₂ (λ (ls : List CodeLevel.Level) (s : List ℕ). record { n = c.n; t = c.t; own = c.own; agreement = c.agreement; plan = c.plan; levels = ls; sets = s })
    (levels_back slot_count c.levels c.sets)
    (sets_back slot_count c.levels c.sets (h.sets ∙ ap (λ (k : ℕ). slot_count * k) (sym h.levels)))

-- records that stand for the same party are the same
pub party_one : (c d : Code.Party) → Whole c → Whole d → as_party c ≡ as_party d → c ≡ d
party_one c d hc hd h = sym (back c hc) ∙ ap code_party h ∙ back d hd
