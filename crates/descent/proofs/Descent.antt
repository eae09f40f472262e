-- From level to level: sound boards stay in one component, their positions between the inputs, and their outputs near one another.
use mathlib.Core.Path.{◌≡◌, refl, sym, ap, ◌∙◌, subst}
use mathlib.Core.Logic.{◌⊎◌, inl, inr}
use mathlib.Core.Bool.{Bool, true, false}
use Prim.Native.Nat.{ℕ, zero, suc, ◌≤◌, ◌<◌}
use native.Mathlib.Decide.{ℕ_discrete}
use native.Mathlib.Omega.{arith}
use Rattle.base.specs.Sets.{Set, Sound}
use Rattle.descent.specs.Inner.{Shape, OnSide, Laws, Convex, Levels, Entry, stays, moves, follows, Outcome, on_entry, by_zero, by_none, from_below, Shared, Ported, Differ, Graded, Facts}

-- one position by itself is convex
pub alone : (P : Shape) (p : ℕ) → Convex P (λ x. x ≡ p)
alone P p = record {
  has_centre = λ c x y _ _ _ d hx hy. absurd (d (ap (P.port c) (hx ∙ sym hy)));
  has_neighbour = λ c x y k s _ d hx hy. absurd (d (ap (P.port c) (hy ∙ sym hx) ∙ s.port));
}

module _ (P : Shape) (B : Levels P) (n : ℕ) (bad : Set) where
  -- a sound board that entered level L over c, at x
  pub record Here (i L : ℕ) (c : P.Comp) (x : ℕ) : Type 0 where
    pub sound : Sound n bad i
    pub entered : B.Entered i L c x

  -- a sound board whose result at level L is the value k
  pub record Has (i L k : ℕ) (sure : Bool) : Type 0 where
    pub sound : Sound n bad i
    pub result : B.Result i L k sure

  -- all sound boards at level L are in one component of the plan
  pub record Together (L : ℕ) : Type 0 where
    pub same : {i j : ℕ} {c d : P.Comp} {x y : ℕ} → Here i L c x → Here j L d y → c ≡ d
    pub proper : {i : ℕ} {c : P.Comp} {x : ℕ} → Here i L c x → P.Proper c
    pub member : {i : ℕ} {c : P.Comp} {x : ℕ} → Here i L c x → P.Member c x

  pub shared : {i L : ℕ} {c : P.Comp} {x : ℕ} → Together L → Here i L c x → Shared P B n bad L c
  shared {i} {L} {c} t h j d y g e =
      let k : Here j L d y = record { sound = g; entered = e } in
      (t.same k h, subst (λ z. P.Member z y) (t.same k h) (t.member k))

  -- how a sound board came to the next level: from a component, by a value that some sound board has
  record Above (i L : ℕ) (c : P.Comp) : Type 0 where
    upper : P.Comp
    place : ℕ
    who : ℕ
    k : ℕ
    sure : Bool
    here : Here i L upper place
    three : 3 ≤ P.size upper
    has : Has who L k sure
    low : 1 ≤ k
    is : c ≡ P.side upper k

  above : {i L : ℕ} {c : P.Comp} {x : ℕ} → Sound n bad i → Entry P B n bad i L c x → Above i L c
  above {i} {L} {c} {x} g (stays c₀ k e s r l o m) = record {
    upper = c₀;
    place = x;
    who = i;
    k = k;
    sure = true;
    here = record { sound = g; entered = e };
    three = s;
    has = record { sound = g; result = r };
    low = l;
    is = m;
  }
  above {i} {L} {c} {x} g (moves c₀ x₀ k e s r l o m u) = record {
    upper = c₀;
    place = x₀;
    who = i;
    k = k;
    sure = true;
    here = record { sound = g; entered = e };
    three = s;
    has = record { sound = g; result = r };
    low = l;
    is = m;
  }
  above {i} {L} {c} {x} g (follows c₀ x₀ j k e s h r l m u) = record {
    upper = c₀;
    place = x₀;
    who = j;
    k = k;
    sure = false;
    here = record { sound = g; entered = e };
    three = s;
    has = record { sound = h; result = r };
    low = l;
    is = m;
  }

  module _ (W : Laws P) (whole : P.Comp) (top : P.Proper whole) (F : Facts P B n bad whole) where
    -- ---- one component

    came : {i L : ℕ} {c : P.Comp} {x : ℕ} → Here i (suc L) c x → Above i L c
    came {i} {L} {c} {x} h = above h.sound (F.entry i L c x h.sound h.entered)

    grades : {i L : ℕ} {c : P.Comp} {x : ℕ} → Together L → Here i L c x → 3 ≤ P.size c → Graded P B n bad L c
    grades {i} {L} {c} t h s = F.graded L c (t.proper h) s (shared t h)

    -- a value of 1 or more is a side of the component: a sound board is there
    sided : {i j L k : ℕ} {a : Bool} {c : P.Comp} {x : ℕ} → Together L → Here i L c x → 3 ≤ P.size c → Has j L k a → 1 ≤ k
        → (q : Ported P B n bad L c k) × OnSide P c q.place k
    sided {i} {j} {L} {k} {a} {c} t h s r l =
        let q = (grades t h s).port j k a r.sound r.result in
        let u : Here q.board L c q.place = record { sound = q.sound; entered = q.entered } in
        (q, record { large = record { proper = t.proper h; three = s }; member = t.member u; low = l; port = q.port })

    -- the entered position is in the entered component
    entry_member : {i L : ℕ} {c : P.Comp} {x : ℕ} → Together L → Sound n bad i → Entry P B n bad i L c x → P.Member c x
    entry_member {i} {L} {c} {x} t g (stays c₀ k e s r l o m) =
        let h : Here i L c₀ x = record { sound = g; entered = e } in
        rw m (W.side_member c₀ x k (record { large = record { proper = t.proper h; three = s }; member = t.member h; low = l; port = o }))
    entry_member {i} {L} {c} {x} t g (moves c₀ x₀ k e s r l o m u) =
        let h : Here i L c₀ x₀ = record { sound = g; entered = e } in
        let q = sided t h s (record { sound = g; result = r }) l in
        rw (m, u) (W.neighbour_member c₀ q.0.place k q.1)
    entry_member {i} {L} {c} {x} t g (follows c₀ x₀ j k e s f r l m u) =
        let h : Here i L c₀ x₀ = record { sound = g; entered = e } in
        let q = sided t h s (record { sound = f; result = r }) l in
        rw (m, u) (W.neighbour_member c₀ q.0.place k q.1)

    -- the component that any sound board enters next is the side of any sound board's value
    side_of_lem : {i j a L k : ℕ} {b : Bool} {c d : P.Comp} {x y : ℕ} → Together L → Here i L c x → 3 ≤ P.size c → Has j L k b → Here a (suc L) d y
        → d ≡ P.side c k
    side_of_lem {i} {j} {a} {L} {k} {b} {c} t h s r g =
        let u = came g in
        let v : u.k ≡ k = (grades t h s).agree u.who j u.k k u.sure b u.has.sound r.sound u.has.result r.result in
        u.is ∙ ap (λ z. P.side z u.k) (t.same u.here h) ∙ ap (P.side c) v

    next_together : {L : ℕ} → Together L → Together (suc L)
    next_together {L} t = record {
      same = λ h k. let a = came k in side_of_lem t a.here a.three a.has h ∙ sym a.is;
      proper = λ h.
          let a = came h in
          let q = sided t a.here a.three a.has a.low in
          subst P.Proper (sym a.is) (W.side_proper a.upper q.0.place a.k q.1);
      member = λ {i} {c} {x} h. entry_member t h.sound (F.entry i L c x h.sound h.entered);
    }

    -- At each level all sound boards are in one component of the plan.
    pub together : (L : ℕ) → Together L
    together zero = record {
      same = λ {i} {j} {c} {d} {x} {y} h k. (F.first i c x h.sound h.entered).0 ∙ sym (F.first j d y k.sound k.entered).0;
      proper = λ {i} {c} {x} h. subst P.Proper (sym (F.first i c x h.sound h.entered).0) top;
      member = λ {i} {c} {x} h. (F.first i c x h.sound h.entered).1;
    }
    together (suc L) = next_together (together L)

    -- There the results are those of graded consensus.
    pub consensus : {i L : ℕ} {c : P.Comp} {x : ℕ} → Here i L c x → 3 ≤ P.size c → Graded P B n bad L c
    consensus {i} {L} h s = grades (together L) h s

    -- a sound board's value of 1 or more is the number of a side
    pub side_there : {i j L k : ℕ} {a : Bool} {c : P.Comp} {x : ℕ} → Here i L c x → 3 ≤ P.size c → Has j L k a → 1 ≤ k → (y : ℕ) × OnSide P c y k
    side_there {i} {j} {L} h s r l = let q = sided (together L) h s r l in (q.0.place, q.1)

    -- and the component that any sound board enters next
    pub enters : {i j a L k : ℕ} {b : Bool} {c d : P.Comp} {x y : ℕ} → Here i L c x → 3 ≤ P.size c → Has j L k b → Here a (suc L) d y → d ≡ P.side c k
    enters {i} {j} {a} {L} h s r g = side_of_lem (together L) h s r g

    -- Each next component is smaller.
    pub smaller : {i a L : ℕ} {c d : P.Comp} {x y : ℕ} → Here i L c x → Here a (suc L) d y → P.size d < P.size c
    smaller {i} {a} {L} {c} {d} h g =
        let t = together L in
        let u = came g in
        let q = sided t u.here u.three u.has u.low in
        let p : P.size (P.side u.upper u.k) < P.size u.upper = W.side_smaller u.upper q.0.place u.k q.1 in
        subst (λ z. P.size d < P.size z) (t.same u.here h) (subst (λ z. P.size z < P.size u.upper) (sym u.is) p)

    -- ---- between the inputs

    -- a sound board's output, and where the board is
    record Gives (i L y : ℕ) : Type 0 where
      comp : P.Comp
      place : ℕ
      here : Here i L comp place
      outcome : Outcome P B n bad i L y

    gives : {i L y : ℕ} → Sound n bad i → B.Output i L y → Gives i L y
    gives {i} {L} {y} g o = go (F.outcome i L y g o)
      where
        go : Outcome P B n bad i L y → Gives i L y
        go (on_entry c e s) = record { comp = c; place = y; here = record { sound = g; entered = e }; outcome = on_entry c e s }
        go (by_zero c x a e s r q) = record { comp = c; place = x; here = record { sound = g; entered = e }; outcome = by_zero c x a e s r q }
        go (by_none c x j e s f v q) = record { comp = c; place = x; here = record { sound = g; entered = e }; outcome = by_none c x j e s f v q }
        go (from_below c x k a e s r l o) = record { comp = c; place = x; here = record { sound = g; entered = e }; outcome = from_below c x k a e s r l o }

    module _ (H : ℕ → Type 0) (C : Convex P H) where
      -- every sound position at level L is in the set
      abbrev All : ℕ → Type 0
      All L = (i : ℕ) (c : P.Comp) (x : ℕ) → Here i L c x → H x

      -- neighbour k, where a sound port is k and another is not
      neighbour_in : {i j L k : ℕ} {c : P.Comp} {x y : ℕ} → All L → OnSide P c x k → Here i L c x → Here j L c y → (P.port c y ≡ k → ⊥) → H (P.neighbour c k)
      neighbour_in {i} {j} {L} {k} {c} {x} {y} all s p q d = C.has_neighbour c x y k s ((together L).member q) d (all i c x p) (all j c y q)

      entry_in : {i L : ℕ} {c : P.Comp} {x : ℕ} → All L → Sound n bad i → Entry P B n bad i L c x → H x
      entry_in {i} {L} {c} {x} all g (stays c₀ k e s r l o m) = all i c₀ x (record { sound = g; entered = e })
      entry_in {i} {L} {c} {x} all g (moves c₀ x₀ k e s r l o m u) =
          let h : Here i L c₀ x₀ = record { sound = g; entered = e } in
          let q = sided (together L) h s (record { sound = g; result = r }) l in
          let p : Here q.0.board L c₀ q.0.place = record { sound = q.0.sound; entered = q.0.entered } in
          rw u (neighbour_in all q.1 p h o)
      entry_in {i} {L} {c} {x} all g (follows c₀ x₀ j k e s f r l m u) =
          let h : Here i L c₀ x₀ = record { sound = g; entered = e } in
          let q = sided (together L) h s (record { sound = f; result = r }) l in
          let p : Here q.0.board L c₀ q.0.place = record { sound = q.0.sound; entered = q.0.entered } in
          rw u (go q.1 p ((consensus h s).mixed j k f r))
        where
          go : {b z : ℕ} → OnSide P c₀ z k → Here b L c₀ z → Differ P B n bad L c₀ → H (P.neighbour c₀ k)
          go o p d = at (ℕ_discrete (P.port c₀ d.place) k)
            where
              at : Dec (P.port c₀ d.place ≡ k) → H (P.neighbour c₀ k)
              at (no a) = let w : Here d.one L c₀ d.place = record { sound = d.sound; entered = d.entered } in neighbour_in all o p w a
              at (yes a) =
                  let w : Here d.two L c₀ d.other = record { sound = d.sound'; entered = d.entered' } in
                  neighbour_in all o p w (λ b. d.apart (a ∙ sym b))

      next_all : {L : ℕ} → All L → All (suc L)
      next_all {L} all i c x h = entry_in all h.sound (F.entry i L c x h.sound h.entered)

      outcome_in : {L i y : ℕ} → All L → Sound n bad i → Outcome P B n bad i L y → (B.Output i (suc L) y → H y) → H y
      outcome_in {L} {i} {y} all g (on_entry c e s) ih = all i c y (record { sound = g; entered = e })
      outcome_in {L} {i} {y} all g (by_zero c x a e s r q) ih =
          let t = together L in
          let h : Here i L c x = record { sound = g; entered = e } in
          let p = (consensus h s).port i 0 a g r in
          let u : Here p.board L c p.place = record { sound = p.sound; entered = p.entered } in
          rw q (subst H (W.port_zero c p.place (record { proper = t.proper h; three = s }) (t.member u) p.port) (all p.board c p.place u))
      outcome_in {L} {i} {y} all g (by_none c x j e s f v q) ih =
          let t = together L in
          let h : Here i L c x = record { sound = g; entered = e } in
          let d = (consensus h s).split j f v in
          let u : Here d.one L c d.place = record { sound = d.sound; entered = d.entered } in
          let w : Here d.two L c d.other = record { sound = d.sound'; entered = d.entered' } in
          rw q
          (C.has_centre c d.place d.other (record { proper = t.proper h; three = s }) (t.member u) (t.member w) d.apart
          (all d.one c d.place u) (all d.two c d.other w))
      outcome_in all g (from_below c x k a e s r l o) ih = ih o

      outputs : (f : ℕ) {L i y : ℕ} → All L → (o : Gives i L y) → P.size o.comp < f → H y
      outputs zero all o l = absurd (omega arith)
      outputs (suc f) {L} {i} {y} all o l =
          outcome_in all o.here.sound o.outcome (λ u.
          let v : Gives i (suc L) y = gives o.here.sound u in
          outputs f (next_all all) v (omega (arith, smaller o.here v.here)))

      -- A convex set that holds all sound positions at a level holds all sound outputs there.
      pub outputs_in : {L i y : ℕ} → All L → Sound n bad i → B.Output i L y → H y
      outputs_in all g o = let v = gives g o in outputs (suc (P.size v.comp)) all v (omega arith)

    -- ---- near one another

    -- a sound board's result there is none
    record Void (j L : ℕ) : Type 0 where
      sound : Sound n bad j
      none : B.None j L

    -- where one has none, all that went on are at the neighbour
    gathered : {i j a L k : ℕ} {b : Bool} {c : P.Comp} {x : ℕ} → Here i L c x → 3 ≤ P.size c → Void j L → Has a L k b → All (λ z. z ≡ P.neighbour c k) (alone P (P.neighbour c k)) (suc L)
    gathered {i} {j} {a} {L} {k} {b} {c} h s v r m d y g = go (F.entry m L d y g.sound g.entered)
      where
        go : Entry P B n bad m L d y → y ≡ P.neighbour c k
        go (stays c₀ k' e s' r' l o u) = absurd ((consensus h s).unsure m j k' g.sound v.sound r' v.none)
        go (moves c₀ x₀ k' e s' r' l o u w) = absurd ((consensus h s).unsure m j k' g.sound v.sound r' v.none)
        go (follows c₀ x₀ q k' e s' f r' l u w) =
            let h' : Here m L c₀ x₀ = record { sound = g.sound; entered = e } in
            w ∙ ap (λ z. P.neighbour z k') ((together L).same h' h) ∙ ap (P.neighbour c) ((consensus h s).agree q a k' k false b f r.sound r' r.result)

    -- where an output comes from: a small component, the centre (some sound value is 0, or some result is none), or below
    data Source (i L y : ℕ) : Type 0 where
      small : (c : P.Comp) → Here i L c y → P.size c ≤ 2 → Source i L y
      middle : (c : P.Comp) (x j : ℕ) → Here i L c x → 3 ≤ P.size c → ((a : Bool) × Has j L 0 a) ⊎ Void j L → y ≡ P.centre c → Source i L y
      lower : (c : P.Comp) (x k : ℕ) (a : Bool) → Here i L c x → 3 ≤ P.size c → Has i L k a → 1 ≤ k → B.Output i (suc L) y → Source i L y

    source : {i L y : ℕ} → Sound n bad i → Outcome P B n bad i L y → Source i L y
    source g (on_entry c e s) = small c (record { sound = g; entered = e }) s
    source {i} g (by_zero c x a e s r q) = middle c x i (record { sound = g; entered = e }) s (inl (a, record { sound = g; result = r })) q
    source g (by_none c x j e s f v q) = middle c x j (record { sound = g; entered = e }) s (inr (record { sound = f; none = v })) q
    source g (from_below c x k a e s r l o) = lower c x k a (record { sound = g; entered = e }) s (record { sound = g; result = r }) l o

    -- the centre is near what comes from below
    centre_near : {i j b L k y : ℕ} {a : Bool} {c : P.Comp} {x : ℕ} → Here i L c x → 3 ≤ P.size c → ((a : Bool) × Has b L 0 a) ⊎ Void b L
        → Has j L k a → 1 ≤ k → B.Output j (suc L) y → P.Near (P.centre c) y
    centre_near {i} {j} {b} {L} {k} {y} {a} {c} h s (inl (a', z)) r l o =
        absurd (omega (arith, l, (consensus h s).agree b j 0 k a' a z.sound r.sound z.result r.result))
    centre_near {i} {j} {b} {L} {k} {y} {a} {c} h s (inr v) r l o =
        let q = sided (together L) h s r l in
        let e : y ≡ P.neighbour c k = outputs_in (λ z. z ≡ P.neighbour c k) (alone P (P.neighbour c k)) (gathered h s v r) r.sound o in
        rw e (W.neighbour_near c q.0.place k q.1)

    -- not both small and large
    one_size : {i j L : ℕ} {c d : P.Comp} {x y : ℕ} → Here i L c x → Here j L d y → P.size c ≤ 2 → 3 ≤ P.size d → ⊥
    one_size {i} {j} {L} h g s l = omega (arith, ap P.size ((together L).same h g))

    meet : {i j L y z : ℕ} → Source i L y → Source j L z → (B.Output i (suc L) y → B.Output j (suc L) z → P.Near y z) → P.Near y z
    meet {i} {j} {L} {y} {z} (small c h s) (small d g s') ih =
        let t = together L in
        W.small_near c y z (t.proper h) s (t.member h) (subst (λ w. P.Member w z) (t.same g h) (t.member g))
    meet (small c h s) (middle d x b g s' v e) ih = absurd (one_size h g s s')
    meet (small c h s) (lower d x k a g s' r l o) ih = absurd (one_size h g s s')
    meet (middle c x b h s v e) (small d g s') ih = absurd (one_size g h s' s)
    meet {i} {j} {L} {y} {z} (middle c x b h s v e) (middle d x' b' g s' v' e') ih =
        subst (P.Near y) (e ∙ ap P.centre ((together L).same h g) ∙ sym e') (W.near_refl y)
    meet (middle c x b h s v e) (lower d x' k a g s' r l o) ih = rw e (centre_near h s v r l o)
    meet (lower c x k a h s r l o) (small d g s') ih = absurd (one_size g h s' s)
    meet {i} {j} {L} {y} {z} (lower c x k a h s r l o) (middle d x' b g s' v e) ih =
        rw e (W.near_sym (P.centre d) y (centre_near g s' v r l o))
    meet (lower c x k a h s r l o) (lower d x' k' a' g s' r' l' o') ih = ih o o'

    near : (f : ℕ) {L i j y z : ℕ} (o : Gives i L y) → Gives j L z → P.size o.comp < f → P.Near y z
    near zero o u l = absurd (omega arith)
    near (suc f) {L} {i} {j} {y} {z} o u l =
        meet (source o.here.sound o.outcome) (source u.here.sound u.outcome) (λ a b.
        let v : Gives i (suc L) y = gives o.here.sound a in
        near f v (gives u.here.sound b) (omega (arith, smaller o.here v.here)))

    -- Any two outputs of sound boards at a level are near.
    pub outputs_near : {L i j y z : ℕ} → Sound n bad i → Sound n bad j → B.Output i L y → B.Output j L z → P.Near y z
    outputs_near g k o u = let v = gives g o in near (suc (P.size v.comp)) v (gives k u) (omega arith)

    -- Each answer of a sound board is in every convex set that holds all sound inputs.
    pub answers_in : (H : ℕ → Type 0) → Convex P H → ((i : ℕ) (c : P.Comp) (x : ℕ) → Sound n bad i → B.Entered i 0 c x → H x)
        → (i y : ℕ) → Sound n bad i → B.Output i 0 y → H y
    answers_in H C inputs i y g o = outputs_in H C (λ j c x h. inputs j c x h.sound h.entered) g o
