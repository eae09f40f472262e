-- Reading the edges of a tree: what is found of them, and the bytes from which given edges are read.
use mathlib.Core.Path.{◌≡◌, refl, sym, ap, ap₂, ◌∙◌}
use mathlib.Core.List.{List, [], ◌∷◌, ◌++◌, append_assoc}
use mathlib.Core.Bool.{Bool, true, false, not, ◌&&◌}
use Prim.Native.Nat.{ℕ, zero, suc, ◌+◌, ◌≤◌, ◌<◌, ◌^◌}
use native.Mathlib.Omega.{arith}
use Rattle.std.specs.Prelude.{Ok, Err}
use lib.Dec.{T, eqb, ltb, ltb→lt, lt→ltb, T_not, not_T}
use lib.ListN.{length, length-append}
use borrow.Author.Tests.{eq-eqb, ne_eqb}
use Rattle.base.specs.Limits.{max_degree}
use Rattle.base.proofs.Bools.{T_and, T-left, T-right, true→T, false→not-T}
use Rattle.varint.specs.Varint.{varint_bytes}
use Rattle.varint.specs.Reading.{VarintRead, value, varint_at}
use Rattle.varint.proofs.RoundTrip.{varint_read_at}
use Rattle.tree.specs.Edges.{Edges, joined, all, edges_at, Below}
use Rattle.tree.specs.Inner.{Acyclic}
use Rattle.base.specs.Found.{Found, found, refused, ask}
use Rattle.edges.specs.Reading.{onward, varint_then, ends_apart, not_joined, room_at_ends, edges_from}
use Rattle.edges.specs.Inner.{Listed}
use Rattle.plan_growth.specs.Inner.{edge}
use Rattle.plan.specs.Bytes.{edge_bytes}
use Rattle.plan.proofs.Degrees.{at_none, at_most}

-- ---- questions

-- a value is found only past a question that is answered by yes
pub asked : {A : Type 0} (t : Bool) (number place : ℕ) (go : Found A) (x : A) → ask t number place go ≡ found x → T t × (go ≡ found x)
asked true number place go x e = (tt, e)
asked false number place go x e = let z : ◌≡◌ {A = ℕ} 0 1 = cc in absurd (omega arith)

pub ask_yes : {A : Type 0} (t : Bool) (number place : ℕ) (go : Found A) → T t → ask t number place go ≡ go
ask_yes true number place go h = refl
ask_yes false number place go h = absurd h

-- and past a group that is whole
pub grouped : {A : Type 0} (at : ℕ) (r : VarintRead) (f : ℕ → ℕ → Found A) (x : A) → onward at r f ≡ found x → (v : ℕ) × (next : ℕ) × (r ≡ value v next) × (f v next ≡ found x)
grouped at (Ok r) f x e = (r.value, r.next, refl, e)
grouped at (Err d) f x e = let z : ◌≡◌ {A = ℕ} 0 1 = cc in absurd (omega arith)

-- ---- edges one after the other

-- an edge that questions 7 to 9 pass after the edges E
pub record Next (v : ℕ) (E : Edges) (a b : ℕ) : Type 0 where
  pub one_below : a < v
  pub two_below : b < v
  pub apart : a ≡ b → ⊥
  pub not_joined_lem : T (joined all E a b) → ⊥
  pub one_room : edges_at E a < max_degree
  pub two_room : edges_at E b < max_degree

module _ (v : ℕ) (E : Edges) (a b : ℕ) where
  next_from : T (ends_apart v a b) → T (not_joined E a b) → T (room_at_ends E a b) → Next v E a b
  next_from p q r =
      record {
        one_below = ltb→lt a v (T-left (ltb a v) (ltb b v) (T-left (ltb a v && ltb b v) (not (eqb a b)) p));
        two_below = ltb→lt b v (T-right (ltb a v) (ltb b v) (T-left (ltb a v && ltb b v) (not (eqb a b)) p));
        apart = λ e. T_not (eqb a b) (T-right (ltb a v && ltb b v) (not (eqb a b)) p) (true→T (eq-eqb a b e));
        not_joined_lem = T_not (joined all E a b) q;
        one_room = ltb→lt (edges_at E a) max_degree (T-left (ltb (edges_at E a) max_degree) (ltb (edges_at E b) max_degree) r);
        two_room = ltb→lt (edges_at E b) max_degree (T-right (ltb (edges_at E a) max_degree) (ltb (edges_at E b) max_degree) r);
      }

  next_seven : Next v E a b → T (ends_apart v a b)
  next_seven n =
      T_and (ltb a v && ltb b v) (not (eqb a b)) (T_and (ltb a v) (ltb b v) (lt→ltb a v n.one_below) (lt→ltb b v n.two_below))
      (not_T (eqb a b) (false→not-T (ne_eqb a b n.apart)))

  next_eight : Next v E a b → T (not_joined E a b)
  next_eight n = not_T (joined all E a b) n.not_joined_lem

  next_nine : Next v E a b → T (room_at_ends E a b)
  next_nine n = T_and (ltb (edges_at E a) max_degree) (ltb (edges_at E b) max_degree) (lt→ltb (edges_at E a) max_degree n.one_room) (lt→ltb (edges_at E b) max_degree n.two_room)

-- each edge passes after those before it
abbrev pub Passing : ℕ → Edges → Type 0
Passing v [] = Unit {0}
Passing v (e ∷ E) = Next v E e.one e.two × Passing v E

pub passing_acyclic : (v : ℕ) (E : Edges) → Passing v E → Acyclic E
passing_acyclic v [] h = tt
passing_acyclic v (e ∷ E) h = (h.0.not_joined_lem, passing_acyclic v E h.1)

pub passing_below : (v : ℕ) (E : Edges) → Passing v E → Below v E
passing_below v [] h = tt
passing_below v (e ∷ E) h = (h.0.one_below, h.0.two_below, passing_below v E h.1)

pub passing_degrees : (v : ℕ) (E : Edges) → Passing v E → (x : ℕ) → edges_at E x ≤ max_degree
passing_degrees v [] h = at_none
passing_degrees v (e ∷ E) h = at_most max_degree e E (passing_degrees v E h.1) h.0.one_room h.0.two_room

-- ---- what is found

-- something was found after edges that pass, k more than those of E
pub record After {A : Type 0} (v : ℕ) (done : Edges → ℕ → Found A) (x : A) (E : Edges) (k : ℕ) : Type 0 where
  pub edges : Edges
  pub past : ℕ
  pub passing : Passing v edges
  pub many : length edges ≡ length E + k
  pub last : done edges past ≡ found x

pub after : {A : Type 0} (v : ℕ) (s : List ℕ) (done : Edges → ℕ → Found A) (x : A) (k at : ℕ) (E : Edges) → Passing v E → edges_from v k s at E done ≡ found x → After v done x E k
unfolding edges_from
after v s done x zero at E h e = record { edges = E; past = at; passing = h; many = omega arith; last = e }
after {A} v s done x (suc k) at E h e =
    let one = grouped at (varint_at s at) (λ a second. varint_then s second (λ b next. rest a b second next)) x e in
    let two = grouped one.1 (varint_at s one.1) (λ b next. rest one.0 b one.1 next) x one.3 in
    let a = one.0 in
    let b = two.0 in
    let q = asked (ends_apart v a b) 7 one.1 (eight a b one.1 two.1) x two.3 in
    let r = asked (not_joined E a b) 8 one.1 (nine a b one.1 two.1) x q.1 in
    let t = asked (room_at_ends E a b) 9 one.1 (edges_from v k s two.1 (edge a b ∷ E) done) x r.1 in
    let m = after v s done x k two.1 (edge a b ∷ E) (next_from v E a b q.0 r.0 t.0, h) t.1 in
    record { edges = m.edges; past = m.past; passing = m.passing; many = omega (arith, m.many); last = m.last }
  where
    nine : ℕ → ℕ → ℕ → ℕ → Found A
    nine a b second next = ask (room_at_ends E a b) 9 second (edges_from v k s next (edge a b ∷ E) done)

    eight : ℕ → ℕ → ℕ → ℕ → Found A
    eight a b second next = ask (not_joined E a b) 8 second (nine a b second next)

    rest : ℕ → ℕ → ℕ → ℕ → Found A
    rest a b second next = ask (ends_apart v a b) 7 second (eight a b second next)

-- ---- the bytes of edges

-- the next edge is read from its bytes
next_read : {A : Type 0} (v k : ℕ) (s : List ℕ) (at : ℕ) (E : Edges) (done : Edges → ℕ → Found A) (a b second next : ℕ) → Next v E a b
    → varint_at s at ≡ value a second → varint_at s second ≡ value b next
    → edges_from v (suc k) s at E done ≡ edges_from v k s next (edge a b ∷ E) done
unfolding edges_from
next_read v k s at E done a b second next n i j =
    rw (i, j)
    (ask_yes (ends_apart v a b) 7 second _ (next_seven v E a b n)
    ∙ ask_yes (not_joined E a b) 8 second _ (next_eight v E a b n)
    ∙ ask_yes (room_at_ends E a b) 9 second _ (next_nine v E a b n))

-- edges that pass are read from their bytes
pub edges_read : {A : Type 0} (v k : ℕ) (s : List ℕ) (done : Edges → ℕ → Found A) (E : Edges) (pre post : List ℕ) → v ≤ 2 ^ 32 → Passing v E → s ≡ pre ++ (edge_bytes E ++ post)
    → edges_from v (length E + k) s (length pre) [] done ≡ edges_from v k s (length pre + length (edge_bytes E)) E done
unfolding edge_bytes
edges_read v k s done [] pre post l h e = ap₂ (λ (n at : ℕ). edges_from v n s at [] done) (omega arith) (omega arith)
edges_read v k s done (e ∷ E) pre post l h i =
    ap (λ (n : ℕ). edges_from v n s (length pre) [] done) many
    ∙ edges_read v (suc k) s done E pre (ends ++ post) l h.1 (i ∙ ap (λ (t : List ℕ). pre ++ t) (append_assoc (edge_bytes E) ends post))
    ∙ next_read v k s (length pre + length (edge_bytes E)) E done e.one e.two (length pre + length (edge_bytes E) + length first) (length pre + length (edge_bytes E) + length first + length second) h.0
    (varint_read_at e.one s (pre ++ edge_bytes E) (second ++ post) (length pre + length (edge_bytes E)) (omega (arith, h.0.one_below)) (i ∙ simp append_assoc) (sym (length-append pre (edge_bytes E))))
    (varint_read_at e.two s ((pre ++ edge_bytes E) ++ first) post (length pre + length (edge_bytes E) + length first) (omega (arith, h.0.two_below)) (i ∙ simp append_assoc) (simp length-append))
    ∙ ap (λ (at : ℕ). edges_from v k s at (e ∷ E) done) (simp length-append (omega arith))
  where
    first : List ℕ
    first = varint_bytes e.one

    second : List ℕ
    second = varint_bytes e.two

    ends : List ℕ
    ends = first ++ second

    many : length (e ∷ E) + k ≡ length E + suc k
    many = omega arith

-- ---- reading in two steps

-- what is made of the edges that were listed
abbrev pub made : {A : Type 0} → Found Listed → (Edges → ℕ → Found A) → Found A
made (found l) f = f l.edges l.past
made (refused number place) f = refused number place

made_onward : {A : Type 0} (at : ℕ) (r : VarintRead) (f : ℕ → ℕ → Found Listed) (g : ℕ → ℕ → Found A) (done : Edges → ℕ → Found A) → ((v next : ℕ) → g v next ≡ made (f v next) done)
    → onward at r g ≡ made (onward at r f) done
made_onward at (Ok r) f g done h = h r.value r.next
made_onward at (Err e) f g done h = refl

made_ask : {A : Type 0} (t : Bool) (number place : ℕ) (f : Found Listed) (g : Found A) (done : Edges → ℕ → Found A) → g ≡ made f done → ask t number place g ≡ made (ask t number place f) done
made_ask true number place f g done h = h
made_ask false number place f g done h = refl

-- reading the edges and going on is going on with what reading them lists
pub edges_made : {A : Type 0} (v k : ℕ) (s : List ℕ) (at : ℕ) (E : Edges) (done : Edges → ℕ → Found A)
    → edges_from v k s at E done ≡ made (edges_from v k s at E (λ F end. found (record { edges = F; past = end }))) done
unfolding edges_from
edges_made v zero s at E done = refl
edges_made v (suc k) s at E done =
    made_onward at (varint_at s at) _ _ done (λ a second.
    made_onward second (varint_at s second) _ _ done (λ b next.
    made_ask (ends_apart v a b) 7 second _ _ done
    (made_ask (not_joined E a b) 8 second _ _ done
    (made_ask (room_at_ends E a b) 9 second _ _ done
    (edges_made v k s next (edge a b ∷ E) done)))))
