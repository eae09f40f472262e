-- A first word read letter by letter names the command that it spells.
use mathlib.Core.Path.{◌≡◌, refl, sym, ap, ◌∙◌, subst}
use mathlib.Core.Bool.{Bool, true, false, ◌&&◌}
use mathlib.Core.List.{List, [], ◌∷◌, ◌++◌}
use Prim.Native.Nat.{ℕ, ◌+◌, ◌≤◌, ◌<◌}
use native.Mathlib.Decide.{ℕ_discrete}
use native.Mathlib.Numerals.{add-one}
use native.Mathlib.Omega.{arith}
use lib.Dec.{eqb, ltb}
use lib.ListN.{length, get_or, drop, drop_of_length-le}
use lib.Seq.{drop-cons}
use borrow.Author.Tests.{eq-eqb, ne_eqb, ltb-true, ltb-false}
use Rattle.script_commands.proofs.Laws.{letter_within}
use Rattle.std.specs.Prelude.{Option, Some, None}
use Rattle.base.specs.Pick.{pick}
use Rattle.script_commands.specs.declared.Command.{Command}
use Rattle.script_commands.specs.declared.Command.TheVariants.{Boards, Agreement, Range, Start, Give}
use Rattle.script_commands.specs.declared.Keyword.{Keyword}
use Rattle.script_commands.specs.Commands.{spelling, same, command_of}
use Rattle.script_commands.specs.Inner.{byte_is, no_keyword, by_initial, keyword_with, command_named}

-- the first word after bytes
unfoldable pub keyword_from : Keyword → List ℕ → Keyword
keyword_from k [] = k
keyword_from k (b ∷ s) = keyword_from (keyword_with k b) s

pub keyword_more : (k : Keyword) (s : List ℕ) (b : ℕ) → keyword_from k (s ++ (b ∷ [])) ≡ keyword_with (keyword_from k s) b
unfolding keyword_from
keyword_more k [] b = refl
keyword_more k (a ∷ s) b = keyword_more (keyword_with k a) s b

abbrev letters : Option Command → ℕ → Keyword
letters c i = record { command = c; letters = i }

-- ---- a name that is spelt wrong

wrong_with : (i b : ℕ) → 0 < i → keyword_with (letters None i) b ≡ letters None i
unfolding keyword_with
wrong_with i b h = rw (ne_eqb i 0 (λ e. omega arith))

wrong_named : (i : ℕ) (s : List ℕ) → 0 < i → command_named (keyword_from (letters None i) s) ≡ None
unfolding keyword_from command_named
wrong_named i [] h = refl
wrong_named i (b ∷ s) h = ap (λ (k : Keyword). command_named (keyword_from k s)) (wrong_with i b h) ∙ wrong_named i s h

-- ---- the rest of a name, from place i on

-- at its end
end_same : (n : List ℕ) (i : ℕ) → i ≤ length n → eqb i (length n) ≡ same [] (drop i n)
unfolding same
end_same n i h = go (ltb i (length n)) refl
  where
    go : (t : Bool) → ltb i (length n) ≡ t → eqb i (length n) ≡ same [] (drop i n)
    go true q = let l : i < length n = ltb-true i (length n) q in rw (drop-cons n i 0 l, ne_eqb i (length n) (λ e. omega arith))
    go false q = let l : length n ≤ i = ltb-false i (length n) q in rw (drop_of_length-le n l, eq-eqb i (length n) (omega arith))

-- at a letter
next_same : (n : List ℕ) (i b : ℕ) (s : List ℕ) → byte_is n i b && same s (drop (i + 1) n) ≡ same (b ∷ s) (drop i n)
unfolding same
next_same n i b s = go (ltb i (length n)) refl
  where
    go : (t : Bool) → ltb i (length n) ≡ t → (t && eqb b (get_or n i 0)) && same s (drop (i + 1) n) ≡ same (b ∷ s) (drop i n)
    go true q = let l : i < length n = ltb-true i (length n) q in rw (drop-cons n i 0 l, add-one i)
    go false q = let l : length n ≤ i = ltb-false i (length n) q in rw (drop_of_length-le n l)

named_next : (c : Command) (i b : ℕ) (s : List ℕ) → 0 < i → i ≤ length (spelling c)
    → (byte_is (spelling c) i b ≡ true → command_named (keyword_from (letters (Some c) (i + 1)) s) ≡ pick (same s (drop (i + 1) (spelling c))) (Some c) None)
    → command_named (keyword_from (keyword_with (letters (Some c) i) b) s) ≡ pick (same (b ∷ s) (drop i (spelling c))) (Some c) None
unfolding keyword_with
named_next c i b s h l ih = rw (ne_eqb i 0 (λ e. omega arith), ← next_same (spelling c) i b s) (go (byte_is (spelling c) i b) refl)
  where
    go : (t : Bool) → byte_is (spelling c) i b ≡ t
        → command_named (keyword_from (pick t (letters (Some c) (i + 1)) (letters None i)) s) ≡ pick (t && same s (drop (i + 1) (spelling c))) (Some c) None
    go true q = ih q
    go false q = wrong_named i s h

named_from : (c : Command) (i : ℕ) (s : List ℕ) → 0 < i → i ≤ length (spelling c) → command_named (keyword_from (letters (Some c) i) s) ≡ pick (same s (drop i (spelling c))) (Some c) None
unfolding keyword_from command_named
named_from c i [] h l = rw (end_same (spelling c) i l)
named_from c i (b ∷ s) h l = named_next c i b s h l (λ q. named_from c (i + 1) s (omega arith) (omega (arith, letter_within c i b q)))

-- ---- the whole word

-- what is to be shown of a word's first letter
abbrev Named : List ℕ → ℕ → Type 0
Named s b = command_named (keyword_from (letters (by_initial b) 1) s) ≡ command_of (b ∷ s)

named_boards : (s : List ℕ) → Named s 98
unfolding command_of same
named_boards s = named_from Boards 1 s (omega arith) (omega arith)

named_agreement : (s : List ℕ) → Named s 97
unfolding command_of same
named_agreement s = named_from Agreement 1 s (omega arith) (omega arith)

named_range : (s : List ℕ) → Named s 114
unfolding command_of same
named_range s = named_from Range 1 s (omega arith) (omega arith)

named_start : (s : List ℕ) → Named s 115
unfolding command_of same
named_start s = named_from Start 1 s (omega arith) (omega arith)

named_give : (s : List ℕ) → Named s 103
unfolding command_of same
named_give s = named_from Give 1 s (omega arith) (omega arith)

named_nothing : (s : List ℕ) (b : ℕ) → (b ≡ 98 → ⊥) → (b ≡ 97 → ⊥) → (b ≡ 114 → ⊥) → (b ≡ 115 → ⊥) → (b ≡ 103 → ⊥) → Named s b
unfolding command_of same
named_nothing s b p q r t u = rw (ne_eqb b 98 p, ne_eqb b 97 q, ne_eqb b 114 r, ne_eqb b 115 t, ne_eqb b 103 u) (wrong_named 1 s (omega arith))

named_all : (s : List ℕ) (b : ℕ) → Named s b
named_all s b = go (ℕ_discrete b 98) (ℕ_discrete b 97) (ℕ_discrete b 114) (ℕ_discrete b 115) (ℕ_discrete b 103)
  where
    go : Dec (b ≡ 98) → Dec (b ≡ 97) → Dec (b ≡ 114) → Dec (b ≡ 115) → Dec (b ≡ 103) → Named s b
    go (yes e) q r t u = subst (Named s) (sym e) (named_boards s)
    go (no p) (yes e) r t u = subst (Named s) (sym e) (named_agreement s)
    go (no p) (no q) (yes e) t u = subst (Named s) (sym e) (named_range s)
    go (no p) (no q) (no r) (yes e) u = subst (Named s) (sym e) (named_start s)
    go (no p) (no q) (no r) (no t) (yes e) = subst (Named s) (sym e) (named_give s)
    go (no p) (no q) (no r) (no t) (no u) = named_nothing s b p q r t u

pub keyword_named : (w : List ℕ) → command_named (keyword_from no_keyword w) ≡ command_of w
unfolding keyword_from keyword_with command_named command_of same
keyword_named [] = refl
keyword_named (b ∷ s) = named_all s b
