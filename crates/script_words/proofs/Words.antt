-- A line that is read byte by byte is read word by word, whatever is kept of its words.
use mathlib.Core.Path.{◌≡◌, refl, sym, ap, ◌∙◌}
use mathlib.Core.Bool.{Bool, true, false}
use mathlib.Core.List.{List, [], ◌∷◌, ◌++◌, append-nil, append_assoc}
use Prim.Native.Nat.{ℕ, zero, suc}
use Rattle.base.specs.Pick.{pick}
use Rattle.script_words.specs.Words.{is_blank, before, words_from}
use Rattle.script_words.specs.Scan.{read_from}

abbrev pub word_at : List (List ℕ) → ℕ → List ℕ
word_at [] i = []
word_at (w ∷ ws) zero = w
word_at (w ∷ ws) (suc i) = word_at ws i

-- does a word go on?
abbrev pub goes_on : List ℕ → Bool
goes_on [] = false
goes_on (b ∷ w) = true

before_others : (w : List ℕ) (ws : List (List ℕ)) → before w [] ++ ws ≡ before w ws
before_others [] ws = refl
before_others (b ∷ w) ws = refl

-- `made` is what is kept of some words, and whether the last goes on; `byte` adds to it, `tells` reads it off, `told` says the same of the words
module _ {L A : Type 0} (made : List (List ℕ) → Bool → L) (byte : L → ℕ → L) (tells : L → A) (told : List (List ℕ) → A)
    (blank : (ws : List (List ℕ)) (inside : Bool) (b : ℕ) → is_blank b ≡ true → byte (made ws inside) b ≡ made ws false)
    (begins : (ws : List (List ℕ)) (b : ℕ) → is_blank b ≡ false → byte (made ws false) b ≡ made (ws ++ ((b ∷ []) ∷ [])) true)
    (follows : (ws : List (List ℕ)) (w : List ℕ) (b : ℕ) → is_blank b ≡ false → byte (made (ws ++ (w ∷ [])) true) b ≡ made (ws ++ ((w ++ (b ∷ [])) ∷ [])) true)
    (says : (ws : List (List ℕ)) (inside : Bool) → tells (made ws inside) ≡ told ws)
  where
    byte_with : (ws : List (List ℕ)) (w : List ℕ) (b : ℕ) → is_blank b ≡ false
        → byte (made (ws ++ before w []) (goes_on w)) b ≡ made (ws ++ before (w ++ (b ∷ [])) []) (goes_on (w ++ (b ∷ [])))
    byte_with ws [] b e = ap (λ (v : List (List ℕ)). byte (made v false) b) (append-nil ws) ∙ begins ws b e
    byte_with ws (a ∷ w) b e = follows ws (a ∷ w) b e

    -- after the words ws and the bytes w
    pub words_read : (ws : List (List ℕ)) (w s : List ℕ) → tells (read_from byte (made (ws ++ before w []) (goes_on w)) s) ≡ told (ws ++ words_from w s)
    unfolding words_from read_from
    words_read ws w [] = says (ws ++ before w []) (goes_on w)
    words_read ws w (b ∷ s) =
        go (is_blank b) refl (words_read (ws ++ before w []) [] s) (words_read ws (w ++ (b ∷ [])) s)
      where
        go : (t : Bool) → is_blank b ≡ t → tells (read_from byte (made ((ws ++ before w []) ++ []) false) s) ≡ told ((ws ++ before w []) ++ words_from [] s)
            → tells (read_from byte (made (ws ++ before (w ++ (b ∷ [])) []) (goes_on (w ++ (b ∷ [])))) s) ≡ told (ws ++ words_from (w ++ (b ∷ [])) s)
            → tells (read_from byte (byte (made (ws ++ before w []) (goes_on w)) b) s) ≡ told (ws ++ pick t (before w (words_from [] s)) (words_from (w ++ (b ∷ [])) s))
        go true e p q =
            ap (λ (l : L). tells (read_from byte l s)) (blank (ws ++ before w []) (goes_on w) b e ∙ ap (λ (v : List (List ℕ)). made v false) (sym (append-nil (ws ++ before w []))))
            ∙ p ∙ ap told (append_assoc ws (before w []) (words_from [] s) ∙ ap (λ (v : List (List ℕ)). ws ++ v) (before_others w (words_from [] s)))
        go false e p q = ap (λ (l : L). tells (read_from byte l s)) (byte_with ws w b e) ∙ q
