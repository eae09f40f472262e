-- Steps that are no cut and no start but with one input: of the starts that count after them, all others counted before.
use mathlib.Core.Path.{◌≡◌, sym, ap, ◌∙◌, subst}
use mathlib.Core.Logic.{◌⊎◌, inl, inr}
use mathlib.Core.Bool.{false}
use mathlib.Core.List.Memᴰ
use mathlib.Core.List.{[], ◌∷◌, ◌++◌, Memᴰ}
use Prim.Native.Nat.{ℕ}
use native.Mathlib.Omega.{arith}
use lib.Dec.{eqb}
use Rattle.std.specs.Prelude.{Some, None}
use Rattle.base.specs.Verdict.{Verdict}
use Rattle.base.specs.Found.{Found, found, refused}
use Rattle.message.specs.Reading.{Exactly, exact_message}
use Rattle.party.specs.Party.{Party}
use Rattle.board_calls.specs.Answers.{position_of, Answer}
use Rattle.board_calls.specs.Calls.{Entry, set_up_of, called_of, answered_of}
use Rattle.board_calls.specs.Restore.{Replay}
use Rattle.agreement.specs.History.{StartInput, voted_input, Lent, Call, set_up, start, take_message_lem, read_answer, read_count, restore, start_finds, take_finds, restore_finds, read_as_count, Step, calls, hands, cut, whose, History, Act, a_start, a_take, Counted, Board, after_set_up, made_in, after_entry, after_answer, after_restore, after_call, after_own, board_after}
use Rattle.agreement.specs.Demand.{StartedBy}
use Rattle.agreement.proofs.Steps.{own, other}
use Rattle.agreement_completion.proofs.Boards.{either}

abbrev keeping_call : StartInput → Call → Type 0
keeping_call input (set_up n t seat agreement plan) = Unit {0}
keeping_call input (start p given lent used) = given ≡ input
keeping_call input (take_message_lem p sender bytes lent used) = Unit {0}
keeping_call input (read_answer p) = Unit {0}
keeping_call input (read_count p g c) = Unit {0}
keeping_call input (restore n t seat agreement plan lent) = Unit {0}

abbrev pub Keeping : StartInput → Step → Type 0
Keeping input (calls i c) = keeping_call input c
Keeping input (hands i bytes) = Unit {0}
Keeping input (cut i left) = ⊥

abbrev pub KeepingAll : StartInput → History → Type 0
KeepingAll input [] = Unit {0}
KeepingAll input (s ∷ more) = Keeping input s × KeepingAll input more

module _ (input : StartInput) where
  -- a call that is no start but with this input
  abbrev NoOther : Act → Type 0
  NoOther a = (x : ℕ) (given : StartInput) → a ≡ a_start x given → given ≡ input

  -- a call counted before, or is such a one
  abbrev Known : Board → Counted → Type 0
  Known b c = Memᴰ c b.counted ⊎ NoOther c.act

  by_set_up : (b : Board) (x : Verdict) (p : Party) (c : Counted) → Memᴰ c (after_set_up b x p).counted → Known b c
  by_set_up b Verdict.Accepted p c m = absurd (Memᴰ.not-nil m)
  by_set_up b (Verdict.Refused number place) p c m = inl m

  by_entry : (b : Board) (a : Act) → NoOther a → (p : Party) (lent : Lent) (used : ℕ) (q : Found Entry) (c : Counted)
      → Memᴰ c (after_entry b a p lent used q).counted → Known b c
  by_entry b a k p lent used (found e) c m = go (Memᴰ.cases_cons m)
    where
      go : (c ≡ record { act = a; made = made_in e; used = (called_of p used (found e)).used }) ⊎ Memᴰ c b.counted → Known b c
      go (inl e) = inr (λ x given g. k x given (sym (ap (λ (y : Counted). y.act) e) ∙ g))
      go (inr n) = inl n
  by_entry b a k p lent used (refused number place) c m = inl m

  by_answer : (b : Board) (x : Answer) (c : Counted) → Memᴰ c (after_answer b x).counted → Known b c
  by_answer b None c m = inl m
  by_answer b (Some z) c m = inl m

  by_restore : (b : Board) (lent : Lent) (q : Found Replay) (c : Counted) → Memᴰ c (after_restore b lent q).counted → Known b c
  by_restore b lent (found r) c m = inl m
  by_restore b lent (refused number place) c m = inl m

  started : (x : ℕ) (given : StartInput) → given ≡ input → NoOther (a_start x given)
  started x given k y later e = let same : given ≡ later = cc in sym same ∙ k

  taken : (s : ℕ) (read : Exactly) → NoOther (a_take s read)
  taken s read x given e = let z : ◌≡◌ {A = ℕ} 0 1 = cc in absurd (omega arith)

  by_call : (b : Board) (d : Call) → keeping_call input d → (c : Counted) → Memᴰ c (after_call b d).counted → Known b c
  by_call b (set_up n t seat agreement plan) k = by_set_up b (set_up_of n t seat agreement plan).verdict (set_up_of n t seat agreement plan).party
  by_call b (start p given lent used) k =
      by_entry b (a_start (position_of p.plan (voted_input given)) given) (started (position_of p.plan (voted_input given)) given k) p lent used (start_finds p given lent used)
  by_call b (take_message_lem p sender bytes lent used) k =
      by_entry b (a_take sender (exact_message bytes)) (taken sender (exact_message bytes)) p lent used (take_finds p sender bytes lent used)
  by_call b (read_answer p) k = by_answer b (answered_of p).answer
  by_call b (read_count p g d) k = by_answer b (read_as_count p g d).answer
  by_call b (restore n t seat agreement plan lent) k = by_restore b lent (restore_finds n t seat agreement plan lent)

  by_own : (b : Board) (s : Step) → Keeping input s → (c : Counted) → Memᴰ c (after_own b s).counted → Known b c
  by_own b (calls i d) k c m = by_call b d k c m
  by_own b (hands i bytes) k c m = inl m
  by_own b (cut i left) k c m = absurd k

  -- a start counted before, or is with this input
  abbrev Before : History → History → ℕ → Type 0
  Before h later i = (x : ℕ) (given : StartInput) → StartedBy later i x given → StartedBy h i x given ⊎ (given ≡ input)

  by_step : (s : Step) (h : History) → Keeping input s → (i : ℕ) → Before h (s ∷ h) i
  by_step s h k i = either (Before h (s ∷ h)) (whose s) i mine theirs
    where
      mine : Before h (s ∷ h) (whose s)
      mine x given (c, m, e) = go (by_own (board_after h (whose s)) s k c (subst (λ (b : Board). Memᴰ c b.counted) (own s h) m))
        where
          go : Known (board_after h (whose s)) c → StartedBy h (whose s) x given ⊎ (given ≡ input)
          go (inl n) = inl (c, n, e)
          go (inr n) = inr (n x given e)

      theirs : eqb (whose s) i ≡ false → Before h (s ∷ h) i
      theirs d x given (c, m, e) = inl (c, subst (λ (b : Board). Memᴰ c b.counted) (other s h i d) m, e)

  pub starts_before : (more h : History) → KeepingAll input more → (i x : ℕ) (given : StartInput) → StartedBy (more ++ h) i x given
      → StartedBy h i x given ⊎ (given ≡ input)
  starts_before [] h k i x given t = inl t
  starts_before (s ∷ more) h (k, ks) i x given t = go (by_step s (more ++ h) k i x given t) (starts_before more h ks i x given)
    where
      go : StartedBy (more ++ h) i x given ⊎ (given ≡ input) → (StartedBy (more ++ h) i x given → StartedBy h i x given ⊎ (given ≡ input))
          → StartedBy h i x given ⊎ (given ≡ input)
      go (inl y) ih = ih y
      go (inr y) ih = inr y
