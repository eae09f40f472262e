-- A script of board 0 on the star after its start, by tests of its level 0: the history is allowed, and its calls make what the level's runs make.
use mathlib.Core.Path.{◌≡◌, sym, subst}
use mathlib.Core.Logic.{◌⊎◌, inl, inr}
use mathlib.Core.Bool.{Bool, false, not, ◌&&◌, ◌||◌}
use mathlib.Core.List.{List, [], ◌∷◌, ◌++◌, Memᴰ}
use Prim.Native.Nat.{ℕ, zero, suc, ◌<◌}
use native.Mathlib.Omega.{arith}
use lib.Dec.{T, eqb, leb, eqb→eq, leb→le, T_not}
use lib.ListN.{length}
use Rattle.base.specs.Limits.{max_rules}
use Rattle.base.proofs.Bools.{T-left, T-right, or_split, not-T→false}
use Rattle.message.specs.declared.Message.{Message}
use Rattle.message.specs.Message.{in_table, message_bytes}
use Rattle.journal.specs.declared.Record.TheVariants.{Taken}
use Rattle.journal.specs.Journal.{record_bytes}
use Rattle.level.specs.Level.{Level, held, with_heard}
use Rattle.agreement.specs.History.{History, board_after}
use Rattle.agreement.specs.Allowed.{Sound, Handed, Allowed}
use Rattle.agreement.specs.Demand.{Made}
use Rattle.agreement_histories.specs.Scripts.{Action, sets_up, starts, starts_count, takes, reads, reads_count, sends, cuts, restores, restores_torn, tries, says, step_of, followed}
use Rattle.agreement_histories.proofs.Worlds.{same, among}
use Rattle.agreement_histories.proofs.Tests.{same→, among→}
use Rattle.agreement_seven.specs.Unbounded.{vote, bad}
use Rattle.agreement_seven.proofs.Making.{all_among, all_among_lem}
use Rattle.agreement_seven.proofs.OneLevel.{Rest, level_run}
use Rattle.agreement_seven.proofs.Standing.{Stands, take_stands, send_stands}

-- board 0 may take m from s: it is of the vote and the table, new, and from the faulty board or handed over
abbrev take_tests : Level → List Message → ℕ → Message → Bool
take_tests l sent s m =
    (same m (says m.body) && in_table (says m.body))
    && ((leb (length (record_bytes (Taken s (says m.body)))) 32 && not (held l m.body s)) && (eqb s 1 || (eqb s 0 && among m sent)))

abbrev carried : Bool → Rest → (Level → List Message → Bool) → Bool
carried tests next on = tests && (next.fine && on next.level next.made)

-- the script goes on so that all of the goal is made
unfoldable pub going : List Message → Level → List Message → List Message → List Action → Bool
going goal l ms sent [] = all_among goal ms
going goal l ms sent (sets_up i ∷ rest) = false
going goal l ms sent (starts i z ∷ rest) = false
going goal l ms sent (starts_count i g c ∷ rest) = false
going goal l ms sent (takes zero s m ∷ rest) =
    carried (take_tests l sent s m) (level_run max_rules (with_heard l m.body s)) (λ x made. going goal x (ms ++ made) sent rest)
going goal l ms sent (takes (suc i) s m ∷ rest) = false
going goal l ms sent (reads i ∷ rest) = false
going goal l ms sent (reads_count i g c ∷ rest) = false
going goal l ms sent (sends zero m ∷ rest) = among m ms && going goal l ms (m ∷ sent) rest
going goal l ms sent (sends (suc i) m ∷ rest) = false
going goal l ms sent (cuts i k ∷ rest) = false
going goal l ms sent (restores i ∷ rest) = false
going goal l ms sent (restores_torn i tail ∷ rest) = false
going goal l ms sent (tries i k c ∷ rest) = false

-- an allowed history in which board 0's calls made the goal
pub record Makes (goal : List Message) (h : History) : Type 0 where
  pub allowed : Allowed vote bad h
  pub made : (m : Message) → Memᴰ m goal → Made h 0 m

take_on : (h : History) (l : Level) (ms sent : List Message) (w : Stands h l ms sent) (s : ℕ) (m : Message) → T (take_tests l sent s m)
    → T (level_run max_rules (with_heard l m.body s)).fine
    → Stands (step_of vote (board_after h 0) (takes 0 s m) ∷ h) (level_run max_rules (with_heard l m.body s)).level (ms ++ (level_run max_rules (with_heard l m.body s)).made) sent
take_on h l ms sent w s m t fine =
    subst (λ (x : Message). Stands (step_of vote (board_after h 0) (takes 0 s x) ∷ h) (level_run max_rules (with_heard l m.body s)).level (ms ++ (level_run max_rules (with_heard l m.body s)).made) sent)
    (sym is)
    (take_stands h l ms sent w s m.body (low (or_split (eqb s 1) (eqb s 0 && among m sent) from)) (T-right (same m (says m.body)) (in_table (says m.body)) whole)
    (leb→le (length (record_bytes (Taken s (says m.body)))) 32 (T-left short new fits)) (not-T→false (held l m.body s) (T_not (held l m.body s) (T-right short new fits)))
    (given (or_split (eqb s 1) (eqb s 0 && among m sent) from)) fine)
  where
    short : Bool
    short = leb (length (record_bytes (Taken s (says m.body)))) 32

    new : Bool
    new = not (held l m.body s)

    whole : T (same m (says m.body) && in_table (says m.body))
    whole = T-left (same m (says m.body) && in_table (says m.body)) ((short && new) && (eqb s 1 || (eqb s 0 && among m sent))) t

    after : T ((short && new) && (eqb s 1 || (eqb s 0 && among m sent)))
    after = T-right (same m (says m.body) && in_table (says m.body)) ((short && new) && (eqb s 1 || (eqb s 0 && among m sent))) t

    fits : T (short && new)
    fits = T-left (short && new) (eqb s 1 || (eqb s 0 && among m sent)) after

    from : T (eqb s 1 || (eqb s 0 && among m sent))
    from = T-right (short && new) (eqb s 1 || (eqb s 0 && among m sent)) after

    is : m ≡ says m.body
    is = same→ m (says m.body) (T-left (same m (says m.body)) (in_table (says m.body)) whole)

    low : T (eqb s 1) ⊎ T (eqb s 0 && among m sent) → s < 2
    low (inl e) = let x : s ≡ 1 = eqb→eq s 1 e in omega arith
    low (inr e) = let x : s ≡ 0 = eqb→eq s 0 (T-left (eqb s 0) (among m sent) e) in omega arith

    given : T (eqb s 1) ⊎ T (eqb s 0 && among m sent) → Sound vote bad s → Handed s (message_bytes (says m.body)) h
    given (inl e) k = absurd (T_not (eqb s 1) k.1 e)
    given (inr e) k =
        subst (λ (i : ℕ). Handed i (message_bytes (says m.body)) h) (sym (eqb→eq s 0 (T-left (eqb s 0) (among m sent) e)))
        (subst (λ (x : Message). Handed 0 (message_bytes x) h) is (w.handed m (among→ m sent (T-right (eqb s 0) (among m sent) e))))

pub follow : (goal : List Message) (rest : List Action) (h : History) (l : Level) (ms sent : List Message) → Stands h l ms sent → T (going goal l ms sent rest)
    → Makes goal (followed vote h rest)
unfolding going followed
follow goal [] h l ms sent w t = record { allowed = w.allowed; made = λ m k. w.made m (all_among_lem goal ms t m k) }
follow goal (sets_up i ∷ rest) h l ms sent w t = absurd t
follow goal (starts i z ∷ rest) h l ms sent w t = absurd t
follow goal (starts_count i g c ∷ rest) h l ms sent w t = absurd t
follow goal (takes zero s m ∷ rest) h l ms sent w t =
    let next : Rest = level_run max_rules (with_heard l m.body s) in
    let on : Bool = going goal next.level (ms ++ next.made) sent rest in
    let tests : Bool = take_tests l sent s m in
    let k : T (next.fine && on) = T-right tests (next.fine && on) t in
    follow goal rest (step_of vote (board_after h 0) (takes 0 s m) ∷ h) next.level (ms ++ next.made) sent
    (take_on h l ms sent w s m (T-left tests (next.fine && on) t) (T-left next.fine on k)) (T-right next.fine on k)
follow goal (takes (suc i) s m ∷ rest) h l ms sent w t = absurd t
follow goal (reads i ∷ rest) h l ms sent w t = absurd t
follow goal (reads_count i g c ∷ rest) h l ms sent w t = absurd t
follow goal (sends zero m ∷ rest) h l ms sent w t =
    let on : Bool = going goal l ms (m ∷ sent) rest in
    follow goal rest (step_of vote (board_after h 0) (sends 0 m) ∷ h) l ms (m ∷ sent)
    (send_stands h l ms sent w m (among→ m ms (T-left (among m ms) on t))) (T-right (among m ms) on t)
follow goal (sends (suc i) m ∷ rest) h l ms sent w t = absurd t
follow goal (cuts i k ∷ rest) h l ms sent w t = absurd t
follow goal (restores i ∷ rest) h l ms sent w t = absurd t
follow goal (restores_torn i tail ∷ rest) h l ms sent w t = absurd t
follow goal (tries i k c ∷ rest) h l ms sent w t = absurd t
