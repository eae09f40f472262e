-- What a board keeps over steps of others, and over handing over.
use mathlib.Core.Path.{◌≡◌, refl, sym, ap, ◌∙◌, subst}
use mathlib.Core.Bool.{Bool, true, false}
use mathlib.Core.List.{List, ◌∷◌, Memᴰ}
use Prim.Native.Nat.{ℕ}
use lib.Dec.{eqb}
use lib.IntN.{ℤ}
use Rattle.base.specs.Pick.{pick}
use Rattle.message.specs.declared.Message.{Message}
use Rattle.agreement.specs.History.{Step, hands, whose, History, Counted, Board, guarding, board_after}
use Rattle.agreement.specs.Demand.{Started, Took, HandedSince}
use Rattle.agreement.proofs.Steps.{other}
use Rattle.agreement.proofs.Since.{restore_other, since_later}

-- two boards that differ only in how much a cut must leave
pub record Alike (b c : Board) : Type 0 where
  pub stage : b.stage ≡ c.stage
  pub party : b.party ≡ c.party
  pub journal : b.journal ≡ c.journal
  pub outbox : b.outbox ≡ c.outbox
  pub counted : b.counted ≡ c.counted

alike_path : (b c : Board) → b ≡ c → Alike b c
alike_path b c e = record {
  stage = ap (λ (x : Board). x.stage) e;
  party = ap (λ (x : Board). x.party) e;
  journal = ap (λ (x : Board). x.journal) e;
  outbox = ap (λ (x : Board). x.outbox) e;
  counted = ap (λ (x : Board). x.counted) e;
}

alike_trans : (b c d : Board) → Alike b c → Alike c d → Alike b d
alike_trans b c d x y = record {
  stage = x.stage ∙ y.stage;
  party = x.party ∙ y.party;
  journal = x.journal ∙ y.journal;
  outbox = x.outbox ∙ y.outbox;
  counted = x.counted ∙ y.counted;
}

-- board i is later as it was after h, and what it handed over since its last restore still counts
pub record Kept (i : ℕ) (h later : History) : Type 0 where
  pub board : Alike (board_after later i) (board_after h i)
  pub since : (bytes : List ℕ) → HandedSince i bytes h → HandedSince i bytes later

pub kept_refl : (i : ℕ) (h : History) → Kept i h h
kept_refl i h = record { board = alike_path (board_after h i) (board_after h i) refl; since = λ bytes x. x }

pub kept_trans : (i : ℕ) (h k l : History) → Kept i h k → Kept i k l → Kept i h l
kept_trans i h k l x y = record {
  board = alike_trans (board_after l i) (board_after k i) (board_after h i) y.board x.board;
  since = λ bytes z. y.since bytes (x.since bytes z);
}

-- ---- a step of another board

pub kept_other : (s : Step) (h : History) (i : ℕ) → eqb (whose s) i ≡ false → Kept i h (s ∷ h)
kept_other s h i d = record {
  board = alike_path (board_after (s ∷ h) i) (board_after h i) (other s h i d);
  since = λ bytes x. since_later i bytes s h (restore_other i s d) x;
}

-- ---- a message handed over, by whichever board

alike_guarding : (c : Bool) (b : Board) → Alike (pick c (guarding b) b) b
alike_guarding true b = record { stage = refl; party = refl; journal = refl; outbox = refl; counted = refl }
alike_guarding false b = record { stage = refl; party = refl; journal = refl; outbox = refl; counted = refl }

pub kept_hand : (j : ℕ) (bytes : List ℕ) (h : History) (i : ℕ) → Kept i h (hands j bytes ∷ h)
unfolding board_after
kept_hand j bytes h i = record {
  board = alike_guarding (eqb j i) (board_after h i);
  since = λ given x. since_later i given (hands j bytes) h refl x;
}

-- ---- started and taken

-- the calls of board i that count after h count later too
abbrev pub Counts : ℕ → History → History → Type 0
Counts i h later = (c : Counted) → Memᴰ c (board_after h i).counted → Memᴰ c (board_after later i).counted

pub kept_counts : (i : ℕ) (h later : History) → Kept i h later → Counts i h later
kept_counts i h later k c x = subst (Memᴰ c) (sym k.board.counted) x

-- board i has started
abbrev pub Begun : History → ℕ → Type 0
Begun h i = (x : ℕ) × (z : ℤ) × Started h i x z

pub begun_later : (i : ℕ) (h later : History) → Counts i h later → Begun h i → Begun later i
begun_later i h later k (x, z, (input, (c, m, e), voted)) = (x, z, (input, (c, k c m, e), voted))

pub took_later : (i : ℕ) (h later : History) → Counts i h later → (j : ℕ) (m : Message) → Took h i j m → Took later i j m
took_later i h later k j m (c, x, e) = (c, k c x, e)
