-- `plan_test::row_fits` meets its contract: each question is one of those that `row_fits` asks.
use native.Mathlib.Omega.{arith}
use lib.ListN.{length-set}
use Rattle.plan_test.proofs.Noted.{no_fit, fit}
use borrow.Author.Rules.{rules}
use Rattle.plan_test.proofs.row_fits.Goals as goal

pub returns-then-v-p : goal.returns-then-v-p
returns-then-v-p c =
    no_fit _ _ _ c.requires.0 c.from-p.ensures c.from-c.ensures (λ a b d e f g. search rules)

pub returns-then-v-c : goal.returns-then-v-c
returns-then-v-c c =
    no_fit _ _ _ c.requires.0 c.from-p.ensures c.from-c.ensures (λ a b d e f g. search rules)

pub returns-then-seen-p-ne1 : goal.returns-then-seen-p-ne1
returns-then-seen-p-ne1 c =
    no_fit _ _ _ c.requires.0 c.from-p.ensures c.from-c.ensures (λ a b d e f g. search rules)

pub returns-then-seen-c-eq1 : goal.returns-then-seen-c-eq1
returns-then-seen-c-eq1 c =
    no_fit _ _ _ c.requires.0 c.from-p.ensures c.from-c.ensures (λ a b d e f g. search rules)

pub returns-then-at_p-ge-MAX_DEGREE : goal.returns-then-at_p-ge-MAX_DEGREE
returns-then-at_p-ge-MAX_DEGREE c =
    no_fit _ _ _ c.requires.0 c.from-p.ensures c.from-c.ensures (λ a b d e f g. search rules)

pub returns-then-at_c-ge-MAX_DEGREE : goal.returns-then-at_c-ge-MAX_DEGREE
returns-then-at_c-ge-MAX_DEGREE c =
    no_fit _ _ _ c.requires.0 c.from-p.ensures c.from-c.ensures (λ a b d e f g. search rules)

pub bounds-many-c-2 : goal.bounds-many-c-2
bounds-many-c-2 c = simp length-set (omega arith)

pub returns : goal.returns
returns c =
    fit _ _ _ c.requires.0 c.from-p.ensures c.from-c.ensures c.if-v-p.false c.if-v-c.false c.if-seen-p-ne1.false c.if-seen-c-eq1.false c.if-at_p-ge-MAX_DEGREE.false c.if-at_c-ge-MAX_DEGREE.false
