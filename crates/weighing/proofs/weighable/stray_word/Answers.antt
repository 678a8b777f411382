-- `stray_word`: every word before the one that is found has its objects below v. Assumes nothing.
use Rattle.std.proofs.Common.{◌≡◌, ℕ, List, ◌<◌, ◌≤◌, ◌+◌, ◌*◌, ◌^◌, ◌%◌, Bool, true, false, leb, get_or, sym, arith, below_more, le-leb}
use borrow.Author.Tests.{lt-leb}
use Rattle.algebra.proofs.Tests.{first-is, first_from_none}
use Rattle.words.proofs.Bits.{shl_one}
use Rattle.weighing.specs.Verdicts.{stray_word}
use Rattle.weighing.proofs.weighable.stray_word.Goals as goal

-- 1 << v ends the words that have their objects below v
module _ (v : ℕ) (few : v ≤ 50) (word : ℕ) where
  ends : (1 * 2 ^ v) % 2 ^ 64 ≡ 2 ^ v
  ends = shl_one v (omega arith)

  strays : (1 * 2 ^ v) % 2 ^ 64 ≤ word → leb (2 ^ v) word ≡ true
  strays h = le-leb (2 ^ v) word (omega (arith, ends, h))

  stays : word < (1 * 2 ^ v) % 2 ^ 64 → leb (2 ^ v) word ≡ false
  stays h = lt-leb (2 ^ v) word (omega (arith, ends, h))

-- whether a word strays
abbrev away : List ℕ → ℕ → ℕ → Bool
away words v j = leb (2 ^ v) (get_or words j 0)

-- past the left word of block k, and past both
past_left : (p : ℕ → Bool) (k : ℕ) → ((j : ℕ) → j < 2 * k → p j ≡ false) → p (2 * k) ≡ false → (j : ℕ) → j < 2 * k + 1 → p j ≡ false
past_left p k before here = below_more _ _ before here

past_both : (p : ℕ → Bool) (k : ℕ) → ((j : ℕ) → j < 2 * k → p j ≡ false) → p (2 * k) ≡ false → p (2 * k + 1) ≡ false →
    (j : ℕ) → j < 2 * (k + 1) → p j ≡ false
past_both p k before left right j l = below_more _ _ (past_left p k before left) right j (omega (arith, l))

pub returns-then-end-words : goal.returns-then-end-words
unfolding stray_word
returns-then-end-words c =
    let a = c.args in
    sym (first-is (away a.words.now a.v) 0 _ (2 * c.loop-k.k) (omega arith) (omega arith) (λ j _. c.loop-k.invariant j)
    (strays a.v c.requires.2 _ c.if-end-words.true))

pub returns-then-end-words-2 : goal.returns-then-end-words-2
unfolding stray_word
returns-then-end-words-2 c =
    let a = c.args in
    sym (first-is (away a.words.now a.v) 0 _ (2 * c.loop-k.k + 1) (omega arith) (omega arith)
    (λ j _. past_left (away a.words.now a.v) c.loop-k.k c.loop-k.invariant (stays a.v c.requires.2 _ c.if-end-words.false) j)
    (strays a.v c.requires.2 _ c.if-end-words-2.true))

pub loop-k-preserved : goal.loop-k-preserved
loop-k-preserved c =
    let a = c.args in
    past_both (away a.words.now a.v) c.loop-k.k c.loop-k.invariant (stays a.v c.requires.2 _ c.if-end-words.false)
    (stays a.v c.requires.2 _ c.if-end-words-2.false)

pub returns : goal.returns
unfolding stray_word
returns c =
    let a = c.args in
    omega (arith, first_from_none (away a.words.now a.v) 0 (2 * a.b) (λ j _ h. c.loop-k.invariant j (omega arith)))
