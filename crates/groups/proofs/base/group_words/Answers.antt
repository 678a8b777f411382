-- `group_words`: a turn writes the next word over, and the words past the lent part stay. Assumes nothing.
use Rattle.std.proofs.Common.{◌≡◌, ℕ, zero, suc, ◌<◌, ◌∙◌, List, [], ◌∷◌, ◌++◌, length, get_or, take, drop, ap, refl, arith}
use Rattle.std.proofs.lemmas.List.{length-take-le, get_or-take}
use Rattle.algebra.specs.Buffers.{over}
use Rattle.algebra.proofs.Filling.{over_none, over-step, over-end, get_d_past}
use Rattle.groups.specs.Words.{word_in_members}
use Rattle.groups.proofs.base.group_words.Goals as goal

-- the front is written over, and what is behind it stays
over_front : (n : ℕ) (f : ℕ → ℕ) (l : List ℕ) → over n f (take n l) ++ drop n l ≡ over n f l
unfolding over
over_front zero f l = refl
over_front (suc n) f [] = refl
over_front (suc n) f (x ∷ l) = ap (λ (t : List ℕ). f 0 ∷ t) (over_front n (λ (k : ℕ). f (suc k)) l)

pub loop-word-init : goal.loop-word-init
loop-word-init c = over_none _ _

pub loop-word-preserved : goal.loop-word-preserved
loop-word-preserved c =
    let a = c.args in
    let i : ℕ = c.loop-word.word-index in
    let f = λ (k : ℕ). word_in_members a.g a.v (get_or a.words.now k 0) in
    let long : length (take a.c a.words.now) ≡ a.c = length-take-le a.c a.words.now (omega arith) in
    let within : i < a.c = omega arith in
    let stood : get_or c.loop-word.word-items i 0 ≡ get_or a.words.now i 0 =
    ap (λ (t : List ℕ). get_or t i 0) c.loop-word.invariant ∙ get_d_past i f (take a.c a.words.now) 0 i (omega arith) ∙ get_or-take a.c a.words.now i 0 within in
    over-step i f (take a.c a.words.now) c.loop-word.invariant (c.group_word.ensures ∙ ap (word_in_members a.g a.v) stood) (omega arith)

pub returns : goal.returns
returns c =
    let a = c.args in
    let f = λ (k : ℕ). word_in_members a.g a.v (get_or a.words.now k 0) in
    let long : length (take a.c a.words.now) ≡ a.c = length-take-le a.c a.words.now (omega arith) in
    let all : c.loop-word.word-index ≡ a.c = omega arith in
    ap (λ (t : List ℕ). t ++ drop a.c a.words.now) (over-end f (take a.c a.words.now) c.loop-word.invariant all) ∙ over_front a.c f a.words.now
