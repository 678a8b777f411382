use Rattle.std.proofs.Common.{◌≡◌, ◌+◌, ◌*◌, ◌-◌, ◌≤◌, ◌<◌, ℕ, ◌∙◌, arith, rules, length, length-set, length-take}
use Rattle.meaning.specs.Calls.{word_at}
use Rattle.algebra.proofs.Filling.{over_none, over-step, over-end}
use Rattle.laws.proofs.Chains.{sound}
use Rattle.laws.proofs.Clean.{part_range}
use Rattle.design.proofs.development.Parts.{part_in, left-lent, right-lent}
use Rattle.design.proofs.development.write_shifts.Goals as goal

pub loop-shift-init : goal.loop-shift-init
loop-shift-init c = record { long = search rules; written = over_none _ _ }

pub slice_bounds-side_word-end : goal.slice_bounds-side_word-end
slice_bounds-side_word-end c =
    let a = c.args in
    let h = a.addition.head in
    omega (arith, part_in (2 * h.p) a.j h.m c.requires.1, (sound h a.blocks.now c.requires.0).long)

pub side_word-requires : goal.side_word-requires
side_word-requires c =
    let a = c.args in
    let h = a.addition.head in
    let d = sound h a.blocks.now c.requires.0 in
    let first = 2 * h.p * a.j in
    let in_list : first + (first + h.p - first) ≤ length a.blocks.now = omega (arith, part_in (2 * h.p) a.j h.m c.requires.1, d.long) in
    (search rules, simp length-take (omega (arith, d.sizes)), part_range h a.blocks.now d first (first + h.p - first) in_list)

pub slice_bounds-side_word-end-in-loop-shift : goal.slice_bounds-side_word-end-in-loop-shift
slice_bounds-side_word-end-in-loop-shift c =
    let a = c.args in
    let h = a.addition.head in
    omega (arith, part_in (2 * h.p) a.j h.m c.requires.1, (sound h a.blocks.now c.requires.0).long)

pub side_word-requires-in-loop-shift : goal.side_word-requires-in-loop-shift
side_word-requires-in-loop-shift c =
    let a = c.args in
    let h = a.addition.head in
    let d = sound h a.blocks.now c.requires.0 in
    let first = 2 * h.p * a.j + h.p in
    let in_list : first + (first + h.p - first) ≤ length a.blocks.now = omega (arith, part_in (2 * h.p) a.j h.m c.requires.1, d.long) in
    (search rules, simp length-take (omega (arith, d.sizes)), part_range h a.blocks.now d first (first + h.p - first) in_list)

pub loop-shift-preserved : goal.loop-shift-preserved
loop-shift-preserved c =
    let l = c.loop-shift in
    let a = c.args in
    let h = a.addition.head in
    let below : l.shift < h.n = omega arith in
    let f : ℕ → ℕ = λ k. word_at h a.blocks.now (2 * h.n * a.j + k) in
    let one = over-step (2 * l.shift) f a.part.now l.invariant.written (c.side_word.ensures ∙ left-lent h a.blocks.now a.j l.shift below) (omega arith) in
    let two = over-step (2 * l.shift + 1) f a.part.now one (c.side_word-in-loop-shift.ensures ∙ right-lent h a.blocks.now a.j l.shift below) (omega arith) in
    let e : 2 * l.shift + 1 + 1 ≡ 2 * (l.shift + 1) = omega arith in
    record { long = simp length-set l.invariant.long; written = over-end f a.part.now two e }
