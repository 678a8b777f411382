use Rattle.std.proofs.Common.{◌+◌, ◌*◌, arith}
use Rattle.laws.proofs.Chains.{sound}
use Rattle.design.proofs.development.Parts.{part_in}
use Rattle.design.proofs.differences.Counting.{left-lent, right-lent, met-most, row-still, row_wider, part_same, block_within, block-across}
use Rattle.design.proofs.differences.count_block.Goals as goal

pub slice_bounds-on_left-end : goal.slice_bounds-on_left-end
slice_bounds-on_left-end c =
    let a = c.args in
    let h = a.addition.head in
    omega (arith, part_in (2 * h.p) a.j h.m c.requires.1, (sound h a.blocks.now c.requires.0).long)

pub slice_bounds-on_right-end : goal.slice_bounds-on_right-end
slice_bounds-on_right-end c =
    let a = c.args in
    let h = a.addition.head in
    omega (arith, part_in (2 * h.p) a.j h.m c.requires.1, (sound h a.blocks.now c.requires.0).long)

pub count_from-requires : goal.count_from-requires
count_from-requires c =
    let a = c.args in
    let h = a.addition.head in
    let d = sound h a.blocks.now c.requires.0 in (
      left-lent h a.blocks.now d a.j c.requires.1,
      right-lent h a.blocks.now d a.j c.requires.1,
      row_wider 80000 100000 a.within.now (omega arith) c.requires.2,
      row_wider 80000 100000 a.across.now (omega arith) c.requires.3,
    )

pub count_from-requires-2 : goal.count_from-requires-2
count_from-requires-2 c =
    let a = c.args in
    let h = a.addition.head in
    let d = sound h a.blocks.now c.requires.0 in
    let left = left-lent h a.blocks.now d a.j c.requires.1 in
    let right = right-lent h a.blocks.now d a.j c.requires.1 in
    let one = c.count_from.ensures in (
      right,
      left,
      row-still _ 80000 625 100000 a.within.now _ c.requires.2 one.more (λ e. met-most h e _ _ left.few left.few) (omega arith),
      row-still _ 80000 625 100000 a.across.now _ c.requires.3 one.more_2 (λ e. met-most h e _ _ right.few left.few) (omega arith),
    )

pub returns-clause-more : goal.returns-clause-more
returns-clause-more c =
    let a = c.args in
    let h = a.addition.head in
    block_within h a.blocks.now a.j (part_same (2 * h.p * a.j) h.p a.blocks.now) (part_same (2 * h.p * a.j + h.p) h.p a.blocks.now)
    c.count_from.ensures.more c.count_from-2.ensures.more

pub returns-clause-more_2 : goal.returns-clause-more_2
returns-clause-more_2 c =
    let a = c.args in
    let h = a.addition.head in
    block-across h a.blocks.now a.j (part_same (2 * h.p * a.j) h.p a.blocks.now) (part_same (2 * h.p * a.j + h.p) h.p a.blocks.now)
    c.count_from.ensures.more_2 c.count_from-2.ensures.more_2
