use Rattle.std.proofs.Common.{◌≡◌, ◌≤◌, ℕ, ap, length, get_or, arith}
use Prim.Native.Nat.{◌^◌}
use Rattle.meaning.specs.Design.{moved}
use Rattle.design.proofs.development.Parts.{word_none, word_more, word-most, moved-most, bit_of}
use Rattle.design.proofs.development.side_word.Goals as goal

pub overflow_shl-sum : goal.overflow_shl-sum
overflow_shl-sum c =
    let a = c.args in
    omega (
      arith,
      moved-most a.addition.head a.shift (get_or a.side.now c.loop-byte.byte-index 0) a.addition.fits c.requires.0
          (c.requires.2 _ c.loop-byte-test.true),
    )

pub loop-byte-preserved : goal.loop-byte-preserved
loop-byte-preserved c =
    let a = c.args in
    let l = c.loop-byte in
    let small : c.object_of.result ≤ 50 =
    rw c.object_of.ensures (moved-most a.addition.head a.shift (get_or a.side.now l.byte-index 0) a.addition.fits c.requires.0
    (c.requires.2 _ c.loop-byte-test.true)) in
    omega (
      arith,
      bit_of _ small,
      ap (λ (t : ℕ). 2 ^ t) c.object_of.ensures,
      word_more (moved a.addition.head a.shift) a.side.now l.byte-index c.loop-byte-test.true,
      l.invariant,
    )

pub overflow_add-sum : goal.overflow_add-sum
overflow_add-sum c =
    let a = c.args in
    omega (arith, loop-byte-preserved c, word-most a.addition.head a.shift a.side.now a.addition.fits c.requires.0 c.requires.1 c.requires.2)

pub returns : goal.returns
returns c =
    let a = c.args in
    let all : c.loop-byte.byte-index ≡ length a.side.now = omega arith in
    omega (arith, c.loop-byte.invariant, word_none (moved a.addition.head a.shift) a.side.now c.loop-byte.byte-index all)
