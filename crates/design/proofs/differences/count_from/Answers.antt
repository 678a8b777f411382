use Rattle.std.proofs.Common.{◌≤◌, refl, length, take, arith}
use lib.Seq.{length-take-le}
use Rattle.laws.specs.Differences.{over_elements}
use Rattle.design.proofs.differences.Counting.{met_next, met-most, more-twice, row-still}
use Rattle.design.proofs.differences.count_from.Goals as goal

pub loop-byte-init : goal.loop-byte-init
unfolding over_elements
loop-byte-init c = record {
  within = record { long = refl; each = λ e m. omega arith };
  across = record { long = refl; each = λ e m. omega arith };
}

pub count_one-requires : goal.count_one-requires
count_one-requires c =
    let a = c.args in
    let l = c.loop-byte in
    let few : length (take l.byte-index a.own.now) ≤ 25 = omega (arith, length-take-le l.byte-index a.own.now (omega arith), c.requires.0.few) in
    let own = row-still _ 100000 625 200000 a.within.now l.within c.requires.2 l.invariant.within
    (λ e. met-most a.addition.head e a.own.now (take l.byte-index a.own.now) c.requires.0.few few) (omega arith) in
    let other = row-still _ 100000 625 200000 a.across.now l.across c.requires.3 l.invariant.across
    (λ e. met-most a.addition.head e a.other.now (take l.byte-index a.own.now) c.requires.1.few few) (omega arith) in
    (c.requires.0.ranged l.byte-index c.loop-byte-test.true, c.requires.0, c.requires.1, own, other)

pub loop-byte-preserved : goal.loop-byte-preserved
loop-byte-preserved c =
    let a = c.args in
    let l = c.loop-byte in record {
      within = more-twice _ _ _ a.within.now l.within _ l.invariant.within c.count_one.ensures.more
          (λ e. met_next a.addition.head e a.own.now a.own.now l.byte-index c.loop-byte-test.true);
      across = more-twice _ _ _ a.across.now l.across _ l.invariant.across c.count_one.ensures.more_2
          (λ e. met_next a.addition.head e a.other.now a.own.now l.byte-index c.loop-byte-test.true);
    }
