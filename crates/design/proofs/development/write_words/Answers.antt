use Rattle.std.proofs.Common.{◌*◌, refl}
use native.Mathlib.Nat.{mul-zero}
use Rattle.meaning.specs.Calls.{word_at}
use Rattle.algebra.proofs.Filling.{over_none, over-end, over-lent, over-long}
use Rattle.design.proofs.development.Parts.{part-next}
use Rattle.design.proofs.development.write_words.Goals as goal

pub loop-j-init : goal.loop-j-init
loop-j-init c = record { long = refl; written = rw mul-zero (over_none _ _) }

pub loop-j-preserved : goal.loop-j-preserved
loop-j-preserved c =
    let l = c.loop-j in
    let a = c.args in
    let h = a.addition.head in
    let back = over-lent (2 * h.n * l.j) (2 * h.n) _ (word_at h a.blocks.now) a.words.now l.invariant.written c.write_shifts.ensures (λ i o. refl) in
    record { long = over-long _ _ _ _ back; written = over-end _ _ back (part-next (2 * h.n) l.j) }
