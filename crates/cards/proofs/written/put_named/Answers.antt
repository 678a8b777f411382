-- `cards::written::put_named`: eight bytes in any case.
use mathlib.Core.Path.{refl, sym, ◌∙◌}
use native.Mathlib.Omega.{arith}
use Rattle.algebra.proofs.Writing.{kept}
use mathlib.Core.Bool.{true≢false}
use Rattle.cards.proofs.Going.{place}
use Rattle.cards.proofs.Keeping.{name-long}
use Rattle.cards.proofs.written.put_named.Goals as goal

pub returns-then-is_name : goal.returns-then-is_name
returns-then-is_name c =
    let p = c.put_name.ensures in
    record { place = place p (omega (arith, c.requires.1, name-long 8 c.args.word.now)); long = kept p; bytes = λ t. p }

pub returns : goal.returns
returns c = record { place = omega (arith, name-long 8 c.args.word.now); long = refl; bytes = λ t. absurd (true≢false (sym t ∙ sym c.is_name.ensures ∙ c.if-is_name.false)) }
