-- `listing::text::put_values`: no line before the first turn, one line more with each, and all of them at the end.
use Rattle.std.proofs.Common.{◌≡◌, ◌+◌, ◌<◌, ◌≤◌, ℕ, ℤ, pos, List, length, get_or, ap, sym, ◌∙◌, arith, rules}
use Rattle.std.proofs.lemmas.Iterator.{YieldsList-from_slice, YieldsList-from_zip}
use Rattle.std.proofs.lemmas.Iterator.Consumers.{YieldsList-from_enumerate, YieldsList-at, YieldsList-turn, YieldsList-end}
use Rattle.std.specs.List.{enumerate_from, zip}
use Rattle.std.proofs.lemmas.List.{length_push, get_or_default}
use Rattle.std.proofs.lemmas.List.FromFn.{length-enumerate_from, get_or-enumerate_from}
use Rattle.std.proofs.lemmas.Slice.Zip.{length-zip, get_or-zip}
use Rattle.algebra.proofs.Signs.{read_back}
use Rattle.algebra.proofs.Writing.{named}
use Rattle.printing.proofs.Each.{no_lines, more-lines}
use Rattle.listing.specs.Sheet.{value_at, value_lines}
use Rattle.listing.proofs.text.put_values.Goals as goal

-- as many pairs as there are numbers in the shorter list
pairs : (xs ys : List ℤ) → length xs ≤ length ys → length (enumerate_from 0 (zip xs ys)) ≡ length xs
pairs xs ys l = omega (arith, length-enumerate_from 0 (zip xs ys), length-zip xs ys)

-- turn n brings n and number n of either list
pair_at : (xs ys : List ℤ) (n : ℕ) (p : ℕ × (ℤ × ℤ)) → length xs ≤ length ys → n < length (enumerate_from 0 (zip xs ys)) →
    p ≡ get_or (enumerate_from 0 (zip xs ys)) n p → (p.0 ≡ n) × ((p.1.0 ≡ get_or xs n (pos 0)) × (p.1.1 ≡ get_or ys n (pos 0)))
pair_at xs ys n p l more e =
    let left : n < length xs = omega (arith, pairs xs ys l) in
    let right : n < length ys = omega arith in
    let within : n < length (zip xs ys) = omega (arith, length-enumerate_from 0 (zip xs ys)) in
    let here : p ≡ (0 + n, get_or (zip xs ys) n p.1) = e ∙ get_or-enumerate_from 0 (zip xs ys) n p within in
    let both : p.1 ≡ (get_or xs n p.1.0, get_or ys n p.1.1) = ap (λ (q : ℕ × (ℤ × ℤ)). q.1) here ∙ get_or-zip xs ys n p.1 left right in (
      omega (arith, ap (λ (q : ℕ × (ℤ × ℤ)). q.0) here),
      (
        ap (λ (q : ℤ × ℤ). q.0) both ∙ get_or_default xs n p.1.0 (pos 0) left,
        ap (λ (q : ℤ × ℤ). q.1) both ∙ get_or_default ys n p.1.1 (pos 0) right,
      ),
    )

pub loop-i-init : goal.loop-i-init
loop-i-init c = no_lines _ _ _

pub loop-i-preserved : goal.loop-i-preserved
loop-i-preserved c =
    let l = c.loop-i in
    let a = c.args in
    let turn = YieldsList-turn (YieldsList-at c.into_iter-i-iterator.ensures.into_iter_gives (YieldsList-from_enumerate
    (YieldsList-at c.enumerate-i-items.ensures.source (YieldsList-from_zip
    (YieldsList-at c.zip.ensures.first (YieldsList-from_slice a.numerators.now cc)) (YieldsList-from_slice a.hundredths.now cc)))
    c.enumerate-i-items.ensures.count))
    l.yielded _ l.yielded_by c.next.result c.next.new.self _ c.in-Some.is c.next.ensures.steps in
    let here = pair_at a.numerators.now a.hundredths.now (length l.yielded) (c.in-Some.i, (c.in-Some.numerator.now, c.in-Some.published.now)) c.requires turn.0 turn.1 in
    let left = read_back c.in-Some.numerator.now (search rules) in
    let right = read_back c.in-Some.published.now (search rules) in
    named (more-lines (value_at a.numerators.now a.hundredths.now a.denominator) (length l.yielded) l.invariant
    (named c.put_value-place.ensures (rw (left, right, here.0, here.1.0, here.1.1))))
    (ap (value_lines a.numerators.now a.hundredths.now a.denominator) (sym (length_push l.yielded (c.in-Some.i, (c.in-Some.numerator, c.in-Some.published)))))

pub returns : goal.returns
returns c =
    let l = c.loop-i in
    let a = c.args in
    let end = YieldsList-end (YieldsList-at c.into_iter-i-iterator.ensures.into_iter_gives (YieldsList-from_enumerate
    (YieldsList-at c.enumerate-i-items.ensures.source (YieldsList-from_zip
    (YieldsList-at c.zip.ensures.first (YieldsList-from_slice a.numerators.now cc)) (YieldsList-from_slice a.hundredths.now cc)))
    c.enumerate-i-items.ensures.count))
    l.yielded _ l.yielded_by c.next.result c.next.new.self c.in-None.is c.next.ensures.steps in
    named l.invariant (ap (value_lines a.numerators.now a.hundredths.now a.denominator) (end.1 ∙ pairs a.numerators.now a.hundredths.now c.requires))
