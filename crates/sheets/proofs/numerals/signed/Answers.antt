-- `sheets::numerals::signed`: a minus and the number behind it, or the number.
use Rattle.std.proofs.Common.{◌≡◌, ◌≤◌, ℕ, ap, sym, ◌∙◌, arith, rules, pos, List, [], ◌∷◌, Some, w64}
use Rattle.std.specs.Prelude.{neg_ℤ}
use mir.ValLaws.{to_z-of_z, to_z_pos}
use Rattle.std.proofs.lemmas.Option.{MatchOption-at_some, MatchOption-at_none}
use Rattle.std.proofs.lemmas.Slice.Eq.{strip_prefix_is}
use Rattle.std.proofs.lemmas.Bool.Decides.{Decides-eqb}
use Rattle.std.proofs.lemmas.Grind.{common_steps}
use Rattle.sheets.proofs.numerals.Digits.{within, minus-none, minus-some, plain-none, plain-some}
use Rattle.sheets.proofs.numerals.signed.Goals as goal

pub returns-in_err-below : goal.returns-in_err-below
returns-in_err-below c =
    let e : c.args.word.now ≡ 45 ∷ c.in-Some.digits.now =
    MatchOption-at_some _ _ _ c.in-Some.is (strip_prefix_is Decides-eqb c.args.word.now (45 ∷ []) c.strip_prefix.result c.strip_prefix.ensures.cases) in
    c.from_residual.ensures ∙ sym (minus-none c.args.word.now c.in-Some.digits.now e (sym c.number.ensures ∙ c.in_err-below.was))

pub returns-in-Some : goal.returns-in-Some
returns-in-Some c =
    let e : c.args.word.now ≡ 45 ∷ c.in-Some.digits.now =
    MatchOption-at_some _ _ _ c.in-Some.is (strip_prefix_is Decides-eqb c.args.word.now (45 ∷ []) c.strip_prefix.result c.strip_prefix.ensures.cases) in
    let n = c.in_ok-below.below in
    let small : n ≤ 9223372036854775808 = within 9223372036854775808 c.in-Some.digits.now n (sym c.in_ok-below.was ∙ c.number.ensures) in
    let opposite : c.saturating_sub_unsigned.result ≡ neg_ℤ (pos n) = grind (arith, common_steps) in
    ap Some (to_z-of_z w64 c.saturating_sub_unsigned.result (search rules) ∙ opposite)
    ∙ sym (minus-some c.args.word.now c.in-Some.digits.now e n (sym c.number.ensures ∙ c.in_ok-below.was))

pub returns-in_err-above : goal.returns-in_err-above
returns-in_err-above c =
    let w = c.args.word.now in
    let no : (t : List ℕ) → w ≡ 45 ∷ t → ⊥ =
    MatchOption-at_none _ _ c.in_default.is (strip_prefix_is Decides-eqb w (45 ∷ []) c.strip_prefix.result c.strip_prefix.ensures.cases) in
    c.from_residual-in_err-above.ensures ∙ sym (plain-none w no (sym c.number-2.ensures ∙ c.in_err-above.was))

pub overflow_cast-result : goal.overflow_cast-result
overflow_cast-result c =
    let n = c.in_ok-above.above in
    let small : n ≤ 9223372036854775807 = within 9223372036854775807 c.args.word.now n (sym c.in_ok-above.was ∙ c.number-2.ensures) in
    record { sfits = omega arith }

pub returns : goal.returns
returns c =
    let w = c.args.word.now in
    let n = c.in_ok-above.above in
    let no : (t : List ℕ) → w ≡ 45 ∷ t → ⊥ =
    MatchOption-at_none _ _ c.in_default.is (strip_prefix_is Decides-eqb w (45 ∷ []) c.strip_prefix.result c.strip_prefix.ensures.cases) in
    let small : n ≤ 9223372036854775807 = within 9223372036854775807 w n (sym c.in_ok-above.was ∙ c.number-2.ensures) in
    ap Some (to_z_pos w64 n (omega arith)) ∙ sym (plain-some w no n (sym c.number-2.ensures ∙ c.in_ok-above.was))
