-- Words that are numbers, however large, and words that are none, worked out apart from the definition. Assumes nothing.
use mathlib.Core.Bool.{Bool, true, false}
use mathlib.Core.List.{List, [], ◌∷◌}
use mathlib.Core.Path.{◌≡◌, refl}
use Rattle.meaning.specs.Text.{ascii}
use Rattle.meaning.specs.SheetText.{digital}
use Rattle.sheets.specs.Arguments.{in_digits, in_decimal}

abbrev numbers : List Bool
numbers = in_decimal (ascii "0") ∷ in_decimal (ascii "-0") ∷ in_decimal (ascii "007") ∷ in_decimal (ascii "-3000") ∷ in_decimal (ascii "18446744073709551616")
    ∷ in_decimal (ascii "-99999999999999999999999") ∷ []

abbrev others : List Bool
others = in_decimal [] ∷ in_decimal (ascii "-") ∷ in_decimal (ascii "--1") ∷ in_decimal (ascii "+1") ∷ in_decimal (ascii "1.5") ∷ in_decimal (ascii "1:")
    ∷ in_decimal (ascii "/1") ∷ in_decimal (ascii " 1") ∷ in_decimal (ascii "1-") ∷ []

pub are_numbers : numbers ≡ (true ∷ true ∷ true ∷ true ∷ true ∷ true ∷ [])
unfolding ascii digital in_digits in_decimal
are_numbers = refl

pub are_none : others ≡ (false ∷ false ∷ false ∷ false ∷ false ∷ false ∷ false ∷ false ∷ false ∷ [])
unfolding ascii digital in_digits in_decimal
are_none = refl
