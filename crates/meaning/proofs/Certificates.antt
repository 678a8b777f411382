-- The standard uncertainty and the certificate, rows of a table under one theorem: examples A and E, names with every kind of byte, a refusal, and
-- uncertainties at their boundaries. The figures were worked out apart from these definitions. Assumes nothing.
use Rattle.std.proofs.Common.{Some, Option, None}
use Prim.Native.Nat.{ℕ}
use mathlib.Core.Bool.{true}
use mathlib.Core.List.{List, [], ◌∷◌, ◌++◌, replicate}
use mathlib.Core.Path.{◌≡◌, refl}
use lib.IntN.{pos, negsuc}
use lib.ListN.{set}
use Rattle.algebra.specs.Ranges.{sum, sum_ℕ, first_from}
use Rattle.records.specs.declared.Uncertainty.{Uncertainty}
use Rattle.meaning.specs.Design.{field_prime, sized, occ, digit_sum, plus, left, right, company, opposition, balanced, beta}
use Rattle.meaning.specs.Analysis.{
  total,
  members,
  restrained,
  numerator_of,
  denominator_of,
  factor,
  along,
  difference,
  squared_readings,
  squared_totals,
  qOf,
  root,
  spread_hundredths,
  spread_hundredths_of,
}
use Rattle.meaning.specs.Publishing.{rank, shortfall, published}
use Rattle.meaning.specs.Wide.{wide}
use Rattle.meaning.specs.Refusals.{offender, far_reading}
use Rattle.meaning.specs.Calls.{slices, contents, value_verdict}
use Rattle.meaning.specs.File.{big, numbers_at, field_verdict, fields, read_verdict, head_of, blocks_of, readings_of}
use Rattle.meaning.specs.Text.{ascii, digits, escaped, trimmed, name_text, each}
use Rattle.meaning.specs.Edition2.{edition, four_of, optional_verdict, optionals, optional_fields, fields2, read_verdict2}
use Rattle.meaning.specs.Certificate.{
  least_over,
  uncertainty_hundredths,
  uncertainty_of,
  uncertainty_answer,
  counts_text,
  certificate_of,
  certified_answer,
  certified_after,
  certificate_of2,
}
use Rattle.meaning.proofs.Rows.{Row, holding, refuses, every}
use Rattle.meaning.proofs.Examples.{file_a, file_e}

-- a standard uncertainty as a list: its hundredths, or nothing
abbrev stated : Option Uncertainty → List ℕ
stated (Some u) = u.hundredths ∷ []
stated None = []

-- example A in the second edition, with the names `brass-1`, `#2`, ` a\b~`, eight bytes of which one is printed as it is, and one of spaces alone
abbrev named_a : List ℕ
named_a = (16 ∷ 0 ∷ 1 ∷ 2 ∷ file_a) ++ (128 ∷ 0 ∷ 40
    ∷ 98 ∷ 114 ∷ 97 ∷ 115 ∷ 115 ∷ 45 ∷ 49 ∷ 32 ∷ 35 ∷ 50 ∷ 32 ∷ 32 ∷ 32 ∷ 32 ∷ 32 ∷ 32 ∷ 32 ∷ 97 ∷ 92 ∷ 98 ∷ 126 ∷ 32 ∷ 32 ∷ 32 ∷ 254 ∷ 255 ∷ 0 ∷ 1 ∷ 127 ∷ 128 ∷ 10 ∷ 33 ∷ 32 ∷ 32 ∷ 32 ∷ 32 ∷ 32 ∷ 32 ∷ 32 ∷ 32 ∷ [])

abbrev certificate_a : List ℕ
certificate_a = ascii "certificate: values and standard uncertainties in counts of the comparator\ndesign: v 5, b 5, r 4, p 2, L1 1, L2 2\nweight  name                             standard                   value           uncertainty\n0                                        yes                        -0.30                  0.71\n1                                        yes                         7.30                  0.71\n2                                        no                          1.90                  1.23\n3                                        no                          0.50                  1.23\n4                                        no                          5.10                  1.23\nsum of the standards                                                 7.00\naccepted sum M                                                       7.00\nspread                                                               2.23\ndegrees of freedom                                                      1\nproved: demand-1 demand-2 demand-3 uncertainty-per-object standard-uncertainty certificates\n"

abbrev certificate_named_a : List ℕ
certificate_named_a = ascii "certificate: values and standard uncertainties in counts of the comparator\ndesign: v 5, b 5, r 4, p 2, L1 1, L2 2\nweight  name                             standard                   value           uncertainty\n0       brass-1                          yes                        -0.30                  0.71\n1       \\x232                            yes                         7.30                  0.71\n2       \\x20a\\x5Cb~                      no                          1.90                  1.23\n3       \\xFE\\xFF\\x00\\x01\\x7F\\x80\\x0A!    no                          0.50                  1.23\n4       \\x20                             no                          5.10                  1.23\nsum of the standards                                                 7.00\naccepted sum M                                                       7.00\nspread                                                               2.23\ndegrees of freedom                                                      1\nproved: demand-1 demand-2 demand-3 uncertainty-per-object standard-uncertainty certificates\n"

abbrev certificate_e : List ℕ
certificate_e = ascii "certificate: values and standard uncertainties in counts of the comparator\ndesign: v 8, b 7, r 7, p 4, L1 3, L2 4\nweight  name                             standard                   value           uncertainty\n0                                        yes                        -2.00                  none\n1                                        no                         -1.25                  none\n2                                        no                         -5.25                  none\n3                                        no                         -3.25                  none\n4                                        no                         -2.00                  none\n5                                        no                         -3.50                  none\n6                                        no                         -5.75                  none\n7                                        yes                        -1.00                  none\nsum of the standards                                                -3.00\naccepted sum M                                                      -3.00\nspread                                                               none\ndegrees of freedom                                                      0\nproved: demand-1 demand-2 demand-3 uncertainty-per-object standard-uncertainty certificates\n"

unfoldable pub table : List Row
unfolding ascii
table =
    -- the least whole number: 5,000 and 15,000 of A; 0; a square, and one more than it; a third
    holding (least_over 250000 50 ∷ least_over 750000 50 ∷ least_over 0 50 ∷ least_over 490000 100 ∷ least_over 490001 100 ∷ least_over 1 3 ∷ [])
    (71 ∷ 123 ∷ 0 ∷ 70 ∷ 71 ∷ 1 ∷ [])
    -- of Q 63,177,554, t·v·beta 28, v·beta 14 and f 15 of example H, for a member and another object; of the largest Q with the smallest sizes; of f 0
    ∷ holding
    (uncertainty_hundredths 63177554 28 14 15 1 ∷ uncertainty_hundredths 63177554 28 14 15 3 ∷ uncertainty_hundredths 135200000000000000000000 6 3 1 3 ∷ uncertainty_hundredths 25 10 5 0 1
    ∷ [])
    (10366 ∷ 17954 ∷ 15011106998931 ∷ 0 ∷ [])
    -- what the call answers: A's members, its other objects, no such object, E's, which has no freedom
    ∷ holding (stated (uncertainty_answer (head_of file_a) (blocks_of file_a) (readings_of file_a) 3 (pos 7) 1).uncertainty) (71 ∷ [])
    ∷ holding (stated (uncertainty_answer (head_of file_a) (blocks_of file_a) (readings_of file_a) 3 (pos 7) 2).uncertainty) (123 ∷ [])
    ∷ holding (stated (uncertainty_answer (head_of file_a) (blocks_of file_a) (readings_of file_a) 3 (pos 7) 5).uncertainty) []
    ∷ refuses (uncertainty_answer (head_of file_a) (blocks_of file_a) (readings_of file_a) 3 (pos 7) 5).verdict 5 5
    ∷ holding (stated (uncertainty_answer (head_of file_e) (blocks_of file_e) (readings_of file_e) 129 (negsuc 2) 0).uncertainty) []
    -- counts with two decimals
    ∷ holding (counts_text (negsuc 4) ++ counts_text (pos 7) ++ counts_text (negsuc 99) ++ counts_text (pos 12345)) (ascii "-0.050.07-1.00123.45")
    -- certificates
    ∷ holding (certificate_of file_a) certificate_a
    ∷ holding (certificate_of file_e) certificate_e
    ∷ holding (certificate_of2 named_a) certificate_named_a
    ∷ holding (certificate_of2 (16 ∷ 0 ∷ 1 ∷ 2 ∷ file_a)) certificate_a
    ∷ holding (certificate_of (set file_a 13 0)) (ascii "refused 6 0\n")
    ∷ holding (certificate_of2 (set named_a 3 1)) (ascii "refused 12 3\n")
    ∷ holding ((certified_answer [] 12).length ∷ (certified_answer [] 11).length ∷ []) (12 ∷ 0 ∷ [])
    ∷ holding (certified_after [] (replicate 14 77)) (ascii "refused 1 0\n" ++ (77 ∷ 77 ∷ []))
    ∷ holding (certified_after [] (replicate 11 77)) (replicate 11 77)
    ∷ []

pub certificates : every table ≡ true
unfolding table wide field_prime sized occ digit_sum plus left right company opposition balanced beta total members restrained numerator_of denominator_of factor
    along difference squared_readings squared_totals qOf root spread_hundredths spread_hundredths_of rank shortfall published offender far_reading slices contents
    value_verdict big numbers_at field_verdict fields read_verdict ascii digits escaped trimmed name_text each edition four_of optional_verdict optionals optional_fields fields2
    read_verdict2 least_over uncertainty_hundredths uncertainty_of certificate_of certificate_of2 sum sum_ℕ first_from
certificates = refl
