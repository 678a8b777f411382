-- The standard uncertainty of each weight, and the certificate: a text of fixed width with both, for every file. Assumes nothing.
use Rattle.std.specs.Prelude.{Float, Some, Option, Ok, None, Err, ℕ, zero, suc, ◌+◌, ◌-◌, ◌*◌, ◌/◌, ◌%◌, cond, List, [], ◌∷◌, ◌++◌, take, drop, length, ℤ, pos, negsuc, ◌*ℤ◌, eqb}
use Prim.Native.String.{String}
use Rattle.records.specs.declared.Head.{Head}
use Rattle.records.specs.declared.Parameters.{Parameters}
use Rattle.records.specs.declared.Spread.{Spread}
use Rattle.records.specs.declared.Spreading.{Spreading}
use Rattle.records.specs.declared.Listed.{Listed}
use Rattle.records.specs.declared.Uncertainty.{Uncertainty}
use Rattle.records.specs.declared.ObjectUncertainty.{ObjectUncertainty}
use Rattle.meaning.specs.Design.{objects, parameters_of}
use Rattle.meaning.specs.Analysis.{member, restrained, vbeta, denominator_of, factor, qOf, freedom, root}
use Rattle.meaning.specs.Publishing.{published, float}
use Rattle.meaning.specs.Calls.{given, value_verdict, spreading_of}
use Rattle.meaning.specs.File.{head_of, blocks_of, readings_of, set_of, sum_of, read_verdict}
use Rattle.meaning.specs.Text.{ascii, digits, spaced, name_text, each, line, refused_line, text_answer, text_after}
use Rattle.meaning.specs.Edition2.{four_of, names_at, read_verdict2}
use Rattle.meaning.specs.Refusals.{Verdict}

-- ---- the standard uncertainty

-- the least whole number u with u·u·d at least x, for d above 0 and x at most 4 to the power 64: one more than the largest with less
unfoldable pub least_over : ℕ → ℕ → ℕ
least_over zero d = 0
least_over (suc x) d = root 64 (x / d) + 1

-- u, from Q, t·v·beta, v·beta, f and the numerator of the variance factor, t - 1 or t + 1: the least whole number of hundredths that is not below 100 times
-- the spread's exact standard deviation times the root of the variance factor, so the least with u·u·(t·v·beta)·(v·beta)·f at least 10,000·Q·(t - 1 or
-- t + 1); 0 where f is 0
unfoldable pub uncertainty_hundredths : ℕ → ℕ → ℕ → ℕ → ℕ → ℕ
uncertainty_hundredths Q tvb vb zero c = 0
uncertainty_hundredths Q tvb vb (suc f) c = least_over (10000 * Q * c) (tvb * vb * suc f)

-- a standard uncertainty by its hundredths and their f64
abbrev pub states : ℕ → Float → Option Uncertainty
states hundredths value = Some (record { hundredths = hundredths; value = value })

-- the standard uncertainty: u hundredths; none is stated where f is 0
abbrev pub stated_with : ℕ → ℕ → Option Uncertainty
stated_with u zero = None
stated_with u (suc f) = states u (float (pos u) 100)

abbrev pub uncertainty_from : ℕ → ℕ → ℕ → ℕ → ℕ → Option Uncertainty
uncertainty_from Q tvb vb f c = stated_with (uncertainty_hundredths Q tvb vb f c) f

-- u of object i in a job, and its standard uncertainty
abbrev pub uncertainty_hundredths_of : Head → List ℕ → List ℤ → ℕ → ℕ → ℕ
uncertainty_hundredths_of h d y w i = uncertainty_hundredths (qOf h d y) (denominator_of h d w) (vbeta h d) (freedom h) (factor h w i)

unfoldable pub uncertainty_of : Head → List ℕ → List ℤ → ℕ → ℕ → Option Uncertainty
uncertainty_of h d y w i = uncertainty_from (qOf h d y) (denominator_of h d w) (vbeta h d) (freedom h) (factor h w i)

-- what the call for one object answers: it refuses as the call for the object's value does, and a refusal states nothing
abbrev pub uncertainty_answer : Head → List ℕ → List ℤ → ℕ → ℤ → ℕ → ObjectUncertainty
uncertainty_answer h d y w M i = let verdict = value_verdict h d y w M i in
    record { verdict = verdict; uncertainty = given verdict (uncertainty_of h d y w i) None }

-- ---- columns

-- so many spaces
abbrev pub spaces : ℕ → List ℕ
spaces n = each n (λ i. 32 ∷ [])

-- a text at the left of a column, spaces after it, and at the right, spaces before it; one that is wider than its column stands whole
abbrev pub at_left : ℕ → List ℕ → List ℕ
at_left width text = text ++ spaces (width - length text)

abbrev pub at_right : ℕ → List ℕ → List ℕ
at_right width text = spaces (width - length text) ++ text

-- n hundredths as a number with two decimals
abbrev pub two_decimals : ℕ → List ℕ
two_decimals n = digits 20 (n / 100) ++ (46 ∷ (48 + n / 10 % 10) ∷ (48 + n % 10) ∷ [])

-- the same with its sign
abbrev pub counts_text : ℤ → List ℕ
counts_text (pos n) = two_decimals n
counts_text (negsuc n) = 45 ∷ two_decimals (suc n)

-- a standard uncertainty, and a spread, in counts
abbrev pub uncertainty_text : Option Uncertainty → List ℕ
uncertainty_text (Some u) = two_decimals u.hundredths
uncertainty_text None = ascii "none"

abbrev pub spread_text : Option Spread → ℕ → List ℕ
spread_text (Some spread) k = two_decimals k
spread_text None k = ascii "none"

-- ---- lines

-- what stands above the weights: v, b, r, p, L1, L2 of the design, and the names of the columns
abbrev pub title_line : List ℕ
title_line = line "certificate: values and standard uncertainties in counts of the comparator" []

abbrev pub design_words : Parameters → List ℕ
design_words p = line "design: v" (spaced p.v ++ ascii ", b" ++ spaced p.b ++ ascii ", r" ++ spaced p.r
    ++ ascii ", p" ++ spaced p.p ++ ascii ", L1" ++ spaced p.l1 ++ ascii ", L2" ++ spaced p.l2)

abbrev pub columns_line : List ℕ
columns_line = line "weight  name                             standard                   value           uncertainty" []

-- a weight: its number, its name, whether it is a standard, its value and its standard uncertainty
abbrev pub standard_word : ℕ → List ℕ
standard_word m = cond (eqb m 1) (ascii "yes") (ascii "no")

abbrev pub weight_line : ℕ → List ℕ → ℕ → ℤ → Option Uncertainty → List ℕ
weight_line i name m hundredths u = at_left 8 (digits 20 i) ++ at_left 33 name ++ at_left 10 (standard_word m)
    ++ at_right 22 (counts_text hundredths) ++ at_right 22 (uncertainty_text u) ++ (10 ∷ [])

-- a figure below the values, after its words, which are as wide as what stands before a value
abbrev pub figure_line : String → List ℕ → List ℕ
figure_line words figure = ascii words ++ at_right 22 figure ++ (10 ∷ [])

-- which demands stand behind the figures, by their names on the page of demands
abbrev pub proved_line : List ℕ
proved_line = line "proved: demand-1 demand-2 demand-3 uncertainty-per-object standard-uncertainty certificates" []

-- the certificate of an accepted job, with the name of each object; the standards' hundredths, as they are published, are added
abbrev pub certificate_text : Head → List ℕ → List ℤ → ℕ → ℤ → (ℕ → List ℕ) → List ℕ
certificate_text h d y w M name = let s = spreading_of h d y in
    title_line
    ++ design_words (parameters_of h d)
    ++ columns_line
    ++ each (objects h) (λ i. weight_line i (name i) (member w i) (published h d y w M i) (uncertainty_of h d y w i))
    ++ figure_line "sum of the standards                               " (counts_text (restrained (objects h) w (published h d y w M)))
    ++ figure_line "accepted sum M                                     " (counts_text (pos 100 *ℤ M))
    ++ figure_line "spread                                             " (spread_text s.spread s.hundredths)
    ++ figure_line "degrees of freedom                                 " (digits 20 s.freedom)
    ++ proved_line

-- ---- the text for any file, and what the calls answer and leave

-- the name of object i, as it is shown, from the place of the names on, eight bytes each; none where that is 0
abbrev pub name_from : List ℕ → ℕ → ℕ → List ℕ
name_from s zero i = []
name_from s (suc at) i = name_text (take 8 (drop (suc at + 8 * i) s))

-- the text for the four fields of a file by its verdict: the certificate, or the refusal alone, as the listing has it
abbrev pub certificate_under : Verdict → List ℕ → (ℕ → List ℕ) → List ℕ
certificate_under (Ok done) s name = certificate_text (head_of s) (blocks_of s) (readings_of s) (set_of s) (sum_of s) name
certificate_under (Err why) s name = refused_line why.number why.place

-- the text for any file of the first edition, which has no names, and for any file of the second
unfoldable pub certificate_of : List ℕ → List ℕ
certificate_of s = certificate_under (read_verdict s) s (name_from s 0)

unfoldable pub certificate_of2 : List ℕ → List ℕ
certificate_of2 s = certificate_under (read_verdict2 s) (four_of s) (name_from s (names_at s))

-- the answers of writing them into lent room, and the rooms after
abbrev pub certified_answer : List ℕ → ℕ → Listed
certified_answer s len = text_answer (certificate_of s) len

abbrev pub certified_after : List ℕ → List ℕ → List ℕ
certified_after s out = text_after (certificate_of s) out

abbrev pub certified_answer2 : List ℕ → ℕ → Listed
certified_answer2 s len = text_answer (certificate_of2 s) len

abbrev pub certified_after2 : List ℕ → List ℕ → List ℕ
certified_after2 s out = text_after (certificate_of2 s) out
