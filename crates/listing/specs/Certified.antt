-- The certificate of what was worked out, from the numbers in hand, for any numbers. Assumes nothing.
use Rattle.std.specs.Prelude.{Ok, Err, ℕ, List, ◌++◌, ℤ, pos, ◌*ℤ◌, length, get_or}
use Rattle.records.specs.declared.Parameters.{Parameters}
use Rattle.records.specs.declared.Solved.{Solved}
use Rattle.records.specs.declared.Spreading.{Spreading}
use Rattle.meaning.specs.Analysis.{member}
use Rattle.meaning.specs.Wide.{value}
use Rattle.meaning.specs.Text.{digits, each, refused_line}
use Rattle.meaning.specs.Certificate.{
  title_line,
  design_words,
  columns_line,
  counts_text,
  spread_text,
  name_from,
  weight_line,
  figure_line,
  proved_line,
}
use Rattle.arithmetic.specs.Uncertainties.{uncertainty_in}
use Rattle.analysis.specs.Worked.{factor_in}
use Rattle.meaning.specs.Refusals.{Verdict}

-- what stands above the weights
abbrev pub heading_text : Parameters → List ℕ
heading_text p = title_line ++ design_words p ++ columns_line

-- the line of object i, from the names in a file, the published hundredths, what was worked out and the restraint set; and those of the first n objects
abbrev pub weight_at : List ℕ → ℕ → List ℤ → Solved → ℕ → ℕ → List ℕ
weight_at s names hundredths solved set i = let t = solved.spreading in
    weight_line i (name_from s names i) (member set i) (get_or hundredths i (pos 0))
    (uncertainty_in (value t.q) solved.denominator t.vbeta t.freedom (factor_in set i))

abbrev pub weight_lines : List ℕ → ℕ → List ℤ → Solved → ℕ → ℕ → List ℕ
weight_lines s names hundredths solved set n = each n (weight_at s names hundredths solved set)

-- the sum over the standards beside M, both from 100·M
abbrev pub sums_text : ℤ → List ℕ
sums_text hundredths =
    figure_line "sum of the standards                               " (counts_text hundredths)
    ++ figure_line "accepted sum M                                     " (counts_text hundredths)

-- the spread, and its degrees of freedom
abbrev pub spread_lines : Spreading → List ℕ
spread_lines t =
    figure_line "spread                                             " (spread_text t.spread t.hundredths)
    ++ figure_line "degrees of freedom                                 " (digits 20 t.freedom)

-- the lines of an accepted job: one for each of the published hundredths in hand
unfoldable pub certified_lines : List ℕ → ℕ → List ℤ → Solved → ℕ → ℤ → List ℕ
certified_lines s names hundredths solved set M = heading_text solved.parameters
    ++ weight_lines s names hundredths solved set (length hundredths)
    ++ sums_text (pos 100 *ℤ M)
    ++ spread_lines solved.spreading
    ++ proved_line

-- the text by the verdict: those lines, or the refusal alone
abbrev pub certified_under : Verdict → List ℕ → ℕ → List ℤ → Solved → ℕ → ℤ → List ℕ
certified_under (Ok done) s names hundredths solved set M = certified_lines s names hundredths solved set M
certified_under (Err why) s names hundredths solved set M = refused_line why.number why.place

unfoldable pub certified_text : List ℕ → ℕ → List ℤ → Solved → ℕ → ℤ → List ℕ
certified_text s names hundredths solved set M = certified_under solved.verdict s names hundredths solved set M
