-- The text of what was worked out, from the numbers in hand, for any numbers. Assumes nothing.
use Rattle.std.specs.Prelude.{Ok, Err, ℕ, List, ◌++◌, ℤ, pos, take, length, get_or}
use Rattle.records.specs.declared.Solved.{Solved}
use Rattle.meaning.specs.Text.{each, design_line, value_line, dev_line, spread_line, refused_line}
use Rattle.meaning.specs.Refusals.{Verdict}

-- the line of object i, from the value numerators, their denominator and the published hundredths
abbrev pub value_at : List ℤ → List ℤ → ℕ → ℕ → List ℕ
value_at numerators hundredths denominator i = value_line i (get_or numerators i (pos 0)) denominator (get_or hundredths i (pos 0))

-- the lines of the first n objects
abbrev pub value_lines : List ℤ → List ℤ → ℕ → ℕ → List ℕ
value_lines numerators hundredths denominator n = each n (value_at numerators hundredths denominator)

-- the line of block k, from the deviation numerators and their denominator
abbrev pub deviation_at : List ℤ → ℕ → ℕ → List ℕ
deviation_at numerators denominator k = dev_line k (get_or numerators k (pos 0)) denominator

-- the lines of the first n blocks
abbrev pub deviation_lines : List ℤ → ℕ → ℕ → List ℕ
deviation_lines numerators denominator n = each n (deviation_at numerators denominator)

-- the lines of an accepted job: a value for each numerator in hand, a deviation for each
unfoldable pub job_lines : Solved → List ℤ → List ℤ → List ℤ → List ℕ
job_lines solved values hundredths deviations = design_line solved.parameters
    ++ value_lines values hundredths solved.denominator (length values)
    ++ deviation_lines deviations solved.spreading.vbeta (length deviations)
    ++ spread_line solved.spreading

-- the text by the verdict: those lines, or the refusal alone
abbrev pub sheet_under : Verdict → Solved → List ℤ → List ℤ → List ℤ → List ℕ
sheet_under (Ok done) solved values hundredths deviations = job_lines solved values hundredths deviations
sheet_under (Err why) solved values hundredths deviations = refused_line why.number why.place

unfoldable pub sheet_text : Solved → List ℤ → List ℤ → List ℤ → List ℕ
sheet_text solved values hundredths deviations = sheet_under solved.verdict solved values hundredths deviations

-- the same, from the first numbers of two rooms: one for each object and one for each block
abbrev pub sheet_of : Solved → List ℤ → List ℤ → List ℤ → List ℕ
sheet_of solved values hundredths deviations = sheet_text solved (take solved.parameters.v values) hundredths (take solved.parameters.b deviations)
