-- `sheets::sheet::read_sheet`: a text that is too long is no sheet; any other is read to its last line.
use Rattle.std.proofs.Common.{◌≡◌, ℕ, ◌+◌, ap, ◌∙◌, arith}
use Rattle.meaning.specs.SheetText.{lines_of, read_to, ended, laid}
use Rattle.sheets.proofs.sheet.Lines.{long-read, long-laid, short-read, short-claims}
use Rattle.sheets.proofs.sheet.read_sheet.Goals as goal

pub returns-then-bytes-gt65536-clause-value : goal.returns-then-bytes-gt65536-clause-value
returns-then-bytes-gt65536-clause-value c = c.nothing_read.ensures ∙ long-read c.args.bytes.now (omega arith)

pub returns-then-bytes-gt65536-clause-claims_after : goal.returns-then-bytes-gt65536-clause-claims_after
returns-then-bytes-gt65536-clause-claims_after c = long-laid c.args.bytes.now (omega arith) c.args.claims.now

pub returns-clause-value : goal.returns-clause-value
returns-clause-value c =
    let s = c.args.bytes.now in
    let lines : c.count-lines.result + 1 ≡ lines_of s = ap (λ (n : ℕ). n + 1) c.count-lines.ensures.value in
    search (c.ended.ensures
    ∙ ap (ended (c.count-lines.result + 1)) c.read_lines-read.ensures.value
    ∙ ap (λ (n : ℕ). ended n (read_to (lines_of s) s)) lines
    ∙ short-read s (omega arith))

pub returns-clause-claims_after : goal.returns-clause-claims_after
returns-clause-claims_after c =
    c.read_lines-read.ensures.claims_after ∙ ap (λ t. laid t c.args.claims.now) (short-claims c.args.bytes.now (omega arith))
