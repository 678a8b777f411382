-- What is handed back is made under the verdict of reading.
use Rattle.std.proofs.Common.{sym, ap, ◌∙◌, ◌≡◌, arith, rules, List, ℕ}
use Rattle.records.specs.declared.Held.{Held}
use Rattle.meaning.specs.Edition2.{four_of, names_at}
use Rattle.laws.proofs.Edition2.{whole, file_job2, four-inside}
use Rattle.verdicts.proofs.Told.{accepting}
use Rattle.fields.specs.Contents.{held_in}
use Rattle.job.proofs.Holding.{held-sum}
use Rattle.job.proofs.places.Places.{third-low}
use Rattle.job.proofs.second.Fields.{read_none, read_there}
use Rattle.job.proofs.second.read_second.Goals as goal

pub returns-then-is_refused : goal.returns-then-is_refused
returns-then-is_refused c =
    rw c.no_job-job.ensures (read_none c.args.bytes.now _ c.second_refusal-verdict.ensures (sym c.is_refused.ensures ∙ c.if-is_refused.true))

pub overflow_add-job : goal.overflow_add-job
overflow_add-job c =
    let held = c.held-held.ensures ∙ ap (λ (t : List ℕ). held_in t) c.four_fields.ensures in
    omega (arith, ap (λ (k : Held). k.blocks_at) held)

pub overflow_add-job-2 : goal.overflow_add-job-2
overflow_add-job-2 c =
    let s = c.args.bytes.now in
    let reads = sym c.second_refusal-verdict.ensures ∙ accepting _ (sym c.is_refused.ensures ∙ c.if-is_refused.false) in
    let held = c.held-held.ensures ∙ ap (λ (t : List ℕ). held_in t) c.four_fields.ensures in
    omega (arith, ap (λ (k : Held). k.readings_at) held, third-low (four_of s) (whole s (file_job2 s reads).0).four)

pub names_at-requires : goal.names_at-requires
names_at-requires c =
    let s = c.args.bytes.now in
    let reads = sym c.second_refusal-verdict.ensures ∙ accepting _ (sym c.is_refused.ensures ∙ c.if-is_refused.false) in
    let there = whole s (file_job2 s reads).0 in
    omega (arith, c.four_end.ensures, four-inside s there.edition_there.long, there.short)

pub returns : goal.returns
returns c =
    let s = c.args.bytes.now in
    let reads = sym c.second_refusal-verdict.ensures ∙ accepting _ (sym c.is_refused.ensures ∙ c.if-is_refused.false) in
    let held = c.held-held.ensures ∙ ap (λ (t : List ℕ). held_in t) c.four_fields.ensures in
    let names : c.names_at.result ≡ names_at s = rw c.four_end.ensures at c.names_at.ensures in
    search (rules, read_there s c.held-held.result _ _ reads held (held-sum _ _ held (search rules)) names)
