-- `grouped`: past the refusal the two tables are those of the list, and the verdict is the one over them.
use Rattle.std.proofs.Common.{◌≡◌, ℕ, List, Bool, true, false, refl, sym, ◌∙◌, arith}
use Rattle.meaning.specs.Refusals.{Verdict, accepted}
use Rattle.meaning.specs.Calls.{given, table_of}
use Rattle.meaning.specs.Groups.{shared, opposed, list_verdict}
use Rattle.laws.proofs.Groups.{listed, list_range}
use Rattle.verdicts.proofs.Told.{accepting}
use Rattle.balance.proofs.Blocks.{company_of_blocks, opposition_of_blocks}
use Rattle.groups.proofs.lists.Words.{list_in_words, list-long}
use Rattle.groups.proofs.judging.Tables.{grouped-refused, grouped-judged}
use Rattle.groups.proofs.judging.grouped.Goals as goal

-- past the refusal, the list is accepted
passed : (count v p : ℕ) (d groups : List ℕ) {told : Verdict} → told ≡ list_verdict count v p d groups → {b : Bool} → b ≡ given told false true → b ≡ false →
    list_verdict count v p d groups ≡ accepted
passed count v p d groups e f g = sym e ∙ accepting _ (sym f ∙ g)

pub returns-then-is_refused : goal.returns-then-is_refused
returns-then-is_refused c =
    c.no_grouped.ensures ∙ search (grouped-refused _ _ _ _ _ _ c.list_refusal-listed.ensures (sym c.is_refused.ensures ∙ c.if-is_refused.true))

pub write_words-requires : goal.write_words-requires
write_words-requires c =
    let s = listed _ _ _ _ _ (passed _ _ _ _ _ c.list_refusal-listed.ensures c.is_refused.ensures c.if-is_refused.false) in
    let f = s.fits in
    (f.count_most, omega arith, omega (arith, s.long), omega arith, λ i l. omega (arith, list_range _ _ _ s.clean i l))

pub judge_groups-requires : goal.judge_groups-requires
judge_groups-requires c =
    let s = listed _ _ _ _ _ (passed _ _ _ _ _ c.list_refusal-listed.ensures c.is_refused.ensures c.if-is_refused.false) in
    (s.fits.v_most, s.labelled, s.even)

pub returns : goal.returns
unfolding shared opposed
returns c =
    let a = c.args in
    let e = passed _ _ _ _ _ c.list_refusal-listed.ensures c.is_refused.ensures c.if-is_refused.false in
    let s = listed _ _ _ _ _ e in
    let words = list_in_words _ _ _ _ _ _ s refl c.write_words.ensures in
    let long = list-long _ _ _ _ s.fits.count_most refl c.write_words.ensures in
    let company : c.count_company-company.result ≡ table_of a.v (shared a.count a.p a.blocks.now) =
    c.count_company-company.ensures ∙ company_of_blocks _ _ _ _ _ words s.fits.count_most long in
    let opposition : c.count_opposition-opposition.result ≡ table_of a.v (opposed a.count a.p a.blocks.now) =
    c.count_opposition-opposition.ensures ∙ opposition_of_blocks _ _ _ _ _ words s.fits.count_most long in
    c.judge_groups.ensures ∙ grouped-judged _ _ _ _ _ _ _ e company opposition
