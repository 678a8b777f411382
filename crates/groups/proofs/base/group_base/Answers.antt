-- `group_base`: the chain of tests goes on at each step that accepts.
use Rattle.std.proofs.Common.{◌≡◌, ℕ, List, Bool, true, false, length, sym, ap, ◌∙◌}
use Rattle.records.specs.declared.Head.{Head}
use Rattle.records.specs.declared.Judged.{Judged}
use Rattle.meaning.specs.Refusals.{Verdict, accepted}
use Rattle.meaning.specs.Calls.{given, judge_verdict}
use Rattle.laws.proofs.Chains.{given_yes}
use Rattle.verdicts.proofs.Told.{accepting}
use Rattle.groups.specs.Base.{sizes_verdict}
use Rattle.groups.proofs.base.Members.{base_sizes, base_refused, base_room, set-refused, words-kept, sizes-fit, base_laid, base_words_lem}
use Rattle.groups.proofs.base.group_base.Goals as goal

-- past the sizes
fitting : (h : Head) (d : List ℕ) (g : ℕ) {told : Verdict} → told ≡ sizes_verdict h (length d) g → {b : Bool} → b ≡ given told false true → b ≡ false →
    sizes_verdict h (length d) g ≡ accepted
fitting h d g e p q = sym e ∙ accepting _ (sym p ∙ q)

-- past the judgement
judged_yes : (h : Head) (d : List ℕ) {told : Verdict} → told ≡ judge_verdict h d → {b : Bool} → b ≡ given told false true → b ≡ false →
    judge_verdict h d ≡ accepted
judged_yes h d e p q = sym e ∙ accepting _ (sym p ∙ q)

pub returns-then-is_refused : goal.returns-then-is_refused
returns-then-is_refused c =
    let a = c.args in
    let r = sym c.is_refused.ensures ∙ c.if-is_refused.true in
    let e = base_sizes a.head a.blocks.now a.g (length a.words.now) _ r c.sizes_refusal-fits.ensures in
    record { value = c.no_set.ensures ∙ set-refused _ _ _ _ _ r e; words_after = words-kept _ _ _ _ _ r e }

pub returns-then-is_refused-2 : goal.returns-then-is_refused-2
returns-then-is_refused-2 c =
    let a = c.args in
    let fits = fitting a.head a.blocks.now a.g c.sizes_refusal-fits.ensures c.is_refused.ensures c.if-is_refused.false in
    let r = sym c.is_refused-2.ensures ∙ c.if-is_refused-2.true in
    let j = ap (λ (j : Judged). j.verdict) c.judge_by_differences-judged.ensures in
    let e = base_refused a.head a.blocks.now a.g (length a.words.now) _ r fits j in
    record { value = c.no_set-then-is_refused-2.ensures ∙ set-refused _ _ _ _ _ r e; words_after = words-kept _ _ _ _ _ r e }

pub lay_groups-requires : goal.lay_groups-requires
lay_groups-requires c =
    let a = c.args in
    let f = sizes-fit _ _ _ (fitting a.head a.blocks.now a.g c.sizes_refusal-fits.ensures c.is_refused.ensures c.if-is_refused.false) in
    let j = c.judge_by_differences-judged.ensures in
    let yes = judged_yes a.head a.blocks.now (ap (λ (j : Judged). j.verdict) j) c.is_refused-2.ensures c.if-is_refused-2.false in
    (yes, ap (λ (j : Judged). j.parameters) j ∙ given_yes _ _ _ yes, f.0, f.1)

pub returns : goal.returns
returns c =
    let a = c.args in
    let fits = fitting a.head a.blocks.now a.g c.sizes_refusal-fits.ensures c.is_refused.ensures c.if-is_refused.false in
    let j = ap (λ (j : Judged). j.verdict) c.judge_by_differences-judged.ensures in
    let yes = judged_yes a.head a.blocks.now j c.is_refused-2.ensures c.if-is_refused-2.false in
    let e = base_room a.head a.blocks.now a.g (length a.words.now) fits yes in
    record {
      value = c.lay_groups.ensures.value ∙ base_laid a.head a.blocks.now a.g (length a.words.now) e;
      words_after = search (c.lay_groups.ensures.words_after ∙ base_words_lem a.head a.blocks.now a.g a.words.now e);
    }
