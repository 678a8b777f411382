-- `lay_groups`: the words of the design are developed, and each is replaced by that of its members.
use Rattle.std.proofs.Common.{◌≡◌, ℕ, ◌*◌, ◌≤◌, List, Bool, true, false, length, sym, ap, ◌∙◌, arith}
use mathlib.Core.Path.{subst}
use Rattle.records.specs.declared.Head.{Head}
use Rattle.records.specs.declared.Parameters.{Parameters}
use Rattle.meaning.specs.Refusals.{Verdict, accepted}
use Rattle.meaning.specs.Calls.{given, develop_verdict}
use Rattle.laws.proofs.Chains.{judged_sound}
use Rattle.design.proofs.Within.{within-sizes}
use Rattle.verdicts.proofs.Told.{accepting}
use Rattle.groups.proofs.base.Members.{laid-words, developed-room, developed-words, developed-long, grouped-words}
use Rattle.groups.proofs.base.lay_groups.Goals as goal

-- past the refusal, the words of the design stand in the room
passed : (h : Head) (d words : List ℕ) {told : Verdict} → told ≡ develop_verdict h d (length words) → {b : Bool} → b ≡ given told false true → b ≡ false →
    develop_verdict h d (length words) ≡ accepted
passed h d words e f g = sym e ∙ accepting _ (sym f ∙ g)

pub overflow_mul-b-2 : goal.overflow_mul-b-2
overflow_mul-b-2 c = let f = (judged_sound _ _ c.requires.0).0.sizes in omega arith

pub group_words-requires : goal.group_words-requires
group_words-requires c =
    let a = c.args in
    let f = (judged_sound _ _ c.requires.0).0.sizes in
    let v = c.objects-v.ensures ∙ within-sizes _ _ f in
    let e = passed a.head a.blocks.now a.words.now c.develop-developed.ensures.value c.is_refused.ensures c.if-is_refused.false in
    let long = developed-long a.head a.blocks.now a.words.now e c.develop-developed.ensures.words_after in
    (c.requires.2, omega (arith, v, f.objects-most), subst (λ (z : ℕ). a.g * z ≤ 50) (sym v) c.requires.3, search long)

pub in_groups-parameters-requires : goal.in_groups-parameters-requires
in_groups-parameters-requires c =
    let f = (judged_sound _ _ c.requires.0).0.sizes in
    let q = c.requires.1 in
    (c.requires.2, omega (arith, ap (λ (p : Parameters). p.v) q, f.objects-most), omega (arith, ap (λ (p : Parameters). p.p) q, f.sides-fit, f.objects-most))

pub returns-clause-words_after : goal.returns-clause-words_after
returns-clause-words_after c =
    let a = c.args in
    let s = (judged_sound _ _ c.requires.0).0 in
    let v = c.objects-v.ensures ∙ within-sizes _ _ s.sizes in
    let e = passed a.head a.blocks.now a.words.now c.develop-developed.ensures.value c.is_refused.ensures c.if-is_refused.false in
    let w = developed-words a.head a.blocks.now a.words.now e c.develop-developed.ensures.words_after in
    let u = grouped-words a.head a.blocks.now s a.g a.words.now c.objects-v.result v (developed-room _ _ _ e) w c.group_words.ensures in
    search (laid-words a.head a.blocks.now a.words.now e a.g u)
