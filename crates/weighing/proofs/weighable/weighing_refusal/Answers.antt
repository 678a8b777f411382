-- `weighing_refusal`: each way out rewrites the chain by the tests that led there. Assumes nothing.
use Rattle.std.proofs.Common.{◌≡◌, ℕ, ◌*◌, true, false, sym, ap, ◌∙◌, refl, rules, arith, eq-eqb, ne_eqb, le-leb}
use borrow.Author.Tests.{lt-leb}
use Rattle.meaning.specs.Design.{sized, objects, blocks}
use Rattle.meaning.specs.Refusals.{accepted, in_reach}
use Rattle.laws.proofs.Chains.{fits}
use Rattle.design.proofs.Within.{within-sizes}
use Rattle.weighing.specs.Verdicts.{stray_word, weigh_verdict}
use Rattle.weighing.proofs.weighable.weighing_refusal.Goals as goal

pub returns-then-not-sized : goal.returns-then-not-sized
unfolding weigh_verdict
returns-then-not-sized c =
    let e : sized c.args.head ≡ false = cc in
    rw e refl

pub overflow_mul-b : goal.overflow_mul-b
overflow_mul-b c =
    let e : sized c.args.head ≡ true = cc in
    let f = fits _ e in
    omega arith

pub overflow_mul-b-2 : goal.overflow_mul-b-2
overflow_mul-b-2 c =
    let e : sized c.args.head ≡ true = cc in
    let f = fits _ e in
    omega arith

pub returns-then-words-b : goal.returns-then-words-b
unfolding weigh_verdict
returns-then-words-b c =
    let e : sized c.args.head ≡ true = cc in
    rw (e, lt-leb _ _ c.if-words-b.true) refl

pub returns-then-readings-b : goal.returns-then-readings-b
unfolding weigh_verdict
returns-then-readings-b c =
    let e : sized c.args.head ≡ true = cc in
    rw (e, le-leb _ _ c.if-words-b.false, ne_eqb _ _ c.if-readings-b.true) refl

pub stray_word-stray-requires : goal.stray_word-stray-requires
stray_word-stray-requires c =
    let e : sized c.args.head ≡ true = cc in
    let f = fits _ e in
    (omega arith, omega arith, omega (arith, c.objects-v.ensures, within-sizes c.args.head (objects c.args.head) f))

pub returns-then-stray-b : goal.returns-then-stray-b
unfolding weigh_verdict
returns-then-stray-b c =
    let e : sized c.args.head ≡ true = cc in
    let v : c.objects-v.result ≡ objects c.args.head = c.objects-v.ensures ∙ within-sizes _ _ (fits _ e) in
    let s : stray_word c.args.words.now (2 * blocks c.args.head) (objects c.args.head) ≡ c.stray_word-stray.result =
    sym (c.stray_word-stray.ensures ∙ ap (λ k. stray_word c.args.words.now (2 * blocks c.args.head) k) v) in
    rw (e, le-leb _ _ c.if-words-b.false, eq-eqb _ _ c.if-readings-b.false, s, ne_eqb _ _ c.if-stray-b.true) refl

pub returns-in_err-reach_refusal : goal.returns-in_err-reach_refusal
unfolding weigh_verdict
returns-in_err-reach_refusal c =
    let e : sized c.args.head ≡ true = cc in
    let v : c.objects-v.result ≡ objects c.args.head = c.objects-v.ensures ∙ within-sizes _ _ (fits _ e) in
    let s : stray_word c.args.words.now (2 * blocks c.args.head) (objects c.args.head) ≡ 2 * blocks c.args.head =
    sym (c.stray_word-stray.ensures ∙ ap (λ k. stray_word c.args.words.now (2 * blocks c.args.head) k) v) ∙ c.if-stray-b.false in
    let r = sym c.reach_refusal.ensures ∙ c.in_err-reach_refusal.was in
    rw (e, le-leb _ _ c.if-words-b.false, eq-eqb _ _ c.if-readings-b.false, s, eq-eqb (2 * blocks c.args.head) _ refl, r) (search rules)

pub returns-then-room-v : goal.returns-then-room-v
unfolding weigh_verdict
returns-then-room-v c =
    let e : sized c.args.head ≡ true = cc in
    let v : c.objects-v.result ≡ objects c.args.head = c.objects-v.ensures ∙ within-sizes _ _ (fits _ e) in
    let s : stray_word c.args.words.now (2 * blocks c.args.head) (objects c.args.head) ≡ 2 * blocks c.args.head =
    sym (c.stray_word-stray.ensures ∙ ap (λ k. stray_word c.args.words.now (2 * blocks c.args.head) k) v) ∙ c.if-stray-b.false in
    let a : in_reach c.args.readings.now ≡ accepted = sym c.reach_refusal.ensures ∙ c.in_ok-reach_refusal.was in
    rw (e, le-leb _ _ c.if-words-b.false, eq-eqb _ _ c.if-readings-b.false, s, eq-eqb (2 * blocks c.args.head) _ refl, a, lt-leb (objects c.args.head) c.args.room (omega (arith, v))) refl

pub returns : goal.returns
unfolding weigh_verdict
returns c =
    let e : sized c.args.head ≡ true = cc in
    let v : c.objects-v.result ≡ objects c.args.head = c.objects-v.ensures ∙ within-sizes _ _ (fits _ e) in
    let s : stray_word c.args.words.now (2 * blocks c.args.head) (objects c.args.head) ≡ 2 * blocks c.args.head =
    sym (c.stray_word-stray.ensures ∙ ap (λ k. stray_word c.args.words.now (2 * blocks c.args.head) k) v) ∙ c.if-stray-b.false in
    let a : in_reach c.args.readings.now ≡ accepted = sym c.reach_refusal.ensures ∙ c.in_ok-reach_refusal.was in
    rw (e, le-leb _ _ c.if-words-b.false, eq-eqb _ _ c.if-readings-b.false, s, eq-eqb (2 * blocks c.args.head) _ refl, a, le-leb (objects c.args.head) c.args.room (omega (arith, v))) refl
