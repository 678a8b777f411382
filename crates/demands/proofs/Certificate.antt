-- An accepted job keeps what is said of its standard uncertainties, and every file what is said of its certificate. Assumes nothing.
use Rattle.std.proofs.Common.{Ok, None, Err}
use mathlib.Core.Path.{◌≡◌, refl, ap}
use mathlib.Core.List.{List}
use Prim.Native.Nat.{ℕ, zero, suc, ◌-◌, ◌*◌, ◌^◌, ◌≤◌, ◌<◌}
use native.Mathlib.Nat.{mul-pos, lt_trans}
use native.Mathlib.Omega.{arith}
use lib.Dec.{ltb, lit<}
use borrow.Author.Tests.{lt-ltb}
use lib.IntN.{pos, ◌*ℤ◌}
use lib.ListN.{length}
use Rattle.meaning.specs.Design.{objects}
use Rattle.meaning.specs.Analysis.{member, restrained, vbeta, denominator_of, factor, qOf, freedom}
use Rattle.meaning.specs.Publishing.{published, float, Near}
use Rattle.meaning.specs.Refusals.{Verdict, ◌⨾◌, accepted, clean, in_balance, restraint, in_reach}
use Rattle.meaning.specs.Calls.{slices, contents, job_verdict, value_verdict}
use Rattle.meaning.specs.File.{head_of, blocks_of, readings_of, set_of, sum_of, read_verdict}
use Rattle.meaning.specs.Text.{text_of}
use Rattle.meaning.specs.Edition2.{four_of, names_at, read_verdict2, text_of2}
use Rattle.meaning.specs.Certificate.{
  states,
  least_over,
  uncertainty_hundredths,
  stated_with,
  uncertainty_of,
  name_from,
  weight_line,
  certificate_under,
  certificate_of,
  certificate_of2,
}
use Rattle.laws.proofs.Chains.{Job as Good, opened, accepts, test_yes, given_yes, given_no, job}
use Rattle.laws.proofs.Files.{file-job}
use Rattle.laws.proofs.Edition2.{file_job2}
use Rattle.laws.proofs.Column.{job_adds_up}
use Rattle.laws.proofs.SizesMost.{published-most}
use Rattle.laws.proofs.Lengths.{refused-length}
use Rattle.arithmetic.proofs.Uncertainties.{
  InRange,
  job_in_range,
  divisor_range,
  scaled_most,
  least_reaches,
  least-least,
  hundredths-small,
}
use Rattle.arithmetic.proofs.Floats.{float-near}
use Rattle.demands.proofs.Columns.{hundredths_in, line-wide, named_few, certificate_most}
use Rattle.demands.specs.Job.{Job, job_in, v, verdict_of}
use Rattle.demands.specs.Certificate.{u, reach, asked, StandardUncertainty, UncertaintyRefused, Certificates}

-- u by its definition, where f is not 0
hundredths_free : (Q e vb f c : ℕ) → 0 < f → uncertainty_hundredths Q e vb f c ≡ least_over (10000 * Q * c) (e * vb * f)
unfolding uncertainty_hundredths
hundredths_free Q e vb zero c l = absurd (omega arith)
hundredths_free Q e vb (suc f) c l = refl

-- the enum by f
stated_free : (k f : ℕ) → 0 < f → stated_with k f ≡ states k (float (pos k) 100)
stated_free k zero l = absurd (omega arith)
stated_free k (suc f) l = refl

stated-none : (k f : ℕ) → f ≡ 0 → stated_with k f ≡ None
stated-none k f e = ap (stated_with k) e

module _ (j : Job) (e : verdict_of j ≡ accepted) where
  open j use {head as h, initial as d, readings as y, set as w, sum as M}

  good : Good h d y w M
  good = job h d y w M e

  range : (i : ℕ) → InRange (qOf h d y) (denominator_of h d w) (vbeta h d) (freedom h) (factor h w i)
  range = job_in_range h d y w M good

  -- what the square is held against is in the range of the root, and what it is times is above 0
  few : (i : ℕ) → asked j i < 4 ^ 64
  few i = let most : asked j i < 2 ^ 103 = omega (arith, scaled_most _ _ _ _ _ (range i)) in lt_trans most (lit< tt)

  module _ (l : 0 < freedom h) where
    some : 0 < denominator_of h d w * vbeta h d * freedom h
    some = mul-pos (divisor_range _ _ _ _ _ (range 0)).0 l

    u_is : (i : ℕ) → u j i ≡ least_over (asked j i) (denominator_of h d w * vbeta h d * freedom h)
    u_is i = hundredths_free _ _ _ _ _ l

    reaches : (i : ℕ) → asked j i ≤ reach j (u j i)
    reaches i = rw (u_is i) (least_reaches (asked j i) _ some (few i))

    no_lesser : (i : ℕ) → 0 < u j i → reach j (u j i - 1) < asked j i
    no_lesser i o = rw (u_is i) (least-least (asked j i) _ some (few i) (rw (u_is i) at o))

    stated : (i : ℕ) → uncertainty_of h d y w i ≡ states (u j i) (float (pos (u j i)) 100)
    unfolding uncertainty_of
    stated i = stated_free (u j i) (freedom h) l

    near : (i : ℕ) → Near 53 (float (pos (u j i)) 100) (pos (u j i)) 100
    near i = float-near (pos (u j i)) 100 (hundredths-small _ _ _ _ _ (range i) l) (omega arith) (omega arith)

  none : (i : ℕ) → freedom h ≡ 0 → uncertainty_of h d y w i ≡ None
  unfolding uncertainty_of
  none i f = stated-none (u j i) (freedom h) f

  -- the value of an object of an accepted job is accepted
  valued : (i : ℕ) → i < v j → value_verdict h d y w M i ≡ accepted
  unfolding value_verdict job_verdict contents
  valued i l =
      let a = opened (slices h d y) (clean h d ⨾ in_balance h d ⨾ restraint h w M ⨾ in_reach y) e in
      let b = opened (clean h d ⨾ in_balance h d ⨾ restraint h w M) (in_reach y) a.1 in
      let c = opened (clean h d ⨾ in_balance h d) (restraint h w M) b.0 in
      let f = opened (clean h d) (in_balance h d) c.0 in
      accepts (accepts (accepts (accepts (accepts a.0 f.0) (test_yes (ltb i (objects h)) 5 i (lt-ltb _ _ l))) f.1) c.1) b.1

  pub standard_uncertainty : StandardUncertainty j
  standard_uncertainty = record {
    never_understated = λ i l. reaches l i;
    least = λ i l o. no_lesser l i o;
    none = none;
    stated = λ i l. stated l i;
    near = λ i l. near l i;
    handed_out = λ i l. given_yes (value_verdict h d y w M i) (uncertainty_of h d y w i) None (valued i l);
  }

  pub adds_up_lem : restrained (v j) w (published h d y w M) ≡ pos 100 *ℤ M
  adds_up_lem = job_adds_up h d y w M good

-- the hundredths of an uncertainty are no wider than their column
stated-few : (k f : ℕ) → (0 < f → k < 2 ^ 53) → hundredths_in (stated_with k f) < 10 ^ 18
stated-few k zero l = omega arith
stated-few k (suc f) l = let few = l (omega arith) in omega arith

pub columns_stand : (j : Job) → verdict_of j ≡ accepted → (s : List ℕ) (at i : ℕ) → i < v j →
    length (weight_line i (name_from s at i) (member j.set i) (published j.head j.initial j.readings j.set j.sum i)
    (uncertainty_of j.head j.initial j.readings j.set i)) ≡ 96
unfolding uncertainty_of
columns_stand j e s at i l =
    let g = good j e in
    let x = published j.head j.initial j.readings j.set j.sum i in
    line-wide i (name_from s at i) (member j.set i) x (stated_with (u j i) (freedom j.head))
    (omega (arith, g.measures.design.sizes.objects-most)) (named_few s at i) (omega (arith, published-most j.head j.initial j.readings j.set j.sum g i))
    (stated-few (u j i) (freedom j.head) (λ f. hundredths-small _ _ _ _ _ (range j e i) f))

pub uncertainty_refused : (j : Job) → UncertaintyRefused j
uncertainty_refused j = record {
  as_the_value = λ i. refl;
  states_nothing = λ i k at e. given_no (value_verdict j.head j.initial j.readings j.set j.sum i)
      (uncertainty_of j.head j.initial j.readings j.set i) None k at e;
}

-- ---- certificates

-- the text for the four fields of a file, with names of any file
short : (four s : List ℕ) (at : ℕ) (x : Verdict) → (x ≡ accepted → read_verdict four ≡ accepted) → length (certificate_under x four (name_from s at)) ≤ 8192
short four s at (Ok done) e =
    let a = (file-job four (e refl)).1 in
    certificate_most (head_of four) (blocks_of four) (readings_of four) (set_of four) (sum_of four) (name_from s at)
    (good (job_in four) a).measures.design.sizes.objects-most (columns_stand (job_in four) a s at)
short four s at (Err why) e = omega (arith, refused-length why.number why.place)

pub certificates_of : (s : List ℕ) → Certificates s
unfolding certificate_of certificate_of2 text_of text_of2
certificates_of s = record {
  refused_as_listed = λ k at e. rw e;
  refused_as_listed_second = λ k at e. rw e;
  certified = λ e. ap (λ (x : Verdict). certificate_under x s (name_from s 0)) e;
  certified-second = λ e. ap (λ (x : Verdict). certificate_under x (four_of s) (name_from s (names_at s))) e;
  adds_up_lem = λ e. adds_up_lem (job_in s) (file-job s e).1;
  adds_up_second = λ e. adds_up_lem (job_in (four_of s)) (file-job (four_of s) (file_job2 s e).1).1;
  certificate_is_short = short s s 0 (read_verdict s) (λ e. e);
  certificate_is_short_second = short (four_of s) s (names_at s) (read_verdict2 s) (λ e. (file_job2 s e).1);
  columns_stand = λ e i l. columns_stand (job_in s) (file-job s e).1 s 0 i l;
  columns_stand_second = λ e i l. columns_stand (job_in (four_of s)) (file-job (four_of s) (file_job2 s e).1).1 s (names_at s) i l;
}
