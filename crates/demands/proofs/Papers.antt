-- The words, tables, parameters, values, deviations and spread of a job are the paper's: the laws of the definitions, put into the second demand's records.
-- Assumes nothing.
use mathlib.Core.Path.{◌≡◌, refl, sym, ap, ◌∙◌}
use mathlib.Core.Logic.{◌⊎◌, ◌↔◌}
use mathlib.Core.List.{List}
use Prim.Native.Nat.{ℕ, zero, suc, ◌+◌, ◌*◌, ◌/◌, ◌%◌, ◌^◌, ◌≤◌, ◌<◌}
use native.Mathlib.Nat.{mul-pos}
use native.Mathlib.Omega.{arith}
use lib.IntN.{pos, nat_abs}
use Rattle.algebra.specs.Tables.{entry}
use Rattle.records.specs.declared.Head.{Head}
use Rattle.meaning.specs.Design.{objects, blocks, occ, left, right, company, opposition, balanced}
use Rattle.meaning.specs.Analysis.{member, numerator_of, denominator_of, difference, deviation_of, spread_hundredths_of, freedom}
use Rattle.meaning.specs.Publishing.{spreads, float, no_spread, spread_of, spread_freedom}
use Rattle.meaning.specs.Refusals.{accepted}
use Rattle.meaning.specs.Calls.{given, word_at, design_verdict, no_table, table_of, judge_verdict}
use Rattle.laws.proofs.Chains.{given_yes, Sound, sound, sound_accepted, accepts, test_yes, judged_sound, Job as Accepted, job}
use Rattle.laws.proofs.Clean.{block-once, block-left, block-right}
use Rattle.laws.proofs.Counting.{company_self, opposition_self, balanced-is}
use Rattle.laws.proofs.CountingNumbers.{parameters}
use Rattle.laws.proofs.Tables.{entry_of, entry_elsewhere}
use Rattle.laws.proofs.Analysis.{totals_cancel, restraint-kept, q_nonneg, vbeta-some, job-denominator}
use Rattle.laws.proofs.SizesMost.{denominator-most, numerator-most, hundredths-most}
use Rattle.laws.proofs.Fractions.{Over, over_deviation, exact_deviation, exact-squares, exact_proper, squares_proper, spread-most, spread_cut}
use Rattle.arithmetic.proofs.Floats.{float-near}
use Rattle.words.proofs.Members.{bit_word}
use Rattle.demands.specs.Job.{Job, verdict_of, exact, squares}
use Rattle.demands.specs.Papers.{Developed, PapersParameters, PapersValue, PapersDeviation, PapersSpread, PapersFractions}

-- ---- a clean block list

-- the words of a development: word 2k, and word 2k + 1
word-left : (h : Head) (d : List ℕ) → Sound h d → (k : ℕ) → k < blocks h → (i : ℕ) → member (word_at h d (2 * k)) i ≡ occ i (left h d k)
unfolding word_at
word-left h d s k l i =
    let q : 2 * k / 2 ≡ k = omega arith in
    let r : 2 * k % 2 ≡ 0 = omega arith in
    rw (q, r) (bit_word (left h d k) (λ x. omega (arith, block-once h d s k l x)) i)

word-right : (h : Head) (d : List ℕ) → Sound h d → (k : ℕ) → k < blocks h → (i : ℕ) → member (word_at h d (2 * k + 1)) i ≡ occ i (right h d k)
unfolding word_at
word-right h d s k l i =
    let q : (2 * k + 1) / 2 ≡ k = omega arith in
    let r : (2 * k + 1) % 2 ≡ 1 = omega arith in
    rw (q, r) (bit_word (right h d k) (λ x. omega (arith, block-once h d s k l x)) i)

-- a table that is handed out: its entries, and zeros elsewhere
module _ (h : Head) (d : List ℕ) (e : design_verdict h d ≡ accepted) (f : ℕ → ℕ → ℕ) (i k : ℕ) where
  abbrev handed : List (List ℕ)
  handed = given (design_verdict h d) (table_of (objects h) f) no_table

  is-table : handed ≡ table_of (objects h) f
  is-table = given_yes _ _ no_table e

  few : objects h ≤ 50
  few = (sound h d e).sizes.objects-most

  table-counts : i < objects h → k < objects h → entry handed i k ≡ f i k
  table-counts a b = ap (λ (t : List (List ℕ)). entry t i k) is-table ∙ entry_of (objects h) f i k few a b

  table-zeros : (objects h ≤ i) ⊎ (objects h ≤ k) → entry handed i k ≡ 0
  table-zeros o = ap (λ (t : List (List ℕ)). entry t i k) is-table ∙ entry_elsewhere (objects h) f i k few o

-- ---- the spread as it is handed out

-- where there is a degree of freedom it holds k / 100 and the degrees
spread-some : (k f : ℕ) → 0 < f → spread_of k f ≡ spreads (float (pos k) 100) f
spread-some k zero l = absurd (none l)
  where
    none : 0 < 0 → ⊥
    none l = omega arith
spread-some k (suc f) l = refl

-- there is none exactly where there is no degree of freedom
spread_none : (k f : ℕ) → (spread_of k f ≡ no_spread) ↔ (f ≡ 0)
spread_none k f = (λ e. sym (freed f) ∙ ap spread_freedom e, λ e. ap (spread_of k) e)
  where
    freed : (f : ℕ) → spread_freedom (spread_of k f) ≡ f
    freed zero = refl
    freed (suc f) = refl

-- ---- a job

module _ (j : Job) where
  open j use {head as h, initial as d, readings as y, set as w, sum as M}

  pub developed : design_verdict h d ≡ accepted → Developed j
  developed e = let s = sound h d e in record {
    words_are_sides = λ k l i. (word-left h d s k l i, word-right h d s k l i);
    tables_count = λ i k a c. (table-counts h d e (company h d) i k a c, table-counts h d e (opposition h d) i k a c);
    tables_of_one = λ i l. (company_self h d s i l, opposition_self h d s i l);
    tables_elsewhere = λ i k o. (table-zeros h d e (company h d) i k o, table-zeros h d e (opposition h d) i k o);
    totals_cancel = totals_cancel h d s y;
  }

  -- ---- a balanced design

  pub papers_parameters : judge_verdict h d ≡ accepted → PapersParameters j
  papers_parameters e =
      let (s, even) = judged_sound h d e in
      let n = parameters h d s even in
      record {
        lambdas = balanced-is h d even;
        v_is = refl;
        b_is = refl;
        p_is = refl;
        sides = λ k l. (block-left h d s k l, block-right h d s k l);
        beta-is = n.beta-is;
        beta_positive = n.positive;
        stands = n.stands;
        r_is = refl;
        size = n.size;
        freedom-is = omega (arith, n.enough);
      }

  -- ---- an accepted job

  module _ (e : verdict_of j ≡ accepted) where
    -- the job as facts
    facts : Accepted h d y w M
    facts = job h d y w M e

    -- its design, which is accepted by itself
    s : Sound h d
    s = facts.measures.design

    pub judged : judge_verdict h d ≡ accepted
    unfolding judge_verdict
    judged = accepts (sound_accepted h d s) (test_yes (balanced h d) 6 0 facts.measures.even)

    -- what is converted is below 2 to the 53rd
    numerator-small : (i : ℕ) → nat_abs (numerator_of h d y w M i) < 2 ^ 53
    numerator-small i = omega (arith, numerator-most h d s y facts.measures.readings facts.measures.even w M i facts.restraint.sum-most)

    denominator-small : denominator_of h d w < 2 ^ 53
    denominator-small = omega (arith, denominator-most h d s facts.measures.even w)

    hundredths-small : spread_hundredths_of h d y < 2 ^ 53
    hundredths-small = omega (arith, hundredths-most h d s y facts.measures.readings facts.measures.even)

    papers_value : (i : ℕ) → PapersValue j i
    unfolding numerator_of denominator_of
    papers_value i = record {
      numerator = refl;
      denominator = refl;
      denominator_positive = job-denominator h d y w M facts;
      handed_out = refl;
      numerator_converts = numerator-small i;
      denominator_converts = denominator-small;
      near = float-near (numerator_of h d y w M i) (denominator_of h d w) (numerator-small i) (job-denominator h d y w M facts) denominator-small;
    }

    -- the exact values over their denominator
    exact-over : (i : ℕ) → i < objects h → Over (denominator_of h d w) (numerator_of h d y w M i) (exact j i)
    exact-over i l = record { some = exact_proper h d y w M e i l; same = refl }

    papers_deviation : (k : ℕ) → k < blocks h → PapersDeviation j k
    unfolding deviation_of difference
    papers_deviation k l = record {
      numerator = refl;
      of_exact_values = record {
        left-bottom = (over_deviation h d s y (denominator_of h d w) (numerator_of h d y w M) (exact j) exact-over k l).some;
        right-bottom = vbeta-some h d s facts.measures.even;
        equal = exact_deviation h d y w M e k l;
      };
    }

    papers_spread : PapersSpread j
    papers_spread = record {
      Q_never_negative = sym (q_nonneg h d s facts.measures.even y);
      squares_are = record {
        left-bottom = sums;
        right-bottom = vbeta-some h d s facts.measures.even;
        equal = exact-squares h d y w M e;
      };
      largest = spread-most h d y w M e;
      deviation_proper = λ f. mul-pos sums f;
      cut_below = λ f. (spread_cut h d y w M e f).0;
      cut_above = λ f. (spread_cut h d y w M e f).1;
      handed_out = spread-some (spread_hundredths_of h d y) (freedom h);
      hundredths_convert = hundredths-small;
      near = float-near (pos (spread_hundredths_of h d y)) 100 hundredths-small (omega arith) (omega arith);
      none_exactly = spread_none (spread_hundredths_of h d y) (freedom h);
    }
      where
        sums : 0 < (squares j (exact j)).bottom
        sums = squares_proper h d y w M e (exact j) (exact_proper h d y w M e)

    pub papers_fractions : PapersFractions j
    papers_fractions = record {
      design = developed (sound_accepted h d s);
      parameters = papers_parameters judged;
      values = papers_value;
      numerators_add = restraint-kept h d y w M;
      deviations = papers_deviation;
      spread = papers_spread;
    }
