-- The sum between the two words and the noise, which together are an i32.
use Rattle.std.proofs.Common.{◌≡◌, ℕ, ◌^◌, ◌<◌, ◌≤◌, List, ℤ, ◌∙◌, sym, lit<, to_z-of_z, w32, w64, SFits, to_z}
use mathlib.Core.Path.{subst}
use Rattle.algebra.proofs.Numbers.{Num, called, plus, plus_fits}
use Rattle.meaning.specs.Practice.{noise, width_limit}
use Rattle.laws.proofs.Practice.{noise-most}
use Rattle.practice.specs.Drawn.{Known, between, reading_in}
use Rattle.practice.proofs.Drawing.{between-small, short_fits}
use Rattle.practice.proofs.readings.reading_of.Goals as goal

-- the two sums
module _ (truths : List ℤ) (known : Known truths) (left right width x : ℕ) (few : width ≤ width_limit) (fits : x < 2 ^ 32) {s n : ℤ}
    (summed : s ≡ between truths left right) (made : n ≡ noise width x) where
  abbrev plain : Num
  plain = called s 150000 summed (between-small _ _ _ known) (lit< tt)

  abbrev drawn : Num
  drawn = called n 128 made (noise-most width x few fits) (lit< tt)

  abbrev all : Num
  all = plus plain drawn (lit< tt)

  short : SFits w32 (to_z w64 all.bits)
  short = subst (SFits w32) (sym all.reads) (short_fits all.num all.small)

pub overflow_add-result : goal.overflow_add-result
overflow_add-result c =
    let r = c.requires in
    plus_fits (plain _ r.0 _ _ _ _ r.1 c.ranges.x.fits c.sum_between-plain.ensures c.noise_in-drawn.ensures)
    (drawn _ r.0 _ _ _ _ r.1 c.ranges.x.fits c.sum_between-plain.ensures c.noise_in-drawn.ensures) (lit< tt)

pub overflow_cast-result : goal.overflow_cast-result
overflow_cast-result c =
    let r = c.requires in
    short _ r.0 _ _ _ _ r.1 c.ranges.x.fits c.sum_between-plain.ensures c.noise_in-drawn.ensures

pub returns : goal.returns
unfolding reading_in
returns c =
    let r = c.requires in
    let told = to_z-of_z (short _ r.0 _ _ _ _ r.1 c.ranges.x.fits c.sum_between-plain.ensures c.noise_in-drawn.ensures)
    ∙ (all _ r.0 _ _ _ _ r.1 c.ranges.x.fits c.sum_between-plain.ensures c.noise_in-drawn.ensures).reads in
    search told
