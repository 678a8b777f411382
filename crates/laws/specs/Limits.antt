-- The bounds that follow from the limits of the readings and of M. Assumes nothing.
use Rattle.std.specs.Prelude.{ℕ, ◌+◌, ◌*◌}
use Rattle.meaning.specs.Refusals.{reading_limit, sum_limit}

-- no total is larger: an object stands at most once in each of at most 1,300 blocks
abbrev pub total_limit : ℕ
total_limit = 1300 * reading_limit

-- no sum of squared readings is larger: there are at most 1,300
abbrev pub squares_limit : ℕ
squares_limit = 1300 * (reading_limit * reading_limit)

-- no Q is larger: v·beta is at most 2,600
abbrev pub qLimit : ℕ
qLimit = 2600 * squares_limit

-- no numerator of a value is larger: t is at most 50
abbrev pub numerator_limit : ℕ
numerator_limit = 100 * total_limit + 2600 * sum_limit
