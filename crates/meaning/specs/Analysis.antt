-- Totals, values, deviations and spread (000, section 3), as whole-number fractions. Assumes nothing.
use Rattle.std.specs.Prelude.{ℕ, zero, suc, ◌+◌, ◌-◌, ◌*◌, ◌/◌, ◌%◌, ◌^◌, cond, List, [], ◌∷◌, get_or, ℤ, pos, ◌+ℤ◌, ◌-ℤ◌, ◌*ℤ◌, nat_abs, eqb, leb}
use Rattle.algebra.specs.Ranges.{sum, sum_ℕ}
use Rattle.records.specs.declared.Head.{Head}
use Rattle.meaning.specs.Design.{objects, blocks, occ, left, right, beta}

-- a square
abbrev pub sq : ℤ → ℤ
sq x = x *ℤ x

-- the reading of block k, left group minus right group
abbrev pub reading : List ℤ → ℕ → ℤ
reading y k = get_or y k (pos 0)

-- of a clean block k: 1 where object i is on the left, -1 where it is on the right, 0 where it is not in the block
abbrev pub sign : Head → List ℕ → ℕ → ℕ → ℤ
sign h d k i = pos (occ i (left h d k)) -ℤ pos (occ i (right h d k))

-- T(i): the readings with i on the left less those with i on the right
unfoldable pub total : Head → List ℕ → List ℤ → ℕ → ℤ
total h d y i = sum (blocks h) (λ k. sign h d k i *ℤ reading y k)

-- 1 where object i is in the restraint set w, else 0; bit i of w is object i
abbrev pub member : ℕ → ℕ → ℕ
member w i = w / 2 ^ i % 2

-- t, the number of objects in the restraint set
unfoldable pub members : ℕ → ℕ → ℕ
members v w = sum_ℕ v (member w)

-- the sum of f over the restraint set; of T it is S
unfoldable pub restrained : ℕ → ℕ → (ℕ → ℤ) → ℤ
restrained v w f = sum v (λ i. pos (member w i) *ℤ f i)

-- v·beta
abbrev pub vbeta : Head → List ℕ → ℕ
vbeta h d = objects h * beta h d

-- a value's numerator, from t, T(i), S, v·beta and M
abbrev pub numerator : ℕ → ℤ → ℤ → ℕ → ℤ → ℤ
numerator t T S vb M = pos t *ℤ T -ℤ S +ℤ pos vb *ℤ M

-- a value's denominator, from t and v·beta; it is not reduced
abbrev pub denominator : ℕ → ℕ → ℕ
denominator t vb = t * vb

-- the numerator of object i in a job
unfoldable pub numerator_of : Head → List ℕ → List ℤ → ℕ → ℤ → ℕ → ℤ
numerator_of h d y w M i = numerator (members (objects h) w) (total h d y i) (restrained (objects h) w (total h d y)) (vbeta h d) M

-- the denominator of every value of a job
unfoldable pub denominator_of : Head → List ℕ → ℕ → ℕ
denominator_of h d w = denominator (members (objects h) w) (vbeta h d)

-- the coefficient with which reading k enters the value of object i: its numerator, over t·v·beta
unfoldable pub coefficient : Head → List ℕ → ℕ → ℕ → ℕ → ℤ
coefficient h d w i k = pos (members (objects h) w) *ℤ sign h d k i -ℤ restrained (objects h) w (sign h d k)

-- the variance factor of object i: its numerator, over t·v·beta; t - 1 for a member of the restraint set, t + 1 for any other object
unfoldable pub factor : Head → ℕ → ℕ → ℕ
factor h w i = let t = members (objects h) w in cond (eqb (member w i) 1) (t - 1) (t + 1)

-- the sum of f over a list of objects
unfoldable pub along : (ℕ → ℤ) → List ℕ → ℤ
along f [] = pos 0
along f (x ∷ xs) = f x +ℤ along f xs

-- f over the left of block k minus f over the right
unfoldable pub difference : Head → List ℕ → (ℕ → ℤ) → ℕ → ℤ
difference h d f k = along f (left h d k) -ℤ along f (right h d k)

-- the deviation of block k of the exact values: its numerator, over v·beta
unfoldable pub deviation_of : Head → List ℕ → List ℤ → ℕ → ℤ
deviation_of h d y k = pos (vbeta h d) *ℤ reading y k -ℤ difference h d (total h d y) k

-- the sum of the squared readings
unfoldable pub squared_readings : Head → List ℤ → ℤ
squared_readings h y = sum (blocks h) (λ k. sq (reading y k))

-- the sum of the squared totals
unfoldable pub squared_totals : Head → List ℕ → List ℤ → ℤ
squared_totals h d y = sum (objects h) (λ i. sq (total h d y i))

-- Q, from v·beta and the two sums
abbrev pub q : ℕ → ℤ → ℤ → ℤ
q vb yy tt = pos vb *ℤ yy -ℤ tt

-- Q of an accepted job, which is never negative
unfoldable pub qOf : Head → List ℕ → List ℤ → ℕ
qOf h d y = nat_abs (q (vbeta h d) (squared_readings h y) (squared_totals h d y))

-- f, the degrees of freedom; b is never below v - 1
abbrev pub freedom : Head → ℕ
freedom h = blocks h + 1 - objects h

-- the largest whole number whose square is at most x, for x below 4 to the power s
unfoldable pub root : ℕ → ℕ → ℕ
root zero x = 0
root (suc s) x = let r = 2 * root s (x / 4) in cond (leb ((r + 1) * (r + 1)) x) (r + 1) r

-- k, from Q, v·beta and f: the largest whole number with k·k·v·beta·f at most 10,000·Q; 0 where f is 0
unfoldable pub spread_hundredths : ℕ → ℕ → ℕ → ℕ
spread_hundredths Q vb zero = 0
spread_hundredths Q vb (suc f) = root 64 (10000 * Q / (vb * suc f))

-- k of a job
unfoldable pub spread_hundredths_of : Head → List ℕ → List ℤ → ℕ
spread_hundredths_of h d y = spread_hundredths (qOf h d y) (vbeta h d) (freedom h)
