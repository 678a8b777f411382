-- A solver for equations of the commutative ring ℤ, by reflection: `Expr` is the syntax of an expression over numbered unknowns, `norm` multiplies it
-- out to a sorted sum of monomials, and `sound` says that this keeps its value. `ring₃ (λ a b c. (a ⊕ b) ⊗ c ≐ a ⊗ c ⊕ b ⊗ c) x y z refl : (x +ℤ y)
-- *ℤ z ≡ x *ℤ z +ℤ y *ℤ z`. Assumes nothing.
use mathlib.Core.Path.{◌≡◌, refl, sym, ◌∙◌, ap, ap₂}
use mathlib.Core.Bool.{Bool, true, false, ◌&&◌}
use Prim.Native.Nat.{ℕ, zero, suc, ◌+◌, ◌^◌}
use lib.Dec.{T, leb, eqb, eqb→eq}
use lib.IntN.{ℤ, pos, negsuc, neg_ℤ, ◌+ℤ◌, ◌*ℤ◌, +ℤ_idl, +ℤ_idr, +ℤ_assoc, zero-*ℤ, *ℤ-zero}
use Rattle.algebra.proofs.Tests.{and_0, and_1}
use Rattle.algebra.proofs.Ring.{+ℤ-left-comm, distrib_r, distrib_l, neg-*ℤ, *ℤ-assoc, *ℤ-left-comm, *ℤ-swap, one-*ℤ, *ℤ-1}

-- an expression over numbered unknowns
pub data Expr : Type 0 where
  con : ℤ → Expr
  var : ℕ → Expr
  ◌⊕◌ : Expr → Expr → Expr
  ◌⊗◌ : Expr → Expr → Expr
  ⊖◌ : Expr → Expr

infixl 6 ◌⊕◌ ◌⊝◌
infixl 7 ◌⊗◌
infix 8 ⊖◌
-- a difference
abbrev pub ◌⊝◌ : Expr → Expr → Expr
a ⊝ b = a ⊕ (⊖ b)

-- a numeral
abbrev pub # : ℕ → Expr
# n = con (pos n)

-- what an expression is worth, at the values ρ of the unknowns
abbrev pub value : (ℕ → ℤ) → Expr → ℤ
value ρ (con z) = z
value ρ (var x) = ρ x
value ρ (a ⊕ b) = value ρ a +ℤ value ρ b
value ρ (a ⊗ b) = value ρ a *ℤ value ρ b
value ρ (⊖ a) = neg_ℤ (value ρ a)

-- ---- the normal form: a sum of terms, each a number times a product of unknowns
-- a product of unknowns
pub data Mono : Type 0 where
  unit : Mono
  ◌·◌ : ℕ → Mono → Mono

infixr 7 ◌·◌
-- the terms stand by their keys. A key only sorts: the key of a product is the sum of the keys, and no proof rests on it
pub data Poly : Type 0 where
  nil : Poly
  term : ℕ → ℤ → Mono → Poly → Poly

-- what a product of unknowns is worth
abbrev value_m : (ℕ → ℤ) → Mono → ℤ
value_m ρ unit = pos 1
value_m ρ (x · m) = ρ x *ℤ value_m ρ m

-- what a sum of terms is worth
abbrev value_p : (ℕ → ℤ) → Poly → ℤ
value_p ρ nil = pos 0
value_p ρ (term k c m p) = c *ℤ value_m ρ m +ℤ value_p ρ p

-- what a `let` binds is computed only where it is read
abbrev pub ins_m' : Bool → ℕ → ℕ → Mono → Mono → Mono
ins_m' true x y m r = x · (y · m)
ins_m' false x y m r = y · r

-- one unknown more in a sorted product
abbrev pub ins_m : ℕ → Mono → Mono
ins_m x unit = x · unit
ins_m x (y · m) = let r = ins_m x m in ins_m' (leb x y) x y m r

-- two products as one
abbrev pub mul_m : Mono → Mono → Mono
mul_m unit n = n
mul_m (x · m) n = ins_m x (mul_m m n)

-- whether two products are the same
abbrev pub eq_m : Mono → Mono → Bool
eq_m unit unit = true
eq_m unit (y · n) = false
eq_m (x · m) unit = false
eq_m (x · m) (y · n) = let r = eq_m m n in eqb x y && r

-- a term is left out where its number is 0
abbrev pub mk : ℕ → ℤ → Mono → Poly → Poly
mk k (pos zero) m p = p
mk k (pos (suc c)) m p = term k (pos (suc c)) m p
mk k (negsuc c) m p = term k (negsuc c) m p

-- where a term goes: onto its like, in front, or further on
abbrev pub add_t' : Bool → Bool → ℕ → ℤ → Mono → ℕ → ℤ → Mono → Poly → Poly → Poly
add_t' true l k c m j d n p r = mk j (c +ℤ d) n p
add_t' false true k c m j d n p r = term k c m (term j d n p)
add_t' false false k c m j d n p r = term j d n r

-- one term more in a sorted sum
abbrev pub add_t : ℕ → ℤ → Mono → Poly → Poly
add_t k c m nil = mk k c m nil
add_t k c m (term j d n p) =
    let e = eq_m m n in
    let l = leb k j in
    let r = add_t k c m p in
    add_t' (eqb k j && e) l k c m j d n p r

-- two sums as one
abbrev pub add_p : Poly → Poly → Poly
add_p nil q = q
add_p (term k c m p) q = add_t k c m (add_p p q)

-- a sum times a term
abbrev pub mul_t : ℕ → ℤ → Mono → Poly → Poly
mul_t k c m nil = nil
mul_t k c m (term j d n p) = add_t (k + j) (c *ℤ d) (mul_m m n) (mul_t k c m p)

-- a sum times a sum
abbrev pub mul_p : Poly → Poly → Poly
mul_p nil q = nil
mul_p (term k c m p) q = add_p (mul_t k c m q) (mul_p p q)

-- an expression, multiplied out and sorted
abbrev pub norm : Expr → Poly
norm (con z) = mk 0 z unit nil
norm (var x) = term (16 ^ x) (pos 1) (x · unit) nil
norm (a ⊕ b) = add_p (norm a) (norm b)
norm (a ⊗ b) = mul_p (norm a) (norm b)
norm (⊖ a) = mul_t 0 (negsuc 0) unit (norm a)

-- ---- each step keeps the value
module _ (ρ : ℕ → ℤ) where
  ins_m'-is : (b : Bool) (x y : ℕ) (m r : Mono) → value_m ρ r ≡ ρ x *ℤ value_m ρ m → value_m ρ (ins_m' b x y m r) ≡ ρ x *ℤ (ρ y *ℤ value_m ρ m)
  ins_m'-is true x y m r h = refl
  ins_m'-is false x y m r h = ap (λ z. ρ y *ℤ z) h ∙ *ℤ-left-comm (ρ y) (ρ x) (value_m ρ m)

  ins_m-is : (x : ℕ) (m : Mono) → value_m ρ (ins_m x m) ≡ ρ x *ℤ value_m ρ m
  ins_m-is x unit = refl
  ins_m-is x (y · m) = ins_m'-is (leb x y) x y m (ins_m x m) (ins_m-is x m)

  mul_m-is : (m n : Mono) → value_m ρ (mul_m m n) ≡ value_m ρ m *ℤ value_m ρ n
  mul_m-is unit n = sym (one-*ℤ (value_m ρ n))
  mul_m-is (x · m) n = ins_m-is x (mul_m m n) ∙ ap (λ z. ρ x *ℤ z) (mul_m-is m n) ∙ sym (*ℤ-assoc (ρ x) (value_m ρ m) (value_m ρ n))

  eq_m-is : (m n : Mono) → T (eq_m m n) → value_m ρ m ≡ value_m ρ n
  eq_m-is unit unit t = refl
  eq_m-is unit (y · n) t = absurd t
  eq_m-is (x · m) unit t = absurd t
  eq_m-is (x · m) (y · n) t =
      ap₂ ◌*ℤ◌ (ap ρ (eqb→eq x y (and_0 (eqb x y) (eq_m m n) t))) (eq_m-is m n (and_1 (eqb x y) (eq_m m n) t))

  mk-is : (k : ℕ) (c : ℤ) (m : Mono) (p : Poly) → value_p ρ (mk k c m p) ≡ c *ℤ value_m ρ m +ℤ value_p ρ p
  mk-is k (pos zero) m p = sym (ap (λ z. z +ℤ value_p ρ p) (zero-*ℤ (value_m ρ m)) ∙ +ℤ_idl (value_p ρ p))
  mk-is k (pos (suc c)) m p = refl
  mk-is k (negsuc c) m p = refl

  add_t'-is : (e l : Bool) (k : ℕ) (c : ℤ) (m : Mono) (j : ℕ) (d : ℤ) (n : Mono) (p r : Poly) → (T e → value_m ρ m ≡ value_m ρ n) →
      value_p ρ r ≡ c *ℤ value_m ρ m +ℤ value_p ρ p →
      value_p ρ (add_t' e l k c m j d n p r) ≡ c *ℤ value_m ρ m +ℤ (d *ℤ value_m ρ n +ℤ value_p ρ p)
  add_t'-is true l k c m j d n p r h g =
      mk-is j (c +ℤ d) n p ∙ ap (λ z. z +ℤ value_p ρ p) (distrib_r c d (value_m ρ n)) ∙ +ℤ_assoc (c *ℤ value_m ρ n) (d *ℤ value_m ρ n) (value_p ρ p)
      ∙ ap (λ z. c *ℤ z +ℤ (d *ℤ value_m ρ n +ℤ value_p ρ p)) (sym (h tt))
  add_t'-is false true k c m j d n p r h g = refl
  add_t'-is false false k c m j d n p r h g =
      ap (λ z. d *ℤ value_m ρ n +ℤ z) g ∙ +ℤ-left-comm (d *ℤ value_m ρ n) (c *ℤ value_m ρ m) (value_p ρ p)

  add_t-is : (k : ℕ) (c : ℤ) (m : Mono) (p : Poly) → value_p ρ (add_t k c m p) ≡ c *ℤ value_m ρ m +ℤ value_p ρ p
  add_t-is k c m nil = mk-is k c m nil
  add_t-is k c m (term j d n p) =
      add_t'-is (eqb k j && eq_m m n) (leb k j) k c m j d n p (add_t k c m p) (λ t. eq_m-is m n (and_1 (eqb k j) (eq_m m n) t)) (add_t-is k c m p)

  add_p-is : (p q : Poly) → value_p ρ (add_p p q) ≡ value_p ρ p +ℤ value_p ρ q
  add_p-is nil q = sym (+ℤ_idl (value_p ρ q))
  add_p-is (term k c m p) q =
      add_t-is k c m (add_p p q) ∙ ap (λ z. c *ℤ value_m ρ m +ℤ z) (add_p-is p q) ∙ sym (+ℤ_assoc (c *ℤ value_m ρ m) (value_p ρ p) (value_p ρ q))

  mul_t-is : (k : ℕ) (c : ℤ) (m : Mono) (p : Poly) → value_p ρ (mul_t k c m p) ≡ (c *ℤ value_m ρ m) *ℤ value_p ρ p
  mul_t-is k c m nil = sym (*ℤ-zero (c *ℤ value_m ρ m))
  mul_t-is k c m (term j d n p) =
      add_t-is (k + j) (c *ℤ d) (mul_m m n) (mul_t k c m p)
      ∙ ap₂ ◌+ℤ◌ (ap (λ z. (c *ℤ d) *ℤ z) (mul_m-is m n) ∙ *ℤ-swap c d (value_m ρ m) (value_m ρ n)) (mul_t-is k c m p)
      ∙ sym (distrib_l (c *ℤ value_m ρ m) (d *ℤ value_m ρ n) (value_p ρ p))

  mul_p-is : (p q : Poly) → value_p ρ (mul_p p q) ≡ value_p ρ p *ℤ value_p ρ q
  mul_p-is nil q = sym (zero-*ℤ (value_p ρ q))
  mul_p-is (term k c m p) q =
      add_p-is (mul_t k c m q) (mul_p p q) ∙ ap₂ ◌+ℤ◌ (mul_t-is k c m q) (mul_p-is p q) ∙ sym (distrib_r (c *ℤ value_m ρ m) (value_p ρ p) (value_p ρ q))

  norm-is : (a : Expr) → value_p ρ (norm a) ≡ value ρ a
  norm-is (con z) = mk-is 0 z unit nil ∙ +ℤ_idr (z *ℤ pos 1) ∙ *ℤ-1 z
  norm-is (var x) = +ℤ_idr (pos 1 *ℤ (ρ x *ℤ pos 1)) ∙ one-*ℤ (ρ x *ℤ pos 1) ∙ *ℤ-1 (ρ x)
  norm-is (a ⊕ b) = add_p-is (norm a) (norm b) ∙ ap₂ ◌+ℤ◌ (norm-is a) (norm-is b)
  norm-is (a ⊗ b) = mul_p-is (norm a) (norm b) ∙ ap₂ ◌*ℤ◌ (norm-is a) (norm-is b)
  norm-is (⊖ a) =
      mul_t-is 0 (negsuc 0) unit (norm a) ∙ ap (λ z. z *ℤ value_p ρ (norm a)) (*ℤ-1 (negsuc 0)) ∙ neg-*ℤ (pos 1) (value_p ρ (norm a))
      ∙ ap neg_ℤ (one-*ℤ (value_p ρ (norm a)) ∙ norm-is a)

  -- expressions with the same normal form have the same value
  pub sound : (a b : Expr) → norm a ≡ norm b → value ρ a ≡ value ρ b
  sound a b h = sym (norm-is a) ∙ ap (value_p ρ) h ∙ norm-is b

-- ---- the solver, for 1 to 7 unknowns
-- an equation of two expressions
pub record Eqn : Type 0 where
  pub lhs : Expr
  pub rhs : Expr

infix 4 ◌≐◌
-- an equation, as it is written
abbrev pub ◌≐◌ : Expr → Expr → Eqn
a ≐ b = record { lhs = a; rhs = b }

-- both sides have the same normal form
abbrev pub Normal : Eqn → Type 0
Normal e = norm e.lhs ≡ norm e.rhs

-- both sides have the same value
abbrev pub Holds : (ℕ → ℤ) → Eqn → Type 0
Holds ρ e = value ρ e.lhs ≡ value ρ e.rhs

-- an equation whose sides have the same normal form holds
pub solve : (ρ : ℕ → ℤ) (e : Eqn) → Normal e → Holds ρ e
solve ρ e h = sound ρ e.lhs e.rhs h

infixr 5 ◌◂◌
-- a value in front of those of the unknowns
abbrev pub ◌◂◌ : ℤ → (ℕ → ℤ) → ℕ → ℤ
(a ◂ ρ) zero = a
(a ◂ ρ) (suc n) = ρ n

-- no unknowns
abbrev pub none : ℕ → ℤ
none n = pos 0

-- the solver, for one unknown
pub ring₁ : (q : Expr → Eqn) (a : ℤ) → Normal (q (var 0)) → Holds (a ◂ none) (q (var 0))
ring₁ q a = solve (a ◂ none) (q (var 0))

-- the solver, for two unknowns
pub ring₂ : (q : Expr → Expr → Eqn) (a b : ℤ) → Normal (q (var 0) (var 1)) → Holds (a ◂ b ◂ none) (q (var 0) (var 1))
ring₂ q a b = solve (a ◂ b ◂ none) (q (var 0) (var 1))

-- the solver, for three unknowns
pub ring₃ : (q : Expr → Expr → Expr → Eqn) (a b c : ℤ) → Normal (q (var 0) (var 1) (var 2)) → Holds (a ◂ b ◂ c ◂ none) (q (var 0) (var 1) (var 2))
ring₃ q a b c = solve (a ◂ b ◂ c ◂ none) (q (var 0) (var 1) (var 2))

-- the solver, for four unknowns
pub ring₄ : (q : Expr → Expr → Expr → Expr → Eqn) (a b c d : ℤ) → Normal (q (var 0) (var 1) (var 2) (var 3)) →
    Holds (a ◂ b ◂ c ◂ d ◂ none) (q (var 0) (var 1) (var 2) (var 3))
ring₄ q a b c d = solve (a ◂ b ◂ c ◂ d ◂ none) (q (var 0) (var 1) (var 2) (var 3))

-- the solver, for five unknowns
pub ring₅ : (q : Expr → Expr → Expr → Expr → Expr → Eqn) (a b c d e : ℤ) → Normal (q (var 0) (var 1) (var 2) (var 3) (var 4)) →
    Holds (a ◂ b ◂ c ◂ d ◂ e ◂ none) (q (var 0) (var 1) (var 2) (var 3) (var 4))
ring₅ q a b c d e = solve (a ◂ b ◂ c ◂ d ◂ e ◂ none) (q (var 0) (var 1) (var 2) (var 3) (var 4))

-- the solver, for six unknowns
pub ring₆ : (q : Expr → Expr → Expr → Expr → Expr → Expr → Eqn) (a b c d e f : ℤ) → Normal (q (var 0) (var 1) (var 2) (var 3) (var 4) (var 5)) →
    Holds (a ◂ b ◂ c ◂ d ◂ e ◂ f ◂ none) (q (var 0) (var 1) (var 2) (var 3) (var 4) (var 5))
ring₆ q a b c d e f = solve (a ◂ b ◂ c ◂ d ◂ e ◂ f ◂ none) (q (var 0) (var 1) (var 2) (var 3) (var 4) (var 5))

-- the solver, for seven unknowns
pub ring₇ : (q : Expr → Expr → Expr → Expr → Expr → Expr → Expr → Eqn) (a b c d e f g : ℤ) →
    Normal (q (var 0) (var 1) (var 2) (var 3) (var 4) (var 5) (var 6)) →
    Holds (a ◂ b ◂ c ◂ d ◂ e ◂ f ◂ g ◂ none) (q (var 0) (var 1) (var 2) (var 3) (var 4) (var 5) (var 6))
ring₇ q a b c d e f g = solve (a ◂ b ◂ c ◂ d ◂ e ◂ f ◂ g ◂ none) (q (var 0) (var 1) (var 2) (var 3) (var 4) (var 5) (var 6))
