-- Any two outcomes that keep the promise of a function over a reader are identical. A law `_promises` says which fact the function's contract is, and
-- the theorem is about that fact. Where a clause is dropped or weakened, the law or the theorem fails. Assumes nothing.
use mathlib.Core.Path.{◌≡◌, sym, ap₂, ◌∙◌}
use mathlib.Core.List.{List}
use Prim.Native.Nat.{ℕ}
use seplogic.Ra.Ura.{Ura}
use base.Logic.{SProp}
use prog.Memory.{Memory}
use prog.Routine.{Routine}
use types.Logic.{Logic}
use contract.Lifetimes.{Lfts}
use contract.Monad.{Fun, fact}
use denote.Ref.{Bor}
use denote.Triple.Clauses.{AtExit}
use borrow.Fn.World.{ArgsD, ResD}
use borrow.Author.Rules.{rules}
use Rattle.fields.specs.declared.reader.Reader.{Reader}
use Rattle.fields.proofs.reader.Promises.{Made, Found, Moved}
use Rattle.fields.specs.contracts.reader.reader_at as made
use Rattle.fields.specs.contracts.reader.field as field
use Rattle.fields.specs.contracts.reader.past as past
use Rattle.meaning.specs.File.{Field}

-- that is what their contracts are
module _ {M : Type 1} {𝓤 : Ura M} (𝓛 : Logic 𝓤) (mem : Memory → SProp 𝓤) (run : Routine → Fun 𝓤) (κs : Lfts 1) where
  pub reader_at_promises : (a : ArgsD made.signature κs) (r : ResD made.signature κs) (s : AtExit made.ended κs)
      → (made.clauses 𝓛 mem run κs a).ensures tt r s ≡ fact 𝓤 (Made a.0 a.1.0 r)
  reader_at_promises a r s = search rules

  pub field_promises : (a : ArgsD field.signature κs) (r : ResD field.signature κs) (s : AtExit field.ended κs)
      → (field.clauses 𝓛 mem run κs a).ensures tt r s ≡ fact 𝓤 (Found a.0 a.1.0 a.1.1.0 r)
  field_promises a r s = search rules

  pub past_promises : (a : ArgsD past.signature κs) (r : ResD past.signature κs) (s : AtExit past.ended κs)
      → (past.clauses 𝓛 mem run κs a).ensures tt r s ≡ fact 𝓤 (Moved a.0 a.1.0 a.1.1.0 r)
  past_promises a r s = search rules

-- two readers of the same bytes at the same place are one
pub reader_at_determined : (bytes : Bor (List ℕ)) (place : ℕ) (r q : Reader) → Made bytes place r → Made bytes place q → r ≡ q
reader_at_determined bytes place r q p e = ap₂ (λ (b : Bor (List ℕ)) (k : ℕ). record { bytes = b; place = k }) (p.0 ∙ sym e.0) (p.1 ∙ sym e.1)

-- two answers that `field` may give are the same
pub field_determined : (reader : Reader) (tag length : ℕ) (r q : Field) → Found reader tag length r → Found reader tag length q → r ≡ q
field_determined reader tag length r q p e = p ∙ sym e

-- two readers that `past` may give are the same
pub past_determined : (reader : Reader) (tag length : ℕ) (r q : Reader) → Moved reader tag length r → Moved reader tag length q → r ≡ q
past_determined reader tag length r q = reader_at_determined _ _ r q
