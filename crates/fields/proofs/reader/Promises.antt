-- What the three functions over a reader say of their answers. Assumes nothing.
use mathlib.Core.Path.{◌≡◌}
use mathlib.Core.List.{List}
use Prim.Native.Nat.{ℕ}
use denote.Ref.{Bor}
use Rattle.meaning.specs.File.{Field, field_at, field_next}
use Rattle.fields.specs.declared.reader.Reader.{Reader}

-- a reader of these bytes at this place
abbrev pub Made : Bor (List ℕ) → ℕ → Reader → Type 0
Made bytes place r = (r.bytes ≡ bytes) × (r.place ≡ place)

-- the field at its place
abbrev pub Found : Reader → ℕ → ℕ → Field → Type 0
Found reader tag length r = r ≡ field_at reader.bytes.now reader.place tag length

-- the reader past that field, or where it was
abbrev pub Moved : Reader → ℕ → ℕ → Reader → Type 0
Moved reader tag length r = Made reader.bytes (field_next (field_at reader.bytes.now reader.place tag length) reader.place) r
