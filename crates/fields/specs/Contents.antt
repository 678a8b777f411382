-- What stands in the fields of a file, for any bytes. Assumes nothing.
use Rattle.std.specs.Prelude.{ℕ, List}
use Rattle.records.specs.declared.Held.{Held}
use Rattle.meaning.specs.Design.{blocks}
use Rattle.meaning.specs.File.{head_of, blocks_at, third_at, readings_at, set_of, sum_of}

-- its head, the places and the number of its readings, its restraint set and accepted sum
abbrev pub held_in : List ℕ → Held
held_in s = let head = head_of s in
    record { head = head; blocks_at = blocks_at; restraint_at = third_at s; readings_at = readings_at s; count = blocks head; set = set_of s; sum = sum_of s }
