-- How large the numbers of a card get on the way, so that no step leaves its type. Assumes nothing.
use Rattle.std.specs.Prelude.{ℕ, ◌+◌, ◌*◌, ◌≤◌, cond, eqb, leb}
use Rattle.records.specs.declared.Card.{Card}

-- far from the end of every type
pub record Small (c : Card) : Type 0 where
  pub n : c.head.n ≤ 255
  pub flag : c.head.flag ≤ 3
  pub p : c.head.p ≤ 255
  pub m : c.head.m ≤ 255
  pub count : c.count ≤ 4294967296
  pub readings : c.readings ≤ 4294967296
  pub length : c.length ≤ 4294967296

-- the numbers of a card after at most k words: each of its head is a byte, one block less while a block goes on, and a tag is one too; what a word counts it counts
-- once
pub record Measured (k : ℕ) (c : Card) : Type 0 where
  pub some : 1 ≤ c.wants
  pub last : c.wants ≤ cond c.bad 22 21
  pub n : c.head.n ≤ 255
  pub flag : c.head.flag + cond (leb c.wants 4) 1 0 ≤ 3
  pub p : c.head.p ≤ 255
  pub m : c.head.m + cond (leb c.wants 10) 1 0 ≤ 255
  pub count : c.count ≤ 255 + cond (eqb c.wants 21) 0 k
  pub readings : c.readings ≤ k

-- the card of the words before place k: they give at most 16 bytes for each of theirs
pub record Kept (k : ℕ) (c : Card) : Type 0 where
  pub sizes : Measured k c
  pub length : c.length ≤ 16 * k
