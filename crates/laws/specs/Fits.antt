-- The sizes of the request as facts: what a private function asks of a head. Assumes nothing.
use Rattle.std.specs.Prelude.{◌*◌, ◌≤◌, true, ◌≡◌}
use Rattle.records.specs.declared.Head.{Head}
use Rattle.meaning.specs.Design.{has_addition, objects, blocks}

-- every size of the head is in the range of the request
pub record Fits (h : Head) : Type 0 where
  pub n_least : 3 ≤ h.n
  pub n_most : h.n ≤ 50
  pub flag-most : h.flag ≤ 3
  pub has_addition_lem : has_addition h ≡ true
  pub objects-most : objects h ≤ 50
  pub p_least : 1 ≤ h.p
  pub sides-fit : 2 * h.p ≤ objects h
  pub m_least : 1 ≤ h.m
  pub m_most : h.m ≤ 64
  pub blocks-most : blocks h ≤ 1300
