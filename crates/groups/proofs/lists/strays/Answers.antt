-- `strays`: a byte that the part of its block before it contains stands there. Assumes nothing.
use Rattle.std.proofs.Common.{◌≡◌, ℕ, ◌-◌, ◌*◌, ◌%◌, ◌<◌, take, drop, ltb, get_or, arith}
use native.Mathlib.Nat.{mod-le}
use borrow.Author.Tests.{lt-ltb}
use Rattle.meaning.specs.Design.{occ}
use Rattle.groups.proofs.lists.strays.Goals as goal

pub returns-else-from-v : goal.returns-else-from-v
returns-else-from-v c =
    let a = c.args in
    let byte : ℕ = get_or a.blocks.now a.i 0 in
    let back : a.i - (a.i - a.i % (2 * a.p)) ≡ a.i % (2 * a.p) = omega (arith, mod-le a.i (2 * a.p)) in
    let small : byte < a.v = omega (arith, c.from.ensures) in
    let h : c.stands_among.result ≡ ltb 0 (occ byte (take (a.i - (a.i - a.i % (2 * a.p))) (drop (a.i - a.i % (2 * a.p)) a.blocks.now))) = c.stands_among.ensures in
    rw (lt-ltb _ _ small) (rw back at h)
