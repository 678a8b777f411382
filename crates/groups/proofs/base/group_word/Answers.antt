-- `group_word`: the sum of the objects before i fills the places below gi, so that the members of object i are added to none.
use Rattle.std.proofs.Common.{◌≡◌, ℕ, ◌+◌, ◌-◌, ◌*◌, ◌%◌, ◌^◌, ◌≤◌, ◌<◌, sym, ap, ap₂, ◌∙◌, arith}
use Rattle.meaning.specs.Analysis.{member}
use Rattle.groups.specs.Words.{members_at, word_in_members}
use Rattle.groups.proofs.lists.Words.{bit_of}
use Rattle.groups.proofs.base.Members.{members-none, members-more, bits_most, shifted, small}
use Rattle.groups.proofs.base.group_word.Goals as goal

module _ (g v word i : ℕ) (few : g ≤ 50) (fits : g * v ≤ 50) (below : i < v) where
  -- what is added: the run, shifted to its place, where the word holds the object
  added : {h : ℕ} → h ≡ member word i →
      h * ((((1 * 2 ^ g) % 2 ^ 64 - 1) * 2 ^ (g * i)) % 2 ^ 64) ≡ member word i * members_at g i
  added e = ap₂ ◌*◌ e (ap (λ (z : ℕ). ((z - 1) * 2 ^ (g * i)) % 2 ^ 64) (bit_of g few) ∙ shifted g v i below fits)

  room : word_in_members g i word + member word i * members_at g i < 2 ^ 50
  room = omega (arith, bits_most g word i, small g v i below fits word)

pub loop-i-init : goal.loop-i-init
loop-i-init c = members-none c.args.g c.args.word

pub overflow_add-sum : goal.overflow_add-sum
overflow_add-sum c =
    let a = c.args in
    omega (
      arith,
      added a.g a.v a.word c.loop-i.i c.requires.0 c.requires.2 (omega arith) c.holds.ensures,
      room a.g a.v a.word c.loop-i.i c.requires.0 c.requires.2 (omega arith),
      c.loop-i.invariant,
    )

pub loop-i-preserved : goal.loop-i-preserved
loop-i-preserved c =
    let a = c.args in
    ap₂ ◌+◌ c.loop-i.invariant (added a.g a.v a.word c.loop-i.i c.requires.0 c.requires.2 (omega arith) c.holds.ensures)
    ∙ sym (members-more a.g a.word c.loop-i.i)
