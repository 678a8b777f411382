-- The sizes of an accepted file fit, so that there are at most 50 objects.
use Rattle.std.proofs.Common.{ap, ◌∙◌, arith, Bool, cond, ℕ, ◌*◌}
use Rattle.records.specs.declared.Head.{Head}
use Rattle.records.specs.declared.Held.{Held}
use Rattle.meaning.specs.Design.{objects, sized}
use Rattle.meaning.specs.File.{head_of}
use Rattle.laws.proofs.Chains.{fits}
use Rattle.laws.proofs.Files.{filed}
use Rattle.job.proofs.second.names_length.Goals as goal

pub overflow_mul-result : goal.overflow_mul-result
overflow_mul-result c =
    let size = (filed _ c.requires).size in
    omega (
      arith,
      c.objects.ensures ∙ ap (λ (h : Head). cond (sized h) (objects h) 0) (ap (λ (k : Held). k.head) c.held-held.ensures)
          ∙ ap (λ (b : Bool). cond b (objects (head_of c.args.four.now)) 0) size,
      (fits _ size).objects-most,
    )

pub returns : goal.returns
returns c =
    ap (λ (n : ℕ). 8 * n) (c.objects.ensures ∙ ap (λ (h : Head). cond (sized h) (objects h) 0) (ap (λ (k : Held). k.head) c.held-held.ensures)
    ∙ ap (λ (b : Bool). cond b (objects (head_of c.args.four.now)) 0) (filed _ c.requires).size)
