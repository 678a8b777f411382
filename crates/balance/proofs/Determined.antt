-- Any two outcomes that keep the promise of a public function are identical: the answer and what each lent buffer holds at the end. `Post` is the
-- contract itself, as the check reads it from the source: where a clause of it is dropped or weakened, the theorem fails. Assumes nothing.
-- (tools/determined.py writes this file.)
use mathlib.Core.Path.{◌≡◌, sym, ◌∙◌}
use contract.Lifetimes.{Lfts}
use borrow.Fn.World.{ArgsD, ResD}
use borrow.Fn.Kinds.{ended_of}
use denote.Triple.Clauses.{AtExit}
use Rattle.balance.specs.contracts.counting.count_company as count-company
use Rattle.balance.proofs.counting.count_company.Kinds as count-company-kinds
use Rattle.balance.proofs.counting.count_company.Reads as count-company-reads
use Rattle.balance.specs.contracts.counting.count_opposition as count-opposition
use Rattle.balance.proofs.counting.count_opposition.Kinds as count-opposition-kinds
use Rattle.balance.proofs.counting.count_opposition.Reads as count-opposition-reads
use Rattle.balance.specs.contracts.differences.judge_by_differences as judge-by-differences
use Rattle.balance.proofs.differences.judge_by_differences.Kinds as judge-by-differences-kinds
use Rattle.balance.proofs.differences.judge_by_differences.Reads as judge-by-differences-reads
use Rattle.balance.specs.contracts.tables.company as company
use Rattle.balance.proofs.tables.company.Kinds as company-kinds
use Rattle.balance.proofs.tables.company.Reads as company-reads
use Rattle.balance.specs.contracts.tables.opposition as opposition
use Rattle.balance.proofs.tables.opposition.Kinds as opposition-kinds
use Rattle.balance.proofs.tables.opposition.Reads as opposition-reads
use Rattle.balance.specs.contracts.verdict.judge as judge
use Rattle.balance.proofs.verdict.judge.Kinds as judge-kinds
use Rattle.balance.proofs.verdict.judge.Reads as judge-reads

-- `count_company`: the answer
module _ (κs : Lfts 1) (a : ArgsD count-company.signature κs) (r q : ResD count-company.signature κs)
    (s t : AtExit (ended_of 1 count-company-kinds.ps count-company-kinds.r) κs) where
  pub count_company_determined : count-company-reads.Post κs a r s → count-company-reads.Post κs a q t →
      r ≡ q
  count_company_determined p e = p ∙ sym e

-- `count_opposition`: the answer
module _ (κs : Lfts 1) (a : ArgsD count-opposition.signature κs) (r q : ResD count-opposition.signature κs)
    (s t : AtExit (ended_of 1 count-opposition-kinds.ps count-opposition-kinds.r) κs) where
  pub count_opposition_determined : count-opposition-reads.Post κs a r s → count-opposition-reads.Post κs a q t →
      r ≡ q
  count_opposition_determined p e = p ∙ sym e

-- `judge_by_differences`: the answer
module _ (κs : Lfts 1) (a : ArgsD judge-by-differences.signature κs) (r q : ResD judge-by-differences.signature κs)
    (s t : AtExit (ended_of 1 judge-by-differences-kinds.ps judge-by-differences-kinds.r) κs) where
  pub judge_by_differences_determined : judge-by-differences-reads.Post κs a r s → judge-by-differences-reads.Post κs a q t →
      r ≡ q
  judge_by_differences_determined p e = p ∙ sym e

-- `company`: the answer
module _ (κs : Lfts 1) (a : ArgsD company.signature κs) (r q : ResD company.signature κs)
    (s t : AtExit (ended_of 1 company-kinds.ps company-kinds.r) κs) where
  pub company_determined : company-reads.Post κs a r s → company-reads.Post κs a q t →
      r ≡ q
  company_determined p e = p ∙ sym e

-- `opposition`: the answer
module _ (κs : Lfts 1) (a : ArgsD opposition.signature κs) (r q : ResD opposition.signature κs)
    (s t : AtExit (ended_of 1 opposition-kinds.ps opposition-kinds.r) κs) where
  pub opposition_determined : opposition-reads.Post κs a r s → opposition-reads.Post κs a q t →
      r ≡ q
  opposition_determined p e = p ∙ sym e

-- `judge`: the answer
module _ (κs : Lfts 1) (a : ArgsD judge.signature κs) (r q : ResD judge.signature κs)
    (s t : AtExit (ended_of 1 judge-kinds.ps judge-kinds.r) κs) where
  pub judge_determined : judge-reads.Post κs a r s → judge-reads.Post κs a q t →
      r ≡ q
  judge_determined p e = p ∙ sym e
