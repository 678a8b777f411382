-- Any two outcomes that keep the promise of a public function are identical: the answer and what each lent buffer holds at the end. `Post` is the
-- contract itself, as the check reads it from the source: where a clause of it is dropped or weakened, the theorem fails. Assumes nothing.
-- (tools/determined.py writes this file.)
use mathlib.Core.Path.{◌≡◌, sym, ◌∙◌}
use contract.Lifetimes.{Lfts}
use borrow.Fn.World.{ArgsD, ResD}
use borrow.Fn.Kinds.{ended_of}
use denote.Triple.Clauses.{AtExit}
use Rattle.algebra.proofs.Writing.{wrote_determines}
use Rattle.listing.specs.contracts.certified.certificate as certificate
use Rattle.listing.proofs.certified.certificate.Kinds as certificate-kinds
use Rattle.listing.proofs.certified.certificate.Reads as certificate-reads
use Rattle.listing.specs.contracts.certified.certificate_second as certificate-second
use Rattle.listing.proofs.certified.certificate_second.Kinds as certificate-second-kinds
use Rattle.listing.proofs.certified.certificate_second.Reads as certificate-second-reads
use Rattle.listing.specs.contracts.lines.put_refused as put-refused
use Rattle.listing.proofs.lines.put_refused.Kinds as put-refused-kinds
use Rattle.listing.proofs.lines.put_refused.Reads as put-refused-reads
use Rattle.listing.specs.contracts.second.listing_second as listing-second
use Rattle.listing.proofs.second.listing_second.Kinds as listing-second-kinds
use Rattle.listing.proofs.second.listing_second.Reads as listing-second-reads
use Rattle.listing.specs.contracts.whole.listing as listing
use Rattle.listing.proofs.whole.listing.Kinds as listing-kinds
use Rattle.listing.proofs.whole.listing.Reads as listing-reads

-- `certificate`: the answer, `out`
module _ (κs : Lfts 2) (a : ArgsD certificate.signature κs) (r q : ResD certificate.signature κs)
    (s t : AtExit (ended_of 2 certificate-kinds.ps certificate-kinds.r) κs) where
  pub certificate_determined : certificate-reads.Post κs a r s → certificate-reads.Post κs a q t →
      (r ≡ q)
      × (s.1.0.now ≡ t.1.0.now)
  certificate_determined p e = (p.0 ∙ sym e.0, p.1 ∙ sym e.1)

-- `certificate_second`: the answer, `out`
module _ (κs : Lfts 2) (a : ArgsD certificate-second.signature κs) (r q : ResD certificate-second.signature κs)
    (s t : AtExit (ended_of 2 certificate-second-kinds.ps certificate-second-kinds.r) κs) where
  pub certificate_second_determined : certificate-second-reads.Post κs a r s → certificate-second-reads.Post κs a q t →
      (r ≡ q)
      × (s.1.0.now ≡ t.1.0.now)
  certificate_second_determined p e = (p.0 ∙ sym e.0, p.1 ∙ sym e.1)

-- `put_refused`: `out`, the place
module _ (κs : Lfts 1) (a : ArgsD put-refused.signature κs) (r q : ResD put-refused.signature κs)
    (s t : AtExit (ended_of 1 put-refused-kinds.ps put-refused-kinds.r) κs) where
  pub put_refused_determined : put-refused-reads.Post κs a r s → put-refused-reads.Post κs a q t →
      (s.0.now ≡ t.0.now)
      × (r ≡ q)
  put_refused_determined p e = wrote_determines p e

-- `listing_second`: the answer, `out`
module _ (κs : Lfts 2) (a : ArgsD listing-second.signature κs) (r q : ResD listing-second.signature κs)
    (s t : AtExit (ended_of 2 listing-second-kinds.ps listing-second-kinds.r) κs) where
  pub listing_second_determined : listing-second-reads.Post κs a r s → listing-second-reads.Post κs a q t →
      (r ≡ q)
      × (s.1.0.now ≡ t.1.0.now)
  listing_second_determined p e = (p.0 ∙ sym e.0, p.1 ∙ sym e.1)

-- `listing`: the answer, `out`
module _ (κs : Lfts 2) (a : ArgsD listing.signature κs) (r q : ResD listing.signature κs)
    (s t : AtExit (ended_of 2 listing-kinds.ps listing-kinds.r) κs) where
  pub listing_determined : listing-reads.Post κs a r s → listing-reads.Post κs a q t →
      (r ≡ q)
      × (s.1.0.now ≡ t.1.0.now)
  listing_determined p e = (p.0 ∙ sym e.0, p.1 ∙ sym e.1)
