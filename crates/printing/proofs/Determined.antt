-- Any two outcomes that keep the promise of a public function are identical: the answer and what each lent buffer holds at the end. `Post` is the
-- contract itself, as the check reads it from the source: where a clause of it is dropped or weakened, the theorem fails. Assumes nothing.
-- (tools/determined.py writes this file.)
use mathlib.Core.Path.{◌≡◌, sym, ◌∙◌}
use contract.Lifetimes.{Lfts}
use borrow.Fn.World.{ArgsD, ResD}
use borrow.Fn.Kinds.{ended_of}
use denote.Triple.Clauses.{AtExit}
use Rattle.algebra.proofs.Writing.{wrote_determines}
use Rattle.printing.specs.contracts.columns.put_spaces as put-spaces
use Rattle.printing.proofs.columns.put_spaces.Kinds as put-spaces-kinds
use Rattle.printing.proofs.columns.put_spaces.Reads as put-spaces-reads
use Rattle.printing.specs.contracts.columns.put_decimals as put-decimals
use Rattle.printing.proofs.columns.put_decimals.Kinds as put-decimals-kinds
use Rattle.printing.proofs.columns.put_decimals.Reads as put-decimals-reads
use Rattle.printing.specs.contracts.columns.put_counts as put-counts
use Rattle.printing.proofs.columns.put_counts.Kinds as put-counts-kinds
use Rattle.printing.proofs.columns.put_counts.Reads as put-counts-reads
use Rattle.printing.specs.contracts.decimals.put_digits as put-digits
use Rattle.printing.proofs.decimals.put_digits.Kinds as put-digits-kinds
use Rattle.printing.proofs.decimals.put_digits.Reads as put-digits-reads
use Rattle.printing.specs.contracts.decimals.put_number as put-number
use Rattle.printing.proofs.decimals.put_number.Kinds as put-number-kinds
use Rattle.printing.proofs.decimals.put_number.Reads as put-number-reads
use Rattle.printing.specs.contracts.decimals.put_signed as put-signed
use Rattle.printing.proofs.decimals.put_signed.Kinds as put-signed-kinds
use Rattle.printing.proofs.decimals.put_signed.Reads as put-signed-reads
use Rattle.printing.specs.contracts.decimals.put_wide as put-wide
use Rattle.printing.proofs.decimals.put_wide.Kinds as put-wide-kinds
use Rattle.printing.proofs.decimals.put_wide.Reads as put-wide-reads
use Rattle.printing.specs.contracts.put_byte as put-byte
use Rattle.printing.proofs.put_byte.Kinds as put-byte-kinds
use Rattle.printing.proofs.put_byte.Reads as put-byte-reads
use Rattle.printing.specs.contracts.put_text as put-text
use Rattle.printing.proofs.put_text.Kinds as put-text-kinds
use Rattle.printing.proofs.put_text.Reads as put-text-reads
use Rattle.printing.specs.contracts.names.put_hex as put-hex
use Rattle.printing.proofs.names.put_hex.Kinds as put-hex-kinds
use Rattle.printing.proofs.names.put_hex.Reads as put-hex-reads
use Rattle.printing.specs.contracts.names.put_escaped as put-escaped
use Rattle.printing.proofs.names.put_escaped.Kinds as put-escaped-kinds
use Rattle.printing.proofs.names.put_escaped.Reads as put-escaped-reads
use Rattle.printing.specs.contracts.names.put_name as put-name
use Rattle.printing.proofs.names.put_name.Kinds as put-name-kinds
use Rattle.printing.proofs.names.put_name.Reads as put-name-reads
use Rattle.printing.specs.contracts.octets.put_bytes as put-bytes
use Rattle.printing.proofs.octets.put_bytes.Kinds as put-bytes-kinds
use Rattle.printing.proofs.octets.put_bytes.Reads as put-bytes-reads
use Rattle.printing.specs.contracts.octets.bits as bits
use Rattle.printing.proofs.octets.bits.Kinds as bits-kinds
use Rattle.printing.proofs.octets.bits.Reads as bits-reads

-- `put_spaces`: `out`, the place
module _ (κs : Lfts 1) (a : ArgsD put-spaces.signature κs) (r q : ResD put-spaces.signature κs)
    (s t : AtExit (ended_of 1 put-spaces-kinds.ps put-spaces-kinds.r) κs) where
  pub put_spaces_determined : put-spaces-reads.Post κs a r s → put-spaces-reads.Post κs a q t →
      (s.0.now ≡ t.0.now)
      × (r ≡ q)
  put_spaces_determined p e = wrote_determines p e

-- `put_decimals`: `out`, the place
module _ (κs : Lfts 1) (a : ArgsD put-decimals.signature κs) (r q : ResD put-decimals.signature κs)
    (s t : AtExit (ended_of 1 put-decimals-kinds.ps put-decimals-kinds.r) κs) where
  pub put_decimals_determined : put-decimals-reads.Post κs a r s → put-decimals-reads.Post κs a q t →
      (s.0.now ≡ t.0.now)
      × (r ≡ q)
  put_decimals_determined p e = wrote_determines p e

-- `put_counts`: `out`, the place
module _ (κs : Lfts 1) (a : ArgsD put-counts.signature κs) (r q : ResD put-counts.signature κs)
    (s t : AtExit (ended_of 1 put-counts-kinds.ps put-counts-kinds.r) κs) where
  pub put_counts_determined : put-counts-reads.Post κs a r s → put-counts-reads.Post κs a q t →
      (s.0.now ≡ t.0.now)
      × (r ≡ q)
  put_counts_determined p e = wrote_determines p e

-- `put_digits`: `out`, the place
module _ (κs : Lfts 1) (a : ArgsD put-digits.signature κs) (r q : ResD put-digits.signature κs)
    (s t : AtExit (ended_of 1 put-digits-kinds.ps put-digits-kinds.r) κs) where
  pub put_digits_determined : put-digits-reads.Post κs a r s → put-digits-reads.Post κs a q t →
      (s.0.now ≡ t.0.now)
      × (r ≡ q)
  put_digits_determined p e = wrote_determines p e

-- `put_number`: `out`, the place
module _ (κs : Lfts 1) (a : ArgsD put-number.signature κs) (r q : ResD put-number.signature κs)
    (s t : AtExit (ended_of 1 put-number-kinds.ps put-number-kinds.r) κs) where
  pub put_number_determined : put-number-reads.Post κs a r s → put-number-reads.Post κs a q t →
      (s.0.now ≡ t.0.now)
      × (r ≡ q)
  put_number_determined p e = wrote_determines p e

-- `put_signed`: `out`, the place
module _ (κs : Lfts 1) (a : ArgsD put-signed.signature κs) (r q : ResD put-signed.signature κs)
    (s t : AtExit (ended_of 1 put-signed-kinds.ps put-signed-kinds.r) κs) where
  pub put_signed_determined : put-signed-reads.Post κs a r s → put-signed-reads.Post κs a q t →
      (s.0.now ≡ t.0.now)
      × (r ≡ q)
  put_signed_determined p e = wrote_determines p e

-- `put_wide`: `out`, the place
module _ (κs : Lfts 1) (a : ArgsD put-wide.signature κs) (r q : ResD put-wide.signature κs)
    (s t : AtExit (ended_of 1 put-wide-kinds.ps put-wide-kinds.r) κs) where
  pub put_wide_determined : put-wide-reads.Post κs a r s → put-wide-reads.Post κs a q t →
      (s.0.now ≡ t.0.now)
      × (r ≡ q)
  put_wide_determined p e = wrote_determines p e

-- `put_byte`: `out`, the place
module _ (κs : Lfts 1) (a : ArgsD put-byte.signature κs) (r q : ResD put-byte.signature κs)
    (s t : AtExit (ended_of 1 put-byte-kinds.ps put-byte-kinds.r) κs) where
  pub put_byte_determined : put-byte-reads.Post κs a r s → put-byte-reads.Post κs a q t →
      (s.0.now ≡ t.0.now)
      × (r ≡ q)
  put_byte_determined p e = wrote_determines p e

-- `put_text`: `out`, the place
module _ (κs : Lfts 2) (a : ArgsD put-text.signature κs) (r q : ResD put-text.signature κs)
    (s t : AtExit (ended_of 2 put-text-kinds.ps put-text-kinds.r) κs) where
  pub put_text_determined : put-text-reads.Post κs a r s → put-text-reads.Post κs a q t →
      (s.0.now ≡ t.0.now)
      × (r ≡ q)
  put_text_determined p e = wrote_determines p e

-- `put_hex`: `out`, the place
module _ (κs : Lfts 1) (a : ArgsD put-hex.signature κs) (r q : ResD put-hex.signature κs)
    (s t : AtExit (ended_of 1 put-hex-kinds.ps put-hex-kinds.r) κs) where
  pub put_hex_determined : put-hex-reads.Post κs a r s → put-hex-reads.Post κs a q t →
      (s.0.now ≡ t.0.now)
      × (r ≡ q)
  put_hex_determined p e = wrote_determines p e

-- `put_escaped`: `out`, the place
module _ (κs : Lfts 2) (a : ArgsD put-escaped.signature κs) (r q : ResD put-escaped.signature κs)
    (s t : AtExit (ended_of 2 put-escaped-kinds.ps put-escaped-kinds.r) κs) where
  pub put_escaped_determined : put-escaped-reads.Post κs a r s → put-escaped-reads.Post κs a q t →
      (s.0.now ≡ t.0.now)
      × (r ≡ q)
  put_escaped_determined p e = wrote_determines p e

-- `put_name`: `out`, the place
module _ (κs : Lfts 2) (a : ArgsD put-name.signature κs) (r q : ResD put-name.signature κs)
    (s t : AtExit (ended_of 2 put-name-kinds.ps put-name-kinds.r) κs) where
  pub put_name_determined : put-name-reads.Post κs a r s → put-name-reads.Post κs a q t →
      (s.0.now ≡ t.0.now)
      × (r ≡ q)
  put_name_determined p e = wrote_determines p e

-- `put_bytes`: `out`, the place
module _ (κs : Lfts 1) (a : ArgsD put-bytes.signature κs) (r q : ResD put-bytes.signature κs)
    (s t : AtExit (ended_of 1 put-bytes-kinds.ps put-bytes-kinds.r) κs) where
  pub put_bytes_determined : put-bytes-reads.Post κs a r s → put-bytes-reads.Post κs a q t →
      (s.0.now ≡ t.0.now)
      × (r ≡ q)
  put_bytes_determined p e = wrote_determines p e

-- `bits`: the answer
module _ (κs : Lfts 0) (a : ArgsD bits.signature κs) (r q : ResD bits.signature κs)
    (s t : AtExit (ended_of 0 bits-kinds.ps bits-kinds.r) κs) where
  pub bits_determined : bits-reads.Post κs a r s → bits-reads.Post κs a q t →
      r ≡ q
  bits_determined p e = p ∙ sym e
