-- The length of an encoding, from what was measured.
use Rattle.wkb_write.specs.Prelude.{Geometry, IsGeometry, fault, IsForm, bytes_behind_header, TellsFault, encoding_of}
use Rattle.wkb_write.specs.Prelude.{IsSized, size_by_parts, IsSizeOf}
use Rattle.wkb_write.proofs.Prelude.{◌≡◌, ℕ, ◌+◌, ◌<◌, ◌≤◌, ◌^◌, ◌∙◌, length, None, Result, Ok, Err, sym, arith}
use Rattle.wkb_write.proofs.Prelude.{IsErrAnd, nat_tests, Endianness, Form, Fault, byte_size, encoding, Measures}
use Rattle.wkb_write.proofs.Prelude.{none_both, WkbError, no_room, Advances, IsShort, Progress, Stopped, WriteOptions}
use Rattle.std.specs.Prelude.{is_some}
use Rattle.std.proofs.lemmas.Result.{err_from_is_err_and}
use Rattle.wkb_laws.specs.Prelude.{srid_size, size_fault, form_srid}
use Rattle.wkb_write.proofs.Faults.{reports_first, reports_rest}
use Rattle.wkb_write.proofs.Whole.{header_within, size_of_parts}
use Rattle.wkb_laws.proofs.EncodingSizes.{encoding_has_size_lem}
use Rattle.wkb_laws.proofs.Lengths.{srid_size_is}
use Rattle.wkb_write.specs.Measures.{IsMeasured}
use Rattle.wkb_sink.proofs.Laid.{exits}
use Rattle.wkb_sink.specs.Options.{header_size}
use Rattle.wkb_geom.specs.declared.error.Fault.TheVariants as found

pub size_without_fault : (n : ℕ) → n < 2 ^ 64 → size_fault n ≡ None
unfolding size_fault
size_without_fault n h = grind (arith, nat_tests)

-- the encoding of a geometry without a fault is as long as measured, and four bytes longer where it has an SRID
pub measured_length : (order : Endianness) (form : Form) (g : Geometry) → IsForm form → IsGeometry g → fault g ≡ None
    → length (encoding order form g) ≡ byte_size g + srid_size (is_some (form_srid form))
measured_length order form g fits lawful none = grind (arith, encoding_has_size_lem, byte_size, srid_size_is)

-- what the exit of a `?` returns where there was no room for the header and what is behind it
pub no_room_for : {a b : Progress} {n : ℕ} (options : WriteOptions) (g : Geometry) (e : Stopped)
    (r : Result (Unit {0}) Stopped) → IsErrAnd r (λ y. y ≡ e) → IsShort a b n → IsForm options.form → IsGeometry g
    → fault g ≡ None → n ≤ header_size options.form + size_by_parts g → Advances a b (encoding_of options g) r
no_room_for options g e r is short fits lawful none many =
    let long = measured_length options.endianness options.form g fits lawful none in
    exits e r is (no_room _ short (omega (arith, many, long, size_of_parts g none)))

-- a fault is what the size rejects
pub size_refused : {read given : Result ℕ Fault} (e : Fault) (form : Form) (g : Geometry) (r : Result ℕ Fault)
    → IsErrAnd r (λ y. y ≡ e) → IsMeasured g given → read ≡ given → read ≡ Err e → IsSized form g r
unfolding IsMeasured
size_refused e form g r exit measured same was = grind (arith, err_from_is_err_and, reports_first, fault)

-- the size that was measured, with that of the header, is that of the encoding, or past `usize`
module _ {s : ℕ} {read given : Result ℕ Fault} (form : Form) (g : Geometry) (srid_fits : IsForm form)
    (lawful : IsGeometry g) (measured : IsMeasured g given) (same : read ≡ given) (was : read ≡ Ok s) where
  m : Measures (fault g) (bytes_behind_header g) (Ok s)
  unfolding IsMeasured
  m = rw (sym same ∙ was) at measured

  pub size_measured : (total : ℕ) → total ≡ s + header_size form → total < 2 ^ 64 → IsSized form g (Ok total)
  size_measured total sum fits =
      grind (arith, measured_length, m, encoding, header_within, none_both, fault, size_without_fault)

  pub size_past : 2 ^ 64 ≤ s + header_size form → IsSized form g (Err found.Size)
  unfolding size_fault
  size_past past = grind (arith, measured_length, m, reports_rest, fault, header_within, nat_tests)

pub ruleset size_laws = (size_refused, size_past)

-- the error reports the fault that was found
pub size_answered : (form : Form) (g : Geometry) (f : Fault) (r : Result ℕ WkbError) → IsErrAnd r (λ e. TellsFault e f)
    → IsSized form g (Err f) → IsSizeOf form g r
size_answered form g f r tells size = grind arith
