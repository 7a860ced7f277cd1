-- What a writer returns, from what the size under its options returned.
use Rattle.wkb_write.specs.Prelude.{TellsFault, Geometry, IsGeometry, fault, IsForm, encoding_of, IsSized, Reports}
use Rattle.wkb_write.proofs.Prelude.{ℕ, length, Option, Result, IsErrAnd, WkbError, none_first, none_both, WriteOptions}
use Rattle.wkb_write.proofs.Prelude.{◌≡◌, ◌<◌, ◌^◌, Bool, List, None, Ok, Err, subst, ◌⊎◌, Form, [], arith, refl, Fault}
use Rattle.std.proofs.Common.{rules, IfErr, IfOk}
use Rattle.wkb_geom.specs.declared.common.Endianness.TheVariants.{LittleEndian}
use Rattle.wkb_laws.proofs.Rewritings.{encoding_spells_lem}
use Rattle.wkb_write.proofs.Sizes.{measured_length, size_without_fault}
use Rattle.wkb_write.proofs.Whole.{header_within}
use Rattle.std.specs.declared.io.Error.{Error}
use Rattle.std.specs.Io.KnownBytes.{Appends}
use Rattle.wkb_sink.specs.Sinks.{IsBegun, IsOwnError, Puts, PutsOrStops, TellsFailure}
use Rattle.wkb_write.specs.Answers.{fault_of, IsSpelledAs, OutgrowsSlice, TellsPut, Writes}

-- where there is a size there is no fault
pub no_fault : (form : Form) (g : Geometry) (r : Result ℕ Fault) → IsSized form g r → IfOk r (λ n. fault g ≡ None)
no_fault form g (Ok n) size = none_first (fault g) _ (size LittleEndian).0
no_fault form g (Err e) size = tt

-- an encoding has some bytes
pub some_bytes : (form : Form) (g : Geometry) (r : Result ℕ Fault) → IsForm form → IsGeometry g → IsSized form g r
    → IfOk r (λ n. 0 < n)
some_bytes form g (Ok n) fits lawful size =
    let long = measured_length LittleEndian form g fits lawful (none_first (fault g) _ (size LittleEndian).0) in
    omega (arith, (size LittleEndian).1, long, header_within g)
some_bytes form g (Err e) fits lawful size = tt

-- the encoding that was put spells the normal value
spelled_as : (o : WriteOptions) (g : Geometry) (r : Result (Unit {0}) WkbError) (old new : Option (List ℕ))
    (failed : Bool) → fault g ≡ None → IsGeometry g → IsForm o.form → Puts old new failed (encoding_of o g) r
    → IsSpelledAs o g r old new
spelled_as o g (Ok u) old new failed none lawful fits puts =
    let s = encoding_spells_lem o.endianness o.form g fits lawful none in
    record { encoding = encoding_of o g; spelling = s.0; spelled = s.1; options_kept = s.2; appended = puts.0.appended }
spelled_as o g (Err e) old new failed none lawful fits puts = tt

-- bytes that are in memory are not rejected for their length
pub encoding_fits : (o : WriteOptions) (g : Geometry) (bytes : List ℕ) → bytes ≡ encoding_of o g → fault g ≡ None
    → length bytes < 2 ^ 64 → fault_of o g ≡ None
encoding_fits o g bytes is none fits = grind (arith, none_both, fault, size_without_fault, encoding_of)

-- for bytes that are in memory only room can be lacking
pub encoding_outgrows : (o : WriteOptions) (g : Geometry) (bytes old : List ℕ) (r : Result ℕ WkbError)
    → bytes ≡ encoding_of o g → fault_of o g ≡ None → IfErr r (λ _. length old < length bytes)
    → IfErr r (λ e. TellsFailure e None) → IfErr r (λ e. Reports e (fault_of o g) ⊎ OutgrowsSlice o g old e)
encoding_outgrows o g bytes old r is none short taken = grind arith

-- what was put after nothing was appended
pub puts_behind : (old mid new : Option (List ℕ)) (failed : Bool) (fails_by : Option Error → Type 0) (t : List ℕ)
    (put : Result (Unit {0}) (Option Error)) → Appends old mid [] → PutsOrStops mid new failed fails_by t put
    → PutsOrStops old new failed fails_by t put
puts_behind old mid new failed fails_by t put kept p = search rules

-- nothing was put of some bytes
pub puts_nothing : {old new : Option (List ℕ)} {t : List ℕ} → Appends old new [] → 0 < length t → IsBegun old new t
puts_nothing {t = t} kept some = record { front = []; rest = t; whole = refl; left = some; appended = kept }

pub ruleset put_laws = (puts_behind, puts_nothing)

-- what a writer returns of what was put
returned : (old new : Option (List ℕ)) (failed : Bool) (fails_by : Option Error → Type 0) (bytes : List ℕ)
    (put : Result (Unit {0}) (Option Error)) (r : Result (Unit {0}) WkbError)
    → PutsOrStops old new failed fails_by bytes put
    → TellsPut put r → Puts old new failed bytes r × IfErr r (IsOwnError fails_by)
returned old new failed fails_by bytes put r puts is = grind arith

module _ {o : WriteOptions} {g : Geometry} {untouched : Type 0} {old new : Option (List ℕ)} {failed : Bool}
    {fails_by : Option Error → Type 0} where
  -- what has a fault is rejected, and nothing is put
  pub refusal_writes : {f : Fault} {r : Result (Unit {0}) WkbError} → IsSized o.form g (Err f)
      → IsErrAnd r (λ e. TellsFault e f) → untouched → Writes o g r untouched old new failed fails_by
  refusal_writes {r = Ok u} size tells kept = absurd tells
  refusal_writes {f = f} {r = Err e} size tells kept = grind arith

  -- what was put of a geometry that isn't rejected was written
  pub put_writes : {r : Result (Unit {0}) WkbError} (put : Result (Unit {0}) (Option Error)) → fault_of o g ≡ None
      → IsGeometry g → IsForm o.form → PutsOrStops old new failed fails_by (encoding_of o g) put → TellsPut put r
      → Writes o g r untouched old new failed fails_by
  put_writes {r} put none lawful fits puts is = grind (arith, returned, encoding_of, spelled_as, none_first)

  -- what is promised of a geometry is promised of an equal one
  pub writes_same : {h : Geometry} {r : Result (Unit {0}) WkbError} → h ≡ g
      → Writes o h r untouched old new failed fails_by → Writes o g r untouched old new failed fails_by
  writes_same {r = r} same writes = subst (λ t. Writes o t r untouched old new failed fails_by) same writes
