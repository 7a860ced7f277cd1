-- Lemmas: what the clauses of several calls say together.
use Rattle.std.proofs.Common.{◌≡◌, ◌≤◌, ℕ, List, [], ◌++◌, Option, Some, None, Result, Ok, Err, Bool, true, false, ◌⊎◌}
use Rattle.std.proofs.Common.{IfOk, IfErr, MatchBool, Vec, Global, ◌∙◌, arith, append-nil, inl, inr, sym, subst}
use Rattle.std.specs.Io.KnownBytes.{Appends}
use Rattle.std.specs.declared.io.Error.{Error}
use Rattle.wkb.specs.Prelude.{WkbError, IsMemory, Endianness, Tells}
use Rattle.wkb.specs.Spellings.{Spelling, Front, max_nesting, HasOptions}
use Rattle.wkb.specs.Values.{nest}
use Rattle.wkb.specs.Geometries.{Geometry, IsGeometry, geometry_of, normal}
use Rattle.wkb.specs.Encodings.{Fault, IsForm, IsRewritingWithSrid, encoding_of, fault_of}
use Rattle.wkb.specs.Writes.{WriteOptions, Writes, IsEncodingOf, own_options}
use Rattle.wkb.specs.Reads.{Item, IsFront, IsOnlyFront, IsNotMemory, IsRefusal}
use Rattle.wkb.specs.Canonical.{HaveOneValue, HaveTwoValues, IsRewritingUnder, IsRefusedUnder, IsPairRefusal, IsSize}
use Rattle.wkb.specs.Checks.{Refused, IsRefusedFor}
use Rattle.wkb.specs.Known.{has_one_front, writable_is_read}
use Rattle.wkb_read.proofs.OwnBytes.{no_refusal, no_memory_reported}

-- ---- what a writer that returns Ok has appended, and what is read of it

-- Within the deepest nesting the bytes begin with a geometry in the options' order, with their SRID, of the value that
-- the geometry stands for. These bytes follow it.
abbrev pub IsReadBefore : List ℕ → WriteOptions → Geometry → List ℕ → Type 0
IsReadBefore rest options g bytes =
    nest (normal g) ≤ max_nesting
    → (s : Spelling) × Front bytes s (normal g) rest × HasOptions options.endianness options.form s

module _ {o : WriteOptions} {g : Geometry} {x : Unit {0}} {untouched : Type 0} {failed : Bool}
    {fails_by : Option Error → Type 0} where
  appended_by : {old new : Option (List ℕ)} (f : Option Fault) → fault_of o g ≡ f
      → Writes o g (Ok x) untouched old new failed fails_by → Appends old new (encoding_of o g)
  appended_by None is w = (w.written is).0.appended
  appended_by (Some f) is w = absurd ((w.refused f is).0)

  -- At Ok the encoding was appended.
  pub appended : {r : Result (Unit {0}) WkbError} {old new : Option (List ℕ)}
      → Writes o g r untouched old new failed fails_by → r ≡ Ok x → Appends old new (encoding_of o g)
  appended w is = grind (arith, appended_by)

  -- A sink that held nothing before the writer holds the encoding after it.
  pub encoding_alone : {r : Result (Unit {0}) WkbError} {old new : List ℕ} → old ≡ []
      → Writes o g r untouched (Some old) (Some new) failed fails_by → r ≡ Ok x → new ≡ encoding_of o g
  encoding_alone empty w is = let h = appended w is in grind arith

  -- Read again before any rest, it is the value that the geometry stands for.
  pub read_before : (rest : List ℕ) {r : Result (Unit {0}) WkbError} {old new : List ℕ} → old ≡ []
      → Writes o g r untouched (Some old) (Some new) failed fails_by → r ≡ Ok x → IsReadBefore rest o g (new ++ rest)
  read_before rest {old = old} {new = new} empty w is shallow = grind arith

  -- The encoding that a writer wrote into an empty sink is read again, with nothing after it.
  pub read_again : {r : Result (Unit {0}) WkbError} {old new : List ℕ} → old ≡ []
      → Writes o g r untouched (Some old) (Some new) failed fails_by → r ≡ Ok x → IsReadBefore [] o g new
  read_again {new = new} empty w is = let h = read_before [] empty w is in rw (append-nil new) at h

-- An encoding that other bytes follow is read before them.
pub encoding_is_read : (rest : List ℕ) (options : WriteOptions) (g : Geometry) (encoding bytes : List ℕ)
    → IsForm options.form → IsGeometry g → encoding ≡ encoding_of options g
    → fault_of options g ≡ None → bytes ≡ encoding ++ rest → IsReadBefore rest options g bytes
encoding_is_read rest options g encoding bytes fits lawful is fine whole shallow =
    rw (whole, is) (writable_is_read options.endianness options.form g rest fits lawful fine shallow)

-- What the reader returns of what a writer put into an empty sink has the value that the geometry stands for.
pub value_is_read : {options : WriteOptions} {g : Geometry} {r : Result (Unit {0}) WkbError} {x : Unit {0}}
    {untouched : Type 0} {old new input : List ℕ} {failed : Bool} {fails_by : Option Error → Type 0} {w : Item}
    → old ≡ [] → Writes options g r untouched (Some old) (Some new) failed fails_by → r ≡ Ok x
    → nest (normal g) ≤ max_nesting → input ≡ new → IsOnlyFront input w → normal g ≡ w.value
value_is_read {g = g} empty written is shallow same only =
    let read = read_again empty written is shallow in
    (only read.0 (normal g) [] (subst (λ b. Front b read.0 (normal g) []) (sym same) read.1)).2

-- ---- a refusal by its cause

-- What `check` and `bounds` say of a refusal is what the reader says, by an error that tells its cause.
pub refused_for : {buf : List ℕ} (r : Refused) (e : WkbError) → IsRefusedFor buf r → Tells e r.cause → IsRefusal buf e
refused_for r e h tells =
    record { cause = r.cause; turns = r.part; slots = h.slots; refuses = h.refuses; tells = tells }

-- `canonical` reports an allocation failure, or that the encoding is too long.
pub not_refused_under : {A : Type 0} (options : WriteOptions) {buf : List ℕ} {w : Item}
    (r : Result A WkbError) → IsFront buf w → IfErr r (λ e. IsMemory e ⊎ IsRefusedUnder options buf e)
    → IfErr r (λ e. IsMemory e ⊎ IsSize e)
not_refused_under options (Ok x) f err = tt
not_refused_under options (Err e) f (inl memory) = inl memory
not_refused_under options (Err e) f (inr (inl refusal)) = absurd (no_refusal f refusal)
not_refused_under options (Err e) f (inr (inr long)) = inr long.1

-- `same` of two geometries' bytes reports no error.
pub always_compared : {A : Type 0} {a b : List ℕ} {w v : Item} (r : Result A WkbError) → IsFront a w
    → IsFront b v → IfErr r (λ e. IsMemory e ⊎ IsPairRefusal a b e) → IfErr r IsNotMemory → IfErr r (λ _. ⊥)
always_compared (Ok x) f g err not = tt
always_compared (Err e) f g (inl memory) not = no_memory_reported e memory not
always_compared (Err e) f g (inr (inl refusal)) not = no_refusal f refusal
always_compared (Err e) f g (inr (inr second)) not = no_refusal g second.1

-- ---- what is written and compared is the geometry's value

-- `canonical` of a geometry's bytes is the encoding of its value.
pub own_encoding : (options : WriteOptions) {buf : List ℕ} {w : Item}
    (r : Result (Vec ℕ Global) WkbError) → IsFront buf w → IfOk r (λ out. IsRewritingUnder options buf out.items)
    → IsEncodingOf options (geometry_of w.value) r
own_encoding options (Err e) f ok = tt
own_encoding options {buf = buf} {w = w} (Ok out) f ok =
    grind (arith, has_one_front buf ok.s w.spelled ok.t w.value ok.rest f.rest ok.front f.front)

-- `canonical_with_srid` of a geometry's bytes is the encoding of its value with its own SRID.
pub own_encoding_with_srid : (order : Endianness) {buf : List ℕ} {w : Item}
    (r : Result (Vec ℕ Global) WkbError) → IsFront buf w → IfOk r (λ out. IsRewritingWithSrid order buf out.items)
    → IsEncodingOf (own_options order w) (geometry_of w.value) r
own_encoding_with_srid order (Err e) f ok = tt
own_encoding_with_srid order {buf = buf} {w = w} (Ok out) f ok =
    grind (arith, has_one_front buf ok.s w.spelled ok.t w.value ok.rest f.rest ok.front f.front)

-- `same` returns whether two geometries have equal values.
pub values_compared : (equal : Bool) {a b : List ℕ} {w v : Item} → IsFront a w → IsFront b v
    → MatchBool equal (HaveOneValue a b) (HaveTwoValues a b)
    → MatchBool equal (w.value ≡ v.value) (w.value ≡ v.value → ⊥)
values_compared true {a = a} {b = b} {w = w} {v = v} f g h =
    (has_one_front a w.spelled h.s w.value h.t f.rest h.rest f.front h.first).2
    ∙ (has_one_front b h.u v.spelled h.t v.value h.more g.rest h.second g.front).2
values_compared false {a = a} {b = b} {w = w} {v = v} f g h = λ is.
    h.different ((has_one_front a h.s w.spelled h.t w.value h.rest f.rest h.first f.front).2 ∙ is
    ∙ (has_one_front b v.spelled h.u v.value h.v g.rest h.more g.front h.second).2)
