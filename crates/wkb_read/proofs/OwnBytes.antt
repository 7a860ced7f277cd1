-- What the reader returns for bytes that begin with a geometry, and what its refusals say of other bytes.
use Rattle.wkb_view.proofs.Fronts.{memory_left, one_geometry}
use Rattle.wkb_view.proofs.Places.{unlisted, among_members, one_of, no_member_listed}
use Rattle.wkb_read.specs.Reads.{BeginsAt, Reads}
use Rattle.wkb_read.proofs.Prelude.{◌≡◌, ℕ, List, Some, None, Result, Ok, Err, subst, drop, WkbError, Value, Item}
use Rattle.wkb_read.proofs.Prelude.{spellings, IfRefused, IsRefusal, IsFront, HasNoFront, IsNotMemory, Wkb, IsOnlyFront}
use Rattle.std.proofs.Common.{◌⊎◌, inl, inr, slice_get, IfOk, IfErr, arith}
use Rattle.wkb_geom.specs.Errors.{IsMemory}
use Rattle.wkb_geom.specs.declared.error.WkbError.TheVariants as errors
use Rattle.wkb_read.specs.Prelude.{Spelling}
use Rattle.wkb_read.specs.Views.{IsCollectionOf}
use Rattle.wkb_laws.specs.Places.{IsOneOf, IsMember}
use Rattle.wkb_laws.proofs.Outcomes.{never_both_lem}

-- A refusal as one fact: an error of the reader is an allocation failure, or this holds of it.
pub memory_or : (P : WkbError → Type 0) (e : WkbError) → IfRefused (Err e) P → IsMemory e ⊎ P e
memory_or P (errors.Memory x) h = inl tt
memory_or P _ h = inr h

-- Where bytes begin with a geometry, the reader reports nothing but an allocation failure.
pub memory_alone : {buf : List ℕ} {w : Item} (r : Result Wkb WkbError) → IsFront buf w → Reads buf r → IfErr r IsMemory
memory_alone (Ok x) f reads = tt
memory_alone {buf = buf} (Err e) f reads = memory_left e f (memory_or (λ _. HasNoFront buf) e reads.no_front)

-- What the reader reads of a geometry's bytes is that geometry.
pub read_the_same : {buf : List ℕ} {w : Item} (r : Result Wkb WkbError) → IsFront buf w → Reads buf r
    → IfOk r (λ x. x ≡ w)
read_the_same (Ok x) f reads = one_geometry reads.front f
read_the_same (Err e) f reads = tt

-- No error says why such bytes are rejected.
pub no_refusal : {buf : List ℕ} {w : Item} {e : WkbError} → IsFront buf w → IsRefusal buf e → ⊥
no_refusal {buf = buf} {w = w} f r =
    never_both_lem buf w.spelled w.value f.rest r.cause r.turns r.slots f.front r.refuses

-- What reports an allocation failure or a refusal reports an allocation failure, as `canonical_with_srid` does.
pub not_refused : {A : Type 0} {buf : List ℕ} {w : Item} (r : Result A WkbError) → IsFront buf w
    → IfErr r (λ e. IsMemory e ⊎ IsRefusal buf e) → IfErr r IsMemory
not_refused (Ok x) f err = tt
not_refused (Err e) f (inl memory) = memory
not_refused (Err e) f (inr refusal) = absurd (no_refusal f refusal)

pub no_memory_reported : (e : WkbError) → IsMemory e → IsNotMemory e → ⊥
no_memory_reported (errors.Memory x) is not = not
no_memory_reported _ is not = is

-- ---- at an offset in a blob

-- There is one where the reader accepts the bytes from the offset on.
pub begins_at : (blob : List ℕ) (offset : ℕ) (behind : List ℕ) (w : Item) → behind ≡ drop offset blob
    → IsFront behind w → IsOnlyFront behind w → BeginsAt blob offset w
begins_at blob offset behind w same front only =
    record { front = subst (λ b. IsFront b w) same front; only = subst (λ b. IsOnlyFront b w) same only }

-- There is none if the reader rejects these bytes for a cause other than memory; nor what follows from that.
pub none_begins_at : {Q : Type 0} (blob : List ℕ) (offset : ℕ) (behind : List ℕ) (e : WkbError)
    → behind ≡ drop offset blob → IfRefused (Err e) (λ _. HasNoFront behind) → (HasNoFront (drop offset blob) → Q)
    → IsMemory e ⊎ Q
none_begins_at blob offset behind e same h follows =
    elim (memory_or (λ _. HasNoFront behind) e h) [
      | inl memory ↦ inl memory
      | inr none ↦ inr (follows (subst HasNoFront same none))
    ]

-- ---- members of a collection

-- A member of a collection, as its view lists them, is the member of its number.
pub member_of : (w : Item) (ms : List Item) (k : ℕ) (m : Item) → IsCollectionOf w ms → slice_get ms k ≡ Some m
    → IsMember k w.spelled w.value m.spelled m.value
member_of w ms k m c is =
    let inside = subst (λ vs. IsOneOf k (spellings ms) vs m.spelled m.value) c.all.value (one_of ms k m is) in
    grind (arith, unlisted)

-- A collection whose members, as `as_type` hands them out, end before this number has no member of it.
pub no_member : (w : Item) (ms : List Item) (k : ℕ) (s : Spelling) (t : Value) → IsCollectionOf w ms
    → slice_get ms k ≡ None → IsMember k w.spelled w.value s t → ⊥
no_member w ms k s t c none h =
    no_member_listed ms k s t none
    (rw (c.all.spelled, c.all.value) (grind (arith, among_members)))
