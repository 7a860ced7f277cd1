-- The result of reading, from what is read from left to right.
use Rattle.wkb_read.proofs.Prelude.{◌≡◌, ℕ, ◌+◌, ◌*◌, ◌≤◌, List, length, Result, Ok, Err, ap, ◌∙◌, subst, arith, Cause}
use Rattle.wkb_read.proofs.Prelude.{Some, cause_of, ReadError, WkbError, max_nesting, Item, Cost, Reading, geometry_at}
use Rattle.wkb_read.proofs.Prelude.{Refuses, any, Tells, TellsReadError, Agrees, geometry_agrees_lem, Counts, IsCause}
use Rattle.wkb_read.proofs.Prelude.{Spent, AtMost, Stops, Wkb, IsNotMemory, IsFront, IsOnlyFront, HasNoFront}
use Rattle.wkb_read.proofs.Prelude.{IsRefusal, TellsEach, IfRefused, IfMemory, CountsValue, CountsRefusal}
use Rattle.wkb_read.proofs.Prelude.{CountsAtMost, ReadsAs, TakesNoMemory}
use Rattle.wkb_read.specs.Reads.{Reads, Costs}
use Rattle.wkb_laws.proofs.GeometryAt.{front_is_read_lem, refusal_is_read_lem, reading_is_bounded_lem}
use Rattle.wkb_laws.proofs.OneFront.{one_front_lem}
use Rattle.wkb_laws.proofs.Outcomes.{never_both_lem, one_refusal_lem}
use Rattle.wkb_read.specs.Prelude.read_errors
use Rattle.wkb_geom.specs.declared.error.WkbError.TheVariants as errors

abbrev reading_of : List ℕ → Reading Item
reading_of buf = geometry_at max_nesting buf

abbrev zero_counts : Counts
zero_counts = record { turns = 0; slots = 0 }

-- ---- what is counted is bounded by the bytes, whatever the result

counted_of : (whole : Reading Item) (r : Result Wkb ReadError) (old new : Counts) → ReadsAs whole r old new
    → AtMost old new whole.0
counted_of whole r old new h = grind arith

pub count_bounded : (buf : List ℕ) (r : Result Wkb ReadError) (new : Counts)
    → ReadsAs (reading_of buf) r zero_counts new → (4 * new.turns ≤ length buf + 4) × (new.slots ≤ 15 * length buf)
count_bounded buf r new h = grind (arith, reading_is_bounded_lem, counted_of)

-- ---- a geometry that was read is at the start

pub record IsAtStart (buf : List ℕ) (w : Item) (new : Counts) : Type 0 where
  pub front : IsFront buf w
  pub one_front : IsOnlyFront buf w
  pub counts : CountsValue w.value new

-- Whatever geometry bytes begin with is the one that they begin with.
pub only_front : {buf : List ℕ} {w : Item} → IsFront buf w → IsOnlyFront buf w
only_front {buf = buf} {w = w} p = λ s t rest f.
    let one = one_front_lem buf s w.spelled t w.value rest p.rest f p.front in
    (one.0 ∙ p.encoding_is, one.1, one.2)

read_by : (buf : List ℕ) (r : Reading Item) → Agrees buf r → (w : Item) (rest : List ℕ) (new : Counts)
    → r.1 ≡ Ok (w, rest) → Spent zero_counts new r.0
    → IsAtStart buf w new
read_by buf (c, Ok x) h w rest new is spent =
    let item : x.0 ≡ w = cc in
    let front : IsFront buf x.0 = record { rest = x.1; front = h.0; encoding_is = h.3 } in
    subst (λ (i : Item). IsAtStart buf i new) item
    (record {
      front = front;
      one_front = only_front front;
      counts = (omega arith, omega arith);
    })
read_by buf (c, Err f) h w rest new is spent = absurd cc

pub is_read : (buf : List ℕ) (w : Wkb) (new : Counts) → ReadsAs (reading_of buf) (Ok w) zero_counts new
    → IsAtStart buf w new
is_read buf w new h = read_by buf (reading_of buf) (geometry_agrees_lem buf) w h.0.0 new h.0.1 h.1

-- ---- a refusal, and its error

pub record IsRefusedWith (buf : List ℕ) (e : WkbError) (new : Counts) : Type 0 where
  pub refusal : IsRefusal buf e
  pub one_cause : TellsEach buf e
  pub no_front : HasNoFront buf
  pub counts : CountsRefusal buf new

of_cause : (buf : List ℕ) (e : WkbError) (cause : Cause) (new : Counts)
    → Refuses max_nesting any buf cause new.turns new.slots → Tells e cause → IsRefusedWith buf e new
of_cause buf e cause new refuses tells = record {
  refusal = record { cause = cause; turns = new.turns; slots = new.slots; refuses = refuses; tells = tells };
  one_cause = grind (arith, one_refusal_lem);
  no_front = λ s t rest f. never_both_lem buf s t rest cause new.turns new.slots f refuses;
  counts = grind (arith, one_refusal_lem);
}

refused_by : (buf : List ℕ) (r : Reading Item) → Agrees buf r → (cause : Cause) (new : Counts)
    → cause_of r.1 ≡ Some cause
    → Spent zero_counts new r.0
    → Refuses max_nesting any buf cause new.turns new.slots
refused_by buf (c, Ok x) h cause new is spent = absurd cc
refused_by buf (c, Err e) h cause new is spent = grind arith

-- what holds of each error of the refusal holds of the result
if_refused : (P : WkbError → Type 0) (buf : List ℕ) (e : WkbError) (error : ReadError) (new : Counts)
    → Stops error (reading_of buf) zero_counts new → TellsReadError e error → (IsRefusedWith buf e new → P e)
    → IfRefused (Err e) P
if_refused P buf (errors.Memory x) error new h tells step = tt
if_refused P buf e (read_errors.Cause cause) new h tells step =
    step (of_cause buf e cause new (refused_by buf (reading_of buf) (geometry_agrees_lem buf) cause new h.0 h.1) tells)
if_refused P buf e read_errors.Memory new h tells step = absurd tells

-- ---- an allocation failure

at_most : (buf : List ℕ) (new : Counts) → AtMost zero_counts new (reading_of buf).0 → CountsAtMost buf new
at_most buf new h = record {
  front = λ s t rest f. let e = ap (λ (r : Reading Item). r.0) (front_is_read_lem buf s t rest f) in
      (omega (arith, ap (λ (c : Cost). c.turns) e), omega (arith, ap (λ (c : Cost). c.slots) e));
  refusal =
      λ cause turns slots q. let e = ap (λ (r : Reading Item). r.0) (refusal_is_read_lem buf cause turns slots q) in
      (omega (arith, ap (λ (c : Cost). c.turns) e), omega (arith, ap (λ (c : Cost). c.slots) e));
}

if_memory : (e : WkbError) (P : Type 0) → P → IfMemory (Err e) P
if_memory e P p = grind arith

memory_counted : (buf : List ℕ) (e : WkbError) (error : ReadError) (new : Counts)
    → Stops error (reading_of buf) zero_counts new
    → IfMemory (Err e) (CountsAtMost buf new)
memory_counted buf e error new h = grind (arith, if_memory, at_most, counted_of)

-- the error of a fault is no allocation failure
is_not_memory : (e : WkbError) (error : ReadError) → TellsReadError e error → IsCause error → IsNotMemory e
is_not_memory e error tells fault = grind arith

-- a result that is the error of a refusal
module _ (buf : List ℕ) (e : WkbError) (error : ReadError) (new : Counts)
    (stops : Stops error (reading_of buf) zero_counts new)
    (tells : TellsReadError e error) where
  pub refused_as : (TakesNoMemory buf → IsCause error) → Reads buf (Err e)
  refused_as none = grind (arith, if_refused, is_not_memory)

  pub refused_at : Costs buf (Err e) new
  refused_at =
      let bound = count_bounded buf (Err error) new stops in
      grind (arith, if_refused, memory_counted)
