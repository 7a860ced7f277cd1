-- What the C library reports of a result of the check.
use Rattle.wkb_abi.proofs.Common.{◌≡◌, ◌≢◌, ℕ, List, arith, Value, header, Spelling, node, Spells, Piece, HasGeometry}
use Rattle.wkb_abi.proofs.Common.{DescribesFront, Summary, IsAccepted, IsRefusedWith}
use Rattle.std.proofs.Common.{rules}
use Rattle.wkb_laws.specs.Prelude.{Front, Begins}
use Rattle.wkb_check.specs.Prelude.{leading, count_of, piece_of, HeaderIs, HaveOneValue, HaveTwoValues}
use Rattle.wkb_check.specs.declared.answer.Refused.{Refused}
use Rattle.wkb_check.specs.Public.{IsRefusedFor}
use Rattle.wkb_abi.specs.Checks.{IsFound}
use Rattle.wkb_abi.specs.declared.found.Found.{Found}
use Rattle.wkb_abi.specs.EnumNumbers.{AreRefusals, OthersTellNoEnd}
use Rattle.wkb_abi.specs.Statuses.{cause_status, cause_fault}

-- each cause has a status of the class of refusals
pub refusals : AreRefusals
refusals x = grind arith

-- and only those of the last part tell where the input ends too early
pub others_tell_no_end : OthersTellNoEnd
others_tell_no_end x part offset long = grind arith

-- the status of its cause says why the bytes are rejected
pub refused_with : (buf : List ℕ) (e : Refused) (status : ℕ) → IsRefusedFor buf e → status ≡ cause_status e.cause
    → IsRefusedWith buf status
refused_with buf e status r is = (cause_fault e.part e.offset e.cause, search rules)

-- what is found is accepted
pub found_is_accepted : (buf : List ℕ) (f : Summary) → DescribesFront buf f → IsAccepted buf
found_is_accepted buf f d = record { s = d.spelled; t = d.value; rest = d.rest; front = d.front }

pub found_accepted : (buf : List ℕ) (found : Found) → IsFound buf found → IsAccepted buf
found_accepted buf found h = record { s = h.s; t = h.t; rest = h.rest; front = h.front }

-- the bytes of what is in front
abbrev pub begins : (buf : List ℕ) (s : Spelling) (t : Value) (rest : List ℕ) → Front buf s t rest
    → Begins (Spells s t) buf rest
begins buf s t rest f = record { front = f.front; whole = f.whole; first = f.spelled }

-- what the first piece of a geometry says of it
pub first_piece : (s : Spelling) (t : Value) {p : Piece} → p ≡ piece_of 0 s t
    → HeaderIs s t p.kind p.dimension p.order p.srid × ((p.offset ≡ leading (header s) t) × (p.count ≡ count_of t))
first_piece (node h words ss) t is = grind arith

-- the geometry that is accepted
abbrev pub accepted_there : (buf : List ℕ) → IsAccepted buf → HasGeometry buf
accepted_there buf a =
    record { spelled = a.s; value = a.t; rest = a.rest; begins = begins buf a.s a.t a.rest a.front }

-- two that are accepted have one value, or two
pub same_values : (a b : List ℕ) (x : IsAccepted a) (y : IsAccepted b) → x.t ≡ y.t → HaveOneValue a b
same_values a b x y is = grind arith

pub other_values : (a b : List ℕ) (x : IsAccepted a) (y : IsAccepted b) → x.t ≢ y.t → HaveTwoValues a b
other_values a b x y differ = grind arith
