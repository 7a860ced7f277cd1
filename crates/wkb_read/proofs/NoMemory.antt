-- Inputs that take no memory, by their headers.
use Rattle.wkb_read.proofs.Prelude.{◌≡◌, ℕ, Bool, List, Ok, Err, refl, subst, arith, WkbType, Endianness, Layout}
use Rattle.wkb_read.proofs.Prelude.{max_nesting, Item, Reading, and_then, head_at, type_kind, type_dimension, laid}
use Rattle.wkb_read.proofs.Prelude.{repeated, geometry_at, Agrees, geometry_agrees_lem, HasNoMembers, TypeTakesNone}
use Rattle.wkb_read.proofs.Prelude.{ReadsWithoutMemory, AsksForNone, BeginsNone, KindTakesNone, TakesNoMemory}
use Rattle.std.proofs.lemmas.Bool.{le-ltb}
use Rattle.wkb_view.proofs.Algebra.{and_then-least}
use Rattle.wkb_read.proofs.Bodies.{behind_header, head_opens}
use Rattle.wkb_geom.specs.declared.code.WkbType.TheVariants as kinds
unfoldable use Rattle.wkb_geom.specs.Reading.{collection_at}

-- what asks for no entry costs none
asked_by : (buf : List ℕ) (r : Reading Item) → AsksForNone buf → Agrees buf r → r.0.slots ≡ 0
asked_by buf (c, Ok x) none h = omega (arith, none.front x.0.spelled x.0.value x.1 h.0)
asked_by buf (c, Err e) none h = none.refusal e.cause c.turns c.slots h

asked : (buf : List ℕ) (r : Reading Item) → AsksForNone buf → geometry_at max_nesting buf ≡ r → r.0.slots ≡ 0
asked buf r none e = asked_by buf r none (subst (Agrees buf) e (geometry_agrees_lem buf))

-- what begins no part takes no turn
takes_no_turn_by : (buf : List ℕ) (r : Reading Item) → BeginsNone buf → Agrees buf r → r.0.turns ≡ 0
takes_no_turn_by buf (c, Ok x) none h = omega (arith, none.front x.0.spelled x.0.value x.1 h.0)
takes_no_turn_by buf (c, Err e) none h = none.refusal e.cause c.turns c.slots h

takes_no_turn : (buf : List ℕ) (r : Reading Item) → BeginsNone buf → geometry_at max_nesting buf ≡ r → r.0.turns ≡ 0
takes_no_turn buf r none e = takes_no_turn_by buf r none (subst (Agrees buf) e (geometry_agrees_lem buf))

-- parts that take no turn are none
no_parts : {A B : Type 0} (n : ℕ) (part : List ℕ → Reading A) (bytes : List ℕ) (end : List A → List ℕ → Reading B)
    → (and_then (repeated n part bytes) end).0.turns ≡ 0 → n ≡ 0
unfolding repeated
no_parts n part bytes end none = grind (arith, (and_then-least (repeated n part bytes) end).0)

-- a collection that takes no turn has no members
no_members_in : (member : List ℕ → Reading Item) (l : Layout) (bytes : List ℕ)
    → (collection_at member l bytes).0.turns ≡ 0 → HasNoMembers l bytes
unfolding collection_at
no_members_in member l bytes none = grind (arith, le-ltb, no_parts)

by_kind : (buf : List ℕ) (type : WkbType) (order : Endianness) (srid : Bool)
    → head_at buf ≡ Ok (record { order = order; wkb_type = type; has_srid = srid })
    → KindTakesNone (type_kind type) buf → TypeTakesNone type (laid order (type_dimension type) srid) buf
by_kind buf (kinds.Polygon d) order srid e k = asked buf _ (k.polygon refl) (behind_header 0 buf _ e)
by_kind buf (kinds.MultiLineString d) order srid e k = asked buf _ (k.multi_line_string refl) (behind_header 0 buf _ e)
by_kind buf (kinds.MultiPolygon d) order srid e k = asked buf _ (k.multi_polygon refl) (behind_header 0 buf _ e)
by_kind buf (kinds.GeometryCollection d) order srid e k =
    no_members_in _ _ buf (takes_no_turn buf _ (k.collection refl) (behind_header 0 buf _ e))
by_kind buf _ order srid e k = tt

pub without_memory : (buf : List ℕ) → TakesNoMemory buf → ReadsWithoutMemory buf
without_memory buf none = grind (arith, by_kind, head_opens)
