-- A count, and that many items: how they are measured and encoded.
use Rattle.std.specs.Prelude.{◌≡◌, ℕ, List, ◌++◌, None, length, slice_get, IfSome, Result}
use Rattle.std.specs.List.{flat_map}
use Rattle.wkb_laws.specs.Prelude.{Dimensions, Endianness, WkbType, coordinates_encoding, number_bytes, Coordinate}
use Rattle.wkb_geom.specs.Geometries.{Geometry, dimensions_of}
use Rattle.wkb_sink.specs.Options.{header_of, inner_options}
use Rattle.wkb_sink.specs.declared.{options.WriteOptions.WriteOptions, buffered.Buffered.Buffered}
use Rattle.wkb_sink.specs.declared.{buffered.Stopped.Stopped, sink.Sink.Ghosts}
use Rattle.wkb_write.specs.Answers.{encoding_of}
use Rattle.wkb_sink.specs.Progress.{Lays}
use Rattle.wkb_write.specs.declared.measure.Measured.{Measured}
use Rattle.wkb_write.specs.Bodies.{Measure, body_fault, parts_fault, parts_measure, parts_size, ring_measure}
use Rattle.wkb_write.specs.Bodies.{size_by_parts}
use Rattle.wkb_write.specs.Measures.{IsMeasureOf}

-- the items of a geometry: how each is measured, and encoded under the options of items
pub record ItemList : Type 1 where
  pub Item : Type 0
  pub list : List Item
  pub measure : Item → Measure
  pub encode : WriteOptions → Item → List ℕ

-- rings
abbrev pub ring_list : Dimensions → List (List Coordinate) → ItemList
ring_list d rings = record {
  Item = List Coordinate;
  list = rings;
  measure = ring_measure d;
  encode = λ options ring. coordinates_encoding options.endianness ring;
}

-- members, by how each is measured and what it means
abbrev pub member_list : {X : Type 0} → (X → Measure) → (X → Geometry) → List X → ItemList
member_list {X} measure meant xs = record {
  Item = X;
  list = xs;
  measure = measure;
  encode = λ options x. encoding_of options (meant x);
}

-- a count, and the encodings
unfoldable pub counted : {X : Type 0} → Endianness → (X → List ℕ) → List X → List ℕ
counted order encode xs = number_bytes order 4 (length xs) ++ flat_map encode xs

-- a geometry's encoding is a header of this type, and its items after their count
abbrev pub ListsItems : Geometry → WkbType → ItemList → Type 0
ListsItems g wkb_type items =
    (options : WriteOptions)
    → encoding_of options g
    ≡ header_of options wkb_type ++ counted options.endianness (items.encode (inner_options options)) items.list

-- what is said of the item at an index
abbrev pub OfItem : (items : ItemList) → ℕ → (items.Item → Type 0) → Type 0
OfItem items i P = IfSome (slice_get items.list i) P

-- this was measured of the item at an index
abbrev pub MeasuresItem : ItemList → ℕ → Measured → Type 0
MeasuresItem items i measured = OfItem items i (λ x. IsMeasureOf (items.measure x) measured)

-- a step laid the encoding of the item at an index, or the sink failed
abbrev pub LaysItem : {S : Type 0} (sink : Ghosts S) → Buffered S sink → Buffered S sink → ItemList → ℕ → WriteOptions
    → Result (Unit {0}) Stopped → Type 0
LaysItem sink old new items i options r = OfItem items i (λ x. Lays sink old new (items.encode options x) r)

-- the items after their count, each with a header of this size
abbrev pub items_measure : ℕ → ItemList → Measure
items_measure header items = parts_measure header items.measure items.list

-- after its header a geometry of this dimension is these items, each with a header of this size
pub record HasMeasures (g : Geometry) (d : Dimensions) (header : ℕ) (items : ItemList) : Type 0 where
  pub dimensions : d ≡ dimensions_of g
  pub fault : body_fault g ≡ parts_fault items.measure items.list
  pub size : size_by_parts g ≡ parts_size header items.measure items.list

-- a geometry of this dimension has no fault but that of the dimension
pub record HasFaultlessBody (g : Geometry) (d : Dimensions) : Type 0 where
  pub dimensions : d ≡ dimensions_of g
  pub fault : body_fault g ≡ None
