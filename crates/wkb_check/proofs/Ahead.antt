-- What the header and the count of a geometry say, and the pieces that follow one another.
use Rattle.std.proofs.Common.{◌≡◌, ◌≢◌, ℕ, ◌+◌, ◌≤◌, List, [], ◌++◌, length, drop, is_some, None, Ok, refl, sym, ap}
use Rattle.std.proofs.Common.{◌∙◌, subst, arith, length-drop, Option, Some, false, append_assoc, append-nil, drop-drop}
use Rattle.wkb_laws.specs.Prelude.{Endianness, line_string, polygon, SpellsBody, type_dimension, body_start, meaning_of}
use Rattle.wkb_laws.specs.Prelude.{Dimension, IsNumber, dimension, Spelling, type_of, type_kind, srid_in, srid_size, Xy}
use Rattle.wkb_laws.specs.Prelude.{Head, number, Begins, Value, point, kind, node, Spells, meaning, header, Header}
unfoldable use Rattle.wkb_laws.specs.Prelude.{head_at}
use Rattle.wkb_geom.proofs.Meanings.{type_kind-type_of}
use Rattle.wkb_geom.proofs.Heads.{iso_meant}
use Rattle.wkb_laws.proofs.Parts.{then_append, begins_number, drop_front, header_length}
use Rattle.wkb_laws.proofs.Complete.{head_of}
use Rattle.wkb_check.specs.Prelude.{HasGeometry, Summary, DescribesFront, Piece}
use Rattle.wkb_laws.proofs.OneFront.{one_spelling}
use Rattle.wkb_check.specs.Pieces.{count_of, leading, piece_of, bare_head, HeaderIs, IsHeaderAt, IsPieceAt}
use Rattle.wkb_check.proofs.Public.{geometry_opens}
use Rattle.wkb_check.proofs.Bodies.{rest_smaller}
use Rattle.wkb_check.proofs.Joining.{geometry_of_front}

-- the count at the start of a body
count_first : (order : Endianness) (n : ℕ) (x rest more : List ℕ) {front : List ℕ} → x ≡ front ++ rest
    → IsNumber order 4 n front → (4 ≤ length (x ++ more)) × (number order 4 (x ++ more) ≡ n)
count_first order n x rest more {front} whole h =
    let b = begins_number order 4 n (x ++ more) (rest ++ more) (grind (arith, append_assoc)) in
    (b.0, b.1)

counted : (order : Endianness) (words : List ℕ) (t : Value) (x more : List ℕ) → SpellsBody order words t x → kind t ≢ 1
    → (4 ≤ length (x ++ more)) × (number order 4 (x ++ more) ≡ count_of t)
counted order words (point d c) x more h differs = absurd (differs refl)
counted order words (line_string d cs) x more h differs = count_first order _ x h.1.rest more h.1.whole h.1.first
counted order words (polygon d rings) x more h differs = count_first order _ x h.1.rest more h.1.whole h.1.first
counted order words _ x more h differs = count_first order _ x [] more (sym (append-nil x)) h.1

-- the type of a value has its kind and its dimension
pub type_kind_is : (t : Value) → type_kind (type_of (kind t) (dimension t)) ≡ kind t
type_kind_is t = grind arith

pub type_dimension_is : (t : Value) → type_dimension (type_of (kind t) (dimension t)) ≡ dimension t
type_dimension_is t = grind arith

-- what is read of a geometry at the start of the bytes up to its rings or members
pub record Says (bytes : List ℕ) (s : Spelling) (t : Value) (h : Head) : Type 0 where
  pub long : body_start h.has_srid ≤ length bytes
  pub start_is : body_start h.has_srid ≡ 5 + srid_size (is_some (header s).srid)
  pub header_is :
      HeaderIs s t (type_kind h.wkb_type) (type_dimension h.wkb_type) h.order (srid_in h.order h.has_srid bytes)
  pub counts : kind t ≢ 1
      → (body_start h.has_srid + 4 ≤ length bytes)
      × (number h.order 4 (drop (body_start h.has_srid) bytes) ≡ count_of t)

pub says : (bytes : List ℕ) (s : Spelling) (t : Value) (rest : List ℕ) → Begins (Spells s t) bytes rest → (h : Head)
    → head_at bytes ≡ Ok h
    → Says bytes s t h
says bytes (node own words ss) t rest b h head =
    let x = b.first in
    let y = x.second in
    let said = geometry_opens bytes (node own words ss) t rest b in
    let same : head_of own.order (kind t) (dimension t) (is_some own.srid) ≡ h = cc (sym said.head ∙ head) in
    let start = body_start (is_some own.srid) in
    let cut : drop start bytes ≡ y.front ++ (y.rest ++ rest) = ap (drop start) (b.whole ∙ then_append x rest)
    ∙ drop_front start x.front (x.rest ++ rest) (header_length own (kind t) (dimension t) x.front x.first)
    ∙ then_append y rest in
    subst (Says bytes (node own words ss) t) same
    (record {
      long = said.long;
      start_is = refl;
      header_is = grind (arith, type_kind_is, type_dimension_is);
      counts = λ differs.
          let c = counted own.order words t y.front (y.rest ++ rest) y.first differs in
          (omega (arith, c.0, ap length cut, length-drop start bytes), ap (number own.order 4) cut ∙ c.1);
    })

-- a geometry is no nothing
pub begins_inside : (bytes : List ℕ) (begin : ℕ) → HasGeometry (drop begin bytes) → begin + 5 ≤ length bytes
begins_inside bytes begin g = omega (arith, rest_smaller g, length-drop begin bytes)

other_leads : (h : Header) (t : Value) → kind t ≢ 1 → leading h t ≡ 9 + srid_size (is_some h.srid)
other_leads h t differs = grind arith

piece_is : (at : ℕ) (s : Spelling) (t : Value) {k : ℕ} {d : Dimension} {order : Endianness} {srid : Option ℕ}
    → HeaderIs s t k d order srid → (n offset : ℕ) → n ≡ count_of t → offset ≡ at + leading (header s) t
    → ◌≡◌ {A = Piece}
    (record { kind = k; dimension = d; order = order; srid = srid; count = n; begin = at; offset = offset })
    (piece_of at s t)
piece_is at (node h words ss) t is n offset count_is offset_is = cc

-- what was found is at the start of the bytes
abbrev pub here : {buf : List ℕ} {found : Summary} → DescribesFront buf found → HasGeometry buf
here d = geometry_of_front d.front

-- the check found what the header says
pub found_header : {buf : List ℕ} {found : Summary} → DescribesFront buf found → {k : ℕ} {d : Dimension}
    → k ≡ type_kind found.wkb_type → d ≡ type_dimension found.wkb_type
    → IsHeaderAt buf 0 k d found.order found.srid
found_header f k_is d_is = grind (arith, one_spelling, type_kind_is, type_dimension_is)

-- the header of a geometry determines its piece
pub piece_by : (at : ℕ) (s : Spelling) (t : Value) {k : ℕ} {d : Dimension} {order : Endianness} {srid : Option ℕ}
    → HeaderIs s t k d order srid → (p : Piece) → p ≡ piece_of at s t
    → record { kind_is : p.kind ≡ k; dimension_is : p.dimension ≡ d; order_is : p.order ≡ order }
piece_by at (node h words ss) t is p e = grind arith

-- the number of a kind is the code of that kind
pub bare_meant : (k : ℕ) → 1 ≤ k → k ≤ 7 → meaning_of k ≡ Some (meaning (type_of k Xy) false)
bare_meant k least most = grind (arith, type_kind-type_of k Xy least most, iso_meant (type_of k Xy))

module _ (bytes : List ℕ) (begin : ℕ) (g : HasGeometry (drop begin bytes)) where
  -- what the header says that the geometry was spelled with
  own_says : Says (drop begin bytes) g.spelled g.value
      (head_of (header g.spelled).order (kind g.value) (dimension g.value) (is_some (header g.spelled).srid))
  own_says =
      says (drop begin bytes) g.spelled g.value g.rest g.begins _
      (geometry_opens (drop begin bytes) g.spelled g.value g.rest g.begins).head

  -- what a header says that was read
  pub read_says : (from : List ℕ) (h : Head) → from ≡ drop begin bytes → head_at from ≡ Ok h
      → Says from g.spelled g.value h
  read_says from h is head =
      let b = g.begins in
      says from g.spelled g.value g.rest (record { front = b.front; whole = is ∙ b.whole; first = b.first }) h head

  -- what a header says whose code is the number of its kind
  pub bare_header : (from : List ℕ) (order : Endianness) (k : ℕ) → from ≡ drop begin bytes
      → head_at from ≡ Ok (bare_head order k) → 1 ≤ k → k ≤ 7 → HeaderIs g.spelled g.value k Xy order None
  bare_header from order k is head least most =
      let type = type_kind-type_of k Xy least most in
      rw (type.0, type.1) at (read_says from (bare_head order k) is head).header_is

module _ (bytes : List ℕ) (begin : ℕ) {k : ℕ} {d : Dimension} {order : Endianness} {srid : Option ℕ}
    (is : IsHeaderAt bytes begin k d order srid) where
  srid_long : (g : HasGeometry (drop begin bytes))
      → srid_size (is_some srid) ≡ srid_size (is_some (header g.spelled).srid)
  srid_long g = ap (λ s. srid_size (is_some s)) (is g).srid_is

  -- the header is inside the bytes
  pub header_inside : HasGeometry (drop begin bytes) → begin + 5 + srid_size (is_some srid) ≤ length bytes
  header_inside g = let own = own_says bytes begin g in grind (arith, srid_long, length-drop, begins_inside)

  -- and the count, of all but a point
  pub count_inside : HasGeometry (drop begin bytes) → k ≢ 1 → begin + 9 + srid_size (is_some srid) ≤ length bytes
  count_inside g other =
      grind (arith, own_says bytes begin g, srid_long g, length-drop begin bytes, begins_inside bytes begin g)

  -- the piece, by its header and its count
  pub counted_piece : (n size offset : ℕ) → k ≢ 1 → size ≡ srid_size (is_some srid)
      → n ≡ number order 4 (drop (begin + 5 + size) bytes) → offset ≡ begin + 5 + size + 4
      → IsPieceAt bytes begin
      (record { kind = k; dimension = d; order = order; srid = srid; count = n; begin = begin; offset = offset })
  counted_piece n size offset differs size_is n_is offset_is = λ g.
      let own = own_says bytes begin g in
      let start = body_start (is_some (header g.spelled).srid) in
      let at : begin + 5 + size ≡ begin + start = omega (arith, size_is, srid_long g, own.start_is) in
      grind (arith, piece_is, drop-drop, srid_long, other_leads)
