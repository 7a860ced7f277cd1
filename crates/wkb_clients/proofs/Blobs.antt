-- What is written of a package, and that the blob holds it.
use Rattle.std.proofs.Common.{◌≡◌, ℕ, zero, suc, ◌+◌, ◌*◌, ◌/◌, ◌%◌, ◌<◌, ◌≤◌, ◌^◌, List, [], ◌∷◌, ◌++◌, Bool, true}
use Rattle.std.proofs.Common.{false, if◌then◌else◌, ◌&&◌, length, drop, length-drop, append_assoc, refl, sym, ap, subst}
use Rattle.std.proofs.Common.{◌∙◌, arith, ◌==◌, nat_le}
use Rattle.wkb.specs.Bridges.{number_is_read}
use Rattle.wkb.specs.Checks.{Range, Bounds, AreBounds, range_of, words_on, x_axis, y_axis}
use Rattle.wkb.specs.Known.{never_both}
use Rattle.wkb.specs.Refusals.{no_order_byte}
use Rattle.wkb.specs.Order.{HasNumbers, range_has_numbers}
use Rattle.wkb.specs.Prelude.{Endianness, order_byte, number_bytes}
use Rattle.wkb_clients.specs.Common.{Item, Value, IsFront}
use Rattle.wkb_clients.specs.declared.geopackage.BlobHeader.{BlobHeader}
use Rattle.wkb_clients.specs.Geopackage.{IsBlobHeader, HoldsGeometry, order_said, start_behind, is_ewkb}
use Rattle.wkb_clients.specs.Geopackage.{axis_around, envelope_around, header_bytes, word_or_nan, range_bytes}
use Rattle.wkb_clients.specs.Geopackage.{envelope_bytes}
use Rattle.wkb_clients.proofs.Packages.{holds}

order_again : (order : Endianness) → (order_byte order ≤ 1) × (order_said (order_byte order) ≡ order)
order_again order = grind arith

-- what the byte of the flags says
record Says (flags order kind : ℕ) (empty : Bool) : Type 0 where
  pub clear : flags < 32
  pub order_is : flags % 2 ≡ order
  pub kind_is : flags / 2 % 8 ≡ kind
  pub empty_is : empty ≡ nat_le 16 flags

says : (order kind : ℕ) (empty : Bool) → order ≤ 1 → kind ≤ 1
    → Says (order + 2 * kind + (if empty then 16 else 0)) order kind empty
says order kind empty low few = grind arith

header_is : (h : BlobHeader) (rest : List ℕ) → h.envelope ≤ 1 → h.srs < 2 ^ 32
    → start_behind h.envelope ≤ length (header_bytes h ++ rest) → IsBlobHeader (header_bytes h ++ rest) h
header_is h rest few fits long =
    let order = order_again h.order in
    let srs = number_is_read h.order 4 h.srs 4 (header_bytes h ++ rest) rest fits refl in grind arith

-- a range whose ends have 64 bits
pub record IsOfWords (r : Range) : Type 0 where
  pub low : r.least < 2 ^ 64
  pub high : r.greatest < 2 ^ 64

fits : (none : Bool) (w : ℕ) → w < 2 ^ 64 → word_or_nan none w < 2 ^ 64
fits none w h = grind arith

module _ (order : Endianness) (blob : List ℕ) where
  -- the words that are written of an axis are around it
  axis_written : (at : ℕ) (r : Range) (ws rest : List ℕ) → IsOfWords r → r ≡ range_of ws
      → drop at blob ≡ range_bytes order r ++ rest
      → (axis_around order blob at r ≡ true) × (drop (at + 8 + 8) blob ≡ rest)
  unfolding axis_around
  axis_written at r ws rest words of is =
      let none = r.count == 0 in
      let v = word_or_nan none r.least in
      let w = word_or_nan none r.greatest in
      let numbers = subst HasNumbers (sym of) (range_has_numbers ws) in
      let low = number_is_read order 8 v at blob (number_bytes order 8 w ++ rest) (fits none r.least words.low)
      (is ∙ append_assoc (number_bytes order 8 v) (number_bytes order 8 w) rest) in
      let high = number_is_read order 8 w (at + 8) blob rest (fits none r.greatest words.high) low.2 in grind arith

  envelope_written : (b : Bounds) (t : Value) (body : List ℕ) (kind : ℕ) → IsOfWords b.x → IsOfWords b.y
      → AreBounds b t → kind ≤ 1 → drop 8 blob ≡ envelope_bytes order kind b ++ body
      → (envelope_around order kind blob b ≡ true) × (drop (start_behind kind) blob ≡ body)
  envelope_written b t body zero x y bounded few is = (refl, is)
  envelope_written b t body (suc zero) x y bounded few is =
      let p = axis_written 8 b.x (words_on x_axis t) (range_bytes order b.y ++ body) x (bounded x_axis)
      (is ∙ append_assoc (range_bytes order b.x) (range_bytes order b.y) body) in
      let q = axis_written 24 b.y (words_on y_axis t) body y (bounded y_axis) p.1 in
      (λ i. (p.0 i && q.0 i) && true, q.1)
  envelope_written b t body (suc (suc k)) x y bounded few is = absurd (omega (arith, few))

some_bytes : (buf : List ℕ) (w : Item) → IsFront buf w → 0 < length buf
some_bytes [] w f = absurd (never_both [] w.spelled w.value f.rest _ 0 0 f.front no_order_byte)
some_bytes (x ∷ buf) w f = omega arith

-- a blob of these parts holds the geometry
pub written : (h : BlobHeader) (w : Item) (b : Bounds) (blob : List ℕ) → h.envelope ≤ 1 → h.srs < 2 ^ 32
    → IsOfWords b.x → IsOfWords b.y → false ≡ is_ewkb w.encoding → IsFront w.encoding w → AreBounds b w.value
    → blob ≡ header_bytes h ++ (envelope_bytes h.order h.envelope b ++ w.encoding) → HoldsGeometry blob h w
written h w b blob few fits x y iso front bounded is =
    let rest = envelope_bytes h.order h.envelope b ++ w.encoding in
    let behind = (number_is_read h.order 4 h.srs 4 blob rest fits (ap (drop 4) is)).2 in
    let e = envelope_written h.order blob b w.value w.encoding h.envelope x y bounded few behind in
    let long : start_behind h.envelope ≤ length (header_bytes h ++ rest) =
    omega (
      arith,
      length-drop (start_behind h.envelope) blob,
      ap length e.1,
      ap length is,
      some_bytes w.encoding w front,
    ) in
    let head = subst (λ l. IsBlobHeader l h) (sym is) (header_is h rest few fits long) in
    holds blob w.encoding h b w head (sym (ap (λ k. drop (start_behind k) blob) (sym head.envelope) ∙ e.1)) iso bounded
    (sym e.0) front
