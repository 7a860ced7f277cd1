-- Pieces that stand in the input as they are written.
use Rattle.std.proofs.Common.{◌≡◌, ◌≢◌, ℕ, zero, suc, ◌+◌, ◌-◌, ◌*◌, ◌≤◌, List, [], ◌∷◌, ◌++◌, length, take, drop, None}
use Rattle.std.proofs.Common.{is_some, sym, ap, ◌∙◌, subst, arith, append_assoc, take-append-drop, length-drop, false}
use Rattle.std.proofs.Common.{refl, drop-drop}
use Rattle.wkb_laws.specs.Prelude.{Endianness, Dimension, Form, AreBytes, Begins, Value, point, kind, Spelling, node}
use Rattle.wkb_laws.specs.Prelude.{Spells, width, number, number_bytes, order_byte, form_srid, type_of, words_encoding}
use Rattle.wkb_geom.specs.Encodings.{type_code}
use Rattle.wkb_geom.specs.Refusals.{srid_size}
use Rattle.wkb_geom.specs.Reading.{ring_in}
use Rattle.wkb_geom.proofs.Items.{length-items}
use Rattle.wkb_check.specs.Prelude.{HasGeometry, subjects_of_each}
use Rattle.wkb_check.specs.declared.pieces.Piece.{Piece}
use Rattle.wkb_check.specs.Pieces.{own_end, count_of, piece_of, subject_pieces, ring_piece, Ahead}
use Rattle.wkb_check.proofs.Ahead.{says, begins_inside}
use Rattle.wkb_check.proofs.Placing.{itself_first, inner, first_one}
use Rattle.wkb_check.proofs.Following.{none_ahead}
use Rattle.wkb_check.proofs.Public.{geometry_opens}
use Rattle.wkb_rewrite.specs.Shares.{share_in, share_encoding, words_part, count_part, header_part, is_empty_point}
use Rattle.wkb_rewrite.specs.Rewritings.{StandsAsWritten}
use Rattle.wkb_rewrite.proofs.Held.{taken_bytes, number_held, own_held, own_end_is, written_own}
use Rattle.wkb_rewrite.proofs.Laying.{bare_header, header_of_some}

-- ---- bytes from one index to another

pub record Spans (buf : List ℕ) (at to : ℕ) (bytes : List ℕ) : Type 0 where
  pub is : drop at buf ≡ bytes ++ drop to buf

pub span_on : {buf : List ℕ} {i j k : ℕ} {xs ys : List ℕ} → Spans buf i j xs → Spans buf j k ys
    → Spans buf i k (xs ++ ys)
span_on {buf = buf} {k = k} {xs = xs} {ys = ys} p q =
    record { is = p.is ∙ ap (λ z. xs ++ z) q.is ∙ sym (append_assoc xs ys (drop k buf)) }

-- the count and the words that are written of a piece
abbrev pub own_body : List ℕ → Endianness → Piece → List ℕ
own_body buf order p = count_part order p.kind p.count ++ words_part order buf p

-- the count and the words stand from this byte on up to the piece's end, where it is no empty point
abbrev pub BodyStands : List ℕ → ℕ → Piece → Type 0
BodyStands buf from p =
    own_end p ≤ length buf → is_empty_point buf p ≡ false → Spans buf from (own_end p) (own_body buf p.order p)

-- what begins at this byte has this piece: a ring, or a geometry
pub record IsRingThere (buf : List ℕ) (at : ℕ) (p : Piece) : Type 0 where
  pub none : p.kind ≡ 0
  pub body : BodyStands buf at p

pub record IsGeometryThere (buf : List ℕ) (at : ℕ) (p : Piece) : Type 0 where
  pub some : p.kind ≢ 0
  pub header : p.begin + 5 ≤ length buf
  pub begins : p.begin ≡ at
  pub order : Spans buf p.begin (p.begin + 1) (order_byte p.order ∷ [])
  pub body : BodyStands buf (p.begin + (5 + srid_size (is_some p.srid))) p

pub data IsThere (buf : List ℕ) (at : ℕ) (p : Piece) : Type 0 where
  ring : IsRingThere buf at p → IsThere buf at p
  geometry : IsGeometryThere buf at p → IsThere buf at p

some_kind : (t : Value) → kind t ≢ 0
some_kind (point d c) e = omega arith
some_kind _ e = omega arith

module _ {buf : List ℕ} (b : AreBytes buf) where
  taken_span : (at n to : ℕ) {bytes : List ℕ} → take n (drop at buf) ≡ bytes → to ≡ at + n → Spans buf at to bytes
  taken_span at n to e to-is =
      let after : drop n (drop at buf) ≡ drop to buf = drop-drop n at buf
      ∙ ap (λ k. drop k buf) (omega arith) in
      record { is = sym (take-append-drop n (drop at buf)) ∙ (λ i. e i ++ after i) }

  number_span : (order : Endianness) (at to : ℕ) → at + 4 ≤ length buf → to ≡ at + 4
      → Spans buf at to (number_bytes order 4 (number order 4 (drop at buf)))
  number_span order at to inside to-is =
      taken_span at 4 to
      (number_held order 4 (drop at buf) (taken_bytes at buf b).1 (omega (arith, length-drop at buf))).1 to-is

  -- the own words of a piece
  words_span : (p : Piece) → own_end p ≤ length buf → is_empty_point buf p ≡ false
      → Spans buf p.offset (own_end p) (words_part p.order buf p)
  words_span p inside some =
      taken_span p.offset (own_end p - p.offset) (own_end p)
      ((own_held buf p b inside).is ∙ ap (words_encoding p.order) (sym (written_own buf p some)))
      (omega (arith, own_end_is p))

  ring_there : (order : Endianness) (d : Dimension) (at : ℕ)
      → IsRingThere buf at (ring_piece order d at (number order 4 (drop at buf)))
  ring_there order d at =
      let p = ring_piece order d at (number order 4 (drop at buf)) in
      record {
        none = refl;
        body = λ inside some.
            span_on (number_span order at (at + 4) (omega arith) refl) (words_span p inside some);
      }

  pub geometry_there : (at : ℕ) (g : HasGeometry (drop at buf)) → IsGeometryThere buf at (piece_of at g.spelled g.value)
  geometry_there at g = by g.spelled g.value g.begins
    where
      by : (s : Spelling) (t : Value) → Begins (Spells s t) (drop at buf) g.rest
          → IsGeometryThere buf at (piece_of at s t)
      by (node h words ss) t begins =
          let x = begins.first in
          let p = piece_of at (node h words ss) t in
          let shape = begins.whole ∙ ap (λ z. z ++ g.rest) (x.whole ∙ ap (λ z. z ++ x.rest) x.first.whole) in
          record {
            some = some_kind t;
            header = begins_inside buf at g;
            begins = refl;
            order = taken_span at 1 (at + 1) (ap (take 1) shape) refl;
            body = λ inside some. span_on (count_span t begins) (words_span p inside some);
          }
        where
          count_span : (t : Value) → Begins (Spells (node h words ss) t) (drop at buf) g.rest
              → Spans buf (at + (5 + srid_size (is_some h.srid))) (piece_of at (node h words ss) t).offset
              (count_part h.order (kind t) (count_of t))
          count_span (point d c) begins = record { is = refl }
          count_span t begins =
              let opens = geometry_opens (drop at buf) (node h words ss) t g.rest begins in
              let said = says (drop at buf) (node h words ss) t g.rest begins _ opens.head in
              let counted = said.counts (λ e. omega arith) in
              let start : ℕ = 5 + srid_size (is_some h.srid) in
              let is : number h.order 4 (drop (at + start) buf) ≡ count_of t =
              ap (number h.order 4) (sym (drop-drop start at buf)) ∙ counted.1 in
              subst (λ n. Spans buf (at + start) (piece_of at (node h words ss) t).offset (number_bytes h.order 4 n)) is
              (number_span h.order (at + start) _ (omega (arith, length-drop at buf))
              (omega arith))

  -- the next piece is there
  pub next_there : {order : Endianness} {d : Dimension} {r n at : ℕ} {p : Piece} {ps : List Piece}
      → Ahead buf order d r n at (p ∷ ps) → IsThere buf at p
  next_there {r = zero} {n = zero} a = let none = none_ahead a (omega arith) (omega arith) in absurd cc
  next_there {r = zero} {n = suc m} {at = at} {p = p} {ps = ps} a =
      let f = first_one (suc m) m (drop at buf) a.more a.all refl in
      let g = f.geometry in
      let others = subjects_of_each f.others.spelled f.others.values in
      let first : p ∷ ps
      ≡ piece_of at g.spelled g.value
      ∷ subject_pieces (own_end (piece_of at g.spelled g.value)) (inner g.spelled g.value ++ others) =
      a.are ∙ ap (subject_pieces at) (f.are ∙ ap (λ xs. xs ++ others) (itself_first g.spelled g.value)) in
      let is : p ≡ piece_of at g.spelled g.value = cc in
      geometry (rw is (geometry_there at g))
  next_there {order = order} {d = d} {r = suc m} {at = at} {p = p} {ps = ps} a =
      let bytes = drop at buf in
      let is : p ≡ ring_piece order d at (length (ring_in order d bytes)) = cc in
      ring (rw (is, length-items (8 * width d) _ (number order 4 bytes) (drop 4 bytes)) (ring_there order d at))

  -- it stands as it is written
  pub there_span : {order : Endianness} {form : Form} {at : ℕ} {p : Piece} → IsThere buf at p → form_srid form ≡ None
      → StandsAsWritten order form buf p → own_end p ≤ length buf
      → Spans buf at (own_end p) (share_encoding order form (share_in buf p))
  there_span {order = order} {form = form} {at = at} {p = p} there none w inside =
      subst (λ o. Spans buf at (own_end p) (share_encoding o form (share_in buf p))) w.order_is (by there)
    where
      by : IsThere buf at p → Spans buf at (own_end p) (share_encoding p.order form (share_in buf p))
      by (ring x) =
          subst (λ k. Spans buf at (own_end p) (header_part p.order form k p.dimension ++ own_body buf p.order p))
          (sym x.none) (x.body inside w.some)
      by (geometry x) =
          let code : number p.order 4 (drop (p.begin + 1) buf) ≡ type_code form (type_of p.kind p.dimension) =
          ap (λ o. number o 4 (drop (p.begin + 1) buf)) w.order_is ∙ w.code x.some in
          let header = bare_header p.order form (type_of p.kind p.dimension) _ code none
          ∙ sym (header_of_some p.order form p.kind p.dimension x.some) in
          let number = number_span p.order (p.begin + 1) (p.begin + 5) (omega arith) (omega arith) in
          let body = rw w.plain at (x.body inside w.some) in
          rw (← x.begins, ← header) (span_on (span_on x.order number) body)

-- it has a header inside the bytes, unless it is a ring
pub there_header : {buf : List ℕ} {at : ℕ} {p : Piece} → IsThere buf at p → p.kind ≢ 0 → p.begin + 5 ≤ length buf
there_header (ring x) some = absurd (some x.none)
there_header (geometry x) some = x.header
