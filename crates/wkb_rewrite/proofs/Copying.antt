-- A walk over pieces that stand as they are written, and what is copied behind it.
use Rattle.std.proofs.Common.{◌≡◌, ℕ, zero, suc, ◌+◌, ◌-◌, ◌<◌, ◌≤◌, List, [], ◌∷◌, ◌++◌, length, drop, map}
use Rattle.std.proofs.Common.{is_some, None, refl, sym, ap, ◌∙◌, subst, arith, append_assoc, append-nil, length-append}
use Rattle.std.proofs.Common.{false, true, Bool, ◌&&◌, ◌==◌}
use Rattle.wkb_laws.specs.Prelude.{number, all_nan, Endianness, Form, AreBytes, form_srid, inner, type_of}
use Rattle.wkb_laws.specs.Prelude.{type_dimension, type_kind, srid_size}
use Rattle.wkb_laws.proofs.Parts.{take_front}
use Rattle.wkb_check.specs.Prelude.{HasGeometry}
use Rattle.wkb_check.specs.declared.{pieces.Piece.Piece, pieces.Pieces.Pieces}
use Rattle.wkb_check.specs.Pieces.{own_end, pieces_of, ring_piece, Ahead, IsAhead, HasAhead, IsTaken, IsPieceAt}
use Rattle.wkb_check.proofs.Following.{ahead_first, polygon_takes, ring_takes, none_ahead}
use Rattle.wkb_check.proofs.Placing.{onward}
use Rattle.wkb_rewrite.specs.Shares.{share_in, share_encoding, own_words, is_empty_point}
use Rattle.wkb_sink.specs.Options.{header_of}
use Rattle.wkb_sink.specs.declared.options.WriteOptions.{WriteOptions}
use Rattle.wkb_rewrite.specs.Targets.{encoding_for}
use Rattle.wkb_rewrite.specs.Copies.{IsCopied}
use Rattle.wkb_rewrite.specs.Rewritings.{HasPassed}
use Rattle.wkb_rewrite.proofs.Encodings.{shares_encoding}
use Rattle.wkb_rewrite.proofs.Measured.{srid_sizes, measured}
use Rattle.wkb_rewrite.proofs.Laying.{header_of_some}
use Rattle.wkb_rewrite.proofs.Spelled.{pieces_say}
use Rattle.wkb_sink.proofs.Lengths.{length-header}
use Rattle.wkb_rewrite.proofs.Standing.{Spans, span_on, own_body, IsGeometryThere, IsThere, geometry_there, next_there}
use Rattle.wkb_rewrite.proofs.Standing.{there_span}
use Rattle.wkb_rewrite.proofs.Comparing.{encoded}

-- the encodings of pieces inside a geometry
abbrev pieces_encoding : List ℕ → Endianness → Form → List Piece → List ℕ
pieces_encoding buf order form ps = shares_encoding order form (map (share_in buf) ps)

inner_srid : (form : Form) → form_srid (inner form) ≡ None
inner_srid form = grind arith

-- What the walk came past behind the first piece stands as it is written.
pub record StandSoFar (buf : List ℕ) (order : Endianness) (form : Form) (w : Pieces) (first : Piece)
    (g : HasGeometry buf) : Type 0 where
  pub others : List Piece
  pub left : List Piece
  pub so_far : List ℕ
  pub all : pieces_of 0 g.spelled g.value ≡ first ∷ others
  pub ahead : IsAhead w left
  pub same : w.bytes.now ≡ buf
  pub spans : Spans buf (own_end first) w.at so_far
  pub whole : pieces_encoding buf order form others ≡ so_far ++ pieces_encoding buf order form left
  pub srids : srid_sizes others ≡ srid_sizes left

-- a piece that was taken begins where the walk was
pub taken_there : {buf : List ℕ} (old : Pieces) {new : Pieces} {xs : List Piece} {p : Piece} → AreBytes buf
    → old.bytes.now ≡ buf → IsAhead old xs → IsTaken new xs p → IsThere buf old.at p
taken_there old {p = p} b same ahead taken =
    next_there b
    (subst (λ z. Ahead z old.order old.dimension old.rings old.geometries old.at (p ∷ taken.rest)) same
    (subst (IsAhead old) taken.first ahead))

module _ {buf : List ℕ} {order : Endianness} {form : Form} where
  pub first_stands : (w : Pieces) (first : Piece) (g : HasGeometry buf)
      → IsTaken w (pieces_of 0 g.spelled g.value) first → w.at ≡ own_end first → w.bytes.now ≡ buf
      → StandSoFar buf order form w first g
  first_stands w first g taken at_is same = grind arith

  pub still_ahead : {w : Pieces} {first : Piece} {g : HasGeometry buf} → StandSoFar buf order form w first g
      → HasAhead w
  still_ahead l = record { pieces = l.left; are = l.ahead }

  pub one_more_stands : {old new : Pieces} {first : Piece} {g : HasGeometry buf} {stands : Bool} → AreBytes buf
      → (outer : Form) → form ≡ inner outer → StandSoFar buf order form old first g
      → HasPassed order form buf old new stands → stands ≡ true → StandSoFar buf order form new first g
  one_more_stands {old = old} b outer is l passed stood =
      let p = passed.piece in
      let w = passed.is stood in
      let taken = passed.step.steps l.left l.ahead in
      let none : form_srid form ≡ None = ap form_srid is ∙ inner_srid outer in
      let here = share_encoding order form (share_in buf p) in
      let there = there_span b (taken_there old b l.same l.ahead taken) none w
      (omega (arith, ap length l.same)) in
      record {
        others = l.others;
        left = taken.rest;
        so_far = l.so_far ++ here;
        all = l.all;
        ahead = taken.ahead;
        same = passed.step.same ∙ l.same;
        spans = span_on l.spans (subst (λ k. Spans buf old.at k here) (sym passed.step.inside.ends) there);
        whole = grind (arith, append_assoc);
        srids = omega (arith, ap srid_sizes taken.first, ap (λ s. srid_size (is_some s)) w.plain);
      }

-- ---- the two parts

pub all_stand : {buf : List ℕ} (options : WriteOptions) {inside : Form} {w : Pieces} {first : Piece} {bytes start : ℕ}
    {g : HasGeometry buf} → AreBytes buf → IsPieceAt buf 0 first → inside ≡ inner options.form
    → bytes ≡ length g.begins.front → (l : StandSoFar buf options.endianness inside w first g) → l.left ≡ []
    → first.order ≡ options.endianness → is_empty_point buf first ≡ false → own_end first ≤ length buf
    → start ≡ 5 + srid_size (is_some first.srid) → IsCopied options first bytes start g
all_stand {buf = buf} options {inside = inside} {w = w} {first = first} {bytes = bytes} {start = start} {g = g} b
    outermost inside_is long l none order_is some fits start_is =
    let order = options.endianness in
    let form = options.form in
    let own = subst (IsGeometryThere buf 0) (sym (outermost g)) (geometry_there b 0 g) in
    let head : List ℕ = header_of options (type_of first.kind first.dimension) in
    let body : List ℕ = own_body buf order first in
    let tail : List ℕ = body ++ l.so_far in
    let parts : encoding_for options g.value ≡ head ++ tail =
    sym (encoded order form g)
    ∙ rw (← pieces_say buf 0 g.spelled g.value g.rest g.begins, l.all)
    (grind (arith, header_of_some, append-nil, append_assoc)) in
    let at : first.begin + (5 + srid_size (is_some first.srid)) ≡ start = omega arith in
    let stands : Spans buf start (own_end first) body = rw (← at, ← order_is) (own.body fits some) in
    let there : Spans buf start w.at tail = span_on stands l.spans in
    let ends : bytes ≡ start + length tail =
    omega (
      arith,
      measured order form buf g b long,
      ap srid_sizes l.all,
      ap srid_sizes none,
      ap length parts,
      length-append head tail,
      length-header order form (type_kind (type_of first.kind first.dimension))
          (type_dimension (type_of first.kind first.dimension)),
    ) in grind (arith, take_front)

-- ---- a polygon

ring_at : Pieces → Piece
ring_at w = ring_piece w.order w.dimension w.at (number w.order 4 (drop w.at w.bytes.now))

abbrev past_ring : Pieces → Pieces
past_ring w = record w { rings = w.rings - 1; at = own_end (ring_at w) }

-- a ring in the order that is written stands as it is written
ring_passed : {buf : List ℕ} {order : Endianness} {form : Form} (w : Pieces) → HasAhead w → 0 < w.rings
    → w.order ≡ order → HasPassed order form buf w (past_ring w) true
unfolding ring_at
ring_passed w ahead some order_is =
    let taken = ring_takes w ahead some (ring_at w) refl (own_end (ring_at w)) refl in grind (arith, ring_at, onward)

-- all pieces behind the first one stand as they are written
record AllStand (buf : List ℕ) (order : Endianness) (form : Form) (first : Piece) (g : HasGeometry buf) : Type 0 where
  pub walk : Pieces
  pub so_far : StandSoFar buf order form walk first g
  pub none : so_far.left ≡ []

rings_stand : {buf : List ℕ} {order : Endianness} (outer : Form) {first : Piece} {g : HasGeometry buf} → AreBytes buf
    → (n : ℕ) (w : Pieces) → w.rings ≡ n → w.geometries ≡ 0 → w.order ≡ order
    → StandSoFar buf order (inner outer) w first g
    → AllStand buf order (inner outer) first g
rings_stand outer b zero w rings alone order_is l =
    record { walk = w; so_far = l; none = none_ahead l.ahead (omega arith) (omega arith) }
rings_stand outer b (suc n) w rings alone order_is l =
    rings_stand outer b n (past_ring w) (omega arith) alone order_is
    (one_more_stands b outer refl l (ring_passed w (still_ahead l) (omega arith) order_is) refl)

no_point : (buf : List ℕ) (p : Piece) → p.kind ≡ 3 → is_empty_point buf p ≡ false
no_point buf p three = ap (λ k. (k == 1) && all_nan (own_words buf p)) three

-- a polygon in the order that is written is its header, and the input's bytes behind its own header
pub polygon_stands : (options : WriteOptions) (w : Pieces) {first : Piece} {bytes start : ℕ} → AreBytes w.bytes.now
    → IsPieceAt w.bytes.now 0 first → first.kind ≡ 3 → first.order ≡ options.endianness
    → (g : HasGeometry w.bytes.now) → bytes ≡ length g.begins.front → start ≡ 5 + srid_size (is_some first.srid)
    → IsCopied options first bytes start g
polygon_stands options w {first = first} b outermost three order_is g long start_is =
    let front : Pieces = record w { at = 0; rings = 0; geometries = 1 } in
    let ahead : IsAhead front (pieces_of 0 g.spelled g.value) = ahead_first w.bytes.now w.order w.dimension g in
    let taken = polygon_takes front (record { pieces = _; are = ahead }) refl (omega arith) first outermost
    (own_end first) refl three in
    let behind : Pieces =
    record front {
      at = own_end first;
      rings = first.count;
      geometries = 0;
      order = first.order;
      dimension = first.dimension;
    } in
    let all = rings_stand options.form b first.count behind refl refl order_is
    (first_stands behind first g (taken.steps _ ahead) refl refl) in
    all_stand options b outermost refl long all.so_far all.none order_is (no_point w.bytes.now first three)
    taken.inside.inside start_is
