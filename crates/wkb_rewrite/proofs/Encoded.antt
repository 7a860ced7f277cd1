-- The encoding is laid piece by piece.
use Rattle.std.proofs.Common.{◌≡◌, ℕ, ◌+◌, ◌≤◌, List, [], ◌++◌, length, sym, ap, ◌∙◌, arith, length-append, nat_lt}
use Rattle.std.proofs.Common.{true, append-nil, refl, map, Some, subst}
use lib.Seq.{sets}
use Rattle.wkb_laws.specs.Prelude.{Endianness, Form, inner, encoding, geometry_of}
use Rattle.wkb_check.specs.Prelude.{HasGeometry, own_end, IsPieceAt, IsTaken, Steps, pieces_of, DescribesFront}
use Rattle.wkb_check.specs.declared.{pieces.Piece.Piece, pieces.Pieces.Pieces, answer.Summary.Summary}
use Rattle.wkb_check.proofs.Placing.{sets_after, only_piece, own_inside}
use Rattle.wkb_sink.specs.declared.options.WriteOptions.{WriteOptions}
use Rattle.wkb_rewrite.specs.Shares.{Share, share_in, share_encoding, piece_encoding, HasRoomAt, IsLaidAt}
use Rattle.wkb_rewrite.specs.Targets.{FrontFits, LaysFront, IsFrontSize, IsFrontEncoding}
use Rattle.wkb_rewrite.proofs.Comparing.{encoded}
use Rattle.wkb_check.proofs.Ahead.{here}
use Rattle.wkb_rewrite.proofs.Encodings.{shares_encoding}
use Rattle.wkb_rewrite.proofs.Spelled.{pieces_say}
use Rattle.wkb_rewrite.proofs.Walks.{Rest, Next, next_taken}
use Rattle.wkb_rewrite.proofs.Laying.{laid_length}

-- what is left to be laid makes of the slice what all makes of it
pub record Left (buf : List ℕ) (order : Endianness) (form : Form) (w : Pieces) (at : ℕ) (out before whole : List ℕ)
    : Type 0 where
  pub shares : List Share
  pub rest : Rest buf w shares
  pub size : at + length (shares_encoding order form shares) ≡ length whole
  pub laid : sets out at (shares_encoding order form shares) ≡ sets before 0 whole
  pub long : length out ≡ length before

module _ {buf : List ℕ} {order : Endianness} {form : Form} {w : Pieces} {at : ℕ} {out before whole : List ℕ}
    (l : Left buf order form w at out before whole) where
  pub left_none : l.shares ≡ [] → (at ≡ length whole) × (out ≡ sets before 0 whole)
  left_none none = grind arith

  -- a walk that stayed where it was has as much left
  pub left_still : {new : Pieces} → new ≡ w → Left buf order form new at out before whole
  left_still e = subst (λ v. Left buf order form v at out before whole) (sym e) l

  module _ {new : Pieces} {p : Piece} (n : Next buf new l.shares p) where
    abbrev pub own : List ℕ
    own = share_encoding order form (share_in buf p)

    abbrev pub others : List ℕ
    others = shares_encoding order (inner form) n.others

    all : shares_encoding order form l.shares ≡ own ++ others
    all = ap (shares_encoding order form) n.first

    left_room : length whole ≤ length before → at + length own ≤ length out
    left_room room = omega (arith, ap length all, length-append own others)

    left_next : {to : ℕ} {with : List ℕ} → IsLaidAt out with at to own
        → Left buf order (inner form) new to with before whole
    left_next {to = to} p = record {
      shares = n.others;
      rest = n.left;
      size = omega (arith, ap length all, length-append own others);
      laid = grind (arith, sets_after, all);
      long = laid_length p ∙ l.long;
    }

  -- there is room for the next piece
  pub next_fits : {new : Pieces} {p : Piece} → Steps w (Some p) new → length whole ≤ length before
      → record { inside : own_end p ≤ length buf; room : HasRoomAt out at (share_encoding order form (share_in buf p)) }
  next_fits s room = let n = next_taken l.rest s in record { inside = n.own; room = left_room n room }

  -- behind the first piece the form stays the same
  pub left_inside : inner form ≡ form → {new : Pieces} {p : Piece} → Steps w (Some p) new → {to : ℕ} {with : List ℕ}
      → IsLaidAt out with at to (share_encoding order form (share_in buf p))
      → Left buf order form new to with before whole
  left_inside same s laid = rw same at (left_next (next_taken l.rest s) laid)

-- the first piece comes first, and then the others are left
module _ {buf : List ℕ} (order : Endianness) (form : Form) (g : HasGeometry buf) {w : Pieces} {p : Piece}
    (taken : IsTaken w (pieces_of 0 g.spelled g.value) p) where
  abbrev first_own : List ℕ
  first_own = share_encoding order form (share_in buf p)

  abbrev first_others : List ℕ
  first_others = shares_encoding order (inner form) (map (share_in buf) taken.rest)

  first_all : encoding order form (geometry_of g.value) ≡ first_own ++ first_others
  first_all =
      sym (encoded order form g)
      ∙ ap (shares_encoding order form)
      (sym (pieces_say buf 0 g.spelled g.value g.rest g.begins) ∙ ap (map (share_in buf)) taken.first)

  pub first_room : (out : List ℕ) → length (encoding order form (geometry_of g.value)) ≤ length out
      → HasRoomAt out 0 (share_encoding order form (share_in buf p))
  first_room out fits = omega (arith, ap length first_all, length-append first_own first_others)

  pub first_left : {to : ℕ} {out with : List ℕ} → w.bytes.now ≡ buf
      → IsLaidAt out with 0 to (share_encoding order form (share_in buf p))
      → Left buf order (inner form) w to with out (encoding order form (geometry_of g.value))
  first_left {to = to} {out = out} same laid = record {
    shares = map (share_in buf) taken.rest;
    rest = record { pieces = taken.rest; ahead = taken.ahead; bytes = same; say = refl };
    size = omega (arith, laid.end_is, ap length first_all, length-append first_own first_others);
    laid = grind (arith, sets_after, first_all);
    long = laid_length laid;
  }

-- a geometry with coordinates is one piece, and its encoding is that piece's
module _ {buf : List ℕ} {found : Summary} (d : DescribesFront buf found) {p : Piece} (first : IsPieceAt buf 0 p)
    (low : nat_lt p.kind 3 ≡ true) (options : WriteOptions) where
  abbrev pub own_encoding : List ℕ
  own_encoding = piece_encoding options buf p

  alone : IsFrontEncoding buf options own_encoding
  alone g =
      sym (encoded options.endianness options.form g)
      ∙ ap (shares_encoding options.endianness options.form)
      (sym (pieces_say buf 0 g.spelled g.value g.rest g.begins)
      ∙ ap (map (share_in buf)) (only_piece buf 0 g p (first g) low))
      ∙ append-nil own_encoding

  pub alone_fits : (out : List ℕ) → FrontFits buf options out
      → record { inside : own_end p ≤ length buf; room : HasRoomAt out 0 own_encoding }
  alone_fits out fits = record {
    inside = (own_inside buf 0 _ (here d) p (first (here d)) refl).inside;
    room = omega (arith, fits (here d), ap length (alone (here d)));
  }

  pub alone_laid : {out new : List ℕ} {end : ℕ} → IsLaidAt out new 0 end own_encoding
      → record { size : IsFrontSize buf options.endianness options.form end; laid : LaysFront buf options out new }
  alone_laid p = grind (arith, alone)
