-- The encoding that is asked for of what was checked, and how long it is.
use Rattle.wkb_abi.proofs.Common.{◌≡◌, ℕ, ◌+◌, ◌≤◌, ◌<◌, inl, inr, List, length, Some, refl, ap, ◌∙◌, arith}
use Rattle.wkb_abi.proofs.Common.{header, length-sets, Endianness, encoding, geometry_of, DescribesFront, Summary, here}
use Rattle.wkb_abi.proofs.Common.{IsRow, IsRowStep, RowHas, RowFails}
use Rattle.wkb_laws.specs.Prelude.{Form, header_encoding, point_encoding, line_string_encoding, polygon_encoding}
use Rattle.wkb_laws.specs.Prelude.{members_encoding, Geometry, AreBytes}
use Rattle.wkb_geom.specs.Geometries.{point}
use Rattle.wkb_rewrite.proofs.Measured.{at_most}
use Rattle.wkb_rewrite.specs.Targets.{encoding_for, IsFrontSize, LaysFront}
use Rattle.wkb_sink.specs.declared.options.WriteOptions.{WriteOptions}
use Rattle.wkb_abi.specs.Requests.{IsRequested, request_of, options_for}
use Rattle.wkb_abi.specs.RowItems.{nothing, fails}
use Rattle.wkb_abi.specs.Writings.{WritesRequested, WritesAsked, HasEncoding, FailsToWrite, WritesAny, accepted}
use Rattle.wkb_abi.specs.Writings.{rejected, unknown, refused}
use Rattle.wkb_abi.specs.declared.{column.Column.Column, options.Options.Options, options.Request.Request}
use Rattle.wkb_abi.specs.declared.{status.TheConstants.NO_ROOM, status.TheConstants.OK}
use Rattle.wkb_c.proofs.RowItems.{IsLent, first_held, row_step, unchanged}

-- an encoding has a first byte
pub some_encoding : (order : Endianness) (form : Form) (g : Geometry) → 0 < length (encoding order form g)
unfolding header_encoding point_encoding line_string_encoding polygon_encoding members_encoding
some_encoding order form (point d c) = omega arith
some_encoding order form _ = omega arith

some_requested : (request : Request) (input out : List ℕ) → IsRequested request input out → 0 < length out
some_requested request input out h = grind (arith, some_encoding, geometry_of, header)

-- the encoding under the options of a request is what is asked for
module _ (request : Request) {input : List ℕ} {found : Summary} (d : DescribesFront input found)
    {options : WriteOptions} (options_are : options ≡ options_for request found.srid) where
  abbrev bytes : List ℕ
  bytes = encoding_for options d.value

  requested_of : (request : Request) → options ≡ options_for request found.srid → IsRequested request input bytes
  requested_of request is = grind arith

  bound : {size : ℕ} → AreBytes input → size ≡ length bytes → size ≤ length input + 4
  bound are size_is = omega (arith, size_is, at_most options.endianness options.form input (here d) are)

  -- it is laid, or there is less room
  pub writes : {out new : List ℕ} {size : ℕ} → AreBytes input → IsFrontSize input options.endianness options.form size
      → size ≤ length out → LaysFront input options out new → WritesRequested request input out new OK size
  writes {out} are size_is fit laid = record {
    written = λ ok. record {
      items = bytes;
      is = requested_of request options_are;
      held = first_held (size_is (here d)) fit (laid (here d));
    };
    no_room = λ none. absurd (omega (arith, none));
    bound = bound are (size_is (here d));
    known = inl refl;
    long = ap length (laid (here d)) ∙ length-sets out 0 bytes;
    out_kept = λ differ. absurd (differ refl);
  }

  pub lacks_room : {out : List ℕ} {size : ℕ} → AreBytes input → IsFrontSize input options.endianness options.form size
      → length out < size → WritesRequested request input out out NO_ROOM size
  lacks_room are size_is short = record {
    written = λ ok. absurd (omega (arith, ok));
    no_room = λ none. record {
      items = bytes;
      is = requested_of request options_are;
      lacks = record { count_is = size_is (here d); short = omega (arith, short, size_is (here d)) };
    };
    bound = bound are (size_is (here d));
    known = inr refl;
    long = refl;
    out_kept = λ differ. refl;
  }

-- what is written for a request is written for the options that ask for it
pub meant : {o : Options} {request : Request} {input before after : List ℕ} {status size size' : ℕ}
    → Some request ≡ request_of o → WritesRequested request input before after status size'
    → WritesAsked o input before after status size size'
meant asked w = grind arith

-- the step of a row that has these bytes
pub any_step : {c : Column} {o : Options} {i start status count : ℕ} {before lent sub after row : List ℕ}
    → IsRow c i row → WritesAny o row lent sub status 0 count
    → (length sub ≡ length lent → IsLent start before lent sub after)
    → IsRowStep (RowHas (HasEncoding o) c) (RowFails (FailsToWrite o) c) i status count start before after
any_step {row = row} is (accepted w) l = elim w.known [
  | inl known ↦
      row_step is (λ row bytes h. some_requested h.request row bytes h.is_requested) (l w.long) w.written w.no_room
      w.out_kept known
  | inr none ↦
      nothing (fails row is (unknown (w.unknown.0 none) none))
      (w.size_kept (λ ok. omega (arith, ok, none)) (λ short. omega (arith, short, none)))
      (unchanged (l w.long) (w.out_kept (λ ok. omega (arith, ok, none))))
]
any_step {row = row} is (rejected some why same size_is) l =
    nothing (fails row is (refused some why.0 why.1)) size_is (unchanged (l (ap length same)) same)
