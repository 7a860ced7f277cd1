use Rattle.std.proofs.Common.{◌*◌, ◌<◌, length, refl, arith}
use Rattle.std.proofs.lemmas.Result.{IfOk-from_err}
use Rattle.wkb_command.proofs.Written.{piece_written, digits_and_feed, wrote_more}
use Rattle.wkb_command.proofs.transfer.write_hex_line.Goals as goal

pub returns-in_err-write_whole : goal.returns-in_err-write_whole
returns-in_err-write_whole g c = record {
  rest = _;
  beginning = piece_written _ _ _ _ _ c.split_at.ensures.by_index.0 c.encode_piece.ensures.hex c.loop-rest.invariant
      c.write_whole.ensures refl;
  whole = IfOk-from_err _ _ c.from_residual.ensures.0;
}

pub loop-rest-preserved : goal.loop-rest-preserved
loop-rest-preserved g c =
    piece_written _ _ _ _ _ c.split_at.ensures.by_index.0 c.encode_piece.ensures.hex c.loop-rest.invariant
    c.in_ok-write_whole.ensures (rw c.in_ok-write_whole.ensures.whole refl)

pub returns : goal.returns
returns g c =
    let fits : 2 * length c.loop-rest.rest.now < length c.encode_piece-2.new.digits =
    omega (arith, c.encode_piece-2.ensures.room, c.loop-rest-test.array_long) in
    let line = digits_and_feed c.encode_piece-2.new.digits c.loop-rest.rest.now c.encode_piece-2.ensures.hex fits in
    let wrote = c.write_whole-2.ensures in
    record {
      rest = wrote.rest;
      beginning = wrote_more (rw (← line) at c.loop-rest.invariant) wrote.beginning;
      whole = wrote.whole;
    }
