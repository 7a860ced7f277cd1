use Rattle.std.proofs.Common.{◌-◌, length}
use Rattle.wkb_check.specs.Known.{HasGeometry}
use Rattle.wkb_rewrite.proofs.Copying.{StandSoFar}
use Rattle.wkb_rewrite.proofs.copied.Copied.by_walk.Given as goal

abbrev pub decreases-loop-stands : goal.decreases-loop-stands
decreases-loop-stands l = length l.pieces.bytes.now - l.pieces.at

abbrev pub invariant-loop-stands : goal.invariant-loop-stands
invariant-loop-stands l = (g : HasGeometry l.buf) → StandSoFar l.buf l.options.endianness l.form l.pieces l.first g
