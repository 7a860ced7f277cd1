use Rattle.std.specs.Io.KnownBytes.{Consumes}
use Rattle.wkb_command.proofs.transfer.read_to_end.Given as goal

-- the bytes so far are those that the reader gave
abbrev pub invariant-loop : goal.invariant-loop
invariant-loop g l = Consumes (g.R.Read.remaining l.initial.input) (g.R.Read.remaining l.input) l.bytes.items
