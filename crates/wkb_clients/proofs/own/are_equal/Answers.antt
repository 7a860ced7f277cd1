use Rattle.std.proofs.Common.{Bool, Err}
use Rattle.wkb.proofs.Calls.{always_compared, values_compared}
use Rattle.wkb_clients.proofs.own.are_equal.Goals as goal

pub unreachable-requires : goal.unreachable-requires
unreachable-requires c =
    always_compared {A = Bool} (Err _) c.buf.ensures.front c.buf-2.ensures.front
    c.in-Err.ensures.err c.in-Err.ensures.no_memory

pub returns : goal.returns
returns c = values_compared c.in-Ok.equal c.buf.ensures.front c.buf-2.ensures.front c.in-Ok.ensures.ok
