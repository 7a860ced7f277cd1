use Rattle.wkb_clients.proofs.own.bounds_of.Goals as goal

pub unreachable-requires : goal.unreachable-requires
unreachable-requires c = c.in-Err.ensures.refused.no_front _ _ _ c.buf.ensures.front.front

pub returns : goal.returns
returns c = c.in-Ok.ensures.one_front _ _ _ c.buf.ensures.front.front
