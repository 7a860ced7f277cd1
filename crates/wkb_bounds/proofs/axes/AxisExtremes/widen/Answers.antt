use Rattle.std.proofs.Common.{ap, arith, rules}
use Rattle.wkb_bounds.specs.declared.extremes.Extremes.{Extremes}
use Rattle.wkb_bounds.specs.Ordinates.{z_axis, m_axis}
use Rattle.wkb_bounds.proofs.Widening.{run_widens}
use Rattle.wkb_bounds.proofs.axes.AxisExtremes.widen.Goals as goal

pub widen_at-requires-clause-room : goal.widen_at-requires-clause-room
widen_at-requires-clause-room c =
    omega (arith, ap (λ (k : Extremes). k.count) c.widen_plane.ensures.z, c.requires.room z_axis)

pub widen_at-requires-2-clause-room : goal.widen_at-requires-2-clause-room
widen_at-requires-2-clause-room c =
    omega (arith, ap (λ (k : Extremes). k.count) c.widen_plane.ensures.m, c.requires.room m_axis)

pub returns : goal.returns
returns c = run_widens c.args.dimension _ _ c.of-run.ensures c.coordinate_size.ensures (search (rules))
