use Rattle.wkb_levels.proofs.PolygonLaws.{begins_from, ends_in}
use Rattle.wkb_levels.proofs.polygons.Polygons.polygon.Goals as goal

pub overflow_sub-from : goal.overflow_sub-from
overflow_sub-from c = begins_from c.args.self.now _ _ c.args.i c.start-first.ensures c.begin.ensures c.requires

pub overflow_sub-to : goal.overflow_sub-to
overflow_sub-to c =
    (ends_in c.args.self.now _ _ _ c.args.i c.start-first.ensures c.begin.ensures c.end.ensures c.requires).0
