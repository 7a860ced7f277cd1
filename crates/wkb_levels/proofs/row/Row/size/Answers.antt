use Rattle.wkb_levels.proofs.row.Row.size.Goals as goal

pub returns-in-MultiPolygon : goal.returns-in-MultiPolygon
returns-in-MultiPolygon c = rw c.in-MultiPolygon.is c.made_polygons_wkb_size_with.ensures.size
