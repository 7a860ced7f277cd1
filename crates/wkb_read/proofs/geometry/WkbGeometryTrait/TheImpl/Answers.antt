use Rattle.wkb_read.proofs.Prelude.{arith}
use Rattle.wkb_view.specs.Lawful.{line_string_item_lawful, multi_point_item_lawful}
use Rattle.wkb_read.proofs.Parts.{point_means, part_seen, collection_told}
use Rattle.wkb_read.proofs.geometry.WkbGeometryTrait.TheImpl.Goals as goal

pub as_type-tells : goal.as_type-tells
as_type-tells g _ _ _ _ _ _ _ _ _ _ _ _ _ _ _ _ _ _ _ _ _ _ _ _ c =
    grind (arith, point_means, part_seen, line_string_item_lawful, multi_point_item_lawful, collection_told)
