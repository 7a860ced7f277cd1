use Rattle.std.proofs.Common.{◌/◌, refl, arith, length}
use Rattle.wkb_geom.specs.Dimensions.{size}
use Rattle.wkb_levels.specs.EndLists.{start_of, ends_of}
use Rattle.wkb_levels.proofs.Pieces.{part_fits}
use Rattle.wkb_levels.proofs.RingLaws.{count_rings}
use Rattle.wkb_levels.proofs.rings.Rings.part.Goals as goal

pub invariant_of-result : goal.invariant_of-result
invariant_of-result c =
    let r = c.args.self.now in
    record {
      some_words = r.some_words;
      in_range = r.in_range;
      fit = rw (c.part.ensures.start, c.part.ensures.ends)
          (part_fits (length r.words.now / size r.dim) (start_of r.ends) (ends_of r.ends) c.args.from c.args.to _ r.fit
          c.requires.order (omega (arith, c.requires.within, count_rings r)) refl);
    }
