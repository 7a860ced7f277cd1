use Rattle.std.proofs.Common.{arith, length-append}
use Rattle.wkb_rewrite.specs.Copies.{copied_header}
use Rattle.wkb_rewrite.proofs.Laying.{laid_on, part_laid, laid_length}
use Rattle.wkb_rewrite.proofs.copied.Copied.lay.Goals as goal

pub returns : goal.returns
returns c =
    let header = c.lay_type_header-start.ensures in
    let both = length-append (copied_header c.args.self.now) c.args.self.now.rest.now in
    laid_on header
    (part_laid _ _ _ _ _ _ (omega (arith, laid_length header)) (omega arith) (omega arith) c.copy_from_slice.ensures.after)
