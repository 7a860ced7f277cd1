use Rattle.std.proofs.Common.{refl}
use Rattle.wkb_levels.specs.Meant.{row_meant}
use Rattle.wkb_levels.proofs.RowWrites.{no_row, row_put, row_lacks}
use Rattle.wkb_levels.proofs.levels.Levels.write_row.Goals as goal

pub returns-in-Ok-clause-written : goal.returns-in-Ok-clause-written
returns-in-Ok-clause-written c =
    row_put c.args.self.now c.args.kind c.args.dim c.args.options.now c.args.i _ _ (row_meant c.in-Some.row) _
    c.in-Some.ensures.row c.in-Ok.ensures.writable c.in-Ok.ensures.ok

pub returns-in-Ok-size-clause-written : goal.returns-in-Ok-size-clause-written
returns-in-Ok-size-clause-written c =
    row_lacks c.args.self.now c.args.kind c.args.dim c.args.options.now c.args.i _ _ (row_meant c.in-Some.row) _ _
    c.in-Some.ensures.row c.in-Err.ensures.err (c.in-Ok-size.ensures c.args.options.now.endianness)
    c.in-Err.ensures.kept

pub returns-in_default-clause-written : goal.returns-in_default-clause-written
returns-in_default-clause-written c =
    no_row c.args.self.now c.args.kind c.args.dim c.args.options.now c.args.i c.args.out.now c.args.out.now
    c.in_default.ensures.row refl
