use Rattle.std.proofs.Common.{rules}
use Rattle.wkb_abi.proofs.Common.{arith, ap, ◌∙◌, append-nil, sets, subjects}
use Rattle.wkb_abi.specs.Tables.{entries_from}
use Rattle.wkb_c.proofs.Called.{fits_table, table_laid, one_geometry, whole_laid}
use Rattle.wkb_c.proofs.parts.list_parts.Goals as goal

pub lay_geometries-requires : goal.lay_geometries-requires
lay_geometries-requires c = search (rules, fits_table)

pub returns-then-found-eq1-clause-listed : goal.returns-then-found-eq1-clause-listed
returns-then-found-eq1-clause-listed c = grind (arith, whole_laid)

pub returns-clause-listed : goal.returns-clause-listed
returns-clause-listed c = λ ok.
    let d = c.requires.accepted in
    table_laid d (omega (arith, c.if-parts-found.false))
    ((c.lay_geometries.ensures d.rest (one_geometry d)).laid
    ∙ ap (λ xs. sets c.args.parts.now 0 (entries_from 0 0 xs)) (append-nil (subjects d.spelled d.value)))
