use Rattle.std.proofs.Common.{lit<}
use Rattle.std.proofs.lemmas.Str.Pattern.{split_parts}
use Rattle.wkb_command.proofs.program.first_line.Goals as goal

pub returns-in-Some-clause-line : goal.returns-in-Some-clause-line
returns-in-Some-clause-line c =
    let parts = split_parts 10 c.args.text.now c.split_once.result c.split_once.ensures.cases (lit< tt) in
    (rw c.in-Some.is at parts).1

pub returns-in-None-clause-line : goal.returns-in-None-clause-line
returns-in-None-clause-line c =
    let parts = split_parts 10 c.args.text.now c.split_once.result c.split_once.ensures.cases (lit< tt) in
    rw c.in-None.is at parts
