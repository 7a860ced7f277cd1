use Rattle.std.proofs.Common.{lit<, arith}
use Rattle.std.proofs.lemmas.Str.Pattern.{contains_char}
use Rattle.wkb_command.proofs.Spelled.{uncut_spells_none, more_spells_none, cut_of}
use Rattle.wkb_command.proofs.program.two_lines.Goals as goal

pub returns-in_err-first : goal.returns-in_err-first
returns-in_err-first c = grind (arith, uncut_spells_none)

pub returns-then-contains : goal.returns-then-contains
returns-then-contains c =
    let feed = contains_char 10 c.in_ok-first.second.now c.contains.result c.contains.ensures.cases (lit< tt) in
    more_spells_none c.args.text.now _ _ c.split_once.ensures.cases c.in_ok-first.was (feed.0 c.if-contains.true)

pub returns : goal.returns
returns c = cut_of c.args.text.now _ _ c.split_once.ensures.cases c.in_ok-first.was
