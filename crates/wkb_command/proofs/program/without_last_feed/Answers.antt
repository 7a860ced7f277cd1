use Rattle.std.proofs.Common.{◌∷◌, [], inl}
use Rattle.std.proofs.lemmas.Bool.Decides.{Decides-eqb}
use Rattle.std.proofs.lemmas.Slice.Eq.{strip_suffix_is}
use Rattle.wkb_command.proofs.program.without_last_feed.Goals as goal

pub returns-in-Some : goal.returns-in-Some
returns-in-Some c =
    let cases =
    strip_suffix_is Decides-eqb c.args.input.now (10 ∷ []) c.strip_suffix.result c.strip_suffix.ensures.cases in
    inl (rw c.in-Some.is at cases)
