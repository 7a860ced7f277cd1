use Rattle.wkb_abi.specs.Tables.{entry_of}
use Rattle.wkb_abi.proofs.Entries.{ended}
use Rattle.wkb_abi.proofs.parts.end_part.Goals as goal

pub returns : goal.returns
returns c = λ before p end next is.
    ended c.args.parts.now before c.args.index (entry_of p end next) _ c.args.after.byte c.args.after.index c.requires is
