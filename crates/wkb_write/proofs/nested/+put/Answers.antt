use Rattle.wkb_write.proofs.Prelude.{arith, refl}
use Rattle.wkb_sink.proofs.Laid.{exits}
use Rattle.wkb_write.proofs.Loops.{last_laid, read_cut}
use Rattle.wkb_write.proofs.nested.+put.Goals as goal

pub put_members-returns-in_err-put_member : goal.put_members-returns-in_err-put_member
put_members-returns-in_err-put_member g t c =
    exits _ _ c.from_residual-in_err-put_member.ensures.1
    (read_cut c.loop-i.invariant _ _ c.index-members-i.is refl (omega arith) c.in_err-put_member.ensures)

pub put_members-returns : goal.put_members-returns
put_members-returns g t c =
    last_laid c.loop-i.invariant _ _ c.index-members-last.is (omega arith) _ (omega arith) c.put_member-2.ensures
