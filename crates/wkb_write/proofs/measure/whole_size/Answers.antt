use Rattle.wkb_write.proofs.Prelude.{arith}
use Rattle.wkb_write.proofs.Sizes.{size_measured}
use Rattle.wkb_write.proofs.measure.whole_size.Goals as goal

pub returns-in-Some-clause-size : goal.returns-in-Some-clause-size
returns-in-Some-clause-size c = λ g lawful measured.
    size_measured c.args.form g c.length_of_header-header.ensures.fits lawful measured c.as_result.ensures
    c.in_ok-as_result.was _ (omega arith) (omega arith)
