use Rattle.std.proofs.Common.{arith, ap, is_some}
use Rattle.wkb_laws.specs.Prelude.{srid_size}
use Rattle.wkb_rewrite.proofs.Measured.{kind_of, long_of, measured, own_srid_alone}
use Rattle.wkb_rewrite.proofs.encoding.size_with_own_srid.Goals as goal

pub returns-clause-size : goal.returns-clause-size
returns-clause-size c = λ order g.
    omega (
      arith,
      ap (λ o. srid_size (is_some o)) c.srid_of_form.ensures,
      measured order c.args.form c.args.buf.now g (λ i. (c.type_inv.buf i).fits) (long_of c.requires.here g),
      own_srid_alone 0 g.spelled g.value g.begins.front g.begins.first _ (c.outermost-first.ensures g)
          (omega (arith, kind_of c.requires.here _ c.outermost-first.ensures)),
    )
