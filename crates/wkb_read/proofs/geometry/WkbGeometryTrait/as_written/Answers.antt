use Rattle.wkb_read.proofs.Prelude.{◌∙◌, refl}
use Rattle.wkb_view.proofs.Encodings.{is_encoded_fitted}
use Rattle.wkb_read.proofs.geometry.WkbGeometryTrait.as_written.Goals as goal

pub returns-then-is_as_written : goal.returns-then-is_as_written
returns-then-is_as_written c =
    let is = c.if-is_as_written.ensures refl in
    let whole =
    is_encoded_fitted c.args.order c.args.form _ c.in_ok-has_flags.ensures c.args.self.now c.buf.ensures.spells is in
    record { encoding = c.buf.ensures.encoding ∙ whole.encoding; writable = whole.writable }
