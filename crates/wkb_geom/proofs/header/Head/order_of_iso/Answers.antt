use Rattle.std.proofs.Common.{◌∙◌, sym, ap, arith, false}
use Rattle.wkb_geom.specs.Reading.{meaning_of}
use Rattle.wkb_geom.proofs.Heads.{head_meant, iso_meant}
use Rattle.wkb_geom.proofs.header.Head.order_of_iso.Goals as goal

pub returns : goal.returns
returns c = record {
  head = head_meant c.args.bytes.now c.in_ok-order.order c.u32_at.result c.args.wanted false
      (omega (arith, c.if-bytes-lt-MEMBER_HEADER_SIZE.false)) (sym c.of_byte.ensures ∙ c.in_ok-order.was)
      c.u32_at.ensures
      (ap meaning_of (c.if-u32_at-from.false ∙ c.from.ensures) ∙ iso_meant c.args.wanted);
}
