use Rattle.std.proofs.Common.{◌++◌, ap, ◌∙◌, append_assoc, arith}
use Rattle.wkb_clients.proofs.Blobs.{written}
use Rattle.wkb_clients.specs.Geopackage.{is_ewkb, header_bytes, envelope_bytes}
use Rattle.wkb_clients.proofs.geopackage.write.Goals as goal

pub returns : goal.returns
returns c =
    let h = c.args.whole.now.header in
    let w = c.args.whole.now.geometry in
    let b = c.bounds_of-found.result in
    let header = c.in_ok-add_header.ensures ∙ (λ i. c.in_ok-blob.ensures.items i ++ header_bytes h) in
    let envelope = c.in_ok-add_envelope.ensures ∙ (λ i. header i ++ envelope_bytes h.order h.envelope b) in
    let whole = c.in_ok-extend_from_slice.ensures.items ∙ (λ i. envelope i ++ c.buf-body.ensures.encoding i)
    ∙ append_assoc (header_bytes h) (envelope_bytes h.order h.envelope b) w.encoding in
    record {
      holds =
          written h w b c.extend_from_slice.new.self.items (omega arith) (omega arith)
          (record { low = omega arith; high = omega arith }) (record { low = omega arith; high = omega arith })
          (c.if-is_ewkb.ensures ∙ ap is_ewkb c.buf-body.ensures.encoding) c.buf-body.ensures.read.front
          c.bounds_of-found.ensures whole;
      bounds = b;
      bounded = c.bounds_of-found.ensures;
      whole = whole;
    }
