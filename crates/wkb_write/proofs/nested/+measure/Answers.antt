use Rattle.wkb_write.proofs.Prelude.{arith, refl}
use Rattle.wkb_write.specs.Measures.{IsAdded, IsMeasured, result_of}
use Rattle.wkb_write.proofs.Collections.{collection_added, members_ahead}
use Rattle.wkb_write.proofs.FirstItem.{item_read}
use Rattle.wkb_write.proofs.Falls.{members_fall, member_falls}
use Rattle.wkb_write.proofs.Sums.{part_step, part_refused, last_part, all_parts}
use Rattle.wkb_write.proofs.nested.+measure.Goals as goal

pub add_members-loop-i-init : goal.add_members-loop-i-init
add_members-loop-i-init g t c = record {
  ahead =
      members_ahead _ _ _ _ _ c.in_default.ensures c.in-Some-count_to_write.ensures
      (omega (arith, c.measured_size-own.ensures, c.saturating_add-total.ensures));
  fits = omega (arith, c.saturating_add-total.ensures);
}

pub add_members-add_members-requires : goal.add_members-add_members-requires
add_members-add_members-requires g t c κs within =
    let falls = member_falls g.K.Nested.geometry _ _ _ t c.index-members-i.is c.loop-i-test.true c.decreases in
    (omega (arith, members_fall _ _ _ _ c.in-Some-members_of.ensures refl, falls), within)

pub add_members-returns-in_default-measure_geometry : goal.add_members-returns-in_default-measure_geometry
unfolding IsAdded IsMeasured
add_members-returns-in_default-measure_geometry g t c =
    part_refused c.loop-i.invariant.ahead _
    (item_read c.args.members.now _ _ c.index-members-i.is refl c.loop-i-test.true c.measure_geometry.ensures.measured)
    c.in_default-measure_geometry.not-Bytes

pub add_members-loop-i-preserved : goal.add_members-loop-i-preserved
unfolding IsMeasured
add_members-loop-i-preserved g t c = record {
  ahead =
      part_step c.loop-i.invariant.ahead
      (item_read c.args.members.now _ _ c.index-members-i.is refl c.loop-i-test.true c.in-Bytes.ensures.measured)
      (omega (arith, c.saturating_add-total-in-loop-i.ensures));
  fits = omega (arith, c.saturating_add-total-in-loop-i.ensures);
}

-- the last member is a collection
pub add_members-returns-in-Some-members_of : goal.add_members-returns-in-Some-members_of
unfolding IsAdded
add_members-returns-in-Some-members_of g t c =
    let added = collection_added g.K.Nested.geometry _ c.dim.ensures c.in-Some-members_of.ensures _ _
    c.add_members.ensures in
    last_part c.loop-i.invariant.ahead (result_of c.add_members.result)
    (item_read c.args.members.now _ _ c.index-members-i.is refl c.loop-i-test.true added)
    (omega (arith, c.in-Some-count_to_write.ensures.1, c.if-i-count.true))

pub add_members-returns : goal.add_members-returns
unfolding IsAdded
add_members-returns g t c =
    let whole = all_parts c.loop-i.invariant.ahead c.loop-i-test.false in
    (whole.0, omega (arith, whole.1, c.loop-i.invariant.fits))
