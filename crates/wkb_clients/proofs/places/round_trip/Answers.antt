use Rattle.std.proofs.Common.{◌≡◌, Some, ◌∙◌, arith}
use Rattle.wkb.specs.Geometries.{normal_point}
use Rattle.wkb.proofs.Calls.{value_is_read}
use Rattle.wkb_clients.specs.Common.{Xy, point}
use Rattle.wkb_cases.specs.Places.{words_of_place}
use Rattle.wkb_clients.proofs.places.round_trip.Goals as goal
use Rattle.wkb_clients.proofs.places.round_trip.Goals.{After-as_type}

-- what was read is the point that was written
value : (c : After-as_type)
    → point Xy (normal_point (Some (words_of_place c.args.place.now))) ≡ c.in-Ok-read_wkb.geometry.value
value c =
    value_is_read c.new-sink.ensures.bytes c.write_point.ensures c.in-Ok.is (omega arith)
    (c.as_slice.ensures.value ∙ c.into_vec-bytes.ensures) c.in-Ok-read_wkb.ensures.one_front

pub returns-in_default : goal.returns-in_default
returns-in_default c = grind (arith, value)

pub returns-in-Some : goal.returns-in-Some
returns-in-Some c = grind (arith, value)

pub returns : goal.returns
returns c = grind (arith, value)
