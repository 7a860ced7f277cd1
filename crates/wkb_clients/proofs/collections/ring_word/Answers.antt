use Rattle.wkb.specs.Offsets.{BeginsAt, begins_at, none_begins_at}
use Rattle.wkb_clients.proofs.Rings.{word_or_none, no_coordinate, no_ring}
use Rattle.wkb_clients.proofs.collections.ring_word.Goals as goal
use Rattle.wkb_clients.proofs.collections.ring_word.Goals.{After-ring_of_member}

-- the geometry that was read begins at the offset
there : (c : After-ring_of_member) → BeginsAt c.args.blob.now c.args.offset c.in-Ok.geometry
there c =
    begins_at c.args.blob.now c.args.offset c.from_offset.result.now c.in-Ok.geometry c.from_offset.ensures
    c.in-Ok.ensures.front c.in-Ok.ensures.one_front

pub returns-in-Err : goal.returns-in-Err
returns-in-Err c =
    none_begins_at c.args.blob.now c.args.offset c.from_offset.result.now c.in-Err.e c.from_offset.ensures
    c.in-Err.ensures.no_front (λ none x h. none h.whole.spelled h.whole.value h.front.rest h.front.front)

pub returns-in-Some-coord : goal.returns-in-Some-coord
returns-in-Some-coord c =
    let at = c.args.at in
    word_or_none c.args.blob.now c.args.offset at.member at.ring at.coordinate at.word c.in-Ok.geometry
    (there (goal.at.returns-in-Some-coord c).After-ring_of_member)
    _ _ c.nth.result c.in-Some.ensures c.in-Some-coord.ensures.value c.nth.ensures

pub returns-in-Some : goal.returns-in-Some
returns-in-Some c =
    let at = c.args.at in
    no_coordinate c.args.blob.now c.args.offset at.member at.ring at.coordinate at.word c.in-Ok.geometry
    (there (goal.at.returns-in-Some c).After-ring_of_member) _ c.in-Some.ensures c.in-None-coord.ensures.value

pub returns : goal.returns
returns c =
    let at = c.args.at in
    no_ring c.args.blob.now c.args.offset at.member at.ring at.coordinate at.word c.in-Ok.geometry
    (there (goal.at.returns c).After-ring_of_member) c.in-None.ensures
