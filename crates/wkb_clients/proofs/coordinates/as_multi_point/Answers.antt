use Rattle.std.proofs.Common.{◌≡◌, [], map, Some, ap, subst, ◌∙◌, arith}
use Rattle.wkb.proofs.AllCoordinates.{coordinates_fit, words_are_whole, coordinates_again}
use Rattle.wkb.specs.Geometries.{multi_point}
use Rattle.wkb.specs.Levels.{points_dimensions, points_points}
use Rattle.wkb.specs.Plain.{line_string_coordinates, coordinates_in}
use Rattle.wkb.specs.Values.{dimension}
use Rattle.wkb.specs.Coordinates.{coordinates_of, words_of, HasOnly}
use Rattle.wkb_clients.specs.Coordinates.{points_meant}
use Rattle.wkb_clients.proofs.AllPoints.{Fit, are_points, want_of_room}
use Rattle.wkb_clients.proofs.coordinates.as_multi_point.Goals as goal
use Rattle.wkb_clients.proofs.coordinates.as_multi_point.Goals.{After-as_slice, After-to_vec}

-- every coordinate fits the dimension
fit : (c : After-as_slice) → Fit c.args.geometry.now.value
fit c =
    let t = c.args.geometry.now.value in
    coordinates_fit (dimension t) t c.buf.ensures.read.lawful
    (subst (λ d. HasOnly d t) c.dimension.ensures c.if-not-has_only.ensures)

-- the words are those of all coordinates
words_are : (c : After-as_slice) → c.as_slice.result.now ≡ words_of (coordinates_of c.args.geometry.now.value)
words_are c = c.as_slice.ensures.value ∙ c.in_ok-visit_coordinates.ensures.visited [] c.new.ensures.items

-- the multi point that is written is that of the value
meant : (c : After-to_vec) → Fit c.args.geometry.now.value
    → c.as_slice.result.now ≡ words_of (coordinates_of c.args.geometry.now.value)
    → multi_point (points_dimensions c.new-3.result) (points_points c.new-3.result)
    ≡ points_meant c.args.geometry.now.value
meant c fits are =
    let t = c.args.geometry.now.value in
    let same : line_string_coordinates c.in-Some.line ≡ coordinates_of t =
    c.in-Some.ensures.coordinates ∙ (λ i. coordinates_in (c.dim.ensures i) (are i))
    ∙ coordinates_again (dimension t) (coordinates_of t) fits in
    let dims = c.new-3.ensures.dimensions ∙ c.in-Some.ensures.dimensions ∙ c.dim.ensures in
    λ i. multi_point (dims i) ((c.new-3.ensures.points ∙ ap (map (λ x. Some x)) same) i)

pub unreachable-requires : goal.unreachable-requires
unreachable-requires c =
    let t = c.args.geometry.now.value in
    let p = (goal.at.unreachable-requires c).After-as_slice in
    let whole = words_are_whole (dimension t) (coordinates_of t) (fit p) in
    let wrong = c.in_default.ensures.some.1 (rw (c.dim.ensures, words_are p) whole) in
    absurd (cc)

pub returns-in-Ok-clause-ok : goal.returns-in-Ok-clause-ok
returns-in-Ok-clause-ok c = grind (arith, meant, fit, words_are, are_points)

pub returns-clause-err : goal.returns-clause-err
returns-clause-err c = grind (arith, meant, fit, words_are, want_of_room)
