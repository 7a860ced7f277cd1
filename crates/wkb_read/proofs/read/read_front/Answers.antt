use Rattle.wkb_read.proofs.Prelude.{◌≡◌, ◌-◌, ◌∙◌, at_no_cost, refl, sym, subst, rules, Reading, Item, WkbType, Layout}
use Rattle.wkb_read.proofs.Prelude.{CanCount, BeginsAs, geometry_inside, body_at, collection_within, max_nesting, ap}
use Rattle.wkb_read.proofs.Bodies.{by_header, hands_on, stops_without_header, whole_at_no_cost}
use Rattle.wkb_view.proofs.Lists.{refused_stops}
use Rattle.wkb_laws.proofs.GeometryAt.{line_string_free}
use Rattle.wkb_read.proofs.read.read_front.Goals as goal
use Rattle.wkb_read.proofs.read.read_front.Goals.{After-dimension, in-Point+in_ok-point-in-Point}
use Rattle.wkb_read.proofs.read.read_front.Goals.{in-LineString+in_ok-line_string-in-LineString}
use Rattle.wkb_read.proofs.read.read_front.Goals.{in-Polygon+in_ok-polygon-in-Polygon}
use Rattle.wkb_read.proofs.read.read_front.Goals.{in-MultiPoint+in_ok-multi-in-MultiPoint}
use Rattle.wkb_read.proofs.read.read_front.Goals.{in-MultiLineString+in_ok-multi-in-MultiLineString}
use Rattle.wkb_read.proofs.read.read_front.Goals.{in-MultiPolygon+in_ok-multi-in-MultiPolygon}

-- how the body is laid out
abbrev layout : After-dimension → Layout
layout c = record { order = c.in-Ok.header.order; dimension = c.dimension.result; has_srid = c.in-Ok.header.has_srid }

-- the reading of the bytes, by the type in their header
by_type : (c : After-dimension) (t : WkbType) → c.in-Ok.header.wkb_type ≡ t
    → geometry_inside c.args.depth c.args.bytes.now
    ≡ body_at (collection_within (max_nesting - c.args.depth)) t (layout c) c.args.bytes.now
by_type c t is = by_header _ _ _ _ _ c.in-Ok.ensures is (rw (c.dimension.ensures) refl)

-- the counters have room for what the bytes of this type cost
fits : (c : After-dimension) (t : WkbType) → c.in-Ok.header.wkb_type ≡ t
    → CanCount c.args.counts.now
    (body_at (collection_within (max_nesting - c.args.depth)) t (layout c) c.args.bytes.now).0
fits c t is = subst (λ (r : Reading Item). CanCount c.args.counts.now r.0) (by_type c t is) c.requires.fits

pub returns-in-Err-clause-begins : goal.returns-in-Err-clause-begins
returns-in-Err-clause-begins c = stops_without_header _ _ _ _ c.in-Err.ensures

pub returns-in_err-point-in-Point-clause-begins : goal.returns-in_err-point-in-Point-clause-begins
returns-in_err-point-in-Point-clause-begins c =
    let p = (goal.at.returns-in_err-point-in-Point-clause-begins c).After-dimension in
    hands_on _ _ _ _ _ _ _ c.from_residual.ensures.1 (by_type p _ c.in-Point.is)
    (refused_stops _ _ _ c.args.counts.now (ap at_no_cost c.in_err-point-in-Point.ensures.answer))

pub returns-in_err-line_string-in-LineString-clause-begins :
    goal.returns-in_err-line_string-in-LineString-clause-begins
returns-in_err-line_string-in-LineString-clause-begins c =
    let p = (goal.at.returns-in_err-line_string-in-LineString-clause-begins c).After-dimension in
    hands_on _ _ _ _ _ _ _ c.from_residual-in_err-line_string-in-LineString.ensures.1
    (by_type p _ c.in-LineString.is ∙ line_string_free (layout p) c.args.bytes.now)
    (refused_stops _ _ _ c.args.counts.now (ap at_no_cost c.in_err-line_string-in-LineString.ensures.answer))

pub read-requires-in-Polygon-clause-fits : goal.read-requires-in-Polygon-clause-fits
read-requires-in-Polygon-clause-fits c =
    fits (goal.at.read-requires-in-Polygon-clause-fits c).After-dimension _ c.in-Polygon.is

pub returns-in_err-polygon-in-Polygon-clause-begins : goal.returns-in_err-polygon-in-Polygon-clause-begins
returns-in_err-polygon-in-Polygon-clause-begins c =
    let p = (goal.at.returns-in_err-polygon-in-Polygon-clause-begins c).After-dimension in
    hands_on _ _ _ _ _ _ _ c.from_residual-in_err-polygon-in-Polygon.ensures.1
    (by_type p _ c.in-Polygon.is) c.in_err-polygon-in-Polygon.ensures.answer

pub read-requires-in-MultiPoint-clause-fits : goal.read-requires-in-MultiPoint-clause-fits
read-requires-in-MultiPoint-clause-fits c =
    fits (goal.at.read-requires-in-MultiPoint-clause-fits c).After-dimension _ c.in-MultiPoint.is

pub returns-in_err-multi-in-MultiPoint-clause-begins : goal.returns-in_err-multi-in-MultiPoint-clause-begins
returns-in_err-multi-in-MultiPoint-clause-begins c =
    let p = (goal.at.returns-in_err-multi-in-MultiPoint-clause-begins c).After-dimension in
    hands_on _ _ _ _ _ _ _ c.from_residual-in_err-multi-in-MultiPoint.ensures.1
    (by_type p _ c.in-MultiPoint.is) c.in_err-multi-in-MultiPoint.ensures.answer

pub read-requires-in-MultiLineString-clause-fits : goal.read-requires-in-MultiLineString-clause-fits
read-requires-in-MultiLineString-clause-fits c =
    fits (goal.at.read-requires-in-MultiLineString-clause-fits c).After-dimension _ c.in-MultiLineString.is

pub returns-in_err-multi-in-MultiLineString-clause-begins : goal.returns-in_err-multi-in-MultiLineString-clause-begins
returns-in_err-multi-in-MultiLineString-clause-begins c =
    let p = (goal.at.returns-in_err-multi-in-MultiLineString-clause-begins c).After-dimension in
    hands_on _ _ _ _ _ _ _ c.from_residual-in_err-multi-in-MultiLineString.ensures.1
    (by_type p _ c.in-MultiLineString.is) c.in_err-multi-in-MultiLineString.ensures.answer

pub read_multi_polygon-requires-clause-fits : goal.read_multi_polygon-requires-clause-fits
read_multi_polygon-requires-clause-fits c =
    fits (goal.at.read_multi_polygon-requires-clause-fits c).After-dimension _ c.in-MultiPolygon.is

pub returns-in_err-multi-in-MultiPolygon-clause-begins : goal.returns-in_err-multi-in-MultiPolygon-clause-begins
returns-in_err-multi-in-MultiPolygon-clause-begins c =
    let p = (goal.at.returns-in_err-multi-in-MultiPolygon-clause-begins c).After-dimension in
    hands_on _ _ _ _ _ _ _ c.from_residual-in_err-multi-in-MultiPolygon.ensures.1
    (by_type p _ c.in-MultiPolygon.is) c.in_err-multi-in-MultiPolygon.ensures.answer

pub begin_collection-requires-clause-fits : goal.begin_collection-requires-clause-fits
begin_collection-requires-clause-fits c =
    fits (goal.at.begin_collection-requires-clause-fits c).After-dimension _ c.in-GeometryCollection.is

pub returns-in-GeometryCollection-clause-begins : goal.returns-in-GeometryCollection-clause-begins
returns-in-GeometryCollection-clause-begins c =
    let p = (goal.at.returns-in-GeometryCollection-clause-begins c).After-dimension in
    subst (λ (r : Reading Item). BeginsAs (λ _ _. r) c.args.depth c.args.bytes.now c.begin_collection.result
    c.args.counts.now c.begin_collection.new.counts) (sym (by_type p _ c.in-GeometryCollection.is))
    c.begin_collection.ensures.begins

pub returns-clause-begins : goal.returns-clause-begins
returns-clause-begins c =
    let p = (goal.at.returns-clause-begins c).After-dimension in
    elim c.match-header.branch [
      | in-Point+in_ok-point-in-Point w ↦ rw (w.counts-is, w.kind-is, by_type p _ w.in-Point.is) (search rules)
      | in-LineString+in_ok-line_string-in-LineString w ↦
          rw (
            w.counts-is,
            w.kind-is,
            by_type p _ w.in-LineString.is ∙ line_string_free (layout p) c.args.bytes.now,
          )
          (whole_at_no_cost _ _ _ c.args.counts.now (search rules), w.in_ok-line_string-in-LineString.ensures.shorter)
      | in-Polygon+in_ok-polygon-in-Polygon w ↦
          rw (w.counts-is, w.kind-is, by_type p _ w.in-Polygon.is) (search rules)
      | in-MultiPoint+in_ok-multi-in-MultiPoint w ↦
          rw (w.counts-is, w.kind-is, by_type p _ w.in-MultiPoint.is) (search rules)
      | in-MultiLineString+in_ok-multi-in-MultiLineString w ↦
          rw (w.counts-is, w.kind-is, by_type p _ w.in-MultiLineString.is) (search rules)
      | in-MultiPolygon+in_ok-multi-in-MultiPolygon w ↦
          rw (w.counts-is, w.kind-is, by_type p _ w.in-MultiPolygon.is) (search rules)
    ]
