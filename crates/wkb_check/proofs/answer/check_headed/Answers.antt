use Rattle.std.proofs.Common.{rules}
use Rattle.wkb_geom.specs.Fronts.{max_nesting}
use Rattle.wkb_check.specs.Public.HasNoPlain.{refused, collection}
use Rattle.wkb_check.proofs.Public.{laid_out, body_checks}
use Rattle.wkb_check.proofs.answer.check_headed.Goals as goal
use Rattle.wkb_check.proofs.answer.check_headed.Goals.{in-true, in-false}

pub returns-in-GeometryCollection-clause-none : goal.returns-in-GeometryCollection-clause-none
returns-in-GeometryCollection-clause-none c = search (rules, collection, c.requires, c.in-GeometryCollection.is)

pub summary_of-requires-clause-passed : goal.summary_of-requires-clause-passed
summary_of-requires-clause-passed c = elim c.if-header.branch [
  | in-true w ↦
      let passes = w.skip_plain.ensures.passes in
      let there = rw (← w.walk-is, ← w.passed-is, c.in-Ok.is) at passes in
      search (rules, laid_out, w.layout.ensures, there)
  | in-false w ↦
      let passes = w.skip_plain-in-false.ensures.passes in
      let there = rw (← w.walk-is, ← w.passed-is, c.in-Ok.is) at passes in
      search (rules, laid_out, w.layout-in-false.ensures, there)
]

pub summary_of-requires-clause-held : goal.summary_of-requires-clause-held
summary_of-requires-clause-held c = elim c.if-header.branch [
  | in-true w ↦
      let held = w.skip_plain.ensures.held in
      let there = rw (← w.walk-is, ← w.passed-is, c.in-Ok.is) at held in
      search (rules, there)
  | in-false w ↦
      let held = w.skip_plain-in-false.ensures.held in
      let there = rw (← w.walk-is, ← w.passed-is, c.in-Ok.is) at held in
      search (rules, there)
]

pub returns-in-Err-clause-none : goal.returns-in-Err-clause-none
returns-in-Err-clause-none c = elim c.if-header.branch [
  | in-true w ↦
      let stopped = w.skip_plain.ensures in
      let passes = rw (← w.passed-is, c.in-Err.is) at stopped.passes in
      let held = rw (← w.passed-is, c.in-Err.is) at stopped.held in
      refused _ (body_checks 0 c.args.buf.now c.args.header _ _ _ c.requires
      (laid_out c.args.header _ c.args.buf.now (0, 0) _ w.layout.ensures (passes max_nesting)) held.1)
  | in-false w ↦
      let stopped = w.skip_plain-in-false.ensures in
      let passes = rw (← w.passed-is, c.in-Err.is) at stopped.passes in
      let held = rw (← w.passed-is, c.in-Err.is) at stopped.held in
      refused _ (body_checks 0 c.args.buf.now c.args.header _ _ _ c.requires
      (laid_out c.args.header _ c.args.buf.now (0, 0) _ w.layout-in-false.ensures (passes max_nesting)) held.1)
]
