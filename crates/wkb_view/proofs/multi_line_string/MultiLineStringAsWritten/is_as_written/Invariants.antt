use Rattle.wkb_view.proofs.Prelude.{line_string}
use Rattle.wkb_view.proofs.Encodings.{AreWrittenBefore}
use Rattle.wkb_view.proofs.multi_line_string.MultiLineStringAsWritten.is_as_written.Given as goal

abbrev pub invariant-loop-i : goal.invariant-loop-i
invariant-loop-i l = AreWrittenBefore l.order l.has_flags line_string l.self.dimension l.i l.self.spelled l.self.parts
