-- What a sink took of an encoding.
use Rattle.std.specs.Prelude.{ℕ, List, Option, Result}
use Rattle.std.specs.declared.io.Error.{Error}
use Rattle.wkb_sink.specs.Sinks.{PutsOrStops}
use Rattle.wkb_sink.specs.declared.sink.Sink.{Ghosts}

-- the sink took the encoding, or failed as the result says
abbrev pub PutsTo : {S : Type 0} → Ghosts S → S → S → List ℕ → Result (Unit {0}) (Option Error) → Type 0
PutsTo sink old new encoding r =
    PutsOrStops (sink.appended old) (sink.appended new) (sink.has_failed new) (sink.fails_by new) encoding r
