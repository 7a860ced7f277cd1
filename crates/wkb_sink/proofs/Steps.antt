-- The lemmas that each step of writing rests on.
use Rattle.wkb_sink.proofs.Laid.{exits, no_room, cut_first, laid_none, laid_here, laid_now, lays_then}
use Rattle.wkb_sink.proofs.Laid.{flushed, flush_cut, ready_now, short_now, short_block, past_laid}
use Rattle.wkb_sink.proofs.Lengths.{length-number, length-counted}

pub ruleset flush_laws = (flushed, flush_cut)

pub ruleset room_laws = (laid_none, ready_now, short_now, short_block)

pub ruleset step_laws = (exits, no_room, cut_first, laid_none, laid_here, laid_now, lays_then)

pub ruleset past_laws = (step_laws, past_laid)

pub ruleset count_laws = (step_laws, length-number, length-counted)
