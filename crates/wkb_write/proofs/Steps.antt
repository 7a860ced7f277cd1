-- The lemmas that each step of putting a kind rests on.
use Rattle.wkb_write.proofs.Prelude.{none_first, none_rest, none_both, count_below}
use Rattle.wkb_write.proofs.FirstItem.{some_below}
use Rattle.wkb_write.proofs.Supported.{has_width, none_at, supported_at_least, supported_at_most}
use Rattle.wkb_write.proofs.Collections.{collection_laws, begun_laws, member_ready}
use Rattle.wkb_write.proofs.Falls.{members_fall, member_falls}
use Rattle.wkb_write.proofs.Loops.{cut_head, lays_behind, members_told, rings_told, all_laid, head_laid, lays_lent}
use Rattle.wkb_write.proofs.Loops.{read_laid, lays_member}
use Rattle.wkb_write.proofs.Whole.{few_items}
use Rattle.wkb_sink.proofs.Steps.{step_laws as sink_laws}

pub ruleset step_laws = (has_width, supported_at_least, supported_at_most, sink_laws)

pub ruleset fixed_laws = (has_width, supported_at_least)

pub ruleset node_laws = (step_laws, none_first, none_rest, none_at, count_below)

pub ruleset counted_laws = (step_laws, few_items, head_laid, all_laid)

pub ruleset run_laws = (step_laws, lays_lent, all_laid)

pub ruleset line_laws = (node_laws, cut_head, lays_behind)

pub ruleset item_laws = (node_laws, some_below, none_both, members_told, rings_told)

pub ruleset member_laws = (collection_laws, members_fall, lays_member)

pub ruleset members_laws = (step_laws, begun_laws, read_laid, member_ready, member_falls)
