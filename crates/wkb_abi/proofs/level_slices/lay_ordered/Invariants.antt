use Rattle.wkb_abi.proofs.Common.{◌-◌, sets}
use Rattle.wkb_abi.specs.PieceLevels.{words_from}
use Rattle.wkb_abi.proofs.Levels.{WordsLeft}
use Rattle.wkb_abi.proofs.level_slices.lay_ordered.Given as goal

abbrev pub invariant-loop : goal.invariant-loop
invariant-loop l =
    WordsLeft l.asked l.own l.order l.bytes
    (sets l.initial.out l.start (words_from l.asked l.order l.own l.count l.bytes)) (l.count - l.counter) l.from l.at
    l.out
