use Rattle.wkb_abi.proofs.Common.{◌-◌, ◌+◌, ◌*◌, sets, number}
use Rattle.wkb_laws.specs.Prelude.{items, LittleEndian}
use Rattle.wkb_abi.proofs.Levels.{PlainLeft}
use Rattle.wkb_abi.proofs.level_slices.lay_words.Given as goal

abbrev pub invariant-loop-k : goal.invariant-loop-k
invariant-loop-k l =
    PlainLeft LittleEndian l.bytes (sets l.initial.out l.start (items 8 (number LittleEndian 8) l.words l.bytes))
    (l.words - l.k) (8 * l.k) (l.start + l.k) l.out
