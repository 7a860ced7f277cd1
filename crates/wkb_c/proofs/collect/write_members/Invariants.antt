use Rattle.wkb_abi.proofs.Common.{◌≡◌, Reach}
use Rattle.wkb_c.proofs.Gathering.{WrittenBefore}
use Rattle.wkb_c.proofs.collect.write_members.Given as goal

abbrev pub invariant-loop-i : goal.invariant-loop-i
invariant-loop-i l = record {
  reaches : Reach l.column l.i l.reach;
  written : WrittenBefore l.column l.target l.i l.reach l.size l.initial.out l.out;
  fault_same : l.fault ≡ l.initial.fault;
  row_same : l.row ≡ l.initial.row;
}
