use Rattle.wkb_read.proofs.Prelude.{Ok, arith, Endianness, LittleEndian, seen_as_it_is}
use Rattle.wkb_laws.proofs.Lengths.{front_is_writable_lem}
use Rattle.wkb_read.proofs.NoMemory.{without_memory}
use Rattle.wkb_read.proofs.Results.{count_bounded, is_read, refused_as, refused_at}
use Rattle.wkb_read.proofs.read.read_and_count.Goals as goal

pub returns-in-Ok-clause-reads : goal.returns-in-Ok-clause-reads
returns-in-Ok-clause-reads c =
    let buf = c.args.buf.now in
    let w = c.in-Ok.whole in
    let r = is_read buf w c.read_geometry.new.counts c.in-Ok.ensures.reads in
    let lawful =
    λ (order : Endianness). front_is_writable_lem order buf w.spelled w.value r.front.rest
    (λ i. (c.type_inv.buf i).fits) (omega arith)
    r.front.front in
    record {
      front = r.front;
      one_front = r.one_front;
      lawful = (lawful LittleEndian).0;
      seen = seen_as_it_is w (lawful LittleEndian).0;
      normal = (lawful LittleEndian).1;
      writable = λ order. (lawful order).2;
      refusal = tt;
      one_cause = tt;
      no_front = tt;
      no_memory = λ none. tt;
    }

pub returns-in-Ok-clause-costs : goal.returns-in-Ok-clause-costs
returns-in-Ok-clause-costs c =
    let new = c.read_geometry.new.counts in
    let r = is_read c.args.buf.now c.in-Ok.whole new c.in-Ok.ensures.reads in
    let bound = count_bounded c.args.buf.now (Ok c.in-Ok.whole) new c.in-Ok.ensures.reads in
    grind arith

pub returns-in-Err-clause-reads : goal.returns-in-Err-clause-reads
returns-in-Err-clause-reads c =
    refused_as c.args.buf.now c.into.result c.in-Err.error c.read_geometry.new.counts c.in-Err.ensures.reads
    c.into.ensures (λ none. c.in-Err.ensures.no_memory (without_memory c.args.buf.now none))

pub returns-in-Err-clause-costs : goal.returns-in-Err-clause-costs
returns-in-Err-clause-costs c = grind (arith, refused_at)
