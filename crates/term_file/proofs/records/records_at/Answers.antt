use Rattle.std.proofs.Common.{◌-◌, ◌+◌, arith}
use Rattle.term_file.specs.Found.{records_of}
use Rattle.term_file.specs.Reading.{no_records, records_at}
use Rattle.term_file.proofs.Loops.{records_end, records_on, records_done}
use Rattle.term_file.proofs.records.records_at.Goals as goal

pub returns-in-Err : goal.returns-in-Err
returns-in-Err c =
    let l = c.loop-number in
    records_end c.args.total c.args.symbols.now (c.args.count - l._number) (c.args.count - l._number - 1) (records_of l.found) l.rest.now (records_at c.args.total c.args.symbols.now c.args.count no_records c.args.bytes.now) c.in-Err.fault (omega (arith, c.loop-number-test.true)) l.invariant.so_far c.in-Err.ensures.read

pub loop-number-preserved : goal.loop-number-preserved
loop-number-preserved c =
    let l = c.loop-number in
    let whole = records_at c.args.total c.args.symbols.now c.args.count no_records c.args.bytes.now in
    let next = records_on c.args.total c.args.symbols.now (c.args.count - l._number) (c.args.count - (l._number + 1)) (records_of l.found) (records_of c.record_at.new.found) l.rest.now _ whole (omega (arith, c.loop-number-test.true)) l.invariant.so_far c.in-Ok.ensures.read in
    record { so_far = next; used = omega (arith, l.invariant.used, c.record_at.ensures.one_more) }

pub returns : goal.returns
returns c =
    let l = c.loop-number in
    records_done c.args.total c.args.symbols.now (c.args.count - l._number) (records_of l.found) l.rest.now (records_at c.args.total c.args.symbols.now c.args.count no_records c.args.bytes.now) (omega (arith, c.loop-number-test.false)) l.invariant.so_far
