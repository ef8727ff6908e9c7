use Rattle.std.proofs.Common.{◌-◌, ◌+◌, [], arith}
use Rattle.term_file.specs.Reading.{symbols_at}
use Rattle.term_file.proofs.Loops.{symbols_end, symbols_on, symbols_done}
use Rattle.term_file.proofs.symbols.symbols_at.Goals as goal

pub returns-in-Err-clause-read : goal.returns-in-Err-clause-read
returns-in-Err-clause-read c =
    let l = c.loop-number in
    symbols_end c.args.total (c.args.count - l._number) (c.args.count - (l._number + 1)) l.symbols l.rest.now (symbols_at c.args.total c.args.count [] c.args.bytes.now) c.in-Err.fault (omega (arith, c.loop-number-test.true)) l.invariant.so_far c.in-Err.ensures.read

pub loop-number-preserved : goal.loop-number-preserved
loop-number-preserved c =
    let l = c.loop-number in
    let whole = symbols_at c.args.total c.args.count [] c.args.bytes.now in
    record {
      so_far = symbols_on c.args.total (c.args.count - l._number) (c.args.count - (l._number + 1)) l.symbols c.symbol_at.new.symbols l.rest.now _ whole (omega (arith, c.loop-number-test.true)) l.invariant.so_far c.in-Ok.ensures.read;
      size = omega (arith, l.invariant.size, c.in-Ok.ensures.grown);
    }

pub returns-clause-read : goal.returns-clause-read
returns-clause-read c =
    let l = c.loop-number in
    symbols_done c.args.total (c.args.count - l._number) l.symbols l.rest.now (symbols_at c.args.total c.args.count [] c.args.bytes.now) (omega (arith, c.loop-number-test.false)) l.invariant.so_far
