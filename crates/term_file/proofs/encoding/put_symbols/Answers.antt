use Rattle.std.proofs.Common.{◌+◌, arith}
use Rattle.symbol_pool.specs.Pool.{named}
use Rattle.term_file.specs.File.{symbol_bytes}
use Rattle.term_file.specs.Written.{IsShort}
use Rattle.term_file.proofs.Pieces.{all_pieces, holds_at, one_piece, symbol_is}
use Rattle.term_file.proofs.encoding.put_symbols.Goals as goal

pub loop-number-preserved : goal.loop-number-preserved
loop-number-preserved c =
    one_piece symbol_bytes c.args.symbols.now c.loop-number.number (c.loop-number.number + 1) (named c.name.result.now c.arity.result) c.args.out.now.items c.loop-number.out.items c.put_symbol.new.out.items (omega arith)
    (symbol_is c.args.symbols.now (record { 0 = c.loop-number.number }) c.name.result.now c.arity.result c.name.ensures c.arity.ensures) c.loop-number.invariant c.in_ok-put_symbol.ensures

pub returns : goal.returns
returns c = all_pieces symbol_bytes c.args.symbols.now c.loop-number.number c.args.out.now.items c.loop-number.out.items (omega (arith, c.requires.count, c.loop-number-test.false)) c.loop-number.invariant

pub put_symbol-requires-clause-name : goal.put_symbol-requires-clause-name
put_symbol-requires-clause-name c =
    let symbol = symbol_is c.args.symbols.now (record { 0 = c.loop-number.number }) c.name.result.now c.arity.result c.name.ensures c.arity.ensures in
    (holds_at IsShort c.args.symbols.now c.loop-number.number (named c.name.result.now c.arity.result) c.requires.short symbol).name

pub put_symbol-requires-clause-arity : goal.put_symbol-requires-clause-arity
put_symbol-requires-clause-arity c =
    let symbol = symbol_is c.args.symbols.now (record { 0 = c.loop-number.number }) c.name.result.now c.arity.result c.name.ensures c.arity.ensures in
    (holds_at IsShort c.args.symbols.now c.loop-number.number (named c.name.result.now c.arity.result) c.requires.short symbol).arity
