use Rattle.std.proofs.Common.{ap, Err}
use Rattle.term_file.proofs.Numbers.{numbers, room_for}
use Rattle.term_file.proofs.numbering.Numbering.number.Goals as goal

pub unreachable-requires : goal.unreachable-requires
unreachable-requires c =
    room_for c.args.names.now c.self.inside.symbols c.args.self.now c.intern.new.self c.args.symbol c.name.result.now c.arity.result c.self.view_is c.name.ensures c.arity.ensures c.requires.pool c.requires.part
    c.in-Err-Full.ensures.unchanged c.in-Err-Full.ensures.pool (c.in-Err-Full.ensures.full.0 (ap Err c.in-Err-Full.field-0-is))

pub returns-then-symbol-self : goal.returns-then-symbol-self
returns-then-symbol-self c = record {
  numbered = numbers c.args.names.now c.self.inside.symbols c.args.self.now c.intern.new.self c.args.symbol c.name.result.now c.arity.result c.in-Ok.symbol.0 c.self.view_is c.name.ensures c.arity.ensures c.in-Ok.ensures.held c.in-Ok.ensures.added c.in-Ok.ensures.found c.in-Ok.ensures.pool;
  memory = tt;
}

pub returns-else-symbol-self : goal.returns-else-symbol-self
returns-else-symbol-self c = record {
  numbered = numbers c.args.names.now c.self.inside.symbols c.args.self.now c.intern.new.self c.args.symbol c.name.result.now c.arity.result c.in-Ok.symbol.0 c.self.view_is c.name.ensures c.arity.ensures c.in-Ok.ensures.held c.in-Ok.ensures.added c.in-Ok.ensures.found c.in-Ok.ensures.pool;
  memory = tt;
}
