use Rattle.run_checks.proofs.Instancing.{taken_there}
use Rattle.run_checks.proofs.building.put_symbol.Goals as goal

pub put-requires-clause-there : goal.put-requires-clause-there
put-requires-clause-there c = taken_there c.args.table.now c.args.stack.now.items c.take_last.new.stack.items c.in_ok-arguments.arguments.items c.args.count c.in_ok-arguments.ensures c.requires.there
