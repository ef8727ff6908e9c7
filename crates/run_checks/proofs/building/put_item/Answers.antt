use Rattle.std.proofs.Common.{refl}
use Rattle.std.specs.Prelude.{slice_index_or}
use Rattle.run_checks.proofs.Instancing.{comes_bound, comes_over, enough_over}
use Rattle.run_checks.proofs.building.put_item.Goals as goal

pub put_symbol-requires-clause-enough : goal.put_symbol-requires-clause-enough
put_symbol-requires-clause-enough c = enough_over c.args.table.now c.args.bound.now c.in-App.symbol c.in-App.count c.args.item c.args.stack.now.items c.in-App.is c.requires.comes

pub returns-in_ok-push-in-Var : goal.returns-in_ok-push-in-Var
returns-in_ok-push-in-Var c = comes_bound c.args.table.now c.args.bound.now c.in-Var.variable c.args.item (slice_index_or c.args.bound.now c.in-Var.variable 0) 0 c.args.stack.now.items c.push.new.self.items c.in-Var.is c.requires.comes refl c.in_ok-push-in-Var.ensures.items

pub returns-in_ok-put_symbol-in-App : goal.returns-in_ok-put_symbol-in-App
returns-in_ok-put_symbol-in-App c = comes_over c.args.table.now c.put_symbol.new.table c.args.bound.now c.in-App.symbol c.in-App.count c.args.item c.args.stack.now.items c.put_symbol.new.stack.items c.in-App.is c.in_ok-put_symbol-in-App.ensures
