use Rattle.std.proofs.Common.{◌≡◌}
use Rattle.store_model.specs.Shown.{shown}
use Rattle.store_core.specs.Running.{IsBegun}
use Rattle.store_core.proofs.machine.table.Table.with_free_places.Given as goal

abbrev pub invariant-loop-i : goal.invariant-loop-i
invariant-loop-i l = (l.self.sizes ≡ l.fn.self.sizes) × IsBegun l.fn.self.sizes l.i (shown l.fn.self.sizes l.self.words.items)
