use Rattle.symbol_pool.proofs.Grown.{found_name}
use Rattle.symbol_pool.proofs.symbols.name_index.Goals as goal

pub returns-in-Some-clause-named : goal.returns-in-Some-clause-named
returns-in-Some-clause-named c = found_name _ _ _ c.in-Some.ensures.index
