use Rattle.symbol_pool.proofs.Places.{if_none}
use Rattle.symbol_pool.proofs.Pools.{pool_of_kept, no_name, no_pair, yes_pair}
use Rattle.symbol_pool.proofs.symbols.Symbols.look_up.Goals as goal

pub returns-in_err-name-clause-absent : goal.returns-in_err-name-clause-absent
returns-in_err-name-clause-absent c = rw (← c.self.view_is) (if_none _ (no_name _ _ c.self.invariant _ _ c.in_err-name.ensures.index))

pub returns-in_err-name-clause-pool : goal.returns-in_err-name-clause-pool
returns-in_err-name-clause-pool c = rw (← c.self.view_is) (pool_of_kept _ _ c.self.invariant)

pub returns-in_err-symbol-clause-absent : goal.returns-in_err-symbol-clause-absent
returns-in_err-symbol-clause-absent c = rw (← c.self.view_is) (if_none _ (no_pair _ _ c.self.invariant _ _ _ c.in_ok-name.ensures.index c.in_err-symbol.ensures.index))

pub returns-in_err-symbol-clause-pool : goal.returns-in_err-symbol-clause-pool
returns-in_err-symbol-clause-pool c = rw (← c.self.view_is) (pool_of_kept _ _ c.self.invariant)

pub returns-clause-found : goal.returns-clause-found
returns-clause-found c = rw (← c.self.view_is) (yes_pair _ _ c.self.invariant _ _ _ c.in_ok-name.ensures.index _ c.in_ok-symbol.ensures.index)

pub returns-clause-pool : goal.returns-clause-pool
returns-clause-pool c = rw (← c.self.view_is) (pool_of_kept _ _ c.self.invariant)
