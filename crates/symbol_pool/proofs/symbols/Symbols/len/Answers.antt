use Rattle.std.proofs.Common.{sym, ◌∙◌}
use Rattle.std.proofs.lemmas.List.{length-map}
use Rattle.symbol_pool.specs.Kept.{symbol_of}
use Rattle.symbol_pool.proofs.Pools.{pool_of_kept}
use Rattle.symbol_pool.proofs.symbols.Symbols.len.Goals as goal

pub returns-clause-count : goal.returns-clause-count
returns-clause-count c =
    rw (← c.self.view_is) (c.len.ensures.len ∙ sym (length-map c.self.inside.pairs.keys (symbol_of c.self.inside.names.keys)))

pub returns-clause-pool : goal.returns-clause-pool
returns-clause-pool c = rw (← c.self.view_is) (pool_of_kept _ _ c.self.invariant)
