-- A pass in an access of its store, between two calls, whose plain data tell its entries.
use Rattle.node_rows.specs.declared.store.Store.{Store}
use Rattle.node_rows.specs.declared.store.Pass.{Pass}
use Rattle.node_rows.specs.Belonging.{IsOpen, IsSeated, IsPrepared}
use Rattle.node_rows.specs.Told.{Tells}

pub record IsInside (s : Store) (p : Pass) : Type 0 where
  pub store : IsOpen s
  pub pass : IsSeated s p
  pub ready : IsPrepared s p
  pub told : Tells p
