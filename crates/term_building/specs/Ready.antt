-- A builder with the store on whose stack its trees stand.
use Rattle.std.specs.Prelude.{◌≡◌, ◌≤◌, true}
use Rattle.terms_api.specs.Terms.{Store, trees}
use Rattle.term_syntax.specs.Known.{AreKnown}
use Rattle.term_building.specs.declared.builder.Builder.{Builder}
use Rattle.term_building.specs.State.{State, state_of}

abbrev pub state_in : Builder → Store → State
state_in b s = state_of b (trees s)

-- the store was entered, its rows have room for as many arguments as are taken, and for a cell, and
-- each name that was noted has its symbol there
pub record IsReady (s : Store) (b : Builder) : Type 0 where
  pub inside : s.inside ≡ true
  pub wide : b.most ≤ s.widest
  pub cells : 2 ≤ s.widest
  pub known : AreKnown b.lately b.symbols
