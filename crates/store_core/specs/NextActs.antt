-- The next act of a creation as the code has it.
use Rattle.store_model.specs.StoreSteps.{Act, Loads, Stores, Draws, Exchanges}
use Rattle.store_core.specs.declared.machine.acting.NextAct.{NextAct}
use Rattle.store_core.specs.declared.machine.acting.NextAct.TheVariants as next

abbrev pub act_of : NextAct → Act
act_of (next.Loads p) = Loads p
act_of (next.Stores p n) = Stores p n
act_of next.Draws = Draws
act_of (next.Exchanges p old new) = Exchanges p old new
