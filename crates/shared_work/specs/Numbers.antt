-- The numbers that the rows fall short of where workers on one store stop for want of them.
use Rattle.std.specs.Prelude.{◌≡◌, List}
use Rattle.term_model.specs.Tree.{Tree}
use Rattle.rewrite_model.specs.Rule.{Rule}
use Rattle.settings.specs.declared.parts.Settings.{Settings}
use Rattle.work_order.specs.Lacking.{NeedsMore, LacksRows}
use Rattle.worker_crew.specs.declared.fault.AllFault.{AllFault}
use Rattle.worker_crew.specs.declared.fault.AllFault.TheVariants.{StoreFull}

-- want of rows is told only where all workers at once may need more
abbrev pub TellsNeed : Settings → List Rule → List Tree → AllFault → Type 0
TellsNeed s rules terms fault = fault ≡ StoreFull → NeedsMore s rules terms

-- want of rows is told only where the rows are too few
abbrev pub TellsFew : Settings → List Rule → List Tree → AllFault → Type 0
TellsFew s rules terms fault = fault ≡ StoreFull → LacksRows s rules terms
