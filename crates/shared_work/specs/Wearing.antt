-- What is told of work on one store whose numbers may be used up.
use Rattle.std.specs.Prelude.{◌≡◌, List}
use Rattle.term_model.specs.Tree.{Tree}
use Rattle.rewrite_model.specs.Rule.{Rule}
use Rattle.settings.specs.declared.parts.Settings.{Settings}
use Rattle.work_order.specs.Wearing.{WearsOut}
use Rattle.worker_crew.specs.declared.fault.AllFault.{AllFault}
use Rattle.worker_crew.specs.declared.fault.AllFault.TheVariants.{Worn}

-- want of numbers is told only where they may be used up
abbrev pub TellsWorn : Settings → List Rule → List Tree → AllFault → Type 0
TellsWorn s rules terms fault = fault ≡ Worn → WearsOut s rules terms
