-- No more fuel is left than was given, by either strategy.
use Rattle.std.proofs.Common.{◌≡◌, ℕ, ◌≤◌, List, arith}
use Rattle.term_model.specs.Tree.{Tree}
use Rattle.rewrite_model.specs.Rule.{Rule}
use Rattle.rewrite_model.specs.Run.{Done}
use Rattle.rewrite_model.proofs.Fuel.{fuel_falls}
use Rattle.rewrite_model.proofs.OutermostFuel.{fuel_is_steps}
use Rattle.term_lines.specs.declared.strategy.Strategy.{Strategy}
use Rattle.term_lines.specs.declared.strategy.Strategy.TheVariants.{Innermost, Outermost}
use Rattle.term_lines.specs.Strategies.{ended}

pub less_is_left : (strategy : Strategy) (rules : List Rule) (t u : Tree) (fuel room left : ℕ) → ended strategy rules t fuel room ≡ Done u left → left ≤ fuel
less_is_left Innermost rules t u fuel room left e = fuel_falls rules t u fuel room left e
less_is_left Outermost rules t u fuel room left e = let c = fuel_is_steps rules t u fuel room left e in omega (arith, c.1)
