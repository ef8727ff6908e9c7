-- What is true of the symbols of all evaluations.
use Rattle.std.specs.Prelude.{◌≡◌, ℕ, List, All}
use Rattle.term_model.specs.Tree.{Tree}
use Rattle.symbol_pool.specs.Pool.{Named}
use Rattle.rewrite_model.specs.Rule.{Rule}
use Rattle.rewrite_model.specs.Run.{Done}
use Rattle.term_text.specs.Text.{HasNames}
use Rattle.term_lines.specs.declared.strategy.Strategy.{Strategy}
use Rattle.term_lines.specs.Strategies.{ended}

-- the symbols that a rule writes have names
abbrev pub WritesNames : List Named → Rule → Type 0
WritesNames names r = HasNames names r.right

-- Where the symbols of a term and of all right sides have names, so have those of the term's value,
-- by either strategy.
abbrev pub ValuesHaveNames : Type 0
ValuesHaveNames =
    (strategy : Strategy) (names : List Named) (rules : List Rule) (term value : Tree)
    (fuel room left : ℕ) → All (WritesNames names) rules → HasNames names term →
    ended strategy rules term fuel room ≡ Done value left → HasNames names value
