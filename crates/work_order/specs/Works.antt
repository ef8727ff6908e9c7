-- How the settings ask terms to be rewritten, and what workers ask of the terms and the rules.
use Rattle.std.specs.Prelude.{◌≡◌, ℕ, ◌<◌, ◌^◌, ◌==◌, ◌&&◌, Bool, List, All, length, nat_lt, slice_index_or}
use Rattle.std.specs.List.{list_all}
use Rattle.term_model.specs.Tree.{Tree, Leaf, IsGround}
use Rattle.symbol_pool.specs.Pool.{Named}
use Rattle.rewrite_model.specs.Rule.{Rule}
use Rattle.rewrite_model.specs.Built.{need, need_of_all}
use Rattle.settings.specs.declared.parts.Command.{Command}
use Rattle.settings.specs.declared.parts.Command.TheVariants as command
use Rattle.settings.specs.declared.parts.Settings.{Settings}
use Rattle.rule_match.specs.Planned.{Planned, IsPlain}
use Rattle.term_text.specs.Text.{HasNames}
use Rattle.term_lines.specs.Laws.{WritesNames}
use Rattle.term_lines.specs.Strategies.{built_by_all, AreBuiltBy}
use Rattle.term_lines.specs.Tracing.{tells, remembers}
use Rattle.term_lines.specs.declared.strategy.Strategy.{Strategy}
use Rattle.term_lines.specs.declared.strategy.Strategy.TheVariants.{Innermost, Outermost}

-- A term without variables, of symbols alone that have names and no more arguments than the plan's
-- width.
pub record IsTermFor (plan : Planned) (symbols : List Named) (term : Tree) : Type 0 where
  pub free : IsGround term
  pub plain : IsPlain plan.widest term
  pub named : HasNames symbols term

-- the right sides of all rules have names
abbrev pub WriteNames : List Named → List Rule → Type 0
WriteNames symbols rules = All (WritesNames symbols) rules

-- the term with a number
abbrev pub term_at : List Tree → ℕ → Tree
term_at terms i = slice_index_or terms i (Leaf 0)

-- how a command rewrites terms
abbrev pub strategy_of : Command → Strategy
strategy_of command.Outermost = Outermost
strategy_of _ = Innermost

abbrev pub IsInnermost : Settings → Type 0
IsInnermost s = strategy_of s.command ≡ Innermost

-- whether no rule has a condition
abbrev pub are_unconditional : List Rule → Bool
are_unconditional rules = list_all (λ r. length r.conditions == 0) rules

-- whether events are asked, of rules of which they say something
abbrev pub is_traced : Settings → List Rule → Bool
is_traced s rules = s.trace && are_unconditional rules

-- whether events are told
abbrev pub tells_events : Settings → List Rule → Bool
tells_events s rules = tells (strategy_of s.command) (is_traced s rules)

-- what terms build, in order
abbrev pub built_of : Settings → List Rule → List Tree → List Tree
built_of s rules terms = built_by_all (strategy_of s.command) rules terms s.fuel s.depth

-- whether results of reductions are remembered
abbrev pub remembers_results : Settings → List Rule → Bool
remembers_results s rules = remembers (strategy_of s.command) (is_traced s rules) (nat_lt 0 s.cache)

-- Trees that terms build after these: all, in order; where results are remembered, a cached list of
-- the terms' points.
abbrev pub AreBuilt : Settings → List Rule → List Tree → (before trees : List Tree) → Type 0
AreBuilt s rules terms before trees = AreBuiltBy (strategy_of s.command) (remembers_results s rules)
    rules terms s.fuel s.depth before trees

-- how many trees innermost rewriting has in hand at once, at the term with a number, and at any
-- term
abbrev pub need_at : Settings → List Rule → List Tree → ℕ → ℕ
need_at s rules terms i = need rules (term_at terms i) s.fuel s.depth

abbrev pub need_of : Settings → List Rule → List Tree → ℕ
need_of s rules terms = need_of_all rules terms s.fuel s.depth

-- the terms are few, and may be rewritten by the plan
pub record MayWork (plan : Planned) (symbols : List Named) (terms : List Tree) : Type 0 where
  pub few : length terms < 2 ^ 32
  pub each_term : All (IsTermFor plan symbols) terms
  pub names : WriteNames symbols plan.rules
