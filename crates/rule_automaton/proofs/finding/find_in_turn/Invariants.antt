use Rattle.std.proofs.Common.{◌≡◌, ℕ, ◌<◌, get_or, false}
use Rattle.term_model.specs.declared.Head.TheVariants.{App}
use Rattle.rule_automaton.specs.Running.{is_way_of}
use Rattle.rule_automaton.specs.declared.states.Way.{Way}
use Rattle.rule_automaton.proofs.finding.find_in_turn.Given as goal

-- no way before this one is the symbol's
abbrev pub invariant-loop-way : goal.invariant-loop-way
invariant-loop-way l = (k : ℕ) (d : Way) → k < l.way-index → is_way_of (App l.symbol) l.count (get_or l.ways k d) ≡ false
