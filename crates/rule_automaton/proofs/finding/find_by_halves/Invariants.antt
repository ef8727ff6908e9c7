use Rattle.std.proofs.Common.{◌≡◌, ℕ, ◌-◌, ◌<◌, ◌≤◌, length, get_or, false}
use Rattle.term_model.specs.declared.Head.TheVariants.{App}
use Rattle.rule_automaton.specs.Running.{is_way_of}
use Rattle.rule_automaton.specs.declared.states.Way.{Way}
use Rattle.rule_automaton.proofs.finding.find_by_halves.Given as goal

-- no way before the low place or from the high one on is the head's
abbrev pub invariant-halves : goal.invariant-halves
invariant-halves l =
    record {
      order : l.low ≤ l.high;
      within : l.high ≤ length l.ways;
      below : (k : ℕ) (d : Way) → k < l.low → is_way_of (App l.symbol) l.count (get_or l.ways k d) ≡ false;
      above : (k : ℕ) (d : Way) → l.high ≤ k → k < length l.ways → is_way_of (App l.symbol) l.count (get_or l.ways k d) ≡ false;
    }

abbrev pub decreases-halves : goal.decreases-halves
decreases-halves l = l.high - l.low
