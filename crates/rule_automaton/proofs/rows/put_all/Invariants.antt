use Rattle.std.proofs.Common.{◌≡◌}
use Rattle.rule_automaton.specs.Rows.{Fills}
use Rattle.rule_automaton.proofs.rows.put_all.Given as goal

-- the arguments before a place are put
abbrev pub invariant-loop-place : goal.invariant-loop-place
invariant-loop-place g l =
    record {
      store : g.T.Terms.store l.terms ≡ g.T.Terms.store l.fn.terms;
      same : g.T.Terms.same l.fn.terms l.terms;
      fills : Fills (g.T.Terms.store l.fn.terms) l.row l.base l.place l.initial.rows l.rows;
    }
