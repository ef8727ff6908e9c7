use Rattle.std.proofs.Common.{◌≡◌}
use Rattle.term_text.specs.Tally.{CountedBefore}
use Rattle.term_text.proofs.counting.first_uncounted.Given as goal

-- the arguments before j are counted
abbrev pub invariant-loop-j : goal.invariant-loop-j
invariant-loop-j g l =
    let s = g.T.Terms.store l.fn.terms in
    record {
      store : g.T.Terms.store l.terms ≡ s;
      same : g.T.Terms.same l.fn.terms l.terms;
      before : CountedBefore s l.counts l.visit.row l.j;
    }
