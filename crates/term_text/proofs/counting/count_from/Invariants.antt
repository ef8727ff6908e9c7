use Rattle.std.proofs.Common.{◌≡◌, length, [], List}
use Rattle.term_model.specs.declared.Row.{Row}
use Rattle.term_model.specs.Tree.{Tree}
use Rattle.terms_api.specs.Terms.{IsSound, tree_at}
use Rattle.term_text.specs.Tally.{IsCounted, IsHalfway, HasRoom, IsWithin, AreWithin, IsBegun, steps_left}
use Rattle.term_text.proofs.counting.count_from.Given as goal

abbrev pub invariant-path : goal.invariant-path
invariant-path g l =
    let s = g.T.Terms.store l.fn.terms in
    let old = l.fn.tally.counts.items in
    let counts = l.tally.counts.items in
    let path = l.tally.path.items in
    record {
      store : g.T.Terms.store l.terms ≡ s;
      same : g.T.Terms.same l.fn.terms l.terms;
      sound : IsSound s;
      halfway : IsHalfway s counts l.tally.rows.items path;
      room : HasRoom l.tally;
      size : length counts ≡ length old;
      begun : IsBegun counts path l.fn.row;
      kept : (r : Row) → IsCounted old r → IsCounted counts r;
      within : (ts : List Tree) → IsWithin ts (tree_at s l.fn.row) → AreWithin s ts old [] → AreWithin s ts counts path;
    }

abbrev pub decreases-path : goal.decreases-path
decreases-path g l = steps_left l.tally.counts.items l.tally.rows.items l.tally.path.items
