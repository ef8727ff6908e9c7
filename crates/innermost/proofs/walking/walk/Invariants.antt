use Rattle.std.proofs.Common.{◌≡◌}
use Rattle.std.specs.Prelude.{true, vec_capacity}
use Rattle.terms_api.specs.Terms.{tree_at}
use Rattle.innermost.specs.Walking.{IsWalk, walk_left}
use Rattle.innermost.proofs.walking.walk.Given as goal

abbrev pub invariant-walk : goal.invariant-walk
invariant-walk g l =
    record {
      inside : (g.T.Terms.store l.terms).inside ≡ true;
      spots_room : vec_capacity l.spots ≡ vec_capacity l.fn.spots;
      matcher : l.matcher.automaton ≡ l.fn.matcher.automaton;
      unchanged : g.T.Terms.store l.terms ≡ g.T.Terms.store l.fn.terms;
      state : IsWalk l.plan l.depth (tree_at (g.T.Terms.store l.fn.terms) l.fn.row) (g.T.Terms.store l.terms) l.spots.items l.matcher.rows l.found;
      same : g.T.Terms.same l.fn.terms l.terms;
    }

abbrev pub decreases-walk : goal.decreases-walk
decreases-walk g l = walk_left (g.T.Terms.store l.terms) l.spots.items l.found
