use Rattle.std.proofs.Common.{◌≡◌, ◌<◌, ◌≤◌, length}
use Rattle.std.specs.Prelude.{true, vec_capacity}
use Rattle.innermost.specs.Rewriting.{IsOn}
use Rattle.innermost.proofs.Rewrites.{whole_run}
use Rattle.innermost.proofs.outward.rewrite.Given as goal

-- the tree on top is rewritten with the fuel that is left
abbrev pub invariant-steps : goal.invariant-steps
invariant-steps g l =
    record {
      inside : (g.T.Terms.store l.terms).inside ≡ true;
      frames_room : vec_capacity l.parts.frames ≡ vec_capacity l.fn.parts.frames;
      spots_room : vec_capacity l.spots ≡ vec_capacity l.fn.spots;
      matcher : l.parts.matcher.automaton ≡ l.fn.parts.matcher.automaton;
      path_room : l.depth ≤ vec_capacity l.window.path;
      window : 0 < length l.window.depths.items;
      state : IsOn (whole_run l.plan l.fn.term l.fn.parts.left l.depth (g.T.Terms.store l.fn.terms)) l.plan l.depth l.parts.left (g.T.Terms.store l.terms);
      same : g.T.Terms.same l.fn.terms l.terms;
    }

abbrev pub decreases-steps : goal.decreases-steps
decreases-steps g l = l.parts.left
