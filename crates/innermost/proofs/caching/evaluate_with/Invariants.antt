use Rattle.std.proofs.Common.{◌≡◌, ◌-◌, ◌≤◌, ◌<◌, length}
use Rattle.std.specs.Prelude.{vec_capacity, true}
use Rattle.term_model.specs.Tree.{nodes}
use Rattle.innermost.specs.Shown.{Shows}
use Rattle.innermost.specs.Caching.{IsCaching}
use Rattle.innermost.proofs.caching.evaluate_with.Given as goal

abbrev pub invariant-nodes : goal.invariant-nodes
invariant-nodes g l =
    record {
      within : l.at ≤ nodes l.term;
      inside : (g.T.Terms.store l.terms).inside ≡ true;
      frames_room : vec_capacity l.parts.frames ≡ vec_capacity l.fn.parts.frames;
      matcher : l.parts.matcher.automaton ≡ l.fn.parts.matcher.automaton;
      path_room : l.rules.code.now.depth ≤ vec_capacity l.window.path;
      window : 0 < length l.window.depths.items;
      shows : Shows l.rules.code.now.depth l.term l.window.from l.window.depths.items;
      state : IsCaching l.rules.plan.now l.rules.code.now (g.T.Terms.store l.fn.terms) l.term l.fn.parts.left (g.M.Memo.map l.memo) l.epoch l.at l.parts.left (g.T.Terms.store l.terms);
      same : g.T.Terms.same l.fn.terms l.terms;
    }

abbrev pub decreases-nodes : goal.decreases-nodes
decreases-nodes g l = nodes l.term - l.at
