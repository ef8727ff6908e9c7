use Rattle.std.proofs.Common.{◌-◌, ◌≡◌, ◌<◌, ◌≤◌, length}
use Rattle.std.specs.Prelude.{Contains, true, vec_capacity}
use Rattle.term_model.specs.Tree.{Tree, nodes}
use Rattle.terms_api.specs.Terms.{trees}
use Rattle.innermost.specs.Shown.{Shows}
use Rattle.innermost.specs.Outward.{KeepsParts}
use Rattle.innermost.specs.Instances.{Site, IsBegun, IsBuilding}
use Rattle.innermost.proofs.instantiating.instantiate.Given as goal

abbrev pub invariant-nodes : goal.invariant-nodes
invariant-nodes g l =
    record {
      within : l.at ≤ nodes l.pattern;
      inside : (g.T.Terms.store l.terms).inside ≡ true;
      path_room : l.limit ≤ vec_capacity l.window.path;
      window : 0 < length l.window.depths.items;
      shows : Shows l.limit l.pattern l.window.from l.window.depths.items;
      state : (site : Site) → IsBegun site (g.T.Terms.store l.fn.terms) l.rows l.pattern l.room → IsBuilding site (g.T.Terms.store l.terms) l.rows l.pattern l.room l.at;
      keeps : (root : Tree) → Contains (trees (g.T.Terms.store l.fn.terms)) root → KeepsParts root (g.T.Terms.store l.fn.terms) (g.T.Terms.store l.terms);
      same : g.T.Terms.same l.fn.terms l.terms;
    }

abbrev pub decreases-nodes : goal.decreases-nodes
decreases-nodes g l = nodes l.pattern - l.at
