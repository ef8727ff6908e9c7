-- The points that the plain program notes.
use Rattle.std.specs.Prelude.{List, map}
use Rattle.rewrite_model.specs.Evaluation.{Point as Noted}
use Rattle.plain_rewriting.specs.Boxed.{tree_of, trees}
use Rattle.plain_rewriting.specs.declared.points.Point.{Point}

abbrev pub point_of : Point → Noted
point_of p = record { tree = tree_of p.tree; hand = trees p.hand.items; room = p.room }

abbrev pub points_of : List Point → List Noted
points_of ps = map point_of ps
