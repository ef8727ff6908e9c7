use Rattle.std.proofs.Common.{◌≡◌, ◌∙◌, ◌<◌, Some, length, sym, ap, subst, arith}
use Rattle.std.specs.Prelude.{slice_get}
use Rattle.term_model.specs.Tree.{arguments}
use Rattle.terms_api.specs.Terms.{IsHeld, tree_at}
use Rattle.shared_desk.specs.Pass.{PassView, own}
use Rattle.shared_desk.proofs.own_reads.own_pair.Goals as goal

pub start-start-requires : goal.start-start-requires
start-start-requires c = record { standing = c.requires.standing; shared = c.requires.shared; held = c.requires.held }

pub child_from-first-requires : goal.child_from-first-requires
child_from-first-requires c =
    let two = c.requires.two in
    record {
      standing = c.requires.standing;
      shared = c.requires.shared;
      held = c.requires.held;
      start = c.start-start.ensures;
      below = omega (arith, two);
    }

pub child_from-second-requires : goal.child_from-second-requires
child_from-second-requires c =
    let two = c.requires.two in
    let e = c.child_from-first.ensures in
    record {
      standing = e.standing;
      shared = ap (λ (x : PassView). x.shared) e.unchanged ∙ c.requires.shared;
      held = subst (λ (x : PassView). IsHeld (own x) c.args.row) (sym e.unchanged) c.requires.held;
      start = c.start-start.ensures;
      below = subst (λ (x : PassView). 1 < length (arguments (tree_at (own x) c.args.row))) (sym e.unchanged) (omega (arith, two));
    }

pub returns : goal.returns
returns c =
    let d = c.child_from-first.ensures in
    let e = c.child_from-second.ensures in
    record {
      standing = e.standing;
      unchanged = e.unchanged ∙ d.unchanged;
      held = (d.held, subst (λ (x : PassView). IsHeld (own x) c.child_from-second.result) d.unchanged e.held);
      first = d.tree;
      second = subst (λ (x : PassView). slice_get (arguments (tree_at (own x) c.args.row)) 1 ≡ Some (tree_at (own x) c.child_from-second.result)) d.unchanged e.tree;
    }
