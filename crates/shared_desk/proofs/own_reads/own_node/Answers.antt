use Rattle.std.proofs.Common.{◌≡◌, ◌∙◌, sym, ap, subst, length}
use Rattle.term_model.specs.Tree.{arguments}
use Rattle.terms_api.specs.Terms.{IsHeld, tree_at}
use Rattle.shared_desk.specs.Pass.{PassView, own}
use Rattle.shared_desk.proofs.own_reads.own_node.Goals as goal

pub start-start-requires : goal.start-start-requires
start-start-requires c = record { standing = c.requires.standing; shared = c.requires.shared; held = c.requires.held }

pub head_from-head-requires : goal.head_from-head-requires
head_from-head-requires c = record { standing = c.requires.standing; shared = c.requires.shared; held = c.requires.held; start = c.start-start.ensures }

pub count_from-count-requires : goal.count_from-count-requires
count_from-count-requires c =
    let e = c.head_from-head.ensures in
    record {
      standing = e.standing;
      shared = ap (λ (x : PassView). x.shared) e.unchanged ∙ c.requires.shared;
      held = subst (λ (x : PassView). IsHeld (own x) c.args.row) (sym e.unchanged) c.requires.held;
      start = c.start-start.ensures;
    }

pub returns : goal.returns
returns c =
    let d = c.head_from-head.ensures in
    let e = c.count_from-count.ensures in
    record {
      standing = e.standing;
      unchanged = e.unchanged ∙ d.unchanged;
      head = d.head;
      count = subst (λ (x : PassView). c.count_from-count.result ≡ length (arguments (tree_at (own x) c.args.row))) d.unchanged e.count;
    }
