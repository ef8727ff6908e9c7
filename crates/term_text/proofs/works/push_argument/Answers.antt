use Rattle.term_text.proofs.Writing.{two_pushed}
use Rattle.term_text.proofs.works.push_argument.Goals as goal

pub returns : goal.returns
returns g c = record {
  argument = record {
    next = c.child-next.result;
    held = c.child-next.ensures.held;
    tree = c.child-next.ensures.tree;
    works = two_pushed _ _ _ _ _ c.in_ok-push.ensures.items c.in_ok-push-2.ensures.items;
  };
  unchanged = c.child-next.ensures.unchanged;
  same = c.child-next.ensures.same;
}
