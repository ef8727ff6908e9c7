use Rattle.std.proofs.Common.{◌∙◌, ◌∷◌, [], arith}
use Rattle.term_text.proofs.Writing.{arguments_closed, argument_begun}
use Rattle.term_text.proofs.works.write_arguments.Goals as goal

pub returns-then-count-from : goal.returns-then-count-from
returns-then-count-from g c = record {
  advances = arguments_closed c.args.symbols.now (g.T.Terms.store c.args.terms.now) c.args.row c.args.from _ _ _
      (omega (arith, c.count.ensures.count)) c.in_ok-push.ensures.items;
  grows = (41 ∷ [], c.in_ok-push.ensures.items);
  unchanged = c.count.ensures.unchanged;
  same = c.count.ensures.same;
}

pub returns : goal.returns
returns g c = record {
  advances = argument_begun c.push_argument.result c.args.symbols.now (g.T.Terms.store c.args.terms.now) _ c.args.row c.args.from _ _ _ _
      c.count.ensures.unchanged c.requires.ready c.in_ok-push-2.ensures.items c.push_argument.ensures.argument;
  grows = (44 ∷ [], c.in_ok-push-2.ensures.items);
  unchanged = c.push_argument.ensures.unchanged ∙ c.count.ensures.unchanged;
  same = g.met.T.Terms.same_in_turn _ _ _ c.count.ensures.same c.push_argument.ensures.same;
}
