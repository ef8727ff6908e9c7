use Rattle.std.proofs.Common.{◌∙◌, ◌∷◌, [], arith}
use Rattle.term_text.proofs.Writing.{constant_written, symbol_begun, extends_more}
use Rattle.term_text.proofs.works.write_symbol.Goals as goal

pub returns-then-count-eq0 : goal.returns-then-count-eq0
returns-then-count-eq0 g c = record {
  advances = constant_written c.args.symbols.now (g.T.Terms.store c.args.terms.now) c.args.row c.args.symbol c.name.result.now _ _ _
      c.requires.symbol c.name.ensures (omega (arith, c.count.ensures.count)) c.in_ok-extend_from_slice.ensures.items;
  grows = (c.name.result.now, c.in_ok-extend_from_slice.ensures.items);
  unchanged = c.count.ensures.unchanged;
  same = c.count.ensures.same;
}

pub returns : goal.returns
returns g c = record {
  advances = symbol_begun c.push_argument.result c.args.symbols.now (g.T.Terms.store c.args.terms.now) _ c.args.row c.args.symbol c.name.result.now _ _ _ _ _
      c.count.ensures.unchanged c.requires.ready c.requires.symbol c.name.ensures c.in_ok-extend_from_slice.ensures.items c.in_ok-push.ensures.items
      c.push_argument.ensures.argument;
  grows = extends_more _ _ _ (c.name.result.now, c.in_ok-extend_from_slice.ensures.items) (40 ∷ [], c.in_ok-push.ensures.items);
  unchanged = c.push_argument.ensures.unchanged ∙ c.count.ensures.unchanged;
  same = g.met.T.Terms.same_in_turn _ _ _ c.count.ensures.same c.push_argument.ensures.same;
}
