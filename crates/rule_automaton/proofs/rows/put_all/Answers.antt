use Rattle.std.proofs.Common.{◌∙◌, ◌+◌, List, subst}
use Rattle.terms_api.specs.Terms.{Store}
use Rattle.term_model.specs.declared.Row.{Row}
use Rattle.rule_automaton.specs.Rows.{Fills}
use Rattle.rule_automaton.proofs.rows.put_all.Goals as goal

pub loop-place-preserved : goal.loop-place-preserved
loop-place-preserved g c =
    let i = c.loop-place.invariant in
    record {
      store = c.put_argument.ensures.unchanged ∙ i.store;
      same = g.met.T.Terms.same_in_turn _ _ _ i.same c.put_argument.ensures.same;
      fills = subst (λ (v : Store). (all : List Row) → Fills v c.args.row c.args.base c.loop-place.place all c.loop-place.rows → Fills v c.args.row c.args.base (c.loop-place.place + 1) all c.put_argument.new.rows) i.store c.put_argument.ensures.more c.args.rows.now i.fills;
    }
