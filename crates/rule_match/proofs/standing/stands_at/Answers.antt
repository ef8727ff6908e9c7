use Rattle.std.proofs.Common.{sym, ◌∙◌}
use Rattle.term_model.specs.declared.Head.TheVariants.{App}
use Rattle.rule_match.proofs.Pushing.{stands_as}
use Rattle.rule_match.proofs.standing.stands_at.Goals as goal

pub returns-then-is_symbol-clause-stands : goal.returns-then-is_symbol-clause-stands
returns-then-is_symbol-clause-stands g c =
    stands_as (g.T.Terms.store c.args.terms.now) _ c.args.row (App c.args.symbol) c.head-head.result c.args.count c.count-arguments.result
    c.head-head.ensures.unchanged c.head-head.ensures.head c.count-arguments.ensures.count (sym c.is_symbol.ensures ∙ c.if-is_symbol.true)
