use Rattle.std.proofs.Common.{sym, ◌∙◌, arith}
use Rattle.std.proofs.lemmas.Bool.{OnTrue_from, OnFalse_from}
use Rattle.rule_match.proofs.Bindings.{same_number}
use Rattle.row_match.proofs.Bound.{bound_same, bound_other, not_yet, newly, other_number}
use Rattle.row_match.proofs.matching.bind.Goals as goal

pub returns-then-at-len-clause-bound : goal.returns-then-at-len-clause-bound
returns-then-at-len-clause-bound g c =
    let s = g.T.Terms.store c.args.terms.now in
    OnTrue_from _ _ (λ e. bound_same s c.args.rows.now.items c.args.variable c.index.result.now c.args.row (omega arith) c.index.ensures (same_number _ _ (sym c.eq.ensures ∙ e)))

pub returns-then-at-len-clause-none : goal.returns-then-at-len-clause-none
returns-then-at-len-clause-none g c =
    let s = g.T.Terms.store c.args.terms.now in
    OnFalse_from _ _ (λ e. bound_other s c.args.rows.now.items c.args.variable c.index.result.now c.args.row c.requires.sound c.requires.rows_held c.requires.held (omega arith) c.index.ensures (other_number _ _ (sym c.eq.ensures ∙ e)))

pub returns-then-at-len-2-clause-none : goal.returns-then-at-len-2-clause-none
returns-then-at-len-2-clause-none g c =
    not_yet (g.T.Terms.store c.args.terms.now) c.args.rows.now.items c.args.variable c.args.row (omega arith)

pub returns-clause-bound : goal.returns-clause-bound
returns-clause-bound g c =
    newly (g.T.Terms.store c.args.terms.now) c.args.rows.now.items _ c.args.variable c.args.row (omega arith) c.push_reserved.ensures.items
