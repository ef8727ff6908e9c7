use Rattle.std.proofs.Common.{◌∙◌, ap, arith}
use Rattle.std.proofs.lemmas.Bool.{OnTrue_at, OnFalse_at, OnTrue_from, OnFalse_from}
use Rattle.terms_api.specs.Terms.{tree_at}
use Rattle.row_match.specs.Binding.{Bound}
use Rattle.rule_match.proofs.Compiled.{match_at-left}
use Rattle.row_match.proofs.Room.{room_at}
use Rattle.row_match.proofs.matching.matches.Goals as goal

pub run-matched-requires-clause-stack_room : goal.run-matched-requires-clause-stack_room
run-matched-requires-clause-stack_room g c =
    let n = room_at c.args.binds.now.room c.args.plan.now.rules c.args.rule c.requires.rule c.requires.room in
    omega (arith, n, ap (λ (b : Bound). b.room) c.binds.view_is, c.binds.invariant, c.clear-2.ensures.capacity)

pub run-matched-requires-clause-rows_room : goal.run-matched-requires-clause-rows_room
run-matched-requires-clause-rows_room g c =
    let n = room_at c.args.binds.now.room c.args.plan.now.rules c.args.rule c.requires.rule c.requires.room in
    omega (arith, n, ap (λ (b : Bound). b.room) c.binds.view_is, c.binds.invariant, c.clear.ensures.capacity)

pub returns-then-not-matched-clause-none : goal.returns-then-not-matched-clause-none
returns-then-not-matched-clause-none g c =
    let same = match_at-left c.args.plan.now.rules c.args.rule (tree_at (g.T.Terms.store c.args.terms.now) c.args.row) c.requires.rule in
    OnFalse_from _ _ (λ e. same ∙ OnFalse_at e c.run-matched.ensures.none)

pub returns-else-not-matched-clause-bound : goal.returns-else-not-matched-clause-bound
returns-else-not-matched-clause-bound g c =
    let same = match_at-left c.args.plan.now.rules c.args.rule (tree_at (g.T.Terms.store c.args.terms.now) c.args.row) c.requires.rule in
    OnTrue_from _ _ (λ e. same ∙ OnTrue_at e c.run-matched.ensures.bound)
