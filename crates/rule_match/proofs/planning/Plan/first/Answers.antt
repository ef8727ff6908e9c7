use Rattle.std.proofs.Common.{arith}
use Rattle.rule_match.proofs.Skipping.{first_none, first_read, first_past, first_other}
use Rattle.rule_match.proofs.planning.Plan.first.Goals as goal

pub returns-then-at-symbols-clause-none : goal.returns-then-at-symbols-clause-none
returns-then-at-symbols-clause-none c = (first_none c.args.self.now _ c.args.head c.index.result.now c.self.view_is c.self.invariant.0.plan (first_read _ _ _ _ c.in-App.symbol c.args.head c.index.result.now c.self.invariant.0 c.in-App.is (omega arith) c.index.ensures)).1

pub returns-else-at-symbols-clause-none : goal.returns-else-at-symbols-clause-none
returns-else-at-symbols-clause-none c = (first_none c.args.self.now _ c.args.head _ c.self.view_is c.self.invariant.0.plan (first_past _ _ _ _ c.in-App.symbol c.args.head c.self.invariant.0 c.in-App.is (omega arith))).1

pub returns-in_default : goal.returns-in_default
returns-in_default c =
    let r = first_none c.args.self.now _ c.args.head _ c.self.view_is c.self.invariant.0.plan (first_other _ _ _ _ c.args.head c.self.invariant.0 (λ f. c.in_default.not-App f)) in
    record { first = r.0; none = r.1 }
