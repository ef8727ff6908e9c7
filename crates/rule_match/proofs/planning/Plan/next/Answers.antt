use Rattle.rule_match.proofs.Skipping.{next_read}
use Rattle.rule_match.proofs.planning.Plan.next.Goals as goal

pub returns-clause-next : goal.returns-clause-next
returns-clause-next c = λ h at. (next_read c.args.self.now _ _ _ _ c.args.rule h c.index.result.now c.self.view_is c.self.invariant.0 c.requires c.index.ensures at).0

pub returns-clause-none : goal.returns-clause-none
returns-clause-none c = λ h at. (next_read c.args.self.now _ _ _ _ c.args.rule h c.index.result.now c.self.view_is c.self.invariant.0 c.requires c.index.ensures at).1
