use Rattle.std.proofs.Common.{Ok}
use Rattle.innermost.specs.declared.normal.Normal.TheVariants.{OutOfFuel}
use Rattle.innermost.proofs.CachedEnds.{settled_right}
use Rattle.rewriting_trials.proofs.remembered.answer_with.Goals as goal

pub returns-clause-memory : goal.returns-clause-memory
returns-clause-memory g c =
    settled_right c.args.plan.now.rules (g.T.Terms.store c.normalize_with-answer.new.terms) (g.T.Terms.store c.keep.new.self) 0 (g.M.Memo.map c.normalize_with-answer.new.memo) (Ok OutOfFuel) c.normalize_with-answer.ensures.memory c.keep.ensures.kept
