use Rattle.std.proofs.Common.{◌∙◌, arith}
use Rattle.std.proofs.lemmas.Result.{IfOk-weaker}
use Rattle.plain_rewriting.proofs.Binding.{tree_within, tree_past}
use Rattle.plain_rewriting.proofs.matching.tree_at.Goals as goal

pub returns-then-at-bound : goal.returns-then-at-bound
returns-then-at-bound c = IfOk-weaker c.copy.result _ _ (λ t e. e ∙ tree_within c.args.variable c.args.bound.now c.index-bound-at.result (omega arith) c.index-bound-at.is) c.copy.ensures

pub returns-else-at-bound : goal.returns-else-at-bound
returns-else-at-bound c = tree_past c.args.variable c.args.bound.now (omega arith)
