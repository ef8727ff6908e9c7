use Rattle.std.proofs.lemmas.Result.{IfOk-weaker}
use Rattle.plain_rewriting.specs.Boxed.{trees_in}
use Rattle.plain_rewriting.proofs.Stacks.{taken_over}
use Rattle.plain_rewriting.proofs.reading.over.Goals as goal

pub returns : goal.returns
returns c = IfOk-weaker c.on_top.result _ _ (λ after e. taken_over c.args.head c.args.count (trees_in c.args.stack) (trees_in c.in_ok-taken.taken.args) (trees_in c.in_ok-taken.taken.rest) (trees_in after) c.in_ok-taken.ensures e) c.on_top.ensures
