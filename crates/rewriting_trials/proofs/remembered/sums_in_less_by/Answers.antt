use Rattle.innermost.proofs.Memories.{none_right}
use Rattle.plain_store.specs.Contents.{store_of}
use Rattle.rewriting_trials.proofs.remembered.sums_in_less_by.Goals as goal

pub answers_in_less-requires-clause-memory : goal.answers_in_less-requires-clause-memory
answers_in_less-requires-clause-memory c =
    none_right c.args.plan.now.rules (store_of c.enter.new.self.store).built (store_of c.enter.new.self.store) _ c.forget.ensures.empty
