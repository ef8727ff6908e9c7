use Rattle.innermost.proofs.Memories.{none_right}
use Rattle.plain_store.specs.Contents.{store_of}
use Rattle.rewriting_trials.proofs.remembered.four_sums_by.Goals as goal

pub comes_anew-requires-clause-memory : goal.comes_anew-requires-clause-memory
comes_anew-requires-clause-memory g c =
    none_right c.args.plan.now.rules (store_of c.enter.new.self.store).built (store_of c.enter.new.self.store) (g.M.Memo.map c.forget.new.self) c.forget.ensures.empty
