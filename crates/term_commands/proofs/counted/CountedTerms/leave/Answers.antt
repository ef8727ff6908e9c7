use Rattle.plain_store.specs.Contents.{store_of}
use Rattle.term_commands.proofs.Exact.{counted_left}
use Rattle.term_commands.proofs.counted.CountedTerms.leave.Goals as goal

pub invariant_of-self : goal.invariant_of-self
invariant_of-self c = λ alone. counted_left (store_of c.self.inside.store) (store_of c.leave.new.self) c.self.inside.nodes c.leave.ensures.left c.leave.ensures.trees (c.self.invariant alone)
