use Rattle.std.proofs.Common.{◌∙◌, ap}
use Rattle.plain_store.specs.Slots.{some_count}
use Rattle.plain_store.specs.Contents.{Contents}
use Rattle.plain_store.specs.View.{past}
use Rattle.plain_store.proofs.Used.{trees_used}
use Rattle.plain_store.proofs.store.PlainStore.used.Goals as goal

pub returns-clause-used : goal.returns-clause-used
returns-clause-used c =
    let s = c.self.inside in
    c.used.ensures
    ∙ trees_used s.nodes (past s).trees c.self.invariant.agree
    ∙ ap (λ (x : Contents). some_count x.trees) c.self.view_is
