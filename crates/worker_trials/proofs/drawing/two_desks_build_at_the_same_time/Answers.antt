use Rattle.std.proofs.Common.{[], ◌∷◌}
use Rattle.std.proofs.lemmas.List.Elements.{All-nil, All-cons}
use Rattle.plain_store.specs.Contents.{store_of}
use Rattle.worker_trials.specs.declared.told.Told.{Told}
use Rattle.worker_trials.specs.declared.drawing.Meeting.{Meeting}
use Rattle.rewrite_workers.specs.Trials.{IsEmptyDesk}
use Rattle.worker_trials.proofs.drawing.two_desks_build_at_the_same_time.Goals as goal

pub rewrite-requires-clause-ready : goal.rewrite-requires-clause-ready
rewrite-requires-clause-ready g c κs =
    let P : Told Meeting → Type 0 = λ d. IsEmptyDesk 10 (store_of d.store) in
    let first = c.in_ok-new.field-0 in
    let second = c.in_ok-new-2.field-0 in
    All-cons P first (second ∷ []) c.in_ok-new.ensures (All-cons P second [] c.in_ok-new-2.ensures (All-nil P))
