use Rattle.std.proofs.Common.{ℕ}
use Rattle.store_model.specs.declared.view.Place.{Place}
use Rattle.store_model.specs.Shown.{shown}
use Rattle.store_core.proofs.HasContents.{stands_by}
use Rattle.store_core.proofs.Outcomes.{at_some}
use Rattle.store_core.proofs.machine.row_contents.stands_in.Goals as goal

pub returns : goal.returns
returns c =
    let z = c.args.table.now.sizes in
    let w : Place → ℕ = shown z c.args.table.now.words.items in
    let content = c.in-Some.content in
    stands_by z w c.args.row c.args.in_use c.args.number c.in_ok-bucket.bucket content (at_some c.in_ok-content.field-0 content _ _ c.in-Some.is c.in_ok-content.ensures) c.in_ok-bucket.ensures
