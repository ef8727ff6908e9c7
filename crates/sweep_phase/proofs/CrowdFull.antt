-- Where a creation after a collection is refused, the crowd fills the store.
use Rattle.std.proofs.Common.{ℕ, List, Result, Ok, Err}
use Rattle.std.specs.Prelude.{IfErr}
use Rattle.term_model.specs.declared.Head.{Head}
use Rattle.store_model.specs.declared.view.Sizes.{Sizes}
use Rattle.store_model.specs.Machine.{with_call, with_path}
use Rattle.node_rows.specs.declared.view.NodeView.{NodeView}
use Rattle.node_rows.specs.Crowding.{IsSwept}
use Rattle.node_rows.specs.CrowdFull.{IsCrowded}
use Rattle.node_rows.specs.Steps.{over, with_store}
use Rattle.node_rows.proofs.CrowdFull.{filled_is_crowded}
use Rattle.term_create.specs.Created.{WasFilled}

filled_crowds : (z : Sizes) (i : ℕ) (v : NodeView) (f : Head) (rs : List ℕ) → WasFilled z i v f rs → IsSwept v.store → IsCrowded z v (over f rs)
filled_crowds z i v f rs w swept =
    let then : NodeView = with_store v (with_call (with_path v.store w.passed w.path) w.call) in
    let crowded = filled_is_crowded z i then (over f rs) w.filled record { fresh = swept.fresh; last = swept.last } in
    record { full = crowded.full; absent = crowded.absent }

pub refused_crowds : {A E : Type 0} → (r : Result A E) (z : Sizes) (i : ℕ) (v : NodeView) (f : Head) (rs : List ℕ) → IfErr r (λ _. WasFilled z i v f rs) → IfErr r (λ _. IsSwept v.store → IsCrowded z v (over f rs))
refused_crowds (Ok a) z i v f rs h = tt
refused_crowds (Err e) z i v f rs h = filled_crowds z i v f rs h
