use Rattle.std.proofs.Common.{◌≡◌, take, All}
use Rattle.std.specs.Prelude.{Err}
use Rattle.worker_crew.specs.declared.share.Share.{Share}
use Rattle.worker_crew.proofs.gather.any_stops.Given as goal

abbrev pub invariant-shares : goal.invariant-shares
invariant-shares l = All (λ (s : Share). s.end ≡ Err l.stop → ⊥) (take l.share-index l.shares)
