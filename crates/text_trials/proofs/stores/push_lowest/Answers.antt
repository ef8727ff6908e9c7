use Rattle.std.proofs.Common.{subst, sym}
use Rattle.terms_api.specs.Terms.{Store, IsHeld, IsSound}
use Rattle.terms_api.proofs.Callers.{held-stack}
use Rattle.text_trials.proofs.stores.push_lowest.Goals as goal

pub push-requires-clause-held : goal.push-requires-clause-held
push-requires-clause-held g c =
    let same = c.at-row.ensures.unchanged in
    let sound = subst IsSound same c.at-row.ensures.sound in
    subst (λ (s : Store). IsHeld s c.at-row.result) (sym same) (held-stack _ 0 c.at-row.result sound c.at-row.ensures.row)
