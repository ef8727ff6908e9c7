use Rattle.std.proofs.Common.{◌≡◌, Some, sym, subst}
use Rattle.std.specs.Prelude.{slice_get}
use Rattle.terms_api.specs.Terms.{Store}
use Rattle.terms_api.proofs.Callers.{held-stack}
use Rattle.text_trials.proofs.stores.read_lowest.Goals as goal

pub read_back-requires-clause-held : goal.read_back-requires-clause-held
read_back-requires-clause-held g c =
    held-stack _ 0 c.at-row.result c.at-row.ensures.sound (subst (λ (s : Store). slice_get s.stack 0 ≡ Some c.at-row.result) (sym c.at-row.ensures.unchanged) c.at-row.ensures.row)
