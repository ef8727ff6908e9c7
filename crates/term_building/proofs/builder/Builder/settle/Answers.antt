use Rattle.std.proofs.Common.{◌∙◌, ap, Some}
use Rattle.std.specs.Prelude.{option_and_then}
use Rattle.term_building.specs.State.{ended}
use Rattle.term_building.proofs.Results.{on_ok}
use Rattle.term_building.proofs.builder.Builder.settle.Goals as goal

pub returns : goal.returns
returns g c =
    let named = c.in_ok-call.ensures in
    let e = c.end.ensures in
    record {
      built = on_ok c.end.result (λ r. ap (option_and_then (λ k. Some (ended c.args.text.now c.args.at k))) named.built ∙ r) e.built;
      ready = e.ready;
      same = on_ok c.end.result (g.met.T.Terms.same_in_turn _ _ _ named.same) e.same;
    }
