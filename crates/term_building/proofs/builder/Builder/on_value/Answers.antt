use Rattle.std.proofs.Common.{◌∙◌, ap, sym, Some}
use Rattle.term_building.specs.State.{state_of, ended}
use Rattle.term_building.proofs.Results.{on_ok}
use Rattle.term_building.proofs.builder.Builder.on_value.Goals as goal

pub returns : goal.returns
returns g c =
    let e = c.end.ensures in
    record {
      built = on_ok c.end.result (λ r. ap (λ ts. Some (ended c.args.text.now c.args.end (state_of c.args.self.now ts))) (sym c.in_ok-build_integer.ensures.built) ∙ r) e.built;
      ready = e.ready;
      same = on_ok c.end.result (g.met.T.Terms.same_in_turn _ _ _ c.build_integer.ensures.same) e.same;
    }
