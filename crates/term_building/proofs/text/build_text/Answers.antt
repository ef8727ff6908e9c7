use Rattle.std.proofs.Common.{sym, subst, ap}
use Rattle.terms_api.specs.Terms.{trees}
use Rattle.term_building.specs.Built.{IsBuilt}
use Rattle.term_building.specs.Stages.{stage_of}
use Rattle.term_building.specs.State.{state_of}
use Rattle.term_building.proofs.Passing.{passed_end, settled_groups}
use Rattle.term_building.proofs.text.build_text.Goals as goal

pub returns : goal.returns
returns g c =
    let text = c.args.text.now in
    let last = c.settle_last.new.self in
    let old = state_of c.in_ok-builder.builder (trees (g.T.Terms.store c.run.new.store)) in
    let new = state_of last (trees (g.T.Terms.store c.settle_last.new.store)) in
    let settled = c.in-Ok.ensures.built in
    let w = c.in_ok-lines.ensures in
    let stage = ap (λ k. stage_of k last.heading) w.stage in
    let built = passed_end text old new c.in_ok-builder.ensures.passed settled stage (settled_groups text old new settled w.groups) in
    record {
      built = (new.symbols, subst (IsBuilt text new.symbols new.trees) (sym w.written) built);
      inside = c.in-Ok.ensures.ready.inside;
      same = g.met.T.Terms.same_in_turn _ _ _ c.in_ok-builder.ensures.same c.in-Ok.ensures.same;
    }
