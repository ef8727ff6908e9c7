use Rattle.std.proofs.Common.{◌≡◌, ap, sym, subst, Some, OnOk}
use Rattle.term_building.specs.Ready.{state_in}
use Rattle.term_building.specs.Stages.{stage_of}
use Rattle.term_building.specs.State.{settled_at}
use Rattle.term_building.proofs.builder.Builder.settle_last.Goals as goal

pub returns-in-Headed : goal.returns-in-Headed
returns-in-Headed g c =
    let old = state_in c.args.self.now (g.T.Terms.store c.args.store.now) in
    let new = state_in c.settle.new.self (g.T.Terms.store c.settle.new.store) in
    let e = c.settle.ensures in
    let stage = sym (ap (λ k. stage_of k c.args.self.now.heading) c.in-Headed.is) in
    record {
      built = subst (λ k. OnOk c.settle.result (settled_at k c.args.text.now old ≡ Some new)) stage e.built;
      ready = e.ready;
      same = e.same;
    }
