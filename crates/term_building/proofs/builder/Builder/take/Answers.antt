use Rattle.std.proofs.Common.{◌≡◌, ap, sym, subst, Some, OnOk}
use Rattle.term_building.specs.Ready.{state_in}
use Rattle.term_building.specs.Stages.{stage_of}
use Rattle.term_building.specs.State.{step_at}
use Rattle.term_building.proofs.builder.Builder.take.Goals as goal

pub returns-in-Settled : goal.returns-in-Settled
returns-in-Settled g c =
    let t = c.args.token in
    let old = state_in c.args.self.now (g.T.Terms.store c.args.store.now) in
    let new = state_in c.after_term.new.self (g.T.Terms.store c.after_term.new.store) in
    let e = c.after_term.ensures in
    let stage = sym (ap (λ k. stage_of k c.args.self.now.heading) c.in-Settled.is) in
    record {
      built = subst (λ k. OnOk c.after_term.result (step_at k c.args.text.now t.place c.args.end t.shape old ≡ Some new)) stage e.built;
      ready = e.ready;
      same = e.same;
    }

pub returns-in-Bracketed : goal.returns-in-Bracketed
returns-in-Bracketed g c =
    let t = c.args.token in
    let old = state_in c.args.self.now (g.T.Terms.store c.args.store.now) in
    let new = state_in c.in_brackets.new.self (g.T.Terms.store c.in_brackets.new.store) in
    let e = c.in_brackets.ensures in
    let stage = sym (ap (λ k. stage_of k c.args.self.now.heading) c.in-Bracketed.is) in
    record {
      built = subst (λ k. OnOk c.in_brackets.result (step_at k c.args.text.now t.place c.args.end t.shape old ≡ Some new)) stage e.built;
      ready = e.ready;
      same = e.same;
    }

pub returns-in-Expected : goal.returns-in-Expected
returns-in-Expected g c =
    let t = c.args.token in
    let old = state_in c.args.self.now (g.T.Terms.store c.args.store.now) in
    let new = state_in c.on_term.new.self (g.T.Terms.store c.on_term.new.store) in
    let e = c.on_term.ensures in
    let stage = sym (ap (λ k. stage_of k c.args.self.now.heading) c.in-Expected.is) in
    record {
      built = subst (λ k. OnOk c.on_term.result (step_at k c.args.text.now t.place c.args.end t.shape old ≡ Some new)) stage e.built;
      ready = e.ready;
      same = e.same;
    }

pub returns-in-Headed : goal.returns-in-Headed
returns-in-Headed g c =
    let t = c.args.token in
    let old = state_in c.args.self.now (g.T.Terms.store c.args.store.now) in
    let new = state_in c.after_name.new.self (g.T.Terms.store c.after_name.new.store) in
    let e = c.after_name.ensures in
    let stage = sym (ap (λ k. stage_of k c.args.self.now.heading) c.in-Headed.is) in
    record {
      built = subst (λ k. OnOk c.after_name.result (step_at k c.args.text.now t.place c.args.end t.shape old ≡ Some new)) stage e.built;
      ready = e.ready;
      same = e.same;
    }
