use Rattle.std.proofs.Common.{◌≡◌, sym, subst, Some, OnOk}
use Rattle.term_building.specs.Ready.{state_in}
use Rattle.term_building.specs.State.{on_term}
use Rattle.term_building.proofs.builder.Builder.on_term.Goals as goal

pub returns-in-Word : goal.returns-in-Word
returns-in-Word g c =
    let t = c.args.token in
    let old = state_in c.args.self.now (g.T.Terms.store c.args.store.now) in
    let new = state_in c.head.new.self (g.T.Terms.store c.head.new.store) in
    let e = c.head.ensures in
    record {
      built = subst (λ x. OnOk c.head.result (on_term c.args.text.now t.place c.args.end x old ≡ Some new)) (sym c.in-Word.is) e.built;
      ready = e.ready;
      same = e.same;
    }

pub returns-in-Quoted : goal.returns-in-Quoted
returns-in-Quoted g c =
    let t = c.args.token in
    let old = state_in c.args.self.now (g.T.Terms.store c.args.store.now) in
    let new = state_in c.on_quoted.new.self (g.T.Terms.store c.on_quoted.new.store) in
    let e = c.on_quoted.ensures in
    record {
      built = subst (λ x. OnOk c.on_quoted.result (on_term c.args.text.now t.place c.args.end x old ≡ Some new)) (sym c.in-Quoted.is) e.built;
      ready = e.ready;
      same = e.same;
    }

pub returns-in-Number : goal.returns-in-Number
returns-in-Number g c =
    let t = c.args.token in
    let old = state_in c.args.self.now (g.T.Terms.store c.args.store.now) in
    let new = state_in c.on_number.new.self (g.T.Terms.store c.on_number.new.store) in
    let e = c.on_number.ensures in
    record {
      built = subst (λ x. OnOk c.on_number.result (on_term c.args.text.now t.place c.args.end x old ≡ Some new)) (sym c.in-Number.is) e.built;
      ready = e.ready;
      same = e.same;
    }
