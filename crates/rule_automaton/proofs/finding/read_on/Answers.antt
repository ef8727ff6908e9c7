use Rattle.std.proofs.Common.{◌<◌, ◌∙◌, sym, subst, ap, arith, refl}
use Rattle.std.proofs.lemmas.List.{get_or_default}
use Rattle.rule_automaton.specs.declared.states.State.{State}
use Rattle.terms_api.specs.Terms.{Store}
use Rattle.rule_automaton.specs.Running.{made, Asked, IsRun}
use Rattle.rule_automaton.proofs.finding.read_on.Goals as goal

pub reads-init : goal.reads-init
reads-init g c =
    record {
      store = refl;
      same = g.met.T.Terms.same_as_itself _;
      run = λ m r. (omega arith, r);
    }

pub index-requires : goal.index-requires
index-requires g c =
    let m = c.requires.run.0 in
    let l = (c.reads.invariant.run m c.requires.run.1).1.within in
    omega (arith, l, c.args.automaton.now.states.ok.0)

pub read-at-requires-clause-run : goal.read-at-requires-clause-run
read-at-requires-clause-run g c =
    let a = made c.args.automaton.now in
    let m = c.requires.run.0 in
    let i = c.reads.invariant in
    (m, subst (λ (v : Store). IsRun a v c.reads.rows m c.reads.at) (sym i.store) (i.run m c.requires.run.1).1)

pub read-at-requires-clause-op : goal.read-at-requires-clause-op
read-at-requires-clause-op g c = λ d.
    let states = c.args.automaton.now.states.items in
    let m = c.requires.run.0 in
    let l = (c.reads.invariant.run m c.requires.run.1).1.within in
    ap (λ (st : State). st.op) (get_or_default states c.reads.at d c.index.result.now l ∙ sym c.index.ensures) ∙ c.in-Read.is

pub reads-smaller : goal.reads-smaller
reads-smaller g c =
    let a = made c.args.automaton.now in
    let m = c.requires.run.0 in
    let i = c.reads.invariant in
    let here = subst (λ (v : Store). IsRun a v c.reads.rows m c.reads.at) (sym i.store) (i.run m c.requires.run.1).1 in
    let next = c.read-at.ensures.next m here in
    let w = next.1.within in
    let v = here.within in
    let l = next.0 in
    omega (arith, l, w, v)

pub reads-preserved : goal.reads-preserved
reads-preserved g c =
    let a = made c.args.automaton.now in
    let i = c.reads.invariant in
    record {
      store = c.read-at.ensures.unchanged ∙ i.store;
      same = g.met.T.Terms.same_in_turn _ _ _ i.same c.read-at.ensures.same;
      run = λ m r. (let here = i.run m r in
          let next = subst (λ (v : Store). (m : Asked) → IsRun a v c.reads.rows m c.reads.at → (c.reads.at < c.read-at.result) × IsRun a v c.read-at.new.rows m c.read-at.result) i.store c.read-at.ensures.next m here.1 in
          let from = here.0 in
          let l = next.0 in
          (omega (arith, from, l), next.1));
    }
