use Rattle.std.proofs.Common.{◌<◌, ◌≤◌, ◌∙◌, sym, subst, ap, arith}
use Rattle.terms_api.specs.Terms.{Store, IsSound}
use Rattle.rule_automaton.specs.Running.{made, Asked, IsRun}
use Rattle.rule_automaton.proofs.finding.run.Goals as goal

pub read_on-reached-requires-clause-run : goal.read_on-reached-requires-clause-run
read_on-reached-requires-clause-run g c =
    let a = made c.args.automaton.now in
    let m = c.requires.run.0 in
    let i = c.states.invariant in
    (m, subst (λ (v : Store). IsRun a v c.states.rows m c.states.at) (sym i.store) (i.run m c.requires.run.1))

pub step-requires-clause-run : goal.step-requires-clause-run
step-requires-clause-run g c =
    let a = made c.args.automaton.now in
    let m = c.requires.run.0 in
    let i = c.states.invariant in
    let here = subst (λ (v : Store). IsRun a v c.states.rows m c.states.at) (sym i.store) (i.run m c.requires.run.1) in
    (m, subst (λ (v : Store). IsRun a v c.read_on-reached.new.rows m c.read_on-reached.result) (sym c.read_on-reached.ensures.unchanged) (c.read_on-reached.ensures.run m here).1)

pub states-smaller : goal.states-smaller
states-smaller g c =
    let a = made c.args.automaton.now in
    let m = c.requires.run.0 in
    let i = c.states.invariant in
    let here = subst (λ (v : Store). IsRun a v c.states.rows m c.states.at) (sym i.store) (i.run m c.requires.run.1) in
    let reached = c.read_on-reached.ensures.run m here in
    let there = subst (λ (v : Store). IsRun a v c.read_on-reached.new.rows m c.read_on-reached.result) (sym c.read_on-reached.ensures.unchanged) reached.1 in
    let next = c.in-On.ensures.next m there in
    let from = reached.0 in
    let w = next.1.within in
    let v = here.within in
    let l = next.0 in
    omega (arith, from, l, w, v)

pub states-preserved : goal.states-preserved
states-preserved g c =
    let a = made c.args.automaton.now in
    let i = c.states.invariant in
    let late = c.read_on-reached.ensures.unchanged ∙ i.store in
    record {
      store = c.step.ensures.unchanged ∙ late;
      same = g.met.T.Terms.same_in_turn _ _ _ (g.met.T.Terms.same_in_turn _ _ _ i.same c.read_on-reached.ensures.same) c.step.ensures.same;
      run = λ m r. (let reached = subst (λ (v : Store). (m : Asked) → IsRun a v c.states.rows m c.states.at → (c.states.at ≤ c.read_on-reached.result) × IsRun a v c.read_on-reached.new.rows m c.read_on-reached.result) i.store c.read_on-reached.ensures.run m (i.run m r) in
          (subst (λ (v : Store). (m : Asked) → IsRun a v c.read_on-reached.new.rows m c.read_on-reached.result → (c.read_on-reached.result < c.in-On.next) × IsRun a v c.step.new.rows m c.in-On.next) late c.in-On.ensures.next m reached.1).1);
    }

pub read_on-reached-requires-clause-inside : goal.read_on-reached-requires-clause-inside
read_on-reached-requires-clause-inside g c = ap (λ (v : Store). v.inside) c.states.invariant.store ∙ c.requires.inside

pub step-requires-clause-inside : goal.step-requires-clause-inside
step-requires-clause-inside g c = ap (λ (v : Store). v.inside) (c.read_on-reached.ensures.unchanged ∙ c.states.invariant.store) ∙ c.requires.inside

pub step-requires-clause-sound : goal.step-requires-clause-sound
step-requires-clause-sound g c = subst IsSound (sym (c.read_on-reached.ensures.unchanged ∙ c.states.invariant.store)) c.requires.sound

pub returns-in-End-clause-unchanged : goal.returns-in-End-clause-unchanged
returns-in-End-clause-unchanged g c = c.step.ensures.unchanged ∙ (c.read_on-reached.ensures.unchanged ∙ c.states.invariant.store)

pub returns-in-End-clause-same : goal.returns-in-End-clause-same
returns-in-End-clause-same g c = g.met.T.Terms.same_in_turn _ _ _ (g.met.T.Terms.same_in_turn _ _ _ c.states.invariant.same c.read_on-reached.ensures.same) c.step.ensures.same
