use Rattle.std.proofs.Common.{sym, ◌∙◌, subst, ap, arith}
use Rattle.terms_api.specs.Terms.{Store, IsSound}
use Rattle.rule_automaton.specs.Running.{made, Asked, IsBegun, IsTried}
use Rattle.rule_automaton.proofs.Trying.{begun_later, passed_more, passed_to, passed_all}
use Rattle.rule_automaton.proofs.finding.in_turn.Goals as goal

pub try_rule-requires-clause-begun : goal.try_rule-requires-clause-begun
try_rule-requires-clause-begun g c =
    let a = made c.args.automaton.now in
    let s = g.T.Terms.store c.args.terms.now in
    let m = c.requires.begun.0 in
    let b = c.requires.begun.1 in
    let i = c.loop-place.invariant in
    (m, subst (λ (v : Store). IsBegun a v c.loop-place.rows m) (sym i.store) (begun_later a s c.args.rows.now c.loop-place.rows m b (i.root m b) i.size))

pub returns-then-try_rule-clause-answer : goal.returns-then-try_rule-clause-answer
returns-then-try_rule-clause-answer g c = λ m b.
    let a = made c.args.automaton.now in
    let s = g.T.Terms.store c.args.terms.now in
    let i = c.loop-place.invariant in
    let r = c.index-rule.result.now in
    let tried = subst (λ (v : Store). (m : Asked) (b : IsBegun a v c.loop-place.rows m) → IsTried a v c.loop-place.rows c.try_rule.new.rows m b r c.try_rule.result) i.store c.try_rule.ensures.tried m (begun_later a s c.args.rows.now c.loop-place.rows m b (i.root m b) i.size) in
    let l = c.loop-place-test.true in
    passed_to a s c.try_rule.new.rows m c.args.from c.args.to c.loop-place.place r l c.requires.within c.index-rule.ensures (tried.yes c.if-try_rule.true) (record { same = (i.passed m b).same })

pub loop-place-preserved : goal.loop-place-preserved
loop-place-preserved g c =
    let a = made c.args.automaton.now in
    let s = g.T.Terms.store c.args.terms.now in
    let i = c.loop-place.invariant in
    let r = c.index-rule.result.now in
    let l = c.loop-place-test.true in
    let tried = subst (λ (v : Store). (m : Asked) (b : IsBegun a v c.loop-place.rows m) → IsTried a v c.loop-place.rows c.try_rule.new.rows m b r c.try_rule.result) i.store c.try_rule.ensures.tried in
    record {
      store = c.try_rule.ensures.unchanged ∙ i.store;
      same = g.met.T.Terms.same_in_turn _ _ _ i.same c.try_rule.ensures.same;
      size = omega (arith, i.size);
      root = λ m b. (tried m (begun_later a s c.args.rows.now c.loop-place.rows m b (i.root m b) i.size)).root;
      passed = λ m b.
          passed_more a s c.try_rule.new.rows m c.args.from c.args.to c.loop-place.place r l c.requires.within c.index-rule.ensures ((tried m (begun_later a s c.args.rows.now c.loop-place.rows m b (i.root m b) i.size)).no c.if-try_rule.false) (record { same = (i.passed m b).same });
    }

pub try_rule-requires-clause-inside : goal.try_rule-requires-clause-inside
try_rule-requires-clause-inside g c = ap (λ (v : Store). v.inside) c.loop-place.invariant.store ∙ c.requires.inside

pub try_rule-requires-clause-sound : goal.try_rule-requires-clause-sound
try_rule-requires-clause-sound g c = subst IsSound (sym c.loop-place.invariant.store) c.requires.sound

pub returns-then-try_rule-clause-unchanged : goal.returns-then-try_rule-clause-unchanged
returns-then-try_rule-clause-unchanged g c = c.try_rule.ensures.unchanged ∙ c.loop-place.invariant.store

pub returns-then-try_rule-clause-same : goal.returns-then-try_rule-clause-same
returns-then-try_rule-clause-same g c = g.met.T.Terms.same_in_turn _ _ _ c.loop-place.invariant.same c.try_rule.ensures.same

pub returns-clause-answer : goal.returns-clause-answer
returns-clause-answer g c = λ m b.
    passed_all (made c.args.automaton.now) (g.T.Terms.store c.args.terms.now) c.loop-place.rows m c.args.from c.args.to c.loop-place.place c.loop-place-test.false (c.loop-place.invariant.passed m b)

pub returns-clause-unchanged : goal.returns-clause-unchanged
returns-clause-unchanged g c = c.loop-place.invariant.store

pub returns-clause-same : goal.returns-clause-same
returns-clause-same g c = c.loop-place.invariant.same
