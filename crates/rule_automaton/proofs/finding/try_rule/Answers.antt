use Rattle.std.proofs.Common.{Bool, subst}
use Rattle.rule_automaton.specs.Running.{made, AreTested}
use Rattle.rule_automaton.proofs.Tried.{ready, untried, pairs_within, tried}
use Rattle.rule_automaton.proofs.finding.try_rule.Goals as goal

pub test_all-requires-clause-ready : goal.test_all-requires-clause-ready
test_all-requires-clause-ready g c =
    let b = c.requires.begun.1 in
    (b.reading.at, ready (made c.args.automaton.now) (g.T.Terms.store c.args.terms.now) c.args.rows.now c.requires.begun.0 b c.args.rule c.requires.rule c.index-shape.result.now c.index-shape.ensures c.deref.result.now c.deref.ensures.value)

pub returns-then-not-test_all-clause-tried : goal.returns-then-not-test_all-clause-tried
returns-then-not-test_all-clause-tried g c = λ m b.
    let a = made c.args.automaton.now in
    let s = g.T.Terms.store c.args.terms.now in
    let t = c.test_all.ensures.tested b.reading.at (ready a s c.args.rows.now m b c.args.rule c.requires.rule c.index-shape.result.now c.index-shape.ensures c.deref.result.now c.deref.ensures.value) in
    untried a s c.args.rows.now m b c.args.rule c.requires.rule c.index-shape.result.now c.index-shape.ensures c.deref.result.now c.deref.ensures.value c.test_all.new.rows (subst (λ (v : Bool). AreTested s b.reading.at c.test_all.new.rows c.deref.result.now v) c.if-not-test_all.true t)

pub have_one_row-requires : goal.have_one_row-requires
have_one_row-requires g c =
    let a = made c.args.automaton.now in
    let s = g.T.Terms.store c.args.terms.now in
    let m = c.requires.begun.0 in
    let b = c.requires.begun.1 in
    let t = c.test_all.ensures.tested b.reading.at (ready a s c.args.rows.now m b c.args.rule c.requires.rule c.index-shape.result.now c.index-shape.ensures c.deref.result.now c.deref.ensures.value) in
    pairs_within a s c.args.rows.now m b c.args.rule c.requires.rule c.index-shape.result.now c.index-shape.ensures c.deref.result.now c.deref.ensures.value c.test_all.new.rows (subst (λ (v : Bool). AreTested s b.reading.at c.test_all.new.rows c.deref.result.now v) c.if-not-test_all.false t) c.deref-2.result.now c.deref-2.ensures.value

pub returns-clause-tried : goal.returns-clause-tried
returns-clause-tried g c = λ m b.
    let a = made c.args.automaton.now in
    let s = g.T.Terms.store c.args.terms.now in
    let t = c.test_all.ensures.tested b.reading.at (ready a s c.args.rows.now m b c.args.rule c.requires.rule c.index-shape.result.now c.index-shape.ensures c.deref.result.now c.deref.ensures.value) in
    tried a s c.args.rows.now m b c.args.rule c.requires.rule c.index-shape.result.now c.index-shape.ensures c.deref.result.now c.deref.ensures.value c.test_all.new.rows (subst (λ (v : Bool). AreTested s b.reading.at c.test_all.new.rows c.deref.result.now v) c.if-not-test_all.false t) c.deref-2.result.now c.deref-2.ensures.value c.requires.sound c.have_one_row.result c.have_one_row.ensures
