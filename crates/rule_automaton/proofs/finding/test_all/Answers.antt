use Rattle.std.proofs.Common.{get_or, true, false, refl, sym, ◌∙◌, subst, arith}
use Rattle.std.proofs.lemmas.List.{get_or_default}
use Rattle.term_model.specs.declared.Head.TheVariants.{App}
use Rattle.terms_api.specs.Terms.{Store, IsHeld}
use Rattle.rule_match.proofs.Pushing.{stood, as_many}
use Rattle.rule_automaton.specs.Rows.{row_at, Fills}
use Rattle.rule_automaton.proofs.Trying.{none_done, place_full, fits, fails_there, done_more, all_done}
use Rattle.rule_automaton.specs.declared.shapes.Test.{Test}
use Rattle.rule_automaton.proofs.finding.test_all.Goals as goal

abbrev zero_test : Test
zero_test = record { place = 0; symbol = record { 0 = 0 }; count = 0; base = 0 }

pub loop-test-init : goal.loop-test-init
loop-test-init g c =
    record {
      store = refl;
      same = g.met.T.Terms.same_as_itself _;
      size = refl;
      done = λ at r. none_done _ at _ _ r;
    }

pub slice_copy_out-row : goal.slice_copy_out-row
slice_copy_out-row g c =
    let s = g.T.Terms.store c.args.terms.now in
    let x = get_or c.args.tests.now c.loop-test.test-index zero_test in
    let l = c.loop-test-test.true in
    let ready = c.requires.ready.1 in
    (place_full s c.requires.ready.0 c.args.rows.now c.loop-test.rows c.args.tests.now c.loop-test.test-index x ready l (get_or_default c.args.tests.now c.loop-test.test-index zero_test x l) (c.loop-test.invariant.done c.requires.ready.0 ready)).within

pub stands_at-requires-clause-held : goal.stands_at-requires-clause-held
stands_at-requires-clause-held g c =
    let s = g.T.Terms.store c.args.terms.now in
    let x = get_or c.args.tests.now c.loop-test.test-index zero_test in
    let l = c.loop-test-test.true in
    let ready = c.requires.ready.1 in
    let held = (place_full s c.requires.ready.0 c.args.rows.now c.loop-test.rows c.args.tests.now c.loop-test.test-index x ready l (get_or_default c.args.tests.now c.loop-test.test-index zero_test x l) (c.loop-test.invariant.done c.requires.ready.0 ready)).held in
    subst (λ (v : Store). IsHeld v (row_at c.loop-test.rows x.place)) (sym c.loop-test.invariant.store) held

pub returns-then-not-stands_at-clause-tested : goal.returns-then-not-stands_at-clause-tested
returns-then-not-stands_at-clause-tested g c = λ at ready.
    let s = g.T.Terms.store c.args.terms.now in
    let x = get_or c.args.tests.now c.loop-test.test-index zero_test in
    let l = c.loop-test-test.true in
    let i = c.loop-test.invariant in
    fails_there s at c.args.rows.now c.loop-test.rows c.args.tests.now c.loop-test.test-index x ready l (get_or_default c.args.tests.now c.loop-test.test-index zero_test x l) (i.done at ready)
    (stood s (g.T.Terms.store c.loop-test.terms) (App x.symbol) x.count x.count (row_at c.loop-test.rows x.place) c.stands_at.result false i.store refl c.stands_at.ensures.stands c.if-not-stands_at.true)

pub fill-requires-clause-held : goal.fill-requires-clause-held
fill-requires-clause-held g c =
    let s = g.T.Terms.store c.args.terms.now in
    let x = get_or c.args.tests.now c.loop-test.test-index zero_test in
    let l = c.loop-test-test.true in
    let ready = c.requires.ready.1 in
    let held = (place_full s c.requires.ready.0 c.args.rows.now c.loop-test.rows c.args.tests.now c.loop-test.test-index x ready l (get_or_default c.args.tests.now c.loop-test.test-index zero_test x l) (c.loop-test.invariant.done c.requires.ready.0 ready)).held in
    subst (λ (v : Store). IsHeld v (row_at c.loop-test.rows x.place)) (sym (c.stands_at.ensures.unchanged ∙ c.loop-test.invariant.store)) held

pub fill-requires-clause-count : goal.fill-requires-clause-count
fill-requires-clause-count g c =
    let x = get_or c.args.tests.now c.loop-test.test-index zero_test in
    as_many (g.T.Terms.store c.loop-test.terms) (g.T.Terms.store c.stands_at.new.terms) (App x.symbol) x.count (row_at c.loop-test.rows x.place) c.stands_at.result c.stands_at.ensures.unchanged c.stands_at.ensures.stands c.if-not-stands_at.false

pub fill-requires-clause-within : goal.fill-requires-clause-within
fill-requires-clause-within g c =
    let s = g.T.Terms.store c.args.terms.now in
    let x = get_or c.args.tests.now c.loop-test.test-index zero_test in
    let l = c.loop-test-test.true in
    let ready = c.requires.ready.1 in
    let i = c.loop-test.invariant in
    let f = fits s c.requires.ready.0 c.args.rows.now c.loop-test.rows c.args.tests.now c.loop-test.test-index x ready l (get_or_default c.args.tests.now c.loop-test.test-index zero_test x l) (i.done c.requires.ready.0 ready) in
    omega (arith, f, i.size)

pub loop-test-preserved : goal.loop-test-preserved
loop-test-preserved g c =
    let s = g.T.Terms.store c.args.terms.now in
    let x = get_or c.args.tests.now c.loop-test.test-index zero_test in
    let row = row_at c.loop-test.rows x.place in
    let l = c.loop-test-test.true in
    let i = c.loop-test.invariant in
    let late = c.stands_at.ensures.unchanged ∙ i.store in
    let fills = subst (λ (v : Store). Fills v row x.base x.count c.loop-test.rows c.fill.new.rows) late c.fill.ensures.fills in
    let stands = stood s (g.T.Terms.store c.loop-test.terms) (App x.symbol) x.count x.count row c.stands_at.result true i.store refl c.stands_at.ensures.stands c.if-not-stands_at.false in
    record {
      store = c.fill.ensures.unchanged ∙ late;
      same = g.met.T.Terms.same_in_turn _ _ _ (g.met.T.Terms.same_in_turn _ _ _ i.same c.stands_at.ensures.same) c.fill.ensures.same;
      size = fills.size ∙ i.size;
      done = λ at ready. done_more s at c.args.rows.now c.loop-test.rows c.args.tests.now c.loop-test.test-index x ready l (get_or_default c.args.tests.now c.loop-test.test-index zero_test x l) (i.done at ready) c.fill.new.rows stands fills;
    }

pub returns-clause-tested : goal.returns-clause-tested
returns-clause-tested g c = λ at ready.
    all_done (g.T.Terms.store c.args.terms.now) at c.loop-test.rows c.args.tests.now c.loop-test.test-index c.loop-test-test.false (c.loop-test.invariant.done at ready)
