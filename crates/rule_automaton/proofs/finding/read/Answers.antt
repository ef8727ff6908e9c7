use Rattle.std.proofs.Common.{◌≡◌, List, get_or, sym, subst, arith, eqb-true}
use Rattle.std.specs.Prelude.{◌==◌, All, Contains, true, false}
use Rattle.std.proofs.lemmas.Bool.{and_parts}
use Rattle.term_model.specs.Tree.{head_eq}
use Rattle.term_model.specs.declared.Head.TheVariants.{App}
use Rattle.terms_api.specs.Terms.{Store, tree_at}
use Rattle.rule_automaton.specs.Automata.{part, AreInOrder}
use Rattle.rule_automaton.specs.Rows.{row_at, Fills}
use Rattle.rule_automaton.specs.Running.{made, is_way_of}
use Rattle.rule_automaton.specs.declared.states.Way.{Way}
use Rattle.rule_automaton.proofs.Readings.{place_full, ways_in_order, way_fits, way_stands, goes_else, goes_way}
use Rattle.rule_automaton.proofs.finding.read.Goals as goal

pub slice_copy_out-row : goal.slice_copy_out-row
slice_copy_out-row g c =
    (place_full (made c.args.automaton.now) (g.T.Terms.store c.args.terms.now) c.args.rows.now c.requires.run.0 c.args.at c.requires.run.1 c.args.node.place c.args.node.first c.args.node.last c.args.node.other c.requires.op).within

pub node-head-requires-clause-held : goal.node-head-requires-clause-held
node-head-requires-clause-held g c =
    (place_full (made c.args.automaton.now) (g.T.Terms.store c.args.terms.now) c.args.rows.now c.requires.run.0 c.args.at c.requires.run.1 c.args.node.place c.args.node.first c.args.node.last c.args.node.other c.requires.op).held

pub find_way-requires : goal.find_way-requires
find_way-requires g c =
    subst (λ (ws : List Way). AreInOrder (part ws c.args.node.first c.args.node.last)) (sym c.deref.ensures.value) (ways_in_order (made c.args.automaton.now) (g.T.Terms.store c.args.terms.now) c.args.rows.now c.requires.run.0 c.args.at c.requires.run.1 c.args.node.place c.args.node.first c.args.node.last c.args.node.other c.requires.op)

pub returns-in_default-clause-next : goal.returns-in_default-clause-next
returns-in_default-clause-next g c = λ m run.
    let a = made c.args.automaton.now in
    let s = g.T.Terms.store c.args.terms.now in
    let row = row_at c.args.rows.now c.args.node.place in
    let count = c.node-head.ensures.count in
    let none = subst (λ (ws : List Way). All (λ (w : Way). is_way_of c.node-head.result.0 c.node-head.result.1 w ≡ false) (part ws c.args.node.first c.args.node.last)) c.deref.ensures.value c.in_default.ensures.none in
    goes_else a s c.args.rows.now m c.args.at run c.args.node.place c.args.node.first c.args.node.last c.args.node.other c.requires.op
    (λ i d l. way_stands c.node-head.result.0 c.node-head.result.1 (get_or (part a.ways c.args.node.first c.args.node.last) i d) (tree_at s row) false c.node-head.ensures.head count (none i d l))

pub fill-requires-clause-within : goal.fill-requires-clause-within
fill-requires-clause-within g c =
    let w = c.in-Some.way in
    let f = way_fits (made c.args.automaton.now) (g.T.Terms.store c.args.terms.now) c.args.rows.now c.requires.run.0 c.args.at c.requires.run.1 c.args.node.place c.args.node.first c.args.node.last c.args.node.other c.requires.op w (subst (λ (ws : List Way). Contains (part ws c.args.node.first c.args.node.last) w) c.deref.ensures.value c.in-Some.ensures.some.0) in
    let n = eqb-true c.node-head.result.1 w.count (and_parts (head_eq (App w.symbol) c.node-head.result.0) (c.node-head.result.1 == w.count) c.in-Some.ensures.some.1).1 in
    omega (arith, f, n)

pub returns-clause-next : goal.returns-clause-next
returns-clause-next g c = λ m run.
    let a = made c.args.automaton.now in
    let s = g.T.Terms.store c.args.terms.now in
    let rows = c.args.rows.now in
    let row = row_at rows c.args.node.place in
    let w = c.in-Some.way in
    let count = c.node-head.ensures.count in
    let n = eqb-true c.node-head.result.1 w.count (and_parts (head_eq (App w.symbol) c.node-head.result.0) (c.node-head.result.1 == w.count) c.in-Some.ensures.some.1).1 in
    let stand = way_stands c.node-head.result.0 c.node-head.result.1 w (tree_at s row) true c.node-head.ensures.head count c.in-Some.ensures.some.1 in
    let fills = subst (λ (v : Store). Fills v row w.base c.node-head.result.1 rows c.fill.new.rows) c.node-head.ensures.unchanged c.fill.ensures.fills in
    goes_way a s rows m c.args.at run c.args.node.place c.args.node.first c.args.node.last c.args.node.other c.requires.op w (subst (λ (ws : List Way). Contains (part ws c.args.node.first c.args.node.last) w) c.deref.ensures.value c.in-Some.ensures.some.0) stand c.fill.new.rows (subst (λ k. Fills s row w.base k rows c.fill.new.rows) n fills)

pub returns-clause-same : goal.returns-clause-same
returns-clause-same g c =
    g.met.T.Terms.same_in_turn _ _ _ c.node-head.ensures.same c.fill.ensures.same
