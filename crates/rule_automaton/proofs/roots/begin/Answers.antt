use Rattle.std.proofs.Common.{◌≡◌, length, sym, ◌∙◌, subst}
use Rattle.term_model.specs.Tree.{arguments}
use Rattle.terms_api.specs.Terms.{Store, tree_at}
use Rattle.rule_automaton.specs.Rows.{row_at, Fills}
use Rattle.rule_automaton.specs.Running.{made}
use Rattle.rule_automaton.proofs.Rooted.{root_at, root_fits, goes_root}
use Rattle.rule_automaton.proofs.roots.begin.Goals as goal

pub fill-requires-clause-within : goal.fill-requires-clause-within
fill-requires-clause-within g c =
    let m = c.requires.rooted.0 in
    let a = made c.args.automaton.now in
    let s = g.T.Terms.store c.args.terms.now in
    let r = c.requires.rooted.1 in
    let w = c.in-Some.way in
    root_fits a s c.args.rows.now m c.args.first r w (root_at a s c.args.rows.now m c.args.first r c.index.result.now w c.index.ensures c.in-Some.is)

pub returns-clause-run : goal.returns-clause-run
returns-clause-run g c = λ m r.
    let a = made c.args.automaton.now in
    let s = g.T.Terms.store c.args.terms.now in
    let rows = c.args.rows.now in
    let w = c.in-Some.way in
    let n : w.count ≡ length (arguments (tree_at s (row_at rows 0))) = sym c.if-count-way.false ∙ c.count.ensures.count in
    let fills = subst (λ (v : Store). Fills v (row_at rows 0) w.base w.count rows c.fill.new.rows) c.count.ensures.unchanged c.fill.ensures.fills in
    goes_root a s rows m c.args.first r w (root_at a s rows m c.args.first r c.index.result.now w c.index.ensures c.in-Some.is) n c.fill.new.rows fills
