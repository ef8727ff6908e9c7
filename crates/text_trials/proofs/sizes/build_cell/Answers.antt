use Rattle.std.proofs.Common.{◌≡◌, ◌-◌, Some, refl, sym, ◌∙◌, subst, arith}
use Rattle.term_model.specs.Tree.{root}
use Rattle.term_model.specs.declared.Head.TheVariants.{Cons}
use Rattle.terms_api.specs.Terms.{Store, tree_at}
use Rattle.term_text.proofs.Trying.{tried_built, tried_there, may_build_cell}
use Rattle.text_trials.proofs.sizes.build_cell.Goals as goal

pub build-requires-clause-may : goal.build-requires-clause-may
build-requires-clause-may g c =
    let s = g.T.Terms.store c.args.terms.now in
    let h = c.head.result in
    let head = subst (λ (x : Store). root (tree_at x c.at-top.result) ≡ Some h) c.at-top.ensures.unchanged c.head.ensures.head in
    may_build_cell c.args.symbols.now s (g.T.Terms.store c.head.new.self) (c.depth-depth.result - 1) c.at-top.result h (c.head.ensures.unchanged ∙ c.at-top.ensures.unchanged) c.requires
    (omega (arith, c.depth-depth.ensures.depth)) (omega (arith, c.depth-depth.ensures.depth)) c.at-top.ensures.row head (sym c.is_list.ensures ∙ c.if-not-is_list.false)

pub returns : goal.returns
returns g c =
    let s = g.T.Terms.store c.args.terms.now in
    let now = g.T.Terms.store c.head.new.self in
    let names = c.args.symbols.now in
    let b = c.build.ensures in
    tried_built names now (g.T.Terms.store c.build.new.self) Cons 2 c.build.result b.ok b.trees b.err b.err_trees refl (tried_there names s now (c.head.ensures.unchanged ∙ c.at-top.ensures.unchanged) c.requires)
