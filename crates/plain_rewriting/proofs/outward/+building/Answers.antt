use Rattle.std.proofs.Common.{◌≡◌, ◌+◌, sym, ap, ◌∙◌, arith}
use Rattle.std.proofs.lemmas.Result.{err_from_is_err_and}
use Rattle.term_model.specs.Tree.{More, nodes, nodes_all}
use Rattle.term_model.proofs.Subtrees.{some_nodes}
use Rattle.plain_rewriting.specs.Boxed.{tree_of, trees_in, trees}
use Rattle.plain_rewriting.specs.declared.boxed.Term.{Term}
use Rattle.plain_rewriting.specs.declared.boxed.Arguments.{Arguments}
use Rattle.plain_rewriting.proofs.OutwardSteps.{no_room_built, rest_built_err}
use Rattle.plain_rewriting.proofs.outward.+building.Goals as goal

pub build-returns-then-room-eq0 : goal.build-returns-then-room-eq0
build-returns-then-room-eq0 t c = no_room_built (trees c.args.bound.now) (tree_of c.args.pattern.now) c.args.fuel c.args.room (trees c.args.built.now.items) c.if-room-eq0.true

pub build-build_all-requires : goal.build-build_all-requires
build-build_all-requires t c =
    let n : nodes (tree_of c.args.pattern.now) ≡ nodes_all (trees_in c.in-Over.patterns) + 1 = ap (λ p. nodes (tree_of p)) c.in-Over.is in
    (omega (arith, n), tt)

pub build_all-build-requires : goal.build_all-build-requires
build_all-build-requires t c =
    let n : nodes_all (trees_in c.args.patterns.now) ≡ nodes (tree_of c.in-Next.pattern.value) + nodes_all (trees_in c.in-Next.patterns.value) = ap (λ ps. nodes_all (trees_in ps)) c.in-Next.is in
    let d : nodes (tree_of c.deref.result.now) ≡ nodes (tree_of c.in-Next.pattern.value) = ap (λ p. nodes (tree_of p)) c.deref.ensures in
    (omega (arith, n, d), tt)

pub build_all-build_all-requires : goal.build_all-build_all-requires
build_all-build_all-requires t c =
    let n : nodes_all (trees_in c.args.patterns.now) ≡ nodes (tree_of c.in-Next.pattern.value) + nodes_all (trees_in c.in-Next.patterns.value) = ap (λ ps. nodes_all (trees_in ps)) c.in-Next.is in
    let d : nodes_all (trees_in c.deref-in-Next.result.now) ≡ nodes_all (trees_in c.in-Next.patterns.value) = ap (λ ps. nodes_all (trees_in ps)) c.deref-in-Next.ensures in
    (omega (arith, n, d, some_nodes (tree_of c.in-Next.pattern.value)), tt)

pub build_all-returns-in_err-rest-in-Next : goal.build_all-returns-in_err-rest-in-Next
build_all-returns-in_err-rest-in-Next t c =
    let p = tree_of c.deref.result.now in
    let ps = trees_in c.deref-in-Next.result.now in
    let is : trees_in c.args.patterns.now ≡ More p ps = ap trees_in c.in-Next.is ∙ ap (λ (u : Term). More (tree_of u) (trees_in c.in-Next.patterns.value)) (sym c.deref.ensures) ∙ ap (λ (us : Arguments). More p (trees_in us)) (sym c.deref-in-Next.ensures) in
    let first = c.in_ok-first-in-Next.ensures in
    let e = err_from_is_err_and c.from_residual-in_err-rest-in-Next.result c.from_residual-in_err-rest-in-Next.ensures.1 in
    rw (e.1, e.2) (rest_built_err (trees c.args.bound.now) (trees_in c.args.patterns.now) p ps is c.args.fuel c.args.room c.saturating_sub-below.result c.saturating_sub-below.ensures (tree_of c.in_ok-first-in-Next.first) c.in_ok-first-in-Next.left (trees c.args.built.now.items) (trees c.build.new.built.items) (trees c.build_all.new.built.items) first.0 first.1 c.in_err-rest-in-Next.field-0.0 c.in_err-rest-in-Next.ensures)
