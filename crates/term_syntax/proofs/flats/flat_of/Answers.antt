use Rattle.std.proofs.Common.{◌∙◌, ◌++◌, ◌∷◌, [], take, replicate, get_or, ap, sym, subst}
use Rattle.std.specs.Option.{IsSome}
use Rattle.std.proofs.lemmas.List.{flat_map_more, take_all, take_more}
use Rattle.term_model.specs.Postorder.{tree_of}
use Rattle.term_model.specs.declared.Item.TheVariants.{Cons}
use Rattle.term_syntax.specs.declared.machine.Node.{Node}
use Rattle.term_syntax.specs.Items.{items_at, node_items}
use Rattle.term_syntax.proofs.flats.flat_of.Goals as goal

pub item_at-requires : goal.item_at-requires
item_at-requires c = c.requires.within c.loop-node.node-index (record { part = 0; cells = 0 }) c.loop-node-test.true

pub loop-node-preserved : goal.loop-node-preserved
loop-node-preserved c =
    let l = c.loop-node in
    let items = c.args.items.now in
    let nodes = c.args.nodes.now in
    let d : Node = record { part = 0; cells = 0 } in
    let n = get_or nodes l.node-index d in
    c.in_ok-push_items.ensures
    ∙ ap (λ x. l.spelled.items ++ x ∷ replicate n.cells Cons) c.item_at.ensures
    ∙ ap (λ xs. xs ++ node_items items n) l.invariant
    ∙ flat_map_more (node_items items) [] (take l.node-index nodes) n
    ∙ ap (items_at items) (sym (take_more nodes l.node-index d c.loop-node-test.true))

pub unreachable-requires : goal.unreachable-requires
unreachable-requires c =
    let items = c.args.items.now in
    let nodes = c.args.nodes.now in
    let all = c.loop-node.invariant ∙ ap (items_at items) (take_all c.loop-node.node-index nodes c.loop-node-test.false) in
    let e = sym (ap tree_of all) ∙ sym c.of.ensures.tree ∙ c.in-None.is in
    let bad = subst IsSome e c.requires.spelled in
    cc

pub returns : goal.returns
returns c =
    let items = c.args.items.now in
    let nodes = c.args.nodes.now in
    let all = c.loop-node.invariant ∙ ap (items_at items) (take_all c.loop-node.node-index nodes c.loop-node-test.false) in
    sym (ap tree_of all) ∙ sym c.of.ensures.tree ∙ c.in-Some.is
