use Rattle.std.proofs.Common.{◌≡◌, ◌+◌, ◌++◌, ◌∷◌, [], ◌∙◌, ℕ, List, length, take, map, slice_get, Some, ap, sym, subst}
use Rattle.std.proofs.lemmas.List.{map_push, take_more}
use Rattle.std.proofs.lemmas.Option.{get_or_from_slice_get, slice_get_within}
use Rattle.std.specs.Option.{IsSome}
use Rattle.term_model.specs.Tree.{Tree}
use Rattle.term_model.specs.Postorder.{tree_of}
use Rattle.term_model.specs.declared.Item.{Item}
use Rattle.term_syntax.specs.declared.machine.Node.{Node}
use Rattle.term_syntax.specs.Items.{items_at, trees_at, AreWithin}
use Rattle.term_syntax.proofs.flats.flats.Goals as goal

-- one more term is made
more_trees : (items : List Item) (terms : List (List Node)) (i : ℕ) (ts : List Tree) (t : Tree) (ns : List Node) → slice_get terms i ≡ Some ns → map Some ts ≡ trees_at items (take i terms) → tree_of (items_at items ns) ≡ Some t → map Some (ts ++ t ∷ []) ≡ trees_at items (take (i + 1) terms)
more_trees items terms i ts t ns at made e =
    let front = take_more terms i ns (slice_get_within terms i ns at) ∙ ap (λ n. take i terms ++ n ∷ []) (get_or_from_slice_get terms i ns ns at) in
    map_push Some ts t
    ∙ ap (λ us. us ++ Some t ∷ []) made
    ∙ ap (λ u. trees_at items (take i terms) ++ u ∷ []) (sym e)
    ∙ sym (map_push (λ n. tree_of (items_at items n)) (take i terms) ns)
    ∙ ap (trees_at items) (sym front)

pub flat_of-requires-clause-spelled : goal.flat_of-requires-clause-spelled
flat_of-requires-clause-spelled c =
    let P : List Node → Type 0 = λ ns. IsSome (tree_of (items_at c.args.items.now ns)) in
    let terms = c.args.nodes.now.terms in
    let i = c.loop-number.number in
    let ns = c.term.result.now in
    subst P (get_or_from_slice_get terms i ns ns c.term.ensures) (c.requires.spelled i ns (slice_get_within terms i ns c.term.ensures))

pub flat_of-requires-clause-within : goal.flat_of-requires-clause-within
flat_of-requires-clause-within c =
    let terms = c.args.nodes.now.terms in
    let i = c.loop-number.number in
    let ns = c.term.result.now in
    subst (AreWithin (length c.args.items.now)) (get_or_from_slice_get terms i ns ns c.term.ensures) (c.requires.within i ns (slice_get_within terms i ns c.term.ensures))

pub loop-number-preserved : goal.loop-number-preserved
loop-number-preserved c =
    let terms = c.args.nodes.now.terms in
    let i = c.loop-number.number in
    let more = more_trees c.args.items.now terms i c.loop-number.flats c.in_ok-flat_of.field-0 c.term.result.now c.term.ensures c.loop-number.invariant c.in_ok-flat_of.ensures in
    ap (map Some) c.in_ok-push.ensures.ok ∙ more
