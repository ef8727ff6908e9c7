-- Arguments of a row's tree, put on a stack of rows.
use Rattle.std.proofs.Common.{◌≡◌, ℕ, ◌+◌, List, [], ◌∷◌, ◌++◌, map, drop, Some, sym, ◌∙◌, ap, subst}
use Rattle.std.specs.Prelude.{All, slice_get, reverse}
use Rattle.std.proofs.lemmas.Option.{slice_get_within, get_or_from_slice_get}
use Rattle.std.proofs.lemmas.List.{map_push, drop_more, append_assoc, reverse-append}
use Rattle.std.proofs.lemmas.List.Elements.{All-push}
use Rattle.term_model.specs.Tree.{arguments}
use Rattle.term_model.specs.declared.Row.{Row}
use Rattle.terms_api.specs.Terms.{Store, IsHeld, tree_at}

pub argument_pushed : (s now : Store) (row r : Row) (place : ℕ) (old stack new : List Row) → now ≡ s → map (tree_at s) stack ≡ map (tree_at s) old ++ reverse (drop (place + 1) (arguments (tree_at s row))) → slice_get (arguments (tree_at now row)) place ≡ Some (tree_at now r) → new ≡ stack ++ r ∷ [] → map (tree_at s) new ≡ map (tree_at s) old ++ reverse (drop place (arguments (tree_at s row)))
argument_pushed s now row r place old stack new same before there is =
    let f = tree_at s in
    let args = arguments (tree_at s row) in
    let at : slice_get args place ≡ Some (f r) = subst (λ (v : Store). slice_get (arguments (tree_at v row)) place ≡ Some (tree_at v r)) same there in
    let within = slice_get_within args place (f r) at in
    let more : drop place args ≡ f r ∷ drop (place + 1) args = drop_more args place (f r) within ∙ ap (λ t. t ∷ drop (place + 1) args) (get_or_from_slice_get args place (f r) (f r) at) in
    ap (map f) is
    ∙ map_push f stack r
    ∙ ap (λ ts. ts ++ f r ∷ []) before
    ∙ append_assoc (map f old) (reverse (drop (place + 1) args)) (f r ∷ [])
    ∙ ap (λ ts. map f old ++ ts) (sym (ap reverse more ∙ reverse-append (f r ∷ []) (drop (place + 1) args)))

pub held_pushed : (s now : Store) (r : Row) (stack new : List Row) → now ≡ s → All (IsHeld s) stack → IsHeld now r → new ≡ stack ++ r ∷ [] → All (IsHeld s) new
held_pushed s now r stack new same all held is =
    subst (All (IsHeld s)) (sym is) (All-push (IsHeld s) stack r all (subst (λ (v : Store). IsHeld v r) same held))

pub held_late : (s late : Store) (rows : List Row) → late ≡ s → All (IsHeld late) rows → All (IsHeld s) rows
held_late s late rows e all = subst (λ (v : Store). All (IsHeld v) rows) e all
