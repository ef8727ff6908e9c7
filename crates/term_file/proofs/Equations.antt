-- The tree and the visits of a record, by those of its arguments.
use Rattle.std.proofs.Common.{◌≡◌, ℕ, ◌<◌, List, [], ◌∷◌, ◌++◌, length, slice_get, Some, refl, ap, ◌∙◌}
use Rattle.std.specs.Prelude.{map}
use Rattle.std.specs.List.{flat_map, AllByRecursion}
use Rattle.term_model.specs.Tree.{Leaf, Node, trees_of}
use Rattle.term_file.specs.Contents.{Record, tree_at, tree_over, trees}
use Rattle.term_file.specs.InOrder.{visits_at, visits_over, visits}
use Rattle.term_file.proofs.Tables.{length-table_of}
use Rattle.term_file.proofs.Facts.{entry_at}

map_same : {X Y : Type 0} (P : X → Type 0) (f g : X → Y) (xs : List X) → AllByRecursion P xs → ((x : X) → P x → f x ≡ g x) → map f xs ≡ map g xs
map_same P f g [] h same = refl
map_same P f g (x ∷ xs) h same = λ i. same x h.0 i ∷ map_same P f g xs h.1 same i

flat_map_same : {X Y : Type 0} (P : X → Type 0) (f g : X → List Y) (xs : List X) → AllByRecursion P xs → ((x : X) → P x → f x ≡ g x) → flat_map f xs ≡ flat_map g xs
flat_map_same P f g [] h same = refl
flat_map_same P f g (x ∷ xs) h same = λ i. same x h.0 i ++ flat_map_same P f g xs h.1 same i

pub tree_of_record : (records : List Record) (i : ℕ) (r : Record) → slice_get records i ≡ Some r → AllByRecursion (λ k. k < i) r.arguments → tree_at (trees records) i ≡ Node r.head (trees_of (map (tree_at (trees records)) r.arguments))
tree_of_record records i r at before =
    entry_at tree_over (Leaf 0) records i r (Node r.head (trees_of (map (tree_at (trees records)) r.arguments))) at
    (λ front size same. ap (λ ts. Node r.head (trees_of ts)) (map_same (λ k. k < i) (tree_at (trees front)) (tree_at (trees records)) r.arguments before same))

pub visits_of_record : (records : List Record) (i : ℕ) (r : Record) → slice_get records i ≡ Some r → AllByRecursion (λ k. k < i) r.arguments → visits_at (visits records) i ≡ flat_map (visits_at (visits records)) r.arguments ++ i ∷ []
visits_of_record records i r at before =
    entry_at visits_over [] records i r (flat_map (visits_at (visits records)) r.arguments ++ i ∷ []) at
    (λ front size same.
    let args = flat_map_same (λ k. k < i) (visits_at (visits front)) (visits_at (visits records)) r.arguments before same in
    let last : length (visits front) ≡ i = length-table_of visits_over front ∙ size in
    λ j. args j ++ last j ∷ [])
