-- A store holds no more different trees than it has rows, and one that is filled has too few for
-- one more.
use Rattle.std.proofs.Common.{◌≡◌, ℕ, ◌<◌, ◌≤◌, [], ◌∷◌, ◌++◌, Some, None, length, get_or, ap, arith}
use Rattle.std.specs.Prelude.{Contains, All}
use Rattle.std.proofs.lemmas.List.Elements.{All-map, All-weaker, All-contains}
use Rattle.term_model.specs.declared.Row.{Row}
use Rattle.term_model.specs.declared.Head.{Head}
use Rattle.term_model.specs.Tree.{Tree}
use Rattle.term_model.specs.Laws.{IsClosed}
use Rattle.term_model.proofs.Equality.{among_from_contains, contains_from_among}
use Rattle.term_model.proofs.Members.{distinct_of_part, distinct_is_bounded}
use Rattle.term_model.proofs.Subtrees.{closed_holds_subtrees}
use Rattle.terms_api.specs.Terms.{IsHeld, IsSound, tree_at, trees, reachable, asked}
use Rattle.terms_api.proofs.Callers.{has-held}
use Rattle.plain_store.specs.Slots.{some_count}
use Rattle.plain_store.specs.Contents.{Contents, store_of, IsFilled}
use Rattle.plain_store.proofs.Crowding.{somes, somes_length, among_somes, place_somes, all_differ}
use Rattle.plain_store.proofs.Used.{somes_count}
use Rattle.term_commands.specs.Different.{different}
use Rattle.term_commands.proofs.Within.{within_flat, one_more}

module _ (c : Contents) (sound : IsSound (store_of c)) where
  held : (r : Row) (t : Tree) → get_or c.trees r.0 None ≡ Some t → Contains (somes c.trees) t
  held r t e = contains_from_among t (somes c.trees) (among_somes c.trees r.0 t e)

  closed : IsClosed (somes c.trees)
  closed t u h k =
      let p = place_somes c.trees t (among_from_contains t (somes c.trees) h) in
      let q = sound.arguments (record { 0 = p.0 }) t u p.1 k in
      held q.0 u q.1

  stacked : All (Contains (somes c.trees)) (trees (store_of c))
  stacked =
      All-map (Contains (somes c.trees)) (tree_at (store_of c)) c.stack
      (All-weaker (IsHeld (store_of c)) (λ r. Contains (somes c.trees) (tree_at (store_of c) r)) (λ r h. held r (tree_at (store_of c) r) (has-held (store_of c) r h)) c.stack sound.stack)

  reached_held : (t : Tree) → Contains (reachable (store_of c)) t → Contains (somes c.trees) t
  reached_held t h =
      let w = within_flat (trees (store_of c)) t h in
      closed_holds_subtrees (somes c.trees) closed w.0 t (All-contains (Contains (somes c.trees)) (trees (store_of c)) w.0 stacked w.1) w.2

  -- the trees under the stack have no more different subtrees than there are rows
  pub fits : different (trees (store_of c)) ≤ length c.trees
  fits =
      let part = distinct_of_part (reachable (store_of c)) (somes c.trees) reached_held in
      let few = distinct_is_bounded (somes c.trees) in
      let short = somes_length c.trees in
      omega (arith, part, few, short)

  -- where no row has another tree, they have as many as rows have a tree
  pub all_under : ((r : Row) (t : Tree) → get_or c.trees r.0 None ≡ Some t → Contains (reachable (store_of c)) t) → some_count c.trees ≡ different (trees (store_of c))
  all_under under =
      let part = distinct_of_part (reachable (store_of c)) (somes c.trees) reached_held in
      let back = distinct_of_part (somes c.trees) (reachable (store_of c)) (λ t h.
      (let p = place_somes c.trees t (among_from_contains t (somes c.trees) h) in under (record { 0 = p.0 }) t p.1)) in
      let differ = all_differ c.trees (λ i j t e f. ap (λ (x : Row). x.0) (sound.one_row (record { 0 = i }) (record { 0 = j }) t e f)) in
      omega (arith, part, back, differ, somes_count c.trees)

-- where the trees under the stack fill all rows, one more has no row
pub too_full : (c : Contents) (h : Head) (n : ℕ) → IsFilled (store_of c) h n → length c.trees < different (trees (store_of c) ++ asked (store_of c) h n ∷ [])
too_full c h n filled =
    let full = filled.full in
    let more = one_more (trees (store_of c)) (asked (store_of c) h n) filled.absent in
    omega (arith, full, more)
