-- What a pass in shared access knows of a row of its own list, and what a read of it leaves.
use Rattle.std.proofs.Common.{◌≡◌, ◌∙◌, inl, ℕ, suc, ◌<◌, true, Some, List, [], ◌∷◌, length, get_or, sym, ap}
use Rattle.std.specs.Prelude.{slice_get}
use Rattle.term_model.specs.declared.Row.{Row}
use Rattle.term_model.specs.declared.Head.{Head}
use Rattle.term_model.specs.Tree.{Tree, Leaf, root, arguments}
use Rattle.terms_api.specs.Terms.{IsHeld, tree_at}
use Rattle.store_model.specs.declared.view.KnownWord.{KnownWord}
use Rattle.store_model.specs.Machine.{In}
use Rattle.node_rows.specs.declared.view.NodeView.{NodeView}
use Rattle.node_rows.specs.declared.store.Store.{Store}
use Rattle.node_rows.specs.declared.store.Pass.{Pass}
use Rattle.node_rows.specs.Belonging.{IsSamePass}
use Rattle.node_rows.specs.Inside.{IsInside}
use Rattle.node_rows.specs.Knowing.{KnowsTree}
use Rattle.node_rows.specs.Told.{view_of}
use Rattle.term_create.specs.Read.{HasArgument, Reads, ReadsChild, head_words, word}
use Rattle.shared_desk.specs.Held.{Has, tree_in}
use Rattle.shared_desk.specs.Pass.{own}
use Rattle.shared_desk.specs.Seen.{row_of}
use Rattle.shared_desk.specs.Passes.{in_shared, in_exclusive, store_of, pass_of, seen_of, IsStanding}
use Rattle.shared_desk.proofs.Calling.{Goes, Read, goes_standing, whole_read, read_is, head_read, count_read, child_read, one_row_now, read_within}
use Rattle.shared_desk.proofs.Gaining.{child_seen}
use Rattle.shared_desk.proofs.Reading.{held_on, tree_is, has_argument}

module _ (s : Store) (p : Pass) (h : IsStanding s p) (row : Row) (held : IsHeld (own (seen_of s p)) row) where
  has : Has (view_of p).store row.0
  has = held_on (store_of s) (pass_of p) (in_shared (view_of p)) (in_exclusive (view_of p)) (view_of p).crowd (view_of p).store h.whole row.0 held

  own_tree : tree_at (own (seen_of s p)) row ≡ tree_in (view_of p).store row.0
  own_tree = tree_is (store_of s) (pass_of p) (in_shared (view_of p)) (in_exclusive (view_of p)) (view_of p).crowd (view_of p).store h.whole row.0 held

  -- it may use the row
  pub own_used : In row.0 (view_of p).store.got
  own_used = (h.whole.rows row.0 has).uses

  -- and knows its count of arguments
  pub own_argument : (j : ℕ) → j < length (arguments (tree_at (own (seen_of s p)) row)) → HasArgument (view_of p).store.knows row.0 j
  own_argument j below = has_argument (store_of s) (pass_of p) (in_shared (view_of p)) (in_exclusive (view_of p)) (view_of p).crowd (view_of p).store h.whole row.0 held j below

  -- what is read of each tree that it knows the row to have is that of its tree
  pub own_root : (f : Head) → ((t : Tree) → KnowsTree (view_of p).store.knows row.0 t → root t ≡ Some f) → root (tree_at (own (seen_of s p)) row) ≡ Some f
  own_root f is = ap root own_tree ∙ is (tree_in (view_of p).store row.0) (h.whole.rows row.0 has).known

  pub own_many : (n : ℕ) → ((t : Tree) → KnowsTree (view_of p).store.knows row.0 t → length (arguments t) ≡ n) → n ≡ length (arguments (tree_at (own (seen_of s p)) row))
  own_many n is = sym (is (tree_in (view_of p).store row.0) (h.whole.rows row.0 has).known) ∙ ap (λ (t : Tree). length (arguments t)) (sym own_tree)

  module _ (q : Pass) (shared : (seen_of s p).shared ≡ true) (inside : IsInside s q) (same : IsSamePass p q) where
    goes : (view_of q).lock ≡ (view_of p).lock → Goes s p q
    goes lock = record { access = inl shared; inside = inside; same = same; lock = lock }

    -- a read leaves all that its desk sees
    after_read : (lock : (view_of q).lock ≡ (view_of p).lock) (xs : List KnownWord) → Read s p q h (goes lock) row.0 xs → IsStanding s q × (seen_of s q ≡ seen_of s p)
    after_read lock xs x = (goes_standing s p q h (goes lock) (whole_read s p q h (goes lock) row.0 xs x has), read_is s p q h (goes lock) row.0 xs x has)

    pub after_head : (f : Head) → Reads (view_of p) (view_of q) (head_words row.0 f) → IsStanding s q × (seen_of s q ≡ seen_of s p)
    after_head f e = let lock = ap (λ (u : NodeView). u.lock) e in after_read lock (head_words row.0 f) (head_read s p q h (goes lock) row.0 f e)

    pub after_count : (n : ℕ) → Reads (view_of p) (view_of q) (word row.0 1 n ∷ []) → IsStanding s q × (seen_of s q ≡ seen_of s p)
    after_count n e = let lock = ap (λ (u : NodeView). u.lock) e in after_read lock (word row.0 1 n ∷ []) (count_read s p q h (goes lock) row.0 n e)

    pub after_child : (j n : ℕ) → ReadsChild (view_of p) (view_of q) row.0 j n → IsStanding s q × (seen_of s q ≡ seen_of s p)
    after_child j n e = let lock = ap (λ (u : NodeView). u.lock) e in after_read lock (word row.0 (suc (suc j)) n ∷ []) (child_read s p q h (goes lock) row.0 j n e)

    -- the argument that was read is one of the own list
    pub own_child : (j n : ℕ) → ReadsChild (view_of p) (view_of q) row.0 j n → j < length (arguments (tree_at (own (seen_of s p)) row))
        → ((t : Tree) → KnowsTree (view_of p).store.knows row.0 t → KnowsTree (view_of q).store.knows n (get_or (arguments t) j (Leaf 0)))
        → IsHeld (own (seen_of s p)) (row_of n) × (slice_get (arguments (tree_at (own (seen_of s p)) row)) j ≡ Some (tree_at (own (seen_of s p)) (row_of n)))
    own_child j n e below tree =
        let g = goes (ap (λ (u : NodeView). u.lock) e) in
        let x = child_read s p q h g row.0 j n e in
        child_seen (store_of s) (pass_of p) (in_shared (view_of p)) (in_exclusive (view_of p)) (view_of p).crowd (view_of p).store (view_of q).store h.whole row.0 j n (read_within s p q h g row.0 (word row.0 (suc (suc j)) n ∷ []) x has) (one_row_now s p q h g) held below tree
