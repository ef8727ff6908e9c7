-- The nodes that are built are those of the trees on the stack, and rows have the trees under them
-- alone.
use Rattle.std.proofs.Common.{◌≡◌, ℕ, ◌+◌, ◌-◌, inl, inr, List, [], ◌∷◌, ◌++◌, length, refl, ap, sym, ◌∙◌, subst, arith}
use Rattle.std.specs.Prelude.{Contains, sum_by}
use Rattle.std.specs.List.{flat_map}
use Rattle.std.proofs.lemmas.List.{take-append-drop}
use Rattle.std.proofs.lemmas.List.Elements.{Contains-push}
use Rattle.std.proofs.lemmas.List.Sums.{sum_by-append, sum_by-cons}
use Rattle.term_model.specs.declared.Head.{Head}
use Rattle.term_model.specs.Tree.{Tree, subtrees, nodes}
use Rattle.term_model.specs.Laws.{IsSubtree}
use Rattle.term_model.specs.Postorder.{item_of}
use Rattle.term_model.proofs.Subtrees.{trees_are_subtrees}
use Rattle.terms_api.specs.Terms.{Store, MayBuild, Built, Left, GainsNone, trees, reachable, last, but_last, asked}
use Rattle.term_text.specs.Sizes.{saturated}
use Rattle.term_text.proofs.Shapes.{nodes-arguments}
use Rattle.term_text.proofs.Counts.{saturated_sum}
use Rattle.plain_store.specs.Contents.{Contents, store_of}
use Rattle.plain_store.proofs.Placing.{list_trees}
use Rattle.term_commands.specs.Building.{Takes}
use Rattle.term_commands.specs.Counting.{HasNone, IsCounted}
use Rattle.term_commands.proofs.Making.{taken_after}
use Rattle.term_commands.proofs.Within.{among_within, within_flat, within_deeper}

-- an empty store
pub counted_none : (c : Contents) → c.stack ≡ [] → HasNone c → IsCounted (store_of c) 0
counted_none c empty none =
    record {
      nodes = ap (λ rows. saturated (sum_by nodes (trees (record (store_of c) { stack = rows })))) (sym empty);
      under = λ r t h. absurd (none r t h);
    }

-- the same trees on the stack, and no row has gained one
pub counted_still : (s u : Store) (count : ℕ) → trees u ≡ trees s → GainsNone s u → IsCounted s count → IsCounted u count
counted_still s u count same none k =
    record {
      nodes = k.nodes ∙ ap (λ ts. saturated (sum_by nodes ts)) (sym same);
      under = λ r t h. subst (λ ts. Contains (flat_map subtrees ts) t) (sym same) (k.under r t (none r t h));
    }

-- going outside changes no row
pub counted_left : (s u : Store) (count : ℕ) → Left s u → trees u ≡ trees s → IsCounted s count → IsCounted u count
counted_left s u count left same k =
    counted_still s u count same (λ r t h. sym (ap (λ (x : Store). x.held r) left.rest) ∙ h) k

module _ (s : Store) (h : Head) (n : ℕ) where
  abbrev pub front : List Tree
  front = but_last n (trees s)

  abbrev pub args : List Tree
  args = last n (trees s)

  whole : front ++ args ≡ trees s
  whole = take-append-drop (length (trees s) - n) (trees s)

  one_node : nodes (asked s h n) ≡ sum_by nodes args + 1
  one_node = nodes-arguments (asked s h n) ∙ ap (λ ts. sum_by nodes ts + 1) (list_trees args)

  -- a node more
  more_nodes : sum_by nodes (front ++ asked s h n ∷ []) ≡ sum_by nodes (trees s) + 1
  more_nodes =
      let a = sum_by-append nodes front (asked s h n ∷ []) in
      let b = sum_by-cons nodes (asked s h n) [] in
      let d = sum_by-append nodes front args in
      let e = ap (λ ts. sum_by nodes ts) whole in
      omega (arith, a, b, d, e, one_node)

  abbrev takes : MayBuild s h n → Takes (item_of h (length args)) (trees s)
  takes may = record { head = h; before = front; arguments = args; item_is = refl; trees_are = sym whole; may = may.head }

  -- what was under the stack is under it still
  stays : MayBuild s h n → (t : Tree) → Contains (reachable s) t → Contains (flat_map subtrees (front ++ asked s h n ∷ [])) t
  stays may t c =
      let us = front ++ asked s h n ∷ [] in
      let w = within_deeper (trees s) us (λ v k. taken_after (item_of h (length args)) (trees s) (takes may) v k) t (within_flat (trees s) t c) in
      among_within us w.0 t w.1 w.2

  pub counted_built : (u : Store) (count more : ℕ) → MayBuild s h n → Built s u h n → trees u ≡ front ++ asked s h n ∷ [] → more ≡ saturated (count + 1) → IsCounted s count → IsCounted u more
  counted_built u count more may built now is k =
      let us = front ++ asked s h n ∷ [] in
      let one : saturated 1 ≡ 1 = refl in
      record {
        nodes =
            is
            ∙ ap (λ m. saturated (m + 1)) k.nodes
            ∙ saturated_sum (sum_by nodes (trees s)) 1
            ∙ ap saturated (sym more_nodes)
            ∙ ap (λ ts. saturated (sum_by nodes ts)) (sym now);
        under = λ r t has. subst (λ ts. Contains (flat_map subtrees ts) t) (sym now) (elim (built.only r t has) [
          | inl old ↦ stays may t (k.under r t old)
          | inr same ↦ among_within us (asked s h n) t (Contains-push front (asked s h n)) (subst (λ x. IsSubtree x (asked s h n)) (sym same) (trees_are_subtrees (asked s h n)))
        ]);
      }
