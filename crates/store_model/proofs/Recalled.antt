-- Rows that are recalled: those inside them, larger and smaller sets, and one creation more.
use Rattle.std.proofs.Common.{◌≡◌, ℕ, Some, List, [], ◌∷◌, refl, sym, ap, ◌∙◌, subst, ap₂, ⊎_elim}
use Rattle.std.specs.Prelude.{Contains, map, unwrap_or}
use Rattle.std.proofs.lemmas.List.Elements.{Contains-append_cases}
use Rattle.term_model.specs.declared.Head.{Head}
use Rattle.term_model.specs.Tree.{Tree, Leaf, Node, Trees, More, list_of, trees_of, subtrees, subtrees_all}
use Rattle.term_model.specs.Laws.{IsSubtree}
use Rattle.term_model.proofs.Subtrees.{subtrees_nest}
use Rattle.history_core.specs.TermSet.{Names, TermSet, Holds, trees_at, with_only, IsSound}
use Rattle.history_core.proofs.Kept.{inside_is_held}
use Rattle.history_core.proofs.Members.{contains_none, contains_cases}
use Rattle.history_core.proofs.Sets.{Grows}
use Rattle.history_core.proofs.Sound.{some_same, only_holds, only_split}
use Rattle.store_model.specs.Words.{put}
use Rattle.store_model.specs.Machine.{Each}
use Rattle.store_model.specs.Told.{tree_over}
use Rattle.store_model.specs.Recalls.{IsRecalled}
use Rattle.store_model.proofs.Basics.{put_case, put_same}

pub list_trees : (ts : List Tree) → list_of (trees_of ts) ≡ ts
list_trees [] = refl
list_trees (t ∷ ts) = ap (λ (us : List Tree). t ∷ us) (list_trees ts)

module _ (held : Names) (tree : ℕ → Tree) where
  -- a row of a tree inside that of a recalled row is recalled
  pub inner_recalled : (r a : ℕ) (u : Tree) → IsRecalled held tree r → Holds held a u → IsSubtree u (tree r) → IsRecalled held tree a
  inner_recalled r a u k at inside =
      let is : tree a ≡ u = k.inside a u at inside in record {
        own = at ∙ ap Some (sym is);
        inside = λ q v h i. k.inside q v h (subtrees_nest (tree r) u v inside (subst (IsSubtree v) is i));
      }

  pub trees_recalled : (rs : List ℕ) → Each (IsRecalled held tree) rs → trees_at held rs ≡ trees_of (map tree rs)
  trees_recalled [] k = refl
  trees_recalled (r ∷ rs) k = ap₂ More (ap (λ o. unwrap_or o (Leaf 0)) k.0.own) (trees_recalled rs k.1)

  -- what holds by each row of which a tree is inside
  pub inside_rows : (P : Type 0) (Q : ℕ → Type 0) (u : Tree) → ((a : ℕ) → Q a → IsSubtree u (tree a) → P) → (rs : List ℕ) → Each Q rs
      → Contains (subtrees_all (trees_of (map tree rs))) u → P
  inside_rows P Q u f [] k c = absurd (contains_none u c)
  inside_rows P Q u f (r ∷ rs) k c = ⊎_elim (f r k.0) (inside_rows P Q u f rs k.1) (Contains-append_cases (subtrees (tree r)) (subtrees_all (trees_of (map tree rs))) u c)

  pub recalled_only : (kept : List ℕ) (r : ℕ) → IsRecalled held tree r → Contains kept r → IsRecalled (with_only held kept) tree r
  recalled_only kept r k c = record {
    own = only_holds held kept r c ∙ k.own;
    inside = λ q u h i. k.inside q u (only_split held kept q u h).0 i;
  }

  -- a creation gave row r the tree t
  module _ (r : ℕ) (t : Tree) (at : Holds held r t) where
    pub same_tree : (q : ℕ) → IsRecalled held tree q → put tree r t q ≡ tree q
    same_tree q k = put_case (λ x. x ≡ tree q) tree r t q (λ e. some_same t (tree q) (sym at ∙ (ap held (sym e) ∙ k.own))) (λ _. refl)

    pub recalled_put : (q : ℕ) → IsRecalled held tree q → IsRecalled held (put tree r t) q
    recalled_put q k =
        let same = same_tree q k in record {
          own = k.own ∙ ap Some (sym same);
          inside = λ p u h i. put_case (λ x. x ≡ u) tree r t p
              (λ e. some_same t u (sym at ∙ (ap held (sym e) ∙ h)))
              (λ _. k.inside p u h (subst (IsSubtree u) same i));
        }

    module _ (one_name : (n m : ℕ) (u : Tree) → Holds held n u → Holds held m u → n ≡ m) where
      inside_new : (f : Head) (rs : List ℕ) → tree_over tree f rs ≡ t → Each (IsRecalled held tree) rs
          → (p : ℕ) (u : Tree) → Holds held p u → IsSubtree u (tree_over tree f rs) → put tree r t p ≡ u
      inside_new f rs is each p u h i =
          let ts : Trees = trees_of (map tree rs) in ⊎_elim
          (λ (top : Node f ts ≡ u). let same : t ≡ u = sym is ∙ top in
          ap (put tree r t) (one_name p r u h (at ∙ ap Some same)) ∙ (put_same tree r t ∙ same))
          (inside_rows (put tree r t p ≡ u) (IsRecalled held tree) u (λ a k j. (recalled_put a k).inside p u h (subst (IsSubtree u) (sym (same_tree a k)) j)) rs each)
          (contains_cases (Node f ts) (subtrees_all ts) u i)

      pub recalled_new : (f : Head) (rs : List ℕ) → tree_over tree f rs ≡ t → Each (IsRecalled held tree) rs → IsRecalled held (put tree r t) r
      recalled_new f rs is each = record {
        own = at ∙ ap Some (sym (put_same tree r t));
        inside = λ p u h i. inside_new f rs is each p u h (subst (IsSubtree u) (put_same tree r t ∙ sym is) i);
      }

-- a larger set: the trees inside one that is held are held already
pub recalled_grows : (rows : ℕ) (s t : TermSet) (tree : ℕ → Tree) (r : ℕ) → IsSound rows s → IsSound rows t → Grows s.held t.held → IsRecalled s.held tree r → IsRecalled t.held tree r
recalled_grows rows s t tree r old new grows k = record {
  own = grows.each r (tree r) k.own;
  inside = λ q u h i. let has = inside_is_held s.held old.closed (tree r) u (r, k.own) i in
      let same : has.0 ≡ q = new.one_name has.0 q u (grows.each has.0 u has.1) h in
      subst (λ (n : ℕ). tree n ≡ u) same (k.inside has.0 u has.1 i);
}
