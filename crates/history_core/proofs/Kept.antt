-- What a collection keeps.
use Rattle.std.proofs.Common.{ℕ, List, [], ◌∙◌, subst, inl, inr, ◌↔◌}
use Rattle.std.specs.Prelude.{Contains}
use Rattle.std.proofs.lemmas.List.Elements.{Contains-append_cases}
use Rattle.term_model.specs.Tree.{Tree, Leaf, Node, Trees, End, More, list_of, arguments, subtrees, subtrees_all}
use Rattle.term_model.specs.Laws.{IsSubtree}
use Rattle.history_core.specs.TermSet.{Names, TermSet, Holds, IsReached, IsSound}
use Rattle.history_core.specs.Entry.{Collect, IsStep, after}
use Rattle.history_core.proofs.Members.{contains_here, contains_there, contains_none, contains_cases}
use Rattle.history_core.proofs.Sound.{Has, only_holds, only_split}

pub collect_keeps_reached : (rows : ℕ) (s : TermSet) (caller number : ℕ) (kept : List ℕ) → IsStep rows s (Collect number kept) → (n : ℕ) (t : Tree)
    → Holds (after s caller (Collect number kept)).held n t ↔ (Holds s.held n t × IsReached s n)
collect_keeps_reached rows s caller number kept step n t = (
  (λ e. let both = only_split s.held kept n t e in (both.0, (step.1 n).0 both.1)),
  (λ both. only_holds s.held kept n ((step.1 n).1 both.1) ∙ both.0),
)

-- Where the arguments of each tree are held, all trees inside one are.
mutual
  pub inside_is_held : (h : Names) → ((n : ℕ) (t u : Tree) → Holds h n t → Contains (arguments t) u → Has h u) → (t u : Tree) → Has h t → IsSubtree u t → Has h u
  inside_is_held h closed (Leaf x) u has c = elim (contains_cases (Leaf x) [] u c) [ inl same ↦ subst (Has h) same has | inr d ↦ absurd (contains_none u d) ]
  inside_is_held h closed (Node head ts) u has c =
      elim (contains_cases (Node head ts) (subtrees_all ts) u c) [
        | inl same ↦ subst (Has h) same has
        | inr d ↦ inside_all h closed ts u (λ v e. closed has.0 (Node head ts) v has.1 e) d
      ]

  inside_all : (h : Names) → ((n : ℕ) (t u : Tree) → Holds h n t → Contains (arguments t) u → Has h u) → (ts : Trees) (u : Tree)
      → ((v : Tree) → Contains (list_of ts) v → Has h v) → Contains (subtrees_all ts) u → Has h u
  inside_all h closed End u has c = absurd (contains_none u c)
  inside_all h closed (More t ts) u has c =
      elim (Contains-append_cases (subtrees t) (subtrees_all ts) u c) [
        | inl d ↦ inside_is_held h closed t u (has t (contains_here t (list_of ts))) d
        | inr d ↦ inside_all h closed ts u (λ v e. has v (contains_there t (list_of ts) v e)) d
      ]

pub protected_stay : (rows : ℕ) (s : TermSet) (caller number : ℕ) (kept : List ℕ) → IsSound rows s → IsStep rows s (Collect number kept)
    → (owner root : ℕ) (t u : Tree) → Contains (s.roots owner) root → Holds s.held root t → IsSubtree u t
    → (n : ℕ) × Holds s.held n u × Holds (after s caller (Collect number kept)).held n u
protected_stay rows s caller number kept k step owner root t u rooted at inside =
    let has = inside_is_held s.held k.closed t u (root, at) inside in
    let reached : IsReached s has.0 = record {
      caller = owner;
      root = root;
      below = u;
      above = t;
      rooted = rooted;
      root_tree = at;
      tree = has.1;
      inside = inside;
    } in
    (has.0, has.1, only_holds s.held kept has.0 ((step.1 has.0).1 reached) ∙ has.1)
