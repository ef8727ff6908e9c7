-- A store that is too full for the tree of an item is too full for all that its items make.
use Rattle.std.proofs.Common.{◌≡◌, ℕ, ◌≤◌, inl, inr, List, [], ◌∷◌, ◌++◌, Some, sym, subst, ◌∙◌}
use Rattle.std.specs.Prelude.{Contains, Result, Ok, Err, OnOk, OnErr}
use Rattle.std.proofs.lemmas.List.Elements.{Contains-push, Contains-push_cases}
use Rattle.term_model.specs.declared.Head.{Head}
use Rattle.term_model.specs.declared.Item.{Item}
use Rattle.term_model.specs.Tree.{Tree, Node, trees_of}
use Rattle.term_model.specs.Postorder.{head_of, arity_of}
use Rattle.term_model.proofs.Subtrees.{trees_are_subtrees}
use Rattle.terms_api.specs.Terms.{Store, trees, asked}
use Rattle.term_commands.specs.Building.{Takes, after, Make}
use Rattle.term_commands.specs.Different.{different}
use Rattle.term_commands.proofs.Taking.{asked_after}
use Rattle.term_commands.proofs.Making.{taken_after, stays_within}
use Rattle.term_commands.proofs.Within.{fewer_different}

pub ok_then : {A B P Q : Type 0} (r : Result A B) → (P → Q) → OnOk r P → OnOk r Q
ok_then (Ok a) f p = f p
ok_then (Err b) f p = p

pub err_then : {A B P Q : Type 0} (r : Result A B) → (P → Q) → OnErr r P → OnErr r Q
err_then (Ok a) f p = p
err_then (Err b) f p = f p

pub fewer_after : (s : Store) (item : Item) (k : Takes item (trees s)) (h : Head) (n : ℕ) → Some h ≡ head_of item → n ≡ arity_of item → different (trees s ++ asked s h n ∷ []) ≤ different (after k)
fewer_after s item k h n head arity =
    fewer_different (trees s ++ asked s h n ∷ []) (after k) (λ t c.
    elim (Contains-push_cases (trees s) (asked s h n) t c) [
      | inl there ↦ taken_after item (trees s) k t there
      | inr same ↦ (let node : Tree = Node k.head (trees_of k.arguments) in
          let e : node ≡ t = sym (asked_after s item k h n head arity) ∙ same in
          (t, subst (Contains (after k)) e (Contains-push k.before node), trees_are_subtrees t))
    ])

-- what is made has no fewer different subtrees than what it is made of
pub fewer_made : (items : List Item) (now last : List Tree) → Make items now last → different now ≤ different last
fewer_made items now last m = fewer_different now last (stays_within items now last m)
