-- The text of a root is that of a term.
use Rattle.std.proofs.Common.{◌≡◌, ℕ, ◌<◌, ◌++◌, List, length, get_or, Option, Some, ltb, sym, ap, ◌∙◌, arith}
use Rattle.std.specs.Prelude.{unwrap_or}
use Rattle.std.specs.Option.{option_map}
use Rattle.std.proofs.lemmas.Bool.{ltb-true}
use Rattle.std.proofs.lemmas.List.{length-map}
use Rattle.std.proofs.lemmas.Option.{slice_get-map, slice_get-get_or}
use Rattle.term_model.specs.Tree.{Tree, Leaf}
use Rattle.tree_text.specs.Canonical.{canonical}
use Rattle.term_file.specs.Contents.{Contents, trees, tree_at, terms}
use Rattle.term_file.specs.Right.{IsRight}
use Rattle.term_file.specs.File.{Terms, terms_in}
use Rattle.term_file.proofs.Shares.{passes}
use Rattle.term_file.proofs.TermLaws.{IsTerm, term_of_number}

-- k is the record of a root of contents that are shown as terms
module _ (ts : Terms) (c : Contents) (shown : terms_in c ≡ ts) (right : IsRight c) (root : ℕ) (there : root < length ts.trees) (k : ℕ) (at : k ≡ get_or c.roots root k) where
  within : root < length c.roots
  within = omega (arith, there, ap (λ (t : Terms). length t.trees) shown, length-map c.roots (tree_at (trees c.records)))

  pub term_at_root : IsTerm c.symbols (tree_at (trees c.records) k)
  term_at_root = term_of_number c right k (ltb-true _ _ (ap (λ (j : ℕ). ltb j (length c.records)) at ∙ passes (λ r. ltb r (length c.records)) c.roots root k within right.roots_right))

  tree_is : tree_at (terms c) root ≡ tree_at (trees c.records) k
  tree_is =
      ap (λ (o : Option Tree). unwrap_or o (Leaf 0)) (slice_get-map (tree_at (trees c.records)) c.roots root ∙ ap (option_map (tree_at (trees c.records))) (slice_get-get_or c.roots root k within ∙ ap Some (sym at)))

  pub text_is : (out before : List ℕ) (t : Tree) → t ≡ tree_at (trees c.records) k → out ≡ before ++ canonical c.symbols t → out ≡ before ++ canonical ts.symbols (tree_at ts.trees root)
  text_is out before t is e =
      e
      ∙ ap (λ (u : Tree). before ++ canonical c.symbols u) (is ∙ sym tree_is)
      ∙ ap (λ (x : Terms). before ++ canonical x.symbols (tree_at x.trees root)) shown
