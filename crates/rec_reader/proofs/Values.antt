-- A specification with more in it.
use Rattle.std.proofs.Common.{◌≡◌, List, [], ◌∷◌, ◌++◌, ap, append_assoc, append-nil}
use Rattle.rec_reader.specs.declared.token.Name.{Name}
use Rattle.rec_reader.specs.declared.syntax_tree.Node.{Node}
use Rattle.rec_reader.specs.declared.syntax_tree.Declaration.{Declaration}
use Rattle.rec_reader.specs.declared.syntax_tree.Variables.{Variables}
use Rattle.rec_reader.specs.declared.syntax_tree.Rule.{Rule}
use Rattle.rec_reader.specs.declared.syntax_tree.Specification.{Specification}

abbrev pub with_includes : Specification → List Name → Specification
with_includes c xs = record c { includes = c.includes ++ xs }

abbrev pub with_sorts : Specification → List Name → Specification
with_sorts c xs = record c { sorts = c.sorts ++ xs }

abbrev pub with_declarations : Specification → List Declaration → Specification
with_declarations c xs = record c { declarations = c.declarations ++ xs }

abbrev pub with_variables : Specification → List Variables → Specification
with_variables c xs = record c { variables = c.variables ++ xs }

abbrev pub with_rules : Specification → List Rule → Specification
with_rules c xs = record c { rules = c.rules ++ xs }

abbrev pub with_terms : Specification → List (List Node) → Specification
with_terms c xs = record c { terms = c.terms ++ xs }

module _ (c : Specification) where
  pub no_includes_more : with_includes c [] ≡ c
  no_includes_more = ap (λ xs. record c { includes = xs }) (append-nil c.includes)

  pub no_sorts_more : with_sorts c [] ≡ c
  no_sorts_more = ap (λ xs. record c { sorts = xs }) (append-nil c.sorts)

  pub no_declarations_more : with_declarations c [] ≡ c
  no_declarations_more = ap (λ xs. record c { declarations = xs }) (append-nil c.declarations)

  pub no_variables_more : with_variables c [] ≡ c
  no_variables_more = ap (λ xs. record c { variables = xs }) (append-nil c.variables)

  pub no_rules_more : with_rules c [] ≡ c
  no_rules_more = ap (λ xs. record c { rules = xs }) (append-nil c.rules)

  pub no_terms_more : with_terms c [] ≡ c
  no_terms_more = ap (λ xs. record c { terms = xs }) (append-nil c.terms)

  pub one_declaration : (x : Declaration) (xs : List Declaration) → with_declarations (with_declarations c (x ∷ [])) xs ≡ with_declarations c (x ∷ xs)
  one_declaration x xs = ap (λ ys. record c { declarations = ys }) (append_assoc c.declarations (x ∷ []) xs)

  pub one_variables : (x : Variables) (xs : List Variables) → with_variables (with_variables c (x ∷ [])) xs ≡ with_variables c (x ∷ xs)
  one_variables x xs = ap (λ ys. record c { variables = ys }) (append_assoc c.variables (x ∷ []) xs)

  pub one_rule : (x : Rule) (xs : List Rule) → with_rules (with_rules c (x ∷ [])) xs ≡ with_rules c (x ∷ xs)
  one_rule x xs = ap (λ ys. record c { rules = ys }) (append_assoc c.rules (x ∷ []) xs)

  pub one_term : (x : List Node) (xs : List (List Node)) → with_terms (with_terms c (x ∷ [])) xs ≡ with_terms c (x ∷ xs)
  one_term x xs = ap (λ ys. record c { terms = ys }) (append_assoc c.terms (x ∷ []) xs)
