-- All symbols of what an input spells are among its symbols.
use Rattle.std.proofs.Common.{◌≡◌, ℕ, ◌-◌, ◌<◌, Bool, true, false, ◌⊎◌, inl, inr, List, [], ◌∷◌, ◌++◌, length, Option, Some, None, All, refl, sym, ap, subst, ◌∙◌, arith, position}
use Rattle.std.specs.Prelude.{◌&&◌, nat_lt}
use Rattle.std.specs.List.{list_all}
use Rattle.std.specs.Str.{bytes_eq}
use Rattle.std.proofs.lemmas.List.Folds.{list_all-append}
use Rattle.std.proofs.lemmas.List.Quantifiers.{position-Some}
use Rattle.std.proofs.lemmas.List.Elements.{All-append}
use Rattle.term_model.specs.Tree.{Tree, Leaf, Node, Trees, End, More, count_of}
use Rattle.term_model.specs.Postorder.{postorder, postorder_all, item_of}
use Rattle.term_model.specs.declared.Head.{Head}
use Rattle.term_model.specs.declared.Head.TheVariants as head
use Rattle.term_model.specs.declared.Item.{Item}
use Rattle.term_model.specs.declared.Item.TheVariants.{Var, App, Int, Nil, Cons}
use Rattle.symbol_pool.specs.Pool.{Named, named}
use Rattle.rewrite_model.specs.Rule.{Rule}
use Rattle.rec_reader.specs.declared.syntax_tree.Node as written_node
use Rattle.rec_reader.specs.declared.syntax_tree.Rule as written
use Rattle.rec_reader.specs.declared.syntax_tree.Specification.{Specification}
use Rattle.rec_reader.specs.Parsed.{Parsed}
use Rattle.rec_includes.specs.Names.{text_of}
use Rattle.rec_includes.specs.Material.{symbols_of, specifications_at, material_of}
use Rattle.rec_check.specs.Symbols.{named_in, with_symbols}
use Rattle.rec_check.specs.Term.{Scope, item_in, tree_in, same_symbol}
use Rattle.rec_check.specs.Rule.{◌>>=◌, rule_in}
use Rattle.rec_check.specs.Spelled.{Specified, nothing, variables_of, rules_in, rules_of, terms_in, with_few_rules, spelled_by}
use Rattle.std.specs.Prelude.{Result, Ok, Err, IfOk}
use Rattle.read_faults.specs.declared.fail.ReadFail.{ReadFail}
use Rattle.rec_check.specs.declared.spec.Spec.{Spec}
use Rattle.rec_check.specs.Spec.{specified}
use Rattle.rec_check.specs.Run.{last_of, spelled_with, spelled_in}
use Rattle.rec_check.proofs.Heads.{IsVariable, IsSymbol, head_cases, all_pass, all_hold}
use Rattle.rec_check.proofs.Plans.{spells, came, cc_some, within_limit, b, is_made}
use Rattle.term_text.specs.Text.{is_named, has_names, all_have_names, HasNames}
use Rattle.term_lines.specs.Laws.{WritesNames}
use Rattle.rec_answers.specs.Sequence.{WriteNames}
use Rattle.rec_answers.specs.Rewritten.{IsNamed}

-- whether the symbol of an item is held
abbrev is_named_item : List Named → Item → Bool
is_named_item names (Var x) = true
is_named_item names (App f n) = nat_lt f.0 (length names)
is_named_item names (Int v) = true
is_named_item names Nil = true
is_named_item names Cons = true

of_head : (names : List Named) (h : Head) (n : ℕ) → is_named_item names (item_of h n) ≡ is_named names h
of_head names (head.App f) n = refl
of_head names (head.Int v) n = refl
of_head names head.Nil n = refl
of_head names head.Cons n = refl

turned : (a b : Bool) → (a && (b && true)) ≡ (b && a)
turned true true = refl
turned true false = refl
turned false true = refl
turned false false = refl

mutual
  by_items : (names : List Named) (t : Tree) → list_all (is_named_item names) (postorder t) ≡ has_names names t
  by_items names (Leaf x) = refl
  by_items names (Node h ts) =
      list_all-append (is_named_item names) (postorder_all ts) (item_of h (count_of ts) ∷ [])
      ∙ ap (λ a. a && (is_named_item names (item_of h (count_of ts)) && true)) (all_by_items names ts)
      ∙ ap (λ c. all_have_names names ts && (c && true)) (of_head names h (count_of ts))
      ∙ turned (all_have_names names ts) (is_named names h)

  all_by_items : (names : List Named) (ts : Trees) → list_all (is_named_item names) (postorder_all ts) ≡ all_have_names names ts
  all_by_items names End = refl
  all_by_items names (More t ts) =
      list_all-append (is_named_item names) (postorder t) (postorder_all ts)
      ∙ ap (λ a. a && list_all (is_named_item names) (postorder_all ts)) (by_items names t)
      ∙ ap (λ c. has_names names t && c) (all_by_items names ts)

is_less : (m n : ℕ) → m < n → nat_lt m n ≡ true
is_less m n l = grind (arith, l)

module _ (scope : Scope) where
  name_of : written_node.Node → List ℕ
  name_of n = text_of scope.text n.head

  one_named : (n : written_node.Node) (i : Item) → item_in scope n ≡ Some i → is_named_item scope.symbols i ≡ true
  one_named n i h = by (head_cases scope.symbols (text_of scope.text n.head) n.count (position (bytes_eq (text_of scope.text n.head)) scope.variables) i h)
    where
      by : IsVariable (position (bytes_eq (text_of scope.text n.head)) scope.variables) i ⊎ ((position (bytes_eq (text_of scope.text n.head)) scope.variables ≡ None) × IsSymbol scope.symbols (text_of scope.text n.head) n.count i) → is_named_item scope.symbols i ≡ true
      by (inl v) = ap (is_named_item scope.symbols) v.is
      by (inr s) =
          let p = position-Some (same_symbol (named (text_of scope.text n.head) n.count)) scope.symbols s.1.number (named (text_of scope.text n.head) n.count) s.1.at in
          ap (is_named_item scope.symbols) s.1.is ∙ is_less s.1.number (length scope.symbols) p.0

  tree_named : (nodes : List written_node.Node) (t : Tree) → tree_in scope nodes ≡ Some t → HasNames scope.symbols t
  tree_named nodes t h =
      let s = spells scope nodes t h in
      sym (by_items scope.symbols t) ∙ ap (list_all (is_named_item scope.symbols)) (sym s.spell)
      ∙ all_pass (λ n. item_in scope n) (is_named_item scope.symbols) one_named nodes s.items s.are

rule_named : (text : List ℕ) (symbols : List Named) (declared : List (List ℕ)) (r : written.Rule) (made : Rule) → rule_in text symbols declared r ≡ Some made → WritesNames symbols made
rule_named text symbols declared r made h =
    let right = b text symbols declared r made h in
    subst (WritesNames symbols) (is_made text symbols declared r made h) (tree_named _ r.right right.x right.is)

rules_named : (text : List ℕ) (symbols : List Named) (ss : List Specification) (rules : List Rule) → rules_of text symbols ss ≡ Some rules → WriteNames symbols rules
rules_named text symbols [] rules h = let e : [] ≡ rules = cc in subst (WriteNames symbols) e (λ k d l. absurd (omega arith))
rules_named text symbols (s ∷ ss) rules h =
    let a = came (rules_in text symbols s) (λ first. rules_of text symbols ss >>= λ more. Some (first ++ more)) rules h in
    let c = came (rules_of text symbols ss) (λ more. Some (a.x ++ more)) rules a.gives in
    let is : a.x ++ c.x ≡ rules = cc_some (a.x ++ c.x) rules c.gives in
    let here : All (WritesNames symbols) a.x = all_hold (λ r. rule_in text symbols (variables_of text s) r) (WritesNames symbols) (λ r made e. rule_named text symbols (variables_of text s) r made e) s.rules a.x a.is in
    subst (WriteNames symbols) is (All-append (WritesNames symbols) a.x c.x here (rules_named text symbols ss c.x c.is))

spelled_named : (text : List ℕ) (specifications : List Specification) (material : List ℕ) (terms : List (List written_node.Node)) (made : Specified) → spelled_by text specifications material terms ≡ Some made → IsNamed made
spelled_named text specifications material terms made h =
    let at = specifications_at specifications material in
    let a = came (with_symbols [] (named_in text (symbols_of specifications material)))
    (λ symbols. rules_of text symbols at >>= λ rules. terms_in text symbols terms >>= λ trees. with_few_rules (record { symbols = symbols; rules = rules; terms = trees })) made h in
    let c = came (rules_of text a.x at) (λ rules. terms_in text a.x terms >>= λ trees. with_few_rules (record { symbols = a.x; rules = rules; terms = trees })) made a.gives in
    let d = came (terms_in text a.x terms) (λ trees. with_few_rules (record { symbols = a.x; rules = c.x; terms = trees })) made c.gives in
    let s : Specified = record { symbols = a.x; rules = c.x; terms = d.x } in
    let few = within_limit s made d.gives in
    let scope : Scope = record { text = text; symbols = a.x; variables = [] } in
    subst IsNamed few.1 (record {
      rules = rules_named text a.x at c.x c.is;
      terms = all_hold (λ t. tree_in scope t) (HasNames a.x) (λ t tree e. tree_named scope t tree e) terms d.x d.is;
    })

nothing_named : IsNamed nothing
nothing_named = record { rules = λ k d l. absurd (omega arith); terms = λ k d l. absurd (omega arith) }

with_last : (syntax : Parsed) (o : Option Specification) (made : Specified) → spelled_with syntax o ≡ Some made → IsNamed made
with_last syntax None made h = subst IsNamed (cc_some nothing made h) nothing_named
with_last syntax (Some last) made h = spelled_named syntax.bytes syntax.specifications (material_of syntax.bytes syntax.specifications (length syntax.specifications - 1)) last.terms made h

pub symbols_named : (syntax : Parsed) (made : Specified) → spelled_in syntax ≡ Some made → IsNamed made
symbols_named syntax made h = with_last syntax (last_of syntax.specifications) made h

pub checked_named : (syntax : Parsed) (r : Result Spec ReadFail) → IfOk r (λ s. spelled_in syntax ≡ Some (specified s)) → IfOk r (λ s. IsNamed (specified s))
checked_named syntax (Ok s) h = symbols_named syntax (specified s) h
checked_named syntax (Err e) h = tt
