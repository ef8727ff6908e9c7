-- What is spelled may be planned.
use Rattle.rec_check.proofs.Common.{[], rules, ◌≡◌, ℕ, ◌-◌, ◌≤◌, List, ◌∷◌, length, Option, Some, None, All, sym, ap, subst, ◌∙◌, arith, option_and_then, nat_tests, All-append, All-weaker, Tree, root, IsGround, postorder, Item, only_postorder, all_heads, Rule, Condition, IsNode, IsBelow, IsPlain, HasSymbolsAlone, HasSides, IsFit, is_plain, is_item_below, counted, below, count_in, Named, Specification, Parsed, symbols_of, specifications_at, material_of, named_in, with_symbols, widest_of, MayBeRun, last_of, spelled_with, spelled_in, Scope, all_of, item_in, tree_in, ◌>>=◌, condition_in, rule_in, variables_in, Specified, nothing, variables_of, rules_in, terms_in, with_few_rules, most_rules, spelled_by}
use Rattle.term_model.specs.declared.Head.{Head}
use Rattle.rewrite_model.specs.Rule.{IsRule}
use Rattle.rec_reader.specs.declared.syntax_tree.Node as written_node
use Rattle.rec_reader.specs.declared.syntax_tree.Rule as written
use Rattle.rec_reader.specs.declared.syntax_tree.Condition as written_condition
use Rattle.rec_check.specs.Spelled.{rules_of}
use Rattle.rec_check.proofs.Heads.{one_below, one_plain, all_pass, all_hold}
use Rattle.rec_check.proofs.Numbered.{left_numbered}

-- what came before a step that gave something
pub record Came {A B : Type 0} (o : Option A) (f : A → Option B) (y : B) : Type 0 where
  pub x : A
  pub is : o ≡ Some x
  pub gives : f x ≡ Some y

pub came : {A B : Type 0} (o : Option A) (f : A → Option B) (y : B) → (o >>= f) ≡ Some y → Came o f y
came o f y h = grind (arith, nat_tests)

pub from_then : {A B : Type 0} (f : A → Option B) (o : Option A) (y : B) → option_and_then f o ≡ Some y → Came o f y
from_then f o y h = grind (arith, nat_tests)

pub cc_some : {A : Type 0} (x y : A) → Some x ≡ Some y → x ≡ y
cc_some x y e = cc

-- ---- a term

pub record Spells (scope : Scope) (nodes : List written_node.Node) (t : Tree) : Type 0 where
  pub items : List Item
  pub are : all_of (λ n. item_in scope n) nodes ≡ Some items
  pub spell : items ≡ postorder t

pub spells : (scope : Scope) (nodes : List written_node.Node) (t : Tree) → tree_in scope nodes ≡ Some t → Spells scope nodes t
spells scope nodes t h = grind (arith, nat_tests, only_postorder)

module _ (scope : Scope) (nodes : List written_node.Node) (t : Tree) (h : tree_in scope nodes ≡ Some t) where
  abbrev s : Spells scope nodes t
  s = spells scope nodes t h

  pub tree_below : IsBelow (length scope.variables) t
  tree_below = grind (arith, below (length scope.variables) t, s.spell, all_pass (λ n. item_in scope n) (is_item_below (length scope.variables)) (one_below scope) nodes s.items s.are)

  pub tree_plain : IsPlain (widest_of scope.symbols) t
  tree_plain = grind (arith, s.spell, all_pass (λ n. item_in scope n) (λ i. is_plain (widest_of scope.symbols) i) (one_plain scope) nodes s.items s.are)

has_root : (t : Tree) (h : Head) → root t ≡ Some h → IsNode t
has_root t h e = grind (arith, nat_tests)

-- ---- a rule

condition_fits : (scope : Scope) (c : written_condition.Condition) (d : Condition) → condition_in scope c ≡ Some d → HasSides (length scope.variables) (widest_of scope.symbols) d
condition_fits scope c d h = grind (arith, nat_tests, came, cc_some, tree_below, tree_plain)

module _ (text : List ℕ) (symbols : List Named) (declared : List (List ℕ)) (r : written.Rule) (made : Rule) (h : rule_in text symbols declared r ≡ Some made) where
  abbrev pub vars : List (List ℕ)
  vars = variables_in text declared r.left

  abbrev pub scope : Scope
  scope = record { text = text; symbols = symbols; variables = vars }

  abbrev pub with_head : Tree → Tree → List Condition → Head → Option Rule
  with_head left right conditions head = Some (record { left = left; right = right; conditions = conditions; vars = length vars })

  abbrev pub with_conditions : Tree → Tree → List Condition → Option Rule
  with_conditions left right conditions = root left >>= with_head left right conditions

  abbrev pub with_right : Tree → Tree → Option Rule
  with_right left right = all_of (λ c. condition_in scope c) r.conditions >>= with_conditions left right

  abbrev pub with_left : Tree → Option Rule
  with_left left = tree_in scope r.right >>= with_right left

  abbrev pub a : Came (tree_in scope r.left) with_left made
  a = came (tree_in scope r.left) with_left made h

  abbrev pub b : Came (tree_in scope r.right) (with_right a.x) made
  b = came (tree_in scope r.right) (with_right a.x) made a.gives

  abbrev pub c : Came (all_of (λ d. condition_in scope d) r.conditions) (with_conditions a.x b.x) made
  c = came (all_of (λ d. condition_in scope d) r.conditions) (with_conditions a.x b.x) made b.gives

  abbrev pub d : Came (root a.x) (with_head a.x b.x c.x) made
  d = came (root a.x) (with_head a.x b.x c.x) made c.gives

  abbrev pub rule : Rule
  rule = record { left = a.x; right = b.x; conditions = c.x; vars = length vars }

  pub is_made : rule ≡ made
  is_made = cc_some rule made d.gives

  sides : All (HasSides (length vars) (widest_of symbols)) c.x
  sides = all_hold (λ e. condition_in scope e) (HasSides (length vars) (widest_of symbols)) (λ e f. condition_fits scope e f) r.conditions c.x c.is

  left : Spells scope r.left a.x
  left = spells scope r.left a.x a.is

  fits : IsFit (widest_of symbols) rule
  fits = record {
    rule = record {
      node = has_root a.x d.x d.is;
      numbered = sym (counted a.x 0) ∙ ap (λ items. count_in items 0) (sym left.spell) ∙ left_numbered text symbols declared r.left left.items left.are;
      right = tree_below scope r.right b.x b.is;
      firsts = All-weaker (HasSides (length vars) (widest_of symbols)) (λ e. IsBelow (length vars) e.first) (λ e f. f.first_below) c.x sides;
      seconds = All-weaker (HasSides (length vars) (widest_of symbols)) (λ e. IsBelow (length vars) e.second) (λ e f. f.second_below) c.x sides;
    };
    symbols = record {
      left = tree_plain scope r.left a.x a.is;
      right = tree_plain scope r.right b.x b.is;
      firsts = All-weaker (HasSides (length vars) (widest_of symbols)) (λ e. IsPlain (widest_of symbols) e.first) (λ e f. f.first) c.x sides;
      seconds = All-weaker (HasSides (length vars) (widest_of symbols)) (λ e. IsPlain (widest_of symbols) e.second) (λ e f. f.second) c.x sides;
    };
  }

  pub rule_fits : IsFit (widest_of symbols) made
  rule_fits = subst (IsFit (widest_of symbols)) is_made fits

-- ---- all rules, and the terms

pub rules_fit : (text : List ℕ) (symbols : List Named) (ss : List Specification) (rules : List Rule) → rules_of text symbols ss ≡ Some rules → All (IsFit (widest_of symbols)) rules
rules_fit text symbols [] rules h = let e : [] ≡ rules = cc in subst (All (IsFit (widest_of symbols))) e (λ k d l. absurd (omega arith))
rules_fit text symbols (s ∷ ss) rules h =
    let a = came (rules_in text symbols s) _ rules h in
    let b = came (rules_of text symbols ss) _ rules a.gives in
    let here = all_hold _ (IsFit (widest_of symbols)) (rule_fits text symbols (variables_of text s)) s.rules a.x a.is in
    subst (All (IsFit (widest_of symbols))) (cc_some _ rules b.gives) (All-append (IsFit (widest_of symbols)) a.x b.x here (rules_fit text symbols ss b.x b.is))

abbrev no_variables : List ℕ → List Named → Scope
no_variables text symbols = record { text = text; symbols = symbols; variables = [] }

term_ground : (text : List ℕ) (symbols : List Named) (t : List written_node.Node) (tree : Tree) → tree_in (no_variables text symbols) t ≡ Some tree → IsGround tree
term_ground text symbols t tree h = grind (arith, nat_tests, spells (no_variables text symbols) t tree h, all_heads tree, all_pass)

pub within_limit : (s made : Specified) → with_few_rules s ≡ Some made → (length s.rules ≤ most_rules) × (s ≡ made)
within_limit s made h = grind (arith, nat_tests)

-- the parts of what specifications spell with terms
pub record Parts (text : List ℕ) (specifications : List Specification) (material : List ℕ) (ts : List (List written_node.Node)) (made : Specified) : Type 0 where
  pub symbols : with_symbols [] (named_in text (symbols_of specifications material)) ≡ Some made.symbols
  pub rules : rules_of text made.symbols (specifications_at specifications material) ≡ Some made.rules
  pub terms : terms_in text made.symbols ts ≡ Some made.terms
  pub few : length made.rules ≤ most_rules

parts_of : (text : List ℕ) (specifications : List Specification) (material : List ℕ) (ts : List (List written_node.Node)) (made : Specified)
    → spelled_by text specifications material ts ≡ Some made → Parts text specifications material ts made
parts_of text specifications material ts made h = grind (arith, nat_tests)

abbrev pub last_material : Parsed → List ℕ
last_material syntax = material_of syntax.bytes syntax.specifications (length syntax.specifications - 1)

-- what holds of nothing and of what has such parts holds of what a syntax spells
pub of_spelled : (P : Specified → Type 0) (syntax : Parsed) (made : Specified) → P nothing
    → ((ts : List (List written_node.Node)) → Parts syntax.bytes syntax.specifications (last_material syntax) ts made → P made)
    → spelled_in syntax ≡ Some made → P made
of_spelled P syntax made none some h = by (last_of syntax.specifications) h
  where
    by : (o : Option Specification) → spelled_with syntax o ≡ Some made → P made
    by None h = grind (arith, none)
    by (Some last) h = some last.terms (parts_of syntax.bytes syntax.specifications (last_material syntax) last.terms made h)

parts_run : (text : List ℕ) (specifications : List Specification) (material : List ℕ) (ts : List (List written_node.Node)) (made : Specified)
    → Parts text specifications material ts made → MayBeRun made
parts_run text specifications material ts made p =
    let W = widest_of made.symbols in
    let fit = rules_fit text made.symbols (specifications_at specifications material) made.rules p.rules in
    let l : length made.rules ≤ most_rules = p.few in
    record {
      plan = record {
        rules = All-weaker (IsFit W) IsRule (λ r f. f.rule) made.rules fit;
        symbols = All-weaker (IsFit W) (HasSymbolsAlone W) (λ r f. f.symbols) made.rules fit;
        count = omega arith;
      };
      ground = all_hold (λ t. tree_in (no_variables text made.symbols) t) IsGround (term_ground text made.symbols) ts made.terms p.terms;
      plain = all_hold (λ t. tree_in (no_variables text made.symbols) t) (IsPlain W) (λ t tree e. tree_plain (no_variables text made.symbols) t tree e) ts made.terms p.terms;
    }

pub nothing_runs : MayBeRun nothing
nothing_runs = grind (arith, nat_tests)

-- what the last specification spells
pub last_runs : (syntax : Parsed) (made : Specified) → spelled_in syntax ≡ Some made → MayBeRun made
last_runs syntax made h =
    of_spelled MayBeRun syntax made nothing_runs (λ ts p. parts_run syntax.bytes syntax.specifications (last_material syntax) ts made p) h
