-- What an input spells has no heads but symbols that a log may tell.
use Rattle.std.proofs.Common.{◌≡◌, ℕ, ◌-◌, ◌<◌, ◌≤◌, Bool, true, false, ◌⊎◌, inl, inr, List, [], ◌∷◌, ◌++◌, length, Option, Some, None, All, refl, sym, ap, subst, ◌∙◌, arith, position}
use Rattle.std.specs.Prelude.{◌&&◌, not, nat_le, nat_lt, if◌then◌else◌, option_and_then}
use Rattle.std.specs.List.{list_all, list_any, AllByRecursion}
use Rattle.std.specs.Option.{option_map}
use Rattle.std.specs.Str.{bytes_eq}
use Rattle.std.proofs.lemmas.Bool.{lt-ltb}
use Rattle.std.proofs.lemmas.Bool.Decides.{nat_tests}
use Rattle.std.proofs.lemmas.List.{length-append}
use Rattle.std.proofs.lemmas.List.Folds.{list_all-append}
use Rattle.std.proofs.lemmas.List.Quantifiers.{position-Some}
use Rattle.std.proofs.lemmas.List.Elements.{All-head, All-tail}
use Rattle.term_model.specs.Tree.{Tree, Leaf, Node, Trees, End, More, count_of}
use Rattle.term_model.specs.Postorder.{postorder, postorder_all, item_of}
use Rattle.term_model.specs.declared.Head.{Head}
use Rattle.term_model.specs.declared.Head.TheVariants as head
use Rattle.term_model.specs.declared.Item.{Item}
use Rattle.term_model.specs.declared.Item.TheVariants.{Var, App, Int, Nil, Cons}
use Rattle.term_model.proofs.Order.{both_hold}
use Rattle.symbol_pool.specs.Pool.{Named, named, most_symbols}
use Rattle.rewrite_model.specs.Rule.{Rule, Condition}
use Rattle.rec_reader.specs.declared.syntax_tree.Node as written_node
use Rattle.rec_reader.specs.declared.syntax_tree.Rule as written
use Rattle.rec_reader.specs.declared.syntax_tree.Condition as written_condition
use Rattle.rec_reader.specs.declared.syntax_tree.Specification.{Specification}
use Rattle.rec_reader.specs.Parsed.{Parsed}
use Rattle.rec_includes.specs.Names.{text_of}
use Rattle.rec_includes.specs.Material.{symbols_of, specifications_at, material_of}
use Rattle.rec_check.specs.Symbols.{named_in, with_symbol, with_symbols}
use Rattle.rec_check.specs.Term.{Scope, item_in, item_by, tree_in, symbol_item, same_symbol, most_arguments}
use Rattle.rec_check.specs.Rule.{◌>>=◌, condition_in, rule_in}
use Rattle.rec_check.specs.Spelled.{Specified, nothing, variables_of, rules_in, rules_of, terms_in, with_few_rules, spelled_by}
use Rattle.rec_check.specs.Run.{last_of, spelled_with, spelled_in}
use Rattle.rec_check.proofs.Heads.{IsVariable, IsSymbol, head_cases, all_pass, all_hold}
use Rattle.rec_check.proofs.Plans as plan
use Rattle.rec_check.proofs.Plans.{spells, came, cc_some, within_limit, is_made}
use Rattle.log_laws.specs.Told.{OfHeads, AllHeads, EachHeads, WritesHeads, may_tell}
use Rattle.log_laws.proofs.Built.{told_both}
use Rattle.run_checks.proofs.Narrow.{IsNarrow, is_node, is_narrow, are_narrow}

-- ---- symbols that a log may tell

-- a symbol whose number is below 65,535, over at most 16 arguments
abbrev pub told_symbol : OfHeads
told_symbol (head.App f) n = nat_lt f.0 65535 && nat_le n 16
told_symbol (head.Int v) n = false
told_symbol head.Nil n = false
told_symbol head.Cons n = false

-- a log may tell it
symbol_told : (h : Head) (n : ℕ) → told_symbol h n ≡ true → may_tell h n ≡ true
symbol_told (head.App f) n e = e
symbol_told (head.Int v) n e = absurd cc
symbol_told head.Nil n e = absurd cc
symbol_told head.Cons n e = absurd cc

mutual
  pub tree_may_be_told : (t : Tree) → AllHeads told_symbol t → AllHeads may_tell t
  tree_may_be_told (Leaf x) h = tt
  tree_may_be_told (Node g ts) h = (symbol_told g (count_of ts) h.0, trees_may_be_told ts h.1)

  trees_may_be_told : (ts : Trees) → EachHeads told_symbol ts → EachHeads may_tell ts
  trees_may_be_told End h = tt
  trees_may_be_told (More t ts) h = (tree_may_be_told t h.0, trees_may_be_told ts h.1)

-- and the check of traces may read it
symbol_node : (h : Head) (ts : Trees) → told_symbol h (count_of ts) ≡ true → is_node 16 h ts ≡ true
symbol_node (head.App f) ts e = (both_hold (nat_lt f.0 65535) (nat_le (count_of ts) 16) e).1
symbol_node (head.Int v) ts e = absurd cc
symbol_node head.Nil ts e = absurd cc
symbol_node head.Cons ts e = absurd cc

both_true : (a b : Bool) → a ≡ true → b ≡ true → (a && b) ≡ true
both_true true b e f = f
both_true false b e f = absurd cc

mutual
  pub tree_is_narrow : (t : Tree) → AllHeads told_symbol t → IsNarrow 16 t
  tree_is_narrow (Leaf x) h = refl
  tree_is_narrow (Node g ts) h = both_true (is_node 16 g ts) (are_narrow 16 ts) (symbol_node g ts h.0) (trees_are_narrow ts h.1)

  trees_are_narrow : (ts : Trees) → EachHeads told_symbol ts → are_narrow 16 ts ≡ true
  trees_are_narrow End h = refl
  trees_are_narrow (More t ts) h = both_true (is_narrow 16 t) (are_narrow 16 ts) (tree_is_narrow t h.0) (trees_are_narrow ts h.1)

-- ---- a tree of symbols, by its items

-- the same of an item
abbrev told_item : Item → Bool
told_item (Var x) = true
told_item (App f n) = told_symbol (head.App f) n
told_item (Int v) = false
told_item Nil = false
told_item Cons = false

of_head : (h : Head) (n : ℕ) → told_item (item_of h n) ≡ true → told_symbol h n ≡ true
of_head (head.App f) n e = e
of_head (head.Int v) n e = absurd cc
of_head head.Nil n e = absurd cc
of_head head.Cons n e = absurd cc

mutual
  by_items : (t : Tree) → list_all told_item (postorder t) ≡ true → AllHeads told_symbol t
  by_items (Leaf x) e = tt
  by_items (Node h ts) e =
      let last = item_of h (count_of ts) in
      let both = both_hold (list_all told_item (postorder_all ts)) (told_item last && true) (sym (list_all-append told_item (postorder_all ts) (last ∷ [])) ∙ e) in
      (of_head h (count_of ts) (both_hold (told_item last) true both.1).0, all_by_items ts both.0)

  all_by_items : (ts : Trees) → list_all told_item (postorder_all ts) ≡ true → EachHeads told_symbol ts
  all_by_items End e = tt
  all_by_items (More t ts) e =
      let both = both_hold (list_all told_item (postorder t)) (list_all told_item (postorder_all ts)) (sym (list_all-append told_item (postorder t) (postorder_all ts)) ∙ e) in
      (by_items t both.0, all_by_items ts both.1)

-- ---- what a head stands for

few_over : (symbols : List Named) (name : List ℕ) (count : ℕ) (i : Item) → symbol_item symbols name count ≡ Some i → nat_le count 16 ≡ true
few_over symbols name count i h = by (nat_le count most_arguments) refl h
  where
    by : (b : Bool) → nat_le count most_arguments ≡ b → (if b then option_map (λ f. App (record { 0 = f }) count) (position (same_symbol (named name count)) symbols) else None) ≡ Some i → nat_le count 16 ≡ true
    by true e g = e
    by false e g = absurd cc

module _ (scope : Scope) (few : length scope.symbols ≤ most_symbols) where
  abbrev name_of : written_node.Node → List ℕ
  name_of n = text_of scope.text n.head

  abbrev variable_of : written_node.Node → Option ℕ
  variable_of n = position (bytes_eq (name_of n)) scope.variables

  one_told : (n : written_node.Node) (i : Item) → item_in scope n ≡ Some i → told_item i ≡ true
  one_told n i h = by (variable_of n) refl (head_cases scope.symbols (name_of n) n.count (variable_of n) i h) h
    where
      by : (o : Option ℕ) → variable_of n ≡ o → IsVariable (variable_of n) i ⊎ ((variable_of n ≡ None) × IsSymbol scope.symbols (name_of n) n.count i) → item_in scope n ≡ Some i → told_item i ≡ true
      by o e (inl v) g = ap told_item v.is
      by o e (inr s) g =
          let p = position-Some (same_symbol (named (name_of n) n.count)) scope.symbols s.1.number (named (name_of n) n.count) s.1.at in
          let low : s.1.number < 65535 = omega (arith, p.0, few) in
          let item : symbol_item scope.symbols (name_of n) n.count ≡ Some i = subst (λ v. item_by scope.symbols (name_of n) n.count v ≡ Some i) s.0 g in
          ap told_item s.1.is ∙ both_true (nat_lt s.1.number 65535) (nat_le n.count 16) (lt-ltb s.1.number 65535 low) (few_over scope.symbols (name_of n) n.count i item)

  tree_told : (nodes : List written_node.Node) (t : Tree) → tree_in scope nodes ≡ Some t → AllHeads told_symbol t
  tree_told nodes t h =
      let s = spells scope nodes t h in
      by_items t (ap (list_all told_item) (sym s.spell) ∙ all_pass (λ n. item_in scope n) told_item one_told nodes s.items s.are)

  abbrev ToldSides : Condition → Type 0
  ToldSides d = AllHeads told_symbol d.first × AllHeads told_symbol d.second

  condition_told : (e : written_condition.Condition) (d : Condition) → condition_in scope e ≡ Some d → ToldSides d
  condition_told e d h =
      let a = came (tree_in scope e.first) (λ first. tree_in scope e.second >>= λ second. Some (record { first = first; second = second; equal = e.equal })) d h in
      let b = came (tree_in scope e.second) (λ second. let made : Condition = record { first = a.x; second = second; equal = e.equal } in Some made) d a.gives in
      let made : Condition = record { first = a.x; second = b.x; equal = e.equal } in
      subst ToldSides (cc_some made d b.gives) (tree_told e.first a.x a.is, tree_told e.second b.x b.is)

-- ---- rules and terms

from_all : {A : Type 0} (P : A → Type 0) (xs : List A) → All P xs → AllByRecursion P xs
from_all P [] h = tt
from_all P (x ∷ xs) h = (All-head P x xs h, from_all P xs (All-tail P x xs h))

rule_told : (text : List ℕ) (symbols : List Named) (declared : List (List ℕ)) (r : written.Rule) (made : Rule) → length symbols ≤ most_symbols → rule_in text symbols declared r ≡ Some made → WritesHeads told_symbol made
rule_told text symbols declared r made few h =
    let scope = plan.scope text symbols declared r made h in
    let right = plan.b text symbols declared r made h in
    let conditions = plan.c text symbols declared r made h in
    subst (WritesHeads told_symbol) (is_made text symbols declared r made h) (record {
      right = tree_told scope few r.right right.x right.is;
      conditions = from_all (ToldSides scope few) conditions.x (all_hold (λ e. condition_in scope e) (ToldSides scope few) (condition_told scope few) r.conditions conditions.x conditions.is);
    })

abbrev RulesTold : List Rule → Type 0
RulesTold rules = AllByRecursion (WritesHeads told_symbol) rules

rules_told : (text : List ℕ) (symbols : List Named) (ss : List Specification) (rules : List Rule) → length symbols ≤ most_symbols → rules_of text symbols ss ≡ Some rules → RulesTold rules
rules_told text symbols [] rules few h = let e : [] ≡ rules = cc in subst RulesTold e tt
rules_told text symbols (s ∷ ss) rules few h =
    let a = came (rules_in text symbols s) (λ first. rules_of text symbols ss >>= λ more. Some (first ++ more)) rules h in
    let c = came (rules_of text symbols ss) (λ more. Some (a.x ++ more)) rules a.gives in
    let is : a.x ++ c.x ≡ rules = cc_some (a.x ++ c.x) rules c.gives in
    let here = from_all (WritesHeads told_symbol) a.x
    (all_hold (λ r. rule_in text symbols (variables_of text s) r) (WritesHeads told_symbol) (λ r made e. rule_told text symbols (variables_of text s) r made few e) s.rules a.x a.is) in
    subst RulesTold is (told_both (WritesHeads told_symbol) a.x c.x here (rules_told text symbols ss c.x few c.is))

-- ---- there are few symbols

added_few : (symbols more : List Named) (s : Named) → with_symbol symbols s ≡ Some more → length more ≤ most_symbols
added_few symbols more s h = by (nat_le s.arity most_arguments) (not (list_any (same_symbol s) symbols)) (nat_lt (length symbols) most_symbols) refl h
  where
    by : (b c d : Bool) → nat_lt (length symbols) most_symbols ≡ d → (if b && (c && d) then Some (symbols ++ s ∷ []) else None) ≡ Some more → length more ≤ most_symbols
    by true true true e g =
        let same = ap length (cc_some (symbols ++ s ∷ []) more g) in
        let long = length-append symbols (s ∷ []) in
        let less : length symbols < most_symbols = grind (arith, nat_tests) in
        omega (arith, same, long, less)
    by true true false e g = absurd cc
    by true false d e g = absurd cc
    by false c d e g = absurd cc

from_then : {A B : Type 0} (f : A → Option B) (o : Option A) (y : B) → option_and_then f o ≡ Some y → (x : A) × (o ≡ Some x) × (f x ≡ Some y)
from_then f None y h = absurd (let bad : None ≡ Some y = h in cc)
from_then f (Some x) y h = (x, refl, h)

stays_few : (symbols ss made : List Named) → length symbols ≤ most_symbols → with_symbols symbols ss ≡ Some made → length made ≤ most_symbols
stays_few symbols [] made few h = subst (λ (m : List Named). length m ≤ most_symbols) (cc_some symbols made h) few
stays_few symbols (s ∷ ss) made few h =
    let a = from_then (λ more. with_symbols more ss) (with_symbol symbols s) made h in
    stays_few a.0 ss made (added_few symbols a.0 s a.1) a.2

-- ---- all that is spelled

pub record IsToldSpec (spec : Specified) : Type 0 where
  pub rules : AllByRecursion (WritesHeads told_symbol) spec.rules
  pub terms : AllByRecursion (AllHeads told_symbol) spec.terms

spelled_told : (text : List ℕ) (specifications : List Specification) (material : List ℕ) (terms : List (List written_node.Node)) (made : Specified) → spelled_by text specifications material terms ≡ Some made → IsToldSpec made
spelled_told text specifications material terms made h =
    let at = specifications_at specifications material in
    let a = came (with_symbols [] (named_in text (symbols_of specifications material)))
    (λ symbols. rules_of text symbols at >>= λ rules. terms_in text symbols terms >>= λ trees. with_few_rules (record { symbols = symbols; rules = rules; terms = trees })) made h in
    let c = came (rules_of text a.x at) (λ rules. terms_in text a.x terms >>= λ trees. with_few_rules (record { symbols = a.x; rules = rules; terms = trees })) made a.gives in
    let d = came (terms_in text a.x terms) (λ trees. with_few_rules (record { symbols = a.x; rules = c.x; terms = trees })) made c.gives in
    let s : Specified = record { symbols = a.x; rules = c.x; terms = d.x } in
    let limit = within_limit s made d.gives in
    let few = stays_few [] (named_in text (symbols_of specifications material)) a.x (omega arith) a.is in
    let scope : Scope = record { text = text; symbols = a.x; variables = [] } in
    subst IsToldSpec limit.1 (record {
      rules = rules_told text a.x at c.x few c.is;
      terms = from_all (AllHeads told_symbol) d.x (all_hold (λ t. tree_in scope t) (AllHeads told_symbol) (λ t tree e. tree_told scope few t tree e) terms d.x d.is);
    })

with_last : (syntax : Parsed) (o : Option Specification) (made : Specified) → spelled_with syntax o ≡ Some made → IsToldSpec made
with_last syntax None made h = subst IsToldSpec (cc_some nothing made h) (record { rules = tt; terms = tt })
with_last syntax (Some last) made h = spelled_told syntax.bytes syntax.specifications (material_of syntax.bytes syntax.specifications (length syntax.specifications - 1)) last.terms made h

pub spec_told : (syntax : Parsed) (made : Specified) → spelled_in syntax ≡ Some made → IsToldSpec made
spec_told syntax made h = with_last syntax (last_of syntax.specifications) made h
