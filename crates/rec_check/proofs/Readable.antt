-- What terms and rules are read by: symbols and variables for all their heads.
use Rattle.rec_check.proofs.Common.{[], nat_tests, rules, ◌≡◌, ℕ, ◌-◌, true, ◌&&◌, List, ◌∷◌, length, slice_get, get_or, Option, Some, None, is_some, All, refl, sym, ap, subst, ◌∙◌, arith, position, length-append, option_and_then, nat_le, option_map, list_any, flat_map, bytes_eq, All-weaker, All-head, All-tail, slice_get_within, slice_get-get_or, get_or_from_slice_get, Tree, root, tree_of, Item, only_postorder, root_is_last, Rule, Named, named, Specification, IsWhole, text_of, Scope, all_of, item_in, item_by, symbol_item, tree_in, same_symbol, most_arguments, condition_in, rule_in, variables_in, variables_of, terms_in}
use Rattle.rec_reader.specs.declared.syntax_tree.Node as node
use Rattle.rec_reader.specs.declared.syntax_tree.Rule as written
use Rattle.rec_reader.specs.declared.syntax_tree.Condition as condition
use Rattle.rec_check.specs.Spelled.{rules_of}
use Rattle.rec_check.proofs.Heads.{place_if_any, symbol_cases}
use Rattle.rec_check.proofs.Sound.{Holds}
use Rattle.rec_check.proofs.Whole.{IsOver, variable_over, symbol_over, whole_spells}

pub some_of : {A : Type 0} (o : Option A) → is_some o ≡ true → (x : A) × (o ≡ Some x)
some_of o h = grind (arith, nat_tests)

is_some-map : {A B : Type 0} (f : A → B) (o : Option A) → is_some (option_map f o) ≡ is_some o
is_some-map f o = grind (arith, nat_tests)

-- whether a symbol stands for a head
pub symbol_known : (symbols : List Named) (name : List ℕ) (count : ℕ) → is_some (symbol_item symbols name count) ≡ (nat_le count most_arguments && list_any (same_symbol (named name count)) symbols)
symbol_known symbols name count = grind (arith, nat_tests, is_some-map, place_if_any)

not_one : (m : ℕ) → m ≡ 0 → Some m ≡ Some 1 → ⊥
not_one m z h = let e : m ≡ 1 = cc in omega arith

module _ (bytes : List ℕ) where
  abbrev pub scope : List Named → List (List ℕ) → Scope
  scope symbols vars = record { text = bytes; symbols = symbols; variables = vars }

  abbrev pub IsRead : List Named → List (List ℕ) → node.Node → Type 0
  IsRead symbols vars n = is_some (item_in (scope symbols vars) n) ≡ true

  read_more : (a b : List Named) (vars : List (List ℕ)) → Holds a b → (n : node.Node) → IsRead a vars n → IsRead b vars n
  read_more a b vars h n r = grind (arith, nat_tests, symbol_known)

  pub record TermReads (symbols : List Named) (vars : List (List ℕ)) (nodes : List node.Node) : Type 0 where
    pub heads : All (IsRead symbols vars) nodes
    pub whole : IsWhole nodes

  term_more : (a b : List Named) (vars : List (List ℕ)) (nodes : List node.Node) → Holds a b → TermReads a vars nodes → TermReads b vars nodes
  term_more a b vars nodes h r = record { heads = All-weaker (IsRead a vars) (IsRead b vars) (read_more a b vars h) nodes r.heads; whole = r.whole }

  pub record SidesRead (symbols : List Named) (vars : List (List ℕ)) (c : condition.Condition) : Type 0 where
    pub first : TermReads symbols vars c.first
    pub second : TermReads symbols vars c.second

  pub record RuleReads (symbols : List Named) (declared : List (List ℕ)) (r : written.Rule) : Type 0 where
    pub left : TermReads symbols (variables_in bytes declared r.left) r.left
    pub right : TermReads symbols (variables_in bytes declared r.left) r.right
    pub conditions : All (SidesRead symbols (variables_in bytes declared r.left)) r.conditions
    pub head : (n : node.Node) → slice_get r.left (length r.left - 1) ≡ Some n → position (bytes_eq (text_of bytes n.head)) (variables_in bytes declared r.left) ≡ None

  abbrev pub Reads : List Named → Specification → Type 0
  Reads symbols t = All (RuleReads symbols (variables_of bytes t)) t.rules

  rule_more : (a b : List Named) (declared : List (List ℕ)) → Holds a b → (r : written.Rule) → RuleReads a declared r → RuleReads b declared r
  rule_more a b declared h r x = record {
    left = term_more a b (variables_in bytes declared r.left) r.left h x.left;
    right = term_more a b (variables_in bytes declared r.left) r.right h x.right;
    conditions = All-weaker (SidesRead a (variables_in bytes declared r.left)) (SidesRead b (variables_in bytes declared r.left))
        (λ c y. record { first = term_more a b (variables_in bytes declared r.left) c.first h y.first; second = term_more a b (variables_in bytes declared r.left) c.second h y.second }) r.conditions x.conditions;
    head = x.head;
  }

  -- more symbols read what fewer do
  pub reads_more : (a b : List Named) (t : Specification) → Holds a b → Reads a t → Reads b t
  reads_more a b t h r = All-weaker (RuleReads a (variables_of bytes t)) (RuleReads b (variables_of bytes t)) (rule_more a b (variables_of bytes t) h) t.rules r

  -- ---- what is read is spelled

  over : (s : Scope) (n : node.Node) (i : Item) → item_in s n ≡ Some i → IsOver i n.count
  over s n i h = grind (arith, nat_tests, variable_over, symbol_cases, symbol_over)

  -- each of a list is spelled
  all_spelled : {X Y : Type 0} (f : X → Option Y) (xs : List X) → All (λ x. is_some (f x) ≡ true) xs → is_some (all_of f xs) ≡ true
  all_spelled f [] a = refl
  all_spelled {X} {Y} f (x ∷ xs) a = grind (arith, nat_tests, all_spelled f xs (All-tail (λ z. is_some (f z) ≡ true) x xs a), All-head (λ z. is_some (f z) ≡ true) x xs a)

  -- what stands at a place is spelled there
  spelled_at : {X Y : Type 0} (f : X → Option Y) (xs : List X) (ys : List Y) (k : ℕ) (x : X) (y : Y) → all_of f xs ≡ Some ys → slice_get xs k ≡ Some x → f x ≡ Some y → slice_get ys k ≡ Some y
  spelled_at f [] ys k x y h e g = absurd (let bad : None ≡ Some x = e in cc)
  spelled_at {X} {Y} f (z ∷ xs) ys k x y h e g = grind (arith, nat_tests, spelled_at f xs)

  same_length : {X Y : Type 0} (f : X → Option Y) (xs : List X) (ys : List Y) → all_of f xs ≡ Some ys → length ys ≡ length xs
  same_length f [] ys h = let e : ys ≡ [] = cc in ap length e
  same_length {X} {Y} f (x ∷ xs) ys h = grind (arith, nat_tests, same_length f xs)

  pub record Spelled (s : Scope) (nodes : List node.Node) : Type 0 where
    pub items : List Item
    pub tree : Tree
    pub are : all_of (λ n. item_in s n) nodes ≡ Some items
    pub is : tree_of items ≡ Some tree
    pub spelled : tree_in s nodes ≡ Some tree

  pub term_spelled : (symbols : List Named) (vars : List (List ℕ)) (nodes : List node.Node) → TermReads symbols vars nodes → Spelled (scope symbols vars) nodes
  term_spelled symbols vars nodes r =
      let s = scope symbols vars in
      let a = some_of (all_of (λ n. item_in s n) nodes) (all_spelled (λ n. item_in s n) nodes r.heads) in
      let t = whole_spells (λ n. item_in s n) (over s) nodes a.0 a.1 r.whole in
      record { items = a.0; tree = t.0; are = a.1; is = t.1; spelled = ap (λ o. option_and_then (λ items. tree_of items) o) a.1 ∙ t.1 }

  condition_spelled : (symbols : List Named) (vars : List (List ℕ)) (c : condition.Condition) → SidesRead symbols vars c → is_some (condition_in (scope symbols vars) c) ≡ true
  condition_spelled symbols vars c r = grind (arith, nat_tests, term_spelled symbols vars c.first r.first, term_spelled symbols vars c.second r.second)

  pub All-at : {A : Type 0} (P : A → Type 0) (xs : List A) (k : ℕ) (x : A) → All P xs → slice_get xs k ≡ Some x → P x
  All-at P xs k x a e = subst P (get_or_from_slice_get xs k x x e) (a k x (slice_get_within xs k x e))

  at_last : {A : Type 0} (x : A) (xs : List A) → (y : A) × (slice_get (x ∷ xs) (length (x ∷ xs) - 1) ≡ Some y)
  at_last x xs = (get_or (x ∷ xs) (length (x ∷ xs) - 1) x, slice_get-get_or (x ∷ xs) (length (x ∷ xs) - 1) x (omega arith))

  -- a whole term has a last node
  pub last_node : (nodes : List node.Node) → IsWhole nodes → (n : node.Node) × (slice_get nodes (length nodes - 1) ≡ Some n)
  last_node [] w = absurd (not_one 0 refl w)
  last_node (n ∷ nodes) w = at_last n nodes

  -- its tree has the head that the last node stands for
  has_root : (symbols : List Named) (vars : List (List ℕ)) (nodes : List node.Node) (t : Spelled (scope symbols vars) nodes) (n : node.Node) → slice_get nodes (length nodes - 1) ≡ Some n
      → position (bytes_eq (text_of bytes n.head)) vars ≡ None → is_some (item_in (scope symbols vars) n) ≡ true → is_some (root t.tree) ≡ true
  has_root symbols vars nodes t n e none read =
      let s = scope symbols vars in
      let i = some_of (item_in s n) read in
      let sy = symbol_cases symbols (text_of bytes n.head) n.count i.0 (ap (item_by symbols (text_of bytes n.head) n.count) (sym none) ∙ i.1) in
      let at = spelled_at (λ m. item_in s m) nodes t.items (length nodes - 1) n i.0 t.are e i.1 in
      grind (arith, nat_tests, at, only_postorder t.items t.tree t.is, same_length (λ m. item_in s m) nodes t.items t.are, root_is_last t.tree i.0, sy.is)

  pub rule_spelled : (symbols : List Named) (declared : List (List ℕ)) (r : written.Rule) → RuleReads symbols declared r → is_some (rule_in bytes symbols declared r) ≡ true
  rule_spelled symbols declared r x =
      let vars = variables_in bytes declared r.left in
      let a = term_spelled symbols vars r.left x.left in
      let n = last_node r.left x.left.whole in
      let read : IsRead symbols vars n.0 = All-at (IsRead symbols vars) r.left (length r.left - 1) n.0 x.left.heads n.1 in
      let one = λ (d : condition.Condition). is_some (condition_in (scope symbols vars) d) ≡ true in
      let conditions = all_spelled (λ d. condition_in (scope symbols vars) d) r.conditions (All-weaker (SidesRead symbols vars) one (condition_spelled symbols vars) r.conditions x.conditions) in
      grind (arith, nat_tests, a, term_spelled symbols vars r.right x.right, conditions, has_root symbols vars r.left a n.0 n.1 (x.head n.0 n.1) read)

  -- all rules of a specification, and of a list of specifications
  pub rules_spelled : (symbols : List Named) (ts : List Specification) → All (Reads symbols) ts → is_some (rules_of bytes symbols ts) ≡ true
  rules_spelled symbols [] a = refl
  rules_spelled symbols (t ∷ ts) a =
      let declared = variables_of bytes t in
      let one = λ (r : written.Rule). is_some (rule_in bytes symbols declared r) ≡ true in
      let first = all_spelled (λ r. rule_in bytes symbols declared r) t.rules (All-weaker (RuleReads symbols declared) one (rule_spelled symbols declared) t.rules (All-head (Reads symbols) t ts a)) in
      grind (arith, nat_tests, first, rules_spelled symbols ts (All-tail (Reads symbols) t ts a))

  -- how many rules are spelled
  pub length-rules : (symbols : List Named) (ts : List Specification) (rules : List Rule) → rules_of bytes symbols ts ≡ Some rules → length rules ≡ length (flat_map (λ t. t.rules) ts)
  length-rules symbols [] rules h = let e : [] ≡ rules = cc in ap length (sym e)
  length-rules symbols (t ∷ ts) rules h = grind (arith, nat_tests, length-rules symbols ts, same_length, length-append)

  -- terms without variables
  pub terms_spelled : (symbols : List Named) (terms : List (List node.Node)) → All (TermReads symbols []) terms → is_some (terms_in bytes symbols terms) ≡ true
  terms_spelled symbols terms a =
      let one = λ (t : List node.Node). is_some (tree_in (scope symbols []) t) ≡ true in
      all_spelled (λ t. tree_in (scope symbols []) t) terms (All-weaker (TermReads symbols []) one (λ t r. ap is_some (term_spelled symbols [] t r).spelled) terms a)
