-- A specification without offence: its rules are read by the symbols of its material, and its terms too.
use Rattle.rec_check.proofs.Common.{list_any-append, [], nat_tests, arith, ◌≡◌, ℕ, ◌-◌, Bool, true, false, eqb, ◌&&◌, ◌||◌, ◌⊎◌, inl, inr, List, ◌∷◌, ◌++◌, length, map, take, Option, Some, None, is_some, All, refl, ap, ◌∙◌, ◌+◌, ◌≤◌, slice_get, get_or, if◌then◌else◌, find, nat_le, option_map_or, option_or, option_to_list, list_any, flat_map, filter, list_all, bytes_eq, bytes_decides, All-nil, All-cons, All-head, All-tail, named, Name, Node, Specification, text_of, same_text, is_among, Declared, Variable, variables_by, declared, symbols_of_declaration, Entry, symbol_entry, variable_entry, names_of, look_up, is_variable, visits, heads, repeated, first_past, most, same_symbol, most_arguments, with_names, named_in, variables_of, list_all-append, slice_get-get_or, Declaration, IsWhole, variables_in}
use Rattle.rec_check.proofs.Faultless.{left_empty, right_empty}
use Rattle.rec_check.proofs.Numbered.{all_declared}
use Rattle.rec_check.proofs.Sound.{or_left, all_front, all_back, few_arguments}
use Rattle.rec_check.proofs.Heads.{place_if_any}
use Rattle.rec_check.proofs.Readable.{IsRead, TermReads, symbol_known}

-- ---- lists that come to nothing

pub all_empty : {A B : Type 0} (f : A → List B) (xs : List A) → flat_map f xs ≡ [] → All (λ x. f x ≡ []) xs
all_empty f [] h = All-nil (λ x. f x ≡ [])
all_empty f (x ∷ xs) h = All-cons (λ x. f x ≡ []) x xs (left_empty (f x) (flat_map f xs) h) (all_empty f xs (right_empty (f x) (flat_map f xs) h))

pub all_flat : {A B : Type 0} (P : B → Type 0) (f : A → List B) (xs : List A) → All P (flat_map f xs) → All (λ x. All P (f x)) xs
all_flat P f [] h = All-nil (λ x. All P (f x))
all_flat P f (x ∷ xs) h = All-cons (λ x. All P (f x)) x xs (all_front P (f x) (flat_map f xs) h) (all_flat P f xs (all_back P (f x) (flat_map f xs) h))

pub all_filtered : {A : Type 0} (p : A → Bool) (xs : List A) → filter p xs ≡ [] → All (λ x. p x ≡ false) xs
all_filtered p [] h = All-nil (λ x. p x ≡ false)
all_filtered p (x ∷ xs) h = grind (arith, nat_tests, all_filtered p xs)

-- what holds of the visits of a term's nodes
pub visited : (P : Node → Type 0) (stack : List Name) (nodes : List Node) → All (λ v. P v.node) (visits stack nodes) → All P nodes
visited P stack [] h = All-nil P
visited P stack (n ∷ nodes) h =
    let rest = take (length stack - n.count) stack ++ n.head ∷ [] in
    All-cons P n nodes (All-head (λ v. P v.node) _ (visits rest nodes) h) (visited P rest nodes (All-tail (λ v. P v.node) _ (visits rest nodes) h))

module _ (bytes : List ℕ) where
  -- a name is not in both of two lists
  pub apart : (e xs : List Name) (n : Name) → repeated bytes e xs ≡ [] → is_among bytes e n ≡ true → is_among bytes xs n ≡ false
  apart e [] n h k = refl
  apart e (x ∷ xs) n h k = grind (arith, nat_tests, apart (e ++ x ∷ []) xs n, list_any-append, same_text, or_left, list_any, bytes_eq, bytes_decides, text_of)

  -- ---- what a name is declared as

  find-append : {A : Type 0} (p : A → Bool) (xs ys : List A) → find p (xs ++ ys) ≡ option_or (find p xs) (find p ys)
  find-append p [] ys = refl
  find-append p (x ∷ xs) ys = grind (arith, nat_tests, find-append p xs ys)

  -- a symbol of this name
  pub record AsSymbol (symbols : List Declared) (n : Name) (e : Entry) : Type 0 where
    pub no_variable : e.is_variable ≡ false
    pub among : is_among bytes (map (λ d. d.name) symbols) n ≡ true
    pub known : list_any (same_symbol (named (text_of bytes n) (length e.declared.arguments))) (named_in bytes symbols) ≡ true

  in_symbols : (symbols : List Declared) (n : Name) (e : Entry) → find (λ e. same_text bytes n e.declared.name) (map symbol_entry symbols) ≡ Some e → AsSymbol symbols n e
  in_symbols [] n e h = absurd cc
  in_symbols (d ∷ ds) n e h = grind (arith, nat_tests, in_symbols ds n e)

  -- a variable of this name
  pub record AsVariable (variables : List Variable) (n : Name) (e : Entry) : Type 0 where
    pub a_variable : e.is_variable ≡ true
    pub alone : length e.declared.arguments ≡ 0
    pub declared : list_any (bytes_eq (text_of bytes n)) (map (λ v. text_of bytes v.name) variables) ≡ true

  in_variables : (variables : List Variable) (n : Name) (e : Entry) → find (λ e. same_text bytes n e.declared.name) (map variable_entry variables) ≡ Some e → AsVariable variables n e
  in_variables [] n e h = absurd cc
  in_variables (v ∷ vs) n e h = grind (arith, nat_tests, in_variables vs n e)

  -- the names of variables
  variable_names : (n : Name) (variables : List Variable) → list_any (bytes_eq (text_of bytes n)) (map (λ v. text_of bytes v.name) variables) ≡ is_among bytes (names_of (map variable_entry variables)) n
  variable_names n [] = refl
  variable_names n (v ∷ vs) = ap (λ b. same_text bytes n v.name || b) (variable_names n vs)

  or_none : (a : Bool) → a ≡ (a || false)
  or_none a = grind (arith, nat_tests)

  pub any_with_names : (w : List ℕ) (e ns : List (List ℕ)) → list_any (bytes_eq w) (with_names e ns) ≡ (list_any (bytes_eq w) e || list_any (bytes_eq w) ns)
  any_with_names w e [] = or_none (list_any (bytes_eq w) e)
  any_with_names w e (n ∷ ns) = grind (arith, nat_tests, any_with_names w e ns, any_with_names w (e ++ n ∷ []) ns, bytes_decides, list_any-append)

  -- ---- what the heads of nodes are

  module _ (symbols : List Declared) (s : Specification) where
    abbrev pub entries_of : List Entry
    entries_of = map symbol_entry symbols ++ map variable_entry (variables_by s)

    pub record HeadSymbol (n : Node) : Type 0 where
      pub known : list_any (same_symbol (named (text_of bytes n.head) n.count)) (named_in bytes symbols) ≡ true
      pub not_declared : list_any (bytes_eq (text_of bytes n.head)) (variables_of bytes s) ≡ false
      pub no_variable : is_variable bytes entries_of n.head ≡ false

    pub record HeadVariable (n : Node) : Type 0 where
      pub alone : n.count ≡ 0
      pub declared : list_any (bytes_eq (text_of bytes n.head)) (variables_of bytes s) ≡ true
      pub a_variable : is_variable bytes entries_of n.head ≡ true

    pub classify : (apart_names : repeated bytes (map (λ d. d.name) symbols) (names_of (map variable_entry (variables_by s))) ≡ []) (n : Node)
        → (if is_some (look_up bytes entries_of n.head) then (let none : List Name = [] in none) else n.head ∷ []) ≡ []
        → option_map_or (λ e. if eqb n.count (length e.declared.arguments) then (let none : List Name = [] in none) else n.head ∷ []) (look_up bytes entries_of n.head) [] ≡ []
        → HeadSymbol n ⊎ HeadVariable n
    classify apart_names n u w = grind (arith, nat_tests, find-append, in_symbols, variables_by, apart, in_variables, variable_names)

-- ---- limits

pub option_empty : {A : Type 0} (o : Option A) → option_to_list o ≡ [] → o ≡ None
option_empty o h = grind (arith, nat_tests)

none_past : {A : Type 0} (xs : List A) (k : ℕ) → slice_get xs k ≡ None → length xs ≤ k
none_past [] k h = omega arith
none_past (x ∷ xs) k h = grind (arith, nat_tests, slice_get-get_or (x ∷ xs) k x)

pub within_most : {A : Type 0} (before : ℕ) (xs : List A) → before ≤ most → first_past before xs ≡ None → before + length xs ≤ most
within_most before xs l h = grind (arith, nat_tests, none_past)

-- the arguments of declarations are few
few_named : (names : List Name) (arguments : List Name) (sort : Name) → nat_le (length arguments) most_arguments ≡ true → list_all few_arguments (map (λ n. declared n arguments sort) names) ≡ true
few_named [] arguments sort h = refl
few_named (n ∷ names) arguments sort h = λ i. h i && few_named names arguments sort h i

pub few_declared : (ds : List Declaration) → flat_map (λ d. option_to_list (slice_get d.arguments 16)) ds ≡ [] → list_all few_arguments (flat_map symbols_of_declaration ds) ≡ true
few_declared [] h = refl
few_declared (d ∷ ds) h = grind (arith, nat_tests, none_past d.arguments 16, option_empty, left_empty, right_empty, few_named d.names d.arguments d.sort, few_declared ds, list_all-append)

pub all_pair : {A : Type 0} (P Q : A → Type 0) (xs : List A) → All P xs → All Q xs → All (λ x. P x × Q x) xs
all_pair P Q xs p q = λ k d l. (p k d l, q k d l)

pub all_mapped : {A B : Type 0} (P : B → Type 0) (f : A → B) (xs : List A) → All P (map f xs) → All (λ x. P (f x)) xs
all_mapped P f [] h = All-nil (λ x. P (f x))
all_mapped P f (x ∷ xs) h = All-cons (λ x. P (f x)) x xs (All-head P (f x) (map f xs) h) (all_mapped P f xs (All-tail P (f x) (map f xs) h))

module _ (bytes : List ℕ) where
  -- a symbol that is known has few arguments
  few_known : (w : List ℕ) (c : ℕ) (ds : List Declared) → list_any (same_symbol (named w c)) (named_in bytes ds) ≡ true → list_all few_arguments ds ≡ true → nat_le c most_arguments ≡ true
  few_known w c [] h f = absurd cc
  few_known w c (d ∷ ds) h f = grind (arith, nat_tests, few_known w c ds)

  -- each node's head is among the heads
  pub heads_among : (nodes : List Node) → All (λ n. is_among bytes (heads nodes) n.head ≡ true) nodes
  heads_among [] = All-nil (λ n. is_among bytes [] n.head ≡ true)
  heads_among (m ∷ nodes) = grind (arith, nat_tests, heads_among nodes, or_left (same_text bytes m.head m.head) (is_among bytes (heads nodes) m.head) ((bytes_decides (text_of bytes m.head) (text_of bytes m.head)).1 refl))

  -- a variable among the heads of a left side is one of its variables
  module _ (vars : List (List ℕ)) where
    abbrev is_declared : List ℕ → Bool
    is_declared name = list_any (bytes_eq name) vars

    among_variables : (left : List Node) (n : Name) → is_among bytes (heads left) n ≡ true → is_declared (text_of bytes n) ≡ true
        → list_any (bytes_eq (text_of bytes n)) (filter is_declared (map (λ m. text_of bytes m.head) left)) ≡ true
    among_variables [] n h d = absurd cc
    among_variables (m ∷ left) n h d = grind (arith, nat_tests, among_variables left n, bytes_decides (text_of bytes n) (text_of bytes m.head))

  -- ---- the heads of a term are read

  module _ (symbols : List Declared) (s : Specification) (few : list_all few_arguments symbols ≡ true) where
    abbrev declared_by : List (List ℕ)
    declared_by = variables_of bytes s

    abbrev IsHead : Node → Type 0
    IsHead n = HeadSymbol bytes symbols s n ⊎ HeadVariable bytes symbols s n

    symbol_read : (names : List (List ℕ)) (n : Node) → list_any (bytes_eq (text_of bytes n.head)) names ≡ false → HeadSymbol bytes symbols s n → IsRead bytes (named_in bytes symbols) names n
    symbol_read names n absent h = grind (arith, nat_tests, place_if_any (bytes_eq (text_of bytes n.head)) names, symbol_known (named_in bytes symbols) (text_of bytes n.head) n.count, few_known (text_of bytes n.head) n.count symbols h.known)

    module _ (left : List Node) where
      abbrev vars_of : List (List ℕ)
      vars_of = variables_in bytes declared_by left

      pub not_there : (n : Node) → list_any (bytes_eq (text_of bytes n.head)) declared_by ≡ false → list_any (bytes_eq (text_of bytes n.head)) vars_of ≡ false
      not_there n h = grind (arith, nat_tests, all_declared)

      head_read : (n : Node) → IsHead n → (is_variable bytes (entries_of bytes symbols s) n.head ≡ true → is_among bytes (heads left) n.head ≡ true) → IsRead bytes (named_in bytes symbols) vars_of n
      head_read n (inl h) among = symbol_read vars_of n (not_there n h.not_declared) h
      head_read n (inr h) among =
          let there = any_with_names bytes (text_of bytes n.head) [] (filter (λ name. list_any (bytes_eq name) declared_by) (map (λ m. text_of bytes m.head) left)) ∙ among_variables declared_by left n.head (among h.a_variable) h.declared in
          grind (arith, nat_tests, place_if_any (bytes_eq (text_of bytes n.head)) vars_of, there, h.alone)

      pub term_read : (nodes : List Node) → IsWhole nodes → All IsHead nodes → All (λ n. is_variable bytes (entries_of bytes symbols s) n.head ≡ true → is_among bytes (heads left) n.head ≡ true) nodes
          → TermReads bytes (named_in bytes symbols) vars_of nodes
      term_read nodes w h v = record { heads = λ k d l. head_read (get_or nodes k d) (h k d l) (v k d l); whole = w }

    -- a term without variables
    pub ground_read : (nodes : List Node) → IsWhole nodes → All IsHead nodes → All (λ n. is_variable bytes (entries_of bytes symbols s) n.head ≡ false) nodes → TermReads bytes (named_in bytes symbols) [] nodes
    ground_read nodes w h v = record { heads = λ k d l. elim (h k d l) [ inl a ↦ symbol_read [] (get_or nodes k d) refl a | inr a ↦ grind (arith, a.a_variable, v k d l) ]; whole = w }
