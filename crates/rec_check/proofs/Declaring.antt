-- Names and symbols added one after another.
use Rattle.rec_check.proofs.Common.{[], nat_tests, arith, ◌≡◌, ℕ, ◌+◌, ◌<◌, length, get_or, drop, List, ◌∷◌, ◌++◌, Option, Some, None, true, false, is_some, refl, sym, ap, ◌∙◌, suc, Bool, cond, ◌||◌, map, position, zero, not, slice_get, max, Result, OnOk, option_and_then, if◌then◌else◌, nat_le, option_map, append_assoc, at_drop_more, map-append, after, all_of, same_symbol, most_arguments, list_any, flat_map, bytes_eq, Name, text_of, is_among, Listing, listing, texts, with_new, place_in, variable, Declared, with_name, with_names, Named, named, most_symbols, Lacks, Node, Specification, named_in, named_by, may_be_added, with_symbol, with_symbols, widest_of, symbol_entry, entry_of, entries_of, drop_at, Rule, rule_in, rules_in, bytes_decides, common_steps}
use Rattle.std.proofs.Common.{filter, nat_lt}
use Rattle.rec_reader.specs.declared.syntax_tree.Variables.{Variables}
use Rattle.rec_includes.specs.Material.{variables_of}
use Rattle.rec_offences.specs.declared.signatures.Signature.{Signature}
use Rattle.rec_reader.specs.declared.syntax_tree.Rule as written_rule

-- ---- spelling each of a list, one after another

module _ {X Y : Type 0} (f : X → Option Y) (x : X) (xs : List X) (ys : List Y) where
  pub goes_on : (y : Y) → f x ≡ Some y → after ys (all_of f (x ∷ xs)) ≡ after (ys ++ y ∷ []) (all_of f xs)
  goes_on y e = grind (arith, nat_tests, append_assoc)

  pub stops : f x ≡ None → after ys (all_of f (x ∷ xs)) ≡ None
  stops e = ap (λ o. after ys (option_and_then (λ z. option_map (λ more. z ∷ more) (all_of f xs)) o)) e

-- where all is spelled, so is a part without which nothing is
pub is_part : {Y Z : Type 0} (one : Option Y) (all : Option Z) → (one ≡ None → all ≡ None) → is_some all ≡ true → is_some one ≡ true
is_part one all h e = grind (arith, nat_tests)

-- a loop over a list, at one of its places
module _ {X Y : Type 0} (f : X → Option Y) (xs : List X) (i : ℕ) (ys : List Y) (total : Option (List Y)) (inv : after ys (all_of f (drop i xs)) ≡ total) where
  module _ (d : X) (l : i < length xs) where
    here : after ys (all_of f (get_or xs i d ∷ drop (i + 1) xs)) ≡ total
    here = sym (at_drop_more (λ rest. after ys (all_of f rest)) xs i d l) ∙ inv

    pub next : (y : Y) → f (get_or xs i d) ≡ Some y → after (ys ++ y ∷ []) (all_of f (drop (i + 1) xs)) ≡ total
    next y e = sym (goes_on f (get_or xs i d) (drop (i + 1) xs) ys y e) ∙ here

    pub one_spelled : is_some total ≡ true → is_some (f (get_or xs i d)) ≡ true
    one_spelled = is_part (f (get_or xs i d)) total (λ e. sym here ∙ stops f (get_or xs i d) (drop (i + 1) xs) ys e)

-- ---- the names of a directory, by their texts

module _ (bytes : List ℕ) where
  pub place_of_name : (test : List ℕ → Bool) (names : List Name) → place_in (λ n. test (text_of bytes n)) names ≡ position test (texts (listing bytes names))
  place_of_name test [] = refl
  place_of_name test (n ∷ ns) = grind (arith, nat_tests, place_of_name test ns)

  pub any_name : (test : List ℕ → Bool) (names : List Name) → list_any (λ n. test (text_of bytes n)) names ≡ list_any test (texts (listing bytes names))
  any_name test [] = refl
  any_name test (n ∷ ns) = ap (λ b. test (text_of bytes n) || b) (any_name test ns)

  -- the names of declared variables
  one_list : (sort : Name) (names : List Name) → map (λ n. text_of bytes n) names ≡ map (λ v. text_of bytes v.name) (map (λ n. variable n sort) names)
  one_list sort [] = refl
  one_list sort (n ∷ names) = ap (λ more. text_of bytes n ∷ more) (one_list sort names)

  pub all_lists : (vs : List Variables) → texts (listing bytes (flat_map (λ v. v.names) vs)) ≡ map (λ v. text_of bytes v.name) (flat_map variables_of vs)
  all_lists [] = refl
  all_lists (v ∷ vs) = grind (arith, nat_tests, all_lists vs, map-append, one_list v.sort v.names)

-- one more name, if its text isn't there
module _ (l : Listing) (n : Name) where
  pub same_bytes : (with_new l n).bytes ≡ l.bytes
  same_bytes = grind (arith, nat_tests)

  pub new_text : texts (with_new l n) ≡ with_name (texts l) (text_of l.bytes n)
  new_text = grind (arith, nat_tests, any_name l.bytes (bytes_eq (text_of l.bytes n)) l.names, map-append (λ n. text_of l.bytes n) l.names (n ∷ []))

-- ---- the variables of a left side

module _ (known : Listing) (left : List Node) (i : ℕ) (d : Node) (l : i < length left) (now : Listing) (b : Bool) (is : b ≡ is_among known.bytes known.names (get_or left i d).head) where
  abbrev this : Name
  this = (get_or left i d).head

  abbrev ahead : Listing → List Node → List (List ℕ)
  ahead names nodes = with_names (texts names) (filter (λ name. list_any (bytes_eq name) (texts known)) (map (λ n. text_of known.bytes n.head) nodes))

  abbrev rest : List (List ℕ)
  rest = filter (λ n. list_any (bytes_eq n) (texts known)) (map (λ n. text_of known.bytes n.head) (drop (i + 1) left))

  abbrev with_this : Bool → List (List ℕ)
  with_this passes = with_names (texts now) (cond passes (text_of known.bytes this ∷ rest) rest)

  step : ahead now (drop i left) ≡ with_this b
  step = at_drop_more (ahead now) left i d l ∙ ap with_this (sym (is ∙ any_name known.bytes (bytes_eq (text_of known.bytes this)) known.names))

  pub takes : (more : Listing) → now.bytes ≡ known.bytes → b ≡ true → more ≡ with_new now this → ahead more (drop (i + 1) left) ≡ ahead now (drop i left)
  takes more same passes e = grind (arith, nat_tests, new_text, step)

  pub stands_in : (more : Listing) → now.bytes ≡ known.bytes → more ≡ with_new now this → more.bytes ≡ known.bytes
  stands_in more same e = ap (λ (m : Listing). m.bytes) e ∙ same_bytes now this ∙ same

  pub passes_over : b ≡ false → ahead now (drop (i + 1) left) ≡ ahead now (drop i left)
  passes_over fails = sym (step ∙ ap with_this fails)

-- ---- one more symbol

-- where a symbol may come next, it is none of those that are there, has no more arguments than may be, and there is room
module _ (pool : List Named) (s : Named) (h : is_some (with_symbol pool s) ≡ true) where
  may : may_be_added pool s ≡ true
  may = grind (arith, nat_tests)

  pub lacks : Lacks pool s
  lacks i at = not_among pool i at (grind (arith, nat_tests, nat_le, most_arguments, list_any, same_symbol, nat_lt, most_symbols, may))
    where
      not_among : (ts : List Named) (i : ℕ) → slice_get ts i ≡ Some s → not (list_any (same_symbol s) ts) ≡ true → ⊥
      not_among [] i at e = cc
      not_among (t ∷ ts) zero at e = grind (arith, nat_tests, bytes_decides)
      not_among (t ∷ ts) (suc i) at e = grind (arith, nat_tests, not_among ts i at)

  pub comes_last : (new : List Named) → new ≡ pool ++ s ∷ [] → with_symbol pool s ≡ Some new
  comes_last new e = ap (λ b. if b then Some (pool ++ s ∷ []) else None) may ∙ ap Some (sym e)

pub widest_of_push : (ss : List Named) (s : Named) → widest_of (ss ++ s ∷ []) ≡ max (widest_of ss) s.arity
widest_of_push [] s = omega arith
widest_of_push (t ∷ ss) s = let r = widest_of_push ss s in omega arith

-- ---- the symbols of a material, one after another

pub entries_named : (text : List ℕ) (ds : List Declared) → map (named_by text) (map symbol_entry ds) ≡ named_in text ds
entries_named text [] = refl
entries_named text (d ∷ ds) = ap (λ more. named (text_of text d.name) (length d.arguments) ∷ more) (entries_named text ds)

pub all_declared : (text : List ℕ) (ds : List Declared) (xs : List Signature) (pool : List Named) → entries_of xs ≡ map symbol_entry ds → pool ≡ [] →
    with_symbols pool (map (named_by text) (entries_of xs)) ≡ with_symbols [] (named_in text ds)
all_declared text ds xs pool listed none = (λ i. with_symbols (none i) (map (named_by text) (listed i))) ∙ ap (with_symbols []) (entries_named text ds)

-- from a place on
module _ (text : List ℕ) (items : List Signature) (i : ℕ) (s : Signature) (pool : List Named) (total : Option (List Named)) (l : i < length items) (is : s ≡ get_or items i s)
    (was : with_symbols pool (map (named_by text) (entries_of (drop i items))) ≡ total) where
  pub symbol_known_next : is_some total ≡ true → is_some (with_symbol pool (named_by text (entry_of s))) ≡ true
  symbol_known_next h = grind (arith, nat_tests, drop_at)

  pub symbol_next : (new : List Named) → with_symbol pool (named_by text (entry_of s)) ≡ Some new → with_symbols new (map (named_by text) (entries_of (drop (i + 1) items))) ≡ total
  symbol_next new e = grind (arith, nat_tests, drop_at)

-- ---- the rules of a specification, with the variables that it declares

module _ (old : List Rule) (text : List ℕ) (symbols : List Named) (s : Specification) (declared : Listing) (list : List written_rule.Rule)
    (e : declared ≡ listing text (flat_map (λ v. v.names) s.variables)) (f : list ≡ s.rules) where
  pub of_rules : after old (all_of (λ r. rule_in declared.bytes symbols (texts declared) r) list) ≡ after old (rules_in text symbols s)
  of_rules =
      (λ i. after old (all_of (λ r. rule_in (e i).bytes symbols (texts (e i)) r) (f i)))
      ∙ ap (λ names. after old (all_of (λ r. rule_in text symbols names r) s.rules)) (all_lists text s.variables)

  pub on_rules : {U E : Type 0} (result : Result U E) (made : List Rule) → OnOk result (after old (all_of (λ r. rule_in declared.bytes symbols (texts declared) r) list) ≡ Some made) → OnOk result (after old (rules_in text symbols s) ≡ Some made)
  on_rules result made h = grind (arith, nat_tests, of_rules)

-- adding a symbol, and all symbols of a material
pub ruleset adding = (common_steps, lacks, comes_last, widest_of_push)

pub ruleset declaring = (common_steps, symbol_known_next, symbol_next)
