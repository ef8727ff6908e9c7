-- What a head stands for, by cases.
use Rattle.rec_check.proofs.Common.{slice_get_within, get_or_from_slice_get, App, Holds, IsPool, [], ◌≡◌, ℕ, ◌<◌, ◌≤◌, Bool, true, false, List, ◌∷◌, ◌++◌, length, Option, Some, None, is_some, refl, sym, ap, ◌∙◌, arith, position, get_or, slice_get, IfNone, ◌⊎◌, All, subst, list_any, list_all, nat_tests, bytes_decides, slice_get-get_or, false_from_ne_true, Item, App, Var, Named, named, Lacks, same_symbol, symbol_item, item_by, Scope, all_of, item_in, position-Some, Node, is_plain, is_item_below, widest_of, common_steps}
use Rattle.std.proofs.lemmas.List.Sums.{position_or_len_is}
use Rattle.term_model.specs.declared.Symbol.{Symbol}

-- ---- where a test first passes, by recursion

module _ {X : Type 0} (p : X → Bool) where
  -- there is a place exactly where something passes
  pub place_if_any : (xs : List X) → is_some (position p xs) ≡ list_any p xs
  place_if_any [] = refl
  place_if_any (x ∷ xs) = grind (arith, nat_tests, place_if_any xs)

  -- what comes last moves no place
  pub stays_first : (xs ys : List X) (i : ℕ) → position p xs ≡ Some i → position p (xs ++ ys) ≡ Some i
  stays_first [] ys i e = absurd (let bad : None ≡ Some i = e in cc)
  stays_first (x ∷ xs) ys i e = grind (arith, nat_tests, stays_first xs ys)

  -- what is new is at the end
  pub new_at_end : (xs : List X) (y : X) (ys : List X) → list_any p xs ≡ false → p y ≡ true → position p (xs ++ y ∷ ys) ≡ Some (length xs)
  new_at_end [] y ys none passes = grind (arith, nat_tests)
  new_at_end (x ∷ xs) y ys none passes = grind (arith, nat_tests, new_at_end xs y ys)

-- ---- finding a symbol in a pool, and a name among names

-- the first place at which a test passes
position_is : {X : Type 0} (p : X → Bool) (xs : List X) (i : ℕ) (x : X) → slice_get xs i ≡ Some x → p x ≡ true
    → ((k : ℕ) (y : X) → k < i → slice_get xs k ≡ Some y → p y ≡ false) → position p xs ≡ Some i
position_is {X} p xs i x at passes before = grind (arith, nat_tests, slice_get_within xs i x at, slice_get-get_or xs, get_or_from_slice_get xs i x x at, position_or_len_is p xs i x)

-- no place, where nothing passes
pub position_none : {X : Type 0} (p : X → Bool) (xs : List X) (d : X) → ((k : ℕ) (y : X) → slice_get xs k ≡ Some y → p y ≡ false) → position p xs ≡ None
position_none {X} p xs d fails = grind (arith, nat_tests, slice_get-get_or xs, position_or_len_is p xs (length xs) d)

-- two symbols are the same exactly where the test says so
pub same_from : (s t : Named) → same_symbol s t ≡ true → s ≡ t
same_from s t h = grind (arith, nat_tests, bytes_decides s.name t.name)

differs : (s t : Named) → (s ≡ t → ⊥) → same_symbol s t ≡ false
differs s t h = false_from_ne_true (same_symbol s t) (λ e. h (same_from s t e))

held_at : (pool : List Named) (f : Symbol) (s : Named) → IsPool pool → Holds pool f s → position (same_symbol s) pool ≡ Some f.0
held_at pool f s is held = grind (arith, nat_tests, position_is, bytes_decides s.name s.name, differs)

pub lacking : (pool : List Named) (s : Named) → Lacks pool s → position (same_symbol s) pool ≡ None
lacking pool s lacks = position_none (same_symbol s) pool s (λ k t at. differs s t (λ e. lacks k (at ∙ ap Some (sym e))))

-- where a head stands for a symbol, it has no more arguments than may be, and the symbol is found
module _ (pool : List Named) (name : List ℕ) (count : ℕ) (h : is_some (symbol_item pool name count) ≡ true) where
  pub is_found : (o : Option Symbol) → IfNone o (Lacks pool (named name count)) → is_some o ≡ true
  is_found o lacks = grind (arith, nat_tests, lacking)

  pub item_found : (f : Symbol) → IsPool pool → Holds pool f (named name count) → symbol_item pool name count ≡ Some (App f count)
  item_found f is held = grind (arith, nat_tests, held_at)

-- a head with arguments that stands for something is no variable
pub no_variable : (symbols : List Named) (name : List ℕ) (count : ℕ) (o : Option ℕ) → is_some (item_by symbols name count o) ≡ true → 0 < count → None ≡ o
no_variable symbols name count o h some = grind (arith, nat_tests)

-- the head is a symbol
pub record IsSymbol (symbols : List Named) (name : List ℕ) (count : ℕ) (i : Item) : Type 0 where
  pub number : ℕ
  pub at : position (same_symbol (named name count)) symbols ≡ Some number
  pub is : i ≡ App (record { 0 = number }) count

pub symbol_cases : (symbols : List Named) (name : List ℕ) (count : ℕ) (i : Item) → symbol_item symbols name count ≡ Some i → IsSymbol symbols name count i
symbol_cases symbols name count i h = grind (arith, nat_tests)

-- the head is a variable
pub record IsVariable (o : Option ℕ) (i : Item) : Type 0 where
  pub number : ℕ
  pub at : o ≡ Some number
  pub is : i ≡ Var number

pub head_cases : (symbols : List Named) (name : List ℕ) (count : ℕ) (o : Option ℕ) (i : Item) → item_by symbols name count o ≡ Some i
    → IsVariable o i ⊎ ((o ≡ None) × IsSymbol symbols name count i)
head_cases symbols name count o i h = grind (arith, nat_tests)

-- a symbol's number of arguments is at most the greatest
arity_at : (symbols : List Named) (f : ℕ) (d : Named) → f < length symbols → (get_or symbols f d).arity ≤ widest_of symbols
arity_at [] f d l = absurd (omega arith)
arity_at (s ∷ ss) f d l = grind (arith, arity_at ss)

pub count_within : (symbols : List Named) (name : List ℕ) (count f : ℕ) → position (same_symbol (named name count)) symbols ≡ Some f → count ≤ widest_of symbols
count_within symbols name count f at =
    let s = named name count in
    let p = position-Some (same_symbol s) symbols f s at in
    grind (arith, same_from s (get_or symbols f s) p.1, arity_at symbols f s p.0)

-- what each head stands for is a variable below their count, or a symbol over no more than the greatest
-- number of arguments
module _ (scope : Scope) where
  abbrev vars : ℕ
  vars = length scope.variables

  pub one_below : (n : Node) (i : Item) → item_in scope n ≡ Some i → is_item_below vars i ≡ true
  one_below n i h = grind (arith, nat_tests)

  pub one_plain : (n : Node) (i : Item) → item_in scope n ≡ Some i → is_plain (widest_of scope.symbols) i ≡ true
  one_plain n i h = grind (arith, nat_tests, head_cases, count_within)

-- what holds of what each of a list spells
module _ {X Y : Type 0} (f : X → Option Y) where
  pub all_pass : (p : Y → Bool) → ((x : X) (y : Y) → f x ≡ Some y → p y ≡ true) → (xs : List X) (ys : List Y) → all_of f xs ≡ Some ys → list_all p ys ≡ true
  all_pass p each [] ys h = let e : ys ≡ [] = cc in ap (list_all p) e
  all_pass p each (x ∷ xs) ys h = grind (arith, nat_tests, all_pass p each xs)

  pub all_hold : (P : Y → Type 0) → ((x : X) (y : Y) → f x ≡ Some y → P y) → (xs : List X) (ys : List Y) → all_of f xs ≡ Some ys → All P ys
  all_hold P each [] ys h = let e : [] ≡ ys = cc in subst (All P) e (λ k d l. absurd (omega arith))
  all_hold P each (x ∷ xs) ys h = grind (arith, nat_tests, all_hold P each xs)

-- finding the symbol of a head
pub ruleset symbols_found = (common_steps, is_found, item_found)
