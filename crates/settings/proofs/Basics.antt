-- Booleans, lists and options.
use Rattle.std.proofs.Common.{◌≡◌, Bool, true, false, cond, ◌&&◌, ◌||◌, List, [], ◌∷◌, ◌++◌, map, Option, Some, None, refl, sym, ap, ◌∙◌, true≢false}
use Rattle.std.specs.Prelude.{find, option_map}
use Rattle.std.specs.List.{list_any, list_all}
use Rattle.std.proofs.lemmas.Slice.Eq.{bytes_eq-Decides}
use Rattle.settings.specs.declared.options.OptionName.{OptionName}
use Rattle.settings.specs.declared.options.OptionName.TheVariants.{Workers, Fuel, Rows, Depth, Cache, Sizes, Log, Trace, Count, Seats}
use Rattle.settings.specs.Words.{Text, Uses, name_of, is_same, is_given, stands_alone, takes_value}

-- ---- booleans

pub or_false : (b : Bool) → (b || false) ≡ b
or_false true = refl
or_false false = refl

pub neither : (a b : Bool) → (a || b) ≡ false → (a ≡ false) × (b ≡ false)
neither true b e = absurd (true≢false e)
neither false b e = (refl, e)

pub both : (a b : Bool) → (a && b) ≡ true → (a ≡ true) × (b ≡ true)
both true b e = (refl, e)
both false b e = absurd (true≢false (sym e))

pub and_none : (b : Bool) → (b && false) ≡ false
and_none true = refl
and_none false = refl

pub same_tests : (a b : Bool) → (a ≡ true → b ≡ true) → (b ≡ true → a ≡ true) → a ≡ b
same_tests true true f g = refl
same_tests true false f g = sym (f refl)
same_tests false true f g = g refl
same_tests false false f g = refl

pub none_either_way : {X : Type 0} (b : Bool) → cond {A = Option X} b None None ≡ None
none_either_way true = refl
none_either_way false = refl

-- ---- searches

module _ {X Y : Type 0} (p : Y → Bool) (f : X → Y) where
  pub all_pass : ((x : X) → p (f x) ≡ true) → (xs : List X) → list_all p (map f xs) ≡ true
  all_pass h [] = refl
  all_pass h (x ∷ xs) = rw (h x) (all_pass h xs)

  pub none_pass : ((x : X) → p (f x) ≡ false) → (xs : List X) → list_any p (map f xs) ≡ false
  none_pass h [] = refl
  none_pass h (x ∷ xs) = rw (h x) (none_pass h xs)

  pub none_found : ((x : X) → p (f x) ≡ false) → (xs : List X) → find p (map f xs) ≡ None
  none_found h [] = refl
  none_found h (x ∷ xs) = rw (h x) (none_found h xs)

  pub found_among : (xs : List X) → find p (map f xs) ≡ option_map f (find (λ x. p (f x)) xs)
  found_among [] = refl
  found_among (x ∷ xs) = go (p (f x)) (found_among xs)
    where
      go : (b : Bool) → find p (map f xs) ≡ option_map f (find (λ y. p (f y)) xs)
          → cond b (Some (f x)) (find p (map f xs)) ≡ option_map f (cond b (Some x) (find (λ y. p (f y)) xs))
      go true e = refl
      go false e = e

  pub any_among : (xs : List X) → list_any p (map f xs) ≡ list_any (λ x. p (f x)) xs
  any_among [] = refl
  any_among (x ∷ xs) = ap (λ b. p (f x) || b) (any_among xs)

pub none_passes : {X : Type 0} (p : X → Bool) → ((x : X) → p x ≡ false) → (xs : List X) → find p xs ≡ None
none_passes p h [] = refl
none_passes p h (x ∷ xs) = rw (h x) (none_passes p h xs)

pub found_passes : {X : Type 0} (p : X → Bool) (xs : List X) (x : X) → find p xs ≡ Some x → p x ≡ true
found_passes p [] x e = cc
found_passes p (y ∷ ys) x e = go (p y) refl e (found_passes p ys x)
  where
    go : (b : Bool) → p y ≡ b → cond b (Some y) (find p ys) ≡ Some x → (find p ys ≡ Some x → p x ≡ true) → p x ≡ true
    go true t h rest = let same : y ≡ x = cc in rw (← same) t
    go false t h rest = rest h

pub found_in_front : {X : Type 0} (p : X → Bool) (xs ys : List X) (x : X) → find p xs ≡ Some x → find p (xs ++ ys) ≡ Some x
found_in_front p [] ys x e = cc
found_in_front p (z ∷ zs) ys x e = go (p z) e (found_in_front p zs ys x)
  where
    go : (b : Bool) → cond b (Some z) (find p zs) ≡ Some x → (find p zs ≡ Some x → find p (zs ++ ys) ≡ Some x) → cond b (Some z) (find p (zs ++ ys)) ≡ Some x
    go true h rest = h
    go false h rest = rest h

pub found_behind : {X : Type 0} (p : X → Bool) (xs ys : List X) → find p xs ≡ None → find p (xs ++ ys) ≡ find p ys
found_behind p [] ys e = refl
found_behind p (z ∷ zs) ys e = go (p z) e (found_behind p zs ys)
  where
    go : (b : Bool) → cond b (Some z) (find p zs) ≡ None → (find p zs ≡ None → find p (zs ++ ys) ≡ find p ys) → cond b (Some z) (find p (zs ++ ys)) ≡ find p ys
    go true h rest = cc
    go false h rest = rest h

-- a last element that does not pass changes nothing
pub found_without_last : {X : Type 0} (p : X → Bool) (xs : List X) (y : X) → p y ≡ false → find p (xs ++ y ∷ []) ≡ find p xs
found_without_last p [] y e = rw e refl
found_without_last p (z ∷ zs) y e = ap (λ o. cond (p z) (Some z) o) (found_without_last p zs y e)

pub any_found : {X : Type 0} (p : X → Bool) (xs : List X) → list_any p xs ≡ false → find p xs ≡ None
any_found p [] e = refl
any_found p (x ∷ xs) e = let parts = neither (p x) (list_any p xs) e in rw parts.0 (any_found p xs parts.1)

pub any_more : {X : Type 0} (p : X → Bool) (xs : List X) (y : X) → list_any p (xs ++ y ∷ []) ≡ (list_any p xs || p y)
any_more p [] y = or_false (p y)
any_more p (x ∷ xs) y = go (p x) (any_more p xs y)
  where
    go : (b : Bool) → list_any p (xs ++ y ∷ []) ≡ (list_any p xs || p y) → (b || list_any p (xs ++ y ∷ [])) ≡ ((b || list_any p xs) || p y)
    go true e = refl
    go false e = e

-- ---- options by their names

pub same_name : (o : OptionName) → is_same o o ≡ true
same_name o = (bytes_eq-Decides (name_of o) (name_of o)).1 refl

pub same_turned : (o q : OptionName) → is_same o q ≡ is_same q o
same_turned o q = same_tests (is_same o q) (is_same q o)
    (λ e. (bytes_eq-Decides (name_of q) (name_of o)).1 (sym ((bytes_eq-Decides (name_of o) (name_of q)).0 e)))
    (λ e. (bytes_eq-Decides (name_of o) (name_of q)).1 (sym ((bytes_eq-Decides (name_of q) (name_of o)).0 e)))

-- no two options have one name
pub same_is : (o q : OptionName) → is_same o q ≡ true → o ≡ q
same_is Workers Workers e = refl
same_is Workers q e = cc
same_is Fuel Fuel e = refl
same_is Fuel q e = cc
same_is Rows Rows e = refl
same_is Rows q e = cc
same_is Depth Depth e = refl
same_is Depth q e = cc
same_is Cache Cache e = refl
same_is Cache q e = cc
same_is Sizes Sizes e = refl
same_is Sizes q e = cc
same_is Log Log e = refl
same_is Log q e = cc
same_is Trace Trace e = refl
same_is Trace q e = cc
same_is Count Count e = refl
same_is Count q e = cc
same_is Seats Seats e = refl
same_is Seats q e = cc

pub alone_is : (o : OptionName) → stands_alone o ≡ true → o ≡ Count
alone_is Workers e = cc
alone_is Fuel e = cc
alone_is Rows e = cc
alone_is Depth e = cc
alone_is Cache e = cc
alone_is Sizes e = cc
alone_is Log e = cc
alone_is Trace e = cc
alone_is Count e = refl
alone_is Seats e = cc

pub alone_takes : (o : OptionName) → stands_alone o ≡ true → takes_value o ≡ true
alone_takes o e = rw (alone_is o e) refl

-- what is given with one use more
pub given_more : (q : OptionName) (uses : Uses) (o : OptionName) (t : Text) → is_given q (uses ++ (o, t) ∷ []) ≡ (is_given q uses || is_same o q)
given_more q uses o t = any_more (λ u. is_same u.0 q) uses (o, t)

pub not_count : (o : OptionName) → stands_alone o ≡ false → is_same o Count ≡ false
not_count o e = go (is_same o Count) refl
  where
    go : (b : Bool) → is_same o Count ≡ b → b ≡ false
    go true t = let c : true ≡ false = ap stands_alone (sym (same_is o Count t)) ∙ e in absurd (true≢false c)
    go false t = refl
