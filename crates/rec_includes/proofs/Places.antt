-- Places in lists of names, and look-ups by text.
use Rattle.rec_includes.proofs.Common.{nat_tests, arith, ◌≡◌, ℕ, Bool, true, false, cond, List, [], ◌∷◌, ◌++◌, map, slice_get, length, nat_eq, Option, Some, None, refl, sym, ap, subst, ◌∙◌, true≢false, zero, suc, ◌<◌, ◌≤◌, ◌-◌, min, nat_lt, take, length-take, length-append, ◌⊎◌, list_any, option_map_or, is_some, option_to_list, lookup, bytes_eq, Vec, pointwise, bytes_decides, Name, text_of, same_text, Header, brought, place_in, PlacesRise, IsIndexed}
use Rattle.indexmap.specs.IndexMap.{insert_entry}
use Rattle.rec_includes.specs.declared.directory.Directory.TheInside.{Inside}

-- there is a place where one passes
pub is_some_place : {A : Type 0} (test : A → Bool) (xs : List A) → is_some (place_in test xs) ≡ list_any test xs
is_some_place test [] = refl
is_some_place test (x ∷ xs) = grind (arith, is_some_place test xs)

-- no place where none passes
pub no_place : {A : Type 0} (test : A → Bool) (xs : List A) → list_any test xs ≡ false → place_in test xs ≡ None
no_place test xs none = grind (arith, nat_tests, is_some_place test xs)

-- one more that passes only where an earlier one does
pub place_stays : {A : Type 0} (test : A → Bool) (xs : List A) (x : A) → (test x ≡ true → list_any test xs ≡ true) → place_in test (xs ++ x ∷ []) ≡ place_in test xs
place_stays test [] x h = grind arith
place_stays test (y ∷ ys) x h = grind (arith, place_stays test ys x)

-- what was found, else something
abbrev pub or_else : {A : Type 0} → Option A → Option A → Option A
or_else None other = other
or_else (Some x) other = Some x

pub place_more : {A : Type 0} (test : A → Bool) (xs : List A) (x : A) → place_in test (xs ++ x ∷ []) ≡ or_else (place_in test xs) (cond (test x) (Some (length xs)) None)
place_more test [] x = grind arith
place_more test (y ∷ ys) x = grind (arith, place_more test ys x)

pub lookup_more : {K V : Type 0} (test : K → Bool) (es : List (K × V)) (k : K) (v : V) → lookup test (es ++ (k, v) ∷ []) ≡ or_else (lookup test es) (cond (test k) (Some v) None)
lookup_more test [] k v = refl
lookup_more test (e ∷ es) k v = grind (arith, lookup_more test es k v)

pub insert_new : {K V : Type 0} (eq : K → K → Bool) (es : List (K × V)) (k : K) (v : V) → lookup (eq k) es ≡ None → insert_entry eq es k v ≡ es ++ (k, v) ∷ []
insert_new eq [] k v h = refl
insert_new {K} {V} eq (e ∷ es) k v h = grind (arith, insert_new eq es k v)

-- a text is looked up at its first place
abbrev pub Looks : List ℕ → List Name → List (Vec ℕ × ℕ) → Type 0
Looks bytes names es = (q : List ℕ) → lookup (λ k. pointwise nat_eq q k.items) es ≡ place_in (λ n. bytes_eq q (text_of bytes n)) names

-- a name whose text is there changes no place
pub looks_again : (bytes : List ℕ) (names : List Name) (es : List (Vec ℕ × ℕ)) (n : Name) → list_any (same_text bytes n) names ≡ true → Looks bytes names es → Looks bytes (names ++ n ∷ []) es
looks_again bytes names es n there looks q =
    looks q
    ∙ sym (place_stays (λ m. bytes_eq q (text_of bytes m)) names n
    (λ same. subst (λ t. list_any (λ m. bytes_eq t (text_of bytes m)) names ≡ true) (sym ((bytes_decides q (text_of bytes n)).0 same)) there))

-- a new text goes last
pub added_last : (bytes : List ℕ) (names : List Name) (es new : List (Vec ℕ × ℕ)) (n : Name) (k : Vec ℕ) (i : ℕ) →
    list_any (same_text bytes n) names ≡ false → k.items ≡ text_of bytes n →
    new ≡ insert_entry (λ a b. pointwise nat_eq a.items b.items) es k i → Looks bytes names es → new ≡ es ++ (k, i) ∷ []
added_last bytes names es new n k i absent text is looks =
    let none : lookup (λ b. pointwise nat_eq k.items b.items) es ≡ None =
    ap (λ t. lookup (λ b. pointwise nat_eq t b.items) es) text ∙ looks (text_of bytes n) ∙ no_place (same_text bytes n) names absent in
    is ∙ insert_new (λ a b. pointwise nat_eq a.items b.items) es k i none

-- a new text has the place after the others
pub looks_more : (bytes : List ℕ) (names : List Name) (es new : List (Vec ℕ × ℕ)) (n : Name) (k : Vec ℕ) (i : ℕ) →
    k.items ≡ text_of bytes n → i ≡ length names → new ≡ es ++ (k, i) ∷ [] → Looks bytes names es → Looks bytes (names ++ n ∷ []) new
looks_more bytes names es new n k i text place last looks q = grind (arith, lookup_more, place_more)

-- the material of the header at this place, or nothing
abbrev pub material_at : List Header → ℕ → List ℕ
material_at headers place = option_map_or (λ h. h.material) (slice_get headers place) []

-- what an entry brings stands at the place of its name
pub brought_at : (bytes : List ℕ) (headers : List Header) (n : Name) → brought bytes headers n ≡ option_map_or (material_at headers) (place_in (same_text bytes n) (map (λ h. h.name) headers)) []
brought_at bytes [] n = refl
brought_at bytes (h ∷ hs) n = grind (arith, brought_at bytes hs n, nat_tests, bytes_decides)

-- an entry whose text is this one has its first place
pub guessed : (bytes : List ℕ) (names : List Name) (es : List (Vec ℕ × ℕ)) (text : List ℕ) (key : Vec ℕ) (place : ℕ) →
    Looks bytes names es → lookup (λ k. pointwise nat_eq key.items k.items) es ≡ Some place → pointwise nat_eq key.items text ≡ true →
    place_in (λ n. bytes_eq text (text_of bytes n)) names ≡ Some place
guessed bytes names es text key place looks found same = grind (arith, nat_tests, bytes_decides key.items text, looks key.items)

-- ---- places in the front of a list of names, and entries whose places rise

-- a place, where it is less than this count
abbrev pub below : ℕ → Option ℕ → Option ℕ
below count None = None
below count (Some p) = cond (nat_lt p count) (Some p) None

below_none : (o : Option ℕ) → None ≡ below zero o
below_none o = grind arith

-- the place in a front is the place, where it is in the front
pub place_in_front : {A : Type 0} (test : A → Bool) (count : ℕ) (xs : List A) → place_in test (take count xs) ≡ below count (place_in test xs)
place_in_front test zero xs = below_none (place_in test xs)
place_in_front test (suc c) [] = refl
place_in_front test (suc c) (x ∷ xs) = grind (arith, place_in_front test c xs)

-- a last entry that comes after the front is not looked up in it
pub below_pop : {K : Type 0} (test : K → Bool) (count : ℕ) (es : List (K × ℕ)) (k : K) (v : ℕ) → count ≤ v →
    below count (lookup test (es ++ (k, v) ∷ [])) ≡ below count (lookup test es)
below_pop test count es k v h = grind (arith, lookup_more)

rise_within : (from to : ℕ) (es : List (Vec ℕ × ℕ)) → PlacesRise from to es → from ≤ to
rise_within from to [] r = r
rise_within from to (e ∷ es) r = let h = rise_within (suc e.1) to es r.1 in let l = r.0 in omega (arith, h, l)

-- as far as a greater place
rise_on : (from to further : ℕ) (es : List (Vec ℕ × ℕ)) → to ≤ further → PlacesRise from to es → PlacesRise from further es
rise_on from to further [] l r = omega arith
rise_on from to further (e ∷ es) l r = (r.0, rise_on (suc e.1) to further es l r.1)

-- one entry more
rise_more : (from to : ℕ) (es : List (Vec ℕ × ℕ)) (k : Vec ℕ) → PlacesRise from to es → PlacesRise from (suc to) (es ++ (k, to) ∷ [])
rise_more from to [] k r = grind arith
rise_more from to (e ∷ es) k r = (r.0, rise_more (suc e.1) to es k r.1)

-- one name more, whose text is there or goes last
module _ (names : List Name) (n : Name) (es : List (Vec ℕ × ℕ)) (rising : PlacesRise 0 (length names) es) where
  pub rises_again : PlacesRise 0 (length (names ++ n ∷ [])) es
  rises_again = let l = length-append names (n ∷ []) in rise_on 0 (length names) _ es (omega (arith, l)) rising

  pub rises_more : (new : List (Vec ℕ × ℕ)) (k : Vec ℕ) (i : ℕ) → i ≡ length names → new ≡ es ++ (k, i) ∷ [] → PlacesRise 0 (length (names ++ n ∷ [])) new
  rises_more new k i place last = grind (arith, nat_tests, length-append names, rise_more 0 (length names))

-- without the last entry
rise_less : (from to : ℕ) (es : List (Vec ℕ × ℕ)) (e : Vec ℕ × ℕ) → PlacesRise from to (es ++ e ∷ []) → PlacesRise from to es
rise_less from to [] e r = let h = rise_within (suc e.1) to [] r.1 in let l = r.0 in omega (arith, h, l)
rise_less from to (d ∷ es) e r = (r.0, rise_less (suc d.1) to es e r.1)

-- as far as a front with the last place
rise_last : (from to count i : ℕ) (es : List (Vec ℕ × ℕ)) (e : Vec ℕ × ℕ) → suc i ≡ length es → slice_get es i ≡ Some e → e.1 < count → PlacesRise from to es → PlacesRise from (min count to) es
rise_last from to count i [] e l at h r = absurd (omega arith)
rise_last from to count zero (d ∷ []) e l at h r = (r.0, let same : d ≡ e = cc in let f = ap (λ x. x.1) same in let g = r.1 in omega (arith, f, g, h))
rise_last from to count zero (d ∷ c ∷ es) e l at h r = absurd (omega arith)
rise_last from to count (suc i) (d ∷ es) e l at h r = (r.0, rise_last (suc d.1) to count i es e (omega arith) at h r.1)

-- what is looked up is less
found_within : (test : Vec ℕ → Bool) (from to : ℕ) (es : List (Vec ℕ × ℕ)) → PlacesRise from to es → below to (lookup test es) ≡ lookup test es
found_within test from to [] r = refl
found_within test from to (e ∷ es) r = grind (arith, nat_tests, found_within test (suc e.1) to es r.1, rise_within (suc e.1) to es r.1)

get_last : {A : Type 0} (xs : List A) (x : A) → slice_get (xs ++ x ∷ []) (length xs) ≡ Some x
get_last [] x = refl
get_last (y ∷ ys) x = get_last ys x

-- what is taken from the end is what was last there
popped : {A : Type 0} (xs ys : List A) (o : Option A) (x : A) (n : ℕ) → xs ≡ ys ++ option_to_list o → n ≡ length xs → slice_get xs (n - 1) ≡ Some x → is_some o ≡ true → xs ≡ ys ++ x ∷ []
popped xs ys None x n is count last some = absurd (true≢false (sym some))
popped xs ys (Some y) x n is count last some = grind (arith, nat_tests, length-append ys (y ∷ []), get_last ys y)

-- after the last entry, which isn't in the front, was taken
module _ (es new : List (Vec ℕ × ℕ)) (o : Option (Vec ℕ × ℕ)) (e : Vec ℕ × ℕ) (n : ℕ) (is : es ≡ new ++ option_to_list o) (counted : n ≡ length es) (last : slice_get es (n - 1) ≡ Some e) (some : is_some o ≡ true) where
  pub popped_found : (test : Vec ℕ → Bool) (count : ℕ) → count ≤ e.1 → below count (lookup test new) ≡ below count (lookup test es)
  popped_found test count h = sym (ap (λ xs. below count (lookup test xs)) (popped es new o e n is counted last some) ∙ below_pop test count new e.0 e.1 h)

  pub popped_rises : (to : ℕ) → PlacesRise 0 to es → PlacesRise 0 to new
  popped_rises to r = rise_less 0 to new e (subst (PlacesRise 0 to) (popped es new o e n is counted last some) r)

pub no_entries : {A : Type 0} (xs : List A) → (0 < length xs → false ≡ true) → xs ≡ []
no_entries [] h = refl
no_entries (x ∷ xs) h = absurd (true≢false (sym (h (omega arith))))

-- entries that give the places of a front, whether it is their last that is in it, or there are none
module _ (bytes : List ℕ) (names : List Name) (count : ℕ) (es : List (Vec ℕ × ℕ)) (rising : PlacesRise 0 (length names) es) where
  pub front_rises : (es ≡ []) ⊎ ((i : ℕ) × (e : Vec ℕ × ℕ) × (suc i ≡ length es) × (slice_get es i ≡ Some e) × (e.1 < count)) → PlacesRise 0 (length (take count names)) es
  front_rises h = grind (arith, length-take, rise_last)

  pub front_found : PlacesRise 0 (length (take count names)) es →
      ((q : List ℕ) → below count (lookup (λ k. pointwise nat_eq q k.items) es) ≡ below count (place_in (λ n. bytes_eq q (text_of bytes n)) names)) → Looks bytes (take count names) es
  front_found rises found q = grind (arith, nat_tests, length-take count names, found_within, rise_on 0 (length (take count names)) count, place_in_front)

  -- so the names and their places are a front of those before
  pub fronted : ((q : List ℕ) → below count (lookup (λ k. pointwise nat_eq q k.items) es) ≡ below count (place_in (λ n. bytes_eq q (text_of bytes n)) names))
      → (es ≡ []) ⊎ ((i : ℕ) × (e : Vec ℕ × ℕ) × (suc i ≡ length es) × (slice_get es i ≡ Some e) × (e.1 < count))
      → (d : Inside) → d.text.now ≡ bytes → d.names.items ≡ take count names → d.places.entries ≡ es → IsIndexed d
  fronted found h d text is same = grind (arith, nat_tests, front_rises h, front_found (front_rises h) found)
