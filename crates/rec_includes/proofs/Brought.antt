-- What an entry of a specification brings is the material of the specification that it includes.
use Rattle.rec_includes.proofs.Common.{nat_tests, length-append, ◌+◌, ◌≡◌, ℕ, zero, suc, ◌<◌, ◌≤◌, Bool, List, [], ◌∷◌, ◌++◌, append_assoc, append-nil, length, map, fold, take, slice_get, Some, None, refl, sym, ap, ◌∙◌, arith, length-take, length-take-le, option_map_or, map-append, take-map, length-map, slice_get_cases, slice_get_within, Name, Specification, Header, brought, included, header_after, headers_of, place_in, header_names, target}
use Rattle.rec_includes.specs.Material.{material_of}
use Rattle.rec_includes.proofs.Places.{brought_at, material_at}
use Rattle.rec_includes.proofs.Gathered.{headers_counted}

-- ---- places in lists

-- an element of the first of two lists
pub slice_get_left : {X : Type 0} (xs ys : List X) (p : ℕ) → p < length xs → slice_get (xs ++ ys) p ≡ slice_get xs p
slice_get_left [] ys p l = absurd (omega arith)
slice_get_left (x ∷ xs) ys p l = grind (arith, slice_get_left xs ys)

-- the element right after the first of two lists
pub slice_get_seam : {X : Type 0} (xs : List X) (y : X) (p : ℕ) → p ≡ length xs → slice_get (xs ++ y ∷ []) p ≡ Some y
slice_get_seam [] y p e = grind arith
slice_get_seam (x ∷ xs) y p e = grind (arith, slice_get_seam xs y)

-- where there is no element, the list has ended
pub slice_get_none : {X : Type 0} (xs : List X) (p : ℕ) → slice_get xs p ≡ None → length xs ≤ p
slice_get_none xs p e = grind (arith, slice_get_cases xs p)

-- a place is within the list
pub place_within : {A : Type 0} (test : A → Bool) (xs : List A) (p : ℕ) → place_in test xs ≡ Some p → p < length xs
place_within test [] p e = absurd cc
place_within test (x ∷ xs) p e = grind (arith, place_within test xs)

-- ---- headers

headers_named_from : (bytes : List ℕ) (hs : List Header) (xs : List Specification) →
    map (λ h. h.name) (fold (λ headers s. headers ++ header_after bytes headers s ∷ []) hs xs) ≡ map (λ h. h.name) hs ++ header_names xs
headers_named_from bytes hs [] = sym (append-nil (map (λ h. h.name) hs))
headers_named_from bytes hs (s ∷ ss) = grind (arith, nat_tests, headers_named_from bytes (hs ++ header_after bytes hs s ∷ []) ss, map-append, append_assoc)

-- the names of the headers
pub headers_named : (bytes : List ℕ) (xs : List Specification) → map (λ h. h.name) (headers_of bytes xs) ≡ header_names xs
headers_named bytes xs = headers_named_from bytes [] xs

-- there are as many headers as specifications
pub headers_before : (bytes : List ℕ) (xs : List Specification) (n : ℕ) → n ≤ length xs → length (headers_of bytes (take n xs)) ≡ n
headers_before bytes xs n l = headers_counted bytes (take n xs) ∙ length-take-le n xs l

-- a header that is there stays where more are made
header_stays : (bytes : List ℕ) (hs : List Header) (xs : List Specification) (p : ℕ) → p < length hs →
    slice_get (fold (λ headers s. headers ++ header_after bytes headers s ∷ []) hs xs) p ≡ slice_get hs p
header_stays bytes hs [] p l = refl
header_stays bytes hs (x ∷ xs) p l = grind (arith, header_stays bytes (hs ++ header_after bytes hs x ∷ []) xs p, slice_get_left hs (header_after bytes hs x ∷ []) p, length-append)

-- the header of each specification, among those of the first ones after others
header_from : (bytes : List ℕ) (hs : List Header) (xs : List Specification) (n p q : ℕ) (s : Specification) → slice_get xs p ≡ Some s → p < n → q ≡ length hs + p →
    slice_get (fold (λ headers t. headers ++ header_after bytes headers t ∷ []) hs (take n xs)) q
    ≡ Some (header_after bytes (fold (λ headers t. headers ++ header_after bytes headers t ∷ []) hs (take p xs)) s)
header_from bytes hs [] n p q s e l k = absurd cc
header_from bytes hs (x ∷ xs) zero p q s e l k = absurd (omega arith)
header_from bytes hs (x ∷ xs) (suc n) zero q s e l k =
    grind (arith, header_stays bytes (hs ++ header_after bytes hs x ∷ []) (take n xs) q, slice_get_seam hs (header_after bytes hs x) q, length-append hs (header_after bytes hs x ∷ []))
header_from bytes hs (x ∷ xs) (suc n) (suc p) q s e l k =
    let h = hs ++ header_after bytes hs x ∷ [] in
    header_from bytes h xs n p q s e (omega arith) (omega (arith, length-append hs (header_after bytes hs x ∷ [])))

-- the material of a specification among the headers of the first ones
pub material_before : (bytes : List ℕ) (xs : List Specification) (n p : ℕ) → p < n → p < length xs → material_at (headers_of bytes (take n xs)) p ≡ material_of bytes xs p
unfolding material_of
material_before bytes xs n p l m = grind (arith, slice_get_none, header_from)

-- the specification that an entry includes comes before the one with the entry
pub target_before : (bytes : List ℕ) (xs : List Specification) (n : ℕ) (entry : Name) (p : ℕ) → target bytes (header_names xs) n entry ≡ Some p → (p < n) × (p < length xs)
target_before bytes xs n entry p e = grind (arith, place_within, length-take, length-map)

-- what an entry brings is the material of the specification that it includes
pub brought_target : (bytes : List ℕ) (xs : List Specification) (n : ℕ) (entry : Name) →
    brought bytes (headers_of bytes (take n xs)) entry ≡ option_map_or (material_of bytes xs) (target bytes (header_names xs) n entry) []
brought_target bytes xs n entry = grind (arith, brought_at, headers_named, take-map, target_before, material_before)

-- an entry that includes no specification brings nothing
pub brings_nothing : (bytes : List ℕ) (xs : List Specification) (n : ℕ) (entry : Name) → target bytes (header_names xs) n entry ≡ None → brought bytes (headers_of bytes (take n xs)) entry ≡ []
brings_nothing bytes xs n entry e = brought_target bytes xs n entry ∙ ap (λ o. option_map_or (material_of bytes xs) o []) e

-- an entry brings the material of the specification that it includes
pub brings_material : (bytes : List ℕ) (xs : List Specification) (n : ℕ) (entry : Name) (p : ℕ) → target bytes (header_names xs) n entry ≡ Some p →
    brought bytes (headers_of bytes (take n xs)) entry ≡ material_of bytes xs p
brings_material bytes xs n entry p e = brought_target bytes xs n entry ∙ ap (λ o. option_map_or (material_of bytes xs) o []) e

-- the material of a specification: that of those that it includes, and then its own
pub material_is : (bytes : List ℕ) (xs : List Specification) (n : ℕ) (s : Specification) → slice_get xs n ≡ Some s →
    material_of bytes xs n ≡ included bytes (headers_of bytes (take n xs)) s.includes ++ n ∷ []
unfolding material_of
material_is bytes xs n s e = grind (arith, nat_tests, slice_get_within xs n s e, headers_before bytes xs n)

-- a specification that isn't there has no material
pub no_material : (bytes : List ℕ) (xs : List Specification) (n : ℕ) → slice_get xs n ≡ None → material_of bytes xs n ≡ []
unfolding material_of
no_material bytes xs n e = ap (λ o. option_map_or (λ t. (header_after bytes (headers_of bytes (take n xs)) t).material) o []) e
