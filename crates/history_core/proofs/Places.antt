-- Where entries stand, by their keys.
use Rattle.std.proofs.Common.{◌≡◌, ℕ, ◌*◌, ◌+◌, ◌<◌, ◌≤◌, Bool, true, false, List, [], ◌∷◌, refl, arith}
use Rattle.std.specs.List.{AllByRecursion}
use Rattle.std.proofs.lemmas.Bool.Decides.{nat_tests}
use Rattle.history_core.specs.Entry.{Entry, Make, Find, Roots, Collect, is_collect, key, place, is_numbered, Made}
use Rattle.history_core.specs.Chronicle.{precedes, NeverFalls, KeysRise}

-- an entry of a higher place doesn't go before
pub lower_goes_first : (x y : ℕ × Entry) → place y.1 < place x.1 → precedes x y ≡ false
lower_goes_first x y h = grind (arith, nat_tests)

pub made_place : (e : Entry) (n : ℕ) → Made e n → place e ≡ 2 * key e
made_place (Make number head args row) n m = refl
made_place (Find seen head args row) n m = absurd m
made_place (Roots seen names) n m = absurd m
made_place (Collect number kept) n m = absurd m

pub collect_place : (e : Entry) → is_collect e ≡ true → place e ≡ 2 * key e
collect_place (Make number head args row) h = cc
collect_place (Find seen head args row) h = cc
collect_place (Roots seen names) h = cc
collect_place (Collect number kept) h = refl

numbered_place : (e : Entry) → is_numbered e ≡ true → place e ≡ 2 * key e
numbered_place (Make number head args row) h = refl
numbered_place (Find seen head args row) h = cc
numbered_place (Roots seen names) h = cc
numbered_place (Collect number kept) h = refl

other_place : (e : Entry) → is_numbered e ≡ false → place e ≡ 2 * key e + 1
other_place (Make number head args row) h = cc
other_place (Find seen head args row) h = refl
other_place (Roots seen names) h = refl
other_place (Collect number kept) h = cc

follows : (d e : Entry) → (key d ≤ key e) × (is_numbered e ≡ true → key d < key e) → place d ≤ place e
follows d e h = go (is_numbered d) (is_numbered e) refl refl
  where
    go : (a b : Bool) → is_numbered d ≡ a → is_numbered e ≡ b → place d ≤ place e
    go true true p q = let x = numbered_place d p in let y = numbered_place e q in let l = h.0 in omega arith
    go true false p q = let x = numbered_place d p in let y = other_place e q in let l = h.0 in omega arith
    go false true p q = let x = other_place d p in let y = numbered_place e q in let l = h.1 q in omega arith
    go false false p q = let x = other_place d p in let y = other_place e q in let l = h.0 in omega arith

pub rising_never_falls : (es : List Entry) → KeysRise es → NeverFalls es
rising_never_falls [] k = tt
rising_never_falls (e ∷ es) k = (all es k.0, rising_never_falls es k.1)
  where
    all : (ds : List Entry) → AllByRecursion (λ d. (key e ≤ key d) × (is_numbered d ≡ true → key e < key d)) ds → AllByRecursion (λ d. place e ≤ place d) ds
    all [] a = tt
    all (d ∷ ds) a = (follows e d a.0, all ds a.1)
