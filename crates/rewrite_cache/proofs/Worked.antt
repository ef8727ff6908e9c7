-- The worked cached lists.
use Rattle.std.proofs.Common.{◌≡◌, List, [], ◌∷◌, ◌++◌, refl, arith, drop, false}
use Rattle.std.specs.Prelude.{Contains}
use Rattle.std.proofs.lemmas.List.Elements.{Contains-append_left, Contains-append_right}
use Rattle.term_model.specs.Tree.{Tree, among}
use Rattle.term_model.proofs.Equality.{among_from_contains, contains_from_among}
use Rattle.rewrite_model.specs.Rule.{Rule}
use Rattle.rewrite_model.specs.Evaluation.{Point, evaluation}
use Rattle.rewrite_model.specs.Built.{trees_at}
use Rattle.rewrite_model.specs.Samples.{x, z, s, a, b, f, g, rule}
use Rattle.rewrite_model.specs.Rows.{sums, one_and_one}
use Rattle.rewrite_cache.specs.Cached.{IsCached, IsKnown, IsLeastRoom, Nothing, Whole, LeftOut, AreNew}
use Rattle.rewrite_cache.proofs.Alike.{is_known}
use Rattle.rewrite_cache.proofs.Joined.{all_built, joined, new_built}
use Rattle.rewrite_cache.proofs.Least.{no_less_serves}

never : (t : Tree) (ts : List Tree) → among t ts ≡ false → Contains ts t → ⊥
never t ts e k = let h = among_from_contains t ts k in cc

abbrev noted : List Point
noted = (evaluation sums one_and_one 1000 1000).notes

abbrev pub shorter : List Tree
shorter = z ∷ s z ∷ z ∷ s z ∷ one_and_one ∷ []

-- the second time 1 + 1 is known
again : (earlier : List Tree) → Contains earlier one_and_one → IsCached sums earlier noted shorter
again earlier k =
    Whole (Whole (Whole (Whole (LeftOut {inside = drop 5 noted} {points = []} (Contains-append_left (((earlier ++ z ∷ []) ++ s z ∷ []) ++ z ∷ []) (s z ∷ []) one_and_one (Contains-append_left ((earlier ++ z ∷ []) ++ s z ∷ []) (z ∷ []) one_and_one (Contains-append_left (earlier ++ z ∷ []) (s z ∷ []) one_and_one (Contains-append_left earlier (z ∷ []) one_and_one k))))
    (record { given = []; kept = []; fuel = 1000; value = s (s z); left = 998; run = refl })
    Nothing))))

here : (front : List Tree) (t : Tree) (back : List Tree) → Contains (front ++ t ∷ back) t
here front t back = Contains-append_right front (t ∷ back) t (0, omega arith, refl)

known : Contains (trees_at noted) one_and_one
known = contains_from_among one_and_one (trees_at noted) refl

abbrev pub four_times : List Tree
four_times = trees_at noted ++ shorter ++ shorter ++ shorter ++ []

pub four_cached : IsCached sums [] (noted ++ noted ++ noted ++ noted ++ []) four_times
four_cached =
    joined {points = noted} {trees = trees_at noted} (shorter ++ shorter ++ shorter ++ []) (noted ++ noted ++ noted ++ []) (all_built sums [] noted)
    (joined {points = noted} {trees = shorter} (shorter ++ shorter ++ []) (noted ++ noted ++ []) (again (trees_at noted) known)
    (joined {points = noted} {trees = shorter} (shorter ++ []) (noted ++ []) (again (trees_at noted ++ shorter) (Contains-append_left (trees_at noted) shorter one_and_one known))
    (joined {points = noted} {trees = shorter} [] [] (again ((trees_at noted ++ shorter) ++ shorter) (Contains-append_left (trees_at noted ++ shorter) shorter one_and_one (Contains-append_left (trees_at noted) shorter one_and_one known))) Nothing)))

abbrev chain : List Rule
chain = rule (f x) (g x) 1 ∷ rule (g x) b 1 ∷ []

abbrev chained : List Point
chained = (evaluation chain (f a) 9 99).notes

chained_new : AreNew [] (chained ++ [])
chained_new = (never a [] refl, (never (f a) (a ∷ []) refl, (never (g a) (a ∷ f a ∷ []) refl, (never b (a ∷ f a ∷ g a ∷ []) refl, tt))))

pub first_whole : (trees : List Tree) → IsCached chain [] (chained ++ []) trees → trees ≡ a ∷ f a ∷ g a ∷ b ∷ []
first_whole trees c = new_built {points = chained ++ []} chained_new c

pub second_shorter : IsCached chain [] (chained ++ chained ++ []) (a ∷ f a ∷ g a ∷ b ∷ a ∷ f a ∷ [])
second_shorter =
    joined {points = chained} {trees = a ∷ f a ∷ g a ∷ b ∷ []} (a ∷ f a ∷ []) (chained ++ []) (all_built chain [] chained)
    (Whole (LeftOut {inside = drop 2 chained} {points = []} (contains_from_among (f a) (a ∷ f a ∷ g a ∷ b ∷ a ∷ []) refl) (record { given = []; kept = []; fuel = 9; value = b; left = 7; run = refl }) Nothing))

pub three_rooms : IsKnown chain (f a) b 2 3 × IsLeastRoom chain (f a) 3
three_rooms = (is_known chain [] [] (f a) b 9 3 7 refl, no_less_serves chain [] [] [] [] (f a) b 9 2 7 refl refl)

pub no_rooms : IsKnown chain b b 0 0 × IsLeastRoom chain b 0
no_rooms = (is_known chain [] [] b b 0 0 0 refl, λ given kept fuel less value left l. absurd (omega arith))
