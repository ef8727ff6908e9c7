-- The events of a derivation make its replacements, and no events that make the same are fewer.
use Rattle.std.proofs.Common.{◌≡◌, ℕ, suc, ◌+◌, ◌≤◌, List, [], ◌∷◌, ◌++◌, length, Option, Some, None, refl, sym, ◌∙◌, ap, subst, arith, Bool, true, false, append_assoc, append-nil}
use Rattle.std.specs.Prelude.{if◌then◌else◌, option_and_then, ◌==◌}
use Rattle.std.specs.Option.{option_map}
use Rattle.std.proofs.lemmas.Bool.{eqb-true, eqb-false}
use Rattle.std.proofs.lemmas.Option.{same_Some}
use Rattle.std.proofs.lemmas.List.{length-append, length-map, length-replicate}
use Rattle.rewrite_model.specs.Derivation.{Replacement}
use Rattle.rewrite_model.specs.Trace.{downs, ups, moves, events_from}
use Rattle.rewrite_model.specs.Replay.{above, made_by}
use Rattle.rewrite_model.specs.declared.event.Event.{Event}
use Rattle.rewrite_model.specs.declared.event.Event.TheVariants.{Down, Up, Rule as Use}
use Rattle.rewrite_model.proofs.Derivations.{option_map_some, above_last, ups_last}

down_count : (js : List ℕ) → length (downs js) ≡ length js
down_count js = length-map js (λ j. Down j)

up_count : (n : ℕ) → length (ups n) ≡ n
up_count n = length-replicate n Up

-- where the first arguments differ
apart_count : (n : ℕ) (js : List ℕ) → length (ups n ++ downs js) ≡ n + length js
apart_count n js =
    let a = length-append (ups n) (downs js) in
    let b = up_count n in
    let c = down_count js in
    omega (arith, a, b, c)

-- one move to the position above, or to an argument, is worth no more than one
from_below : (at to : List ℕ) (k : ℕ) → length (moves (at ++ k ∷ []) to) ≤ 1 + length (moves at to)
from_below [] [] k = let a = up_count 1 in omega (arith, a)
from_below [] (j ∷ js) k = go (k == j)
  where
    go : (b : Bool) → length (if b then downs js else ups 1 ++ downs (j ∷ js)) ≤ 1 + length (downs (j ∷ js))
    go true = omega arith
    go false = let a = apart_count 1 (j ∷ js) in let b = down_count (j ∷ js) in omega (arith, a, b)
from_below (i ∷ is) [] k =
    let a = up_count (suc (length (is ++ k ∷ []))) in
    let b = up_count (suc (length is)) in
    let c = length-append is (k ∷ []) in
    omega (arith, a, b, c)
from_below (i ∷ is) (j ∷ js) k = go (i == j) (from_below is js k)
  where
    go : (b : Bool) → length (moves (is ++ k ∷ []) js) ≤ 1 + length (moves is js) →
        length (if b then moves (is ++ k ∷ []) js else ups (suc (length (is ++ k ∷ []))) ++ downs (j ∷ js)) ≤ 1 + length (if b then moves is js else ups (suc (length is)) ++ downs (j ∷ js))
    go true h = h
    go false h =
        let a = apart_count (suc (length (is ++ k ∷ []))) (j ∷ js) in
        let b = apart_count (suc (length is)) (j ∷ js) in
        let c = length-append is (k ∷ []) in
        omega (arith, a, b, c)

from_above : (at to : List ℕ) (k : ℕ) → length (moves at to) ≤ 1 + length (moves (at ++ k ∷ []) to)
from_above [] [] k = omega arith
from_above [] (j ∷ js) k = go (k == j)
  where
    go : (b : Bool) → length (downs (j ∷ js)) ≤ 1 + length (if b then downs js else ups 1 ++ downs (j ∷ js))
    go true = omega arith
    go false = let a = apart_count 1 (j ∷ js) in let b = down_count (j ∷ js) in omega (arith, a, b)
from_above (i ∷ is) [] k =
    let a = up_count (suc (length (is ++ k ∷ []))) in
    let b = up_count (suc (length is)) in
    let c = length-append is (k ∷ []) in
    omega (arith, a, b, c)
from_above (i ∷ is) (j ∷ js) k = go (i == j) (from_above is js k)
  where
    go : (b : Bool) → length (moves is js) ≤ 1 + length (moves (is ++ k ∷ []) js) →
        length (if b then moves is js else ups (suc (length is)) ++ downs (j ∷ js)) ≤ 1 + length (if b then moves (is ++ k ∷ []) js else ups (suc (length (is ++ k ∷ []))) ++ downs (j ∷ js))
    go true h = h
    go false h =
        let a = apart_count (suc (length (is ++ k ∷ []))) (j ∷ js) in
        let b = apart_count (suc (length is)) (j ∷ js) in
        let c = length-append is (k ∷ []) in
        omega (arith, a, b, c)

no_moves : (at : List ℕ) → length (moves at at) ≡ 0
no_moves [] = refl
no_moves (i ∷ is) = go (i == i) refl (no_moves is)
  where
    go : (b : Bool) → (i == i) ≡ b → length (moves is is) ≡ 0 → length (if b then moves is is else ups (suc (length is)) ++ downs (i ∷ is)) ≡ 0
    go true e h = h
    go false e h = absurd (eqb-false i i e refl)

-- so is one move before the first of some events
begun_below : (at : List ℕ) (k : ℕ) (ss : List Replacement) → length (events_from (at ++ k ∷ []) ss) ≤ 1 + length (events_from at ss)
begun_below at k [] = omega arith
begun_below at k (s ∷ ss) =
    let rest = Use s.rule ∷ events_from s.position ss in
    let a = length-append (moves (at ++ k ∷ []) s.position) rest in
    let b = length-append (moves at s.position) rest in
    let c = from_below at s.position k in
    omega (arith, a, b, c)

begun_above : (at : List ℕ) (k : ℕ) (ss : List Replacement) → length (events_from at ss) ≤ 1 + length (events_from (at ++ k ∷ []) ss)
begun_above at k [] = omega arith
begun_above at k (s ∷ ss) =
    let rest = Use s.rule ∷ events_from s.position ss in
    let a = length-append (moves (at ++ k ∷ []) s.position) rest in
    let b = length-append (moves at s.position) rest in
    let c = from_above at s.position k in
    omega (arith, a, b, c)

-- the position above is the one without its last argument
above_is : (at up : List ℕ) → above at ≡ Some up → (k : ℕ) × (at ≡ up ++ k ∷ [])
above_is [] up e = cc
above_is (j ∷ []) up e = (j, ap (λ ks. ks ++ j ∷ []) (same_Some [] up e))
above_is (j ∷ i ∷ is) up e = go (above (i ∷ is)) refl e (λ ks a. above_is (i ∷ is) ks a)
  where
    go : (o : Option (List ℕ)) → above (i ∷ is) ≡ o → option_and_then (λ ks. Some (j ∷ ks)) o ≡ Some up →
        ((ks : List ℕ) → above (i ∷ is) ≡ Some ks → (k : ℕ) × (i ∷ is ≡ ks ++ k ∷ [])) → (k : ℕ) × (j ∷ i ∷ is ≡ up ++ k ∷ [])
    go None a e' shorter = cc
    go (Some ks) a e' shorter =
        let r = shorter ks a in
        (r.0, ap (λ xs. j ∷ xs) r.1 ∙ ap (λ xs. xs ++ r.0 ∷ []) (same_Some (j ∷ ks) up e'))

pub events_are_fewest : (es : List Event) (at : List ℕ) (ss : List Replacement) → made_by es at ≡ Some ss → length (events_from at ss) ≤ length es
events_are_fewest [] at ss e = subst (λ rs. length (events_from at rs) ≤ 0) (same_Some [] ss e) (omega arith)
events_are_fewest (Down j ∷ es) at ss e =
    let h = events_are_fewest es (at ++ j ∷ []) ss e in
    let a = begun_above at j ss in
    omega (arith, h, a)
events_are_fewest (Up ∷ es) at ss e = go (above at) refl e (λ up made. events_are_fewest es up ss made)
  where
    go : (o : Option (List ℕ)) → above at ≡ o → option_and_then (λ up. made_by es up) o ≡ Some ss →
        ((up : List ℕ) → made_by es up ≡ Some ss → length (events_from up ss) ≤ length es) → length (events_from at ss) ≤ suc (length es)
    go None a e' fewer = cc
    go (Some up) a e' fewer =
        let r = above_is at up a in
        let h = fewer up e' in
        let b = begun_below up r.0 ss in
        let c = ap (λ p. length (events_from p ss)) r.1 in
        omega (arith, h, b, c)
events_are_fewest (Use k ∷ es) at ss e = option_map_some (λ rs. let s : Replacement = record { position = at; rule = k } in s ∷ rs) (made_by es at) ss e (λ rs a b.
    let h = events_are_fewest es at rs a in
    let s : Replacement = record { position = at; rule = k } in
    let n = length-append (moves at at) (Use k ∷ events_from at rs) in
    let m = no_moves at in
    let c = ap (λ qs. length (events_from at qs)) b in
    omega (arith, h, n, m, c))

-- moves lead where they are to lead
make_up : (is at : List ℕ) (es : List Event) → made_by (ups (length is) ++ es) (at ++ is) ≡ made_by es at
make_up [] at es = ap (made_by es) (append-nil at)
make_up (i ∷ is) at es =
    ap (λ fs. made_by fs (at ++ i ∷ is)) (ups_last (length is) es)
    ∙ ap (made_by (ups (length is) ++ Up ∷ es)) (sym (append_assoc at (i ∷ []) is))
    ∙ make_up is (at ++ i ∷ []) (Up ∷ es)
    ∙ ap (option_and_then (λ up. made_by es up)) (above_last at i)

make_down : (js at : List ℕ) (es : List Event) → made_by (downs js ++ es) at ≡ made_by es (at ++ js)
make_down [] at es = ap (made_by es) (sym (append-nil at))
make_down (j ∷ js) at es = make_down js (at ++ j ∷ []) es ∙ ap (made_by es) (append_assoc at (j ∷ []) js)

make_moves : (is js at : List ℕ) (es : List Event) → made_by (moves is js ++ es) (at ++ is) ≡ made_by es (at ++ js)
make_moves [] js at es = ap (made_by (downs js ++ es)) (append-nil at) ∙ make_down js at es
make_moves (i ∷ is) [] at es = make_up (i ∷ is) at es ∙ ap (made_by es) (sym (append-nil at))
make_moves (i ∷ is) (j ∷ js) at es = go (i == j) refl (λ s.
    ap (made_by (moves is js ++ es)) (sym (append_assoc at (i ∷ []) is))
    ∙ make_moves is js (at ++ i ∷ []) es
    ∙ ap (made_by es) (append_assoc at (i ∷ []) js)
    ∙ ap (λ k. made_by es (at ++ k ∷ js)) s)
  where
    go : (b : Bool) → (i == j) ≡ b → (i ≡ j → made_by (moves is js ++ es) (at ++ i ∷ is) ≡ made_by es (at ++ j ∷ js)) → made_by ((if b then moves is js else ups (suc (length is)) ++ downs (j ∷ js)) ++ es) (at ++ i ∷ is) ≡ made_by es (at ++ j ∷ js)
    go true q k = k (eqb-true i j q)
    go false q k =
        ap (λ fs. made_by fs (at ++ i ∷ is)) (append_assoc (ups (suc (length is))) (downs (j ∷ js)) es)
        ∙ make_up (i ∷ is) at (downs (j ∷ js) ++ es)
        ∙ make_down (j ∷ js) at es

pub events_make : (ss : List Replacement) (at : List ℕ) → made_by (events_from at ss) at ≡ Some ss
events_make [] at = refl
events_make (s ∷ ss) at =
    make_moves at s.position [] (Use s.rule ∷ events_from s.position ss)
    ∙ ap (option_map (λ rs. s ∷ rs)) (events_make ss s.position)
