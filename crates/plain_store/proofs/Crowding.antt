-- When every row has a tree that can be reached.
use Rattle.std.proofs.Common.{◌≡◌, ℕ, zero, suc, ◌+◌, ◌<◌, ◌≤◌, inl, inr, Bool, true, false, List, [], ◌∷◌, Option, Some, None, length, get_or, refl, ap, sym, ◌∙◌, arith}
use Rattle.std.specs.Prelude.{Contains, if◌then◌else◌}
use Rattle.std.proofs.lemmas.List.{length-map}
use Rattle.term_model.specs.declared.Row.{Row}
use Rattle.term_model.specs.Tree.{Tree, among, distinct}
use Rattle.term_model.proofs.Equality.{among_here, among_there, among_cases, among_from_contains, contains_from_among}
use Rattle.term_model.proofs.Members.{distinct_of_part, distinct_is_bounded}
use Rattle.terms_api.specs.Terms.{reachable, IsSound}
use Rattle.plain_store.specs.Outcome.{HoldsReachable}
use Rattle.plain_store.specs.Contents.{Contents, store_of, kept_among, kept_trees}
use Rattle.plain_store.proofs.Keeping.{had, keeps}

-- the trees that are there
abbrev pub somes : List (Option Tree) → List Tree
somes [] = []
somes (None ∷ os) = somes os
somes (Some t ∷ os) = t ∷ somes os

pub somes_length : (os : List (Option Tree)) → length (somes os) ≤ length os
somes_length [] = omega arith
somes_length (None ∷ os) = let r = somes_length os in omega (arith, r)
somes_length (Some t ∷ os) = let r = somes_length os in omega (arith, r)

some_missing : (os : List (Option Tree)) (k : ℕ) → k < length os → get_or os k None ≡ None → length (somes os) < length os
some_missing [] k h e = absurd (omega arith)
some_missing (None ∷ os) k h e = let r = somes_length os in omega (arith, r)
some_missing (Some t ∷ os) zero h e = absurd (cc)
some_missing (Some t ∷ os) (suc k) h e = let r = some_missing os k (omega arith) e in omega (arith, r)

none_missing : (os : List (Option Tree)) → ((k : ℕ) → k < length os → get_or os k None ≡ None → ⊥) → length (somes os) ≡ length os
none_missing [] all = refl
none_missing (None ∷ os) all = absurd (all 0 (omega arith) refl)
none_missing (Some t ∷ os) all = let r = none_missing os (λ k h e. all (suc k) (omega arith) e) in omega (arith, r)

pub among_somes : (os : List (Option Tree)) (k : ℕ) (t : Tree) → get_or os k None ≡ Some t → among t (somes os) ≡ true
among_somes [] k t e = absurd (cc)
among_somes (None ∷ os) zero t e = absurd (cc)
among_somes (None ∷ os) (suc k) t e = among_somes os k t e
among_somes (Some u ∷ os) zero t e = among_here t u (somes os) (let f : u ≡ t = cc in sym f)
among_somes (Some u ∷ os) (suc k) t e = among_there t u (somes os) (among_somes os k t e)

pub place_somes : (os : List (Option Tree)) (t : Tree) → among t (somes os) ≡ true → (k : ℕ) × (get_or os k None ≡ Some t)
place_somes [] t h = absurd (cc)
place_somes (None ∷ os) t h = let r = place_somes os t h in (suc r.0, r.1)
place_somes (Some u ∷ os) t h =
    elim (among_cases t u (somes os) h) [
      | inl e ↦ (0, ap (λ (x : Tree). Some x) (sym e))
      | inr g ↦ (let r = place_somes os t g in (suc r.0, r.1))
    ]

distinct_new : (t : Tree) (ts : List Tree) (b : Bool) → among t ts ≡ b → b ≡ false → distinct (t ∷ ts) ≡ distinct ts + 1
distinct_new t ts b e f = ap (λ (x : Bool). if x then distinct ts else distinct ts + 1) (e ∙ f)

not_among : (b : Bool) → (b ≡ true → ⊥) → b ≡ false
not_among true no_true = absurd (no_true refl)
not_among false no_true = refl

-- where no tree is there twice, all are different
pub all_differ : (os : List (Option Tree)) → ((i j : ℕ) (t : Tree) → get_or os i None ≡ Some t → get_or os j None ≡ Some t → i ≡ j) → distinct (somes os) ≡ length (somes os)
all_differ [] one = refl
all_differ (None ∷ os) one = all_differ os (λ i j t e f. (let s : suc i ≡ suc j = one (suc i) (suc j) t e f in omega arith))
all_differ (Some t ∷ os) one =
    let rest = all_differ os (λ i j u e f. (let s : suc i ≡ suc j = one (suc i) (suc j) u e f in omega arith)) in
    let absent = not_among (among t (somes os)) (λ h. (let k = place_somes os t h in let s : 0 ≡ suc k.0 = one 0 (suc k.0) t refl k.1 in omega arith)) in
    let more = distinct_new t (somes os) (among t (somes os)) refl absent in
    omega (arith, rest, more)

-- the reachable trees are those that are kept
reach_kept : (c : Contents) → HoldsReachable c → (t : Tree) → Contains (reachable (store_of c)) t → Contains (somes (kept_trees c)) t
reach_kept c holds t h =
    let row = holds t h in
    contains_from_among t (somes (kept_trees c)) (among_somes (kept_trees c) row.0.0 t (keeps c c.raised row.0 t row.1 h))

kept_reach : (c : Contents) (t : Tree) → Contains (somes (kept_trees c)) t → Contains (reachable (store_of c)) t
kept_reach c t h =
    let k = place_somes (kept_trees c) t (among_from_contains t (somes (kept_trees c)) h) in
    let r : Row = record { 0 = k.0 } in
    (had c c.raised r t k.1).1

-- where a row has no reachable tree, fewer trees can be reached than there are rows
pub room_left : (c : Contents) (k : ℕ) → HoldsReachable c → k < length c.trees → get_or (kept_trees c) k None ≡ None → distinct (reachable (store_of c)) < length c.trees
room_left c k holds below free =
    let size = length-map c.trees (kept_among (reachable (store_of c))) in
    let part = distinct_of_part (reachable (store_of c)) (somes (kept_trees c)) (reach_kept c holds) in
    let bound = distinct_is_bounded (somes (kept_trees c)) in
    let short = some_missing (kept_trees c) k (omega (arith, size)) free in
    omega (arith, size, part, bound, short)

-- where every row keeps its tree, as many can be reached as there are rows
pub all_full : (c : Contents) → HoldsReachable c → IsSound (store_of c) → ((k : ℕ) → k < length c.trees → get_or (kept_trees c) k None ≡ None → ⊥) → distinct (reachable (store_of c)) ≡ length c.trees
all_full c holds sound full =
    let size = length-map c.trees (kept_among (reachable (store_of c))) in
    let part = distinct_of_part (reachable (store_of c)) (somes (kept_trees c)) (reach_kept c holds) in
    let back = distinct_of_part (somes (kept_trees c)) (reachable (store_of c)) (kept_reach c) in
    let bound = distinct_is_bounded (somes (kept_trees c)) in
    let long = none_missing (kept_trees c) (λ k h e. full k (omega (arith, size)) e) in
    let differ = all_differ (kept_trees c) (λ i j t e f.
    (let p : Row = record { 0 = i } in
    let q : Row = record { 0 = j } in
    ap (λ (x : Row). x.0) (sound.one_row p q t (had c c.raised p t e).0 (had c c.raised q t f).0))) in
    omega (arith, size, part, back, bound, long, differ)
