-- A path of visits: each row once, so there is room for it.
use Rattle.std.proofs.Common.{◌≡◌, ◌≢◌, ℕ, ◌+◌, ◌<◌, ◌≤◌, List, [], ◌∷◌, ◌++◌, Some, length, get_or, refl, ap, sym, ◌∙◌, arith}
use Rattle.std.proofs.Math.ListN.{set}
use Rattle.std.specs.Prelude.{All}
use Rattle.std.proofs.lemmas.List.{length-set, get_or-set_other}
use Rattle.std.proofs.lemmas.List.Elements.{All-nil, All-cons, All-head, All-tail, All-push, All-pop, All-weaker}
use Rattle.term_model.specs.declared.Row.{Row}
use Rattle.term_model.specs.Tree.{nodes}
use Rattle.terms_api.specs.Terms.{Store, tree_at, IsSound}
use Rattle.terms_api.proofs.Callers.{has-held}
use Rattle.term_text.specs.Tally.{count_at, IsVisit, Narrows, IsHalfway, counted_rows}
use Rattle.term_text.specs.declared.counting.Visit.{Visit}
use Rattle.term_text.proofs.Counts.{counted_bound, counted_more}

abbrev pub Narrower : Store → ℕ → Visit → Type 0
Narrower s n w = n < nodes (tree_at s w.row)

pub all_front : {A : Type 0} (P : A → Type 0) (xs : List A) (y : A) → All P (xs ++ y ∷ []) → All P xs
all_front P xs y h = (All-pop P (xs ++ y ∷ []) xs (Some y) refl h).0

pub all_last : {A : Type 0} (P : A → Type 0) (xs : List A) (y : A) → All P (xs ++ y ∷ []) → P y
all_last P xs y h = (All-pop P (xs ++ y ∷ []) xs (Some y) refl h).1

pub narrows_front : (s : Store) (vs : List Visit) (v : Visit) → Narrows s (vs ++ v ∷ []) → Narrows s vs
narrows_front s [] v h = tt
narrows_front s (x ∷ vs) v h =
    (all_front (λ w. nodes (tree_at s w.row) < nodes (tree_at s x.row)) vs v h.0, narrows_front s vs v h.1)

pub narrows_last : (s : Store) (vs : List Visit) (v : Visit) → Narrows s (vs ++ v ∷ []) → All (Narrower s (nodes (tree_at s v.row))) vs
narrows_last s [] v h = All-nil (Narrower s (nodes (tree_at s v.row)))
narrows_last s (x ∷ vs) v h =
    All-cons (Narrower s (nodes (tree_at s v.row))) x vs
    (all_last (λ w. nodes (tree_at s w.row) < nodes (tree_at s x.row)) vs v h.0)
    (narrows_last s vs v h.1)

pub narrows_push : (s : Store) (vs : List Visit) (v : Visit) → Narrows s vs → All (Narrower s (nodes (tree_at s v.row))) vs → Narrows s (vs ++ v ∷ [])
narrows_push s [] v n a = (All-nil (λ w. nodes (tree_at s w.row) < nodes (tree_at s v.row)), tt)
narrows_push s (x ∷ vs) v n a =
    let P : Visit → Type 0 = Narrower s (nodes (tree_at s v.row)) in
    (All-push (λ w. nodes (tree_at s w.row) < nodes (tree_at s x.row)) vs v n.0 (All-head P x vs a), narrows_push s vs v n.1 (All-tail P x vs a))

-- rows whose trees have different numbers of nodes are different
pub rows_differ : (s : Store) (r q : Row) → nodes (tree_at s r) < nodes (tree_at s q) → r.0 ≢ q.0
rows_differ s r q h e =
    let same : nodes (tree_at s r) ≡ nodes (tree_at s q) = ap (λ (n : ℕ). (let x : Row = record { 0 = n } in nodes (tree_at s x))) e in
    omega arith

-- with a count for each visited row
entered : List ℕ → List Visit → List ℕ
entered counts [] = counts
entered counts (v ∷ vs) = set (entered counts vs) v.row.0 1

entered_length : (counts : List ℕ) (vs : List Visit) → length (entered counts vs) ≡ length counts
unfolding entered
entered_length counts [] = refl
entered_length counts (v ∷ vs) = length-set (entered counts vs) v.row.0 1 ∙ entered_length counts vs

entered_other : (s : Store) (counts : List ℕ) (vs : List Visit) (q : Row) → count_at counts q ≡ 0
    → All (λ w. nodes (tree_at s w.row) < nodes (tree_at s q)) vs → get_or (entered counts vs) q.0 0 ≡ 0
unfolding entered
entered_other s counts [] q z a = z
entered_other s counts (w ∷ vs) q z a =
    let P : Visit → Type 0 = λ w. nodes (tree_at s w.row) < nodes (tree_at s q) in
    let differ = rows_differ s w.row q (All-head P w vs a) in
    get_or-set_other (entered counts vs) w.row.0 q.0 1 0 (λ e. differ (sym e))
    ∙ entered_other s counts vs q z (All-tail P w vs a)

abbrev IsBelow : Store → List ℕ → Visit → Type 0
IsBelow s counts v = (v.row.0 < length counts) × (count_at counts v.row ≡ 0)

entered_count : (s : Store) (counts : List ℕ) (vs : List Visit) → All (IsBelow s counts) vs → Narrows s vs → counted_rows (entered counts vs) ≡ counted_rows counts + length vs
unfolding entered
entered_count s counts [] b n = omega arith
entered_count s counts (v ∷ vs) b n =
    let here = All-head (IsBelow s counts) v vs b in
    let rest = entered_count s counts vs (All-tail (IsBelow s counts) v vs b) n.1 in
    let size = entered_length counts vs in
    let more = counted_more (entered counts vs) v.row.0 1 (omega (arith, size, here.0)) (entered_other s counts vs v.row here.1 n.0) (omega arith) in
    omega (arith, more, rest)

-- the counted rows and those of the path are different rows
pub path_fits : (s : Store) (counts : List ℕ) (rows : List Row) (path : List Visit) → IsSound s → IsHalfway s counts rows path → length path + length rows ≤ length counts
path_fits s counts rows path sound half =
    let below : All (IsBelow s counts) path =
    All-weaker (IsVisit s counts) (IsBelow s counts) (λ v is. (under v is, is.uncounted)) path half.visits in
    let count = entered_count s counts path below half.narrows in
    let bound = counted_bound (entered counts path) in
    let size = entered_length counts path in
    let listed = half.tally.size in
    omega (arith, count, bound, size, listed)
  where
    under : (v : Visit) → IsVisit s counts v → v.row.0 < length counts
    under v is =
        let a = sound.below v.row (tree_at s v.row) (has-held s v.row is.held) in
        let b = half.tally.room in
        omega (arith, a, b)
