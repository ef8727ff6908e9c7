-- What a visit, and a count, do to counting halfway.
use Rattle.std.proofs.Common.{◌≡◌, ℕ, zero, suc, ◌+◌, ◌<◌, ◌≤◌, inl, inr, Bool, true, false, List, [], ◌∷◌, ◌++◌, Some, length, map, get_or, refl, ap, sym, ◌∙◌, subst, arith}
use Rattle.std.proofs.Math.ListN.{set}
use Rattle.std.specs.Prelude.{All, Contains, slice_get, if◌then◌else◌}
use Rattle.std.proofs.lemmas.Option.{slice_get_within, get_or_from_slice_get}
use Rattle.std.proofs.lemmas.List.{length-set, length-append, map-append}
use Rattle.std.proofs.lemmas.List.Elements.{All-nil, All-push, All-weaker, Contains-push, Contains-push_cases, Contains-append_left}
use Rattle.term_model.specs.declared.Row.{Row}
use Rattle.term_model.specs.Tree.{Tree, arguments, nodes, among, distinct}
use Rattle.term_model.proofs.Equality.{contains_from_among}
use Rattle.term_model.proofs.Members.{distinct_of_part}
use Rattle.term_model.proofs.Subtrees.{subtrees_nest, arguments_are_subtrees, arguments_have_fewer_nodes, some_nodes}
use Rattle.terms_api.specs.Terms.{Store, IsHeld, tree_at, IsSound}
use Rattle.terms_api.proofs.Callers.{has-held, same_row}
use Rattle.term_text.specs.Sizes.{saturated}
use Rattle.term_text.specs.Tally.{count_at, IsCounted, CountedBefore, IsTally, IsVisit, IsHalfway, IsWithin, AreWithin, Continues}
use Rattle.term_text.specs.declared.counting.Visit.{Visit}
use Rattle.term_text.proofs.Counts.{count_here, count_else, counted_here, counted_kept, counted_cases, before_kept, counted_more, some_saturated}
use Rattle.term_text.proofs.Paths.{Narrower, all_front, all_last, narrows_front, narrows_last, narrows_push, rows_differ, path_fits}

pub contains_at : {A : Type 0} (xs : List A) (k : ℕ) (x : A) → slice_get xs k ≡ Some x → Contains xs x
contains_at xs k x e = (k, slice_get_within xs k x e, get_or_from_slice_get xs k x x e)

pub contains_none : {A : Type 0} (x : A) → Contains [] x → ⊥
contains_none x h = absurd (omega arith)

-- elements of a mapped list
pub map_contains : {A B : Type 0} (f : A → B) (xs : List A) (x : A) → Contains xs x → Contains (map f xs) (f x)
map_contains f [] x h = absurd (contains_none x h)
map_contains f (y ∷ xs) x (zero, h, e) = (0, omega arith, ap f e)
map_contains f (y ∷ xs) x (suc k, h, e) =
    let r = map_contains f xs x (k, omega arith, e) in
    (suc r.0, omega (arith, r.1), r.2)

pub contains_map : {A B : Type 0} (f : A → B) (xs : List A) (y : B) → Contains (map f xs) y → (x : A) × Contains xs x × (f x ≡ y)
contains_map f [] y h = absurd (contains_none y h)
contains_map f (x ∷ xs) y (zero, h, e) = (x, (0, omega arith, refl), e)
contains_map f (x ∷ xs) y (suc k, h, e) =
    let r = contains_map f xs y (k, omega arith, e) in
    (r.0, (suc r.1.0, omega (arith, r.1.1), r.1.2), r.2)

-- one tree more, which is another
distinct_new : (t : Tree) (ts : List Tree) → (Contains ts t → ⊥) → distinct (t ∷ ts) ≡ distinct ts + 1
distinct_new t ts absent = ap (λ (b : Bool). if b then distinct ts else distinct ts + 1) (no (among t ts) refl)
  where
    no : (b : Bool) → among t ts ≡ b → b ≡ false
    no true e = absurd (absent (contains_from_among t ts e))
    no false e = refl

distinct_push : (ts : List Tree) (t : Tree) → (Contains ts t → ⊥) → distinct (ts ++ t ∷ []) ≡ distinct ts + 1
distinct_push ts t absent =
    let to = distinct_of_part (ts ++ t ∷ []) (t ∷ ts) (λ u h. elim (Contains-push_cases ts t u h) [
      | inl k ↦ (suc k.0, omega (arith, k.1), k.2)
      | inr e ↦ (0, omega arith, e)
    ]) in
    let back = distinct_of_part (t ∷ ts) (ts ++ t ∷ []) (λ u h. front u h) in
    let new = distinct_new t ts absent in
    omega (arith, to, back, new)
  where
    front : (u : Tree) → Contains (t ∷ ts) u → Contains (ts ++ t ∷ []) u
    front u (zero, h, e) = subst (Contains (ts ++ t ∷ [])) e (Contains-push ts t)
    front u (suc k, h, e) = Contains-append_left ts (t ∷ []) u (k, omega arith, e)

below : (s : Store) (counts : List ℕ) (rows : List Row) (path : List Visit) (v : Visit) → IsSound s → IsHalfway s counts rows (path ++ v ∷ []) → v.row.0 < length counts
below s counts rows path v sound half =
    let is = all_last (IsVisit s counts) path v half.visits in
    let a = sound.below v.row (tree_at s v.row) (has-held s v.row is.held) in
    let b = half.tally.room in
    omega (arith, a, b)

-- a count for a row whose arguments are counted
tallied : (s : Store) (counts : List ℕ) (rows : List Row) (v : Visit) (count : ℕ)
    → IsSound s → IsTally s counts rows → IsVisit s counts v → v.row.0 < length counts
    → CountedBefore s counts v.row (length (arguments (tree_at s v.row))) → count ≡ saturated (nodes (tree_at s v.row))
    → IsTally s (set counts v.row.0 count) (rows ++ v.row ∷ [])
tallied s counts rows v count sound tally is h before e =
    let r = v.row in
    let t = tree_at s r in
    let some : 0 < count = (let n = some_saturated (nodes t) (some_nodes t) in omega (arith, n, e)) in
    let all : (n : ℕ) → CountedBefore s counts r n = λ n j u k at. before j u (slice_get_within (arguments t) j u at) at in
    let more = counted_more counts r.0 count h is.uncounted some in
    let size = length-append rows (r ∷ []) in
    record {
      room = (let a = length-set counts r.0 count in let b = tally.room in omega (arith, a, b));
      held = λ q k. elim (counted_cases counts r q count k) [
        | inl same ↦ subst (IsHeld s) (sym same) is.held
        | inr o ↦ tally.held q o.1
      ];
      exact = λ q k. elim (counted_cases counts r q count k) [
        | inl same ↦ subst (λ (x : Row). count_at (set counts r.0 count) x ≡ saturated (nodes (tree_at s x))) (sym same) (count_here counts r count h ∙ e)
        | inr o ↦ count_else counts r q count o.0 ∙ tally.exact q o.1
      ];
      closed = λ q n k. elim (counted_cases counts r q count k) [
        | inl same ↦ before_kept s counts r q count n h some (subst (λ (x : Row). CountedBefore s counts x n) (sym same) (all n))
        | inr o ↦ before_kept s counts r q count n h some (tally.closed q n o.1)
      ];
      listed = λ q k. elim (counted_cases counts r q count k) [
        | inl same ↦ subst (Contains (rows ++ r ∷ [])) (sym same) (Contains-push rows r)
        | inr o ↦ Contains-append_left rows (r ∷ []) q (tally.listed q o.1)
      ];
      only = λ q k. elim (Contains-push_cases rows r q k) [
        | inl c ↦ counted_kept counts r q count h some (tally.only q c)
        | inr same ↦ subst (IsCounted (set counts r.0 count)) same (counted_here counts r count h some)
      ];
      size = (let b = tally.size in omega (arith, more, size, b));
      once = (let new = distinct_push (map (tree_at s) rows) t (λ c. absent (contains_map (tree_at s) rows t c)) in
          let b = tally.once in
          let split = ap distinct (map-append (tree_at s) rows (r ∷ [])) in
          omega (arith, new, b, size, split));
    }
  where
    absent : (q : Row) × Contains rows q × (tree_at s q ≡ tree_at s v.row) → ⊥
    absent c =
        let k = tally.only c.0 c.1 in
        let same = same_row s c.0 v.row sound (tally.held c.0 k) is.held c.2 in
        let z : count_at counts c.0 ≡ 0 = ap (count_at counts) same ∙ is.uncounted in
        omega (arith, k, z)

pub counted : (s : Store) (counts : List ℕ) (rows : List Row) (path : List Visit) (v : Visit) (count : ℕ)
    → IsSound s → IsHalfway s counts rows (path ++ v ∷ [])
    → CountedBefore s counts v.row (length (arguments (tree_at s v.row))) → count ≡ saturated (nodes (tree_at s v.row))
    → IsHalfway s (set counts v.row.0 count) (rows ++ v.row ∷ []) path
counted s counts rows path v count sound half before e =
    let is = all_last (IsVisit s counts) path v half.visits in
    let h = below s counts rows path v sound half in
    let some : 0 < count = (let n = some_saturated (nodes (tree_at s v.row)) (some_nodes (tree_at s v.row)) in omega (arith, n, e)) in
    record {
      tally = tallied s counts rows v count sound half.tally is h before e;
      visits = both path (all_front (IsVisit s counts) path v half.visits) (narrows_last s path v half.narrows) h some;
      narrows = narrows_front s path v half.narrows;
    }
  where
    both : (vs : List Visit) → All (IsVisit s counts) vs → All (Narrower s (nodes (tree_at s v.row))) vs → v.row.0 < length counts → 0 < count → All (IsVisit s (set counts v.row.0 count)) vs
    both vs all other h some = λ k d lt.
        let w = get_or vs k d in
        let is = all k d lt in
        let differ = rows_differ s v.row w.row (other k d lt) in
        record {
          held = is.held;
          uncounted = count_else counts v.row w.row count (λ e. differ (sym e)) ∙ is.uncounted;
          before = before_kept s counts v.row w.row count w.next h some is.before;
        }

-- the visit of the next argument
pub visited : (s : Store) (counts : List ℕ) (rows : List Row) (path : List Visit) (v : Visit) (j : ℕ) (c : Row)
    → IsHalfway s counts rows (path ++ v ∷ []) → IsHeld s c → count_at counts c ≡ 0
    → slice_get (arguments (tree_at s v.row)) j ≡ Some (tree_at s c) → CountedBefore s counts v.row j
    → IsHalfway s counts rows ((path ++ (record { row = v.row; next = j }) ∷ []) ++ (record { row = c; next = 0 }) ∷ [])
visited s counts rows path v j c half held none at before =
    let v' : Visit = record { row = v.row; next = j } in
    let w : Visit = record { row = c; next = 0 } in
    let is = all_last (IsVisit s counts) path v half.visits in
    let front = all_front (IsVisit s counts) path v half.visits in
    let again : All (IsVisit s counts) (path ++ v' ∷ []) = All-push (IsVisit s counts) path v' front (record { held = is.held; uncounted = is.uncounted; before = before }) in
    let wider = narrows_last s path v half.narrows in
    let fewer = arguments_have_fewer_nodes (tree_at s v.row) (tree_at s c) (contains_at (arguments (tree_at s v.row)) j (tree_at s c) at) in
    let all : All (Narrower s (nodes (tree_at s c))) path = All-weaker (Narrower s (nodes (tree_at s v.row))) (Narrower s (nodes (tree_at s c))) (λ x n. omega (arith, n, fewer)) path wider in
    record {
      tally = half.tally;
      visits = All-push (IsVisit s counts) (path ++ v' ∷ []) w again (record { held = held; uncounted = none; before = λ k t lt e. absurd (omega (arith, lt)) });
      narrows = narrows_push s (path ++ v' ∷ []) w (narrows_push s path v' (narrows_front s path v half.narrows) wider) (All-push (Narrower s (nodes (tree_at s c))) path v' all fewer);
    }

-- and both go on
pub visited_on : (s : Store) (counts : List ℕ) (rows : List Row) (path : List Visit) (v : Visit) (j : ℕ) (c : Row)
    → IsSound s → slice_get (arguments (tree_at s v.row)) j ≡ Some (tree_at s c)
    → (new : List Visit) → new ≡ (path ++ (record { row = v.row; next = j }) ∷ []) ++ (record { row = c; next = 0 }) ∷ []
    → IsHalfway s counts rows new
    → Continues s counts counts rows rows (path ++ v ∷ []) new
visited_on s counts rows path v j c sound at new e half =
    let v' : Visit = record { row = v.row; next = j } in
    let w : Visit = record { row = c; next = 0 } in
    let fits = path_fits s counts rows new sound half in
    let size : length new ≡ length path + 2 = ap length e ∙ length-append (path ++ v' ∷ []) (w ∷ []) ∙ (let k = length-append path (v' ∷ []) in omega (arith, k)) in
    let old = length-append path (v ∷ []) in
    record {
      size = refl;
      kept = λ r k. k;
      begun = λ r b. elim b [
        | inl k ↦ inl k
        | inr x ↦ inr (subst (λ (p : List Visit). (u : Visit) × Contains p u × (u.row ≡ r)) (sym e) (there r x))
      ];
      within = λ ts a.
          let here : IsWithin ts (tree_at s v.row) = all_last (λ u. IsWithin ts (tree_at s u.row)) path v a.visited in
          let part = arguments_are_subtrees (tree_at s v.row) (tree_at s c) (contains_at (arguments (tree_at s v.row)) j (tree_at s c) at) in
          let P : Visit → Type 0 = λ u. IsWithin ts (tree_at s u.row) in
          record {
            counted = a.counted;
            visited = subst (All P) (sym e) (All-push P (path ++ v' ∷ []) w
                (All-push P path v' (all_front P path v a.visited) here)
                (here.0, here.1, subtrees_nest here.0 (tree_at s v.row) (tree_at s c) here.2 part));
          };
      fewer = omega (arith, fits, size, old);
    }
  where
    there : (r : Row) → (u : Visit) × Contains (path ++ v ∷ []) u × (u.row ≡ r)
        → (u : Visit) × Contains ((path ++ (record { row = v.row; next = j }) ∷ []) ++ (record { row = c; next = 0 }) ∷ []) u × (u.row ≡ r)
    there r x =
        let v' : Visit = record { row = v.row; next = j } in
        let w : Visit = record { row = c; next = 0 } in
        elim (Contains-push_cases path v x.0 x.1) [
          | inl k ↦ (x.0, Contains-append_left (path ++ v' ∷ []) (w ∷ []) x.0 (Contains-append_left path (v' ∷ []) x.0 k), x.2)
          | inr same ↦ (v', Contains-append_left (path ++ v' ∷ []) (w ∷ []) v' (Contains-push path v'), ap (λ (u : Visit). u.row) same ∙ x.2)
        ]

pub counted_on : (s : Store) (counts : List ℕ) (rows : List Row) (path : List Visit) (v : Visit) (count : ℕ)
    → IsSound s → IsHalfway s counts rows (path ++ v ∷ []) → count ≡ saturated (nodes (tree_at s v.row))
    → Continues s counts (set counts v.row.0 count) rows (rows ++ v.row ∷ []) (path ++ v ∷ []) path
counted_on s counts rows path v count sound half e =
    let h = below s counts rows path v sound half in
    let some : 0 < count = (let n = some_saturated (nodes (tree_at s v.row)) (some_nodes (tree_at s v.row)) in omega (arith, n, e)) in
    let fits = path_fits s counts rows (path ++ v ∷ []) sound half in
    let old = length-append path (v ∷ []) in
    let longer = length-append rows (v.row ∷ []) in
    let size = length-set counts v.row.0 count in
    record {
      size = size;
      kept = λ r k. counted_kept counts v.row r count h some k;
      begun = λ r b. elim b [
        | inl k ↦ inl (counted_kept counts v.row r count h some k)
        | inr x ↦ elim (Contains-push_cases path v x.0 x.1) [
          | inl k ↦ inr (x.0, k, x.2)
          | inr same ↦ inl (subst (IsCounted (set counts v.row.0 count)) (ap (λ (u : Visit). u.row) same ∙ x.2) (counted_here counts v.row count h some))
        ]
      ];
      within = λ ts a.
          let P : Visit → Type 0 = λ u. IsWithin ts (tree_at s u.row) in
          record {
            counted = λ q k. elim (counted_cases counts v.row q count k) [
              | inl same ↦ subst (λ (x : Row). IsWithin ts (tree_at s x)) (sym same) (all_last P path v a.visited)
              | inr o ↦ a.counted q o.1
            ];
            visited = all_front P path v a.visited;
          };
      fewer = omega (arith, fits, old, longer, size);
    }

-- at the start the root is visited
pub first_visit : (s : Store) (counts : List ℕ) (rows : List Row) (r : Row) → IsTally s counts rows → IsHeld s r → count_at counts r ≡ 0
    → IsHalfway s counts rows ((record { row = r; next = 0 }) ∷ [])
first_visit s counts rows r tally held none =
    let v : Visit = record { row = r; next = 0 } in
    record {
      tally = tally;
      visits = All-push (IsVisit s counts) [] v (All-nil (IsVisit s counts)) (record { held = held; uncounted = none; before = λ k t lt e. absurd (omega (arith, lt)) });
      narrows = (All-nil (λ w. nodes (tree_at s w.row) < nodes (tree_at s v.row)), tt);
    }

pub first_within : (s : Store) (counts : List ℕ) (r : Row) (ts : List Tree) → IsWithin ts (tree_at s r) → AreWithin s ts counts [] → AreWithin s ts counts ((record { row = r; next = 0 }) ∷ [])
first_within s counts r ts w a =
    let v : Visit = record { row = r; next = 0 } in
    let P : Visit → Type 0 = λ u. IsWithin ts (tree_at s u.row) in
    record { counted = a.counted; visited = All-push P [] v (All-nil P) w }

-- at the end none is visited
pub none_visited : (s : Store) (counts : List ℕ) (path : List Visit) (ts : List Tree) → AreWithin s ts counts path → AreWithin s ts counts []
none_visited s counts path ts a = record { counted = a.counted; visited = All-nil (λ (u : Visit). IsWithin ts (tree_at s u.row)) }

-- there is room for two more on a path that goes on
pub two_fit : (s : Store) (counts : List ℕ) (rows : List Row) (path : List Visit) (v w : Visit) → IsSound s
    → IsHalfway s counts rows ((path ++ v ∷ []) ++ w ∷ []) → length path + 2 ≤ length counts
two_fit s counts rows path v w sound half =
    let fits = path_fits s counts rows ((path ++ v ∷ []) ++ w ∷ []) sound half in
    let a = length-append (path ++ v ∷ []) (w ∷ []) in
    let b = length-append path (v ∷ []) in
    omega (arith, fits, a, b)

pub one_fits : (s : Store) (counts : List ℕ) (rows : List Row) (path : List Visit) (v : Visit) → IsSound s
    → IsHalfway s counts rows (path ++ v ∷ []) → length rows + 1 ≤ length counts
one_fits s counts rows path v sound half =
    let fits = path_fits s counts rows (path ++ v ∷ []) sound half in
    let b = length-append path (v ∷ []) in
    omega (arith, fits, b)

-- in a store that is the same
pub halfway_there : (s t : Store) (counts : List ℕ) (rows : List Row) (path : List Visit) → t ≡ s → IsHalfway t counts rows path → IsHalfway s counts rows path
halfway_there s t counts rows path e h = subst (λ (x : Store). IsHalfway x counts rows path) e h

pub continues_there : (s t : Store) (counts counts' : List ℕ) (rows rows' : List Row) (path path' : List Visit) → t ≡ s
    → Continues t counts counts' rows rows' path path' → Continues s counts counts' rows rows' path path'
continues_there s t counts counts' rows rows' path path' e h = subst (λ (x : Store). Continues x counts counts' rows rows' path path') e h

pub nodes_there : (s t : Store) (row : Row) (n : ℕ) → t ≡ s → n ≡ saturated (nodes (tree_at t row)) → n ≡ saturated (nodes (tree_at s row))
nodes_there s t row n e h = subst (λ (x : Store). n ≡ saturated (nodes (tree_at x row))) e h
