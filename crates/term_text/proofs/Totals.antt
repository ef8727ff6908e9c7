-- As many rows are counted as there are different subtrees.
use Rattle.std.proofs.Common.{◌≡◌, ℕ, zero, suc, ◌+◌, ◌<◌, ◌≤◌, inl, inr, List, [], ◌∷◌, Some, length, map, take, refl, ap, sym, ◌∙◌, subst, arith}
use Rattle.std.specs.Prelude.{Contains, slice_get, sum_by}
use Rattle.std.proofs.lemmas.Option.{slice_get_within}
use Rattle.std.proofs.lemmas.List.{length-map}
use Rattle.std.proofs.lemmas.List.Elements.{All-nil}
use Rattle.term_model.specs.declared.Row.{Row}
use Rattle.term_model.specs.Tree.{Tree, arguments, subtrees, distinct, nodes}
use Rattle.term_model.specs.Laws.{IsClosed}
use Rattle.term_model.proofs.Equality.{contains_from_among}
use Rattle.term_model.proofs.Members.{distinct_of_part}
use Rattle.term_model.proofs.Subtrees.{closed_holds_subtrees, itself}
use Rattle.terms_api.specs.Terms.{Store, IsHeld, tree_at, trees, reachable, IsSound}
use Rattle.terms_api.proofs.Callers.{tree_at-has, has-held, held-stack, trees-at}
use Rattle.terms_api.proofs.Staying.{reached, reached_from}
use Rattle.term_text.specs.declared.counting.Tally.{Tally}
use Rattle.term_text.specs.declared.counting.Visit.{Visit}
use Rattle.term_text.specs.Sizes.{saturated}
use Rattle.term_text.specs.Clear.{IsClear}
use Rattle.term_text.specs.Tally.{count_at, IsCounted, HasCount, IsTally, IsWithin, AreWithin}
use Rattle.term_text.proofs.Shapes.{some_same}
use Rattle.term_text.proofs.Counts.{same_number, none_rows, saturated_sum, sum_more}
use Rattle.term_text.proofs.Going.{map_contains, contains_map, contains_at}

at_contained : {A : Type 0} (xs : List A) (x : A) → Contains xs x → (k : ℕ) × (slice_get xs k ≡ Some x)
at_contained [] x h = absurd (omega arith)
at_contained (y ∷ xs) x (zero, h, e) = (0, ap Some e)
at_contained (y ∷ xs) x (suc k, h, e) = let r = at_contained xs x (k, omega arith, e) in (suc r.0, r.1)

-- a tree with a count is one of the listed rows' trees
listed_tree : (s : Store) (counts : List ℕ) (rows : List Row) (t : Tree) → IsTally s counts rows → HasCount s counts t → Contains (map (tree_at s) rows) t
listed_tree s counts rows t tally x =
    subst (Contains (map (tree_at s) rows)) (tree_at-has s x.0 t x.1) (map_contains (tree_at s) rows x.0 (tally.listed x.0 x.2))

rows_closed : (s : Store) (counts : List ℕ) (rows : List Row) → IsTally s counts rows → IsClosed (map (tree_at s) rows)
rows_closed s counts rows tally = λ t u h k.
    let r = contains_map (tree_at s) rows t h in
    let args : Contains (arguments (tree_at s r.0)) u = subst (λ (x : Tree). Contains (arguments x) u) (sym r.2) k in
    let at = at_contained (arguments (tree_at s r.0)) u args in
    listed_tree s counts rows u tally (tally.closed r.0 (suc at.0) (tally.only r.0 r.1) at.0 u (omega arith) at.1)

-- the trees that are counted are the subtrees of these
pub distinct_counted : (s : Store) (counts : List ℕ) (rows : List Row) (ts all : List Tree)
    → IsTally s counts rows → ((t : Tree) → Contains ts t → HasCount s counts t) → ((r : Row) → IsCounted counts r → IsWithin ts (tree_at s r))
    → ((t u : Tree) → Contains ts t → Contains (subtrees t) u → Contains all u) → ((u : Tree) → Contains all u → IsWithin ts u)
    → length rows ≡ distinct all
distinct_counted s counts rows ts all tally roots within fwd back =
    let trees = map (tree_at s) rows in
    let few = distinct_of_part all trees (λ u h.
    (let w = back u h in
    closed_holds_subtrees trees (rows_closed s counts rows tally) w.0 u (listed_tree s counts rows w.0 tally (roots w.0 w.1)) w.2)) in
    let many = distinct_of_part trees all (λ u h.
    (let r = contains_map (tree_at s) rows u h in
    let w = within r.0 (tally.only r.0 r.1) in
    subst (Contains all) r.2 (fwd w.0 (tree_at s r.0) w.1 w.2))) in
    let once = tally.once in
    omega (arith, few, many, once)

only_one : {A : Type 0} (x y : A) → Contains (x ∷ []) y → y ≡ x
only_one x y (zero, h, e) = sym e
only_one x y (suc k, h, e) = absurd (omega arith)

pub within_itself : (ts : List Tree) (t : Tree) → Contains ts t → IsWithin ts t
within_itself ts t h = (t, h, contains_from_among t (subtrees t) (itself t))

-- before any row is counted
pub none_within : (s : Store) (counts : List ℕ) (ts : List Tree) → ((r : Row) → count_at counts r ≡ 0) → AreWithin s ts counts []
none_within s counts ts none =
    record {
      counted = λ r k. absurd (let z = none r in omega (arith, z, k));
      visited = All-nil (λ (v : Visit). IsWithin ts (tree_at s v.row));
    }

pub none_tallied : (s : Store) (tally : Tally) → s.rows ≤ length tally.counts.items → IsClear tally → IsTally s tally.counts.items tally.rows.items
none_tallied s tally room clear =
    let counts = tally.counts.items in
    subst (IsTally s counts) (sym clear.rows) (record {
      room = room;
      held = λ r k. no r k;
      exact = λ r k. no r k;
      closed = λ r n k. no r k;
      listed = λ r k. no r k;
      only = λ r k. absurd (omega (arith, k.1));
      size = none_rows counts (λ i. (let r : Row = record { 0 = i } in clear.none r));
      once = refl;
    })
  where
    no : {A : Type 0} (r : Row) → IsCounted tally.counts.items r → A
    no r k = absurd (let z = clear.none r in omega (arith, z, k))

-- the size of one tree
pub sized : (s : Store) (counts : List ℕ) (rows : List Row) (row : Row) → IsTally s counts rows → IsHeld s row → IsCounted counts row
    → AreWithin s (tree_at s row ∷ []) counts [] → length rows ≡ distinct (subtrees (tree_at s row))
sized s counts rows row tally held counted within =
    let t = tree_at s row in
    distinct_counted s counts rows (t ∷ []) (subtrees t) tally
    (λ u h. subst (HasCount s counts) (sym (only_one t u h)) (row, has-held s row held, counted))
    within.counted
    (λ x u h k. subst (λ (y : Tree). Contains (subtrees y) u) (only_one t x h) k)
    (λ u h. (t, (0, omega arith, refl), h))

-- the size of the stack
pub stack_sized : (s : Store) (counts : List ℕ) (rows : List Row) (n : ℕ) → IsTally s counts rows
    → ((i : ℕ) (t : Tree) → i < n → slice_get (trees s) i ≡ Some t → HasCount s counts t) → length s.stack ≤ n
    → AreWithin s (trees s) counts [] → length rows ≡ distinct (reachable s)
stack_sized s counts rows n tally counted enough within =
    distinct_counted s counts rows (trees s) (reachable s) tally
    (λ t h. (let at = at_contained (trees s) t h in
    let size = length-map s.stack (tree_at s) in
    counted at.0 t (let lt = slice_get_within (trees s) at.0 t at.1 in omega (arith, lt, size, enough)) at.1))
    within.counted
    (λ t u h k. reached s t u h k)
    (λ u h. (let r = reached_from s u h in (r.0, r.1, r.2)))

-- a place of the stack more
pub place_counted : (s : Store) (old new : List ℕ) (place : ℕ) (row : Row) → IsSound s
    → slice_get s.stack place ≡ Some row → ((r : Row) → IsCounted old r → IsCounted new r) → IsCounted new row
    → ((i : ℕ) (t : Tree) → i < place → slice_get (trees s) i ≡ Some t → HasCount s old t)
    → (i : ℕ) (t : Tree) → i < place + 1 → slice_get (trees s) i ≡ Some t → HasCount s new t
place_counted s old new place row sound at kept counted before i t lt e =
    elim (same_number i place) [
      | inl same ↦ (let f : Some t ≡ Some (tree_at s row) = sym e ∙ ap (slice_get (trees s)) same ∙ trees-at s place row at in
          subst (HasCount s new) (sym (some_same t (tree_at s row) f)) (row, has-held s row (held-stack s place row sound at), counted))
      | inr ne ↦ (let x = before i t (omega arith) e in (x.0, x.1, kept x.0 x.2))
    ]

pub place_within : (s : Store) (place : ℕ) (row : Row) → slice_get s.stack place ≡ Some row → IsWithin (trees s) (tree_at s row)
place_within s place row at = within_itself (trees s) (tree_at s row) (contains_at (trees s) place (tree_at s row) (trees-at s place row at))

pub place_added : (s : Store) (place : ℕ) (row : Row) (now count new : ℕ) → slice_get s.stack place ≡ Some row
    → now ≡ saturated (sum_by nodes (take place (trees s))) → count ≡ saturated (nodes (tree_at s row)) → new ≡ saturated (now + count)
    → new ≡ saturated (sum_by nodes (take (place + 1) (trees s)))
place_added s place row now count new at a b e =
    let n = nodes (tree_at s row) in
    let before = sum_by nodes (take place (trees s)) in
    e ∙ ap (λ m. saturated (m + count)) a ∙ ap (λ m. saturated (saturated before + m)) b
    ∙ saturated_sum before n ∙ ap saturated (sym (sum_more (trees s) place (tree_at s row) (trees-at s place row at)))
