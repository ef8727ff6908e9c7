-- A list of terms has one file.
use Rattle.std.proofs.Common.{◌≡◌, ℕ, zero, suc, ◌<◌, true, ltb, List, [], ◌∷◌, ◌++◌, length, slice_get, Some, refl, sym, ap, subst, ◌∙◌, arith}
use Rattle.std.specs.Prelude.{map}
use Rattle.std.specs.List.{flat_map, AllZip, AllByRecursion, list_all}
use Rattle.std.specs.Cmp.{first_so, second_so}
use Rattle.std.proofs.lemmas.Bool.{ltb-true}
use Rattle.std.proofs.lemmas.Option.{slice_get_within}
use Rattle.symbol_pool.specs.Pool.{Named}
use Rattle.symbol_pool.proofs.Pools.{stands}
use Rattle.term_model.specs.declared.Head.{Head}
use Rattle.term_model.specs.declared.Head.TheVariants.{App, Int, Nil, Cons}
use Rattle.term_model.specs.Tree.{Tree, trees_of}
use Rattle.term_file.specs.Contents.{Record, Contents, trees, tree_at, terms}
use Rattle.term_file.specs.InOrder.{visits, visits_at, walk, used_by, uses}
use Rattle.term_file.specs.Right.{IsRight, all_after, is_right_symbol, is_right_head}
use Rattle.term_file.specs.File.{Terms, IsFile, terms_in, file_bytes}
use Rattle.term_file.specs.NamedTree.{NamedTree, Over, NamedTrees, None_more, One_more, named_head, named_tree, named_trees, AreSame}
use Rattle.term_file.proofs.Facts.{one_symbol, one_record, facts_at, RecordFacts}
use Rattle.term_file.proofs.Equations.{tree_of_record, visits_of_record}
use Rattle.term_file.proofs.Zips.{zip_append, zip_flat, zip_at, same_by_number, Together, together}

-- ---- named trees as lists

abbrev all_named : List NamedTree → NamedTrees
all_named [] = None_more
all_named (t ∷ ts) = One_more t (all_named ts)

named_list : (names : List Named) (f : ℕ → Tree) (ks : List ℕ) → named_trees names (trees_of (map f ks)) ≡ all_named (map (λ k. named_tree names (f k)) ks)
named_list names f [] = refl
named_list names f (k ∷ ks) = ap (One_more (named_tree names (f k))) (named_list names f ks)

-- ---- the named tree of a number

abbrev named_at : Contents → ℕ → NamedTree
named_at c i = named_tree c.symbols (tree_at (trees c.records) i)

record At (c : Contents) (i : ℕ) : Type 0 where
  this : Record
  at : slice_get c.records i ≡ Some this
  facts : RecordFacts c.symbols c.records i this
  named : named_at c i ≡ Over (named_head c.symbols this.head) (all_named (map (named_at c) this.arguments))
  visited : visits_at (visits c.records) i ≡ flat_map (visits_at (visits c.records)) this.arguments ++ i ∷ []

at_number : (c : Contents) → IsRight c → (i : ℕ) → i < length c.records → At c i
at_number c right i lt =
    let s = stands c.records i lt in
    let facts = facts_at c.symbols c.records right.records_right i s.item s.at in
    record {
      this = s.item;
      at = s.at;
      facts = facts;
      named = ap (named_tree c.symbols) (tree_of_record c.records i s.item s.at facts.before) ∙ ap (Over (named_head c.symbols s.item.head)) (named_list c.symbols (tree_at (trees c.records)) s.item.arguments);
      visited = visits_of_record c.records i s.item s.at facts.before;
    }

-- ---- heads

-- heads of one file with one name are one
same_head : (symbols : List Named) (h g : Head) → all_after is_right_symbol [] symbols ≡ true → is_right_head symbols h ≡ true → is_right_head symbols g ≡ true → named_head symbols h ≡ named_head symbols g → h ≡ g
same_head symbols (App f) (App g) right a b e =
    let s = stands symbols f.0 (ltb-true _ _ a) in
    let same : slice_get symbols f.0 ≡ slice_get symbols g.0 = cc in
    ap (λ n. App (record { 0 = n })) (one_symbol symbols f.0 g.0 s.item right s.at (sym same ∙ s.at))
same_head symbols (App f) (Int w) right a b e = absurd cc
same_head symbols (App f) Nil right a b e = absurd cc
same_head symbols (App f) Cons right a b e = absurd cc
same_head symbols (Int v) (App g) right a b e = absurd cc
same_head symbols (Int v) (Int w) right a b e = let same : v ≡ w = cc in ap Int same
same_head symbols (Int v) Nil right a b e = absurd cc
same_head symbols (Int v) Cons right a b e = absurd cc
same_head symbols Nil (App g) right a b e = absurd cc
same_head symbols Nil (Int w) right a b e = absurd cc
same_head symbols Nil Nil right a b e = refl
same_head symbols Nil Cons right a b e = absurd cc
same_head symbols Cons (App g) right a b e = absurd cc
same_head symbols Cons (Int w) right a b e = absurd cc
same_head symbols Cons Nil right a b e = absurd cc
same_head symbols Cons Cons right a b e = refl

-- ---- different records have different terms

same_numbers : (c : Contents) (i j : ℕ) (xs ys : List ℕ) → AllByRecursion (λ k. k < i) xs → AllByRecursion (λ k. k < j) ys → ((x y : ℕ) → x < i → y < j → named_at c x ≡ named_at c y → x ≡ y) → all_named (map (named_at c) xs) ≡ all_named (map (named_at c) ys) → xs ≡ ys
same_numbers c i j [] [] a b same e = refl
same_numbers c i j [] (y ∷ ys) a b same e = absurd cc
same_numbers c i j (x ∷ xs) [] a b same e = absurd cc
same_numbers c i j (x ∷ xs) (y ∷ ys) a b same e =
    let first : named_at c x ≡ named_at c y = cc in
    let others : all_named (map (named_at c) xs) ≡ all_named (map (named_at c) ys) = cc in
    let p = same x y a.0 b.0 first in
    let q = same_numbers c i j xs ys a.1 b.1 same others in
    λ k. p k ∷ q k

one_number : (c : Contents) → IsRight c → (bound i j : ℕ) → i < bound → i < length c.records → j < length c.records → named_at c i ≡ named_at c j → i ≡ j
one_number c right zero i j lt a b e = absurd (omega arith)
one_number c right (suc bound) i j lt a b e =
    let p = at_number c right i a in
    let q = at_number c right j b in
    let whole : Over (named_head c.symbols p.this.head) (all_named (map (named_at c) p.this.arguments)) ≡ Over (named_head c.symbols q.this.head) (all_named (map (named_at c) q.this.arguments)) = sym p.named ∙ e ∙ q.named in
    let heads : named_head c.symbols p.this.head ≡ named_head c.symbols q.this.head = cc in
    let args : all_named (map (named_at c) p.this.arguments) ≡ all_named (map (named_at c) q.this.arguments) = cc in
    let head : p.this.head ≡ q.this.head = same_head c.symbols p.this.head q.this.head right.symbols_right p.facts.head_right q.facts.head_right heads in
    let numbers : p.this.arguments ≡ q.this.arguments = same_numbers c i j p.this.arguments q.this.arguments p.facts.before q.facts.before (λ x y l m s. one_number c right bound x y (omega arith) (omega arith) (omega arith) s) args in
    let this : p.this ≡ q.this = λ k. record { head = head k; arguments = numbers k } in
    one_record c.symbols c.records right.records_right i j q.this (p.at ∙ ap Some this) q.at

-- ---- two files with the same terms

module _ (c d : Contents) (rc : IsRight c) (rd : IsRight d) where
  -- records of the two that have the same term
  record Same (i j : ℕ) : Type 0 where
    left : i < length c.records
    right : j < length d.records
    same : named_at c i ≡ named_at d j

  one_left : (i k j : ℕ) → Same i j → Same k j → i ≡ k
  one_left i k j p q = one_number c rc (suc i) i k (omega arith) p.left q.left (p.same ∙ sym q.same)

  one_right : (i j k : ℕ) → Same i j → Same i k → j ≡ k
  one_right i j k p q = one_number d rd (suc j) j k (omega arith) p.right q.right (sym p.same ∙ q.same)

  -- arguments of two records with the same term
  record Below (i x y : ℕ) : Type 0 where
    low : x < i
    is : Same x y

  arguments_zip : (i j : ℕ) (xs ys : List ℕ) → i < length c.records → j < length d.records → AllByRecursion (λ k. k < i) xs → AllByRecursion (λ k. k < j) ys → all_named (map (named_at c) xs) ≡ all_named (map (named_at d) ys) → AllZip (Below i) xs ys
  arguments_zip i j [] [] li lj a b e = tt
  arguments_zip i j [] (y ∷ ys) li lj a b e = absurd cc
  arguments_zip i j (x ∷ xs) [] li lj a b e = absurd cc
  arguments_zip i j (x ∷ xs) (y ∷ ys) li lj a b e =
      let first : named_at c x ≡ named_at d y = cc in
      let others : all_named (map (named_at c) xs) ≡ all_named (map (named_at d) ys) = cc in
      (record { low = a.0; is = record { left = omega (arith, a.0); right = omega (arith, b.0); same = first } }, arguments_zip i j xs ys li lj a.1 b.1 others)

  record Pair (i j : ℕ) : Type 0 where
    of_c : At c i
    of_d : At d j
    heads : named_head c.symbols of_c.this.head ≡ named_head d.symbols of_d.this.head
    arguments : AllZip (Below i) of_c.this.arguments of_d.this.arguments

  pair : (i j : ℕ) → Same i j → Pair i j
  pair i j s =
      let p = at_number c rc i s.left in
      let q = at_number d rd j s.right in
      let whole : Over (named_head c.symbols p.this.head) (all_named (map (named_at c) p.this.arguments)) ≡ Over (named_head d.symbols q.this.head) (all_named (map (named_at d) q.this.arguments)) = sym p.named ∙ s.same ∙ q.named in
      let heads : named_head c.symbols p.this.head ≡ named_head d.symbols q.this.head = cc in
      let args : all_named (map (named_at c) p.this.arguments) ≡ all_named (map (named_at d) q.this.arguments) = cc in
      record { of_c = p; of_d = q; heads = heads; arguments = arguments_zip i j p.this.arguments q.this.arguments s.left s.right p.facts.before q.facts.before args }

  -- the visits of two records with the same term
  visits_zip : (bound i j : ℕ) → i < bound → Same i j → AllZip Same (visits_at (visits c.records) i) (visits_at (visits d.records) j)
  visits_zip zero i j lt s = absurd (omega arith)
  visits_zip (suc bound) i j lt s =
      let p = pair i j s in
      let front = zip_flat (Below i) Same (visits_at (visits c.records)) (visits_at (visits d.records)) p.of_c.this.arguments p.of_d.this.arguments p.arguments (λ x y b. visits_zip bound x y (omega (arith, b.low)) b.is) in
      let both = zip_append Same (flat_map (visits_at (visits c.records)) p.of_c.this.arguments) (i ∷ []) (flat_map (visits_at (visits d.records)) p.of_d.this.arguments) (j ∷ []) front (s, tt) in
      subst (λ (vs : List ℕ). AllZip Same vs (visits_at (visits d.records) j)) (sym p.of_c.visited)
      (subst (λ (vs : List ℕ). AllZip Same (flat_map (visits_at (visits c.records)) p.of_c.this.arguments ++ i ∷ []) vs) (sym p.of_d.visited) both)

  roots_zip : (xs ys : List ℕ) → list_all (λ r. ltb r (length c.records)) xs ≡ true → list_all (λ r. ltb r (length d.records)) ys ≡ true → AreSame c.symbols (map (tree_at (trees c.records)) xs) d.symbols (map (tree_at (trees d.records)) ys) → AllZip Same xs ys
  roots_zip [] [] a b e = tt
  roots_zip [] (y ∷ ys) a b e = absurd cc
  roots_zip (x ∷ xs) [] a b e = absurd cc
  roots_zip (x ∷ xs) (y ∷ ys) a b e =
      let first : named_at c x ≡ named_at d y = cc in
      let others : AreSame c.symbols (map (tree_at (trees c.records)) xs) d.symbols (map (tree_at (trees d.records)) ys) = cc in (
        record { left = ltb-true _ _ (first_so (ltb x (length c.records)) _ a); right = ltb-true _ _ (first_so (ltb y (length d.records)) _ b); same = first },
        roots_zip xs ys (second_so (ltb x (length c.records)) _ a) (second_so (ltb y (length d.records)) _ b) others,
      )

  module _ (same_terms : AreSame c.symbols (terms c) d.symbols (terms d)) where
    zipped_roots : AllZip Same c.roots d.roots
    zipped_roots = roots_zip c.roots d.roots rc.roots_right rd.roots_right same_terms

    zipped_walk : AllZip Same (walk c) (walk d)
    zipped_walk = zip_flat Same Same (visits_at (visits c.records)) (visits_at (visits d.records)) c.roots d.roots zipped_roots (λ i j s. visits_zip (suc i) i j (omega arith) s)

    walks : Together Same one_left one_right (walk c) (walk d) (length c.records) (length d.records)
    walks = together Same one_left one_right 0 (λ k lt. absurd (omega arith)) (walk c) (walk d) zipped_walk (length c.records) (length d.records) rc.visits_in_order rd.visits_in_order

    each : (k : ℕ) → k < length c.records → Same k k
    each k lt = walks.each k lt

    numbers_same : (xs ys : List ℕ) → AllZip Same xs ys → xs ≡ ys
    numbers_same [] [] h = refl
    numbers_same [] (y ∷ ys) h = absurd h
    numbers_same (x ∷ xs) [] h = absurd h
    numbers_same (x ∷ xs) (y ∷ ys) h =
        let s : Same x y = h.0 in
        let p : x ≡ y = one_right x x y (each x s.left) s in
        let q = numbers_same xs ys h.1 in
        λ i. p i ∷ q i

    -- symbols of the two that are the same
    record Shared (f g : ℕ) : Type 0 where
      left : f < length c.symbols
      right : g < length d.symbols
      same : slice_get c.symbols f ≡ slice_get d.symbols g

    symbol_left : (f h g : ℕ) → Shared f g → Shared h g → f ≡ h
    symbol_left f h g p q =
        let s = stands c.symbols f p.left in
        one_symbol c.symbols f h s.item rc.symbols_right s.at (q.same ∙ sym p.same ∙ s.at)

    symbol_right : (f g h : ℕ) → Shared f g → Shared f h → g ≡ h
    symbol_right f g h p q =
        let s = stands d.symbols g p.right in
        one_symbol d.symbols g h s.item rd.symbols_right s.at (sym q.same ∙ p.same ∙ s.at)

    -- heads of the two that have the same name
    record Heads (r q : Record) : Type 0 where
      left : is_right_head c.symbols r.head ≡ true
      right : is_right_head d.symbols q.head ≡ true
      same : named_head c.symbols r.head ≡ named_head d.symbols q.head

    uses_zip : (h g : Head) → is_right_head c.symbols h ≡ true → is_right_head d.symbols g ≡ true → named_head c.symbols h ≡ named_head d.symbols g → AllZip Shared (used_by h) (used_by g)
    uses_zip (App f) (App g) a b e = (record { left = ltb-true _ _ a; right = ltb-true _ _ b; same = cc }, tt)
    uses_zip (App f) (Int w) a b e = absurd cc
    uses_zip (App f) Nil a b e = absurd cc
    uses_zip (App f) Cons a b e = absurd cc
    uses_zip (Int v) (App g) a b e = absurd cc
    uses_zip (Int v) (Int w) a b e = tt
    uses_zip (Int v) Nil a b e = tt
    uses_zip (Int v) Cons a b e = tt
    uses_zip Nil (App g) a b e = absurd cc
    uses_zip Nil (Int w) a b e = tt
    uses_zip Nil Nil a b e = tt
    uses_zip Nil Cons a b e = tt
    uses_zip Cons (App g) a b e = absurd cc
    uses_zip Cons (Int w) a b e = tt
    uses_zip Cons Nil a b e = tt
    uses_zip Cons Cons a b e = tt

    heads_at : (k : ℕ) (r q : Record) → slice_get c.records k ≡ Some r → slice_get d.records k ≡ Some q → Heads r q
    heads_at k r q at_c at_d =
        let p = pair k k (each k (slice_get_within c.records k r at_c)) in
        let of_c : Some p.of_c.this ≡ Some r = sym p.of_c.at ∙ at_c in
        let of_d : Some p.of_d.this ≡ Some q = sym p.of_d.at ∙ at_d in
        let this_c : p.of_c.this ≡ r = cc in
        let this_d : p.of_d.this ≡ q = cc in
        record {
          left = ap (λ (s : Record). is_right_head c.symbols s.head) (sym this_c) ∙ p.of_c.facts.head_right;
          right = ap (λ (s : Record). is_right_head d.symbols s.head) (sym this_d) ∙ p.of_d.facts.head_right;
          same = ap (λ (s : Record). named_head c.symbols s.head) (sym this_c) ∙ p.heads ∙ ap (λ (s : Record). named_head d.symbols s.head) this_d;
        }

    zipped_uses : AllZip Shared (uses c.records) (uses d.records)
    zipped_uses = zip_flat Heads Shared (λ (r : Record). used_by r.head) (λ (r : Record). used_by r.head) c.records d.records (zip_at Heads c.records d.records walks.count heads_at) (λ r q h. uses_zip r.head q.head h.left h.right h.same)

    used : Together Shared symbol_left symbol_right (uses c.records) (uses d.records) (length c.symbols) (length d.symbols)
    used = together Shared symbol_left symbol_right 0 (λ k lt. absurd (omega arith)) (uses c.records) (uses d.records) zipped_uses (length c.symbols) (length d.symbols) rc.uses_in_order rd.uses_in_order

    symbols_same : c.symbols ≡ d.symbols
    symbols_same = same_by_number c.symbols d.symbols used.count (λ k lt. (used.each k lt).same)

    zip_below : (k : ℕ) (xs ys : List ℕ) → AllZip (Below k) xs ys → AllZip Same xs ys
    zip_below k [] [] h = tt
    zip_below k [] (y ∷ ys) h = absurd h
    zip_below k (x ∷ xs) [] h = absurd h
    zip_below k (x ∷ xs) (y ∷ ys) h = (h.0.is, zip_below k xs ys h.1)

    records_same : c.records ≡ d.records
    records_same = same_by_number c.records d.records walks.count by
      where
        by : (k : ℕ) → k < length c.records → slice_get c.records k ≡ slice_get d.records k
        by k lt =
            let p = pair k k (each k lt) in
            let named : named_head d.symbols p.of_c.this.head ≡ named_head d.symbols p.of_d.this.head = ap (λ (ss : List Named). named_head ss p.of_c.this.head) (sym symbols_same) ∙ p.heads in
            let right : is_right_head d.symbols p.of_c.this.head ≡ true = ap (λ (ss : List Named). is_right_head ss p.of_c.this.head) (sym symbols_same) ∙ p.of_c.facts.head_right in
            let head : p.of_c.this.head ≡ p.of_d.this.head = same_head d.symbols p.of_c.this.head p.of_d.this.head rd.symbols_right right p.of_d.facts.head_right named in
            let args : p.of_c.this.arguments ≡ p.of_d.this.arguments = numbers_same p.of_c.this.arguments p.of_d.this.arguments (zip_below k p.of_c.this.arguments p.of_d.this.arguments p.arguments) in
            p.of_c.at ∙ (λ i. Some (record { head = head i; arguments = args i })) ∙ sym p.of_d.at

    pub contents_same : c ≡ d
    contents_same = λ i. record { symbols = symbols_same i; records = records_same i; roots = numbers_same c.roots d.roots zipped_roots i }

pub one_file : (file other : List ℕ) (ts us : Terms) → IsFile file ts → IsFile other us → AreSame ts.symbols ts.trees us.symbols us.trees → file ≡ other
one_file file other ts us a b same =
    let in_c : AreSame (terms_in a.contents).symbols (terms_in a.contents).trees us.symbols us.trees = subst (λ (t : Terms). AreSame t.symbols t.trees us.symbols us.trees) a.terms_are same in
    let in_d : AreSame a.contents.symbols (terms a.contents) b.contents.symbols (terms b.contents) = subst (λ (u : Terms). AreSame a.contents.symbols (terms a.contents) u.symbols u.trees) b.terms_are in_c in
    a.bytes_are ∙ ap file_bytes (contents_same a.contents b.contents a.right b.right in_d) ∙ sym b.bytes_are
