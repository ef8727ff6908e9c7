-- A table's records by their numbers: what is before them, their trees, and that different ones
-- have different trees.
use Rattle.std.proofs.Common.{◌≡◌, ℕ, zero, suc, ◌<◌, ◌≤◌, Bool, true, false, not, ◌&&◌, cond, List, [], ◌∷◌, ◌++◌, length, get_or, slice_get, Some, refl, sym, ap, subst, ◌∙◌, arith, All, true≢false}
use Rattle.std.specs.Prelude.{map, nat_lt, unwrap_or}
use Rattle.std.specs.List.{list_any, list_all, AllByRecursion}
use Rattle.std.specs.Cmp.{first_so, second_so}
use Rattle.std.proofs.lemmas.Bool.{ltb-true, lt-ltb}
use Rattle.std.proofs.lemmas.List.{length-append}
use Rattle.std.proofs.lemmas.List.Elements.{All-head, All-tail}
use Rattle.std.proofs.lemmas.Option.{slice_get_within}
use Rattle.symbol_pool.specs.Pool.{Named}
use Rattle.symbol_pool.proofs.Places.{slice_get-append}
use Rattle.symbol_pool.proofs.Pools.{stands}
use Rattle.term_model.specs.declared.Head.TheVariants.{App}
use Rattle.term_model.specs.declared.Symbol.{Symbol}
use Rattle.term_model.specs.Tree.{Tree, Leaf, Node, trees_of}
use Rattle.term_file.specs.declared.record.Kind.{Kind}
use Rattle.term_file.specs.declared.record.Kind.TheVariants.{Call, Integer, Empty, Cell}
use Rattle.term_file.specs.Outcome.{head_of}
use Rattle.term_file.specs.Contents.{Record, trees, tree_at, tree_over}
use Rattle.term_file.specs.Right.{all_after, record_eq, is_new_record}
use Rattle.term_file.specs.Tables.{has_lesser}
use Rattle.term_file.specs.Sharing.{IsPlaced}
use Rattle.term_file.proofs.Facts.{split, passes_at, list_any_at, record_eq_refl}
use Rattle.term_file.proofs.Equations.{tree_of_record}
use Rattle.term_file.proofs.Tables.{length-table_of, table_of-push}
use Rattle.term_file.proofs.TableLaws.{all_after-push}
use Rattle.run_checks.specs.Held.{Held, Grows, IsPut, IsThere, term_at, term_over}
use Rattle.run_checks.specs.Shelved.{is_symbol_of, is_shelved, AreShelved}
use Rattle.run_checks.proofs.Growing.{grows_not}

-- ---- places of a list

-- what no earlier one equals stands at one place
once_before : {X : Type 0} (eq : X → X → Bool) (xs : List X) (i j : ℕ) (x : X) → eq x x ≡ true → ((front back : List X) → xs ≡ front ++ x ∷ back → not (list_any (eq x) front) ≡ true) → slice_get xs i ≡ Some x → slice_get xs j ≡ Some x → i < j → ⊥
once_before eq xs i j x same fresh at_i at_j lt =
    let s = split xs j x at_j in
    let there : slice_get s.front i ≡ Some x =
    sym (slice_get-append s.front (x ∷ s.back) i (omega (arith, s.size))) ∙ ap (λ ys. slice_get ys i) (sym s.whole) ∙ at_i in
    let found : list_any (eq x) s.front ≡ true = list_any_at (eq x) s.front i x there same in
    true≢false (sym (fresh s.front s.back s.whole) ∙ ap not found)

once : {X : Type 0} (eq : X → X → Bool) (xs : List X) (i j : ℕ) (x : X) → eq x x ≡ true → ((front back : List X) → xs ≡ front ++ x ∷ back → not (list_any (eq x) front) ≡ true) → slice_get xs i ≡ Some x → slice_get xs j ≡ Some x → i ≡ j
once eq xs i j x same fresh at_i at_j =
    let a : i < j → ⊥ = once_before eq xs i j x same fresh at_i at_j in
    let b : j < i → ⊥ = once_before eq xs j i x same fresh at_j at_i in
    omega (arith, a, b)

lesser_from : (n : ℕ) (ks : List ℕ) → list_all (λ k. nat_lt k n) ks ≡ true → AllByRecursion (λ k. k < n) ks
lesser_from n [] h = tt
lesser_from n (k ∷ ks) h = (ltb-true _ _ (first_so (nat_lt k n) _ h), lesser_from n ks (second_so (nat_lt k n) _ h))

all_from : (n : ℕ) (ks : List ℕ) → All (λ k. k < n) ks → list_all (λ k. nat_lt k n) ks ≡ true
all_from n [] h = refl
all_from n (k ∷ ks) h =
    let P : ℕ → Type 0 = λ k. k < n in
    ap (λ b. b && list_all (λ k. nat_lt k n) ks) (lt-ltb _ _ (All-head P k ks h)) ∙ all_from n ks (All-tail P k ks h)

-- ---- one record

pub record At (names : List Named) (records : List Record) (i : ℕ) (r : Record) : Type 0 where
  pub symbol : is_symbol_of names r.head ≡ true
  pub before : AllByRecursion (λ k. k < i) r.arguments
  pub tree : tree_at (trees records) i ≡ Node r.head (trees_of (map (tree_at (trees records)) r.arguments))

module _ (names : List Named) (records : List Record) (each : all_after (is_shelved names) [] records ≡ true) where
  shelved_at : (front : List Record) (r : Record) (back : List Record) → records ≡ front ++ r ∷ back → is_shelved names front r ≡ true
  shelved_at front r back e = passes_at (is_shelved names) [] front r back (ap (all_after (is_shelved names) []) (sym e) ∙ each)

  pub record_at : (i : ℕ) (r : Record) → slice_get records i ≡ Some r → At names records i r
  record_at i r at =
      let s = split records i r at in
      let p = shelved_at s.front r s.back s.whole in
      let q = first_so (has_lesser s.front r) _ (second_so (is_symbol_of names r.head) _ p) in
      let before : AllByRecursion (λ k. k < i) r.arguments = subst (λ n. AllByRecursion (λ k. k < n) r.arguments) s.size (lesser_from (length s.front) r.arguments q) in
      record {
        symbol = first_so (is_symbol_of names r.head) _ p;
        before = before;
        tree = tree_of_record records i r at before;
      }

  one_place : (i j : ℕ) (r : Record) → slice_get records i ≡ Some r → slice_get records j ≡ Some r → i ≡ j
  one_place i j r = once record_eq records i j r (record_eq_refl r) fresh
    where
      fresh : (front back : List Record) → records ≡ front ++ r ∷ back → not (list_any (record_eq r) front) ≡ true
      fresh front back e = second_so (has_lesser front r) _ (second_so (is_symbol_of names r.head) _ (shelved_at front r back e))

  abbrev T : ℕ → Tree
  T = tree_at (trees records)

  same_arguments : (i j : ℕ) (xs ys : List ℕ) → AllByRecursion (λ k. k < i) xs → AllByRecursion (λ k. k < j) ys → ((x y : ℕ) → x < i → y < j → T x ≡ T y → x ≡ y) → trees_of (map T xs) ≡ trees_of (map T ys) → xs ≡ ys
  same_arguments i j [] [] a b same e = refl
  same_arguments i j [] (y ∷ ys) a b same e = absurd cc
  same_arguments i j (x ∷ xs) [] a b same e = absurd cc
  same_arguments i j (x ∷ xs) (y ∷ ys) a b same e =
      let first : T x ≡ T y = cc in
      let others : trees_of (map T xs) ≡ trees_of (map T ys) = cc in
      let p = same x y a.0 b.0 first in
      let q = same_arguments i j xs ys a.1 b.1 same others in
      λ k. p k ∷ q k

  one_number : (bound i j : ℕ) → i < bound → i < length records → j < length records → T i ≡ T j → i ≡ j
  one_number zero i j lt a b e = absurd (omega arith)
  one_number (suc bound) i j lt a b e =
      let s = stands records i a in
      let t = stands records j b in
      let p = record_at i s.item s.at in
      let q = record_at j t.item t.at in
      let whole : Node s.item.head (trees_of (map T s.item.arguments)) ≡ Node t.item.head (trees_of (map T t.item.arguments)) = sym p.tree ∙ e ∙ q.tree in
      let head : s.item.head ≡ t.item.head = cc in
      let args : trees_of (map T s.item.arguments) ≡ trees_of (map T t.item.arguments) = cc in
      let numbers : s.item.arguments ≡ t.item.arguments = same_arguments i j s.item.arguments t.item.arguments p.before q.before (λ x y l m r. one_number bound x y (omega arith) (omega arith) (omega arith) r) args in
      let this : s.item ≡ t.item = λ k. record { head = head k; arguments = numbers k } in
      one_place i j t.item (s.at ∙ ap Some this) t.at

  pub same_number : (i j : ℕ) → i < length records → j < length records → T i ≡ T j → i ≡ j
  same_number i j a b e = one_number (suc i) i j (omega arith) a b e

-- ---- one record more

size : (records : List Record) → length (trees records) ≡ length records
size records = length-table_of tree_over records

kept : {X : Type 0} (xs ys : List X) (i : ℕ) (d : X) → i < length xs → unwrap_or (slice_get (xs ++ ys) i) d ≡ unwrap_or (slice_get xs i) d
kept xs ys i d lt = ap (λ o. unwrap_or o d) (slice_get-append xs ys i lt)

pub map_same : {Y : Type 0} (P : ℕ → Type 0) (f g : ℕ → Y) (xs : List ℕ) → All P xs → ((x : ℕ) → P x → f x ≡ g x) → map f xs ≡ map g xs
map_same P f g [] h same = refl
map_same P f g (x ∷ xs) h same = λ i. same x (All-head P x xs h) i ∷ map_same P f g xs (All-tail P x xs h) same i

abbrev holding : List Named → List Record → Held
holding names records = record { symbols = names; terms = trees records }

pub grows_more : (names : List Named) (old : List Record) (r : Record) → Grows (holding names old) (holding names (old ++ r ∷ []))
grows_more names old r =
    let e = table_of-push tree_over old r in
    record {
      symbols = refl;
      count = (let a = ap (λ (ts : List Tree). length ts) e in let b = length-append (trees old) (tree_over (trees old) r ∷ []) in omega (arith, a, b));
      same = λ n lt. ap (λ (ts : List Tree). tree_at ts n) e ∙ kept (trees old) (tree_over (trees old) r ∷ []) n (Leaf 0) lt;
    }

module _ (names : List Named) (old new : List Record) (r : Record) (n : ℕ) (is : AreShelved names old) (symbol : is_symbol_of names r.head ≡ true) (there : All (λ k. k < length (trees old)) r.arguments) where
  each_put : (b : Bool) → is_new_record old r ≡ b → new ≡ cond b (old ++ r ∷ []) old → all_after (is_shelved names) [] new ≡ true
  each_put false fresh e = ap (all_after (is_shelved names) []) e ∙ is.each
  each_put true fresh e =
      let lesser : has_lesser old r ≡ true = all_from (length old) r.arguments (subst (λ m. All (λ k. k < m) r.arguments) (size old) there) in
      let here : is_shelved names old r ≡ true = (λ i. symbol i && (lesser i && fresh i)) in
      ap (all_after (is_shelved names) []) e ∙ all_after-push (is_shelved names) [] old r is.each here

  grown_put : (b : Bool) → new ≡ cond b (old ++ r ∷ []) old → Grows (holding names old) (holding names new)
  grown_put false e = subst (λ (rs : List Record). Grows (holding names old) (holding names rs)) (sym e) (grows_not (holding names old))
  grown_put true e = subst (λ (rs : List Record). Grows (holding names old) (holding names rs)) (sym e) (grows_more names old r)

  pub stays_shelved : IsPlaced old new r n → length new ≤ 4294967295 → AreShelved names new
  stays_shelved p few = record { each = each_put (is_new_record old r) refl p.grown; few = few }

  pub is_put : IsPlaced old new r n → IsPut (holding names old) (holding names new) n (Node r.head (trees_of (map (tree_at (trees old)) r.arguments)))
  is_put p =
      let g = grown_put (is_new_record old r) p.grown in
      let a = record_at names new (each_put (is_new_record old r) refl p.grown) n r p.at in
      record {
        grows = g;
        there = (let w = slice_get_within new n r p.at in let s = size new in omega (arith, w, s));
        term = a.tree ∙ ap (λ ts. Node r.head (trees_of ts)) (map_same (λ k. k < length (trees old)) (tree_at (trees new)) (tree_at (trees old)) r.arguments there g.same);
      }

-- ---- as the table is seen

below_all : (i n : ℕ) (ns : List ℕ) → i < n → AllByRecursion (λ k. k < i) ns → All (λ k. k < n) ns
below_all i n [] lt a = λ k d l. absurd (omega arith)
below_all i n (m ∷ ns) lt a = one_more m ns (let b = a.0 in omega (arith, b, lt)) (below_all i n ns lt a.1)
  where
    one_more : (m : ℕ) (ns : List ℕ) → m < n → All (λ k. k < n) ns → All (λ k. k < n) (m ∷ ns)
    one_more m ns t b = λ k d. elim k as (λ (k : ℕ). k < length (m ∷ ns) → get_or (m ∷ ns) k d < n) [ zero ↦ λ _. t | suc k ↦ λ l. b k d (omega arith) ]

module _ (names : List Named) (records : List Record) (now : Held) (shown : holding names records ≡ now) (is : AreShelved names records) where
  pub there_shown : (a : ℕ) → IsThere now a → a < length records
  there_shown a l =
      let m : a < length (trees records) = subst (λ (h : Held). IsThere h a) (sym shown) l in
      let s = size records in
      omega (arith, m, s)

  pub all_there_shown : (ns : List ℕ) → All (IsThere now) ns → All (λ k. k < length records) ns
  all_there_shown ns a = λ k d lt. there_shown (get_or ns k d) (a k d lt)

  pub same_shown : (a b : ℕ) → IsThere now a → IsThere now b → term_at now a ≡ term_at now b → a ≡ b
  same_shown a b l m e =
      same_number names records is.each a b (there_shown a l) (there_shown b m) (ap (λ (h : Held). term_at h a) shown ∙ e ∙ sym (ap (λ (h : Held). term_at h b) shown))

  module _ (i f : ℕ) (r : Record) (at : slice_get records i ≡ Some r) (head : r.head ≡ App (record { 0 = f })) where
    pub term_shown : term_at now i ≡ term_over now (record { 0 = f }) r.arguments
    term_shown =
        let a = record_at names records is.each i r at in
        ap (λ (h : Held). term_at h i) (sym shown)
        ∙ a.tree
        ∙ (λ j. Node (head j) (trees_of (map (term_at (shown j)) r.arguments)))

    pub arguments_shown : All (IsThere now) r.arguments
    arguments_shown =
        let a = record_at names records is.each i r at in
        let w = slice_get_within records i r at in
        let s = size records in
        subst (λ (h : Held). All (IsThere h) r.arguments) shown (below_all i (length (trees records)) r.arguments (omega (arith, w, s)) a.before)

    pub symbol_shown : f < length now.symbols
    symbol_shown =
        let a = record_at names records is.each i r at in
        let b : nat_lt f (length names) ≡ true = ap (is_symbol_of names) (sym head) ∙ a.symbol in
        let lt = ltb-true f (length names) b in
        subst (λ (h : Held). f < length h.symbols) shown lt

-- a record's head is a symbol
pub only_symbols : (names : List Named) (records : List Record) (is : AreShelved names records) (i : ℕ) (r : Record) (k : Kind) → slice_get records i ≡ Some r → r.head ≡ head_of k → ((f : ℕ) → k ≡ Call f → ⊥) → ⊥
only_symbols names records is i r (Call f) at e n = n f refl
only_symbols names records is i r (Integer v) at e n =
    let a = record_at names records is.each i r at in
    let b : false ≡ true = ap (is_symbol_of names) (sym e) ∙ a.symbol in absurd cc
only_symbols names records is i r Empty at e n =
    let a = record_at names records is.each i r at in
    let b : false ≡ true = ap (is_symbol_of names) (sym e) ∙ a.symbol in absurd cc
only_symbols names records is i r Cell at e n =
    let a = record_at names records is.each i r at in
    let b : false ≡ true = ap (is_symbol_of names) (sym e) ∙ a.symbol in absurd cc

-- ---- a symbol over terms is put

module _ (names : List Named) (records new : List Record) (now : Held) (shown : holding names records ≡ now) (is : AreShelved names records) (f : Symbol) (ns : List ℕ) (n : ℕ) (symbol : f.0 < length now.symbols) (there : All (IsThere now) ns) (placed : IsPlaced records new (record { head = App f; arguments = ns }) n) where
  abbrev entry : Record
  entry = record { head = App f; arguments = ns }

  named : is_symbol_of names (App f) ≡ true
  named = lt-ltb f.0 (length names) (subst (λ (h : Held). f.0 < length h.symbols) (sym shown) symbol)

  below : All (λ k. k < length (trees records)) ns
  below = subst (λ (h : Held). All (IsThere h) ns) (sym shown) there

  pub kept_shelved : length new ≤ 4294967295 → AreShelved names new
  kept_shelved few = stays_shelved names records new entry n is named below placed few

  pub put_shown : IsPut now (holding names new) n (term_over now f ns)
  put_shown = subst (λ (h : Held). IsPut h (holding names new) n (term_over h f ns)) shown (is_put names records new entry n is named below placed)
