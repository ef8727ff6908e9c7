-- A table is looked up by its records, and one more record comes last.
use Rattle.std.proofs.Common.{◌≡◌, ℕ, zero, suc, ◌+◌, ◌<◌, Bool, true, false, not, ◌&&◌, ◌||◌, cond, ltb, List, [], ◌∷◌, ◌++◌, length, get_or, slice_get, Option, Some, None, refl, sym, ap, subst, ◌∙◌, true≢false, arith, All, position, append_assoc, append-nil}
use Rattle.std.specs.Prelude.{map, is_some, is_none, nat_eq, sum_by, IfSome, IfNone, slice_index}
use Rattle.std.specs.Option.{option_map}
use Rattle.std.specs.List.{list_any, list_all, AllByRecursion}
use Rattle.std.specs.Cmp.{first_so, second_so}
use Rattle.std.specs.Cmp.Lexicographic.{pointwise, bytes_decides}
use Rattle.std.proofs.lemmas.Bool.{ltb-true, lt-ltb}
use Rattle.std.proofs.lemmas.List.{length-map, map-append}
use Rattle.std.proofs.lemmas.List.Elements.{All-head, All-tail}
use Rattle.std.proofs.lemmas.List.Sums.{sum_by-cons}
use Rattle.std.proofs.lemmas.Option.{slice_get-map}
use Rattle.symbol_pool.specs.Pool.{Named, Holds, Lacks}
use Rattle.symbol_pool.proofs.Places.{within_place, some_at}
use Rattle.symbol_pool.proofs.Pools.{stands}
use Rattle.term_model.specs.declared.Symbol.{Symbol}
use Rattle.term_model.specs.Tree.{Tree, trees_of, head_eq, nodes, nodes_all}
use Rattle.term_model.proofs.Equality.{head_eq_sound}
use Rattle.symbol_pool.specs.Taking.{named_eq}
use Rattle.symbol_pool.proofs.Taking.{itself, same_named}
use Rattle.term_file.specs.declared.record.Kind.{Kind}
use Rattle.term_file.specs.declared.record.Kind.TheVariants.{Call, Integer, Empty, Cell}
use Rattle.term_file.specs.declared.record.Record as declared
use Rattle.term_file.specs.contracts.record.KindPartialEq.TheImpl as kinds
use Rattle.term_file.specs.contracts.record.RecordPartialEq.TheImpl as entries
use Rattle.term_file.specs.Contents.{Record, trees, tree_at, tree_over}
use Rattle.term_file.specs.Right.{all_after, is_new_symbol, record_eq, is_new_record}
use Rattle.term_file.specs.Outcome.{head_of, view, views}
use Rattle.term_file.specs.Tables.{at_most, least_nodes, least_over, has_lesser, IsTable, AreLesser}
use Rattle.term_file.proofs.Facts.{list_any_at, passes_at, split, record_eq_refl}
use Rattle.term_file.proofs.Tables.{length-table_of, table_of-push}

-- ---- symbols

none_there : (s : Named) (now : List Named) → Lacks now s → list_any (named_eq s) now ≡ false
none_there s [] lacks = refl
none_there s (y ∷ now) lacks = by (named_eq s y) refl (none_there s now (λ i. lacks (suc i)))
  where
    by : (b : Bool) → named_eq s y ≡ b → list_any (named_eq s) now ≡ false → (b || list_any (named_eq s) now) ≡ false
    by true e rest = absurd (lacks 0 (ap Some (sym (same_named s y e))))
    by false e rest = rest

-- whether a look-up finds nothing
pub new_symbol : (now : List Named) (s : Named) (r : Option Symbol) → IfSome r (λ f. Holds now f s) → IfNone r (Lacks now s) → is_none r ≡ is_new_symbol now s
new_symbol now s None found absent = ap not (sym (none_there s now absent))
new_symbol now s (Some f) found absent = ap not (sym (list_any_at (named_eq s) now f.0 s found (itself s)))

pub lacks_new : (now : List Named) (s : Named) → is_new_symbol now s ≡ true → Lacks now s
lacks_new now s fresh i at = true≢false (sym fresh ∙ ap not (list_any_at (named_eq s) now i s at (itself s)))

-- ---- equality of records

pub kind_eq_is : (k l : Kind) → (kinds.eq-value).it k l ≡ head_eq (head_of k) (head_of l)
kind_eq_is (Call f) (Call g) = refl
kind_eq_is (Call f) (Integer w) = refl
kind_eq_is (Call f) Empty = refl
kind_eq_is (Call f) Cell = refl
kind_eq_is (Integer v) (Call g) = refl
kind_eq_is (Integer v) (Integer w) = refl
kind_eq_is (Integer v) Empty = refl
kind_eq_is (Integer v) Cell = refl
kind_eq_is Empty (Call g) = refl
kind_eq_is Empty (Integer w) = refl
kind_eq_is Empty Empty = refl
kind_eq_is Empty Cell = refl
kind_eq_is Cell (Call g) = refl
kind_eq_is Cell (Integer w) = refl
kind_eq_is Cell Empty = refl
kind_eq_is Cell Cell = refl

abbrev pub entry_eq : declared.Record → declared.Record → Bool
entry_eq a b = (entries.eq-value).it a b

pub entry_eq_is : (a b : declared.Record) → entry_eq a b ≡ record_eq (view a) (view b)
entry_eq_is a b = ap (λ x. x && pointwise nat_eq a.arguments.items b.arguments.items) (kind_eq_is a.kind b.kind)

pub record_eq_sound : (r s : Record) → record_eq r s ≡ true → r ≡ s
record_eq_sound r s e =
    let h : r.head ≡ s.head = head_eq_sound r.head s.head (first_so (head_eq r.head s.head) _ e) in
    let a : r.arguments ≡ s.arguments = (bytes_decides r.arguments s.arguments).0 (second_so (head_eq r.head s.head) _ e) in
    λ i. record { head = h i; arguments = a i }

any_is : (a : declared.Record) (keys : List declared.Record) → list_any (record_eq (view a)) (views keys) ≡ list_any (entry_eq a) keys
any_is a [] = refl
any_is a (b ∷ keys) = λ i. sym (entry_eq_is a b) i || any_is a keys i

pub found_entry : (a : declared.Record) (keys : List declared.Record) (now : List Record) (r : Option ℕ) → r ≡ position (entry_eq a) keys → views keys ≡ now → IfSome r (λ i. slice_get now i ≡ Some (view a))
found_entry a keys now None e shown = tt
found_entry a keys now (Some i) e shown =
    let there = stands keys i (within_place (entry_eq a) keys i (sym e)) in
    let same : view a ≡ view there.item = record_eq_sound (view a) (view there.item) (sym (entry_eq_is a there.item) ∙ some_at (entry_eq a) keys i there.item (sym e) there.at) in
    ap (λ rs. slice_get rs i) (sym shown) ∙ slice_get-map view keys i ∙ ap (option_map view) there.at ∙ ap Some (sym same)

pub absent_entry : (a : declared.Record) (keys : List declared.Record) (now : List Record) (r : Option ℕ) → is_some r ≡ list_any (entry_eq a) keys → views keys ≡ now → IfNone r (is_new_record now (view a) ≡ true)
absent_entry a keys now None e shown = ap (λ rs. is_new_record rs (view a)) (sym shown) ∙ ap not (any_is a keys ∙ sym e)
absent_entry a keys now (Some i) e shown = tt

-- ---- one more record

module _ (a : declared.Record) (keys new : List declared.Record) (old : List Record) where
  pub comes_last : new ≡ cond (list_any (entry_eq a) keys) keys (keys ++ a ∷ []) → views keys ≡ old → is_new_record old (view a) ≡ true → views new ≡ old ++ view a ∷ []
  comes_last e shown fresh =
      let none : list_any (entry_eq a) keys ≡ false = not_true _ (ap not (sym (any_is a keys)) ∙ ap (λ rs. is_new_record rs (view a)) shown ∙ fresh) in
      ap views (e ∙ ap (λ b. cond b keys (keys ++ a ∷ [])) none) ∙ map-append view keys (a ∷ []) ∙ ap (λ rs. rs ++ view a ∷ []) shown
    where
      not_true : (b : Bool) → not b ≡ true → b ≡ false
      not_true true h = absurd cc
      not_true false h = refl

all_from : (n : ℕ) (ks : List ℕ) → All (λ k. k < n) ks → list_all (λ k. ltb k n) ks ≡ true
all_from n [] h = refl
all_from n (k ∷ ks) h =
    let P : ℕ → Type 0 = λ k. k < n in
    ap (λ b. b && list_all (λ k. ltb k n) ks) (lt-ltb _ _ (All-head P k ks h)) ∙ all_from n ks (All-tail P k ks h)

pub all_after-push : {X : Type 0} (p : List X → X → Bool) (before xs : List X) (x : X) → all_after p before xs ≡ true → p (before ++ xs) x ≡ true → all_after p before (xs ++ x ∷ []) ≡ true
all_after-push p before [] x all last = ap (λ b. b && true) (ap (λ b. p b x) (sym (append-nil before)) ∙ last)
all_after-push p before (y ∷ xs) x all last =
    let there = all_after-push p (before ++ y ∷ []) xs x (second_so (p before y) _ all) (ap (λ b. p b x) (append_assoc before (y ∷ []) xs) ∙ last) in
    ap (λ b. b && all_after p (before ++ y ∷ []) (xs ++ x ∷ [])) (first_so (p before y) _ all) ∙ there

-- ---- nodes

-- what is at a place of counts
count_at : (ts : List Tree) (i : ℕ) → i < length ts → slice_index (map least_nodes ts) i ≡ least_nodes (tree_at ts i)
count_at [] i lt = absurd (omega arith)
count_at (t ∷ ts) zero lt = refl
count_at (t ∷ ts) (suc i) lt = count_at ts i (omega arith)

sums : (counts : List ℕ) (ts : List Tree) → counts ≡ map least_nodes ts → (ks : List ℕ) (extra : ℕ) → All (λ k. k < length ts) ks → at_most (sum_by (λ i. slice_index counts i) ks + extra) ≡ at_most (nodes_all (trees_of (map (tree_at ts) ks)) + extra)
sums counts ts e [] extra h = refl
sums counts ts e (k ∷ ks) extra h =
    let P : ℕ → Type 0 = λ k. k < length ts in
    let here : slice_index counts k ≡ least_nodes (tree_at ts k) = ap (λ cs. slice_index cs k) e ∙ count_at ts k (All-head P k ks h) in
    let rest = sums counts ts e ks (nodes (tree_at ts k) + extra) (All-tail P k ks h) in
    let first = sum_by-cons (λ i. slice_index counts i) k ks in
    omega (arith, here, rest, first)

pub nodes_of_record : (counts : List ℕ) (records : List Record) (r : Record) → counts ≡ map least_nodes (trees records) → All (λ k. k < length records) r.arguments → least_over counts r.arguments ≡ least_nodes (tree_over (trees records) r)
nodes_of_record counts records r e h =
    let len : length (trees records) ≡ length records = length-table_of tree_over records in
    sums counts (trees records) e r.arguments 1 (subst (λ n. All (λ k. k < n) r.arguments) (sym len) h)

pub table_grown : (records : List Record) (counts more : List ℕ) (r : Record) (n : ℕ) → IsTable records counts → All (λ k. k < length records) r.arguments → more ≡ counts ++ n ∷ [] → n ≡ least_over counts r.arguments → IsTable (records ++ r ∷ []) more
table_grown records counts more r n is h e n_is = record {
  lesser = all_after-push has_lesser [] records r is.lesser (all_from (length records) r.arguments h);
  nodes_are = e
      ∙ ap (λ cs. cs ++ n ∷ []) is.nodes_are
      ∙ ap (λ k. map least_nodes (trees records) ++ k ∷ []) (n_is ∙ nodes_of_record counts records r is.nodes_are h)
      ∙ sym (map-append least_nodes (trees records) (tree_over (trees records) r ∷ []))
      ∙ ap (map least_nodes) (sym (table_of-push tree_over records r));
}

pub counts_size : (records : List Record) (counts : List ℕ) → IsTable records counts → length counts ≡ length records
counts_size records counts is = ap (λ (cs : List ℕ). length cs) is.nodes_are ∙ length-map (trees records) least_nodes ∙ length-table_of tree_over records

pub count_of : (records : List Record) (counts : List ℕ) (i : ℕ) → IsTable records counts → i < length records → slice_index counts i ≡ least_nodes (tree_at (trees records) i)
count_of records counts i is lt =
    let len : length (trees records) ≡ length records = length-table_of tree_over records in
    ap (λ cs. slice_index cs i) is.nodes_are ∙ count_at (trees records) i (omega arith)

-- the arguments of the record with a number have lesser numbers
lesser_from : (n : ℕ) (ks : List ℕ) → list_all (λ k. ltb k n) ks ≡ true → AllByRecursion (λ k. k < n) ks
lesser_from n [] h = tt
lesser_from n (k ∷ ks) h = (ltb-true _ _ (first_so (ltb k n) _ h), lesser_from n ks (second_so (ltb k n) _ h))

pub lesser_at : (records : List Record) (counts : List ℕ) (i : ℕ) (r : Record) → IsTable records counts → slice_get records i ≡ Some r → AllByRecursion (λ k. k < i) r.arguments
lesser_at records counts i r is at =
    let s = split records i r at in
    let p = passes_at has_lesser [] s.front r s.back (ap (all_after has_lesser []) (sym s.whole) ∙ is.lesser) in
    subst (λ n. AllByRecursion (λ k. k < n) r.arguments) s.size (lesser_from (length s.front) r.arguments p)

pub counts_shown : (records now : List Record) (counts : List ℕ) → records ≡ now → IsTable records counts → length counts ≡ length now
counts_shown records now counts e is = counts_size records counts is ∙ ap (λ (rs : List Record). length rs) e

pub count_shown : (records now : List Record) (counts : List ℕ) (i : ℕ) → records ≡ now → IsTable records counts → i < length now → slice_index counts i ≡ least_nodes (tree_at (trees now) i)
count_shown records now counts i e is lt = count_of now counts i (subst (λ (rs : List Record). IsTable rs counts) e is) lt

pub lesser_shown : (records now : List Record) (counts : List ℕ) (i : ℕ) (r : Record) → records ≡ now → IsTable records counts → slice_get now i ≡ Some r → AllByRecursion (λ k. k < i) r.arguments
lesser_shown records now counts i r e is at = lesser_at now counts i r (subst (λ (rs : List Record). IsTable rs counts) e is) at

pub are_lesser : (records now : List Record) (counts : List ℕ) → records ≡ now → IsTable records counts → AreLesser now
are_lesser records now counts e is = record { lesser = λ i r at. lesser_shown records now counts i r e is at }

-- a look-up that found nothing
pub none_is : (r : Option Symbol) (b : Bool) → is_some r ≡ not b → b ≡ is_none r
none_is None true e = refl
none_is None false e = absurd cc
none_is (Some f) true e = absurd cc
none_is (Some f) false e = refl

default_free : (xs : List ℕ) (i d e : ℕ) → i < length xs → get_or xs i d ≡ get_or xs i e
default_free [] i d e lt = absurd (omega arith)
default_free (x ∷ xs) zero d e lt = refl
default_free (x ∷ xs) (suc i) d e lt = default_free xs i d e (omega arith)

pub count_read : (records now : List Record) (counts : List ℕ) (i n : ℕ) → records ≡ now → IsTable records counts → i < length now → n ≡ get_or counts i n → n ≡ least_nodes (tree_at (trees now) i)
count_read records now counts i n e is lt at = at ∙ default_free counts i n 0 (omega (arith, counts_shown records now counts e is)) ∙ count_shown records now counts i e is lt

-- a record that is there is not new
pub not_new : (now : List Record) (i : ℕ) (r : Record) → slice_get now i ≡ Some r → is_new_record now r ≡ false
not_new now i r at = ap not (list_any_at (record_eq r) now i r at (record_eq_refl r))
