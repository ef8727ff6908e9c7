-- An item more is shared.
use Rattle.std.proofs.Common.{◌≡◌, ℕ, suc, ◌+◌, ◌<◌, ◌≤◌, Bool, true, false, ◌&&◌, cond, ltb, eqb, List, [], ◌∷◌, ◌++◌, length, slice_get, Option, Some, None, refl, sym, ap, subst, ◌∙◌, arith, inl, inr, ◌⊎◌, append_assoc, append-nil, true≢false}
use Rattle.std.specs.Prelude.{map, unwrap_or, option_and_then}
use Rattle.std.specs.Option.{option_map_or}
use Rattle.std.specs.List.{flat_map, AllByRecursion, list_all}
use Rattle.std.specs.Cmp.{first_so, second_so}
use Rattle.std.proofs.lemmas.Bool.{ltb-true, lt-ltb, le-ltb, eq-eqb, cases_lt}
use Rattle.std.proofs.lemmas.List.{length-append, length-map, map-append}
use Rattle.std.proofs.lemmas.List.Folds.{list_all-append}
use Rattle.std.proofs.lemmas.Grind.{flat_map-append}
use Rattle.std.proofs.lemmas.Option.{slice_get_within}
use Rattle.symbol_pool.specs.Pool.{Named}
use Rattle.symbol_pool.proofs.Places.{slice_get-append}
use Rattle.symbol_pool.proofs.Pools.{stands}
use Rattle.term_model.specs.declared.Head.{Head}
use Rattle.term_model.specs.declared.Head.TheVariants as head
use Rattle.term_model.specs.declared.Item.{Item}
use Rattle.term_model.specs.Tree.{Tree, Leaf, Node, Trees, trees_of, may_be_list, may_stand_over}
use Rattle.term_model.specs.Postorder.{arity_of}
use Rattle.tree_text.specs.Text.{has_names}
use Rattle.term_file.specs.Contents.{Record, Contents, trees, tree_at, tree_over}
use Rattle.term_file.specs.InOrder.{came_after, visits, visits_at, visits_over, walk, used_by, uses}
use Rattle.term_file.specs.Right.{all_after, is_right_symbol, is_right_head, is_right_record, is_new_record, arity_in, is_list, is_list_at, may_be_argument, may_be_arguments}
use Rattle.term_file.specs.NamedTree.{Cell, NamedTree, Over, NamedTrees, None_more, One_more, named_head, named_tree, named_trees, AreSame}
use Rattle.term_file.specs.Sharing.{Shares, IsPlaced}
use Rattle.term_file.proofs.SymbolFields.{both_true}
use Rattle.term_file.proofs.Ordered.{came_on}
use Rattle.term_file.proofs.Facts.{facts_at, RecordFacts}
use Rattle.term_file.proofs.Tables.{entry_before}
use Rattle.term_file.proofs.TableLaws.{all_after-push, not_new}
use Rattle.term_file.proofs.Equations.{tree_of_record, visits_of_record}
use Rattle.term_file.proofs.TermLaws.{term_below}
use Rattle.term_file.proofs.Naming.{grown_tree}
use Rattle.term_file.proofs.Pushing as pushing
use Rattle.term_file.proofs.Renaming.{Renamed, Stayed, Grown}

-- ---- tests that hold of more

all_after-more : {X : Type 0} (p q : List X → X → Bool) → ((before : List X) (x : X) → p before x ≡ true → q before x ≡ true) → (before xs : List X) → all_after p before xs ≡ true → all_after q before xs ≡ true
all_after-more p q more before [] h = refl
all_after-more p q more before (x ∷ xs) h =
    both_true _ _ (more before x (first_so (p before x) _ h)) (all_after-more p q more (before ++ x ∷ []) xs (second_so (p before x) _ h))

head_more : (old more : List Named) (h : Head) → is_right_head old h ≡ true → is_right_head (old ++ more) h ≡ true
head_more old more (head.App f) e = let lt = ltb-true _ _ e in lt-ltb _ _ (omega (arith, length-append old more))
head_more old more (head.Int v) e = e
head_more old more head.Nil e = refl
head_more old more head.Cons e = refl

arity_more : (old more : List Named) (h : Head) → is_right_head old h ≡ true → arity_in (old ++ more) h ≡ arity_in old h
arity_more old more (head.App f) e = ap (λ (o : Option Named). option_map_or (λ s. s.arity) o 0) (slice_get-append old more f.0 (ltb-true _ _ e))
arity_more old more (head.Int v) e = refl
arity_more old more head.Nil e = refl
arity_more old more head.Cons e = refl

record_more : (old more : List Named) (before : List Record) (r : Record) → is_right_record old before r ≡ true → is_right_record (old ++ more) before r ≡ true
record_more old more before r e =
    let right = first_so (is_right_head old r.head) _ e in
    let rest = second_so (is_right_head old r.head) _ e in
    both_true _ _ (head_more old more r.head right)
    (ap (λ n. eqb (length r.arguments) n && (may_be_arguments before r.head r.arguments && is_new_record before r)) (arity_more old more r.head right) ∙ rest)

-- ---- arguments

all_lesser : (before : List Record) (ks : List ℕ) → (h : Head) → ((more i : ℕ) → may_be_argument before h more i ≡ ltb i (length before)) → AllByRecursion (λ k. k < length before) ks → may_be_arguments before h ks ≡ true
all_lesser before [] h is all = refl
all_lesser before (k ∷ ks) h is all = both_true _ _ (is (length ks) k ∙ lt-ltb _ _ all.0) (all_lesser before ks h is all.1)

-- the last argument of a cell is a list
abbrev EndsInList : List Record → Head → List ℕ → Type 0
EndsInList before h ks = h ≡ head.Cons → (k : ℕ) (l : ℕ) → ks ≡ k ∷ l ∷ [] → is_list_at before l ≡ true

may_be_all : (before : List Record) (h : Head) (ks : List ℕ) → AllByRecursion (λ k. k < length before) ks → (h ≡ head.Cons → length ks ≡ 2) → EndsInList before h ks → may_be_arguments before h ks ≡ true
may_be_all before (head.App f) ks all two list = all_lesser before ks (head.App f) (λ more i. refl) all
may_be_all before (head.Int v) ks all two list = all_lesser before ks (head.Int v) (λ more i. refl) all
may_be_all before head.Nil ks all two list = all_lesser before ks head.Nil (λ more i. refl) all
may_be_all before head.Cons [] all two list = absurd (let bad = two refl in omega arith)
may_be_all before head.Cons (k ∷ []) all two list = absurd (let bad = two refl in omega arith)
may_be_all before head.Cons (k ∷ l ∷ []) all two list = both_true _ _ (lt-ltb _ _ all.0) (both_true _ _ (list refl k l refl) refl)
may_be_all before head.Cons (k ∷ l ∷ m ∷ ks) all two list = absurd (let bad = two refl in omega arith)

-- ---- lists

map_map : {A B C : Type 0} (f : B → C) (g : A → B) (xs : List A) → map f (map g xs) ≡ map (λ x. f (g x)) xs
map_map f g [] = refl
map_map f g (x ∷ xs) = ap (λ ys. f (g x) ∷ ys) (map_map f g xs)

map_on : {B : Type 0} (P : ℕ → Type 0) (f g : ℕ → B) (ks : List ℕ) → AllByRecursion P ks → ((k : ℕ) → P k → f k ≡ g k) → map f ks ≡ map g ks
map_on P f g [] all same = refl
map_on P f g (k ∷ ks) all same = λ i. same k all.0 i ∷ map_on P f g ks all.1 same i

flat_on : (P : ℕ → Type 0) (f g : ℕ → List ℕ) (ks : List ℕ) → AllByRecursion P ks → ((k : ℕ) → P k → f k ≡ g k) → flat_map f ks ≡ flat_map g ks
flat_on P f g [] all same = refl
flat_on P f g (k ∷ ks) all same = λ i. same k all.0 i ++ flat_on P f g ks all.1 same i

-- two lists that are cut at the same place from the end
record Cut {A : Type 0} (a b c d : List A) : Type 0 where
  front : a ≡ c
  back : b ≡ d

cut_same : {A : Type 0} (a b c d : List A) → a ++ b ≡ c ++ d → length b ≡ length d → Cut a b c d
cut_same {A} [] b [] d e size = record { front = refl; back = e }
cut_same {A} [] b (x ∷ c) d e size =
    let n = ap (λ (ys : List A). length ys) e in
    absurd (omega (arith, n, length-append c d))
cut_same {A} (x ∷ a) b [] d e size =
    let n = ap (λ (ys : List A). length ys) e in
    absurd (omega (arith, n, length-append a b))
cut_same {A} (x ∷ a) b (y ∷ c) d e size =
    let first : x ≡ y = cc in
    let rest : a ++ b ≡ c ++ d = cc in
    let r = cut_same a b c d rest size in
    record { front = λ i. first i ∷ r.front i; back = r.back }

all_front : (P : ℕ → Type 0) (xs ys : List ℕ) → AllByRecursion P (xs ++ ys) → AllByRecursion P xs
all_front P [] ys h = tt
all_front P (x ∷ xs) ys h = (h.0, all_front P xs ys h.1)

pub all_back : (P : ℕ → Type 0) (xs ys : List ℕ) → AllByRecursion P (xs ++ ys) → AllByRecursion P ys
all_back P [] ys h = h
all_back P (x ∷ xs) ys h = all_back P xs ys h.1

pub below_all : (n : ℕ) (ks : List ℕ) → list_all (λ k. ltb k n) ks ≡ true → AllByRecursion (λ k. k < n) ks
below_all n [] h = tt
below_all n (k ∷ ks) h = (ltb-true _ _ (first_so (ltb k n) _ h), below_all n ks (second_so (ltb k n) _ h))

all_below : (n m : ℕ) (ks : List ℕ) → n ≤ m → AllByRecursion (λ k. k < n) ks → list_all (λ k. ltb k m) ks ≡ true
all_below n m [] le h = refl
all_below n m (k ∷ ks) le h = both_true _ _ (lt-ltb _ _ (omega (arith, h.0))) (all_below n m ks le h.1)

-- named trees of a list
abbrev all_named : List NamedTree → NamedTrees
all_named [] = None_more
all_named (t ∷ ts) = One_more t (all_named ts)

named_list : (names : List Named) (ts : List Tree) → named_trees names (trees_of ts) ≡ all_named (map (named_tree names) ts)
named_list names [] = refl
named_list names (t ∷ ts) = ap (One_more (named_tree names t)) (named_list names ts)

-- ---- lists by their names

same_list : (names symbols : List Named) (g h : Head) → named_head names g ≡ named_head symbols h → is_list g ≡ is_list h
same_list names symbols (head.App f) (head.App g) e = refl
same_list names symbols (head.App f) (head.Int w) e = refl
same_list names symbols (head.App f) head.Nil e = absurd cc
same_list names symbols (head.App f) head.Cons e = absurd cc
same_list names symbols (head.Int v) (head.App g) e = refl
same_list names symbols (head.Int v) (head.Int w) e = refl
same_list names symbols (head.Int v) head.Nil e = absurd cc
same_list names symbols (head.Int v) head.Cons e = absurd cc
same_list names symbols head.Nil (head.App g) e = absurd cc
same_list names symbols head.Nil (head.Int w) e = absurd cc
same_list names symbols head.Nil head.Nil e = refl
same_list names symbols head.Nil head.Cons e = refl
same_list names symbols head.Cons (head.App g) e = absurd cc
same_list names symbols head.Cons (head.Int w) e = absurd cc
same_list names symbols head.Cons head.Nil e = refl
same_list names symbols head.Cons head.Cons e = refl

list_is : (g : Head) (us : Trees) → may_be_list (Node g us) ≡ is_list g
list_is (head.App f) us = refl
list_is (head.Int v) us = refl
list_is head.Nil us = refl
list_is head.Cons us = refl

list_by_name : (names symbols : List Named) (u : Tree) (h : Head) (xs : NamedTrees) → may_be_list u ≡ true → named_tree names u ≡ Over (named_head symbols h) xs → is_list h ≡ true
list_by_name names symbols (Leaf x) h xs l e = absurd cc
list_by_name names symbols (Node g us) h xs l e =
    let heads : named_head names g ≡ named_head symbols h = cc in
    sym (same_list names symbols g h heads) ∙ sym (list_is g us) ∙ l

cell_by_name : (names : List Named) (h : Head) → named_head names h ≡ Cell → h ≡ head.Cons
cell_by_name names (head.App f) e = absurd cc
cell_by_name names (head.Int v) e = absurd cc
cell_by_name names head.Nil e = absurd cc
cell_by_name names head.Cons e = refl

-- the arguments of a cell
record CellOver (ts : List Tree) : Type 0 where
  first : Tree
  list : Tree
  are : ts ≡ first ∷ list ∷ []
  may : may_be_list list ≡ true

cell_over : (ts : List Tree) → may_stand_over head.Cons (trees_of ts) ≡ true → CellOver ts
cell_over [] e = absurd cc
cell_over (t ∷ []) e = absurd cc
cell_over (t ∷ u ∷ []) e = record { first = t; list = u; are = refl; may = e }
cell_over (t ∷ u ∷ v ∷ ts) e = absurd cc

-- ---- numbers in order

came_less : (came n : ℕ) → n < came → came_after came (n ∷ []) ≡ Some came
came_less came n lt = ap (λ b. option_and_then (λ c. came_after c []) (cond b (Some came) (cond (eqb n came) (Some (came + 1)) None))) (lt-ltb n came lt)

came_next : (n : ℕ) → came_after n (n ∷ []) ≡ Some (n + 1)
came_next n =
    ap (λ b. option_and_then (λ c. came_after c []) (cond b (Some n) (cond (eqb n n) (Some (n + 1)) None))) (le-ltb n n (omega arith))
    ∙ ap (λ b. option_and_then (λ c. came_after c []) (cond b (Some (n + 1)) None)) (eq-eqb n n refl)

uses_old : (old : List Named) (h : Head) → is_right_head old h ≡ true → came_after (length old) (used_by h ++ []) ≡ Some (length old)
uses_old old (head.App f) e = came_less (length old) f.0 (ltb-true _ _ e)
uses_old old (head.Int v) e = refl
uses_old old head.Nil e = refl
uses_old old head.Cons e = refl

uses_new : (old : List Named) (s : Named) (new : List Named) (h : Head) → new ≡ old ++ s ∷ [] → h ≡ head.App (record { 0 = length old }) → came_after (length old) (used_by h ++ []) ≡ Some (length new)
uses_new old s new h is uses =
    ap (λ g. came_after (length old) (used_by g ++ [])) uses ∙ came_next (length old)
    ∙ ap Some (sym (ap (λ (ss : List Named). length ss) is ∙ length-append old (s ∷ [])))

-- ---- the step

module _ (names : List Named) (i : Item) (ts us : List Tree) (c : Contents) (s : Shares names ts c)
    (o : pushing.Over i ts us) (g : Head) (new : List Named) (r : Renamed names c.symbols new o.head g (arity_of i))
    (front args : List ℕ) (cut : c.roots ≡ front ++ args) (size : length args ≡ arity_of i) where
  abbrev entry : Record
  entry = record { head = g; arguments = args }

  abbrev N : Tree → NamedTree
  N = named_tree names

  abbrev M : ℕ → NamedTree
  M j = named_tree c.symbols (tree_at (trees c.records) j)

  roots_below : AllByRecursion (λ j. j < length c.records) (front ++ args)
  roots_below = subst (AllByRecursion (λ j. j < length c.records)) cut (below_all (length c.records) c.roots s.grown.roots_right)

  front_below : AllByRecursion (λ j. j < length c.records) front
  front_below = all_front (λ j. j < length c.records) front args roots_below

  args_below : AllByRecursion (λ j. j < length c.records) args
  args_below = all_back (λ j. j < length c.records) front args roots_below

  both : Cut (map N o.front) (map N o.args) (map M front) (map M args)
  both =
      cut_same (map N o.front) (map N o.args) (map M front) (map M args)
      (sym (map-append N o.front o.args) ∙ ap (map N) (sym o.before) ∙ s.same ∙ map_map (named_tree c.symbols) (tree_at (trees c.records)) c.roots ∙ ap (map M) cut ∙ map-append M front args)
      (length-map o.args N ∙ o.size ∙ sym size ∙ sym (length-map args M))

  symbols_right : all_after is_right_symbol [] new ≡ true
  symbols_right =
      elim r.by_case [
        | inl st ↦ subst (λ (ss : List Named). all_after is_right_symbol [] ss ≡ true) (sym st.is_old) s.grown.symbols_right
        | inr gr ↦ subst (λ (ss : List Named). all_after is_right_symbol [] ss ≡ true) (sym gr.is_new) (all_after-push is_right_symbol [] c.symbols gr.symbol s.grown.symbols_right gr.right)
      ]

  records_right : all_after (is_right_record new) [] c.records ≡ true
  records_right =
      elim r.by_case [
        | inl st ↦ subst (λ (ss : List Named). all_after (is_right_record ss) [] c.records ≡ true) (sym st.is_old) s.grown.records_right
        | inr gr ↦ subst (λ (ss : List Named). all_after (is_right_record ss) [] c.records ≡ true) (sym gr.is_new) (all_after-more (is_right_record c.symbols) (is_right_record (c.symbols ++ gr.symbol ∷ [])) (record_more c.symbols (gr.symbol ∷ [])) [] c.records s.grown.records_right)
      ]

  ends : EndsInList c.records g args
  ends is a b two =
      let cell : o.head ≡ head.Cons = cell_by_name names o.head (r.same ∙ ap (named_head new) is) in
      let p = cell_over o.args (ap (λ h. may_stand_over h (trees_of o.args)) (sym cell) ∙ o.over) in
      let pairs : N p.first ∷ N p.list ∷ [] ≡ M a ∷ M b ∷ [] = ap (map N) (sym p.are) ∙ both.back ∙ ap (map M) two in
      let last : N p.list ≡ M b = cc in
      let low = subst (AllByRecursion (λ j. j < length c.records)) two args_below in
      let st = stands c.records b low.1.0 in
      let facts = facts_at c.symbols c.records s.grown.records_right b st.item st.at in
      let tree = tree_of_record c.records b st.item st.at facts.before in
      let list = list_by_name names c.symbols p.list st.item.head (named_trees c.symbols (trees_of (map (tree_at (trees c.records)) st.item.arguments))) p.may (last ∙ ap (named_tree c.symbols) tree) in
      ap (λ (x : Option Record). option_map_or (λ q. is_list q.head) x false) st.at ∙ list

  two_arguments : g ≡ head.Cons → length args ≡ 2
  two_arguments is = size ∙ sym r.arity ∙ ap (arity_in new) is

  entry_right : is_new_record c.records entry ≡ true → is_right_record new c.records entry ≡ true
  entry_right fresh =
      both_true _ _ r.right
      (both_true _ _ (eq-eqb (length args) (arity_in new g) (size ∙ sym r.arity))
      (both_true _ _ (may_be_all c.records g args args_below two_arguments ends) fresh))

  module _ (records : List Record) (k : ℕ) (placed : IsPlaced c.records records entry k) where
    record After : Type 0 where
      more : List Record
      records_are : records ≡ c.records ++ more
      right : all_after (is_right_record new) [] records ≡ true
      used : came_after 0 (uses records) ≡ Some (length new)
      came : came_after (length c.records) (k ∷ []) ≡ Some (length records)

    used_more : came_after (length c.symbols) (used_by g ++ []) ≡ Some (length new)
    used_more =
        elim r.by_case [
          | inl st ↦ uses_old c.symbols g st.right ∙ ap (λ (ss : List Named). Some (length ss)) (sym st.is_old)
          | inr gr ↦ uses_new c.symbols gr.symbol new g gr.is_new gr.uses
        ]

    place : is_new_record c.records entry ≡ true → records ≡ c.records ++ entry ∷ [] → k ≡ length c.records
    place fresh are = by (cases_lt k (length c.records))
      where
        within : k < length c.records + 1
        within = omega (arith, slice_get_within records k entry placed.at, ap (λ (rs : List Record). length rs) are, length-append c.records (entry ∷ []))

        by : (k < length c.records) ⊎ (length c.records ≤ k) → k ≡ length c.records
        by (inl lt) =
            let there : slice_get c.records k ≡ Some entry = sym (slice_get-append c.records (entry ∷ []) k lt) ∙ ap (λ (rs : List Record). slice_get rs k) (sym are) ∙ placed.at in
            absurd (true≢false (sym fresh ∙ not_new c.records k entry there))
        by (inr le) = omega (arith, within)

    with_new : is_new_record c.records entry ≡ true → records ≡ c.records ++ entry ∷ [] → After
    with_new fresh are =
        let number = place fresh are in
        record {
          more = entry ∷ [];
          records_are = are;
          right = subst (λ (rs : List Record). all_after (is_right_record new) [] rs ≡ true) (sym are) (all_after-push (is_right_record new) [] c.records entry records_right (entry_right fresh));
          used = ap (λ (rs : List Record). came_after 0 (uses rs)) are ∙ ap (came_after 0) (flat_map-append (λ (q : Record). used_by q.head) c.records (entry ∷ [])) ∙ came_on 0 (uses c.records) (used_by g ++ []) (length c.symbols) s.grown.uses_in_order ∙ used_more;
          came = ap (λ (j : ℕ). came_after (length c.records) (j ∷ [])) number ∙ came_next (length c.records) ∙ ap Some (sym (ap (λ (rs : List Record). length rs) are ∙ length-append c.records (entry ∷ [])));
        }

    with_old : records ≡ c.records → After
    with_old are =
        let there : slice_get c.records k ≡ Some entry = ap (λ (rs : List Record). slice_get rs k) (sym are) ∙ placed.at in
        let facts = facts_at c.symbols c.records s.grown.records_right k entry there in
        let names_are : new ≡ c.symbols = same_names facts.head_right r.by_case in
        record {
          more = [];
          records_are = are ∙ sym (append-nil c.records);
          right = subst (λ (rs : List Record). all_after (is_right_record new) [] rs ≡ true) (sym are) records_right;
          used = ap (λ (rs : List Record). came_after 0 (uses rs)) are ∙ s.grown.uses_in_order ∙ ap (λ (ss : List Named). Some (length ss)) (sym names_are);
          came = came_less (length c.records) k (slice_get_within c.records k entry there) ∙ ap (λ (rs : List Record). Some (length rs)) (sym are);
        }
      where
        same_names : is_right_head c.symbols g ≡ true → Stayed c.symbols new g ⊎ Grown c.symbols new g → new ≡ c.symbols
        same_names right (inl st) = st.is_old
        same_names right (inr gr) =
            let bad = ltb-true (length c.symbols) (length c.symbols) (ap (is_right_head c.symbols) (sym gr.uses) ∙ right) in
            absurd (omega arith)

    after : After
    after = by (is_new_record c.records entry) refl
      where
        by : (b : Bool) → is_new_record c.records entry ≡ b → After
        by true e = with_new e (placed.grown ∙ ap (λ b. cond b (c.records ++ entry ∷ []) c.records) e)
        by false e = with_old (placed.grown ∙ ap (λ b. cond b (c.records ++ entry ∷ []) c.records) e)

    -- ---- what was there stays

    visits_stay : (j : ℕ) → j < length c.records → visits_at (visits records) j ≡ visits_at (visits c.records) j
    visits_stay j lt =
        ap (λ (rs : List Record). visits_at (visits rs) j) after.records_are
        ∙ ap (λ x. unwrap_or x []) (entry_before visits_over c.records after.more j lt)

    trees_stay : (j : ℕ) → j < length c.records → tree_at (trees records) j ≡ tree_at (trees c.records) j
    trees_stay j lt =
        ap (λ (rs : List Record). tree_at (trees rs) j) after.records_are
        ∙ ap (λ x. unwrap_or x (Leaf 0)) (entry_before tree_over c.records after.more j lt)

    renamed_tree : (t : Tree) → has_names c.symbols t ≡ true → named_tree new t ≡ named_tree c.symbols t
    renamed_tree t held =
        elim r.by_case [
          | inl st ↦ ap (λ (ss : List Named). named_tree ss t) st.is_old
          | inr gr ↦ ap (λ (ss : List Named). named_tree ss t) gr.is_new ∙ grown_tree c.symbols (gr.symbol ∷ []) t held
        ]

    abbrev Q : ℕ → NamedTree
    Q j = named_tree new (tree_at (trees records) j)

    named_stays : (j : ℕ) → j < length c.records → Q j ≡ M j
    named_stays j lt =
        let is = term_below c.symbols c.records s.grown.records_right (suc j) j (omega arith) lt in
        ap (named_tree new) (trees_stay j lt) ∙ renamed_tree (tree_at (trees c.records) j) is.named

    -- ---- the record

    facts : RecordFacts new records k entry
    facts = facts_at new records after.right k entry placed.at

    its_tree : Q k ≡ Over (named_head new g) (all_named (map Q args))
    its_tree =
        ap (named_tree new) (tree_of_record records k entry placed.at facts.before)
        ∙ ap (Over (named_head new g)) (named_list new (map (tree_at (trees records)) args) ∙ ap all_named (map_map (named_tree new) (tree_at (trees records)) args))

    named_after : N (Node o.head (trees_of o.args)) ≡ Q k
    named_after =
        let arguments : all_named (map N o.args) ≡ all_named (map Q args) = ap all_named (both.back ∙ sym (map_on (λ j. j < length c.records) Q M args args_below named_stays)) in
        ap (Over (named_head names o.head)) (named_list names o.args)
        ∙ (λ j. Over (r.same j) (arguments j))
        ∙ sym its_tree

    same_after : AreSame names us new (map (tree_at (trees records)) (front ++ k ∷ []))
    same_after =
        ap (map N) o.after
        ∙ map-append N o.front (Node o.head (trees_of o.args) ∷ [])
        ∙ (λ j. (both.front ∙ sym (map_on (λ x. x < length c.records) Q M front front_below named_stays)) j ++ named_after j ∷ [])
        ∙ sym (map-append Q front (k ∷ []))
        ∙ sym (map_map (named_tree new) (tree_at (trees records)) (front ++ k ∷ []))

    -- ---- the walk

    walked : came_after 0 (flat_map (visits_at (visits records)) (front ++ k ∷ [])) ≡ Some (length records)
    walked =
        let V : ℕ → List ℕ = visits_at (visits c.records) in
        let W : ℕ → List ℕ = visits_at (visits records) in
        let front_is : flat_map W front ≡ flat_map V front = flat_on (λ j. j < length c.records) W V front front_below visits_stay in
        let args_are : flat_map W args ≡ flat_map V args = flat_on (λ j. j < length c.records) W V args args_below visits_stay in
        let here : W k ≡ flat_map V args ++ k ∷ [] = visits_of_record records k entry placed.at facts.before ∙ ap (λ (ns : List ℕ). ns ++ k ∷ []) args_are in
        let whole : flat_map W (front ++ k ∷ []) ≡ flat_map V c.roots ++ k ∷ [] =
        flat_map-append W front (k ∷ [])
        ∙ (λ j. front_is j ++ (here j ++ []))
        ∙ ap (λ (ns : List ℕ). flat_map V front ++ ns) (append-nil (flat_map V args ++ k ∷ []))
        ∙ sym (append_assoc (flat_map V front) (flat_map V args) (k ∷ []))
        ∙ ap (λ (ns : List ℕ). ns ++ k ∷ []) (sym (flat_map-append V front args) ∙ ap (flat_map V) (sym cut)) in
        ap (came_after 0) whole ∙ came_on 0 (walk c) (k ∷ []) (length c.records) s.grown.visits_in_order ∙ after.came

    roots_after : list_all (λ j. ltb j (length records)) (front ++ k ∷ []) ≡ true
    roots_after =
        let more : length c.records ≤ length records = omega (arith, ap (λ (rs : List Record). length rs) after.records_are, length-append c.records after.more) in
        list_all-append (λ j. ltb j (length records)) front (k ∷ [])
        ∙ both_true _ _ (all_below (length c.records) (length records) front more front_below)
        (both_true _ _ (lt-ltb _ _ (slice_get_within records k entry placed.at)) refl)

    pub stepped : Shares names us (record { symbols = new; records = records; roots = front ++ k ∷ [] })
    stepped = record {
      grown = record {
        symbols_right = symbols_right;
        records_right = after.right;
        uses_in_order = after.used;
        roots_right = roots_after;
        visits_in_order = walked;
      };
      pool = r.pool;
      part = r.part;
      same = same_after;
    }
