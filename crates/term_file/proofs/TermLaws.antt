-- The trees of a right file are terms: well-formed, without variables, and of the symbols of the
-- file.
use Rattle.std.proofs.Common.{◌≡◌, ℕ, zero, suc, ◌<◌, true, false, ltb, eqb, List, [], ◌∷◌, ◌++◌, length, slice_get, Option, Some, None, refl, sym, ap, subst, ◌∙◌, arith}
use Rattle.std.specs.Prelude.{map}
use Rattle.std.specs.Option.{option_map_or}
use Rattle.std.specs.List.{AllByRecursion}
use Rattle.std.specs.Cmp.{first_so, second_so}
use Rattle.std.proofs.lemmas.Option.{slice_get_within}
use Rattle.symbol_pool.specs.Pool.{Named}
use Rattle.symbol_pool.proofs.Places.{slice_get-append}
use Rattle.symbol_pool.proofs.Pools.{stands}
use Rattle.term_model.specs.declared.Head.{Head}
use Rattle.term_model.specs.declared.Head.TheVariants.{App, Int, Nil, Cons}
use Rattle.term_model.specs.Tree.{Tree, Node, Trees, trees_of, may_be_list, may_stand_over, is_well_formed, all_well_formed, is_ground, all_ground}
use Rattle.tree_text.specs.Text.{is_named, has_names, all_have_names}
use Rattle.term_file.specs.Contents.{Record, Contents, trees, tree_at}
use Rattle.term_file.specs.Right.{IsRight, all_after, is_right_head, is_right_record, may_be_arguments, is_list, is_list_at, arity_in}
use Rattle.term_file.proofs.SymbolFields.{both_true}
use Rattle.term_file.proofs.Facts.{split, facts_at, right_at}
use Rattle.term_file.proofs.Equations.{tree_of_record}

pub record IsTerm (symbols : List Named) (t : Tree) : Type 0 where
  pub well_formed : is_well_formed t ≡ true
  pub ground : is_ground t ≡ true
  pub named : has_names symbols t ≡ true

record AreTerms (symbols : List Named) (ts : Trees) : Type 0 where
  well_formed : all_well_formed ts ≡ true
  ground : all_ground ts ≡ true
  named : all_have_names symbols ts ≡ true

are_terms : (symbols : List Named) (f : ℕ → Tree) (i : ℕ) (ks : List ℕ) → AllByRecursion (λ k. k < i) ks → ((k : ℕ) → k < i → IsTerm symbols (f k)) → AreTerms symbols (trees_of (map f ks))
are_terms symbols f i [] below each = record { well_formed = refl; ground = refl; named = refl }
are_terms symbols f i (k ∷ ks) below each =
    let here = each k below.0 in
    let rest = are_terms symbols f i ks below.1 each in
    record {
      well_formed = both_true _ _ here.well_formed rest.well_formed;
      ground = both_true _ _ here.ground rest.ground;
      named = both_true _ _ here.named rest.named;
    }

head_named : (symbols : List Named) (h : Head) → is_right_head symbols h ≡ true → is_named symbols h ≡ true
head_named symbols (App f) e = e
head_named symbols (Int v) e = refl
head_named symbols Nil e = refl
head_named symbols Cons e = refl

list_head : (h : Head) (ts : Trees) → is_list h ≡ true → may_be_list (Node h ts) ≡ true
list_head (App f) ts e = absurd cc
list_head (Int v) ts e = absurd cc
list_head Nil ts e = refl
list_head Cons ts e = refl

module _ (symbols : List Named) (records : List Record) (right : all_after (is_right_record symbols) [] records ≡ true) where
  -- what stands where a list must is one
  list_at : (front : List Record) (r : Record) (back : List Record) → records ≡ front ++ r ∷ back → (k : ℕ) → is_list_at front k ≡ true → may_be_list (tree_at (trees records) k) ≡ true
  list_at front r back whole k e = by (slice_get front k) refl e
    where
      by : (o : Option Record) → slice_get front k ≡ o → option_map_or (λ (s : Record). is_list s.head) o false ≡ true → may_be_list (tree_at (trees records) k) ≡ true
      by None at h = absurd cc
      by (Some s) at h =
          let lt = slice_get_within front k s at in
          let there : slice_get records k ≡ Some s = ap (λ rs. slice_get rs k) whole ∙ slice_get-append front (r ∷ back) k lt ∙ at in
          let facts = facts_at symbols records right k s there in
          ap may_be_list (tree_of_record records k s there facts.before) ∙ list_head s.head (trees_of (map (tree_at (trees records)) s.arguments)) h

  stands_over : (front : List Record) (r : Record) (back : List Record) → records ≡ front ++ r ∷ back → (h : Head) (ks : List ℕ) → length ks ≡ arity_in symbols h → may_be_arguments front h ks ≡ true → may_stand_over h (trees_of (map (tree_at (trees records)) ks)) ≡ true
  stands_over front r back whole (App f) ks size e = refl
  stands_over front r back whole (Int v) [] size e = refl
  stands_over front r back whole (Int v) (k ∷ ks) size e = absurd (omega arith)
  stands_over front r back whole Nil [] size e = refl
  stands_over front r back whole Nil (k ∷ ks) size e = absurd (omega arith)
  stands_over front r back whole Cons [] size e = absurd (omega arith)
  stands_over front r back whole Cons (k ∷ []) size e = absurd (omega arith)
  stands_over front r back whole Cons (k ∷ l ∷ []) size e =
      let last = first_so (is_list_at front l) _ (second_so (ltb k (length front)) _ e) in
      list_at front r back whole l last
  stands_over front r back whole Cons (k ∷ l ∷ m ∷ ks) size e = absurd (omega arith)

  pub term_below : (bound i : ℕ) → i < bound → i < length records → IsTerm symbols (tree_at (trees records) i)
  term_below zero i lt room = absurd (omega arith)
  term_below (suc bound) i lt room =
      let s = stands records i room in
      let facts = facts_at symbols records right i s.item s.at in
      let p = split records i s.item s.at in
      let q = second_so (is_right_head symbols s.item.head) _ (right_at symbols records right p.front s.item p.back p.whole) in
      let args = first_so (may_be_arguments p.front s.item.head s.item.arguments) _ (second_so (eqb (length s.item.arguments) (arity_in symbols s.item.head)) _ q) in
      let over = stands_over p.front s.item p.back p.whole s.item.head s.item.arguments facts.arity args in
      let each : (k : ℕ) → k < i → IsTerm symbols (tree_at (trees records) k) = λ k l. term_below bound k (omega arith) (omega arith) in
      let all = are_terms symbols (tree_at (trees records)) i s.item.arguments facts.before each in
      let is : IsTerm symbols (Node s.item.head (trees_of (map (tree_at (trees records)) s.item.arguments))) = record {
        well_formed = both_true _ _ over all.well_formed;
        ground = all.ground;
        named = both_true _ _ (head_named symbols s.item.head facts.head_right) all.named;
      } in
      subst (IsTerm symbols) (sym (tree_of_record records i s.item s.at facts.before)) is

pub term_of_number : (c : Contents) → IsRight c → (i : ℕ) → i < length c.records → IsTerm c.symbols (tree_at (trees c.records) i)
term_of_number c right i lt = term_below c.symbols c.records right.records_right (suc i) i (omega arith) lt
