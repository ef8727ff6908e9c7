-- What the tests of a right file say of the symbol, and of the record, with a number.
use Rattle.std.proofs.Common.{◌≡◌, ℕ, zero, suc, ◌<◌, Bool, true, false, not, ◌&&◌, ◌||◌, eqb, leb, List, [], ◌∷◌, ◌++◌, length, slice_get, Some, refl, sym, ap, ◌∙◌, append_assoc, true≢false, arith}
use Rattle.std.specs.Prelude.{unwrap_or, nat_eq}
use Rattle.std.specs.List.{list_any, list_all, AllByRecursion}
use Rattle.std.specs.Cmp.{first_so, second_so}
use Rattle.std.specs.Cmp.Lexicographic.{pointwise, bytes_decides}
use Rattle.std.proofs.lemmas.Bool.{eqb-true}
use Rattle.std.proofs.lemmas.List.{append-nil}
use Rattle.symbol_pool.specs.Pool.{Named}
use Rattle.symbol_pool.proofs.Places.{slice_get-append}
use Rattle.term_model.proofs.Equality.{head_eq_refl}
use Rattle.term_model.specs.declared.Head.{Head}
use Rattle.tree_text.specs.NameBytes.{is_printable}
use Rattle.symbol_pool.specs.Taking.{named_eq}
use Rattle.symbol_pool.proofs.Taking.{itself}
use Rattle.term_file.specs.Contents.{Record, table_of}
use Rattle.term_file.specs.Right.{all_after, is_right_symbol, record_eq, may_be_argument, may_be_arguments, is_right_head, is_right_record, arity_in}
use Rattle.term_file.proofs.RecordsAgain.{argument_before}
use Rattle.term_file.proofs.Tables.{entry_of, entry_before}

-- ---- places of a list

-- a list at a place: what is before it, and what behind
pub record Split {X : Type 0} (xs : List X) (i : ℕ) (x : X) : Type 0 where
  pub front : List X
  pub back : List X
  pub whole : xs ≡ front ++ x ∷ back
  pub size : length front ≡ i

pub split : {X : Type 0} (xs : List X) (i : ℕ) (x : X) → slice_get xs i ≡ Some x → Split xs i x
split [] i x at = absurd cc
split (y ∷ xs) zero x at = let e : y ≡ x = cc in record { front = []; back = xs; whole = ap (λ z. z ∷ xs) e; size = refl }
split (y ∷ xs) (suc i) x at =
    let s = split xs i x at in
    record { front = y ∷ s.front; back = s.back; whole = ap (λ zs. y ∷ zs) s.whole; size = ap suc s.size }

pub list_any_at : {X : Type 0} (p : X → Bool) (xs : List X) (i : ℕ) (x : X) → slice_get xs i ≡ Some x → p x ≡ true → list_any p xs ≡ true
list_any_at p [] i x at h = absurd cc
list_any_at p (y ∷ xs) zero x at h = let e : y ≡ x = cc in ap (λ b. b || list_any p xs) (ap p e ∙ h)
list_any_at p (y ∷ xs) (suc i) x at h = by (p y) (list_any_at p xs i x at h)
  where
    by : (b : Bool) → list_any p xs ≡ true → (b || list_any p xs) ≡ true
    by true e = refl
    by false e = e

-- each passes, given those before it
pub passes_at : {X : Type 0} (p : List X → X → Bool) (before front : List X) (x : X) (back : List X) → all_after p before (front ++ x ∷ back) ≡ true → p (before ++ front) x ≡ true
passes_at p before [] x back h = ap (λ b. p b x) (append-nil before) ∙ first_so (p before x) _ h
passes_at p before (y ∷ front) x back h =
    ap (λ b. p b x) (sym (append_assoc before (y ∷ []) front)) ∙ passes_at p (before ++ y ∷ []) front x back (second_so (p before y) _ h)

-- what no earlier one equals stands at one place
once_before : {X : Type 0} (eq : X → X → Bool) (xs : List X) (i j : ℕ) (x : X) → eq x x ≡ true → ((front back : List X) → xs ≡ front ++ x ∷ back → not (list_any (eq x) front) ≡ true) → slice_get xs i ≡ Some x → slice_get xs j ≡ Some x → i < j → ⊥
once_before eq xs i j x same fresh at_i at_j lt =
    let s = split xs j x at_j in
    let there : slice_get s.front i ≡ Some x =
    sym (slice_get-append s.front (x ∷ s.back) i (omega (arith, s.size))) ∙ ap (λ ys. slice_get ys i) (sym s.whole) ∙ at_i in
    let found : list_any (eq x) s.front ≡ true = list_any_at (eq x) s.front i x there same in
    true≢false (sym (fresh s.front s.back s.whole) ∙ ap not found)

once : {X : Type 0} (eq : X → X → Bool) (xs : List X) (i j : ℕ) (x : X) → eq x x ≡ true → ((front back : List X) → xs ≡ front ++ x ∷ back → not (list_any (eq x) front) ≡ true) → slice_get xs i ≡ Some x → slice_get xs j ≡ Some x → i ≡ j
once eq xs i j x same fresh at_i at_j =
    let a : i < j → ⊥ = once_before eq xs i j x same fresh at_i at_j in
    let b : j < i → ⊥ = once_before eq xs j i x same fresh at_j at_i in
    omega (arith, a, b)

-- ---- symbols

pub one_symbol : (symbols : List Named) (i j : ℕ) (s : Named) → all_after is_right_symbol [] symbols ≡ true → slice_get symbols i ≡ Some s → slice_get symbols j ≡ Some s → i ≡ j
one_symbol symbols i j s right = once named_eq symbols i j s (itself s) fresh
  where
    fresh : (front back : List Named) → symbols ≡ front ++ s ∷ back → not (list_any (named_eq s) front) ≡ true
    fresh front back e =
        let p = passes_at is_right_symbol [] front s back (ap (all_after is_right_symbol []) (sym e) ∙ right) in
        second_so (leb s.arity 16) _ (second_so (list_all is_printable s.name) _ (second_so (leb (length s.name) 255) _ p))

-- ---- records

pub record_eq_refl : (r : Record) → record_eq r r ≡ true
record_eq_refl r = ap (λ b. b && pointwise nat_eq r.arguments r.arguments) (head_eq_refl r.head) ∙ (bytes_decides r.arguments r.arguments).1 refl

-- what is so of the record with a number
pub record RecordFacts (symbols : List Named) (records : List Record) (i : ℕ) (r : Record) : Type 0 where
  pub head_right : is_right_head symbols r.head ≡ true
  pub arity : length r.arguments ≡ arity_in symbols r.head
  pub before : AllByRecursion (λ k. k < i) r.arguments

arguments_before : (before : List Record) (i : ℕ) → length before ≡ i → (h : Head) (ks : List ℕ) → may_be_arguments before h ks ≡ true → AllByRecursion (λ k. k < i) ks
arguments_before before i size h [] e = tt
arguments_before before i size h (k ∷ ks) e =
    let lt = argument_before before h (length ks) k (first_so (may_be_argument before h (length ks) k) _ e) in
    (omega arith, arguments_before before i size h ks (second_so (may_be_argument before h (length ks) k) _ e))

module _ (symbols : List Named) (records : List Record) (right : all_after (is_right_record symbols) [] records ≡ true) where
  pub right_at : (front : List Record) (r : Record) (back : List Record) → records ≡ front ++ r ∷ back → is_right_record symbols front r ≡ true
  right_at front r back e = passes_at (is_right_record symbols) [] front r back (ap (all_after (is_right_record symbols) []) (sym e) ∙ right)

  pub facts_at : (i : ℕ) (r : Record) → slice_get records i ≡ Some r → RecordFacts symbols records i r
  facts_at i r at =
      let s = split records i r at in
      let p = right_at s.front r s.back s.whole in
      let q = second_so (is_right_head symbols r.head) _ p in
      record {
        head_right = first_so (is_right_head symbols r.head) _ p;
        arity = eqb-true _ _ (first_so (eqb (length r.arguments) (arity_in symbols r.head)) _ q);
        before = arguments_before s.front i s.size r.head r.arguments (first_so (may_be_arguments s.front r.head r.arguments) _ (second_so (eqb (length r.arguments) (arity_in symbols r.head)) _ q));
      }

  pub one_record : (i j : ℕ) (r : Record) → slice_get records i ≡ Some r → slice_get records j ≡ Some r → i ≡ j
  one_record i j r = once record_eq records i j r (record_eq_refl r) fresh
    where
      fresh : (front back : List Record) → records ≡ front ++ r ∷ back → not (list_any (record_eq r) front) ≡ true
      fresh front back e = second_so (may_be_arguments front r.head r.arguments) _ (second_so (eqb (length r.arguments) (arity_in symbols r.head)) _ (second_so (is_right_head symbols r.head) _ (right_at front r back e)))

-- ---- entries of tables

-- the entry of a record, by the whole table, where it looks at entries before it alone
module _ {X : Type 0} (make : List X → Record → X) (d : X) where
  abbrev pub at_or : List X → ℕ → X
  at_or table i = unwrap_or (slice_get table i) d

  pub entry_at : (records : List Record) (i : ℕ) (r : Record) (y : X) → slice_get records i ≡ Some r → ((front : List Record) → length front ≡ i → ((k : ℕ) → k < i → at_or (table_of make front) k ≡ at_or (table_of make records) k) → make (table_of make front) r ≡ y) → at_or (table_of make records) i ≡ y
  entry_at records i r y at same =
      let s = split records i r at in
      let entry : slice_get (table_of make records) i ≡ Some (make (table_of make s.front) r) =
      ap (slice_get (table_of make records)) (sym s.size) ∙ ap (λ rs. slice_get (table_of make rs) (length s.front)) s.whole ∙ entry_of make s.front r s.back in
      let earlier : (k : ℕ) → k < i → at_or (table_of make s.front) k ≡ at_or (table_of make records) k =
      λ k lt. ap (λ o. unwrap_or o d) (sym (entry_before make s.front (r ∷ s.back) k (omega (arith, s.size))) ∙ ap (λ rs. slice_get (table_of make rs) k) (sym s.whole)) in
      ap (λ o. unwrap_or o d) entry ∙ same s.front s.size earlier
