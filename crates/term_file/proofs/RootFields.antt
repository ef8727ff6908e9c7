-- Roots that are read are those that were written, and what was written is read again.
use Rattle.std.proofs.Common.{◌≡◌, ℕ, zero, suc, ◌^◌, ◌<◌, Bool, true, ltb, List, [], ◌∷◌, ◌++◌, length, Result, Ok, Some, refl, sym, ap, subst, ◌∙◌, append_assoc, arith}
use Rattle.std.specs.Prelude.{is_some}
use Rattle.std.specs.List.{flat_map, list_all}
use Rattle.std.specs.Cmp.{first_so, second_so}
use Rattle.std.proofs.lemmas.Bool.{ltb-true}
use Rattle.std.proofs.lemmas.List.{append-nil}
use Rattle.byteorder.specs.Endian.{big_bytes}
use Rattle.faults.specs.declared.refusal.Refusal.{Refusal}
use Rattle.term_file.specs.InOrder.{came_after, visits_at}
use Rattle.term_file.specs.File.{numbers_bytes}
use Rattle.term_file.specs.Reading.{◌>>=◌, number_where, Roots, may_be_root, with_root, roots_at}
use Rattle.term_file.proofs.FieldLaws.{IsBytes, Takes, Takes-then, Takes-none, bind_ok, ok_is, wide4, number_where_takes, number_where_again}
use Rattle.term_file.proofs.SymbolFields.{both_true}
use Rattle.term_file.proofs.Ordered.{came_on, some_is, stops}

abbrev pub is_below : ℕ → ℕ → Bool
is_below n r = ltb r n

-- so many roots that were read behind those before them
pub record RootsTaken (visits : List (List ℕ)) (n : ℕ) (before : Roots) (bytes : List ℕ) (y : Roots × List ℕ) : Type 0 where
  pub more : List ℕ
  pub added : y.0.roots ≡ before.roots ++ more
  pub size : length more ≡ n
  pub takes : Takes bytes (numbers_bytes more) y.1
  pub right : list_all (is_below (length visits)) more ≡ true
  pub in_order : came_after before.visited (flat_map (visits_at visits) more) ≡ Some y.0.visited

pub roots_take : (total : ℕ) (visits : List (List ℕ)) (n : ℕ) (before : Roots) (bytes : List ℕ) (y : Roots × List ℕ) → IsBytes bytes → roots_at total visits n before bytes ≡ Ok y → RootsTaken visits n before bytes y
unfolding roots_at
roots_take total visits zero before bytes y fits e =
    let taken : RootsTaken visits 0 before bytes (before, bytes) = record {
      more = [];
      added = sym (append-nil before.roots);
      size = refl;
      takes = Takes-none bytes fits;
      right = refl;
      in_order = refl;
    } in
    subst (λ (z : Roots × List ℕ). RootsTaken visits 0 before bytes z) (ok_is (before, bytes) y e) taken
roots_take total visits (suc n) before bytes y fits e =
    let a = bind_ok (number_where total 4 (may_be_root visits before.visited) bytes) (λ r. roots_at total visits n (with_root visits before r.0) r.1) y e in
    let r = number_where_takes total 4 wide4 (may_be_root visits before.visited) bytes a.0 fits a.1 in
    let others = roots_take total visits n (with_root visits before a.0.0) a.0.1 y r.takes.rest_fits a.2 in
    let below = first_so (ltb a.0.0 (length visits)) _ r.kept in
    let there = second_so (ltb a.0.0 (length visits)) _ r.kept in
    record {
      more = a.0.0 ∷ others.more;
      added = others.added ∙ append_assoc before.roots (a.0.0 ∷ []) others.more;
      size = ap suc others.size;
      takes = Takes-then bytes (big_bytes 4 a.0.0) a.0.1 (numbers_bytes others.more) y.1 r.takes others.takes;
      right = both_true _ _ below others.right;
      in_order = came_on before.visited (visits_at visits a.0.0) (flat_map (visits_at visits) others.more) _ (some_is _ before.visited there) ∙ others.in_order;
    }

pub roots_again : (total : ℕ) (visits : List (List ℕ)) (before : Roots) (rs : List ℕ) (visited : ℕ) (rest : List ℕ) → length visits < 2 ^ 32 → list_all (is_below (length visits)) rs ≡ true → came_after before.visited (flat_map (visits_at visits) rs) ≡ Some visited → roots_at total visits (length rs) before (numbers_bytes rs ++ rest) ≡ Ok (record { roots = before.roots ++ rs; visited = visited }, rest)
unfolding roots_at
roots_again total visits before [] visited rest few right in_order =
    let same : before.visited ≡ visited = cc in
    λ i. Ok (record { roots = sym (append-nil before.roots) i; visited = same i }, rest)
roots_again total visits before (r ∷ rs) visited rest few right in_order =
    let below = first_so (ltb r (length visits)) _ right in
    let others = second_so (ltb r (length visits)) _ right in
    let lt : r < length visits = ltb-true _ _ below in
    let there : is_some (came_after before.visited (visits_at visits r)) ≡ true = stops before.visited (visits_at visits r) (flat_map (visits_at visits) rs) visited in_order in
    let next : Roots = with_root visits before r in
    let goes_on : came_after next.visited (flat_map (visits_at visits) rs) ≡ Some visited =
    sym (came_on before.visited (visits_at visits r) (flat_map (visits_at visits) rs) next.visited (some_is _ before.visited there)) ∙ in_order in
    let regrouped : numbers_bytes (r ∷ rs) ++ rest ≡ big_bytes 4 r ++ (numbers_bytes rs ++ rest) = append_assoc (big_bytes 4 r) (numbers_bytes rs) rest in
    ap (roots_at total visits (suc (length rs)) before) regrouped
    ∙ ap (λ (q : Result (ℕ × List ℕ) Refusal). q >>= λ s. roots_at total visits (length rs) (with_root visits before s.0) s.1) (number_where_again total 4 (may_be_root visits before.visited) r (numbers_bytes rs ++ rest) (omega arith) (both_true _ _ below there))
    ∙ roots_again total visits next rs visited rest few others goes_on
    ∙ ap (λ (b : List ℕ). Ok (record { roots = b; visited = visited }, rest)) (append_assoc before.roots (r ∷ []) rs)
