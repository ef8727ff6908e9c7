-- Records that were written are read again.
use Rattle.std.proofs.Common.{◌≡◌, ℕ, zero, suc, ◌+◌, ◌^◌, ◌<◌, ◌≤◌, Bool, true, false, eqb, leb, List, [], ◌∷◌, ◌++◌, length, slice_get, Result, Ok, Option, Some, None, refl, sym, ap, ◌∙◌, append_assoc, arith}
use Rattle.std.specs.Prelude.{is_some}
use Rattle.std.specs.Option.{option_map_or}
use Rattle.std.specs.List.{flat_map}
use Rattle.std.specs.Cmp.{first_so, second_so}
use Rattle.std.proofs.lemmas.Bool.{le-leb, ltb-true, eqb-true}
use Rattle.std.proofs.lemmas.List.{append-nil, length-append}
use Rattle.std.proofs.lemmas.Option.{slice_get_within}
use Rattle.byteorder.specs.Endian.{big_bytes}
use Rattle.faults.specs.declared.refusal.Refusal.{Refusal}
use Rattle.symbol_pool.specs.Pool.{Named}
use Rattle.term_model.specs.declared.Head.{Head}
use Rattle.term_model.specs.declared.Head.TheVariants.{App, Int, Nil, Cons}
use Rattle.term_file.specs.Contents.{Record}
use Rattle.term_file.specs.InOrder.{came_after, used_by, uses}
use Rattle.term_file.specs.Right.{all_after, is_right_head, is_right_record, is_new_record, is_list, is_list_at, may_be_argument, may_be_arguments, arity_in}
use Rattle.term_file.specs.File.{head_bytes, numbers_bytes, record_bytes}
use Rattle.term_file.specs.Reading.{◌>>=◌, checked, number_where, Body, body, head_at, arguments_at, Records, record_of, with_record, record_at, records_at}
use Rattle.term_file.proofs.FieldLaws.{number_again, number_where_again}
use Rattle.term_file.proofs.SymbolFields.{both_true}
use Rattle.term_file.proofs.RecordFields.{symbol_rule, one_more}
use Rattle.term_file.proofs.Ordered.{came_on, some_is, stops}

abbrev tag_of : Head → ℕ
tag_of (App f) = 0
tag_of (Int v) = 1
tag_of Nil = 2
tag_of Cons = 3

abbrev value_bytes : Head → List ℕ
value_bytes (App f) = big_bytes 4 f.0
value_bytes (Int v) = big_bytes 8 v
value_bytes Nil = []
value_bytes Cons = []

head_bytes-parts : (h : Head) → head_bytes h ≡ big_bytes 1 (tag_of h) ++ value_bytes h
head_bytes-parts (App f) = refl
head_bytes-parts (Int v) = refl
head_bytes-parts Nil = refl
head_bytes-parts Cons = refl

tag_of_few : (h : Head) → tag_of h ≤ 3
tag_of_few (App f) = omega arith
tag_of_few (Int v) = omega arith
tag_of_few Nil = omega arith
tag_of_few Cons = omega arith

record HeadAgain (total : ℕ) (symbols : List Named) (used : ℕ) (bytes : List ℕ) (h : Head) (rest : List ℕ) : Type 0 where
  last : List ℕ
  read : head_at total symbols used bytes (tag_of h, value_bytes h ++ rest) ≡ Ok (body h last rest)

head_again : (total : ℕ) (symbols : List Named) (used : ℕ) (bytes : List ℕ) (h : Head) (rest : List ℕ) → length symbols ≤ 65535 → is_right_head symbols h ≡ true → is_some (came_after used (used_by h)) ≡ true → HeadAgain total symbols used bytes h rest
unfolding head_at
head_again total symbols used bytes (App f) rest few right in_order =
    let lt : f.0 < length symbols = ltb-true _ _ right in
    let kept : symbol_rule symbols used f.0 ≡ true = both_true _ _ right in_order in
    let last : List ℕ = big_bytes 4 f.0 ++ rest in
    record {
      last = last;
      read = ap (λ (r : Result (ℕ × List ℕ) Refusal). r >>= λ g. Ok (body (App (record { 0 = g.0 })) last g.1)) (number_where_again total 4 (symbol_rule symbols used) f.0 rest (omega arith) kept);
    }
head_again total symbols used bytes (Int v) rest few right in_order =
    let lt : v < 256 ^ 8 = ltb-true _ _ right in
    let last : List ℕ = big_bytes 8 v ++ rest in
    record {
      last = last;
      read = ap (λ (r : Result (ℕ × List ℕ) Refusal). r >>= λ w. Ok (body (Int w.0) last w.1)) (number_again total 8 v rest lt);
    }
head_again total symbols used bytes Nil rest few right in_order = record { last = bytes; read = refl }
head_again total symbols used bytes Cons rest few right in_order = record { last = bytes; read = refl }

-- what may be an argument has a lesser number
list_before : (before : List Record) (i : ℕ) → is_list_at before i ≡ true → i < length before
list_before before i e = by (slice_get before i) refl e
  where
    by : (r : Option Record) → slice_get before i ≡ r → option_map_or (λ (r : Record). is_list r.head) r false ≡ true → i < length before
    by None at h = absurd cc
    by (Some r) at h = slice_get_within before i r at

pub argument_before : (before : List Record) (h : Head) (more i : ℕ) → may_be_argument before h more i ≡ true → i < length before
argument_before before Cons zero i e = list_before before i e
argument_before before Cons (suc more) i e = ltb-true _ _ e
argument_before before (App f) more i e = ltb-true _ _ e
argument_before before (Int v) more i e = ltb-true _ _ e
argument_before before Nil more i e = ltb-true _ _ e

record ArgumentsAgain (total : ℕ) (before : List Record) (b : Body) (more rest : List ℕ) : Type 0 where
  last : List ℕ
  read : arguments_at total before (length more) b ≡ Ok (record { head = b.head; arguments = b.arguments ++ more; last = last; rest = rest })

arguments_again : (total : ℕ) (before : List Record) (b : Body) (more rest : List ℕ) → length before ≤ 262144 → b.rest ≡ numbers_bytes more ++ rest → may_be_arguments before b.head more ≡ true → ArgumentsAgain total before b more rest
unfolding arguments_at
arguments_again total before b [] rest few e right = record {
  last = b.last;
  read = λ i. Ok (record { head = b.head; arguments = sym (append-nil b.arguments) i; last = b.last; rest = e i });
}
arguments_again total before b (i ∷ more) rest few e right =
    let here : may_be_argument before b.head (length more) i ≡ true = first_so (may_be_argument before b.head (length more) i) _ right in
    let there = second_so (may_be_argument before b.head (length more) i) _ right in
    let lt = argument_before before b.head (length more) i here in
    let tail : List ℕ = numbers_bytes more ++ rest in
    let regrouped : b.rest ≡ big_bytes 4 i ++ tail = e ∙ append_assoc (big_bytes 4 i) (numbers_bytes more) rest in
    let next : Body = one_more b (i, tail) in
    let others = arguments_again total before next more rest few refl there in
    let one : number_where total 4 (may_be_argument before b.head (length more)) b.rest ≡ Ok (i, tail) =
    ap (number_where total 4 (may_be_argument before b.head (length more))) regrouped ∙ number_where_again total 4 (may_be_argument before b.head (length more)) i tail (omega arith) here in
    record {
      last = others.last;
      read = ap (λ (r : Result (ℕ × List ℕ) Refusal). r >>= λ j. arguments_at total before (length more) (one_more b j)) one
          ∙ others.read
          ∙ ap (λ (ks : List ℕ). Ok (record { head = b.head; arguments = ks; last = others.last; rest = rest })) (append_assoc b.arguments (i ∷ []) more);
    }

pub record_again : (total : ℕ) (symbols : List Named) (before : Records) (r : Record) (rest : List ℕ) → length symbols ≤ 65535 → length before.records ≤ 262144 → is_right_record symbols before.records r ≡ true → is_some (came_after before.used (used_by r.head)) ≡ true → record_at total symbols before (record_bytes r ++ rest) ≡ Ok (with_record before r, rest)
unfolding record_at
record_again total symbols before r rest few_symbols few right in_order =
    let head_right = first_so (is_right_head symbols r.head) _ right in
    let right2 = second_so (is_right_head symbols r.head) _ right in
    let arity : length r.arguments ≡ arity_in symbols r.head = eqb-true _ _ (first_so (eqb (length r.arguments) (arity_in symbols r.head)) _ right2) in
    let right3 = second_so (eqb (length r.arguments) (arity_in symbols r.head)) _ right2 in
    let args_right = first_so (may_be_arguments before.records r.head r.arguments) _ right3 in
    let fresh = second_so (may_be_arguments before.records r.head r.arguments) _ right3 in
    let bytes : List ℕ = record_bytes r ++ rest in
    let after_head : List ℕ = numbers_bytes r.arguments ++ rest in
    let tail : List ℕ = value_bytes r.head ++ after_head in
    let regrouped : bytes ≡ big_bytes 1 (tag_of r.head) ++ tail =
    append_assoc (head_bytes r.head) (numbers_bytes r.arguments) rest
    ∙ ap (λ (x : List ℕ). x ++ after_head) (head_bytes-parts r.head)
    ∙ append_assoc (big_bytes 1 (tag_of r.head)) (value_bytes r.head) after_head in
    let few_tags = tag_of_few r.head in
    let tag : number_where total 1 (λ n. leb n 3) bytes ≡ Ok (tag_of r.head, tail) =
    ap (number_where total 1 (λ n. leb n 3)) regrouped ∙ number_where_again total 1 (λ n. leb n 3) (tag_of r.head) tail (omega arith) (le-leb _ _ few_tags) in
    let head = head_again total symbols before.used bytes r.head after_head few_symbols head_right in_order in
    let args = arguments_again total before.records (body r.head head.last after_head) r.arguments rest few refl args_right in
    let args_read : arguments_at total before.records (arity_in symbols r.head) (body r.head head.last after_head) ≡ Ok (record { head = r.head; arguments = r.arguments; last = args.last; rest = rest }) =
    ap (λ (n : ℕ). arguments_at total before.records n (body r.head head.last after_head)) (sym arity) ∙ args.read in
    ap (λ (q : Result (ℕ × List ℕ) Refusal). q >>= λ tag. head_at total symbols before.used bytes tag >>= λ head. arguments_at total before.records (arity_in symbols head.head) head >>= λ b. checked total b.last (is_new_record before.records (record_of b)) (with_record before (record_of b), b.rest)) tag
    ∙ ap (λ (q : Result Body Refusal). q >>= λ head. arguments_at total before.records (arity_in symbols head.head) head >>= λ b. checked total b.last (is_new_record before.records (record_of b)) (with_record before (record_of b), b.rest)) head.read
    ∙ ap (λ (q : Result Body Refusal). q >>= λ b. checked total b.last (is_new_record before.records (record_of b)) (with_record before (record_of b), b.rest)) args_read
    ∙ ap (λ (b : Bool). checked total args.last b (with_record before r, rest)) fresh

pub records_again : (total : ℕ) (symbols : List Named) (before : Records) (rs : List Record) (used : ℕ) (rest : List ℕ) → length symbols ≤ 65535 → length before.records + length rs ≤ 262144 → all_after (is_right_record symbols) before.records rs ≡ true → came_after before.used (uses rs) ≡ Some used → records_at total symbols (length rs) before (flat_map record_bytes rs ++ rest) ≡ Ok (record { records = before.records ++ rs; used = used }, rest)
unfolding records_at
records_again total symbols before [] used rest few_symbols few right in_order =
    let same : before.used ≡ used = cc in
    λ i. Ok (record { records = sym (append-nil before.records) i; used = same i }, rest)
records_again total symbols before (r ∷ rs) used rest few_symbols few right in_order =
    let one = first_so (is_right_record symbols before.records r) _ right in
    let others = second_so (is_right_record symbols before.records r) _ right in
    let there : is_some (came_after before.used (used_by r.head)) ≡ true = stops before.used (used_by r.head) (uses rs) used in_order in
    let next : Records = with_record before r in
    let goes_on : came_after next.used (uses rs) ≡ Some used =
    sym (came_on before.used (used_by r.head) (uses rs) next.used (some_is _ before.used there)) ∙ in_order in
    let regrouped : flat_map record_bytes (r ∷ rs) ++ rest ≡ record_bytes r ++ (flat_map record_bytes rs ++ rest) =
    append_assoc (record_bytes r) (flat_map record_bytes rs) rest in
    let room : length next.records + length rs ≤ 262144 = omega (arith, length-append before.records (r ∷ [])) in
    ap (records_at total symbols (suc (length rs)) before) regrouped
    ∙ ap (λ (q : Result (Records × List ℕ) Refusal). q >>= λ s. records_at total symbols (length rs) s.0 s.1) (record_again total symbols before r (flat_map record_bytes rs ++ rest) few_symbols (omega arith) one there)
    ∙ records_again total symbols next rs used rest few_symbols room others goes_on
    ∙ ap (λ (b : List Record). Ok (record { records = b; used = used }, rest)) (append_assoc before.records (r ∷ []) rs)
