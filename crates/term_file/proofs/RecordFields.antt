-- Records that are read are those that were written, and what was written is read again.
use Rattle.std.proofs.Common.{◌≡◌, ℕ, zero, suc, ◌≤◌, Bool, true, ◌&&◌, eqb, leb, ltb, List, [], ◌∷◌, ◌++◌, length, Ok, Some, refl, sym, ap, subst, ◌∙◌, append_assoc, arith}
use Rattle.std.specs.Prelude.{is_some, unwrap_or}
use Rattle.std.specs.List.{flat_map}
use Rattle.std.specs.Cmp.{first_so, second_so}
use Rattle.std.proofs.lemmas.Bool.{leb-true, lt-ltb, eq-eqb}
use Rattle.std.proofs.lemmas.List.{append-nil}
use Rattle.byteorder.specs.Endian.{big_bytes}
use Rattle.symbol_pool.specs.Pool.{Named}
use Rattle.term_model.specs.declared.Head.{Head}
use Rattle.term_model.specs.declared.Head.TheVariants.{App, Int, Nil, Cons}
use Rattle.term_file.specs.Contents.{Record}
use Rattle.term_file.specs.InOrder.{came_after, used_by, uses}
use Rattle.term_file.specs.Right.{all_after, is_right_head, is_right_record, is_new_record, may_be_argument, may_be_arguments, arity_in}
use Rattle.term_file.specs.File.{head_bytes, numbers_bytes, record_bytes}
use Rattle.term_file.specs.Reading.{◌>>=◌, checked, number_at, number_where, Body, body, head_at, arguments_at, Records, record_of, with_record, record_at, records_at}
use Rattle.term_file.proofs.FieldLaws.{IsBytes, Takes, Takes-then, Takes-none, bind_ok, ok_is, checked_ok, wide1, wide4, wide8, number_takes, number_where_takes}
use Rattle.term_file.proofs.SymbolFields.{both_true}
use Rattle.term_file.proofs.Ordered.{came_on, some_is}

-- the head of a record that was read: no arguments yet, and its symbol is one that was used or the
-- next
pub record HeadTaken (symbols : List Named) (used : ℕ) (bytes : List ℕ) (b : Body) : Type 0 where
  pub none : b.arguments ≡ []
  pub takes : Takes bytes (head_bytes b.head) b.rest
  pub right : is_right_head symbols b.head ≡ true
  pub in_order : is_some (came_after used (used_by b.head)) ≡ true

abbrev pub symbol_rule : List Named → ℕ → ℕ → Bool
symbol_rule symbols used n = ltb n (length symbols) && is_some (came_after used (n ∷ []))

-- the tag comes first
with_tag : (n : ℕ) (bytes text rest after : List ℕ) → Takes bytes (big_bytes 1 n) rest → Takes rest text after → Takes bytes (big_bytes 1 n ++ text) after
with_tag n bytes text rest after t u = Takes-then bytes (big_bytes 1 n) rest text after t u

pub head_takes : (total : ℕ) (symbols : List Named) (used : ℕ) (bytes : List ℕ) (tag : ℕ × List ℕ) (b : Body) → Takes bytes (big_bytes 1 tag.0) tag.1 → tag.0 ≤ 3 → head_at total symbols used bytes tag ≡ Ok b → HeadTaken symbols used bytes b
unfolding head_at
head_takes total symbols used bytes (zero, rest) b t le e =
    let a = bind_ok (number_where total 4 (symbol_rule symbols used) rest) (λ f. Ok (body (App (record { 0 = f.0 })) rest f.1)) b e in
    let f = number_where_takes total 4 wide4 (symbol_rule symbols used) rest a.0 t.rest_fits a.1 in
    let made : Body = body (App (record { 0 = a.0.0 })) rest a.0.1 in
    let taken : HeadTaken symbols used bytes made = record {
      none = refl;
      takes = with_tag 0 bytes (big_bytes 4 a.0.0) rest a.0.1 t f.takes;
      right = first_so (ltb a.0.0 (length symbols)) _ f.kept;
      in_order = second_so (ltb a.0.0 (length symbols)) _ f.kept;
    } in
    subst (λ (z : Body). HeadTaken symbols used bytes z) (ok_is made b a.2) taken
head_takes total symbols used bytes (suc zero, rest) b t le e =
    let a = bind_ok (number_at total 8 rest) (λ v. Ok (body (Int v.0) rest v.1)) b e in
    let v = number_takes total 8 wide8 rest a.0 t.rest_fits a.1 in
    let made : Body = body (Int a.0.0) rest a.0.1 in
    let taken : HeadTaken symbols used bytes made = record {
      none = refl;
      takes = with_tag 1 bytes (big_bytes 8 a.0.0) rest a.0.1 t v.takes;
      right = lt-ltb _ _ v.below;
      in_order = refl;
    } in
    subst (λ (z : Body). HeadTaken symbols used bytes z) (ok_is made b a.2) taken
head_takes total symbols used bytes (suc (suc zero), rest) b t le e =
    let taken : HeadTaken symbols used bytes (body Nil bytes rest) = record { none = refl; takes = t; right = refl; in_order = refl } in
    subst (λ (z : Body). HeadTaken symbols used bytes z) (ok_is (body Nil bytes rest) b e) taken
head_takes total symbols used bytes (suc (suc (suc zero)), rest) b t le e =
    let taken : HeadTaken symbols used bytes (body Cons bytes rest) = record { none = refl; takes = t; right = refl; in_order = refl } in
    subst (λ (z : Body). HeadTaken symbols used bytes z) (ok_is (body Cons bytes rest) b e) taken
head_takes total symbols used bytes (suc (suc (suc (suc n))), rest) b t le e = absurd (omega arith)

-- arguments that were read behind those of a body
pub record ArgumentsTaken (before : List Record) (n : ℕ) (b c : Body) : Type 0 where
  pub more : List ℕ
  pub head_stays : c.head ≡ b.head
  pub added : c.arguments ≡ b.arguments ++ more
  pub size : length more ≡ n
  pub takes : Takes b.rest (numbers_bytes more) c.rest
  pub right : may_be_arguments before b.head more ≡ true

abbrev pub one_more : Body → ℕ × List ℕ → Body
one_more b i = record b { arguments = b.arguments ++ i.0 ∷ []; last = b.rest; rest = i.1 }

pub arguments_take : (total : ℕ) (before : List Record) (n : ℕ) (b c : Body) → IsBytes b.rest → arguments_at total before n b ≡ Ok c → ArgumentsTaken before n b c
unfolding arguments_at
arguments_take total before zero b c fits e =
    let taken : ArgumentsTaken before 0 b b = record {
      more = [];
      head_stays = refl;
      added = sym (append-nil b.arguments);
      size = refl;
      takes = Takes-none b.rest fits;
      right = refl;
    } in
    subst (λ (z : Body). ArgumentsTaken before 0 b z) (ok_is b c e) taken
arguments_take total before (suc n) b c fits e =
    let a = bind_ok (number_where total 4 (may_be_argument before b.head n) b.rest) (λ i. arguments_at total before n (one_more b i)) c e in
    let i = number_where_takes total 4 wide4 (may_be_argument before b.head n) b.rest a.0 fits a.1 in
    let others = arguments_take total before n (one_more b a.0) c i.takes.rest_fits a.2 in
    let fits_there : may_be_argument before b.head (length others.more) a.0.0 ≡ true = subst (λ (k : ℕ). may_be_argument before b.head k a.0.0 ≡ true) (sym others.size) i.kept in
    record {
      more = a.0.0 ∷ others.more;
      head_stays = others.head_stays;
      added = others.added ∙ append_assoc b.arguments (a.0.0 ∷ []) others.more;
      size = ap suc others.size;
      takes = Takes-then b.rest (big_bytes 4 a.0.0) a.0.1 (numbers_bytes others.more) c.rest i.takes others.takes;
      right = both_true _ _ fits_there others.right;
    }

-- a record that was read behind those before it
pub record RecordTaken (symbols : List Named) (before : Records) (bytes : List ℕ) (y : Records × List ℕ) : Type 0 where
  pub this : Record
  pub added : y.0.records ≡ before.records ++ this ∷ []
  pub takes : Takes bytes (record_bytes this) y.1
  pub right : is_right_record symbols before.records this ≡ true
  pub in_order : came_after before.used (used_by this.head) ≡ Some y.0.used

pub record_takes : (total : ℕ) (symbols : List Named) (before : Records) (bytes : List ℕ) (y : Records × List ℕ) → IsBytes bytes → record_at total symbols before bytes ≡ Ok y → RecordTaken symbols before bytes y
unfolding record_at
record_takes total symbols before bytes y fits e =
    let a = bind_ok (number_where total 1 (λ n. leb n 3) bytes) (λ tag. head_at total symbols before.used bytes tag >>= λ head. arguments_at total before.records (arity_in symbols head.head) head >>= λ b. checked total b.last (is_new_record before.records (record_of b)) (with_record before (record_of b), b.rest)) y e in
    let h = bind_ok (head_at total symbols before.used bytes a.0) (λ head. arguments_at total before.records (arity_in symbols head.head) head >>= λ b. checked total b.last (is_new_record before.records (record_of b)) (with_record before (record_of b), b.rest)) y a.2 in
    let g = bind_ok (arguments_at total before.records (arity_in symbols h.0.head) h.0) (λ b. checked total b.last (is_new_record before.records (record_of b)) (with_record before (record_of b), b.rest)) y h.2 in
    let k = checked_ok total g.0.last (is_new_record before.records (record_of g.0)) (with_record before (record_of g.0), g.0.rest) y g.2 in
    let tag = number_where_takes total 1 wide1 (λ n. leb n 3) bytes a.0 fits a.1 in
    let head = head_takes total symbols before.used bytes a.0 h.0 tag.takes (leb-true _ _ tag.kept) h.1 in
    let args = arguments_take total before.records (arity_in symbols h.0.head) h.0 g.0 head.takes.rest_fits g.1 in
    let all : g.0.arguments ≡ args.more = args.added ∙ ap (λ (x : List ℕ). x ++ args.more) head.none in
    let this : Record = record { head = h.0.head; arguments = args.more } in
    let same : record_of g.0 ≡ this = λ i. record { head = args.head_stays i; arguments = all i } in
    let arity : eqb (length args.more) (arity_in symbols h.0.head) ≡ true = eq-eqb _ _ args.size in
    let fresh : is_new_record before.records this ≡ true = ap (is_new_record before.records) (sym same) ∙ k.0 in
    let taken : RecordTaken symbols before bytes (with_record before (record_of g.0), g.0.rest) = record {
      this = this;
      added = ap (λ (r : Record). before.records ++ r ∷ []) same;
      takes = Takes-then bytes (head_bytes h.0.head) h.0.rest (numbers_bytes args.more) g.0.rest head.takes args.takes;
      right = both_true _ _ head.right (both_true _ _ arity (both_true _ _ args.right fresh));
      in_order = some_is _ before.used head.in_order ∙ ap (λ (x : Head). Some (unwrap_or (came_after before.used (used_by x)) before.used)) (sym args.head_stays);
    } in
    subst (λ (z : Records × List ℕ). RecordTaken symbols before bytes z) k.1 taken

-- so many records that were read behind those before them
pub record RecordsTaken (symbols : List Named) (n : ℕ) (before : Records) (bytes : List ℕ) (y : Records × List ℕ) : Type 0 where
  pub more : List Record
  pub added : y.0.records ≡ before.records ++ more
  pub size : length more ≡ n
  pub takes : Takes bytes (flat_map record_bytes more) y.1
  pub right : all_after (is_right_record symbols) before.records more ≡ true
  pub in_order : came_after before.used (uses more) ≡ Some y.0.used

pub records_take : (total : ℕ) (symbols : List Named) (n : ℕ) (before : Records) (bytes : List ℕ) (y : Records × List ℕ) → IsBytes bytes → records_at total symbols n before bytes ≡ Ok y → RecordsTaken symbols n before bytes y
unfolding records_at
records_take total symbols zero before bytes y fits e =
    let taken : RecordsTaken symbols 0 before bytes (before, bytes) = record {
      more = [];
      added = sym (append-nil before.records);
      size = refl;
      takes = Takes-none bytes fits;
      right = refl;
      in_order = refl;
    } in
    subst (λ (z : Records × List ℕ). RecordsTaken symbols 0 before bytes z) (ok_is (before, bytes) y e) taken
records_take total symbols (suc n) before bytes y fits e =
    let a = bind_ok (record_at total symbols before bytes) (λ r. records_at total symbols n r.0 r.1) y e in
    let first = record_takes total symbols before bytes a.0 fits a.1 in
    let others = records_take total symbols n a.0.0 a.0.1 y first.takes.rest_fits a.2 in
    record {
      more = first.this ∷ others.more;
      added = others.added ∙ ap (λ (b : List Record). b ++ others.more) first.added ∙ append_assoc before.records (first.this ∷ []) others.more;
      size = ap suc others.size;
      takes = Takes-then bytes (record_bytes first.this) a.0.1 (flat_map record_bytes others.more) y.1 first.takes others.takes;
      right = both_true _ _ first.right (subst (λ (b : List Record). all_after (is_right_record symbols) b others.more ≡ true) first.added others.right);
      in_order = came_on before.used (used_by first.this.head) (uses others.more) a.0.0.used first.in_order ∙ others.in_order;
    }
