-- The two laws of reading: what is read is right and is all of the bytes, and each right file is
-- read.
use Rattle.std.proofs.Common.{◌≡◌, ℕ, Bool, true, false, ◌&&◌, eqb, leb, List, [], ◌∷◌, ◌++◌, length, Result, Ok, Some, refl, sym, ap, subst, ◌∙◌, arith}
use Rattle.std.specs.List.{flat_map, list_all}
use Rattle.std.specs.Cmp.{first_so, second_so}
use Rattle.std.specs.Cmp.Lexicographic.{pointwise, bytes_decides}
use Rattle.std.specs.Prelude.{nat_eq}
use Rattle.std.proofs.lemmas.Bool.{leb-true, le-leb, eqb-true, eq-eqb}
use Rattle.std.proofs.lemmas.List.{append-nil}
use Rattle.byteorder.specs.Endian.{big_bytes}
use Rattle.faults.specs.declared.refusal.Refusal.{Refusal}
use Rattle.symbol_pool.specs.Pool.{Named}
use Rattle.term_file.specs.Contents.{Record, Contents}
use Rattle.term_file.specs.InOrder.{came_after, visits, visits_at, visits_over, uses}
use Rattle.term_file.specs.Right.{IsRight, all_after, is_right_symbol, is_right_record}
use Rattle.term_file.specs.File.{symbol_bytes, record_bytes, numbers_bytes, magic, file_bytes}
use Rattle.term_file.specs.Reading.{◌>>=◌, checked, text_where, number_where, symbols_at, Records, records_at, Roots, roots_at, is_nil, no_records, no_roots, roots_to_end, records_to_end, read_file}
use Rattle.term_file.proofs.FieldLaws.{IsBytes, TextTaken, NumberTaken, bind_ok, checked_ok, wide4, number_where_takes, number_where_again, text_where_takes, text_where_again}
use Rattle.term_file.proofs.SymbolFields.{SymbolsTaken, symbols_take, symbols_again}
use Rattle.term_file.proofs.RecordFields.{RecordsTaken, records_take}
use Rattle.term_file.proofs.RecordsAgain.{records_again}
use Rattle.term_file.proofs.RootFields.{RootsTaken, is_below, roots_take, roots_again}
use Rattle.term_file.proofs.Tables.{length-table_of}
use Rattle.read_faults.specs.declared.fail.ReadFail.{ReadFail}
use Rattle.read_faults.specs.Fault.{IsDue}
use Rattle.term_file.proofs.Loops.{first_due, same_due, checked_due}

-- what comes after each part of a file
abbrev pub made : List Named → Records → Roots → Contents
made symbols found roots = record { symbols = symbols; records = found.records; roots = roots.roots }

abbrev pub after_roots : ℕ → List Named → Records → Roots × List ℕ → Result Contents Refusal
after_roots total symbols found roots =
    checked total roots.1 (eqb roots.0.visited (length found.records) && is_nil roots.1) (made symbols found roots.0)

abbrev pub after_root_count : ℕ → List Named → Records → ℕ × List ℕ → Result Contents Refusal
after_root_count total symbols found count =
    roots_at total (visits found.records) count.0 no_roots count.1 >>= after_roots total symbols found

abbrev pub all_used : List Named → Records → ℕ → Bool
all_used symbols found n = eqb found.used (length symbols)

abbrev pub after_records : ℕ → List Named → Records × List ℕ → Result Contents Refusal
after_records total symbols found =
    number_where total 4 (all_used symbols found.0) found.1 >>= after_root_count total symbols found.0

abbrev pub after_record_count : ℕ → List Named → ℕ × List ℕ → Result Contents Refusal
after_record_count total symbols count = records_at total symbols count.0 no_records count.1 >>= after_records total symbols

abbrev pub few_records : ℕ → Bool
few_records n = leb n 262144

abbrev pub after_symbols : ℕ → List Named × List ℕ → Result Contents Refusal
after_symbols total symbols = number_where total 4 few_records symbols.1 >>= after_record_count total symbols.0

abbrev pub after_symbol_count : ℕ → ℕ × List ℕ → Result Contents Refusal
after_symbol_count total count = symbols_at total count.0 [] count.1 >>= after_symbols total

abbrev pub few_symbols : ℕ → Bool
few_symbols n = leb n 65535

abbrev pub after_magic : ℕ → List ℕ × List ℕ → Result Contents Refusal
after_magic total start = number_where total 4 few_symbols start.1 >>= after_symbol_count total

nil_is : (bytes : List ℕ) → is_nil bytes ≡ true → bytes ≡ []
nil_is [] e = refl
nil_is (b ∷ bs) e = absurd cc

pub record FileTaken (bytes : List ℕ) (c : Contents) : Type 0 where
  pub right : IsRight c
  pub bytes_are : bytes ≡ file_bytes c

-- the parts of a file, one behind the other
module _ (bytes : List ℕ) (c : Contents) where
  abbrev total : ℕ
  total = length bytes

  module _ (a : List ℕ × List ℕ) (start : TextTaken 8 (pointwise nat_eq magic) bytes a) where
    module _ (b : ℕ × List ℕ) (symbol_count : NumberTaken 4 few_symbols a.1 b) where
      module _ (s : List Named × List ℕ) (symbols : SymbolsTaken b.0 [] b.1 s) where
        module _ (d : ℕ × List ℕ) (record_count : NumberTaken 4 few_records s.1 d) where
          module _ (r : Records × List ℕ) (records : RecordsTaken s.0 d.0 no_records d.1 r) where
            module _ (f : ℕ × List ℕ) (root_count : NumberTaken 4 (all_used s.0 r.0) r.1 f) where
              module _ (g : Roots × List ℕ) (roots : RootsTaken (visits r.0.records) f.0 no_roots f.1 g) (visited : g.0.visited ≡ length r.0.records) (nothing : g.1 ≡ []) where
                used : r.0.used ≡ length s.0
                used = eqb-true _ _ root_count.kept

                symbols_size : length s.0 ≡ b.0
                symbols_size = ap (λ (x : List Named). length x) symbols.added ∙ symbols.size

                records_size : length r.0.records ≡ d.0
                records_size = ap (λ (x : List Record). length x) records.added ∙ records.size

                roots_size : length g.0.roots ≡ f.0
                roots_size = ap (λ (x : List ℕ). length x) roots.added ∙ roots.size

                table : length (visits r.0.records) ≡ length r.0.records
                table = length-table_of visits_over r.0.records

                right : IsRight (made s.0 r.0 g.0)
                right = record {
                  few_symbols = omega (arith, leb-true _ _ symbol_count.kept, symbols_size);
                  symbols_right = subst (λ (x : List Named). all_after is_right_symbol [] x ≡ true) (sym symbols.added) symbols.right;
                  few_records = omega (arith, leb-true _ _ record_count.kept, records_size);
                  records_right = subst (λ (x : List Record). all_after (is_right_record s.0) [] x ≡ true) (sym records.added) records.right;
                  uses_in_order = ap (λ (x : List Record). came_after 0 (uses x)) records.added ∙ records.in_order ∙ ap Some used;
                  few_roots = omega (arith, root_count.below, roots_size);
                  roots_right = ap (λ (n : ℕ). list_all (is_below n) g.0.roots) (sym table) ∙ ap (λ (x : List ℕ). list_all (is_below (length (visits r.0.records))) x) roots.added ∙ roots.right;
                  visits_in_order = ap (λ (x : List ℕ). came_after 0 (flat_map (visits_at (visits r.0.records)) x)) roots.added ∙ roots.in_order ∙ ap Some visited;
                }

                abbrev tail6 : List ℕ
                tail6 = numbers_bytes g.0.roots

                abbrev tail5 : List ℕ
                tail5 = big_bytes 4 (length g.0.roots) ++ tail6

                abbrev tail4 : List ℕ
                tail4 = flat_map record_bytes r.0.records ++ tail5

                abbrev tail3 : List ℕ
                tail3 = big_bytes 4 (length r.0.records) ++ tail4

                abbrev tail2 : List ℕ
                tail2 = flat_map symbol_bytes s.0 ++ tail3

                parts6 : f.1 ≡ tail6
                parts6 = roots.takes.parts ∙ ap (λ (x : List ℕ). numbers_bytes roots.more ++ x) nothing ∙ append-nil (numbers_bytes roots.more) ∙ ap numbers_bytes (sym roots.added)

                parts5 : r.1 ≡ tail5
                parts5 = root_count.takes.parts ∙ (λ i. big_bytes 4 (sym roots_size i) ++ parts6 i)

                parts4 : d.1 ≡ tail4
                parts4 = records.takes.parts ∙ (λ i. flat_map record_bytes (sym records.added i) ++ parts5 i)

                parts3 : s.1 ≡ tail3
                parts3 = record_count.takes.parts ∙ (λ i. big_bytes 4 (sym records_size i) ++ parts4 i)

                parts2 : b.1 ≡ tail2
                parts2 = symbols.takes.parts ∙ (λ i. flat_map symbol_bytes (sym symbols.added i) ++ parts3 i)

                parts1 : a.1 ≡ big_bytes 4 (length s.0) ++ tail2
                parts1 = symbol_count.takes.parts ∙ (λ i. big_bytes 4 (sym symbols_size i) ++ parts2 i)

                is_magic : magic ≡ a.0
                is_magic = (bytes_decides magic a.0).0 start.kept

                taken : FileTaken bytes (made s.0 r.0 g.0)
                taken = record { right = right; bytes_are = start.takes.parts ∙ (λ i. sym is_magic i ++ parts1 i) }

              with_roots : after_root_count total s.0 r.0 f ≡ Ok c → FileTaken bytes c
              with_roots e =
                  let g = bind_ok (roots_at total (visits r.0.records) f.0 no_roots f.1) (after_roots total s.0 r.0) c e in
                  let k = checked_ok total g.0.1 (eqb g.0.0.visited (length r.0.records) && is_nil g.0.1) (made s.0 r.0 g.0.0) c g.2 in
                  subst (λ (x : Contents). FileTaken bytes x) k.1
                  (taken g.0 (roots_take total (visits r.0.records) f.0 no_roots f.1 g.0 root_count.takes.rest_fits g.1)
                  (eqb-true _ _ (first_so (eqb g.0.0.visited (length r.0.records)) _ k.0)) (nil_is g.0.1 (second_so (eqb g.0.0.visited (length r.0.records)) _ k.0)))

            with_root_count : after_records total s.0 r ≡ Ok c → FileTaken bytes c
            with_root_count e =
                let f = bind_ok (number_where total 4 (all_used s.0 r.0) r.1) (after_root_count total s.0 r.0) c e in
                with_roots f.0 (number_where_takes total 4 wide4 (all_used s.0 r.0) r.1 f.0 records.takes.rest_fits f.1) f.2

          with_records : after_record_count total s.0 d ≡ Ok c → FileTaken bytes c
          with_records e =
              let r = bind_ok (records_at total s.0 d.0 no_records d.1) (after_records total s.0) c e in
              with_root_count r.0 (records_take total s.0 d.0 no_records d.1 r.0 record_count.takes.rest_fits r.1) r.2

        with_record_count : after_symbols total s ≡ Ok c → FileTaken bytes c
        with_record_count e =
            let d = bind_ok (number_where total 4 few_records s.1) (after_record_count total s.0) c e in
            with_records d.0 (number_where_takes total 4 wide4 few_records s.1 d.0 symbols.takes.rest_fits d.1) d.2

      with_symbols : after_symbol_count total b ≡ Ok c → FileTaken bytes c
      with_symbols e =
          let s = bind_ok (symbols_at total b.0 [] b.1) (after_symbols total) c e in
          with_record_count s.0 (symbols_take total b.0 [] b.1 s.0 symbol_count.takes.rest_fits s.1) s.2

    with_symbol_count : after_magic total a ≡ Ok c → FileTaken bytes c
    with_symbol_count e =
        let b = bind_ok (number_where total 4 few_symbols a.1) (after_symbol_count total) c e in
        with_symbols b.0 (number_where_takes total 4 wide4 few_symbols a.1 b.0 start.takes.rest_fits b.1) b.2

  pub file_takes : IsBytes bytes → read_file bytes ≡ Ok c → FileTaken bytes c
  unfolding read_file records_to_end roots_to_end
  file_takes fits e =
      let a = bind_ok (text_where total 8 (pointwise nat_eq magic) bytes) (after_magic total) c e in
      with_symbol_count a.0 (text_where_takes total 8 (pointwise nat_eq magic) bytes a.0 fits a.1) a.2

pub file_again : (c : Contents) → IsRight c → read_file (file_bytes c) ≡ Ok c
unfolding read_file records_to_end roots_to_end
file_again c right =
    let bytes : List ℕ = file_bytes c in
    let total : ℕ = length bytes in
    let tail6 : List ℕ = numbers_bytes c.roots in
    let tail5 : List ℕ = big_bytes 4 (length c.roots) ++ tail6 in
    let tail4 : List ℕ = flat_map record_bytes c.records ++ tail5 in
    let tail3 : List ℕ = big_bytes 4 (length c.records) ++ tail4 in
    let tail2 : List ℕ = flat_map symbol_bytes c.symbols ++ tail3 in
    let tail1 : List ℕ = big_bytes 4 (length c.symbols) ++ tail2 in
    let few1 = right.few_symbols in
    let few2 = right.few_records in
    let few3 = right.few_roots in
    let found : Records = record { records = c.records; used = length c.symbols } in
    let done : Roots = record { roots = c.roots; visited = length c.records } in
    let table : length (visits c.records) ≡ length c.records = length-table_of visits_over c.records in
    let start = text_where_again total 8 (pointwise nat_eq magic) magic tail1 refl ((bytes_decides magic magic).1 refl) in
    let symbol_count = number_where_again total 4 few_symbols (length c.symbols) tail2 (omega arith) (le-leb _ _ few1) in
    let symbols = symbols_again total [] c.symbols tail3 right.symbols_right in
    let record_count = number_where_again total 4 few_records (length c.records) tail4 (omega arith) (le-leb _ _ few2) in
    let records = records_again total c.symbols no_records c.records (length c.symbols) tail5 few1 (omega arith) right.records_right right.uses_in_order in
    let root_count = number_where_again total 4 (all_used c.symbols found) (length c.roots) tail6 (omega arith) (eq-eqb (length c.symbols) (length c.symbols) refl) in
    let roots_right : list_all (is_below (length (visits c.records))) c.roots ≡ true = ap (λ (n : ℕ). list_all (is_below n) c.roots) table ∙ right.roots_right in
    let roots = roots_again total (visits c.records) no_roots c.roots (length c.records) [] (omega arith) roots_right right.visits_in_order in
    let roots_read : roots_at total (visits c.records) (length c.roots) no_roots tail6 ≡ Ok (done, []) = ap (roots_at total (visits c.records) (length c.roots) no_roots) (sym (append-nil tail6)) ∙ roots in
    ap (λ (q : Result (List ℕ × List ℕ) Refusal). q >>= after_magic total) start
    ∙ ap (λ (q : Result (ℕ × List ℕ) Refusal). q >>= after_symbol_count total) symbol_count
    ∙ ap (λ (q : Result (List Named × List ℕ) Refusal). q >>= after_symbols total) symbols
    ∙ ap (λ (q : Result (ℕ × List ℕ) Refusal). q >>= after_record_count total c.symbols) record_count
    ∙ ap (λ (q : Result (Records × List ℕ) Refusal). q >>= after_records total c.symbols) records
    ∙ ap (λ (q : Result (ℕ × List ℕ) Refusal). q >>= after_root_count total c.symbols found) root_count
    ∙ ap (λ (q : Result (Roots × List ℕ) Refusal). q >>= after_roots total c.symbols found) roots_read
    ∙ ap (λ (b : Bool). checked total [] (b && is_nil []) c) (eq-eqb (length c.records) (length c.records) refl)

-- ---- the roots that were read as far as some field

-- a rule that was kept is kept for each value
kept_for : {A B : Type 0} (total : ℕ) (bytes : List ℕ) (rule : Bool) (x : A) (y : B) → checked total bytes rule x ≡ Ok x → checked total bytes rule y ≡ Ok y
kept_for total bytes true x y h = refl
kept_for total bytes false x y h = absurd cc

module _ (total : ℕ) (symbols : List Named) (found : Records) (bytes : List ℕ) where
  pub due_at_root_count : (e : ReadFail) → IsDue (number_where total 4 (all_used symbols found) bytes) e → IsDue (roots_to_end total symbols found bytes) e
  unfolding roots_to_end
  due_at_root_count e h = first_due (number_where total 4 (all_used symbols found) bytes) (after_root_count total symbols found) e h

  module _ (root_count : ℕ × List ℕ) (e1 : number_where total 4 (all_used symbols found) bytes ≡ Ok root_count) where
    as_far_as_roots : roots_to_end total symbols found bytes ≡ after_root_count total symbols found root_count
    unfolding roots_to_end
    as_far_as_roots = ap (λ (q : Result (ℕ × List ℕ) Refusal). q >>= after_root_count total symbols found) e1

    pub due_at_roots : (e : ReadFail) → IsDue (roots_at total (visits found.records) root_count.0 no_roots root_count.1) e → IsDue (roots_to_end total symbols found bytes) e
    due_at_roots e h =
        same_due (after_root_count total symbols found root_count) (roots_to_end total symbols found bytes) e (sym as_far_as_roots)
        (first_due (roots_at total (visits found.records) root_count.0 no_roots root_count.1) (after_roots total symbols found) e h)

    module _ (roots : Roots × List ℕ) (e2 : roots_at total (visits found.records) root_count.0 no_roots root_count.1 ≡ Ok roots) where
      as_far_as_end : roots_to_end total symbols found bytes ≡ after_roots total symbols found roots
      as_far_as_end = as_far_as_roots ∙ ap (λ (q : Result (Roots × List ℕ) Refusal). q >>= after_roots total symbols found) e2

      abbrev pub ends_well : Bool
      ends_well = eqb roots.0.visited (length found.records) && is_nil roots.1

      pub due_at_end : (e : ReadFail) → IsDue (checked {A = Unit {0}} total roots.1 ends_well tt) e → IsDue (roots_to_end total symbols found bytes) e
      due_at_end e h =
          same_due (after_roots total symbols found roots) (roots_to_end total symbols found bytes) e (sym as_far_as_end)
          (checked_due total roots.1 ends_well tt (made symbols found roots.0) e h)

      pub read_whole : checked {A = Unit {0}} total roots.1 ends_well tt ≡ Ok tt → roots_to_end total symbols found bytes ≡ Ok (made symbols found roots.0)
      read_whole h = as_far_as_end ∙ kept_for total roots.1 ends_well tt (made symbols found roots.0) h
