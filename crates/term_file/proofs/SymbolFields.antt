-- Symbols that are read are those that were written, and what was written is read again.
use Rattle.std.proofs.Common.{◌≡◌, ℕ, zero, suc, ◌≤◌, Bool, true, ◌&&◌, leb, List, [], ◌∷◌, ◌++◌, length, Result, Ok, refl, sym, ap, subst, ◌∙◌, append_assoc, arith}
use Rattle.std.specs.List.{flat_map, list_all}
use Rattle.std.specs.Cmp.{first_so, second_so}
use Rattle.std.proofs.lemmas.Bool.{leb-true, le-leb}
use Rattle.std.proofs.lemmas.List.{append-nil}
use Rattle.byteorder.specs.Endian.{big_bytes}
use Rattle.faults.specs.declared.refusal.Refusal.{Refusal}
use Rattle.symbol_pool.specs.Pool.{Named, named}
use Rattle.tree_text.specs.NameBytes.{is_printable}
use Rattle.term_file.specs.Right.{all_after, is_right_symbol, is_new_symbol}
use Rattle.term_file.specs.File.{symbol_bytes}
use Rattle.term_file.specs.Reading.{◌>>=◌, number_at, text_where, number_where, symbol_at, symbols_at}
use Rattle.term_file.proofs.FieldLaws.{IsBytes, Takes, Takes-then, Takes-none, bind_ok, ok_is, wide1, number_takes, number_where_takes, number_again, number_where_again, text_where_takes, text_where_again}

abbrev pub arity_rule : List Named → List ℕ → ℕ → Bool
arity_rule before name n = leb n 16 && is_new_symbol before (named name n)

-- a symbol that was read behind these
pub record SymbolTaken (before : List Named) (bytes : List ℕ) (y : List Named × List ℕ) : Type 0 where
  pub symbol : Named
  pub added : y.0 ≡ before ++ symbol ∷ []
  pub takes : Takes bytes (symbol_bytes symbol) y.1
  pub right : is_right_symbol before symbol ≡ true

pub both_true : (a b : Bool) → a ≡ true → b ≡ true → (a && b) ≡ true
both_true a b p q = ap (λ (x : Bool). x && b) p ∙ q

pub symbol_takes : (total : ℕ) (before : List Named) (bytes : List ℕ) (y : List Named × List ℕ) → IsBytes bytes → symbol_at total before bytes ≡ Ok y → SymbolTaken before bytes y
unfolding symbol_at
symbol_takes total before bytes y fits e =
    let a = bind_ok (number_at total 1 bytes) (λ size. text_where total size.0 (list_all is_printable) size.1 >>= λ name. number_where total 1 (arity_rule before name.0) name.1 >>= λ arity. Ok (before ++ named name.0 arity.0 ∷ [], arity.1)) y e in
    let b = bind_ok (text_where total a.0.0 (list_all is_printable) a.0.1) (λ name. number_where total 1 (arity_rule before name.0) name.1 >>= λ arity. Ok (before ++ named name.0 arity.0 ∷ [], arity.1)) y a.2 in
    let c = bind_ok (number_where total 1 (arity_rule before b.0.0) b.0.1) (λ arity. Ok (before ++ named b.0.0 arity.0 ∷ [], arity.1)) y b.2 in
    let size = number_takes total 1 wide1 bytes a.0 fits a.1 in
    let name = text_where_takes total a.0.0 (list_all is_printable) a.0.1 b.0 size.takes.rest_fits b.1 in
    let arity = number_where_takes total 1 wide1 (arity_rule before b.0.0) b.0.1 c.0 name.takes.rest_fits c.1 in
    let s : Named = named b.0.0 c.0.0 in
    let whole : Takes bytes (big_bytes 1 a.0.0 ++ (b.0.0 ++ big_bytes 1 c.0.0)) c.0.1 =
    Takes-then bytes (big_bytes 1 a.0.0) a.0.1 (b.0.0 ++ big_bytes 1 c.0.0) c.0.1 size.takes (Takes-then a.0.1 b.0.0 b.0.1 (big_bytes 1 c.0.0) c.0.1 name.takes arity.takes) in
    let short : leb (length b.0.0) 255 ≡ true = le-leb _ _ (omega (arith, name.size, size.below)) in
    let taken : SymbolTaken before bytes (before ++ s ∷ [], c.0.1) = record {
      symbol = s;
      added = refl;
      takes = subst (λ (n : ℕ). Takes bytes (big_bytes 1 n ++ (b.0.0 ++ big_bytes 1 c.0.0)) c.0.1) (sym name.size) whole;
      right = both_true _ _ short (both_true _ _ name.kept arity.kept);
    } in
    subst (λ (z : List Named × List ℕ). SymbolTaken before bytes z) (ok_is (before ++ s ∷ [], c.0.1) y c.2) taken

pub symbol_again : (total : ℕ) (before : List Named) (s : Named) (rest : List ℕ) → is_right_symbol before s ≡ true → symbol_at total before (symbol_bytes s ++ rest) ≡ Ok (before ++ s ∷ [], rest)
unfolding symbol_at
symbol_again total before s rest right =
    let short : length s.name ≤ 255 = leb-true _ _ (first_so (leb (length s.name) 255) _ right) in
    let other = second_so (leb (length s.name) 255) _ right in
    let printable : list_all is_printable s.name ≡ true = first_so (list_all is_printable s.name) _ other in
    let kept : arity_rule before s.name s.arity ≡ true = second_so (list_all is_printable s.name) _ other in
    let few : s.arity ≤ 16 = leb-true _ _ (first_so (leb s.arity 16) _ kept) in
    let tail : List ℕ = big_bytes 1 s.arity ++ rest in
    let regrouped : symbol_bytes s ++ rest ≡ big_bytes 1 (length s.name) ++ (s.name ++ tail) =
    append_assoc (big_bytes 1 (length s.name)) (s.name ++ big_bytes 1 s.arity) rest ∙ ap (λ (x : List ℕ). big_bytes 1 (length s.name) ++ x) (append_assoc s.name (big_bytes 1 s.arity) rest) in
    let size = number_again total 1 (length s.name) (s.name ++ tail) (omega arith) in
    let name = text_where_again total (length s.name) (list_all is_printable) s.name tail refl printable in
    let arity = number_where_again total 1 (arity_rule before s.name) s.arity rest (omega arith) kept in
    ap (symbol_at total before) regrouped
    ∙ ap (λ (r : Result (ℕ × List ℕ) Refusal). r >>= λ size. text_where total size.0 (list_all is_printable) size.1 >>= λ name. number_where total 1 (arity_rule before name.0) name.1 >>= λ arity. Ok (before ++ named name.0 arity.0 ∷ [], arity.1)) size
    ∙ ap (λ (r : Result (List ℕ × List ℕ) Refusal). r >>= λ name. number_where total 1 (arity_rule before name.0) name.1 >>= λ arity. Ok (before ++ named name.0 arity.0 ∷ [], arity.1)) name
    ∙ ap (λ (r : Result (ℕ × List ℕ) Refusal). r >>= λ arity. Ok (before ++ named s.name arity.0 ∷ [], arity.1)) arity

-- so many symbols that were read behind these
pub record SymbolsTaken (n : ℕ) (before : List Named) (bytes : List ℕ) (y : List Named × List ℕ) : Type 0 where
  pub symbols : List Named
  pub added : y.0 ≡ before ++ symbols
  pub size : length symbols ≡ n
  pub takes : Takes bytes (flat_map symbol_bytes symbols) y.1
  pub right : all_after is_right_symbol before symbols ≡ true

pub symbols_take : (total n : ℕ) (before : List Named) (bytes : List ℕ) (y : List Named × List ℕ) → IsBytes bytes → symbols_at total n before bytes ≡ Ok y → SymbolsTaken n before bytes y
unfolding symbols_at
symbols_take total zero before bytes y fits e =
    let taken : SymbolsTaken 0 before bytes (before, bytes) = record {
      symbols = [];
      added = sym (append-nil before);
      size = refl;
      takes = Takes-none bytes fits;
      right = refl;
    } in
    subst (λ (z : List Named × List ℕ). SymbolsTaken 0 before bytes z) (ok_is (before, bytes) y e) taken
symbols_take total (suc n) before bytes y fits e =
    let a = bind_ok (symbol_at total before bytes) (λ s. symbols_at total n s.0 s.1) y e in
    let first = symbol_takes total before bytes a.0 fits a.1 in
    let others = symbols_take total n a.0.0 a.0.1 y first.takes.rest_fits a.2 in
    record {
      symbols = first.symbol ∷ others.symbols;
      added = others.added ∙ ap (λ (b : List Named). b ++ others.symbols) first.added ∙ append_assoc before (first.symbol ∷ []) others.symbols;
      size = ap suc others.size;
      takes = Takes-then bytes (symbol_bytes first.symbol) a.0.1 (flat_map symbol_bytes others.symbols) y.1 first.takes others.takes;
      right = both_true _ _ first.right (subst (λ (b : List Named). all_after is_right_symbol b others.symbols ≡ true) first.added others.right);
    }

pub symbols_again : (total : ℕ) (before ss : List Named) (rest : List ℕ) → all_after is_right_symbol before ss ≡ true → symbols_at total (length ss) before (flat_map symbol_bytes ss ++ rest) ≡ Ok (before ++ ss, rest)
unfolding symbols_at
symbols_again total before [] rest right = ap (λ (b : List Named). Ok (b, rest)) (sym (append-nil before))
symbols_again total before (s ∷ ss) rest right =
    let one = first_so (is_right_symbol before s) _ right in
    let others = second_so (is_right_symbol before s) _ right in
    let regrouped : flat_map symbol_bytes (s ∷ ss) ++ rest ≡ symbol_bytes s ++ (flat_map symbol_bytes ss ++ rest) =
    append_assoc (symbol_bytes s) (flat_map symbol_bytes ss) rest in
    ap (symbols_at total (suc (length ss)) before) regrouped
    ∙ ap (λ (r : Result (List Named × List ℕ) Refusal). r >>= λ s. symbols_at total (length ss) s.0 s.1) (symbol_again total before s (flat_map symbol_bytes ss ++ rest) one)
    ∙ symbols_again total (before ++ s ∷ []) ss rest others
    ∙ ap (λ (b : List Named). Ok (b, rest)) (append_assoc before (s ∷ []) ss)
