-- What was read can be written so that it is read back.
use Rattle.std.proofs.Common.{◌≡◌, ◌≤◌, ◌<◌, ◌∙◌, ℕ, ◌+◌, List, [], ◌∷◌, length, map, slice_get, refl, ap, sym, subst, arith, Bool, true, false, ◌&&◌, ◌||◌, ◌==◌, cond, eqb, leb, ltb, Option, Some, None, Ok, All}
use Rattle.std.specs.List.{list_all}
use Rattle.std.proofs.lemmas.Bool.{eq-eqb, eqb-false, le-leb, ltb-true, ltb-false}
use Rattle.std.proofs.lemmas.List.Elements.{All-head, All-tail, All-nil, All-cons}
use Rattle.term_model.proofs.Order.{both_hold, both}
use Rattle.symbol_pool.specs.Pool.{Named, named}
use Rattle.faults.specs.declared.refusal.Refusal.{Refusal}
use Rattle.read_faults.specs.Fault.{fault}
use Rattle.term_syntax.specs.Token.{Token}
use Rattle.term_syntax.specs.State.{Kind, Symbol, Integer, Brackets, Part}
use Rattle.tree_text.specs.NameBytes.{is_printable}
use Rattle.term_syntax.specs.Written.{Written, Call, Digits, Listed, Writtens, End, More, count_of}
use Rattle.term_syntax.specs.TermGrammar.{IsTerm, constant, call, number, empty, list, AreTerms, only, more, IsInput, none, next}
use Rattle.term_syntax.specs.Parts.{parts_of, parts_of_all, parts_of_input, is_too_much, is_bad_number, part_fault, pool_after, unless_fault, taken_up}
use Rattle.symbol_pool.specs.Taking.{has, number_of, is_full_for}
use Rattle.term_syntax.specs.TakenUp.{tree_in, trees_in, cells_in}
use Rattle.term_syntax.specs.Items.{IsThere}
use Rattle.tree_text.specs.Canonical.{is_writable_symbol, is_writable, all_writable, IsWritable}
use Rattle.symbol_pool.proofs.Taking.{number_holds}
use Rattle.term_syntax.proofs.Spelling.{counted, is_tree}
use Rattle.term_syntax.proofs.Ground.{All-left, All-right}
use Rattle.term_syntax.proofs.GoodTokens.{is_good_number, are_good}

-- the names of a written term are printable, and its integers have at most 64 bits
abbrev mutual
  pub is_good_term : Written → Bool
  is_good_term (Call p n ws) = list_all is_printable n && are_good_terms ws
  is_good_term (Digits p v) = is_good_number v
  is_good_term (Listed p ws) = are_good_terms ws

  pub are_good_terms : Writtens → Bool
  are_good_terms End = true
  are_good_terms (More w ws) = is_good_term w && are_good_terms ws

mutual
  term_good : {ts us : List Token} {w : Written} → IsTerm ts w us → are_good ts ≡ true → (is_good_term w ≡ true) × (are_good us ≡ true)
  term_good (constant {n = n} {rest = rest}) h =
      let a = both_hold (list_all is_printable n) (are_good rest) h in
      (both (list_all is_printable n) true a.0 refl, a.1)
  term_good (call {n = n} {ts = ts} {ws = ws} args) h =
      let a = both_hold (list_all is_printable n) (are_good ts) h in
      let b = terms_good args a.1 in
      (both (list_all is_printable n) (are_good_terms ws) a.0 b.0, b.1)
  term_good (number {v = v} {rest = rest}) h = both_hold (is_good_number v) (are_good rest) h
  term_good empty h = (refl, h)
  term_good (list args) h = terms_good args h

  terms_good : {ts us : List Token} {ws : Writtens} → AreTerms ts ws us → are_good ts ≡ true → (are_good_terms ws ≡ true) × (are_good us ≡ true)
  terms_good (only {w = w} x) h =
      let a = term_good x h in
      (both (is_good_term w) true a.0 refl, a.1)
  terms_good (more {w = w} {ws = ws} x r) h =
      let a = term_good x h in
      let b = terms_good r a.1 in
      (both (is_good_term w) (are_good_terms ws) a.0 b.0, b.1)

-- a part without a fault
pub record IsFine (p : Part) : Type 0 where
  pub within : p.over ≡ false
  pub short : (n : List ℕ) → p.kind ≡ Symbol n → length n ≤ 255
  pub integer : p.kind ≡ Integer None → ⊥

fine_from : (pool : List Named) (p : Part) → part_fault pool p ≡ None → IsFine p
fine_from pool p e = by p.over p.kind refl refl e
  where
    by : (o : Bool) (k : Kind) → p.over ≡ o → p.kind ≡ k → cond (o || is_too_much pool k p.count) (Some (fault 13 p.place)) (cond (is_bad_number k) (Some (fault 17 p.place)) None) ≡ None → IsFine p
    by true k f g e = absurd cc
    by false (Symbol n) f g e = record {
      within = f;
      short = λ m h. let same : Symbol m ≡ Symbol n = sym h ∙ g in let names : m ≡ n = cc in subst (λ xs. length xs ≤ 255) (sym names) (low (ltb 255 (length n)) refl e);
      integer = λ h. absurd (let bad : Integer None ≡ Symbol n = sym h ∙ g in cc);
    }
      where
        low : (t : Bool) → ltb 255 (length n) ≡ t → cond (false || (t || is_full_for pool (named n p.count))) (Some (fault 13 p.place)) None ≡ None → length n ≤ 255
        low true x e = absurd cc
        low false x e = ltb-false 255 (length n) x
    by false (Integer (Some v)) f g e = record {
      within = f;
      short = λ m h. absurd (let bad : Symbol m ≡ Integer (Some v) = sym h ∙ g in cc);
      integer = λ h. absurd (let bad : Integer None ≡ Integer (Some v) = sym h ∙ g in cc);
    }
    by false (Integer None) f g e = absurd cc
    by false Brackets f g e = record {
      within = f;
      short = λ m h. absurd (let bad : Symbol m ≡ Brackets = sym h ∙ g in cc);
      integer = λ h. absurd (let bad : Integer None ≡ Brackets = sym h ∙ g in cc);
    }

all_fine : (ps : List Part) (pool new : List Named) → taken_up pool ps ≡ Ok new → All IsFine ps
all_fine [] pool new e = All-nil IsFine
all_fine (p ∷ ps) pool new e = by (part_fault pool p) refl e (λ h. all_fine ps (pool_after pool p.kind p.count) new h)
  where
    by : (o : Option Refusal) → part_fault pool p ≡ o → unless_fault o (taken_up (pool_after pool p.kind p.count) ps) ≡ Ok new → (taken_up (pool_after pool p.kind p.count) ps ≡ Ok new → All IsFine ps) → All IsFine (p ∷ ps)
    by None f h k = All-cons IsFine p ps (fine_from pool p f) (k h)
    by (Some x) f h k = absurd cc

-- of a name's arguments none is the 17th
few : (c : ℕ) (ws : Writtens) → c ≤ 16 → All IsFine (parts_of_all true c ws) → c + count_of ws ≤ 16
few c End h f = omega (arith, h)
few c (More w ws) h f =
    let rest = All-right IsFine (parts_of (true && eqb c 16) w) (parts_of_all true (c + 1) ws) f in
    let one = first_within (eqb c 16) w (All-left IsFine (parts_of (eqb c 16) w) (parts_of_all true (c + 1) ws) f) in
    let less : c < 16 = not_last c h one in
    let more = few (c + 1) ws (omega (arith, less)) rest in
    omega (arith, more)
  where
    first_within : (b : Bool) (w : Written) → All IsFine (parts_of b w) → b ≡ false
    first_within b (Call p n vs) g = (All-head IsFine (record { place = p; over = b; kind = Symbol n; count = count_of vs }) (parts_of_all true 0 vs) g).within
    first_within b (Digits p v) g = (All-head IsFine (record { place = p; over = b; kind = Integer v; count = 0 }) [] g).within
    first_within b (Listed p vs) g = (All-head IsFine (record { place = p; over = b; kind = Brackets; count = count_of vs }) (parts_of_all false 0 vs) g).within

    not_last : (c : ℕ) → c ≤ 16 → eqb c 16 ≡ false → c < 16
    not_last c h e = let ne = eqb-false c 16 e in omega (arith, h, ne)

module _ (pool : List Named) where
  -- a symbol of the pool
  writable_symbol : (name : List ℕ) (n : ℕ) → has pool (named name n) ≡ true → n ≤ 16 → length name ≤ 255 → list_all is_printable name ≡ true → is_writable_symbol (slice_get pool (number_of pool (named name n))) n ≡ true
  writable_symbol name n h f s p =
      ap (λ o. is_writable_symbol o n) (number_holds pool (named name n) (ltb-true (number_of pool (named name n)) (length pool) h))
      ∙ both (eqb n n) (leb n 16 && (leb (length name) 255 && list_all is_printable name)) (eq-eqb n n refl)
      (both (leb n 16) (leb (length name) 255 && list_all is_printable name) (le-leb n 16 f)
      (both (leb (length name) 255) (list_all is_printable name) (le-leb (length name) 255 s) p))

  mutual
    term_writable : (b : Bool) (w : Written) → All IsFine (parts_of b w) → All (IsThere pool) (parts_of b w) → is_good_term w ≡ true → is_writable pool (tree_in pool w) ≡ true
    term_writable b (Call p n ws) f t g =
        let h : Part = record { place = p; over = b; kind = Symbol n; count = count_of ws } in
        let gs = both_hold (list_all is_printable n) (are_good_terms ws) g in
        let inner = All-tail IsFine h (parts_of_all true 0 ws) f in
        let fewer : count_of ws ≤ 16 = omega (arith, few 0 ws (omega arith) inner) in
        let head = writable_symbol n (count_of ws) (All-head (IsThere pool) h (parts_of_all true 0 ws) t) fewer ((All-head IsFine h (parts_of_all true 0 ws) f).short n refl) gs.0 in
        both _ (all_writable pool (trees_in pool ws))
        (ap (is_writable_symbol (slice_get pool (number_of pool (named n (count_of ws))))) (counted pool ws) ∙ head)
        (terms_writable true 0 ws inner (All-tail (IsThere pool) h (parts_of_all true 0 ws) t) gs.1)
    term_writable b (Digits p (Some v)) f t g = both (leb v 18446744073709551615) true g refl
    term_writable b (Digits p None) f t g = refl
    term_writable b (Listed p ws) f t g =
        let h : Part = record { place = p; over = b; kind = Brackets; count = count_of ws } in
        cells_writable false 0 ws (All-tail IsFine h (parts_of_all false 0 ws) f) (All-tail (IsThere pool) h (parts_of_all false 0 ws) t) g

    terms_writable : (called : Bool) (c : ℕ) (ws : Writtens) → All IsFine (parts_of_all called c ws) → All (IsThere pool) (parts_of_all called c ws) → are_good_terms ws ≡ true → all_writable pool (trees_in pool ws) ≡ true
    terms_writable called c End f t g = refl
    terms_writable called c (More w ws) f t g =
        let b = called && c == 16 in
        let gs = both_hold (is_good_term w) (are_good_terms ws) g in
        both (is_writable pool (tree_in pool w)) (all_writable pool (trees_in pool ws))
        (term_writable b w (All-left IsFine (parts_of b w) (parts_of_all called (c + 1) ws) f) (All-left (IsThere pool) (parts_of b w) (parts_of_all called (c + 1) ws) t) gs.0)
        (terms_writable called (c + 1) ws (All-right IsFine (parts_of b w) (parts_of_all called (c + 1) ws) f) (All-right (IsThere pool) (parts_of b w) (parts_of_all called (c + 1) ws) t) gs.1)

    cells_writable : (called : Bool) (c : ℕ) (ws : Writtens) → All IsFine (parts_of_all called c ws) → All (IsThere pool) (parts_of_all called c ws) → are_good_terms ws ≡ true → is_writable pool (cells_in pool ws) ≡ true
    cells_writable called c End f t g = refl
    cells_writable called c (More w ws) f t g =
        let b = called && c == 16 in
        let gs = both_hold (is_good_term w) (are_good_terms ws) g in
        both (is_writable pool (tree_in pool w)) (is_writable pool (cells_in pool ws) && true)
        (term_writable b w (All-left IsFine (parts_of b w) (parts_of_all called (c + 1) ws) f) (All-left (IsThere pool) (parts_of b w) (parts_of_all called (c + 1) ws) t) gs.0)
        (both (is_writable pool (cells_in pool ws)) true
        (cells_writable called (c + 1) ws (All-right IsFine (parts_of b w) (parts_of_all called (c + 1) ws) f) (All-right (IsThere pool) (parts_of b w) (parts_of_all called (c + 1) ws) t) gs.1) refl)

  inputs_writable : {ts : List Token} {ws : List Written} → IsInput ts ws → are_good ts ≡ true → All IsFine (parts_of_input ws) → All (IsThere pool) (parts_of_input ws) → All (IsWritable pool) (map (tree_in pool) ws)
  inputs_writable none g f t = All-nil (IsWritable pool)
  inputs_writable (next {w = w} {ws = ws} x r) g f t =
      let a = term_good x g in
      All-cons (IsWritable pool) (tree_in pool w) (map (tree_in pool) ws)
      (record {
        well_formed = is_tree pool w;
        writable = term_writable false w (All-left IsFine (parts_of false w) (parts_of_input ws) f) (All-left (IsThere pool) (parts_of false w) (parts_of_input ws) t) a.0;
      })
      (inputs_writable r a.1 (All-right IsFine (parts_of false w) (parts_of_input ws) f) (All-right (IsThere pool) (parts_of false w) (parts_of_input ws) t))

-- the terms of an input whose parts were taken up
pub input_writable : (old new : List Named) {ts : List Token} {ws : List Written} → IsInput ts ws → are_good ts ≡ true → taken_up old (parts_of_input ws) ≡ Ok new → All (IsThere new) (parts_of_input ws) → All (IsWritable new) (map (tree_in new) ws)
input_writable old new {ws = ws} h g taken there = inputs_writable new h g (all_fine (parts_of_input ws) old new taken) there
