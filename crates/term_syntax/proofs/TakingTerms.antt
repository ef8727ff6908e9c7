-- Taking up the parts of terms is taking up the terms, and the parts have the terms' symbols.
use Rattle.std.proofs.Common.{◌≡◌, ◌∙◌, ℕ, ◌+◌, List, [], ◌∷◌, ◌++◌, length, take, drop, refl, ap, sym, append_assoc, nat_lt, cond, Bool, true, false, ◌||◌, ◌==◌, Some, None, Ok, Err}
use Rattle.std.specs.Prelude.{Result}
use Rattle.std.proofs.lemmas.List.{take-append-drop}
use Rattle.faults.specs.declared.refusal.Refusal.{Refusal}
use Rattle.symbol_pool.specs.Pool.{Named, named}
use Rattle.term_syntax.specs.State.{Kind, Symbol, Integer, Brackets, Part}
use Rattle.read_faults.specs.Fault.{fault}
use Rattle.term_syntax.specs.Written.{Written, Call, Digits, Listed, Writtens, End, More, count_of, place_of}
use Rattle.symbol_pool.specs.Taking.{with_symbol, with_symbols, is_full_for}
use Rattle.term_syntax.specs.TakenUp.{and_then, take_name, take_term, take_arguments, take_elements, take_input, symbols_in, symbols_in_all, symbols_in_input, TookFront}
use Rattle.term_syntax.specs.Parts.{parts_of, parts_of_all, parts_of_input, pool_after, unless_fault, taken_up, symbol_of, symbols_of_parts}

abbrev Taken : Type 0
Taken = Result (List Named) Refusal

-- what is taken up of a term that may be the 17th argument
abbrev or_over : Bool → Written → List Named → Taken
or_over true w pool = Err (fault 13 (place_of w))
or_over false w pool = take_term w pool

then_same : (r : Taken) (f g : List Named → Taken) → ((q : List Named) → f q ≡ g q) → and_then r f ≡ and_then r g
then_same (Ok q) f g h = h q
then_same (Err e) f g h = refl

then_more : (r : Taken) (f g : List Named → Taken) → and_then r (λ q. and_then (f q) g) ≡ and_then (and_then r f) g
then_more (Ok q) f g = refl
then_more (Err e) f g = refl

name_first : (t : Bool) (e : Refusal) (r : Taken) (k : List Named → Taken) (pool : List Named) → r ≡ k pool → unless_fault (cond t (Some e) None) r ≡ and_then (cond t (Err e) (Ok pool)) k
name_first true e r k pool h = refl
name_first false e r k pool h = h

over_first : (b : Bool) (w : Written) (pool : List Named) (f k : List Named → Taken) → and_then (or_over b w pool) (λ q. and_then (f q) k) ≡ and_then (cond b (Err (fault 13 (place_of w))) (and_then (take_term w pool) f)) k
over_first true w pool f k = refl
over_first false w pool f k = then_more (take_term w pool) f k

mutual
  taking_term : (b : Bool) (w : Written) (pool : List Named) (ps : List Part) → taken_up pool (parts_of b w ++ ps) ≡ and_then (or_over b w pool) (λ q. taken_up q ps)
  taking_term true (Call p n ws) pool ps = refl
  taking_term true (Digits p v) pool ps = refl
  taking_term true (Listed p ws) pool ps = refl
  taking_term false (Call p n ws) pool ps =
      let s = named n (count_of ws) in
      let after = with_symbol pool s in
      name_first (nat_lt 255 (length n) || is_full_for pool s) (fault 13 p) (taken_up after (parts_of_all true 0 ws ++ ps)) (λ q. and_then (take_arguments 0 ws q) (λ r. taken_up r ps)) after (taking_arguments 0 ws after ps)
      ∙ then_more (take_name p n (count_of ws) pool) (take_arguments 0 ws) (λ q. taken_up q ps)
  taking_term false (Digits p (Some v)) pool ps = refl
  taking_term false (Digits p None) pool ps = refl
  taking_term false (Listed p ws) pool ps = taking_elements 0 ws pool ps

  taking_arguments : (c : ℕ) (ws : Writtens) (pool : List Named) (ps : List Part) → taken_up pool (parts_of_all true c ws ++ ps) ≡ and_then (take_arguments c ws pool) (λ q. taken_up q ps)
  taking_arguments c End pool ps = refl
  taking_arguments c (More w ws) pool ps =
      let rest = parts_of_all true (c + 1) ws in
      ap (taken_up pool) (append_assoc (parts_of (c == 16) w) rest ps)
      ∙ taking_term (c == 16) w pool (rest ++ ps)
      ∙ then_same (or_over (c == 16) w pool) (λ q. taken_up q (rest ++ ps)) (λ q. and_then (take_arguments (c + 1) ws q) (λ r. taken_up r ps)) (λ q. taking_arguments (c + 1) ws q ps)
      ∙ over_first (c == 16) w pool (take_arguments (c + 1) ws) (λ q. taken_up q ps)

  taking_elements : (c : ℕ) (ws : Writtens) (pool : List Named) (ps : List Part) → taken_up pool (parts_of_all false c ws ++ ps) ≡ and_then (take_elements ws pool) (λ q. taken_up q ps)
  taking_elements c End pool ps = refl
  taking_elements c (More w ws) pool ps =
      let rest = parts_of_all false (c + 1) ws in
      ap (taken_up pool) (append_assoc (parts_of false w) rest ps)
      ∙ taking_term false w pool (rest ++ ps)
      ∙ then_same (take_term w pool) (λ q. taken_up q (rest ++ ps)) (λ q. and_then (take_elements ws q) (λ r. taken_up r ps)) (λ q. taking_elements (c + 1) ws q ps)
      ∙ then_more (take_term w pool) (take_elements ws) (λ q. taken_up q ps)

pub taking_input : (ws : List Written) (pool : List Named) → taken_up pool (parts_of_input ws) ≡ take_input ws pool
taking_input [] pool = refl
taking_input (w ∷ ws) pool =
    taking_term false w pool (parts_of_input ws)
    ∙ then_same (take_term w pool) (λ q. taken_up q (parts_of_input ws)) (take_input ws) (λ q. taking_input ws q)

-- ---- the symbols of parts
pub symbols_append : (ps qs : List Part) → symbols_of_parts (ps ++ qs) ≡ symbols_of_parts ps ++ symbols_of_parts qs
symbols_append [] qs = refl
symbols_append (p ∷ ps) qs =
    ap (λ ss. symbol_of p.kind p.count ++ ss) (symbols_append ps qs)
    ∙ sym (append_assoc (symbol_of p.kind p.count) (symbols_of_parts ps) (symbols_of_parts qs))

mutual
  symbols_term : (b : Bool) (w : Written) → symbols_of_parts (parts_of b w) ≡ symbols_in w
  symbols_term b (Call p n ws) = ap (λ ss. named n (count_of ws) ∷ ss) (symbols_terms true 0 ws)
  symbols_term b (Digits p v) = refl
  symbols_term b (Listed p ws) = symbols_terms false 0 ws

  symbols_terms : (called : Bool) (c : ℕ) (ws : Writtens) → symbols_of_parts (parts_of_all called c ws) ≡ symbols_in_all ws
  symbols_terms called c End = refl
  symbols_terms called c (More w ws) =
      let a = symbols_term _ w in
      let b = symbols_terms called (c + 1) ws in
      symbols_append (parts_of _ w) (parts_of_all called (c + 1) ws) ∙ (λ i. a i ++ b i)

pub symbols_input : (ws : List Written) → symbols_of_parts (parts_of_input ws) ≡ symbols_in_input ws
symbols_input [] = refl
symbols_input (w ∷ ws) =
    let a = symbols_term false w in
    let b = symbols_input ws in
    symbols_append (parts_of false w) (parts_of_input ws) ∙ (λ i. a i ++ b i)

pub with_more : (pool xs ys : List Named) → with_symbols pool (xs ++ ys) ≡ with_symbols (with_symbols pool xs) ys
with_more pool [] ys = refl
with_more pool (x ∷ xs) ys = with_more (with_symbol pool x) xs ys

pub after_symbol : (pool : List Named) (kind : Kind) (count : ℕ) → pool_after pool kind count ≡ with_symbols pool (symbol_of kind count ++ [])
after_symbol pool (Symbol n) count = refl
after_symbol pool (Integer v) count = refl
after_symbol pool Brackets count = refl

-- the symbols of so many parts are a front
pub front_of : (ps : List Part) (i : ℕ) (old new : List Named) → new ≡ with_symbols old (symbols_of_parts (take i ps)) → TookFront (symbols_of_parts ps) old new
front_of ps i old new e = record {
  front = symbols_of_parts (take i ps);
  rest = symbols_of_parts (drop i ps);
  split = ap symbols_of_parts (sym (take-append-drop i ps)) ∙ symbols_append (take i ps) (drop i ps);
  taken = e;
}
