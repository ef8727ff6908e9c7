-- A pool as it is kept shows different symbols, and a look-up goes by the name's number.
use Rattle.std.proofs.Common.{◌≡◌, ℕ, ◌<◌, Bool, true, ◌&&◌, List, [], ◌∷◌, length, get_or, slice_get, nat_eq, position, Option, Some, None, Result, Err, ◌↔◌, refl, sym, ap, subst, ◌∙◌, true≢false, arith}
use Rattle.std.specs.Option.{option_map, option_map_or}
use Rattle.std.specs.List.{IsDistinct}
use Rattle.std.specs.Global.{Vec}
use Rattle.std.specs.Cmp.Lexicographic.{pointwise, bytes_decides}
use Rattle.std.proofs.lemmas.Option.{slice_get_within, get_or_from_slice_get, slice_get-map, slice_get-get_or}
use Rattle.std.specs.Cmp.{first_so, second_so}
use Rattle.std.proofs.lemmas.Bool.{eqb-true, eq-eqb}
use Rattle.std.proofs.lemmas.List.{length-map}
use Rattle.term_model.specs.declared.Symbol.{Symbol}
use Rattle.symbol_pool.specs.Pool.{Named, named, most_symbols, name_at, arity_at, Holds, Lacks, IsFullFor, IsPool}
use Rattle.symbol_pool.specs.declared.fault.PoolFault.{PoolFault}
use Rattle.symbol_pool.specs.declared.fault.PoolFault.TheVariants.{Full}
use Rattle.symbol_pool.specs.Names.{name_of, same_name}
use Rattle.symbol_pool.specs.Kept.{symbol_of, symbols_of, same_pair, AreKept}
use Rattle.symbol_pool.proofs.Places.{distinct_once, none_at, some_at, within_place}

abbrev items_or_none : Option (Vec ℕ) → List ℕ
items_or_none o = option_map_or (λ n. n.items) o []

abbrev pub passes : List ℕ → Vec ℕ → Bool
passes name v = pointwise nat_eq name v.items

-- what stands at a place within a list
pub record Stands {X : Type 0} (xs : List X) (i : ℕ) : Type 0 where
  pub item : X
  pub at : slice_get xs i ≡ Some item

pub stands : {X : Type 0} (xs : List X) (i : ℕ) → i < length xs → Stands xs i
stands [] i l = absurd (omega arith)
stands (x ∷ xs) i l = record { item = get_or (x ∷ xs) i x; at = slice_get-get_or (x ∷ xs) i x l }

-- a name has one number
same_number : (names : List (Vec ℕ)) (i j : ℕ) → IsDistinct same_name names → i < length names → j < length names → name_of names i ≡ name_of names j → i ≡ j
same_number names i j d li lj e =
    let v = stands names i li in
    let w = stands names j lj in
    let same : v.item.items ≡ w.item.items = sym (ap items_or_none v.at) ∙ e ∙ ap items_or_none w.at in
    distinct_once same_name names i j v.item w.item d v.at w.at ((bytes_decides v.item.items w.item.items).1 same) ((bytes_decides w.item.items v.item.items).1 (sym same))

equal_numbers : (a b : ℕ) → a ≡ b → nat_eq a b ≡ true
equal_numbers a b e = eq-eqb a b e

alike : (p q : ℕ × ℕ) → p.0 ≡ q.0 → p.1 ≡ q.1 → same_pair p q ≡ true
alike p q e f = λ i. equal_numbers p.0 q.0 e i && equal_numbers p.1 q.1 f i

pub alike_number : (p q : ℕ × ℕ) → same_pair p q ≡ true → p.0 ≡ q.0
alike_number p q h = eqb-true p.0 q.0 (first_so (nat_eq p.0 q.0) (nat_eq p.1 q.1) h)

pub alike_arity : (p q : ℕ × ℕ) → same_pair p q ≡ true → p.1 ≡ q.1
alike_arity p q h = eqb-true p.1 q.1 (second_so (nat_eq p.0 q.0) (nat_eq p.1 q.1) h)

module _ (names : List (Vec ℕ)) (pairs : List (ℕ × ℕ)) (k : AreKept names pairs) where
  -- the pair behind a symbol
  record Behind (i : ℕ) (s : Named) : Type 0 where
    pair : ℕ × ℕ
    at : slice_get pairs i ≡ Some pair
    is : symbol_of names pair ≡ s
    within : pair.0 < length names

  behind : (i : ℕ) (s : Named) → slice_get (symbols_of names pairs) i ≡ Some s → Behind i s
  behind i s h = by (slice_get pairs i) refl
    where
      e : option_map (symbol_of names) (slice_get pairs i) ≡ Some s
      e = sym (slice_get-map (symbol_of names) pairs i) ∙ h

      by : (r : Option (ℕ × ℕ)) → slice_get pairs i ≡ r → Behind i s
      by None n = absurd (let bad : None ≡ Some s = sym (ap (option_map (symbol_of names)) n) ∙ e in cc)
      by (Some p) n = record {
        pair = p;
        at = n;
        is = let f : Some (symbol_of names p) ≡ Some s = sym (ap (option_map (symbol_of names)) n) ∙ e in cc;
        within = subst (λ q. q.0 < length names) (get_or_from_slice_get pairs i p p n) (k.named i p (slice_get_within pairs i p n));
      }

  -- different places show different symbols
  once : (i j : ℕ) (s : Named) → slice_get (symbols_of names pairs) i ≡ Some s → slice_get (symbols_of names pairs) j ≡ Some s → i ≡ j
  once i j s a b =
      let p = behind i s a in
      let q = behind j s b in
      let name : name_of names p.pair.0 ≡ name_of names q.pair.0 = ap (λ s. s.name) (p.is ∙ sym q.is) in
      let arity : p.pair.1 ≡ q.pair.1 = ap (λ s. s.arity) (p.is ∙ sym q.is) in
      let number : p.pair.0 ≡ q.pair.0 = same_number names p.pair.0 q.pair.0 k.names_differ p.within q.within name in
      distinct_once same_pair pairs i j p.pair q.pair k.pairs_differ p.at q.at (alike p.pair q.pair number arity) (alike q.pair p.pair (sym number) (sym arity))

  pub pool_of_kept : IsPool (symbols_of names pairs)
  pool_of_kept = record { once = once; room = rw (length-map pairs (symbol_of names)) k.room }

  module _ (name : List ℕ) (arity : ℕ) where
    -- a name that isn't there has no symbol
    pub no_name : None ≡ position (passes name) names → Lacks (symbols_of names pairs) (named name arity)
    no_name none i at =
        let p = behind i (named name arity) at in
        let v = stands names p.pair.0 p.within in
        let same : name ≡ v.item.items = sym (ap (λ s. s.name) p.is) ∙ ap items_or_none v.at in
        true≢false (sym ((bytes_decides name v.item.items).1 same) ∙ none_at (passes name) names p.pair.0 v.item (sym none) v.at)

    module _ (n : ℕ) (some : Some n ≡ position (passes name) names) where
      within : n < length names
      within = within_place (passes name) names n (sym some)

      there : Stands names n
      there = stands names n within

      number_of_name : name_of names n ≡ name
      number_of_name = ap items_or_none there.at ∙ sym ((bytes_decides name there.item.items).0 (some_at (passes name) names n there.item (sym some) there.at))

      -- a name without this number of arguments has no such symbol
      pub no_pair : None ≡ position (same_pair (n, arity)) pairs → Lacks (symbols_of names pairs) (named name arity)
      no_pair none i at =
          let p = behind i (named name arity) at in
          let number : n ≡ p.pair.0 = same_number names n p.pair.0 k.names_differ within p.within (number_of_name ∙ sym (ap (λ s. s.name) p.is)) in
          true≢false (sym (alike (n, arity) p.pair number (sym (ap (λ s. s.arity) p.is))) ∙ none_at (same_pair (n, arity)) pairs i p.pair (sym none) p.at)

      -- the symbol's place is that of its pair
      pub yes_pair : (i : ℕ) → Some i ≡ position (same_pair (n, arity)) pairs → slice_get (symbols_of names pairs) i ≡ Some (named name arity)
      yes_pair i found =
          let p = stands pairs i (within_place (same_pair (n, arity)) pairs i (sym found)) in
          let same = some_at (same_pair (n, arity)) pairs i p.item (sym found) p.at in
          let name_is : name_of names p.item.0 ≡ name = ap (name_of names) (sym (alike_number (n, arity) p.item same)) ∙ number_of_name in
          let arity_is : p.item.1 ≡ arity = sym (alike_arity (n, arity) p.item same) in
          slice_get-map (symbol_of names) pairs i ∙ ap (option_map (symbol_of names)) p.at ∙ (λ j. Some (named (name_is j) (arity_is j)))

-- a symbol of this name with this number of arguments
pub holds_at : (pool : List Named) (symbol : Symbol) (name : List ℕ) (arity : ℕ) → name_at pool symbol ≡ Some name → arity_at pool symbol ≡ Some arity → Holds pool symbol (named name arity)
holds_at pool symbol name arity = by (slice_get pool symbol.0)
  where
    by : (r : Option Named) → option_map (λ s. s.name) r ≡ Some name → option_map (λ s. s.arity) r ≡ Some arity → r ≡ Some (named name arity)
    by None e f = absurd (let bad : None ≡ Some name = e in cc)
    by (Some s) e f =
        let n : s.name ≡ name = cc in
        let a : s.arity ≡ arity = cc in
        λ i. Some (named (n i) (a i))

pub same_bytes : (a b name : List ℕ) → pointwise nat_eq a b ≡ true → b ≡ name → a ≡ name
same_bytes a b name e f = (bytes_decides a b).0 e ∙ f

-- ---- whether a pool is full for a symbol

pub shown_length : (names : List (Vec ℕ)) (pairs : List (ℕ × ℕ)) (pool : List Named) → symbols_of names pairs ≡ pool → length pool ≡ length pairs
shown_length names pairs pool shows = sym (ap length shows) ∙ length-map pairs (symbol_of names)

pub full_now : (r : Result Symbol PoolFault) (pool : List Named) (s : Named) → r ≡ Err Full → Lacks pool s → length pool ≡ most_symbols → (r ≡ Err Full) ↔ IsFullFor pool s
full_now r pool s e lacks size = ((λ _. (lacks, size)), (λ _. e))

pub not_full_held : (r : Result Symbol PoolFault) (pool : List Named) (s : Named) (x : Symbol) → (r ≡ Err Full → ⊥) → Holds pool x s → (r ≡ Err Full) ↔ IsFullFor pool s
not_full_held r pool s x other holds = ((λ e. absurd (other e)), (λ full. absurd (full.0 x.0 holds)))

pub not_full_room : (r : Result Symbol PoolFault) (pool : List Named) (s : Named) → (r ≡ Err Full → ⊥) → (length pool ≡ most_symbols → ⊥) → (r ≡ Err Full) ↔ IsFullFor pool s
not_full_room r pool s other room = ((λ e. absurd (other e)), (λ full. absurd (room full.1)))
