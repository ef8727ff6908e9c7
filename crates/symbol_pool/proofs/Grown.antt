-- A pool with one more name, and with one more symbol.
use Rattle.std.proofs.Common.{◌≡◌, ◌≢◌, ℕ, suc, ◌<◌, ◌≤◌, Bool, true, false, ◌||◌, List, [], ◌∷◌, ◌++◌, length, slice_get, Option, Some, None, All, refl, sym, ap, subst, ◌∙◌, arith, length-append, if◌then◌else◌, position}
use Rattle.std.specs.Option.{option_map, option_map_or}
use Rattle.std.specs.List.{IsDistinct, list_any}
use Rattle.std.specs.Global.{Vec}
use Rattle.std.specs.Cmp.Lexicographic.{bytes_decides}
use Rattle.std.proofs.lemmas.Option.{slice_get_within, slice_get-map}
use Rattle.std.proofs.lemmas.List.{map-append}
use Rattle.std.proofs.lemmas.List.Elements.{All-head, All-tail, All-weaker, All-push}
use Rattle.indexmap.specs.IndexSet.{insert_key}
use Rattle.symbol_pool.specs.Pool.{Named, named, most_symbols, Lacks}
use Rattle.symbol_pool.specs.Names.{name_of, same_name, IsNameAt, GrowsNames}
use Rattle.symbol_pool.specs.Kept.{symbol_of, symbols_of, same_pair, AreKept}
use Rattle.symbol_pool.proofs.Places.{slice_get-append, some_at, within_place}
use Rattle.symbol_pool.proofs.Pools.{stands, passes, alike_number, alike_arity}

-- the name at a number
pub name_of_at : (names : List (Vec ℕ)) (n : ℕ) (name : List ℕ) → IsNameAt names n name → name_of names n ≡ name
name_of_at names n name = by (slice_get names n)
  where
    by : (r : Option (Vec ℕ)) → option_map (λ v. v.items) r ≡ Some name → option_map_or (λ v. v.items) r [] ≡ name
    by None h = absurd (let bad : None ≡ Some name = h in cc)
    by (Some v) h = let e : Some v.items ≡ Some name = h in cc

-- a name that is found
pub found_name : (names : List (Vec ℕ)) (n : ℕ) (name : List ℕ) → Some n ≡ position (passes name) names → IsNameAt names n name
found_name names n name found =
    let v = stands names n (within_place (passes name) names n (sym found)) in
    ap (option_map (λ v. v.items)) v.at ∙ ap Some (sym ((bytes_decides name v.item.items).0 (some_at (passes name) names n v.item (sym found) v.at)))

-- a name that is stored
pub stored_name : (names : List (Vec ℕ)) (n : ℕ) (name copy : Vec ℕ) → slice_get names n ≡ Some copy → same_name name copy ≡ true → IsNameAt names n name.items
stored_name names n name copy at same = ap (option_map (λ v. v.items)) at ∙ ap Some (sym ((bytes_decides name.items copy.items).0 same))

pub within_at : (names : List (Vec ℕ)) (n : ℕ) (name : List ℕ) → IsNameAt names n name → n < length names
within_at names n name h = by (slice_get names n) refl
  where
    by : (r : Option (Vec ℕ)) → slice_get names n ≡ r → n < length names
    by None e = absurd (let bad : None ≡ Some name = sym (ap (option_map (λ v. v.items)) e) ∙ h in cc)
    by (Some v) e = slice_get_within names n v e

module _ (names more : List (Vec ℕ)) where
  -- symbols stay when names come last
  pub symbols_stay : (pairs : List (ℕ × ℕ)) → All (λ p. p.0 < length names) pairs → symbols_of (names ++ more) pairs ≡ symbols_of names pairs
  symbols_stay [] h = refl
  symbols_stay (p ∷ pairs) h =
      let P : ℕ × ℕ → Type 0 = λ p. p.0 < length names in
      let e : name_of (names ++ more) p.0 ≡ name_of names p.0 = ap (λ o. option_map_or (λ n. n.items) o []) (slice_get-append names more p.0 (All-head P p pairs h)) in
      λ i. named (e i) p.1 ∷ symbols_stay pairs (All-tail P p pairs h) i

  longer : length names ≤ length (names ++ more)
  longer = omega (arith, length-append names more)

-- one more name
pub with_name : (names new : List (Vec ℕ)) (pairs : List (ℕ × ℕ)) → AreKept names pairs → GrowsNames names new → (IsDistinct same_name names → IsDistinct same_name new) → AreKept new pairs
with_name names new pairs k (more, e) d = record {
  names_differ = d k.names_differ;
  pairs_differ = k.pairs_differ;
  named =
      let h : length names ≤ length new = subst (λ xs. length names ≤ length xs) (sym e) (longer names more) in
      let P : ℕ × ℕ → Type 0 = λ p. p.0 < length names in
      let Q : ℕ × ℕ → Type 0 = λ p. p.0 < length new in
      All-weaker P Q (λ p l. omega arith) pairs k.named;
  room = k.room;
}

pub same_symbols : (names new : List (Vec ℕ)) (pairs : List (ℕ × ℕ)) → AreKept names pairs → GrowsNames names new → symbols_of new pairs ≡ symbols_of names pairs
same_symbols names new pairs k (more, e) = ap (λ xs. symbols_of xs pairs) e ∙ symbols_stay names more pairs k.named

module _ (names : List (Vec ℕ)) (n : ℕ) (name : List ℕ) (arity : ℕ) (at : IsNameAt names n name) where
  shows : (p : ℕ × ℕ) → same_pair (n, arity) p ≡ true → symbol_of names p ≡ named name arity
  shows p same =
      let e : name_of names p.0 ≡ name = ap (name_of names) (sym (alike_number (n, arity) p same)) ∙ name_of_at names n name at in
      let f : p.1 ≡ arity = sym (alike_arity (n, arity) p same) in
      λ i. named (e i) (f i)

  -- a symbol that isn't there has no pair
  pub absent_pair : (pairs : List (ℕ × ℕ)) → Lacks (symbols_of names pairs) (named name arity) → list_any (same_pair (n, arity)) pairs ≡ false
  absent_pair [] lacks = refl
  absent_pair (p ∷ pairs) lacks = by (same_pair (n, arity) p) refl (absent_pair pairs (λ i. lacks (suc i)))
    where
      by : (b : Bool) → same_pair (n, arity) p ≡ b → list_any (same_pair (n, arity)) pairs ≡ false → (same_pair (n, arity) p || list_any (same_pair (n, arity)) pairs) ≡ false
      by true e rest = absurd (lacks 0 (ap Some (shows p e)))
      by false e rest = ap (λ b. b || list_any (same_pair (n, arity)) pairs) e ∙ rest

  -- one more pair
  pub with_pair : (pairs new : List (ℕ × ℕ)) → AreKept names pairs → IsDistinct same_pair new → new ≡ pairs ++ (n, arity) ∷ [] → length pairs ≢ most_symbols → AreKept names new
  with_pair pairs new k d e room = record {
    names_differ = k.names_differ;
    pairs_differ = d;
    named = let P : ℕ × ℕ → Type 0 = λ p. p.0 < length names in subst (All P) (sym e) (All-push P pairs (n, arity) k.named (within_at names n name at));
    room = rw e (omega (arith, k.room, room, length-append pairs ((n, arity) ∷ [])));
  }

  -- the pair comes last
  pub pair_comes_last : (pairs new : List (ℕ × ℕ)) → Lacks (symbols_of names pairs) (named name arity) → new ≡ insert_key same_pair pairs (n, arity) → new ≡ pairs ++ (n, arity) ∷ []
  pair_comes_last pairs new lacks e = e ∙ ap (λ b. if b then pairs else pairs ++ (n, arity) ∷ []) (absent_pair pairs lacks)

  -- and so does the symbol
  pub symbol_comes_last : (pairs : List (ℕ × ℕ)) → symbols_of names (pairs ++ (n, arity) ∷ []) ≡ symbols_of names pairs ++ named name arity ∷ []
  symbol_comes_last pairs = map-append (symbol_of names) pairs ((n, arity) ∷ []) ∙ (λ i. symbols_of names pairs ++ named (name_of_at names n name at i) arity ∷ [])

  -- it stands where its pair stands
  pub stands_there : (pairs : List (ℕ × ℕ)) (i : ℕ) (p : ℕ × ℕ) → slice_get pairs i ≡ Some p → same_pair (n, arity) p ≡ true → slice_get (symbols_of names pairs) i ≡ Some (named name arity)
  stands_there pairs i p there same = slice_get-map (symbol_of names) pairs i ∙ ap (option_map (symbol_of names)) there ∙ ap Some (shows p same)

-- a pool that lacked a symbol, with that symbol last
pub record Interned (names new : List (Vec ℕ)) (pairs more : List (ℕ × ℕ)) (s : Named) : Type 0 where
  pub kept : AreKept new more
  pub shows : symbols_of new more ≡ symbols_of names pairs ++ s ∷ []

pub interned : (names new : List (Vec ℕ)) (pairs more : List (ℕ × ℕ)) (n : ℕ) (name : List ℕ) (arity : ℕ) →
    AreKept names pairs → GrowsNames names new → (IsDistinct same_name names → IsDistinct same_name new) → IsNameAt new n name →
    Lacks (symbols_of names pairs) (named name arity) → more ≡ insert_key same_pair pairs (n, arity) → IsDistinct same_pair more → length pairs ≢ most_symbols →
    Interned names new pairs more (named name arity)
interned names new pairs more n name arity k grows d at lacks keys unique room =
    let same = same_symbols names new pairs k grows in
    let last : more ≡ pairs ++ (n, arity) ∷ [] = pair_comes_last new n name arity at pairs more (subst (λ pool. Lacks pool (named name arity)) (sym same) lacks) keys in
    record {
      kept = with_pair new n name arity at pairs more (with_name names new pairs k grows d) unique last room;
      shows = ap (symbols_of new) last ∙ symbol_comes_last new n name arity at pairs ∙ ap (λ pool. pool ++ named name arity ∷ []) same;
    }
