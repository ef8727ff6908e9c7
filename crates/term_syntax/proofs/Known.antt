-- Symbols that are known to be there.
use Rattle.std.proofs.Common.{length-append, Option, None, ◌≡◌, ◌≤◌, ◌<◌, ◌+◌, ◌*◌, ◌∙◌, ◌⊎◌, inl, inr, ℕ, zero, suc, List, [], ◌∷◌, ◌++◌, length, Some, refl, ap, arith}
use Rattle.std.specs.Prelude.{slice_get}
use Rattle.std.proofs.lemmas.List.Elements.{All-weaker}
use Rattle.term_model.specs.declared.Symbol.{Symbol}
use Rattle.symbol_pool.specs.Pool.{Named, named, name_at, arity_at, Holds, IsPool}
use Rattle.std.specs.Option.{option_map}
use Rattle.symbol_pool.specs.Taking.{GrowsPool}
use Rattle.symbol_pool.proofs.Taking.{with_symbol_grows}
use Rattle.term_syntax.specs.declared.lately.Noted.{Noted}
use Rattle.term_syntax.specs.Named.{IsSymbolTaken}
use Rattle.term_syntax.specs.Known.{IsNoted, AreKnown}
use Rattle.term_syntax.proofs.Names.{symbol_taken}

-- a symbol that is there is taken up, and nothing changes
pub known_taken : (pool : List Named) (name : List ℕ) (count : ℕ) (symbol : Symbol) → length name ≤ 255 → Holds pool symbol (named name count) → IsPool pool → IsSymbolTaken pool name count symbol pool
known_taken pool name count symbol short held is_pool =
    symbol_taken pool pool name count symbol short held (λ lacks. absurd (lacks symbol.0 held)) (λ has. refl) (λ full. full.0 symbol.0 held) is_pool

both : (o : Option Named) (name : List ℕ) (count : ℕ) → option_map (λ s. s.name) o ≡ Some name → option_map (λ s. s.arity) o ≡ Some count → o ≡ Some (named name count)
both None name count e f = absurd cc
both (Some s) name count e f =
    let p : s.name ≡ name = cc in
    let q : s.arity ≡ count = cc in
    λ i. Some (named (p i) (q i))

-- the symbol with this name and this number of arguments
pub held_by : (pool : List Named) (symbol : Symbol) (name : List ℕ) (count : ℕ) → name_at pool symbol ≡ Some name → arity_at pool symbol ≡ Some count → Holds pool symbol (named name count)
held_by pool symbol name count e f = both (slice_get pool symbol.0) name count e f

-- what stands at a place with sizes of a name is there
pub noted_there : (pool : List Named) (n : Noted) (size count : ℕ) → (n.sizes ≡ 4294967295) ⊎ IsNoted pool n → n.sizes ≡ size + count * 256 → size ≤ 255 → count ≤ 65535 → (n.symbol < length pool) × IsPool pool
noted_there pool n size count (inl none) sizes fits few = absurd (omega (arith, none, sizes, fits, few))
noted_there pool n size count (inr so) sizes fits few = (so.there, so.is_pool)

-- symbols stay where a pool grows
get_more : (xs ys : List Named) (i : ℕ) (x : Named) → slice_get xs i ≡ Some x → slice_get (xs ++ ys) i ≡ Some x
get_more [] ys i x e = absurd cc
get_more (z ∷ xs) ys zero x e = e
get_more (z ∷ xs) ys (suc i) x e = get_more xs ys i x e

so_grown : (old new : List Named) → GrowsPool old new → IsPool new → (n : Noted) → (n.sizes ≡ 4294967295) ⊎ IsNoted old n → (n.sizes ≡ 4294967295) ⊎ IsNoted new n
so_grown old new grows is_pool n (inl none) = inl none
so_grown old new grows is_pool n (inr so) =
    let size = ap length grows.1 in
    let longer = length-append old grows.0 in
    let there = so.there in
    inr (record {
      size = so.size;
      count = so.count;
      sizes_are = so.sizes_are;
      fits = so.fits;
      there = omega (arith, size, longer, there);
      held = λ short. ap (λ p. slice_get p n.symbol) grows.1 ∙ get_more old grows.0 n.symbol _ (so.held short);
      is_pool = is_pool;
    })

-- what is known stays known where a symbol is taken up
pub known_grown : (old new : List Named) (places : List Noted) (name : List ℕ) (count : ℕ) (symbol : Symbol) → IsSymbolTaken old name count symbol new → IsPool new → AreKnown places old → AreKnown places new
known_grown old new places name count symbol t is_pool known =
    let grown = with_symbol_grows old (named name count) in
    All-weaker _ _ (so_grown old new (grown.0, t.pool_is ∙ grown.1) is_pool) places known
