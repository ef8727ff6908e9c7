-- A memory of results, while the store goes on.
use Rattle.std.proofs.Common.{◌≡◌, ℕ, ◌+◌, ◌-◌, ◌<◌, List, [], ◌∷◌, ◌++◌, length, refl, sym, ◌∙◌, ap, arith, subst, Option, Some, None, inl, inr}
use Rattle.std.specs.Prelude.{slice_get}
use Rattle.std.proofs.lemmas.List.{length-append}
use Rattle.std.proofs.lemmas.List.Elements.{Contains-append_left}
use Rattle.term_model.specs.Tree.{Tree}
use Rattle.term_model.specs.declared.Row.{Row}
use Rattle.terms_api.specs.Terms.{Store, HasTree, IsSound, IsLater, KeepsAll, tree_at, trees}
use Rattle.terms_api.proofs.Callers.{has-held, held-stack, trees-at}
use Rattle.rewrite_model.specs.Rule.{Rule}
use Rattle.innermost.specs.declared.memo.Known.{Known}
use Rattle.innermost.specs.Standing.{Ages}
use Rattle.innermost.specs.Remembered.{Map, IsPartWith, IsRight, AreRight}
use Rattle.innermost.specs.Caching.{WasRight, IsSteady, IsResult}
use Rattle.innermost.proofs.Points.{ages_in_turn, length-trees}

-- while the epoch is the same number every row keeps its tree
pub keeps_all : (old new : Store) (n : ℕ) → Ages old new → old.epoch ≡ Some n → new.epoch ≡ Some n → KeepsAll old new
keeps_all old new n (inl p) e f = p.1
keeps_all old new n (inr p) e f =
    absurd (let q : IsLater (Some n) (Some n) = subst (λ (x : Option ℕ). IsLater x (Some n)) e (subst (λ (x : Option ℕ). IsLater old.epoch x) f p) in
    omega (arith, q))

pub right_later : (rules : List Rule) (built : List Tree) (old new : Store) (map' : Map) → AreRight rules built old map' → KeepsAll old new → AreRight rules built new map'
right_later rules built old new map' all keeps row known e =
    let r = all row known e in
    record {
      tree = r.tree;
      value = r.value;
      row = keeps row r.tree r.row;
      held = keeps known.value r.value r.held;
      stood = r.stood;
      known = r.known;
      least = r.least;
      normal = r.normal;
    }

-- more trees were built
pub right_longer : (rules : List Rule) (built more : List Tree) (s : Store) (map' : Map) → AreRight rules built s map' → AreRight rules (built ++ more) s map'
right_longer rules built more s map' all row known e =
    let r = all row known e in
    record {
      tree = r.tree;
      value = r.value;
      row = r.row;
      held = r.held;
      stood = Contains-append_left built more r.tree r.stood;
      known = r.known;
      least = r.least;
      normal = r.normal;
    }

pub same_right : (rules : List Rule) (built : List Tree) (s : Store) (old new : Map) → ((row : Row) → new row ≡ old row) → AreRight rules built s old → AreRight rules built s new
same_right rules built s old new same all row known e = all row known (sym (same row) ∙ e)

pub none_right : (rules : List Rule) (built : List Tree) (s : Store) (map' : Map) → ((row : Row) → map' row ≡ None) → AreRight rules built s map'
none_right rules built s map' none row known e = absurd (let k = none row in cc)

pub steady_right : (rules : List Rule) (built : List Tree) (map' : Map) (epoch : Option ℕ) (now : Store) → WasRight rules built map' epoch now → IsSteady epoch now → AreRight rules built now map'
steady_right rules built map' epoch now was steady =
    right_later rules built was.then now map' was.right
    (keeps_all was.then now steady.number was.ages (sym was.epoch ∙ steady.before) steady.same)

pub was_later : (rules : List Rule) (built : List Tree) (map' : Map) (epoch : Option ℕ) (old new : Store) → WasRight rules built map' epoch old → Ages old new → WasRight rules built map' epoch new
was_later rules built map' epoch old new was ages =
    record { then = was.then; epoch = was.epoch; ages = ages_in_turn was.then old new was.ages ages; right = was.right }

pub was_longer : (rules : List Rule) (built more : List Tree) (map' : Map) (epoch : Option ℕ) (now : Store) → WasRight rules built map' epoch now → WasRight rules (built ++ more) map' epoch now
was_longer rules built more map' epoch now was =
    record { then = was.then; epoch = was.epoch; ages = was.ages; right = right_longer rules built more was.then map' was.right }

pub right_now : (rules : List Rule) (built : List Tree) (map' : Map) (epoch : Option ℕ) (now : Store) → AreRight rules built now map' → epoch ≡ now.epoch → WasRight rules built map' epoch now
right_now rules built map' epoch now right e = record { then = now; epoch = e; ages = inl (refl, λ r t k. k); right = right }

-- the row on top
pub top_tree : (s : Store) (below : List Tree) (t : Tree) (r : Row) → IsSound s → trees s ≡ below ++ t ∷ [] → slice_get s.stack (length s.stack - 1) ≡ Some r → HasTree s r t
top_tree s below t r sound e at =
    let i = length s.stack - 1 in
    let n : length s.stack ≡ length below + 1 = omega (arith, length-trees s, ap length e, length-append below (t ∷ [])) in
    let k : i ≡ length below = omega (arith, n) in
    let there : slice_get (trees s) i ≡ Some (tree_at s r) = trees-at s i r at in
    let here : slice_get (trees s) i ≡ Some t = ap (λ ts. slice_get ts i) e ∙ ap (slice_get (below ++ t ∷ [])) k ∙ last_of below in
    let same : tree_at s r ≡ t = cc in
    has-held s r (held-stack s i r sound at) ∙ ap Some same
  where
    last_of : (xs : List Tree) → slice_get (xs ++ t ∷ []) (length xs) ≡ Some t
    last_of [] = refl
    last_of (x ∷ xs) = last_of xs

pub some_places : (s : Store) (below : List Tree) (t : Tree) → trees s ≡ below ++ t ∷ [] → 0 < length s.stack
some_places s below t e = omega (arith, length-trees s, ap length e, length-append below (t ∷ []))

-- a new pair is right
pub kept_right : (rules : List Rule) (built : List Tree) (old new : Map) (epoch : Option ℕ) (now : Store) (row value : Row) (fuel room : ℕ) → AreRight rules built now old → IsResult rules built epoch now row fuel room → IsSteady epoch now → IsSound now → slice_get now.stack (length now.stack - 1) ≡ Some value →
    IsPartWith old row (let k : Known = record { value = value; fuel = fuel; depth = room } in k) new → AreRight rules built now new
kept_right rules built old new epoch now row value fuel room all result steady sound at part other known e =
    elim (part other known e) [
      | inl p ↦ all other known p
      | inr p ↦ subst (λ (r : Row). IsRight rules built now r known) (sym p.0) (subst (λ (k : Known). IsRight rules built now row k) (sym p.1) (record {
        tree = result.tree;
        value = result.value;
        row = keeps_all result.then now steady.number result.ages (sym result.epoch ∙ steady.before) steady.same row result.tree result.row;
        held = top_tree now result.below result.value value sound result.top at;
        stood = result.stood;
        known = result.known;
        least = result.least;
        normal = result.normal;
      }))
    ]
