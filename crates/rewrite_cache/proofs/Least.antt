-- The least room of a reduction.
use Rattle.std.proofs.Common.{◌≡◌, ℕ, ◌+◌, ◌-◌, ◌<◌, ◌≤◌, List, [], refl, sym, ◌∙◌, subst, arith}
use Rattle.term_model.specs.Tree.{Tree}
use Rattle.rewrite_model.specs.Rule.{Rule}
use Rattle.rewrite_model.specs.Run.{Done, TooDeep}
use Rattle.rewrite_model.specs.Evaluation.{reduction}
use Rattle.rewrite_cache.specs.Cached.{IsKnown, IsLeastRoom}
use Rattle.rewrite_cache.proofs.Alike.{fuel_only_falls, is_known}

-- a known result in a room as great, with as much fuel
in_room_of : (rules : List Rule) (t value : Tree) (used room : ℕ) → IsKnown rules t value used room → (given kept : List Tree) (fuel wide left : ℕ) → used + left ≡ fuel → room ≤ wide → (reduction rules given kept t fuel wide).end ≡ Done value left
in_room_of rules t value used room k given kept fuel wide left f w =
    let e : room + (wide - room) ≡ wide = omega (arith, w) in
    subst (λ n. (reduction rules given kept t n wide).end ≡ Done value left) f
    (subst (λ n. (reduction rules given kept t (used + left) n).end ≡ Done value left) e (k given kept left (wide - room)))

-- two results of a tree took as much fuel
same_fuel : (rules : List Rule) (t v w : Tree) (used used' room room' : ℕ) → IsKnown rules t v used room → IsKnown rules t w used' room' → used ≡ used'
same_fuel rules t v w used used' room room' k k' =
    let one = in_room_of rules t v used room k [] [] (used + used') (room + room') used' refl (omega arith) in
    let other = in_room_of rules t w used' room' k' [] [] (used + used') (room + room') used (omega arith) (omega arith) in
    let both : Done v used' ≡ Done w used = sym one ∙ other in
    let is : used' ≡ used = cc in
    sym is

pub no_less_serves : (rules : List Rule) (given kept given' kept' : List Tree) (t value : Tree) (fuel room left : ℕ) → (reduction rules given kept t fuel (room + 1)).end ≡ Done value left → (reduction rules given' kept' t fuel room).end ≡ TooDeep → IsLeastRoom rules t (room + 1)
no_less_serves rules given kept given' kept' t value fuel room left e deep given2 kept2 fuel2 less v rest l e2 =
    let k = is_known rules given kept t value fuel (room + 1) left e in
    let n = fuel_only_falls rules given kept t value fuel (room + 1) left e in
    let k2 = is_known rules given2 kept2 t v fuel2 less rest e2 in
    let same = same_fuel rules t value v (fuel - left) (fuel2 - rest) (room + 1) less k k2 in
    let all : (fuel2 - rest) + left ≡ fuel = omega (arith, same, n) in
    let here = in_room_of rules t v (fuel2 - rest) less k2 given' kept' fuel room left all (omega (arith, l)) in
    let clash : Done v left ≡ TooDeep = sym here ∙ deep in
    cc

pub one_least : (rules : List Rule) (t value value' : Tree) (used used' room room' : ℕ) → IsKnown rules t value used room → IsLeastRoom rules t room → IsKnown rules t value' used' room' → IsLeastRoom rules t room' → room ≡ room'
one_least rules t value value' used used' room room' k least k' least' =
    let low : room < room' → ⊥ = λ l. least' [] [] used room value 0 l (in_room_of rules t value used room k [] [] used room 0 (omega arith) (omega arith)) in
    let high : room' < room → ⊥ = λ l. least [] [] used' room' value' 0 l (in_room_of rules t value' used' room' k' [] [] used' room' 0 (omega arith) (omega arith)) in
    omega (arith, low, high)
