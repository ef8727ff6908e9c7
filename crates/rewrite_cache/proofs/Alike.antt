-- Where a run ends in a value, another with as much fuel as it took, as much room and other trees
-- handed over ends in the same value, for as much fuel and by the same trees.
use Rattle.std.proofs.Common.{◌≡◌, ℕ, zero, suc, ◌+◌, ◌-◌, ◌≤◌, ◌<◌, List, [], ◌∷◌, ◌++◌, length, Option, Some, None, refl, sym, ◌∙◌, ap, subst, arith, Bool, true, false}
use Rattle.std.specs.Prelude.{if◌then◌else◌, nat_lt}
use Rattle.std.proofs.lemmas.List.{map-append}
use Rattle.std.proofs.lemmas.Bool.{ltb-true, ltb-false}
use Rattle.term_model.specs.Tree.{Tree, Leaf, Node, Trees, End, More, arguments}
use Rattle.rewrite_model.specs.Rule.{Rule, Condition}
use Rattle.rewrite_model.specs.Matching.{match_of, if_matched, tree_at}
use Rattle.rewrite_model.specs.Run.{Ended, Done, OutOfFuel, TooDeep, done, ends, noting, after, ◌>>=◌, in_room}
use Rattle.rewrite_model.specs.Evaluation.{Point, Evaluated, Reducer, evaluate, evaluate_all, holds, hold, replace, apply, reduce_by, begin, reduction}
use Rattle.rewrite_model.specs.Built.{trees_at}
use Rattle.rewrite_model.proofs.Fuel.{begins_with_itself}
use Rattle.rewrite_cache.specs.Cached.{IsKnown}

-- the same trees, and the same value with so much fuel left
pub record Gives {A : Type 0} (notes : List Point) (a : A) (rest : ℕ) (y : Evaluated A) : Type 0 where
  pub trees : trees_at y.notes ≡ trees_at notes
  pub end : y.end ≡ Done a rest

-- what a run with so much fuel is to one that had other fuel
abbrev pub AlikeEnd : {A : Type 0} → ℕ → List Point → Ended A → ℕ → Evaluated A → Type 0
AlikeEnd fuel notes (Done a left) other y = (left ≤ fuel) × ((rest : ℕ) → other + left ≡ fuel + rest → Gives notes a rest y)
AlikeEnd fuel notes OutOfFuel other y = Unit {0}
AlikeEnd fuel notes TooDeep other y = Unit {0}

abbrev pub Alike : {A : Type 0} → ℕ → Evaluated A → ℕ → Evaluated A → Type 0
Alike fuel x other y = AlikeEnd fuel x.notes x.end other y

trees_append : (ps qs : List Point) → trees_at (ps ++ qs) ≡ trees_at ps ++ trees_at qs
trees_append ps qs = map-append (λ (p : Point). p.tree) ps qs

-- with notes in front, of a run that goes on
gives_after : {A B : Type 0} (ms ns : List Point) (a : A) (rest : ℕ) (b : B) (last : ℕ) (y : Evaluated A) (h : A → ℕ → Evaluated B) → Gives ms a rest y → Gives ns b last (h a rest) → Gives (ms ++ ns) b last (y >>= h)
gives_after {A} {B} ms ns a rest b last y h g k =
    subst (λ (e : Ended A). Gives (ms ++ ns) b last (after y.notes e h)) (sym g.end)
    (record {
      trees = trees_append y.notes (h a rest).notes ∙ ap (λ ts. ts ++ trees_at (h a rest).notes) g.trees ∙ ap (λ ts. trees_at ms ++ ts) k.trees ∙ sym (trees_append ms ns);
      end = k.end;
    })

alike_more : {A B : Type 0} (fuel : ℕ) (ms : List Point) (a : A) (left other : ℕ) (y : Evaluated A) (ns : List Point) (e : Ended B) (h : A → ℕ → Evaluated B) → AlikeEnd fuel ms (Done a left) other y → ((rest : ℕ) → AlikeEnd left ns e rest (h a rest)) → AlikeEnd fuel (ms ++ ns) e other (y >>= h)
alike_more fuel ms a left other y ns (Done b last) h f go =
    let l = f.0 in
    let m = (go 0).0 in (
      omega (arith, l, m),
      λ rest k.
          let middle = other + left - fuel in
          let e : other + left ≡ fuel + middle = omega (arith, l, m, k) in
          gives_after ms ns a middle b rest y h (f.1 middle e) ((go middle).1 rest (omega (arith, l, m, k, e))),
    )
alike_more fuel ms a left other y ns OutOfFuel h f go = tt
alike_more fuel ms a left other y ns TooDeep h f go = tt

alike_after : {A B : Type 0} (fuel : ℕ) (notes : List Point) (e : Ended A) (other : ℕ) (y : Evaluated A) (g h : A → ℕ → Evaluated B) → AlikeEnd fuel notes e other y → ((a : A) (left rest : ℕ) → left ≤ fuel → Alike left (g a left) rest (h a rest)) → Alike fuel (after notes e g) other (y >>= h)
alike_after fuel notes (Done a left) other y g h f go = alike_more fuel notes a left other y (g a left).notes (g a left).end h f (λ rest. go a left rest f.0)
alike_after fuel notes OutOfFuel other y g h f go = tt
alike_after fuel notes TooDeep other y g h f go = tt

alike_then : {A B : Type 0} (fuel : ℕ) (x : Evaluated A) (other : ℕ) (y : Evaluated A) (g h : A → ℕ → Evaluated B) → Alike fuel x other y → ((a : A) (left rest : ℕ) → left ≤ fuel → Alike left (g a left) rest (h a rest)) → Alike fuel (x >>= g) other (y >>= h)
alike_then fuel x other y g h f go = alike_after fuel x.notes x.end other y g h f go

alike_if : {A : Type 0} (b : Bool) (fuel : ℕ) (x x' : Evaluated A) (other : ℕ) (y y' : Evaluated A) → Alike fuel x other y → Alike fuel x' other y' → Alike fuel (if b then x else x') other (if b then y else y')
alike_if true fuel x x' other y y' p q = p
alike_if false fuel x x' other y y' p q = q

alike_in_room : {A : Type 0} (room wide : ℕ) (fuel : ℕ) (x : Evaluated A) (other : ℕ) (y : Evaluated A) → room ≤ wide → Alike fuel x other y → Alike fuel (in_room room x) other (in_room wide y)
alike_in_room zero wide fuel x other y l f = tt
alike_in_room (suc n) zero fuel x other y l f = absurd (omega arith)
alike_in_room (suc n) (suc m) fuel x other y l f = f

alike_done : {A : Type 0} (a : A) (fuel other : ℕ) → Alike fuel (done a fuel) other (done a other)
alike_done {A} a fuel other = (
  omega arith,
  λ rest e.
      let is : other ≡ rest = omega (arith, e) in
      record { trees = refl; end = ap (λ n. let d : Ended A = Done a n in d) is },
)

-- one more unit of fuel on both sides
alike_suc : {A : Type 0} (fuel : ℕ) (notes : List Point) (e : Ended A) (other : ℕ) (y : Evaluated A) → AlikeEnd fuel notes e other y → AlikeEnd (suc fuel) notes e (suc other) y
alike_suc fuel notes (Done a left) other y f = let l = f.0 in (omega (arith, l), λ rest e. f.1 rest (omega (arith, e)))
alike_suc fuel notes OutOfFuel other y f = tt
alike_suc fuel notes TooDeep other y f = tt

-- a run that takes fuel, beside one that has none
alike_none : {A : Type 0} (fuel : ℕ) (notes : List Point) (e : Ended A) (y z : Evaluated A) → AlikeEnd fuel notes e 0 z → AlikeEnd (suc fuel) notes e 0 y
alike_none fuel notes (Done a left) y z f = let l = f.0 in (omega (arith, l), λ rest e. absurd (omega (arith, l, e)))
alike_none fuel notes OutOfFuel y z f = tt
alike_none fuel notes TooDeep y z f = tt

-- of all fuel below a bound
abbrev AlikeBelow : ℕ → Reducer → Type 0
AlikeBelow n r = (given kept given' kept' : List Tree) (t : Tree) (fuel room other wide : ℕ) → fuel < n → room ≤ wide → Alike fuel (r given kept t fuel room) other (r given' kept' t other wide)

module _ (r : Reducer) (n : ℕ) (agree : AlikeBelow n r) where
  module _ (bound : List Tree) where
    mutual
      evaluate_alike : (p : Tree) (kept kept' : List Tree) (fuel room other wide : ℕ) → fuel < n → room ≤ wide → Alike fuel (evaluate r bound p kept fuel room) other (evaluate r bound p kept' other wide)
      evaluate_alike (Leaf x) kept kept' fuel room other wide l w = alike_in_room room wide fuel _ other _ w (alike_done (tree_at x bound) fuel other)
      evaluate_alike (Node h ps) kept kept' fuel room other wide l w =
          alike_in_room room wide fuel _ other _ w
          (alike_then fuel _ other _ _ _ (all_alike ps kept kept' fuel room other wide l w) (λ ts left rest m. agree [] kept [] kept' (Node h ts) left room rest wide (omega (arith, l, m)) w))

      all_alike : (ps : Trees) (kept kept' : List Tree) (fuel room other wide : ℕ) → fuel < n → room ≤ wide → Alike fuel (evaluate_all r bound ps kept fuel room) other (evaluate_all r bound ps kept' other wide)
      all_alike End kept kept' fuel room other wide l w = alike_done End fuel other
      all_alike (More p ps) kept kept' fuel room other wide l w =
          alike_then fuel _ other _ _ _ (evaluate_alike p kept kept' fuel (room - 1) other (wide - 1) l (omega (arith, w))) (λ t left rest m.
          alike_then left _ rest _ _ _ (all_alike ps (t ∷ kept) (t ∷ kept') left (room - 1) rest (wide - 1) (omega (arith, l, m)) (omega (arith, w))) (λ ts last end k. alike_done (More t ts) last end))

    hold_alike : (cs : List Condition) (kept kept' : List Tree) (fuel room other wide : ℕ) → fuel < n → room ≤ wide → Alike fuel (hold r bound cs kept fuel room) other (hold r bound cs kept' other wide)
    hold_alike [] kept kept' fuel room other wide l w = alike_done true fuel other
    hold_alike (c ∷ cs) kept kept' fuel room other wide l w =
        alike_then fuel _ other _ _ _ (evaluate_alike c.first kept kept' fuel (room - 2) other (wide - 2) l (omega (arith, w))) (λ t left rest m.
        alike_then left _ rest _ _ _ (evaluate_alike c.second (t ∷ kept) (t ∷ kept') left (room - 3) rest (wide - 3) (omega (arith, l, m)) (omega (arith, w))) (λ u last end k.
        alike_if (holds c t u) last _ _ end _ _ (hold_alike cs kept kept' last room end wide (omega (arith, l, m, k)) w) (alike_done false last end)))

    replace_alike : (p : Tree) (kept kept' : List Tree) (fuel room other wide : ℕ) → fuel < n → room ≤ wide → Alike fuel (replace r bound p kept fuel room) other (replace r bound p kept' other wide)
    replace_alike (Leaf x) kept kept' fuel room other wide l w = alike_done (tree_at x bound) fuel other
    replace_alike (Node h ps) kept kept' fuel room other wide l w =
        alike_then fuel _ other _ _ _ (all_alike ps (bound ++ kept) (bound ++ kept') fuel (room - length bound) other (wide - length bound) l (omega (arith, w))) (λ ts left rest m. agree bound kept bound kept' (Node h ts) left room rest wide (omega (arith, l, m)) w)

  -- where there is room for the variables, there is in more room
  alike_where_room : (k room wide fuel : ℕ) (x : Evaluated Tree) (other : ℕ) (y : Evaluated Tree) → room ≤ wide → Alike fuel x other y → Alike fuel (if nat_lt room k then ends TooDeep else x) other (if nat_lt wide k then ends TooDeep else y)
  alike_where_room k room wide fuel x other y w f = go (nat_lt room k) refl (nat_lt wide k) refl
    where
      go : (b : Bool) → nat_lt room k ≡ b → (c : Bool) → nat_lt wide k ≡ c → Alike fuel (if b then ends TooDeep else x) other (if c then ends TooDeep else y)
      go true p c q = tt
      go false p false q = f
      go false p true q = absurd (omega (arith, w, ltb-false room k p, ltb-true wide k q))

  apply_alike : (rule : Rule) (bound kept kept' : List Tree) (t : Tree) (fuel room other wide : ℕ) (go go' : ℕ → Evaluated Tree) → fuel ≤ n → room ≤ wide → ((left rest : ℕ) → left < fuel → Alike left (go left) rest (go' rest)) → Alike fuel (apply r rule bound kept t fuel room go) other (apply r rule bound kept' t other wide go')
  apply_alike rule bound kept kept' t zero room other wide go go' l w f = tt
  apply_alike rule bound kept kept' t (suc fuel) room other wide go go' l w f = with_fuel other
    where
      inside : (more : ℕ) → Alike fuel (if nat_lt room (1 + length bound) then ends TooDeep else (hold r bound rule.conditions (t ∷ bound ++ kept) fuel (room - length bound) >>= (λ all left. if all then replace r bound rule.right kept left room else go left))) more (if nat_lt wide (1 + length bound) then ends TooDeep else (hold r bound rule.conditions (t ∷ bound ++ kept') more (wide - length bound) >>= (λ all left. if all then replace r bound rule.right kept' left wide else go' left)))
      inside more =
          alike_where_room (1 + length bound) room wide fuel _ more _ w
          (alike_then fuel _ more _ _ _ (hold_alike bound rule.conditions (t ∷ bound ++ kept) (t ∷ bound ++ kept') fuel (room - length bound) more (wide - length bound) (omega (arith, l)) (omega (arith, w))) (λ b left rest m.
          alike_if b left _ _ rest _ _ (replace_alike bound rule.right kept kept' left room rest wide (omega (arith, l, m)) w) (f left rest (omega (arith, m)))))

      with_fuel : (more : ℕ) → Alike (suc fuel) (apply r rule bound kept t (suc fuel) room go) more (apply r rule bound kept' t more wide go')
      with_fuel zero = alike_none fuel _ _ _ _ (inside 0)
      with_fuel (suc more) = alike_suc fuel _ _ more _ (inside more)

  alike_if_matched : (o : Option (List Tree)) (fuel : ℕ) (x : Evaluated Tree) (g : List Tree → Evaluated Tree) (other : ℕ) (y : Evaluated Tree) (h : List Tree → Evaluated Tree) → Alike fuel x other y → ((b : List Tree) → Alike fuel (g b) other (h b)) → Alike fuel (if_matched o x g) other (if_matched o y h)
  alike_if_matched None fuel x g other y h p q = p
  alike_if_matched (Some b) fuel x g other y h p q = q b

  reduce_by_alike : (rs : List Rule) (kept kept' : List Tree) (t : Tree) (fuel room other wide : ℕ) → fuel ≤ n → room ≤ wide → Alike fuel (reduce_by r rs kept t fuel room) other (reduce_by r rs kept' t other wide)
  reduce_by_alike [] kept kept' t fuel room other wide l w = alike_done t fuel other
  reduce_by_alike (rule ∷ rs) kept kept' t fuel room other wide l w =
      alike_if_matched (match_of rule.left t) fuel _ _ other _ _ (reduce_by_alike rs kept kept' t fuel room other wide l w)
      (λ bound. apply_alike rule bound kept kept' t fuel room other wide _ _ l w (λ left rest m. reduce_by_alike rs kept kept' t left room rest wide (omega (arith, l, m)) w))

alike_noting : (fuel : ℕ) (p q : Point) (notes : List Point) (e : Ended Tree) (other : ℕ) (y : Evaluated Tree) → p.tree ≡ q.tree → AlikeEnd fuel notes e other y → AlikeEnd fuel (p ∷ notes) e other (noting q y)
alike_noting fuel p q notes (Done a left) other y same f = (f.0, λ rest e. record { trees = ap (λ t. t ∷ trees_at y.notes) (sym same) ∙ ap (λ ts. p.tree ∷ ts) (f.1 rest e).trees; end = (f.1 rest e).end })
alike_noting fuel p q notes OutOfFuel other y same f = tt
alike_noting fuel p q notes TooDeep other y same f = tt

begin_alike : (rules : List Rule) (r : Reducer) (n : ℕ) → AlikeBelow n r → (given kept given' kept' : List Tree) (t : Tree) (fuel room other wide : ℕ) → fuel ≤ n → room ≤ wide → Alike fuel (begin r rules given kept t fuel room) other (begin r rules given' kept' t other wide)
begin_alike rules r n agree given kept given' kept' t fuel room other wide l w =
    alike_noting fuel (record { tree = t; hand = arguments t ++ given ++ kept; room = room }) (record { tree = t; hand = arguments t ++ given' ++ kept'; room = wide }) _ _ other _ refl
    (reduce_by_alike r n agree rules kept kept' t fuel room other wide l w)

reduction_alike : (rules : List Rule) (n : ℕ) → AlikeBelow n (reduction rules)
reduction_alike rules zero given kept given' kept' t fuel room other wide l w = absurd (omega arith)
reduction_alike rules (suc n) given kept given' kept' t fuel room other wide l w =
    subst (λ (x : Evaluated Tree). Alike fuel x other (reduction rules given' kept' t other wide)) (sym (begins_with_itself rules given kept t fuel room))
    (subst (λ (y : Evaluated Tree). Alike fuel (begin (reduction rules) rules given kept t fuel room) other y) (sym (begins_with_itself rules given' kept' t other wide))
    (begin_alike rules (reduction rules) n (reduction_alike rules n) given kept given' kept' t fuel room other wide (omega arith) w))

module _ (rules : List Rule) (given kept : List Tree) (t value : Tree) (fuel room left : ℕ) (e : (reduction rules given kept t fuel room).end ≡ Done value left) where
  abbrev x : Evaluated Tree
  x = reduction rules given kept t fuel room

  ended_alike : (given' kept' : List Tree) (other wide : ℕ) → room ≤ wide → AlikeEnd fuel x.notes (Done value left) other (reduction rules given' kept' t other wide)
  ended_alike given' kept' other wide w =
      subst (λ (d : Ended Tree). AlikeEnd fuel x.notes d other (reduction rules given' kept' t other wide)) e
      (reduction_alike rules (suc fuel) given kept given' kept' t fuel room other wide (omega arith) w)

  pub fuel_only_falls : left ≤ fuel
  fuel_only_falls = (ended_alike given kept fuel room (omega arith)).0

  gives_same : (given' kept' : List Tree) (more wider : ℕ) → Gives x.notes value more (reduction rules given' kept' t (fuel - left + more) (room + wider))
  gives_same given' kept' more wider =
      let l = fuel_only_falls in
      (ended_alike given' kept' (fuel - left + more) (room + wider) (omega arith)).1 more (omega (arith, l))

  pub is_known : IsKnown rules t value (fuel - left) room
  is_known given' kept' more wider = (gives_same given' kept' more wider).end

  pub same_trees : (given' kept' : List Tree) (more wider : ℕ) → trees_at (reduction rules given' kept' t (fuel - left + more) (room + wider)).notes ≡ trees_at x.notes
  same_trees given' kept' more wider = (gives_same given' kept' more wider).trees
