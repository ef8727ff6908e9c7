-- With more fuel a value stays, and so does an end of room; the fuel never grows. So a bound on the
-- fuel makes no difference.
use Rattle.std.proofs.Common.{◌≡◌, ℕ, zero, suc, ◌+◌, ◌-◌, ◌≤◌, List, [], ◌∷◌, ◌++◌, length, Option, Some, None, refl, sym, ◌∙◌, ap, subst, arith, Bool, true, false}
use Rattle.std.specs.Prelude.{if◌then◌else◌, nat_lt}
use Rattle.term_model.specs.Tree.{Tree, Leaf, Node, Trees, End, More, arguments}
use Rattle.rewrite_model.specs.Rule.{Rule, Condition}
use Rattle.rewrite_model.specs.Matching.{match_of, if_matched, tree_at}
use Rattle.rewrite_model.specs.Run.{Ended, Done, OutOfFuel, TooDeep, done, ends, noting, after, ◌>>=◌, in_room}
use Rattle.rewrite_model.specs.Evaluation.{Point, Evaluated, Reducer, evaluate, evaluate_all, holds, hold, replace, apply, reduce_by, begin, reduce_within, reduction, evaluation}

-- what a run with more fuel is, and that no more fuel is left than was given
abbrev pub FollowsEnd : {A : Type 0} → ℕ → List Point → Ended A → Evaluated A → ℕ → Type 0
FollowsEnd more notes (Done a left) y fuel = (y ≡ record { notes = notes; end = Done a (left + more) }) × (left ≤ fuel)
FollowsEnd more notes OutOfFuel y fuel = more ≡ 0 → y ≡ record { notes = notes; end = OutOfFuel }
FollowsEnd more notes TooDeep y fuel = y ≡ record { notes = notes; end = TooDeep }

abbrev pub Follows : {A : Type 0} → ℕ → Evaluated A → Evaluated A → ℕ → Type 0
Follows more x y fuel = FollowsEnd more x.notes x.end y fuel

module _ (more : ℕ) where
  -- the same with notes in front, and at more fuel
  behind : {A : Type 0} (front notes : List Point) (e : Ended A) (y : Evaluated A) (m n : ℕ) → m ≤ n → FollowsEnd more notes e y m → FollowsEnd more (front ++ notes) e (record { notes = front ++ y.notes; end = y.end }) n
  behind {A} front notes (Done a left) y m n l f = (ap (λ (x : Evaluated A). let z : Evaluated A = record { notes = front ++ x.notes; end = x.end } in z) f.0, omega (arith, f.1))
  behind {A} front notes OutOfFuel y m n l f = λ e. ap (λ (x : Evaluated A). let z : Evaluated A = record { notes = front ++ x.notes; end = x.end } in z) (f e)
  behind {A} front notes TooDeep y m n l f = ap (λ (x : Evaluated A). let z : Evaluated A = record { notes = front ++ x.notes; end = x.end } in z) f

  less : {A : Type 0} (notes : List Point) (e : Ended A) (y : Evaluated A) (m n : ℕ) → m ≤ n → FollowsEnd more notes e y m → FollowsEnd more notes e y n
  less notes (Done a left) y m n l f = (f.0, omega (arith, f.1))
  less notes OutOfFuel y m n l f = f
  less notes TooDeep y m n l f = f

  follows_after : {A B : Type 0} (notes : List Point) (e : Ended A) (y : Evaluated A) (g h : A → ℕ → Evaluated B) (fuel : ℕ) → FollowsEnd more notes e y fuel → ((a : A) (left : ℕ) → left ≤ fuel → Follows more (g a left) (h a (left + more)) left) → Follows more (after notes e g) (y >>= h) fuel
  follows_after {A} {B} notes (Done a left) y g h fuel f go =
      subst (λ (z : Evaluated A). Follows more (after notes (Done a left) g) (z >>= h) fuel) (sym f.0)
      (behind notes (g a left).notes (g a left).end (h a (left + more)) left fuel f.1 (go a left f.1))
  follows_after {A} {B} notes OutOfFuel y g h fuel f go = λ e. ap (λ (z : Evaluated A). z >>= h) (f e)
  follows_after {A} {B} notes TooDeep y g h fuel f go = ap (λ (z : Evaluated A). z >>= h) f

  follows_then : {A B : Type 0} (x y : Evaluated A) (g h : A → ℕ → Evaluated B) (fuel : ℕ) → Follows more x y fuel → ((a : A) (left : ℕ) → left ≤ fuel → Follows more (g a left) (h a (left + more)) left) → Follows more (x >>= g) (y >>= h) fuel
  follows_then x y g h fuel f go = follows_after x.notes x.end y g h fuel f go

  follows_if : {A : Type 0} (b : Bool) (x x' y y' : Evaluated A) (fuel : ℕ) → Follows more x x' fuel → Follows more y y' fuel → Follows more (if b then x else y) (if b then x' else y') fuel
  follows_if true x x' y y' fuel p q = p
  follows_if false x x' y y' fuel p q = q

  follows_in_room : {A : Type 0} (room : ℕ) (x y : Evaluated A) (fuel : ℕ) → Follows more x y fuel → Follows more (in_room room x) (in_room room y) fuel
  follows_in_room zero x y fuel f = refl
  follows_in_room (suc n) x y fuel f = f

  follows_done : {A : Type 0} (a : A) (fuel : ℕ) → Follows more (done a fuel) (done a (fuel + more)) fuel
  follows_done a fuel = (refl, omega arith)

  abbrev Agree : ℕ → Reducer → Reducer → Type 0
  Agree n r q = (given kept : List Tree) (t : Tree) (fuel room : ℕ) → fuel ≤ n → Follows more (r given kept t fuel room) (q given kept t (fuel + more) room) fuel

  module _ (r q : Reducer) (n : ℕ) (agree : Agree n r q) where
    module _ (bound : List Tree) where
      mutual
        evaluate_follows : (p : Tree) (kept : List Tree) (fuel room : ℕ) → fuel ≤ n → Follows more (evaluate r bound p kept fuel room) (evaluate q bound p kept (fuel + more) room) fuel
        evaluate_follows (Leaf x) kept fuel room l = follows_in_room room _ _ fuel (follows_done (tree_at x bound) fuel)
        evaluate_follows (Node h ps) kept fuel room l =
            follows_in_room room _ _ fuel (follows_then _ _ _ _ fuel (all_follow ps kept fuel room l) (λ ts left l'. agree [] kept (Node h ts) left room (omega arith)))

        all_follow : (ps : Trees) (kept : List Tree) (fuel room : ℕ) → fuel ≤ n → Follows more (evaluate_all r bound ps kept fuel room) (evaluate_all q bound ps kept (fuel + more) room) fuel
        all_follow End kept fuel room l = follows_done End fuel
        all_follow (More p ps) kept fuel room l =
            follows_then _ _ _ _ fuel (evaluate_follows p kept fuel (room - 1) l) (λ t left l'.
            follows_then _ _ _ _ left (all_follow ps (t ∷ kept) left (room - 1) (omega arith)) (λ ts rest l''. follows_done (More t ts) rest))

      hold_follows : (cs : List Condition) (kept : List Tree) (fuel room : ℕ) → fuel ≤ n → Follows more (hold r bound cs kept fuel room) (hold q bound cs kept (fuel + more) room) fuel
      hold_follows [] kept fuel room l = follows_done true fuel
      hold_follows (c ∷ cs) kept fuel room l =
          follows_then _ _ _ _ fuel (evaluate_follows c.first kept fuel (room - 2) l) (λ t left l'.
          follows_then _ _ _ _ left (evaluate_follows c.second (t ∷ kept) left (room - 3) (omega arith)) (λ u rest l''.
          follows_if (holds c t u) _ _ _ _ rest (hold_follows cs kept rest room (omega arith)) (follows_done false rest)))

      replace_follows : (p : Tree) (kept : List Tree) (fuel room : ℕ) → fuel ≤ n → Follows more (replace r bound p kept fuel room) (replace q bound p kept (fuel + more) room) fuel
      replace_follows (Leaf x) kept fuel room l = follows_done (tree_at x bound) fuel
      replace_follows (Node h ps) kept fuel room l =
          follows_then _ _ _ _ fuel (all_follow ps (bound ++ kept) fuel (room - length bound) l) (λ ts left l'. agree bound kept (Node h ts) left room (omega arith))

    apply_follows : (rule : Rule) (bound kept : List Tree) (t : Tree) (fuel room : ℕ) (rest rest' : ℕ → Evaluated Tree) → fuel ≤ suc n → ((left : ℕ) → left ≤ fuel → Follows more (rest left) (rest' (left + more)) left) → Follows more (apply r rule bound kept t fuel room rest) (apply q rule bound kept t (fuel + more) room rest') fuel
    apply_follows rule bound kept t zero room rest rest' l go = λ e. ap (λ k. apply q rule bound kept t k room rest') (let z : 0 + more ≡ 0 = omega arith in z)
    apply_follows rule bound kept t (suc fuel) room rest rest' l go =
        let e : suc fuel + more ≡ suc (fuel + more) = omega arith in
        subst (λ k. Follows more (apply r rule bound kept t (suc fuel) room rest) (apply q rule bound kept t k room rest') (suc fuel)) (sym e)
        (follows_if (nat_lt room (1 + length bound)) _ _ _ _ (suc fuel) refl
        (less _ _ _ fuel (suc fuel) (omega arith) (follows_then _ _ _ _ fuel (hold_follows bound rule.conditions (t ∷ bound ++ kept) fuel (room - length bound) (omega arith)) (λ b left l'.
        follows_if b _ _ _ _ left (replace_follows bound rule.right kept left room (omega arith)) (go left (omega arith))))))

    if_matched_follows : (o : Option (List Tree)) (x x' : Evaluated Tree) (g g' : List Tree → Evaluated Tree) (fuel : ℕ) → Follows more x x' fuel → ((b : List Tree) → Follows more (g b) (g' b) fuel) → Follows more (if_matched o x g) (if_matched o x' g') fuel
    if_matched_follows None x x' g g' fuel f h = f
    if_matched_follows (Some b) x x' g g' fuel f h = h b

    reduce_by_follows : (rs : List Rule) (kept : List Tree) (t : Tree) (fuel room : ℕ) → fuel ≤ suc n → Follows more (reduce_by r rs kept t fuel room) (reduce_by q rs kept t (fuel + more) room) fuel
    reduce_by_follows [] kept t fuel room l = follows_done t fuel
    reduce_by_follows (rule ∷ rs) kept t fuel room l =
        if_matched_follows (match_of rule.left t) _ _ _ _ fuel (reduce_by_follows rs kept t fuel room l)
        (λ bound. apply_follows rule bound kept t fuel room _ _ l (λ left l'. reduce_by_follows rs kept t left room (omega arith)))

  follows_noting : {A : Type 0} (p : Point) (x y : Evaluated A) (fuel : ℕ) → Follows more x y fuel → Follows more (noting p x) (noting p y) fuel
  follows_noting p x y fuel f = behind (p ∷ []) x.notes x.end y fuel fuel (omega arith) f

  -- without fuel nothing is reduced inside
  without_fuel : (r q : Reducer) (rs : List Rule) (kept : List Tree) (t : Tree) (room : ℕ) → Follows more (reduce_by r rs kept t 0 room) (reduce_by q rs kept t (0 + more) room) 0
  without_fuel r q [] kept t room = follows_done t 0
  without_fuel r q (rule ∷ rs) kept t room = go (match_of rule.left t) _ _ (without_fuel r q rs kept t room)
    where
      go : (o : Option (List Tree)) (x x' : Evaluated Tree) → Follows more x x' 0 → Follows more (if_matched o x (λ b. ends OutOfFuel)) (if_matched o x' (λ b. apply q rule b kept t (0 + more) room (λ left. reduce_by q rs kept t left room))) 0
      go None x x' f = f
      go (Some b) x x' f = λ e. ap (λ k. apply q rule b kept t k room (λ left. reduce_by q rs kept t left room)) (let z : 0 + more ≡ 0 = omega arith in z)

  -- the reducer inside, below a bound
  abbrev inner : ℕ → List Rule → Reducer
  inner zero rules = λ given kept t fuel room. ends OutOfFuel
  inner (suc n) rules = reduce_within n rules

  begins : (n : ℕ) (rules : List Rule) (given kept : List Tree) (t : Tree) (fuel room : ℕ) → begin (inner n rules) rules given kept t fuel room ≡ reduce_within n rules given kept t fuel room
  begins zero rules given kept t fuel room = refl
  begins (suc n) rules given kept t fuel room = refl

  within_follows : (n m : ℕ) (rules : List Rule) (given kept : List Tree) (t : Tree) (fuel room : ℕ) → fuel ≤ n → fuel + more ≤ m → Follows more (reduce_within n rules given kept t fuel room) (reduce_within m rules given kept t (fuel + more) room) fuel
  within_follows n m rules given kept t zero room a b =
      let f = follows_noting (record { tree = t; hand = arguments t ++ given ++ kept; room = room }) _ _ 0 (without_fuel (inner n rules) (inner m rules) rules kept t room) in
      subst (λ (x : Evaluated Tree). Follows more x (reduce_within m rules given kept t (0 + more) room) 0) (begins n rules given kept t 0 room)
      (subst (λ (y : Evaluated Tree). Follows more (begin (inner n rules) rules given kept t 0 room) y 0) (begins m rules given kept t (0 + more) room) f)
  within_follows zero m rules given kept t (suc fuel) room a b = absurd (omega arith)
  within_follows (suc n) zero rules given kept t (suc fuel) room a b = absurd (omega arith)
  within_follows (suc n) (suc m) rules given kept t (suc fuel) room a b =
      follows_noting (record { tree = t; hand = arguments t ++ given ++ kept; room = room }) _ _ (suc fuel)
      (reduce_by_follows (reduce_within n rules) (reduce_within m rules) fuel (λ g k u left space l. within_follows n m rules g k u left space (omega arith) (omega arith)) rules kept t (suc fuel) room (omega arith))

  pub reduction_follows : (rules : List Rule) (n : ℕ) → Agree n (reduction rules) (reduction rules)
  reduction_follows rules n given kept t fuel room l = within_follows fuel (fuel + more) rules given kept t fuel room (omega arith) (omega arith)

  pub evaluation_follows : (rules : List Rule) (term : Tree) (fuel room : ℕ) → Follows more (evaluation rules term fuel room) (evaluation rules term (fuel + more) room) fuel
  evaluation_follows rules term fuel room = evaluate_follows (reduction rules) (reduction rules) fuel (reduction_follows rules fuel) [] term [] fuel room (omega arith)

-- with no more fuel the run is the same
followed : {A : Type 0} (notes : List Point) (e : Ended A) (y : Evaluated A) (fuel : ℕ) → FollowsEnd 0 notes e y fuel → y ≡ record { notes = notes; end = e }
followed {A} notes (Done a left) y fuel f = f.0 ∙ ap (λ k. let z : Evaluated A = record { notes = notes; end = Done a k } in z) (let z : left + 0 ≡ left = omega arith in z)
followed notes OutOfFuel y fuel f = f refl
followed notes TooDeep y fuel f = f

pub begins_with_itself : (rules : List Rule) (given kept : List Tree) (t : Tree) (fuel room : ℕ) → reduction rules given kept t fuel room ≡ begin (reduction rules) rules given kept t fuel room
begins_with_itself rules given kept t zero room =
    let f = follows_noting 0 (record { tree = t; hand = arguments t ++ given ++ kept; room = room }) _ _ 0 (without_fuel 0 (λ g k u left space. ends OutOfFuel) (reduction rules) rules kept t room) in
    let x = begin (λ g k u left space. ends OutOfFuel) rules given kept t 0 room in
    sym (followed x.notes x.end (begin (reduction rules) rules given kept t (0 + 0) room) 0 f)
begins_with_itself rules given kept t (suc fuel) room =
    let e : suc fuel + 0 ≡ suc fuel = omega arith in
    let x = begin (reduce_within fuel rules) rules given kept t (suc fuel) room in
    let f = follows_noting 0 (record { tree = t; hand = arguments t ++ given ++ kept; room = room }) _ _ (suc fuel) (reduce_by_follows 0 (reduce_within fuel rules) (reduction rules) fuel (λ g k u left space l. within_follows 0 fuel (left + 0) rules g k u left space l (omega arith)) rules kept t (suc fuel) room (omega arith)) in
    sym (ap (λ k. begin (reduction rules) rules given kept t k room) (sym e) ∙ followed x.notes x.end (begin (reduction rules) rules given kept t (suc fuel + 0) room) (suc fuel) f)

-- what a run that ended with a value follows
valued : {A : Type 0} (more : ℕ) (notes : List Point) (e : Ended A) (y : Evaluated A) (fuel : ℕ) (a : A) (left : ℕ) → FollowsEnd more notes e y fuel → e ≡ Done a left → (y ≡ record { notes = notes; end = Done a (left + more) }) × (left ≤ fuel)
valued {A} more notes e y fuel a left f h = subst (λ (d : Ended A). FollowsEnd more notes d y fuel) h f

pub fuel_falls : (rules : List Rule) (t u : Tree) (fuel room left : ℕ) → (evaluation rules t fuel room).end ≡ Done u left → left ≤ fuel
fuel_falls rules t u fuel room left h =
    let x = evaluation rules t fuel room in
    (valued 0 x.notes x.end (evaluation rules t (fuel + 0) room) fuel u left (evaluation_follows 0 rules t fuel room) h).1

pub more_fuel_is_left : (rules : List Rule) (t u : Tree) (fuel room left more : ℕ) → (evaluation rules t fuel room).end ≡ Done u left →
    evaluation rules t (fuel + more) room ≡ record { notes = (evaluation rules t fuel room).notes; end = Done u (left + more) }
more_fuel_is_left rules t u fuel room left more h =
    let x = evaluation rules t fuel room in
    (valued more x.notes x.end (evaluation rules t (fuel + more) room) fuel u left (evaluation_follows more rules t fuel room) h).0
