-- Where a node of a term stands, and the node before it.
use Rattle.std.proofs.Common.{◌≡◌, ℕ, zero, suc, ◌+◌, ◌-◌, ◌<◌, ◌≤◌, List, [], ◌∷◌, ◌++◌, length, take, drop, get_or, min, refl, sym, ◌∙◌, ap, arith, subst, append_assoc, append-nil, Bool, true, false}
use Rattle.std.specs.Prelude.{replicate, if◌then◌else◌, nat_lt}
use Rattle.std.proofs.lemmas.Bool.{ltb-false}
use Rattle.std.proofs.lemmas.List.{length-append, length_push, take_at, get_or_default}
use Rattle.term_model.specs.Tree.{Tree, IsGround, nodes}
use Rattle.term_model.specs.Postorder.{postorder, arity_of}
use Rattle.term_model.specs.declared.Item.{Item}
use Rattle.term_model.specs.declared.Item.TheVariants.{Var}
use Rattle.term_model.specs.declared.Head.{Head}
use Rattle.term_model.proofs.Subtrees.{items_are_nodes}
use Rattle.rule_match.specs.Planned.{IsPlain}
use Rattle.rule_code.specs.declared.step.Step.{Step}
use Rattle.rule_code.specs.declared.step.Step.TheVariants.{Over}
use Rattle.rule_code.specs.Code.{code}
use Rattle.rule_code.specs.Depths.{depths}
use Rattle.innermost.specs.Whole.{place_in}
use Rattle.innermost.specs.Trail.{node_place, place_before, IsDownAt}
use Rattle.innermost.proofs.Evaluations.{node_step, head_of_node, lower_at}
use Rattle.innermost.proofs.Placing.{Placed, counted, length-counted, total, total-append, total-ones, place_total, first_place, next_place, term_placed, after_steps}

module _ (widest limit : ℕ) (term : Tree) (g : IsGround term) (p : IsPlain widest term) where
  abbrev steps : List Step
  steps = code term 0

  -- the step of a node
  record IsStep (at count : ℕ) : Type 0 where
    head : Head
    is : drop at steps ≡ Over head count (get_or (depths 4294967295 term 0) at 0) ∷ drop (at + 1) steps

  step_at : (at count : ℕ) → at < nodes term → ((item : Item) → item ≡ get_or (postorder term) at item → count ≡ arity_of item) → IsStep at count
  step_at at count l arity =
      let item = get_or (postorder term) at (Var 0) in
      let e : item ≡ get_or (postorder term) at item = get_or_default (postorder term) at (Var 0) item (omega (arith, l, items_are_nodes term)) in
      let h = head_of_node term at item g l e in
      record {
        head = h.0;
        is = node_step widest term at item h.0 p l e h.1
            ∙ ap (λ n. Over h.0 n (get_or (depths 4294967295 term 0) at 0) ∷ drop (at + 1) steps) (sym (arity item e));
      }

  drop_some : {X : Type 0} (n : ℕ) (xs ys : List X) (y : X) → drop n xs ≡ y ∷ ys → n < length xs
  drop_some zero [] ys y e = cc
  drop_some zero (x ∷ xs) ys y e = omega arith
  drop_some (suc n) [] ys y e = cc
  drop_some (suc n) (x ∷ xs) ys y e = let h = drop_some n xs ys y e in omega (arith, h)

  -- how far down a node stands is the number of its value, above the limit
  number_is : (at down t : ℕ) → at < nodes term → limit ≤ 4294967295 → down ≡ get_or (depths limit term 0) at 0 → down < limit → get_or (depths 4294967295 term 0) at 0 ≡ min 4294967295 t → t ≡ down
  number_is at down t l most e above d =
      let low = lower_at limit most term at l in
      omega (arith, low, most, e, above, d)

  -- a node, and the numbers before and after it
  record IsNumbered (at count t : ℕ) (before : List ℕ) : Type 0 where
    number : get_or (depths 4294967295 term 0) at 0 ≡ min 4294967295 t
    front : List ℕ
    split : before ≡ front ++ counted t count
    placed : Placed (drop (at + 1) steps) (front ++ t ∷ [])

  numbered : (at count : ℕ) (before : List ℕ) → IsStep at count → Placed (drop at steps) before → (t : ℕ) × IsNumbered at count t before
  numbered at count before s q =
      let r : Placed (Over s.head count (get_or (depths 4294967295 term 0) at 0) ∷ drop (at + 1) steps) before = subst (λ is. Placed is before) s.is q in
      (r.0, record { number = r.2; front = r.1; split = r.3; placed = r.4 })

  placed_at : (k : ℕ) → k < length steps → (ds : List ℕ) × Placed (drop k steps) ds
  placed_at zero l = ([], term_placed term g)
  placed_at (suc k) l =
      let r = after_steps k steps [] (term_placed term g) (omega (arith, l)) in
      let e : k + 1 ≡ suc k = omega arith in
      (r.1 ++ r.0 ∷ [], subst (λ i. Placed (drop i steps) (r.1 ++ r.0 ∷ [])) e r.2)

  module _ (k : ℕ) (l : suc k < nodes term) (count : ℕ) (arity : (item : Item) → item ≡ get_or (postorder term) (suc k) item → count ≡ arity_of item) where
    step : IsStep (suc k) count
    step = step_at (suc k) count l arity

    -- the node before, and the numbers that it leaves
    abbrev item' : Item
    item' = get_or (postorder term) k (Var 0)

    step' : IsStep k (arity_of item')
    step' = step_at k (arity_of item') (omega (arith, l)) (λ item e. ap arity_of (get_or_default (postorder term) k (Var 0) item (omega (arith, l, items_are_nodes term)) ∙ sym e))

    left : (t : ℕ) × (front : List ℕ) × (get_or (depths 4294967295 term 0) k 0 ≡ min 4294967295 t) × Placed (drop (suc k) steps) (front ++ t ∷ [])
    left =
        let some : suc k < length steps = drop_some (suc k) steps (drop (suc k + 1) steps) (Over step.head count (get_or (depths 4294967295 term 0) (suc k) 0)) step.is in
        let q = placed_at k (omega (arith, some)) in
        let r = numbered k (arity_of item') q.0 step' q.1 in
        let e : k + 1 ≡ suc k = omega arith in
        (r.0, r.1.front, r.1.number, subst (λ i. Placed (drop i steps) (r.1.front ++ r.0 ∷ [])) e r.1.placed)

    before_is : place_before term (suc k) ≡ place_in (Over step.head count (get_or (depths 4294967295 term 0) (suc k) 0) ∷ drop (suc k + 1) steps) 0
    before_is =
        let e : k + 1 ≡ suc k = omega arith in
        ap (λ i. place_in (drop i steps) 0) e ∙ ap (λ is. place_in is 0) step.is

    -- over arguments
    pub over_arguments : 0 < count → (way : List ℕ) → way ≡ take (length (place_before term (suc k)) - 1) (place_before term (suc k)) → way ≡ node_place term (suc k)
    over_arguments some way e =
        let rest = place_in (drop (suc k + 1) steps) 0 in
        let all : place_before term (suc k) ≡ rest ++ (count - 0) ∷ [] = before_is ∙ go (nat_lt 0 count) refl in
        let n : length rest ≡ length (rest ++ (count - 0) ∷ []) - 1 = omega (arith, length_push rest (count - 0)) in
        e ∙ ap (λ xs. take (length xs - 1) xs) all ∙ take_at rest ((count - 0) ∷ []) (length (rest ++ (count - 0) ∷ []) - 1) n
      where
        go : (b : Bool) → nat_lt 0 count ≡ b → (if b then place_in (drop (suc k + 1) steps) 0 ++ (count - 0) ∷ [] else place_in (drop (suc k + 1) steps) (0 - count + 1)) ≡ place_in (drop (suc k + 1) steps) 0 ++ (count - 0) ∷ []
        go true q = refl
        go false q = absurd (let z = ltb-false 0 count q in omega (arith, z, some))

    -- the last argument of a node before a leaf
    pub leaf_parts : count ≡ 0 → (ks : List ℕ) × (j : ℕ) × (place_before term (suc k) ≡ ks ++ j ∷ [])
    leaf_parts none =
        let rest = drop (suc k + 1) steps in
        let q = left in
        let num = numbered (suc k) count (q.1 ++ q.0 ∷ []) step q.3 in
        let front : q.1 ++ q.0 ∷ [] ≡ num.1.front = num.1.split ∙ ap (λ c. num.1.front ++ counted num.0 c) none ∙ append-nil num.1.front in
        let placed : Placed rest (q.1 ++ q.0 ∷ num.0 ∷ []) =
        subst (Placed rest) (ap (λ xs. xs ++ num.0 ∷ []) (sym front) ∙ append_assoc q.1 (q.0 ∷ []) (num.0 ∷ [])) num.1.placed in
        let after = next_place rest q.1 [] q.0 num.0 placed in
        (after.over, after.argument, before_is ∙ none_over count none ∙ after.before)
      where
        none_over : (c : ℕ) → c ≡ 0 → (if nat_lt 0 c then place_in (drop (suc k + 1) steps) 0 ++ (c - 0) ∷ [] else place_in (drop (suc k + 1) steps) (0 - c + 1)) ≡ place_in (drop (suc k + 1) steps) 1
        none_over zero e = refl
        none_over (suc c) e = absurd (omega (arith, e))

    -- a leaf after another node
    pub leaf_after : count ≡ 0 → (before down : ℕ) → IsDownAt limit term (suc k) before down →
        (before < down) × ((ks : List ℕ) (j : ℕ) → place_before term (suc k) ≡ ks ++ j ∷ [] → (j < 4294967295) × (node_place term (suc k) ≡ (ks ++ (j + 1) ∷ []) ++ replicate (down - before - 1) 1))
    leaf_after none before down d =
        let rest = drop (suc k + 1) steps in
        let q = left in
        let num = numbered (suc k) count (q.1 ++ q.0 ∷ []) step q.3 in
        let t = num.0 in
        let front : q.1 ++ q.0 ∷ [] ≡ num.1.front = num.1.split ∙ ap (λ c. num.1.front ++ counted t c) none ∙ append-nil num.1.front in
        let placed : Placed rest (q.1 ++ q.0 ∷ t ∷ []) =
        subst (Placed rest) (ap (λ xs. xs ++ t ∷ []) (sym front) ∙ append_assoc q.1 (q.0 ∷ []) (t ∷ [])) num.1.placed in
        let after = next_place rest q.1 [] q.0 t placed in
        let same : place_before term (suc k) ≡ place_in rest 1 = before_is ∙ zero_over count none in
        let down_is = number_is (suc k) down t l d.most d.down d.above num.1.number in
        let here : total (place_in rest 0) ≡ t = place_total rest (q.1 ++ q.0 ∷ []) [] t (subst (Placed rest) (sym (append_assoc q.1 (q.0 ∷ []) (t ∷ []))) placed) in
        let there : total (place_in rest 1) ≡ q.0 = place_total rest q.1 (t ∷ []) q.0 placed in
        let before_number = number_is k before q.0 (omega (arith, l)) d.most d.before d.before_above q.2 in
        let s1 = ap total after.before ∙ total-append after.over (after.argument ∷ []) in
        let s2 = ap total after.after ∙ total-append (after.over ++ (after.argument + 1) ∷ []) (replicate after.firsts 1) in
        let s3 = total-append after.over ((after.argument + 1) ∷ []) in
        let s4 = total-ones after.firsts in
        let count' : after.firsts ≡ down - before - 1 = omega (arith, down_is, before_number, here, there, s1, s2, s3, s4) in (
          omega (arith, down_is, before_number, here, there, s1, s2, s3, s4),
          λ ks j e.
              (let both : ks ++ j ∷ [] ≡ after.over ++ after.argument ∷ [] = sym e ∙ same ∙ after.before in
              let parts = last_same ks after.over j after.argument both in (
                omega (arith, parts.1, here, down_is, d.above, d.most, s2, s3),
                after.after ∙ ap (λ xs. (xs ++ (after.argument + 1) ∷ []) ++ replicate after.firsts 1) (sym parts.0)
                    ∙ ap (λ i. (ks ++ (i + 1) ∷ []) ++ replicate after.firsts 1) (sym parts.1)
                    ∙ ap (λ i. (ks ++ (j + 1) ∷ []) ++ replicate i 1) count',
              )),
        )
      where
        zero_over : (c : ℕ) → c ≡ 0 → (if nat_lt 0 c then place_in (drop (suc k + 1) steps) 0 ++ (c - 0) ∷ [] else place_in (drop (suc k + 1) steps) (0 - c + 1)) ≡ place_in (drop (suc k + 1) steps) 1
        zero_over zero e = refl
        zero_over (suc c) e = absurd (omega (arith, e))

        last_same : (xs ys : List ℕ) (x y : ℕ) → xs ++ x ∷ [] ≡ ys ++ y ∷ [] → (xs ≡ ys) × (x ≡ y)
        last_same [] [] x y e = (refl, ap (λ zs. get_or zs 0 0) e)
        last_same [] (b ∷ ys) x y e = absurd (let h = ap length e in let n = length_push ys y in omega (arith, h, n))
        last_same (a ∷ xs) [] x y e = absurd (let h = ap length e in let n = length_push xs x in omega (arith, h, n))
        last_same (a ∷ xs) (b ∷ ys) x y e =
            let h : a ≡ b = cc in
            let t : xs ++ x ∷ [] ≡ ys ++ y ∷ [] = cc in
            let r = last_same xs ys x y t in
            (ap (λ c. c ∷ xs) h ∙ ap (λ zs. b ∷ zs) r.0, r.1)

  -- the first node is a leaf
  pub first_leaf : 0 < nodes term → (count : ℕ) → ((item : Item) → item ≡ get_or (postorder term) 0 item → count ≡ arity_of item) → (before down : ℕ) → IsDownAt limit term 0 before down → (count ≡ 0) × (node_place term 0 ≡ replicate down 1)
  first_leaf l count arity before down d =
      let s = step_at 0 count l arity in
      let num = numbered 0 count [] s (term_placed term g) in
      let c = ap length num.1.split in
      let a = length-append num.1.front (counted num.0 count) in
      let n = length-counted num.0 count in
      let none : count ≡ 0 = omega (arith, c, a, n) in
      let empty : num.1.front ≡ [] = no_front num.1.front (omega (arith, c, a, n)) in
      let is : num.0 ≡ down = number_is 0 down num.0 l d.most d.down d.above num.1.number in (
        none,
        first_place (drop 1 steps) [] num.0 (subst (λ xs. Placed (drop 1 steps) (xs ++ num.0 ∷ [])) empty num.1.placed) ∙ ap (λ i. replicate i 1) is,
      )
    where
      no_front : (xs : List ℕ) → length xs ≡ 0 → xs ≡ []
      no_front [] e = refl
      no_front (x ∷ xs) e = absurd (omega (arith, e))

  -- the same of any node
  module _ (at : ℕ) (l : at < nodes term) (count : ℕ) (arity : (item : Item) → item ≡ get_or (postorder term) at item → count ≡ arity_of item) (before down : ℕ) (d : IsDownAt limit term at before down) where
    pub over_some : 0 < count → (way : List ℕ) → way ≡ take (length (place_before term at) - 1) (place_before term at) → way ≡ node_place term at
    over_some some way e = go at l arity d e
      where
        go : (i : ℕ) → i < nodes term → ((item : Item) → item ≡ get_or (postorder term) i item → count ≡ arity_of item) → IsDownAt limit term i before down → way ≡ take (length (place_before term i) - 1) (place_before term i) → way ≡ node_place term i
        go zero m a f q = absurd (let n = (first_leaf m count a before down f).0 in omega (arith, n, some))
        go (suc k) m a f q = over_arguments k m count a some way q

    pub leaf_first : at ≡ 0 → (way : List ℕ) → way ≡ place_before term at ++ replicate down 1 → way ≡ node_place term at
    leaf_first z way e = go at z l arity d e
      where
        go : (i : ℕ) → i ≡ 0 → i < nodes term → ((item : Item) → item ≡ get_or (postorder term) i item → count ≡ arity_of item) → IsDownAt limit term i before down → way ≡ place_before term i ++ replicate down 1 → way ≡ node_place term i
        go zero y m a f q = q ∙ sym (first_leaf m count a before down f).1
        go (suc k) y m a f q = absurd (omega (arith, y))

    pub leaf_order : count ≡ 0 → 0 < at → before < down
    leaf_order none some = go at some l arity d
      where
        go : (i : ℕ) → 0 < i → (m : i < nodes term) → ((item : Item) → item ≡ get_or (postorder term) i item → count ≡ arity_of item) → IsDownAt limit term i before down → before < down
        go zero y m a f = absurd (omega (arith, y))
        go (suc k) y m a f = (leaf_after k m count a none before down f).0

    pub leaf_way : count ≡ 0 → 0 < at → (ks : List ℕ) (j : ℕ) → place_before term at ≡ ks ++ j ∷ [] → (j < 4294967295) × (node_place term at ≡ (ks ++ (j + 1) ∷ []) ++ replicate (down - before - 1) 1)
    leaf_way none some = go at some l arity d
      where
        go : (i : ℕ) → 0 < i → (m : i < nodes term) → ((item : Item) → item ≡ get_or (postorder term) i item → count ≡ arity_of item) → IsDownAt limit term i before down → (ks : List ℕ) (j : ℕ) → place_before term i ≡ ks ++ j ∷ [] → (j < 4294967295) × (node_place term i ≡ (ks ++ (j + 1) ∷ []) ++ replicate (down - before - 1) 1)
        go zero y m a f = absurd (omega (arith, y))
        go (suc k) y m a f = (leaf_after k m count a none before down f).1

    pub leaf_split : count ≡ 0 → 0 < at → (ks : List ℕ) × (j : ℕ) × (place_before term at ≡ ks ++ j ∷ [])
    leaf_split none some = go at some l arity
      where
        go : (i : ℕ) → 0 < i → (m : i < nodes term) → ((item : Item) → item ≡ get_or (postorder term) i item → count ≡ arity_of item) → (ks : List ℕ) × (j : ℕ) × (place_before term i ≡ ks ++ j ∷ [])
        go zero y m a = absurd (omega (arith, y))
        go (suc k) y m a = leaf_parts k m count a none
