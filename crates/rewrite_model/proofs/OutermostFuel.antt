-- An outermost evaluation takes one unit of fuel for each step.
use Rattle.std.proofs.Common.{◌≡◌, ℕ, zero, suc, ◌+◌, ◌-◌, List, [], ◌∷◌, Option, Some, None, refl, sym, ◌∙◌, ap, subst, arith, Bool, true, false}
use Rattle.std.specs.Prelude.{if◌then◌else◌, nat_lt}
use Rattle.term_model.specs.Tree.{Tree, Leaf, Node, Trees, End, More, count_of}
use Rattle.rewrite_model.specs.Rule.{Rule}
use Rattle.rewrite_model.specs.Matching.{match_of, if_matched, tree_at}
use Rattle.rewrite_model.specs.Run.{Done, OutOfFuel, TooDeep, done, ends, noting}
use Rattle.rewrite_model.specs.Step.{ReachesInSteps}
use Rattle.rewrite_model.specs.Outermost.{Building, build, build_all, Stepped, Same, Changed, use_right, step_at_root, rebuild, in_front, if_same, step, step_all, go_on, steps, outermost}
use Rattle.rewrite_model.proofs.NormalForms.{no_instance}
use Rattle.rewrite_model.proofs.Reached.{went_on, had_room, same_value}
use Rattle.rewrite_model.proofs.OutermostReached.{builds, step_gives, Gives}

-- building takes none
module _ (bound : List Tree) where
  mutual
    build_is_free : (p : Tree) (fuel room : ℕ) (u : Tree) (left : ℕ) → (build bound p fuel room).end ≡ Done u left → fuel ≡ left
    build_is_free (Leaf x) fuel room u left e = (same_value (tree_at x bound) u fuel left (had_room room (done (tree_at x bound) fuel) u left e)).1
    build_is_free (Node h ps) fuel room u left e = went_on (build_all bound ps fuel room) _ u left (had_room room _ u left e) (λ ts m a r.
        all_are_free ps fuel room ts m a ∙ (same_value (Node h ts) u m left r).1)

    all_are_free : (ps : Trees) (fuel room : ℕ) (us : Trees) (left : ℕ) → (build_all bound ps fuel room).end ≡ Done us left → fuel ≡ left
    all_are_free End fuel room us left e = (same_value End us fuel left e).1
    all_are_free (More p ps) fuel room us left e = went_on (build bound p fuel (room - 1)) _ us left e (λ t m a r.
        went_on (build_all bound ps m (room - 1)) _ us left r (λ ts k a' r'.
        build_is_free p fuel (room - 1) t m a ∙ all_are_free ps m (room - 1) ts k a' ∙ (same_value (More t ts) us k left r').1))

-- the fuel before a step, by what it left and the fuel after it
abbrev before : {A : Type 0} → Stepped A → ℕ → ℕ
before Same left = left
before (Changed u) left = left + 1

before_same : {A : Type 0} (s t : Stepped A) (m n : ℕ) → Done s m ≡ Done t n → before s m ≡ before t n
before_same s t m n e =
    let p = same_value s t m n e in
    ap (λ r. before r m) p.0 ∙ ap (before t) p.1

module _ (rules : List Rule) where
  right_costs : (right : Tree) (bound : List Tree) (fuel room : ℕ) (s : Stepped Tree) (left : ℕ) → (use_right right bound fuel room).end ≡ Done s left → fuel ≡ before s left
  right_costs right bound zero room s left e = cc
  right_costs right bound (suc fuel) room s left e = went_on (build bound right fuel (room - 1)) _ s left e (λ u k a b.
      let free = build_is_free bound right fuel (room - 1) u k a in
      let one : suc fuel ≡ k + 1 = omega (arith, free) in
      one ∙ before_same (Changed u) s k left b)

  root_costs : (rs : List Rule) (t : Tree) (fuel room : ℕ) (otherwise : Building (Stepped Tree)) (s : Stepped Tree) (left : ℕ) → (otherwise.end ≡ Done s left → fuel ≡ before s left) → (step_at_root rs t fuel room otherwise).end ≡ Done s left → fuel ≡ before s left
  root_costs [] t fuel room otherwise s left below e = below e
  root_costs (r ∷ rs) t fuel room otherwise s left below e = go (match_of r.left t) (λ e'. root_costs rs t fuel room otherwise s left below e') e
    where
      go : (o : Option (List Tree)) → ((step_at_root rs t fuel room otherwise).end ≡ Done s left → fuel ≡ before s left) → (if_matched o (step_at_root rs t fuel room otherwise) (λ bound. use_right r.right bound fuel room)).end ≡ Done s left → fuel ≡ before s left
      go None rest e' = rest e'
      go (Some bound) rest e' = right_costs r.right bound fuel room s left e'

  rebuild_costs : (count : ℕ) (node : Trees → Tree) (inner : Stepped Trees) (fuel k room : ℕ) (s : Stepped Tree) (left : ℕ) → fuel ≡ before inner k → (rebuild count node inner k room).end ≡ Done s left → fuel ≡ before s left
  rebuild_costs count node Same fuel k room s left f e = f ∙ before_same Same s k left e
  rebuild_costs count node (Changed us) fuel k room s left f e = go (nat_lt room (1 + count)) e
    where
      go : (b : Bool) → (if b then ends TooDeep else noting (node us) (done (Changed (node us)) k)).end ≡ Done s left → fuel ≡ before s left
      go true e' = cc
      go false e' = f ∙ before_same (Changed (node us)) s k left e'

  if_same_costs : (ts : Trees) (s : Stepped Tree) (otherwise : Building (Stepped Trees)) (fuel k : ℕ) (inner : Stepped Trees) (left : ℕ) → fuel ≡ before s k → (fuel ≡ k → otherwise.end ≡ Done inner left → fuel ≡ before inner left) → (if_same s ts otherwise k).end ≡ Done inner left → fuel ≡ before inner left
  if_same_costs ts Same otherwise fuel k inner left f later e = later f e
  if_same_costs ts (Changed u) otherwise fuel k inner left f later e = f ∙ before_same (Changed (More u ts)) inner k left e

  in_front_costs : (t : Tree) (s : Stepped Trees) (left : ℕ) → before s left ≡ before (in_front t s) left
  in_front_costs t Same left = refl
  in_front_costs t (Changed us) left = refl

  mutual
    step_costs : (t : Tree) (fuel room : ℕ) (s : Stepped Tree) (left : ℕ) → (step rules t fuel room).end ≡ Done s left → fuel ≡ before s left
    step_costs (Leaf x) fuel room s left e =
        root_costs rules (Leaf x) fuel room (done Same fuel) s left (λ e'. before_same Same s fuel left e') (had_room room _ s left e)
    step_costs (Node h ts) fuel room s left e =
        root_costs rules (Node h ts) fuel room _ s left (λ e'.
        went_on (step_all rules ts fuel room) _ s left e' (λ inner k a b.
        rebuild_costs (count_of ts) (λ us. Node h us) inner fuel k room s left (step_all_costs ts fuel room inner k a) b)) (had_room room _ s left e)

    step_all_costs : (ts : Trees) (fuel room : ℕ) (s : Stepped Trees) (left : ℕ) → (step_all rules ts fuel room).end ≡ Done s left → fuel ≡ before s left
    step_all_costs End fuel room s left e = before_same Same s fuel left e
    step_all_costs (More t ts) fuel room s left e = went_on (step rules t fuel (room - 1)) _ s left e (λ first k a b.
        if_same_costs ts first _ fuel k s left (step_costs t fuel (room - 1) first k a) (λ f e'.
        went_on (step_all rules ts k (room - 1)) _ s left e' (λ rest i c d.
        f ∙ step_all_costs ts k (room - 1) rest i c ∙ in_front_costs t rest i ∙ before_same (in_front t rest) s i left d)) b)

  -- a value, and how many steps led to it
  abbrev Counted : ℕ → ℕ → Tree → Tree → Type 0
  Counted fuel left t u = (n : ℕ) × (fuel ≡ left + n) × ReachesInSteps rules n t u

  go_on_counts : (t : Tree) (s : Stepped Tree) (fuel k : ℕ) (go : Tree → Building Tree) (u : Tree) (left : ℕ) → Gives rules t s → fuel ≡ before s k → ((v : Tree) → fuel ≡ k + 1 → (go v).end ≡ Done u left → Counted k left v u) → (go_on rules t s k go).end ≡ Done u left → Counted fuel left t u
  go_on_counts t Same fuel k go u left g f later e =
      let p = same_value t u k left e in
      (0, omega (arith, f, p.1), p.0)
  go_on_counts t (Changed v) fuel k go u left g f later e =
      let c = later v f e in
      (suc c.0, omega (arith, f, c.1), (v, g, c.2))

  steps_count : (fuel : ℕ) (t : Tree) (room : ℕ) (u : Tree) (left : ℕ) → (steps rules fuel t room).end ≡ Done u left → Counted fuel left t u
  steps_count zero t room u left e = went_on (step rules t zero room) _ u left e (λ s k a b.
      go_on_counts t s zero k (λ v. ends OutOfFuel) u left (step_gives rules t zero room s k a) (step_costs t zero room s k a) (λ v f e'. cc) b)
  steps_count (suc fuel) t room u left e = went_on (step rules t (suc fuel) room) _ u left e (λ s k a b.
      go_on_counts t s (suc fuel) k (λ v. steps rules fuel v room) u left (step_gives rules t (suc fuel) room s k a) (step_costs t (suc fuel) room s k a) (λ v f e'.
      let is : fuel ≡ k = omega (arith, f) in
      subst (λ m. Counted m left v u) is (steps_count fuel v room u left e')) b)

  pub outermost_counts : (term u : Tree) (fuel room left : ℕ) → (outermost rules term fuel room).end ≡ Done u left → Counted fuel left term u
  outermost_counts term u fuel room left e = went_on (build [] term fuel room) _ u left e (λ t k a b.
      let free = build_is_free [] term fuel room t k a in
      let same : t ≡ term = sym (builds [] term fuel room t k a) ∙ no_instance term in
      subst (λ m. Counted m left term u) (sym free) (subst (λ w. Counted k left w u) same (steps_count k t room u left b)))

pub change_takes_one : (rules : List Rule) (t u : Tree) (fuel room left : ℕ) → (step rules t fuel room).end ≡ Done (Changed u) left → fuel ≡ left + 1
change_takes_one rules t u fuel room left e = step_costs rules t fuel room (Changed u) left e

pub same_takes_none : (rules : List Rule) (t : Tree) (fuel room left : ℕ) → (step rules t fuel room).end ≡ Done Same left → fuel ≡ left
same_takes_none rules t fuel room left e = step_costs rules t fuel room Same left e

pub fuel_is_steps : (rules : List Rule) (t u : Tree) (fuel room left : ℕ) → (outermost rules t fuel room).end ≡ Done u left → (n : ℕ) × (fuel ≡ left + n) × ReachesInSteps rules n t u
fuel_is_steps rules t u fuel room left e = outermost_counts rules t u fuel room left e
