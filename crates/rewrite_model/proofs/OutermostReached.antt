-- The value of an outermost evaluation is reached by steps, and is a normal form.
use Rattle.std.proofs.Common.{◌≡◌, ℕ, zero, suc, ◌+◌, ◌-◌, List, [], ◌∷◌, ◌++◌, Option, Some, None, refl, sym, ◌∙◌, ap, subst, Bool, true, false, append_assoc, append-nil}
use Rattle.std.specs.Prelude.{if◌then◌else◌, nat_lt, Contains}
use Rattle.std.proofs.lemmas.List.Elements.{All-push, All-nil}
use Rattle.term_model.specs.Tree.{Tree, Leaf, Node, Trees, End, More, count_of}
use Rattle.term_model.specs.declared.Head.{Head}
use Rattle.rewrite_model.specs.Rule.{Rule}
use Rattle.rewrite_model.specs.Matching.{match_of, if_matched, instance, instances, tree_at}
use Rattle.rewrite_model.specs.Run.{Done, OutOfFuel, TooDeep, done, ends, noting}
use Rattle.rewrite_model.specs.Step.{Step, at_root, inside, StepIn, here, there, Reaches, none, more, IsNormalForm}
use Rattle.rewrite_model.specs.Outermost.{Building, build, build_all, Stepped, Same, Changed, use_right, step_at_root, rebuild, in_front, if_same, step, step_all, go_on, steps, outermost}
use Rattle.rewrite_model.proofs.NormalForms.{NoneMatches, first_contained, NormalIn, node_normal, leaf_normal, no_instance}
use Rattle.rewrite_model.proofs.Reached.{went_on, had_room, same_value}

-- what is built is the instance
module _ (bound : List Tree) where
  mutual
    pub builds : (p : Tree) (fuel room : ℕ) (u : Tree) (left : ℕ) → (build bound p fuel room).end ≡ Done u left → instance p bound ≡ u
    builds (Leaf x) fuel room u left e = (same_value (tree_at x bound) u fuel left (had_room room (done (tree_at x bound) fuel) u left e)).0
    builds (Node h ps) fuel room u left e = went_on (build_all bound ps fuel room) _ u left (had_room room _ u left e) (λ ts m a r.
        ap (Node h) (build_alls ps fuel room ts m a) ∙ (same_value (Node h ts) u m left r).0)

    build_alls : (ps : Trees) (fuel room : ℕ) (us : Trees) (left : ℕ) → (build_all bound ps fuel room).end ≡ Done us left → instances ps bound ≡ us
    build_alls End fuel room us left e = (same_value End us fuel left e).0
    build_alls (More p ps) fuel room us left e = went_on (build bound p fuel (room - 1)) _ us left e (λ t m a r.
        went_on (build_all bound ps m (room - 1)) _ us left r (λ ts k a' r'.
        ap (λ v. More v (instances ps bound)) (builds p fuel (room - 1) t m a) ∙ ap (More t) (build_alls ps m (room - 1) ts k a') ∙ (same_value (More t ts) us k left r').0))

module _ (rules : List Rule) where
  -- what a step leaves is a step, or a normal form
  abbrev pub Gives : Tree → Stepped Tree → Type 0
  Gives t Same = IsNormalForm rules t
  Gives t (Changed u) = Step rules t u

  abbrev GivesIn : Trees → Stepped Trees → Type 0
  GivesIn ts Same = NormalIn rules ts
  GivesIn ts (Changed us) = StepIn rules ts us

  right_gives : (r : Rule) (t : Tree) (bound : List Tree) (fuel room : ℕ) (s : Stepped Tree) (left : ℕ) → Contains rules r → match_of r.left t ≡ Some bound → (use_right r.right bound fuel room).end ≡ Done s left → Gives t s
  right_gives r t bound zero room s left c m e = cc
  right_gives r t bound (suc fuel) room s left c m e = went_on (build bound r.right fuel (room - 1)) _ s left e (λ u k a b.
      let is : Changed u ≡ s = (same_value (Changed u) s k left b).0 in
      subst (Gives t) is (subst (λ v. Step rules t v) (builds bound r.right fuel (room - 1) u k a) (at_root r c m)))

  root_gives : (front rs : List Rule) (t : Tree) (fuel room : ℕ) (otherwise : Building (Stepped Tree)) (s : Stepped Tree) (left : ℕ) → front ++ rs ≡ rules → NoneMatches front t → (NoneMatches rules t → otherwise.end ≡ Done s left → Gives t s) → (step_at_root rs t fuel room otherwise).end ≡ Done s left → Gives t s
  root_gives front [] t fuel room otherwise s left all none_yet below e = below (subst (λ rs. NoneMatches rs t) (sym (append-nil front) ∙ all) none_yet) e
  root_gives front (r ∷ rs) t fuel room otherwise s left all none_yet below e =
      go (match_of r.left t) refl (λ m e'. root_gives (front ++ r ∷ []) rs t fuel room otherwise s left (append_assoc front (r ∷ []) rs ∙ all) (All-push (λ (q : Rule). match_of q.left t ≡ None) front r none_yet m) below e') e
    where
      go : (o : Option (List Tree)) → match_of r.left t ≡ o → (match_of r.left t ≡ None → (step_at_root rs t fuel room otherwise).end ≡ Done s left → Gives t s) → (if_matched o (step_at_root rs t fuel room otherwise) (λ bound. use_right r.right bound fuel room)).end ≡ Done s left → Gives t s
      go None m later e' = later m e'
      go (Some bound) m later e' = right_gives r t bound fuel room s left (subst (λ xs. Contains xs r) all (first_contained front rs r)) m e'

  rebuild_gives : (h : Head) (ts : Trees) (count : ℕ) (inner : Stepped Trees) (fuel room : ℕ) (s : Stepped Tree) (left : ℕ) → NoneMatches rules (Node h ts) → GivesIn ts inner → (rebuild count (λ us. Node h us) inner fuel room).end ≡ Done s left → Gives (Node h ts) s
  rebuild_gives h ts count Same fuel room s left n g e =
      let is : Same ≡ s = (same_value Same s fuel left e).0 in
      subst (Gives (Node h ts)) is (node_normal rules h ts g n)
  rebuild_gives h ts count (Changed us) fuel room s left n g e = go (nat_lt room (1 + count)) e
    where
      go : (b : Bool) → (if b then ends TooDeep else noting (Node h us) (done (Changed (Node h us)) fuel)).end ≡ Done s left → Gives (Node h ts) s
      go true e' = cc
      go false e' =
          let is : Changed (Node h us) ≡ s = (same_value (Changed (Node h us)) s fuel left e').0 in
          subst (Gives (Node h ts)) is (inside g)

  if_same_gives : (t : Tree) (ts : Trees) (s : Stepped Tree) (otherwise : Building (Stepped Trees)) (fuel : ℕ) (inner : Stepped Trees) (left : ℕ) → Gives t s → (IsNormalForm rules t → otherwise.end ≡ Done inner left → GivesIn (More t ts) inner) → (if_same s ts otherwise fuel).end ≡ Done inner left → GivesIn (More t ts) inner
  if_same_gives t ts Same otherwise fuel inner left g later e = later g e
  if_same_gives t ts (Changed u) otherwise fuel inner left g later e =
      let is : Changed (More u ts) ≡ inner = (same_value (Changed (More u ts)) inner fuel left e).0 in
      subst (GivesIn (More t ts)) is (here g)

  in_front_gives : (t : Tree) (ts : Trees) (s : Stepped Trees) → IsNormalForm rules t → GivesIn ts s → GivesIn (More t ts) (in_front t s)
  in_front_gives t ts Same n g = (n, g)
  in_front_gives t ts (Changed us) n g = there g

  mutual
    pub step_gives : (t : Tree) (fuel room : ℕ) (s : Stepped Tree) (left : ℕ) → (step rules t fuel room).end ≡ Done s left → Gives t s
    step_gives (Leaf x) fuel room s left e =
        root_gives [] rules (Leaf x) fuel room (done Same fuel) s left refl (All-nil (λ (q : Rule). match_of q.left (Leaf x) ≡ None)) (λ n e'.
        subst (Gives (Leaf x)) (same_value Same s fuel left e').0 (leaf_normal rules x n)) (had_room room _ s left e)
    step_gives (Node h ts) fuel room s left e =
        root_gives [] rules (Node h ts) fuel room _ s left refl (All-nil (λ (q : Rule). match_of q.left (Node h ts) ≡ None)) (λ n e'.
        went_on (step_all rules ts fuel room) _ s left e' (λ inner k a b.
        rebuild_gives h ts (count_of ts) inner k room s left n (step_all_gives ts fuel room inner k a) b)) (had_room room _ s left e)

    step_all_gives : (ts : Trees) (fuel room : ℕ) (s : Stepped Trees) (left : ℕ) → (step_all rules ts fuel room).end ≡ Done s left → GivesIn ts s
    step_all_gives End fuel room s left e = subst (GivesIn End) (same_value Same s fuel left e).0 tt
    step_all_gives (More t ts) fuel room s left e = went_on (step rules t fuel (room - 1)) _ s left e (λ first k a b.
        if_same_gives t ts first _ k s left (step_gives t fuel (room - 1) first k a) (λ n e'.
        went_on (step_all rules ts k (room - 1)) _ s left e' (λ rest i c d.
        subst (GivesIn (More t ts)) (same_value (in_front t rest) s i left d).0 (in_front_gives t ts rest n (step_all_gives ts k (room - 1) rest i c)))) b)

  record Comes (t u : Tree) : Type 0 where
    reached : Reaches rules t u
    normal : IsNormalForm rules u

  go_on_comes : (t : Tree) (s : Stepped Tree) (fuel : ℕ) (go : Tree → Building Tree) (u : Tree) (left : ℕ) → Gives t s → ((v : Tree) → (go v).end ≡ Done u left → Comes v u) → (go_on rules t s fuel go).end ≡ Done u left → Comes t u
  go_on_comes t Same fuel go u left g later e = subst (λ w. Comes t w) (same_value t u fuel left e).0 (record { reached = none; normal = g })
  go_on_comes t (Changed v) fuel go u left g later e =
      let c = later v e in
      record { reached = more g c.reached; normal = c.normal }

  steps_come : (fuel : ℕ) (t : Tree) (room : ℕ) (u : Tree) (left : ℕ) → (steps rules fuel t room).end ≡ Done u left → Comes t u
  steps_come zero t room u left e = went_on (step rules t zero room) _ u left e (λ s k a b.
      go_on_comes t s k (λ v. ends OutOfFuel) u left (step_gives t zero room s k a) (λ v e'. cc) b)
  steps_come (suc fuel) t room u left e = went_on (step rules t (suc fuel) room) _ u left e (λ s k a b.
      go_on_comes t s k (λ v. steps rules fuel v room) u left (step_gives t (suc fuel) room s k a) (λ v e'. steps_come fuel v room u left e') b)

  pub outermost_comes : (term u : Tree) (fuel room left : ℕ) → (outermost rules term fuel room).end ≡ Done u left → Reaches rules term u × IsNormalForm rules u
  outermost_comes term u fuel room left e = went_on (build [] term fuel room) _ u left e (λ t k a b.
      let c = steps_come k t room u left b in
      let same : term ≡ t = sym (no_instance term) ∙ builds [] term fuel room t k a in
      (subst (λ w. Reaches rules w u) (sym same) c.reached, c.normal))
