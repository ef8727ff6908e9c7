-- The parts of outermost evaluation, from what came before them.
use Rattle.std.proofs.Common.{◌≡◌, ℕ, zero, suc, ◌+◌, ◌-◌, ◌<◌, ◌≤◌, List, [], ◌∷◌, refl, sym, ◌∙◌, ap, subst, arith, append-nil, Bool, true, false, Option, Some, None}
use Rattle.std.specs.Prelude.{Result, Ok, Err, map, if◌then◌else◌, nat_lt}
use Rattle.std.proofs.lemmas.Bool.{ltb-true, ltb-false}
use Rattle.term_model.specs.Tree.{Tree, Leaf, Node, Trees, More, count_of}
use Rattle.rewrite_model.specs.Rule.{Rule}
use Rattle.rewrite_model.specs.Matching.{match_of, if_matched, tree_at}
use Rattle.rewrite_model.specs.Run.{Done, OutOfFuel as NoFuel, TooDeep as NoRoom, done, ends, noting, ◌>>=◌, in_room}
use Rattle.rewrite_model.specs.Outermost.{Building, build, build_all, Stepped, Same, Changed, use_right, step_at_root, rebuild, in_front, step, step_all, go_on, steps}
use Rattle.plain_rewriting.specs.Boxed.{tree_of, trees_in, trees}
use Rattle.plain_rewriting.specs.Program.{Agrees, ComesTo, Built}
use Rattle.plain_rewriting.specs.OutwardSteps.{same_tree, stepped_of, stepped_in, UsesFirst}
use Rattle.plain_rewriting.specs.declared.boxed.Term.{Term}
use Rattle.plain_rewriting.specs.declared.boxed.Arguments.{Arguments}
use Rattle.plain_rewriting.specs.declared.ends.NoValue.{NoValue}
use Rattle.plain_rewriting.proofs.Comes.{agrees_then, then_err, then_tail, then_on, comes_done, some_room}

nothing : (old : List Tree) → Agrees {N = Tree} {A = Tree} same_tree old old NoRoom (ends NoRoom)
nothing old = record { built = sym (append-nil old); ends = refl }

module _ (bound : List Tree) where
  pub no_room_built : (p : Tree) (fuel room : ℕ) (old : List Tree) → room ≡ 0 → Agrees same_tree old old NoRoom (build bound p fuel room)
  no_room_built p fuel room old e = subst (λ (x : Building Tree). Agrees same_tree old old NoRoom x) (sym (none p)) (nothing old)
    where
      none : (q : Tree) → build bound q fuel room ≡ ends NoRoom
      none (Leaf x) = ap (λ r. in_room r (done (tree_at x bound) fuel)) e
      none (Node h ps) = ap (λ r. in_room r (build_all bound ps fuel room >>= (λ ts left. noting (Node h ts) (done (Node h ts) left)))) e

  module _ (all : Trees) (p : Tree) (ps : Trees) (is : all ≡ More p ps) (fuel room below : ℕ) (at : below ≡ room - 1) (t : Tree) (left : ℕ) (old mid new : List Tree) (first : Agrees same_tree old mid (Done t left) (build bound p fuel below)) (l : left ≤ fuel) where
    here : Agrees same_tree old mid (Done t left) (build bound p fuel (room - 1))
    here = subst (λ r. Agrees same_tree old mid (Done t left) (build bound p fuel r)) at first

    pub rest_built_err : (e : NoValue) → ComesTo {T = Arguments} same_tree trees_in mid new left (Err e) (build_all bound ps left below) → ComesTo {T = Arguments} same_tree trees_in old new fuel (Err e) (build_all bound all fuel room)
    rest_built_err e c =
        let c' : ComesTo {T = Arguments} same_tree trees_in mid new left (Err e) (build_all bound ps left (room - 1)) = subst (λ r. ComesTo {T = Arguments} same_tree trees_in mid new left (Err e) (build_all bound ps left r)) at c in
        subst (λ qs. ComesTo {T = Arguments} same_tree trees_in old new fuel (Err e) (build_all bound qs fuel room)) (sym is)
        (then_tail same_tree trees_in (build bound p fuel (room - 1)) _ t left old mid new fuel (Err e) here l (then_err same_tree trees_in trees_in (build_all bound ps left (room - 1)) _ mid new left left e c'))

    pub all_built : (ts : Trees) (last : ℕ) → Agrees same_tree mid new (Done ts last) (build_all bound ps left below) → Agrees same_tree old new (Done (More t ts) last) (build_all bound all fuel room)
    all_built ts last c =
        let c' : Agrees same_tree mid new (Done ts last) (build_all bound ps left (room - 1)) = subst (λ r. Agrees same_tree mid new (Done ts last) (build_all bound ps left r)) at c in
        subst (λ qs. Agrees same_tree old new (Done (More t ts) last) (build_all bound qs fuel room)) (sym is)
        (agrees_then same_tree (build bound p fuel (room - 1)) _ t left old mid new (Done (More t ts) last) here
        (agrees_then same_tree (build_all bound ps left (room - 1)) _ ts last mid new new (Done (More t ts) last) c' (comes_done same_tree (More t ts) (More t ts) new last refl)))

-- by the rules of a list
module _ (all : List Rule) (r : Rule) (rs : List Rule) (is : all ≡ r ∷ rs) (t : Tree) (fuel room : ℕ) (otherwise : Building (Stepped Tree)) where
  pub rest_steps : match_of r.left t ≡ None → step_at_root all t fuel room otherwise ≡ step_at_root rs t fuel room otherwise
  rest_steps m = ap (λ qs. step_at_root qs t fuel room otherwise) is ∙ ap (λ o. if_matched o (step_at_root rs t fuel room otherwise) (λ bound. use_right r.right bound fuel room)) m

  pub first_steps : (bound : List Tree) → match_of r.left t ≡ Some bound → step_at_root all t fuel room otherwise ≡ use_right r.right bound fuel room
  first_steps bound m = ap (λ qs. step_at_root qs t fuel room otherwise) is ∙ ap (λ o. if_matched o (step_at_root rs t fuel room otherwise) (λ bound. use_right r.right bound fuel room)) m

module _ (right q : Tree) (q_is : q ≡ right) (bound : List Tree) (fuel f room below : ℕ) (f_is : fuel ≡ suc f) (at : below ≡ room - 1) (old new : List Tree) where
  pub right_err : (e : NoValue) → ComesTo {T = Term} same_tree tree_of old new f (Err e) (build bound q f below) → ComesTo {T = Term} same_tree (λ u. Changed (tree_of u)) old new fuel (Err e) (use_right right bound fuel room)
  right_err e c =
      let c' : ComesTo {T = Term} same_tree tree_of old new f (Err e) (build bound right f (room - 1)) = subst (λ r. ComesTo {T = Term} same_tree tree_of old new f (Err e) (build bound right f r)) at (subst (λ p. ComesTo {T = Term} same_tree tree_of old new f (Err e) (build bound p f below)) q_is c) in
      subst (λ k. ComesTo {T = Term} same_tree (λ u. Changed (tree_of u)) old new fuel (Err e) (use_right right bound k room)) (sym f_is)
      (then_err same_tree tree_of (λ (u : Term). Changed (tree_of u)) (build bound right f (room - 1)) _ old new f fuel e c')

  pub right_built : (u : Tree) (left : ℕ) → Agrees same_tree old new (Done u left) (build bound q f below) → Agrees same_tree old new (Done (Changed u) left) (use_right right bound fuel room)
  right_built u left c =
      let c' : Agrees same_tree old new (Done u left) (build bound right f (room - 1)) = subst (λ r. Agrees same_tree old new (Done u left) (build bound right f r)) at (subst (λ p. Agrees same_tree old new (Done u left) (build bound p f below)) q_is c) in
      subst (λ k. Agrees same_tree old new (Done (Changed u) left) (use_right right bound k room)) (sym f_is)
      (agrees_then same_tree (build bound right f (room - 1)) _ u left old new new (Done (Changed u) left) c' (comes_done same_tree (Changed u) (Changed u) new left refl))

module _ (rules : List Rule) where
  pub no_room_step : (t : Tree) (fuel room : ℕ) (old : List Tree) → room ≡ 0 → Agrees same_tree old old NoRoom (step rules t fuel room)
  no_room_step t fuel room old e = subst (λ (x : Building (Stepped Tree)). Agrees same_tree old old NoRoom x) (sym (none t)) (record { built = sym (append-nil old); ends = refl })
    where
      none : (q : Tree) → step rules q fuel room ≡ ends NoRoom
      none (Leaf x) = ap (λ r. in_room r (step_at_root rules (Leaf x) fuel room (done Same fuel))) e
      none (Node h ts) = ap (λ r. in_room r (step_at_root rules (Node h ts) fuel room (step_all rules ts fuel room >>= (λ s left. rebuild (count_of ts) (λ us. Node h us) s left room)))) e

  -- what a step does where no rule matches at the root
  abbrev pub below_root : Tree → ℕ → ℕ → Building (Stepped Tree)
  below_root (Leaf x) fuel room = done Same fuel
  below_root (Node h ts) fuel room = step_all rules ts fuel room >>= (λ s left. rebuild (count_of ts) (λ us. Node h us) s left room)

  pub step_is : (t : Tree) (fuel room : ℕ) → 0 < room → step rules t fuel room ≡ step_at_root rules t fuel room (below_root t fuel room)
  step_is (Leaf x) fuel room l = some_room room _ l
  step_is (Node h ts) fuel room l = some_room room _ l

  -- arguments
  module _ (all : Trees) (p : Tree) (ps : Trees) (is : all ≡ More p ps) (fuel room below : ℕ) (at : below ≡ room - 1) (old : List Tree) where
    pub first_err : (new : List Tree) (e : NoValue) → ComesTo {T = Option Term} same_tree stepped_of old new fuel (Err e) (step rules p fuel below) → ComesTo {T = Option Arguments} same_tree stepped_in old new fuel (Err e) (step_all rules all fuel room)
    first_err new e c =
        let c' : ComesTo {T = Option Term} same_tree stepped_of old new fuel (Err e) (step rules p fuel (room - 1)) = subst (λ r. ComesTo {T = Option Term} same_tree stepped_of old new fuel (Err e) (step rules p fuel r)) at c in
        subst (λ qs. ComesTo {T = Option Arguments} same_tree stepped_in old new fuel (Err e) (step_all rules qs fuel room)) (sym is)
        (then_err same_tree stepped_of stepped_in (step rules p fuel (room - 1)) _ old new fuel fuel e c')

    pub first_changed : (new : List Tree) (u : Tree) (left : ℕ) → Agrees same_tree old new (Done (Changed u) left) (step rules p fuel below) → Agrees same_tree old new (Done (Changed (More u ps)) left) (step_all rules all fuel room)
    first_changed new u left c =
        let c' : Agrees same_tree old new (Done (Changed u) left) (step rules p fuel (room - 1)) = subst (λ r. Agrees same_tree old new (Done (Changed u) left) (step rules p fuel r)) at c in
        subst (λ qs. Agrees same_tree old new (Done (Changed (More u ps)) left) (step_all rules qs fuel room)) (sym is)
        (agrees_then same_tree (step rules p fuel (room - 1)) _ (Changed u) left old new new (Done (Changed (More u ps)) left) c' (comes_done same_tree (Changed (More u ps)) (Changed (More u ps)) new left refl))

    module _ (mid new : List Tree) (left : ℕ) (l : left ≤ fuel) (first : Agrees same_tree old mid (Done Same left) (step rules p fuel below)) where
      here_same : Agrees same_tree old mid (Done Same left) (step rules p fuel (room - 1))
      here_same = subst (λ r. Agrees same_tree old mid (Done Same left) (step rules p fuel r)) at first

      pub later_err : (e : NoValue) → ComesTo {T = Option Arguments} same_tree stepped_in mid new left (Err e) (step_all rules ps left below) → ComesTo {T = Option Arguments} same_tree stepped_in old new fuel (Err e) (step_all rules all fuel room)
      later_err e c =
          let c' : ComesTo {T = Option Arguments} same_tree stepped_in mid new left (Err e) (step_all rules ps left (room - 1)) = subst (λ r. ComesTo {T = Option Arguments} same_tree stepped_in mid new left (Err e) (step_all rules ps left r)) at c in
          subst (λ qs. ComesTo {T = Option Arguments} same_tree stepped_in old new fuel (Err e) (step_all rules qs fuel room)) (sym is)
          (then_tail same_tree stepped_in (step rules p fuel (room - 1)) _ Same left old mid new fuel (Err e) here_same l (then_err same_tree stepped_in stepped_in (step_all rules ps left (room - 1)) _ mid new left left e c'))

      pub later_stepped : (s : Stepped Trees) (last : ℕ) → Agrees same_tree mid new (Done s last) (step_all rules ps left below) → Agrees same_tree old new (Done (in_front p s) last) (step_all rules all fuel room)
      later_stepped s last c =
          let c' : Agrees same_tree mid new (Done s last) (step_all rules ps left (room - 1)) = subst (λ r. Agrees same_tree mid new (Done s last) (step_all rules ps left r)) at c in
          subst (λ qs. Agrees same_tree old new (Done (in_front p s) last) (step_all rules qs fuel room)) (sym is)
          (agrees_then same_tree (step rules p fuel (room - 1)) _ Same left old mid new (Done (in_front p s) last) here_same
          (agrees_then same_tree (step_all rules ps left (room - 1)) _ s last mid new new (Done (in_front p s) last) c' (comes_done same_tree (in_front p s) (in_front p s) new last refl)))

  -- steps
  steps_are : (t : Tree) (fuel room : ℕ) → (go : Tree → Building Tree) × (steps rules fuel t room ≡ (step rules t fuel room >>= (λ s left. go_on rules t s left go)))
  steps_are t zero room = ((λ u. ends NoFuel), refl)
  steps_are t (suc fuel) room = ((λ u. steps rules fuel u room), refl)

  pub steps_err : (t : Tree) (fuel room : ℕ) (old new : List Tree) (e : NoValue) → ComesTo {T = Option Term} same_tree stepped_of old new fuel (Err e) (step rules t fuel room) → ComesTo {T = Term} same_tree tree_of old new fuel (Err e) (steps rules fuel t room)
  steps_err t fuel room old new e c =
      let s = steps_are t fuel room in
      subst (λ x. ComesTo {T = Term} same_tree tree_of old new fuel (Err e) x) (sym s.1) (then_err same_tree stepped_of tree_of (step rules t fuel room) _ old new fuel fuel e c)

  pub steps_same : (t : Tree) (fuel room left : ℕ) (old new : List Tree) → Agrees same_tree old new (Done Same left) (step rules t fuel room) → Agrees same_tree old new (Done t left) (steps rules fuel t room)
  steps_same t fuel room left old new c =
      let s = steps_are t fuel room in
      subst (λ (x : Building Tree). Agrees same_tree old new (Done t left) x) (sym s.1) (agrees_then same_tree (step rules t fuel room) _ Same left old new new (Done t left) c (comes_done same_tree t t new left refl))

  pub steps_end : (t u : Tree) (fuel room left : ℕ) (old new : List Tree) → fuel ≡ 0 → Agrees same_tree old new (Done (Changed u) left) (step rules t fuel room) → Agrees same_tree old new NoFuel (steps rules fuel t room)
  steps_end t u fuel room left old new e c =
      let c' : Agrees same_tree old new (Done (Changed u) left) (step rules t 0 room) = subst (λ k. Agrees same_tree old new (Done (Changed u) left) (step rules t k room)) e c in
      subst (λ k. Agrees same_tree old new NoFuel (steps rules k t room)) (sym e)
      (agrees_then same_tree (step rules t 0 room) (λ s m. go_on rules t s m (λ v. ends NoFuel)) (Changed u) left old new new NoFuel c' (record { built = sym (append-nil new); ends = refl }))

  pub steps_changed : (t u : Tree) (fuel f room left : ℕ) (old mid new : List Tree) (r : Result (Term × ℕ) NoValue) → fuel ≡ suc f → Agrees same_tree old mid (Done (Changed u) left) (step rules t fuel room) → ComesTo same_tree tree_of mid new f r (steps rules f u room) → ComesTo same_tree tree_of old new fuel r (steps rules fuel t room)
  steps_changed t u fuel f room left old mid new r e c d =
      let c' : Agrees same_tree old mid (Done (Changed u) left) (step rules t (suc f) room) = subst (λ k. Agrees same_tree old mid (Done (Changed u) left) (step rules t k room)) e c in
      subst (λ k. ComesTo same_tree tree_of old new k r (steps rules k t room)) (sym e)
      (then_on same_tree tree_of (step rules t (suc f) room) (λ s m. go_on rules t s m (λ v. steps rules f v room)) (Changed u) left f old mid new (suc f) r c' (omega arith) d)

-- a rebuilt node has room for its arguments
pub shallow : (count : ℕ) (node : Trees → Tree) (us : Trees) (fuel room : ℕ) → room ≤ count → rebuild count node (Changed us) fuel room ≡ ends NoRoom
shallow count node us fuel room l = go (nat_lt room (1 + count)) refl
  where
    go : (b : Bool) → nat_lt room (1 + count) ≡ b → (if b then ends NoRoom else noting (node us) (done (Changed (node us)) fuel)) ≡ ends NoRoom
    go true e = refl
    go false e = absurd (omega (arith, ltb-false room (1 + count) e))

pub roomy : (count : ℕ) (node : Trees → Tree) (us : Trees) (fuel room : ℕ) → count < room → rebuild count node (Changed us) fuel room ≡ noting (node us) (done (Changed (node us)) fuel)
roomy count node us fuel room l = go (nat_lt room (1 + count)) refl
  where
    go : (b : Bool) → nat_lt room (1 + count) ≡ b → (if b then ends NoRoom else noting (node us) (done (Changed (node us)) fuel)) ≡ noting (node us) (done (Changed (node us)) fuel)
    go true e = absurd (omega (arith, ltb-true room (1 + count) e))
    go false e = refl

pub all_notes : (ts : List Tree) → map same_tree ts ≡ ts
all_notes [] = refl
all_notes (t ∷ ts) = ap (λ us. t ∷ us) (all_notes ts)

-- what the rest of the rules does, the whole list does
pub uses_rest : (all rs : List Rule) (t : Term) (fuel room : ℕ) → ((otherwise : Building (Stepped Tree)) → step_at_root all (tree_of t) fuel room otherwise ≡ step_at_root rs (tree_of t) fuel room otherwise) → (old new : Built) (r : Result (Option (Term × ℕ)) NoValue) → UsesFirst rs t fuel room old new r → UsesFirst all t fuel room old new r
uses_rest all rs t fuel room is old new (Ok None) h = ((λ o. is o ∙ h.0 o), h.1)
uses_rest all rs t fuel room is old new (Ok (Some s)) h = λ o.
    (subst (λ (x : Building (Stepped Tree)). Agrees same_tree (trees old.items) (trees new.items) (Done (Changed (tree_of s.0)) s.1) x) (sym (is o)) (h o).0, (h o).1)
uses_rest all rs t fuel room is old new (Err e) h = λ o. subst (λ (x : Building (Stepped Tree)). ComesTo {T = Term} same_tree (λ u. Changed (tree_of u)) (trees old.items) (trees new.items) fuel (Err e) x) (sym (is o)) (h o)
