-- A step of outermost rewriting, tree by tree on the way.
use Rattle.std.proofs.Common.{◌≡◌, ℕ, zero, suc, ◌+◌, ◌-◌, ◌<◌, ◌≤◌, List, [], ◌∷◌, ◌++◌, length, get_or, refl, sym, ◌∙◌, ap, arith, Bool, true, false, Some, None, lt-ltb}
use Rattle.std.specs.Prelude.{if◌then◌else◌, nat_lt}
use Rattle.std.proofs.lemmas.Bool.{ltb-true}
use Rattle.std.proofs.lemmas.List.{length_push}
use Rattle.term_model.specs.Tree.{Tree, Leaf, Node, Trees, End, More, count_of}
use Rattle.term_model.specs.declared.Head.{Head}
use Rattle.terms_api.specs.Terms.{but_last}
use Rattle.terms_api.proofs.Callers.{but_last-append}
use Rattle.rewrite_model.specs.Rule.{Rule}
use Rattle.rewrite_model.specs.Matching.{if_matched}
use Rattle.rewrite_model.specs.Run.{done, ends, noting, ◌>>=◌, in_room, TooDeep}
use Rattle.rewrite_model.specs.Outermost.{Building, Stepped, Same, Changed, use_right, step_at_root, rebuild, in_front, if_same, step, step_all}
use Rattle.rule_match.specs.Planned.{match_at}
use Rattle.innermost.specs.Walking.{Crumb, onto, with_last, from_rest, after_argument, onward, pending}
use Rattle.innermost.proofs.Runs.{then_then, same_then, noting_then}

-- without room there is nothing, and with room there is no difference
pub in_some_room : {A : Type 0} (n : ℕ) (x : Building A) → 0 < n → in_room n x ≡ x
in_some_room zero x l = absurd (omega (arith, l))
in_some_room (suc n) x l = refl

pub in_none : {A : Type 0} (n : ℕ) (x : Building A) → n ≡ 0 → in_room n x ≡ ends TooDeep
in_none zero x e = refl
in_none (suc n) x e = absurd (omega (arith, e))

-- the first rule that matches is used
pub root_none : (rs : List Rule) (t : Tree) (fuel room : ℕ) (o : Building (Stepped Tree)) → ((k : ℕ) → k < length rs → match_at rs k t ≡ None) → step_at_root rs t fuel room o ≡ o
root_none [] t fuel room o none = refl
root_none (r ∷ rs) t fuel room o none =
    ap (λ m. if_matched m (step_at_root rs t fuel room o) (λ bound. use_right r.right bound fuel room)) (none 0 (omega arith))
    ∙ root_none rs t fuel room o (λ k l. none (suc k) (omega (arith, l)))

pub root_found : (rs : List Rule) (found : ℕ) (r : Rule) (t : Tree) (bound : List Tree) (fuel room : ℕ) (o : Building (Stepped Tree)) → found < length rs → ((k : ℕ) → k < found → match_at rs k t ≡ None) → match_at rs found t ≡ Some bound → r ≡ get_or rs found r → step_at_root rs t fuel room o ≡ use_right r.right bound fuel room
root_found [] found r t bound fuel room o l none m e = absurd (omega (arith, l))
root_found (q ∷ rs) zero r t bound fuel room o l none m e =
    ap (λ x. if_matched x (step_at_root rs t fuel room o) (λ b. use_right q.right b fuel room)) m
    ∙ ap (λ (x : Rule). use_right x.right bound fuel room) (sym e)
root_found (q ∷ rs) (suc k) r t bound fuel room o l none m e =
    ap (λ x. if_matched x (step_at_root rs t fuel room o) (λ b. use_right q.right b fuel room)) (none 0 (omega arith))
    ∙ root_found rs k r t bound fuel room o (omega (arith, l)) (λ j i. none (suc j) (omega (arith, i))) m e

pub onto_push : (front : List Tree) (t : Tree) (us : Trees) → onto (front ++ t ∷ []) us ≡ onto front (More t us)
onto_push [] t us = refl
onto_push (f ∷ fs) t us = ap (More f) (onto_push fs t us)

module _ (rules : List Rule) where
  -- a tree that no rule matches goes on in its arguments
  pub tried : (h : Head) (ts : Trees) (fuel room : ℕ) → 0 < room → ((k : ℕ) → k < length rules → match_at rules k (Node h ts) ≡ None) → step rules (Node h ts) fuel room ≡ from_rest rules (record { head = h; front = []; rest = ts; room = room }) fuel
  tried h ts fuel room l none =
      let e : room ≡ room - 0 = omega arith in
      in_some_room room (step_at_root rules (Node h ts) fuel room (step_all rules ts fuel room >>= (λ s left. rebuild (count_of ts) (λ us. Node h us) s left room))) l
      ∙ root_none rules (Node h ts) fuel room _ none
      ∙ ap (λ r. step_all rules ts fuel r >>= (λ s left. rebuild (count_of ts) (λ us. Node h us) s left room)) e

  pub used : (h : Head) (ts : Trees) (found : ℕ) (r : Rule) (bound : List Tree) (fuel room : ℕ) → 0 < room → found < length rules → ((k : ℕ) → k < found → match_at rules k (Node h ts) ≡ None) → match_at rules found (Node h ts) ≡ Some bound → r ≡ get_or rules found r → step rules (Node h ts) fuel room ≡ use_right r.right bound fuel room
  used h ts found r bound fuel room l within none m e =
      in_some_room room (step_at_root rules (Node h ts) fuel room (step_all rules ts fuel room >>= (λ s left. rebuild (count_of ts) (λ us. Node h us) s left room))) l
      ∙ root_found rules found r (Node h ts) bound fuel room _ within none m e

  -- without room it has no step
  pub no_step : (t : Tree) (fuel room : ℕ) → room ≡ 0 → step rules t fuel room ≡ ends TooDeep
  no_step (Leaf x) fuel room e = in_none room _ e
  no_step (Node h ts) fuel room e = in_none room _ e

  -- the tree of the last spot stays the same
  pub left_same : (c : Crumb) (cs : List Crumb) (fuel : ℕ) → c.rest ≡ End → pending rules (c ∷ cs) fuel ≡ pending rules cs fuel
  left_same c cs fuel e =
      ap (λ ts. (step_all rules ts fuel (c.room - length c.front) >>= (λ s left. rebuild (count_of (onto c.front c.rest)) (λ us. Node c.head (onto c.front us)) s left c.room)) >>= onward rules cs) e
      ∙ go cs
    where
      go : (ds : List Crumb) → onward rules ds Same fuel ≡ pending rules ds fuel
      go [] = refl
      go (d ∷ ds) = refl

  abbrev begun : Crumb → Tree → Trees → Crumb
  begun c t us = record { head = c.head; front = c.front ++ t ∷ []; rest = us; room = c.room }

  module _ (h : Head) (front : List Tree) (t : Tree) (us : Trees) (room : ℕ) where
    abbrev old : Crumb
    old = record { head = h; front = front; rest = More t us; room = room }

    abbrev pub new : Crumb
    new = record { head = h; front = front ++ t ∷ []; rest = us; room = room }

    abbrev count : ℕ
    count = count_of (onto front (More t us))

    abbrev builds : Stepped Trees → ℕ → Building (Stepped Tree)
    builds s left = rebuild count (λ vs. Node h (onto front vs)) s left room

    counts : count ≡ count_of (onto (front ++ t ∷ []) us)
    counts = ap count_of (sym (onto_push front t us))

    less : room - length front - 1 ≡ room - length (front ++ t ∷ [])
    less = let l = length_push front t in omega (arith, l)

    in_front_builds : (s : Stepped Trees) (left : ℕ) → builds (in_front t s) left ≡ rebuild (count_of (onto (front ++ t ∷ []) us)) (λ vs. Node h (onto (front ++ t ∷ []) vs)) s left room
    in_front_builds Same left = refl
    in_front_builds (Changed vs) left =
        ap (λ n. rebuild n (λ ws. Node h (onto front ws)) (Changed (More t vs)) left room) counts
        ∙ ap (λ (T : Tree). if nat_lt room (1 + count_of (onto (front ++ t ∷ []) us)) then ends TooDeep else noting T (done (Changed T) left)) (ap (Node h) (sym (onto_push front t vs)))

    after : (s : Stepped Tree) (left : ℕ) →
        (if_same s us (step_all rules us left (room - length front - 1) >>= (λ more rest. done (in_front t more) rest)) left >>= builds)
        ≡ after_argument rules new s left
    after Same left =
        then_then (step_all rules us left (room - length front - 1)) (λ more rest. done (in_front t more) rest) builds
        ∙ same_then (step_all rules us left (room - length front - 1)) _ _ (λ s rest. in_front_builds s rest)
        ∙ ap (λ r. step_all rules us left r >>= (λ s rest. rebuild (count_of (onto (front ++ t ∷ []) us)) (λ vs. Node h (onto (front ++ t ∷ []) vs)) s rest room)) less
    after (Changed u) left =
        let but : but_last 1 (front ++ t ∷ []) ≡ front = but_last-append 1 front (t ∷ []) refl in
        let same : onto front (More u us) ≡ with_last new u = sym (ap (λ fs. onto (fs ++ u ∷ []) us) but ∙ onto_push front u us) in
        ap (λ n. rebuild n (λ ws. Node h (onto front ws)) (Changed (More u us)) left room) counts
        ∙ ap (λ (ws : Trees). if nat_lt room (1 + count_of (onto (front ++ t ∷ []) us)) then ends TooDeep else noting (Node h ws) (done (Changed (Node h ws)) left)) same

    -- the next argument is tried
    pub goes_in : (cs : List Crumb) (fuel : ℕ) → pending rules (old ∷ cs) fuel ≡ (step rules t fuel (room - length (front ++ t ∷ [])) >>= onward rules (new ∷ cs))
    goes_in cs fuel =
        ap (λ (x : Building (Stepped Tree)). x >>= onward rules cs)
        (then_then (step rules t fuel (room - length front - 1)) (λ s left. if_same s us (step_all rules us left (room - length front - 1) >>= (λ more rest. done (in_front t more) rest)) left) builds
        ∙ same_then (step rules t fuel (room - length front - 1)) _ _ after)
        ∙ then_then (step rules t fuel (room - length front - 1)) (after_argument rules new) (onward rules cs)
        ∙ ap (λ r. step rules t fuel r >>= onward rules (new ∷ cs)) less

  -- the tree of a spot is built again, where there is room
  pub builds_again : (c : Crumb) (cs : List Crumb) (u : Tree) (left : ℕ) → count_of (onto c.front c.rest) < c.room → onward rules (c ∷ cs) (Changed u) left ≡ noting (Node c.head (with_last c u)) (onward rules cs (Changed (Node c.head (with_last c u))) left)
  builds_again c cs u left l = go (nat_lt c.room (1 + count_of (onto c.front c.rest))) refl
    where
      go : (b : Bool) → nat_lt c.room (1 + count_of (onto c.front c.rest)) ≡ b → ((if nat_lt c.room (1 + count_of (onto c.front c.rest)) then ends TooDeep else noting (Node c.head (with_last c u)) (done (Changed (Node c.head (with_last c u))) left)) >>= onward rules cs) ≡ noting (Node c.head (with_last c u)) (onward rules cs (Changed (Node c.head (with_last c u))) left)
      go true e = let k = ltb-true c.room (1 + count_of (onto c.front c.rest)) e in absurd (omega (arith, k, l))
      go false e =
          ap (λ b. (if b then ends TooDeep else noting (Node c.head (with_last c u)) (done (Changed (Node c.head (with_last c u))) left)) >>= onward rules cs) e
          ∙ noting_then (Node c.head (with_last c u)) (done (Changed (Node c.head (with_last c u))) left) (onward rules cs)

  pub not_again : (c : Crumb) (cs : List Crumb) (u : Tree) (left : ℕ) → c.room ≤ count_of (onto c.front c.rest) → onward rules (c ∷ cs) (Changed u) left ≡ ends TooDeep
  not_again c cs u left l =
      ap (λ b. (if b then ends TooDeep else noting (Node c.head (with_last c u)) (done (Changed (Node c.head (with_last c u))) left)) >>= onward rules cs) (lt-ltb c.room (1 + count_of (onto c.front c.rest)) (omega (arith, l)))
