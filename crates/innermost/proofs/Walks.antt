-- A walk goes from tree to tree.
use Rattle.std.proofs.Common.{◌≡◌, ℕ, zero, suc, ◌+◌, ◌-◌, ◌<◌, ◌≤◌, List, [], ◌∷◌, ◌++◌, length, map, reverse, get_or, refl, sym, ◌∙◌, ap, arith, subst, Option, Some, None, ◌⊎◌, inl, inr}
use Rattle.std.specs.Prelude.{All, unwrap_or, slice_get}
use Rattle.std.proofs.lemmas.List.{length_push, length-reverse, reverse-append, get_or_default}
use Rattle.std.proofs.lemmas.List.Elements.{All-get_or}
use Rattle.std.proofs.lemmas.Option.{same_Some}
use Rattle.term_model.specs.Tree.{Tree, Leaf, Node, Trees, End, More, list_of, arguments, root, subtrees}
use Rattle.term_model.specs.declared.Head.{Head}
use Rattle.term_model.specs.declared.Row.{Row}
use Rattle.terms_api.specs.Terms.{Store, HasTree, IsHeld, tree_at}
use Rattle.terms_api.proofs.Callers.{tree_at-has, has-held}
use Rattle.rewrite_model.specs.Rule.{Rule, IsRule}
use Rattle.rewrite_model.specs.Run.{done, ends, ◌>>=◌, TooDeep}
use Rattle.rewrite_model.specs.Outermost.{Building, Stepped, Same, step}
use Rattle.rewrite_model.proofs.Closed.{HoldsAll, match_held}
use Rattle.rewrite_model.proofs.Matches.{match_binds_variables}
use Rattle.rule_match.specs.Planned.{Planned, IsPlan, match_at}
use Rattle.rule_match.specs.Groups.{MatchNone}
use Rattle.rule_match.proofs.Skipping.{match_at-get}
use Rattle.innermost.specs.declared.spots.Spot.{Spot}
use Rattle.innermost.specs.Walking.{Crumb, onto, crumb_tree, onward, pending, IsUnder, IsSpot, AreSpots, AreBegun, AreBegunBelow, IsTrying, IsWalking, IsFound}
use Rattle.innermost.proofs.Runs.{then_done}
use Rattle.innermost.proofs.Crumbs.{tried, used, no_step, left_same, goes_in}
use Rattle.innermost.proofs.Parts.{argument_under, held_kept}

-- the last spot, and those before it
pub spots_push : (fs : List Spot) (f : Spot) → reverse (fs ++ f ∷ []) ≡ f ∷ reverse fs
spots_push fs f = reverse-append fs (f ∷ [])

-- a held tree without variables has a head
node_of : (t : Tree) (h : Head) → root t ≡ Some h → (ts : Trees) × (t ≡ Node h ts)
node_of (Leaf x) h e = absurd (cc)
node_of (Node g ts) h e = (ts, ap (λ f. Node f ts) (same_Some g h e))

-- all rules before the one that was found don't match
passed_all : (rules : List Rule) (h : Head) (t : Tree) (first next : Option ℕ) → root t ≡ Some h → MatchNone rules h 0 first → ((k : ℕ) → unwrap_or first (length rules) ≤ k → k < unwrap_or next (length rules) → match_at rules k t ≡ None) → (k : ℕ) → k < unwrap_or next (length rules) → match_at rules k t ≡ None
passed_all rules h t first next e none passed k l =
    elim (cases k (unwrap_or first (length rules))) [
      | inl low ↦ none k (omega arith) low t e
      | inr high ↦ passed k high l
    ]
  where
    cases : (a b : ℕ) → (a < b) ⊎ (b ≤ a)
    cases zero zero = inr (omega arith)
    cases zero (suc b) = inl (omega arith)
    cases (suc a) zero = inr (omega arith)
    cases (suc a) (suc b) = elim (cases a b) [ inl l ↦ inl (omega (arith, l)) | inr l ↦ inr (omega (arith, l)) ]

module _ (plan : Planned) (depth : ℕ) (root' : Tree) (now : Store) where
  module _ (spots : List Spot) (row : Row) (room : ℕ) (e : IsTrying plan depth root' now spots row room) where
    tree_is : tree_at now row ≡ e.tree
    tree_is = tree_at-has now row e.tree e.has

    -- there is no room
    pub tries_no_room : room ≡ 0 → (fuel : ℕ) → step plan.rules root' fuel depth ≡ ends TooDeep
    tries_no_room z fuel = e.run fuel ∙ ap (λ (x : Building (Stepped Tree)). x >>= onward plan.rules e.crumbs) (no_step plan.rules e.tree fuel room z)

    module _ (some : 0 < room) (h : Head) (hd : root (tree_at now row) ≡ Some h) (first next : Option ℕ) (none : MatchNone plan.rules h 0 first) (passed : (k : ℕ) → unwrap_or first (length plan.rules) ≤ k → k < unwrap_or next (length plan.rules) → match_at plan.rules k (tree_at now row) ≡ None) where
      abbrev over : (ts : Trees) × (e.tree ≡ Node h ts)
      over = node_of e.tree h (ap root (sym tree_is) ∙ hd)

      no_match : (k : ℕ) → k < unwrap_or next (length plan.rules) → match_at plan.rules k (Node h over.0) ≡ None
      no_match k l = subst (λ t. match_at plan.rules k t ≡ None) (tree_is ∙ over.1) (passed_all plan.rules h (tree_at now row) first next hd none passed k l)

      abbrev crumb : Crumb
      crumb = record { head = h; front = []; rest = over.0; room = room }

      -- no rule matches, and the walk goes on with the first argument
      pub tries_on : next ≡ None → IsWalking plan depth root' now (spots ++ (record { row = row; argument = 0; room = room }) ∷ [])
      tries_on is =
          let fs = spots in
          let l = length-reverse fs in
          record {
            crumbs = crumb ∷ e.crumbs;
            on_way = subst (λ gs. AreSpots depth root' now gs (crumb ∷ e.crumbs)) (sym (spots_push fs (record { row = row; argument = 0; room = room }))) (
              record {
                has = subst (HasTree now row) over.1 e.has;
                under = subst (IsUnder root') over.1 e.under;
                argument = refl;
                room = refl;
                places = omega (arith, l, e.places);
                some = some;
              },
              e.on_way,
            );
            begun = e.begun;
            run = λ fuel. e.run fuel ∙ ap (λ (x : Building (Stepped Tree)). x >>= onward plan.rules e.crumbs)
                (ap (λ t. step plan.rules t fuel room) over.1 ∙ tried plan.rules h over.0 fuel room some (λ k m. no_match k (subst (λ (o : Option ℕ). k < unwrap_or o (length plan.rules)) (sym is) m)));
          }

      -- a rule matches
      pub tries_found : (found : ℕ) (rows : List Row) → next ≡ Some found → IsPlan plan → found < length plan.rules → match_at plan.rules found (tree_at now row) ≡ Some (map (tree_at now) rows) → All (IsHeld now) rows → IsFound plan depth root' now spots rows found room
      tries_found found rows is planned within matches held =
          let bound = map (tree_at now) rows in
          let m : match_at plan.rules found (Node h over.0) ≡ Some bound = subst (λ t. match_at plan.rules found t ≡ Some bound) (tree_is ∙ over.1) matches in
          record {
            crumbs = e.crumbs;
            on_way = e.on_way;
            begun = e.begun;
            bound = bound;
            kept = held_kept root' now rows held (bound_under found within m);
            within = within;
            vars = λ r q. (let w = match_at-get plan.rules found r (Node h over.0) within q in
                let d : IsRule r = subst IsRule (sym q) (All-get_or IsRule plan.rules found r within planned.rules) in
                match_binds_variables r.left (Node h over.0) r.vars bound d.numbered (sym w ∙ m));
            most = omega (arith, e.places);
            some = some;
            run = λ r q fuel. e.run fuel ∙ ap (λ (x : Building (Stepped Tree)). x >>= onward plan.rules e.crumbs)
                (ap (λ t. step plan.rules t fuel room) over.1 ∙ used plan.rules h over.0 found r bound fuel room some within (λ k l. no_match k (subst (λ (o : Option ℕ). k < unwrap_or o (length plan.rules)) (sym is) l)) m q);
          }
        where
          bound_under : (k : ℕ) → k < length plan.rules → match_at plan.rules k (Node h over.0) ≡ Some (map (tree_at now) rows) → HoldsAll (subtrees root') (map (tree_at now) rows)
          bound_under k l m' =
              let d : Rule = record { left = Leaf 0; right = Leaf 0; conditions = []; vars = 0 } in
              let r = get_or plan.rules k d in
              let q : r ≡ get_or plan.rules k r = get_or_default plan.rules k d r l in
              match_held (subtrees root') r.left (Node h over.0) [] (map (tree_at now) rows) (subst (IsUnder root') over.1 e.under) tt (sym (match_at-get plan.rules k r (Node h over.0) l q) ∙ m')

  -- the walk begins
  pub walk_begins : (row : Row) → IsHeld now row → root' ≡ tree_at now row → IsTrying plan depth root' now [] row depth
  walk_begins row held is =
      record {
        crumbs = [];
        tree = root';
        on_way = tt;
        begun = tt;
        has = subst (HasTree now row) (sym is) (has-held now row held);
        under = λ u i. i;
        places = omega arith;
        run = λ fuel. sym (then_done (step plan.rules root' fuel depth));
      }

  -- no tree on the way is left
  no_crumbs : (cs : List Crumb) → AreSpots depth root' now [] cs → cs ≡ []
  no_crumbs [] k = refl
  no_crumbs (c ∷ cs) k = absurd k

  pub walk_same : (spots : List Spot) → spots ≡ [] → IsWalking plan depth root' now spots → (fuel : ℕ) → step plan.rules root' fuel depth ≡ done Same fuel
  walk_same spots is w fuel =
      let none = no_crumbs w.crumbs (subst (λ fs. AreSpots depth root' now (reverse fs) w.crumbs) is w.on_way) in
      w.run fuel ∙ ap (λ cs. pending plan.rules cs fuel) none

  -- the last spot and its tree
  record Last (fs : List Spot) (f : Spot) (crumbs : List Crumb) : Type 0 where
    crumb : Crumb
    others : List Crumb
    is : crumbs ≡ crumb ∷ others
    spot : IsSpot depth root' now (length (reverse fs)) f crumb
    spots : AreSpots depth root' now (reverse fs) others

  last_of : (fs : List Spot) (f : Spot) (cs : List Crumb) → AreSpots depth root' now (f ∷ reverse fs) cs → Last fs f cs
  last_of fs f [] k = absurd k
  last_of fs f (c ∷ cs) k = record { crumb = c; others = cs; is = refl; spot = k.0; spots = k.1 }

  module _ (spots fs : List Spot) (f : Spot) (is : spots ≡ fs ++ f ∷ []) (w : IsWalking plan depth root' now spots) where
    last : Last fs f w.crumbs
    last = last_of fs f w.crumbs (subst (λ gs. AreSpots depth root' now gs w.crumbs) (ap reverse is ∙ spots_push fs f) w.on_way)

    abbrev c : Crumb
    c = last.crumb

    tree_is' : tree_at now f.row ≡ crumb_tree c
    tree_is' = tree_at-has now f.row (crumb_tree c) last.spot.has

    pub last_held : IsHeld now f.row
    last_held = held-of now f.row (crumb_tree c) last.spot.has
      where
        held-of : (s : Store) (r : Row) (t : Tree) → HasTree s r t → IsHeld s r
        held-of s r t h = rw h refl

    count_onto : (ts : List Tree) (us : Trees) → length (list_of (onto ts us)) ≡ length ts + length (list_of us)
    count_onto [] us = omega arith
    count_onto (t ∷ ts) us = let q = count_onto ts us in omega (arith, q)

    rest_none : (us : Trees) → length (list_of us) ≡ 0 → us ≡ End
    rest_none End q = refl
    rest_none (More t us) q = absurd (omega (arith, q))

    run_last : (fuel : ℕ) → step plan.rules root' fuel depth ≡ pending plan.rules (c ∷ last.others) fuel
    run_last fuel = w.run fuel ∙ ap (λ cs. pending plan.rules cs fuel) last.is

    begun_below : AreBegun last.others
    begun_below = subst AreBegunBelow last.is w.begun

    -- all arguments of the last tree stay the same
    pub walk_leaves : length (arguments (tree_at now f.row)) ≤ f.argument → IsWalking plan depth root' now fs
    walk_leaves le =
        let n = ap (λ t. length (arguments t)) tree_is' in
        let q = count_onto c.front c.rest in
        let a = last.spot.argument in
        let none : c.rest ≡ End = rest_none c.rest (omega (arith, le, n, q, a)) in
        record {
          crumbs = last.others;
          on_way = last.spots;
          begun = below last.others begun_below;
          run = λ fuel. run_last fuel ∙ left_same plan.rules c last.others fuel none;
        }
      where
        below : (cs : List Crumb) → AreBegun cs → AreBegunBelow cs
        below [] b = tt
        below (d ∷ ds) b = b.1

    rest_some : (us : Trees) → 0 < length (list_of us) → (t : Tree) × (vs : Trees) × (us ≡ More t vs)
    rest_some End q = absurd (omega (arith, q))
    rest_some (More t us) q = (t, us, refl)

    at_rest : (ts : List Tree) (t : Tree) (us : Trees) → slice_get (list_of (onto ts (More t us))) (length ts) ≡ Some t
    at_rest [] t us = refl
    at_rest (x ∷ xs) t us = at_rest xs t us

    onto_more : (ts : List Tree) (t : Tree) (us : Trees) → onto (ts ++ t ∷ []) us ≡ onto ts (More t us)
    onto_more [] t us = refl
    onto_more (x ∷ xs) t us = ap (More x) (onto_more xs t us)

    -- the next argument is tried
    pub walk_goes_in : (row : Row) (room : ℕ) → f.argument < length (arguments (tree_at now f.row)) → IsHeld now row → slice_get (arguments (tree_at now f.row)) f.argument ≡ Some (tree_at now row) → room ≡ f.room - (f.argument + 1) → IsTrying plan depth root' now (fs ++ (record { row = f.row; argument = f.argument + 1; room = f.room }) ∷ []) row room
    walk_goes_in row room le held at room_is =
        let n = ap (λ t. length (arguments t)) tree_is' in
        let q = count_onto c.front c.rest in
        let a = last.spot.argument in
        let some = rest_some c.rest (omega (arith, le, n, q, a)) in
        let t = some.0 in
        let us = some.1 in
        let whole : onto c.front c.rest ≡ onto c.front (More t us) = ap (onto c.front) some.2 in
        let args : slice_get (list_of (onto c.front (More t us))) (length c.front) ≡ Some (tree_at now row) =
        subst (λ k. slice_get (list_of (onto c.front (More t us))) k ≡ Some (tree_at now row)) a
        (ap (λ us'. slice_get (list_of us') f.argument) (sym whole) ∙ ap (λ x. slice_get (arguments x) f.argument) (sym tree_is') ∙ at) in
        let same : t ≡ tree_at now row = same_Some t (tree_at now row) (sym (at_rest c.front t us) ∙ args) in
        let new : Crumb = record { head = c.head; front = c.front ++ t ∷ []; rest = us; room = c.room } in
        let new_tree : crumb_tree c ≡ crumb_tree new = ap (Node c.head) (whole ∙ sym (onto_more c.front t us)) in
        let one = length_push c.front t in
        let l = length-reverse fs in
        let under : IsUnder root' (Node c.head (onto c.front (More t us))) = subst (λ x. IsUnder root' (Node c.head x)) whole last.spot.under in
        let g : Spot = record { row = f.row; argument = f.argument + 1; room = f.room } in
        record {
          crumbs = new ∷ last.others;
          tree = t;
          on_way = subst (λ gs. AreSpots depth root' now gs (new ∷ last.others)) (sym (spots_push fs g)) (
            record {
              has = subst (HasTree now f.row) new_tree last.spot.has;
              under = subst (IsUnder root') new_tree last.spot.under;
              argument = omega (arith, a, one);
              room = last.spot.room;
              places = last.spot.places;
              some = last.spot.some;
            },
            last.spots,
          );
          begun = (omega (arith, one), begun_below);
          has = subst (HasTree now row) (sym same) (has-held now row held);
          under = argument_under root' c.head c.front t us under;
          places = (let p = last.spot.places in let r = last.spot.room in let k = length_push fs g in let q0 = last.spot.some in omega (arith, p, r, k, l, room_is, a, q0));
          run = λ fuel. run_last fuel
              ∙ ap (λ vs. pending plan.rules ((record { head = c.head; front = c.front; rest = vs; room = c.room }) ∷ last.others) fuel) some.2
              ∙ goes_in plan.rules c.head c.front t us c.room last.others fuel
              ∙ ap (λ r. step plan.rules t fuel r >>= onward plan.rules (new ∷ last.others)) (let r = last.spot.room in omega (arith, one, a, r, room_is));
        }
