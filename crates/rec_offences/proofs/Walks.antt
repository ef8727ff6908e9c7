-- A walk that keeps sorts notes what is wrong at the visits of a term.
use Rattle.std.proofs.lemmas.List.{take_rest}
use Rattle.rec_offences.proofs.Common.{nat_tests, arith, ◌≡◌, ℕ, ◌+◌, ◌-◌, ◌<◌, List, [], ◌∷◌, ◌++◌, length, take, drop, get_or, Bool, true, Option, refl, ap, filter, flat_map, drop_more, length-map, take-map, drop-map, map-append, flat_map-append, filter-append, Name, Node, Refusal, Argument, Entry, Visit, visits, is_variable, heads, clashing, least_with, sort_of, arguments_of, heads_on, clashing_sorts, misplaced, at_side, at_node, visit_over, names_with, common_steps}
use Rattle.rec_offences.proofs.Leasts.{least_append}

module _ (bytes : List ℕ) (entries : List Entry) where
  same_clashes : (ws ns : List Name) → clashing_sorts bytes ws (arguments_of bytes entries ns) ≡ clashing bytes entries ws ns
  same_clashes [] ns = refl
  same_clashes (w ∷ ws) [] = refl
  same_clashes (w ∷ ws) (n ∷ ns) = grind (arith, nat_tests, same_clashes ws ns)

  pub noted_over : (is_value : Bool) (node : Node) (names : List Name) (items : List Argument) (below : ℕ) (found now : Option Refusal) →
      items ≡ arguments_of bytes entries names → below ≡ length items - node.count →
      now ≡ least_with found (at_node is_value bytes entries node (drop below items)) → now ≡ least_with found (at_side is_value bytes entries (visit_over names node))
  noted_over is_value node names items below found now is at noted = grind (arith, nat_tests, length-map, drop-map, same_clashes)

  pub stacked : (node : Node) (names : List Name) (items rest new : List Argument) (below : ℕ) (sort : Option Name) →
      items ≡ arguments_of bytes entries names → below ≡ length items - node.count → sort ≡ sort_of bytes entries node.head →
      rest ≡ take below items → new ≡ rest ++ record { head = node.head; sort = sort } ∷ [] → new ≡ arguments_of bytes entries (names_with names node)
  stacked node names items rest new below sort is at sorted cut last = grind (arith, nat_tests, length-map, take-map, map-append)

  pub heads_same : (names : List Name) → heads_on (arguments_of bytes entries names) ≡ names
  heads_same [] = refl
  heads_same (n ∷ ns) = ap (λ xs. n ∷ xs) (heads_same ns)

  -- the variables at the visits of terms are those among the heads
  value_variables : (stack : List Name) (nodes : List Node) →
      flat_map (λ v. misplaced true bytes entries v.node.head) (visits stack nodes) ≡ filter (is_variable bytes entries) (heads nodes)
  value_variables stack [] = refl
  value_variables stack (n ∷ ns) = grind (arith, nat_tests, value_variables (names_with stack n) ns)

  pub values_variables : (terms : List (List Node)) →
      flat_map (λ v. misplaced true bytes entries v.node.head) (flat_map (visits []) terms) ≡ filter (is_variable bytes entries) (flat_map heads terms)
  values_variables [] = refl
  values_variables (t ∷ ts) = grind (arith, nat_tests, values_variables ts, flat_map-append, value_variables, filter-append)

-- after one node more
pub node_turn : (f : Visit → List Refusal) (names new : List Name) (nodes : List Node) (i : ℕ) (other : Node) (found now start : Option Refusal) →
    i < length nodes → new ≡ names_with names (get_or nodes i other) → now ≡ least_with found (f (visit_over names (get_or nodes i other))) →
    least_with found (flat_map f (visits names (drop i nodes))) ≡ start → least_with now (flat_map f (visits new (drop (i + 1) nodes))) ≡ start
node_turn f names new nodes i other found now start l is seen was = grind (arith, nat_tests, least_append, drop_more)

-- a step of a walk
pub ruleset walking = (common_steps, take_rest, stacked, noted_over, heads_same, node_turn)
