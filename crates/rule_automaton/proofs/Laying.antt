-- Laying out a left side: its items in preorder as tests of places, pairs of places and variables.
use Rattle.std.proofs.Common.{◌≡◌, ℕ, zero, suc, ◌+◌, ◌-◌, ◌<◌, ◌≤◌, List, [], ◌∷◌, ◌++◌, length, take, drop, map, get_or, Some, None, Bool, true, false, refl, sym, ◌∙◌, ap, arith, inl, inr, subst}
use Rattle.std.specs.Prelude.{◌&&◌, if◌then◌else◌, All, reverse}
use Rattle.std.proofs.lemmas.Bool.{and_parts, and_from, cases_Bool, both_ways, cases_lt}
use Rattle.std.proofs.lemmas.Option.{none-some}
use Rattle.std.proofs.lemmas.List.{length_push, length-map, map_push, map-append, drop_more, drop_all, take_all, take-append-le, get_or_append_left, get_or_push, get_or-map, reverse-append, append_assoc}
use Rattle.std.proofs.lemmas.List.Elements.{All-push, All-append, All-nil, All-head, All-tail, All-cons, All-weaker, Contains-append_left, Contains-push}
use Rattle.std.proofs.lemmas.List.Folds.{list_all-append}
use Rattle.term_model.specs.Tree.{Tree, Leaf, arguments, tree_eq}
use Rattle.term_model.specs.declared.Item.{Item}
use Rattle.term_model.specs.declared.Item.TheVariants.{Var, App}
use Rattle.term_model.specs.declared.Symbol.{Symbol}
use Rattle.term_model.specs.declared.Head.TheVariants as head
use Rattle.rewrite_model.specs.Rule.{Rule, IsRule, IsNumbered}
use Rattle.rewrite_model.specs.Matching.{match_of, bind, instance}
use Rattle.rewrite_model.proofs.Matches.{instances_match}
use Rattle.rule_match.specs.Planned.{IsPlain}
use Rattle.rule_match.specs.Preorder.{preorder, left_at}
use Rattle.rule_match.specs.Stands.{stands}
use Rattle.rule_match.proofs.Bindings.{tested, bind_bound, bind_beyond, bind_next}
use Rattle.rule_match.proofs.Pending.{Pending, at_first, some_wait, at_variable, at_variable_none, at_other, at_symbol, at_no_item, at_last}
use Rattle.rule_match.proofs.Pushing.{stands_over}
use Rattle.std.specs.Prelude.{replicate}
use Rattle.std.proofs.lemmas.List.{length-replicate}
use Rattle.rule_automaton.specs.Places.{Tabled, IsTable, Keeps, HasKids}
use Rattle.rule_automaton.specs.Shapes.{numbers, holds, agrees, all_hold, all_agree, Follow, IsUnder, IsShape, HasShape, tests_at, pairs_at, variables_at}
use Rattle.rule_automaton.specs.declared.shapes.Test.{Test}
use Rattle.rule_automaton.specs.declared.shapes.Pair.{Pair}
use Rattle.rule_automaton.specs.declared.shapes.Shape.{Shape}

-- what is laid out, and the places of the patterns that the items from a place on spell
pub record Laid (table : Tabled) (w : ℕ) (left : Tree) (items : List Item) (i : ℕ) (stack : List ℕ) (tests : List Test) (pairs : List Pair) (variables : List ℕ) : Type 0 where
  pub pending : (at : ℕ → Tree) → Follow at tests → (all_hold at tests && all_agree at pairs) ≡ true → Pending w left (at 0) (drop i items) (map at stack) (map at variables)
  pub apart : (at : ℕ → Tree) → Follow at tests → (all_hold at tests && all_agree at pairs) ≡ false → match_of left (at 0) ≡ None
  pub bases : All (λ (t : Test). table.base_of t.place t.count ≡ Some t.base) tests
  pub order : (k : ℕ) (d : Test) → k < length tests → IsUnder (take k tests) (get_or tests k d).place
  pub stacked : All (IsUnder tests) stack
  pub variables_under : All (IsUnder tests) variables
  pub pairs_under : All (λ (p : Pair). IsUnder tests p.first × IsUnder tests p.second) pairs

pub first_laid : (table : Tabled) (w : ℕ) (left : Tree) (items : List Item) (stack : List ℕ) (tests : List Test) (pairs : List Pair) (variables : List ℕ) → IsPlain w left → items ≡ preorder left → stack ≡ 0 ∷ [] → tests ≡ [] → pairs ≡ [] → variables ≡ [] → Laid table w left items 0 stack tests pairs variables
first_laid table w left items stack tests pairs variables plain is one none none' none'' =
    rw (is, one, none, none', none'') (record {
      pending = λ at f m. at_first w left (at 0) plain;
      apart = λ at f m. absurd (both_ways true m refl);
      bases = λ k d l. absurd (omega arith);
      order = λ k d l. absurd (omega arith);
      stacked = All-cons (IsUnder []) 0 [] (inl refl) (All-nil (IsUnder []));
      variables_under = λ k d l. absurd (omega arith);
      pairs_under = λ k d l. absurd (omega arith);
    })

-- a tree that the left side matches, read by the places
pub record Matched (table : Tabled) (left : Tree) (tests : List Test) (pairs : List Pair) : Type 0 where
  pub at : ℕ → Tree
  pub follow : Follow at tests
  pub met : (all_hold at tests && all_agree at pairs) ≡ true
  pub bound : List Tree
  pub matches : match_of left (at 0) ≡ Some bound

module _ (table : Tabled) (is : IsTable table) (w : ℕ) (left : Tree) (items : List Item) (i : ℕ) (stack : List ℕ) (tests : List Test) (pairs : List Pair) (variables : List ℕ) (d : Laid table w left items i stack tests pairs variables) where
  pub matched : (vars : ℕ) → IsNumbered left vars → Matched table left tests pairs
  matched vars numbered =
      let bound = replicate vars (Leaf 0) in
      let r = is.read (instance left bound) in
      let m : match_of left (r.at 0) ≡ Some bound = ap (match_of left) r.root ∙ instances_match left vars bound numbered (length-replicate vars (Leaf 0)) in
      let f : Follow r.at tests = λ k e l. r.kids (get_or tests k e).place (get_or tests k e).count (get_or tests k e).base (d.bases k e l) in
      record {
        at = r.at;
        follow = f;
        met = elim (cases_Bool (all_hold r.at tests && all_agree r.at pairs)) [ inl e ↦ e | inr e ↦ absurd (none-some bound (sym (d.apart r.at f e) ∙ m)) ];
        bound = bound;
        matches = m;
      }

  -- a place waits for the next item
  pub place_waits : (vars : ℕ) → IsNumbered left vars → i < length items → 0 < length stack
  place_waits vars numbered l =
      let m = matched vars numbered in
      let more : drop i items ≡ get_or items i (Var 0) ∷ drop (i + 1) items = drop_more items i (Var 0) l in
      let p = d.pending m.at m.follow m.met in
      let wait = some_wait w left (m.at 0) (get_or items i (Var 0)) (drop (i + 1) items) (map m.at stack) (map m.at variables) (subst (λ is. Pending w left (m.at 0) is (map m.at stack) (map m.at variables)) more p) in
      omega (arith, wait, length-map stack m.at)

  pub no_other_item : (vars : ℕ) (item e : Item) → IsNumbered left vars → i < length items → get_or items i e ≡ item → ((x : ℕ) → item ≡ Var x → ⊥) → ((f : Symbol) (n : ℕ) → item ≡ App f n → ⊥) → ⊥
  no_other_item vars item e numbered l there n o =
      let m = matched vars numbered in
      let more : drop i items ≡ item ∷ drop (i + 1) items = drop_more items i e l ∙ ap (λ j. j ∷ drop (i + 1) items) there in
      at_no_item w left (m.at 0) item (drop (i + 1) items) (map m.at stack) (map m.at variables) (subst (λ is. Pending w left (m.at 0) is (map m.at stack) (map m.at variables)) more (d.pending m.at m.follow m.met)) n o

  -- all items are laid out
  pub shaped : length items ≤ i → IsShape table left tests pairs variables
  shaped l =
      record {
        means = λ at follow.
            elim (cases_Bool (all_hold at tests && all_agree at pairs)) [
              | inl m ↦ at_last w left (at 0) (map at stack) (map at variables) (subst (λ is. Pending w left (at 0) is (map at stack) (map at variables)) (drop_all i items l) (d.pending at follow m)) ∙ ap (λ (b : Bool). if b then Some (map at variables) else None) (sym m)
              | inr m ↦ d.apart at follow m ∙ ap (λ (b : Bool). if b then Some (map at variables) else None) (sym m)
            ];
        bases = d.bases;
        order = d.order;
        variables_under = d.variables_under;
        pairs_under = d.pairs_under;
      }

-- what is under some tests is under more
more_under : (tests : List Test) (t : Test) (place : ℕ) → IsUnder tests place → IsUnder (tests ++ t ∷ []) place
more_under tests t place (inl e) = inl e
more_under tests t place (inr u) = inr ((u.0, Contains-append_left tests (t ∷ []) u.0 u.1, u.2))

-- the arguments of a node at places in a row
kids_are : (at : ℕ → Tree) (n base : ℕ) (args : List Tree) → length args ≡ n → ((j : ℕ) → j < n → at (base + j) ≡ get_or args j (Leaf 0)) → map at (numbers base n) ≡ args
kids_are at zero base [] e k = refl
kids_are at zero base (t ∷ ts) e k = absurd (omega arith)
kids_are at (suc n) base [] e k = absurd (omega arith)
kids_are at (suc n) base (t ∷ ts) e k =
    let z : base + 0 ≡ base = omega arith in
    let h : at base ≡ t = ap at (sym z) ∙ k 0 (omega arith) in
    let r = kids_are at n (base + 1) ts (omega arith) (λ j l. ap at (let s : base + 1 + j ≡ base + suc j = omega arith in s) ∙ k (suc j) (omega arith)) in
    ap (λ (u : Tree). u ∷ map at (numbers (base + 1) n)) h ∙ ap (λ us. t ∷ us) r

map-reverse : (at : ℕ → Tree) (xs : List ℕ) → map at (reverse xs) ≡ reverse (map at xs)
map-reverse at [] = refl
map-reverse at (x ∷ xs) =
    ap (map at) (reverse-append (x ∷ []) xs) ∙ map-append at (reverse xs) (x ∷ []) ∙ ap (λ us. us ++ at x ∷ []) (map-reverse at xs) ∙ sym (reverse-append (at x ∷ []) (map at xs))

All-reverse : {X : Type 0} (P : X → Type 0) (xs : List X) → All P xs → All P (reverse xs)
All-reverse P [] all = all
All-reverse P (x ∷ xs) all =
    subst (All P) (sym (reverse-append (x ∷ []) xs)) (All-append P (reverse xs) (x ∷ []) (All-reverse P xs (All-tail P x xs all)) (All-cons P x [] (All-head P x xs all) (All-nil P)))

pub All-numbers : (P : ℕ → Type 0) (n base : ℕ) → ((x : ℕ) → base ≤ x → x < base + n → P x) → All P (numbers base n)
All-numbers P zero base h = All-nil P
All-numbers P (suc n) base h = All-cons P base (numbers (base + 1) n) (h base (omega arith) (omega arith)) (All-numbers P n (base + 1) (λ x l m. h x (omega arith) (omega arith)))

follow_front : (at : ℕ → Tree) (tests : List Test) (t : Test) → Follow at (tests ++ t ∷ []) → Follow at tests × HasKids at t.place t.count t.base
follow_front at tests t f = (
  λ k d l. subst (λ (u : Test). HasKids at u.place u.count u.base) (get_or_append_left tests (t ∷ []) d k l) (f k d (omega (arith, length_push tests t))),
  subst (λ (u : Test). HasKids at u.place u.count u.base) (get_or_push tests t t (length tests) refl) (f (length tests) t (omega (arith, length_push tests t))),
)

-- places in a row are put, the last one first
pub put_more : (stack now next : List ℕ) (base count left : ℕ) → 0 < left → left ≤ count → now ≡ stack ++ reverse (numbers (base + left) (count - left)) → next ≡ now ++ (base + (left - 1)) ∷ [] → next ≡ stack ++ reverse (numbers (base + (left - 1)) (count - (left - 1)))
put_more stack now next base count left some most e f =
    let b = base + (left - 1) in
    let more : count - (left - 1) ≡ suc (count - left) = omega arith in
    let one : b + 1 ≡ base + left = omega arith in
    let back = reverse (numbers (base + left) (count - left)) in
    let row : numbers b (count - (left - 1)) ≡ b ∷ numbers (base + left) (count - left) = ap (numbers b) more ∙ ap (λ k. b ∷ numbers k (count - left)) one in
    f ∙ ap (λ xs. xs ++ b ∷ []) e ∙ append_assoc stack back (b ∷ []) ∙ ap (λ xs. stack ++ xs) (sym (ap reverse row ∙ reverse-append (b ∷ []) (numbers (base + left) (count - left))))

-- the one that fails of three tests
differ : (c a b more : Bool) → more ≡ (b && (c && true)) → a ≡ true → b ≡ true → (a && more) ≡ false → c ≡ false
differ true a b more e f g m = absurd (both_ways (a && more) m (and_from a more f (e ∙ and_from b true g refl)))
differ false a b more e f g m = refl

fail : (c a b more : Bool) → more ≡ (a && (c && true)) → a ≡ true → b ≡ true → (more && b) ≡ false → c ≡ false
fail true a b more e f g m = absurd (both_ways (more && b) m (and_from more b (e ∙ and_from a true f refl) g))
fail false a b more e f g m = refl

-- the patterns that wait, the last place first
module _ (table : Tabled) (is : IsTable table) (w : ℕ) (left : Tree) (items : List Item) (i : ℕ) (stack rest : List ℕ) (place : ℕ) (tests : List Test) (pairs : List Pair) (variables : List ℕ) (l : i < length items) (top : stack ≡ rest ++ place ∷ []) (d : Laid table w left items i stack tests pairs variables) where
  next : (at : ℕ → Tree) (item e : Item) → get_or items i e ≡ item → Follow at tests → (all_hold at tests && all_agree at pairs) ≡ true → Pending w left (at 0) (item ∷ drop (i + 1) items) (map at rest ++ at place ∷ []) (map at variables)
  next at item e there f m =
      subst (λ is. Pending w left (at 0) is (map at rest ++ at place ∷ []) (map at variables)) (drop_more items i e l ∙ ap (λ j. j ∷ drop (i + 1) items) there)
      (subst (λ ts. Pending w left (at 0) (drop i items) ts (map at variables)) (ap (map at) top ∙ map_push at rest place) (d.pending at f m))

  under_rest : All (IsUnder tests) rest
  under_rest = λ k e l. subst (IsUnder tests) (get_or_append_left rest (place ∷ []) e k l) (subst (All (IsUnder tests)) top d.stacked k e (omega (arith, length_push rest place)))

  under_place : IsUnder tests place
  under_place = subst (IsUnder tests) (get_or_push rest place place (length rest) refl) (subst (All (IsUnder tests)) top d.stacked (length rest) place (omega (arith, length_push rest place)))

  -- the place on top is one of the table's
  pub place_within : place < table.places
  place_within =
      elim under_place [
        | inl e ↦ omega (arith, e, is.some)
        | inr u ↦ (let b = subst (λ (t : Test). table.base_of t.place t.count ≡ Some t.base) u.1.2 (d.bases u.1.0 u.0 u.1.1) in omega (arith, (is.within u.0.place u.0.count u.0.base b).1, u.2.below))
      ]

  -- a variable that is bound already: its first place and this one are to agree
  module _ (x first : ℕ) (e : Item) (there : get_or items i e ≡ Var x) (known : x < length variables) (is_first : get_or variables x 0 ≡ first) where
    abbrev pub one : Pair
    one = record { first = first; second = place }

    bound : (at : ℕ → Tree) → bind x (at place) (map at variables) ≡ tested (tree_eq (at first) (at place)) (map at variables)
    bound at =
        bind_bound x (at place) (at 0) (map at variables) (omega (arith, length-map variables at))
        ∙ ap (λ u. tested (tree_eq u (at place)) (map at variables)) (get_or-map at variables x 0 (at 0) known ∙ ap at is_first)

    pending_again : (at : ℕ → Tree) → Follow at tests → (all_hold at tests && all_agree at (pairs ++ one ∷ [])) ≡ true → Pending w left (at 0) (drop (i + 1) items) (map at rest) (map at variables)
    pending_again at f m =
        let a = and_parts (all_hold at tests) (all_agree at (pairs ++ one ∷ [])) m in
        let b = and_parts (all_agree at pairs) (all_agree at (one ∷ [])) (sym (list_all-append (λ (p : Pair). agrees at p) pairs (one ∷ [])) ∙ a.1) in
        let c = (and_parts (agrees at one) true b.1).0 in
        at_variable w left (at 0) x (drop (i + 1) items) (map at rest) (map at variables) (at place) (bind x (at place) (map at variables)) refl (next at (Var x) e there f (and_from (all_hold at tests) (all_agree at pairs) a.0 b.0)) (map at variables) (bound at ∙ ap (λ t. tested t (map at variables)) c)

    apart_again : (at : ℕ → Tree) → Follow at tests → (all_hold at tests && all_agree at (pairs ++ one ∷ [])) ≡ false → match_of left (at 0) ≡ None
    apart_again at f m =
        elim (cases_Bool (all_hold at tests && all_agree at pairs)) [
          | inr n ↦ d.apart at f n
          | inl n ↦ (let a = and_parts (all_hold at tests) (all_agree at pairs) n in
              let c : agrees at one ≡ false = differ (agrees at one) (all_hold at tests) (all_agree at pairs) (all_agree at (pairs ++ one ∷ [])) (list_all-append (λ (p : Pair). agrees at p) pairs (one ∷ [])) a.0 a.1 m in
              at_variable_none w left (at 0) x (drop (i + 1) items) (map at rest) (map at variables) (at place) (bound at ∙ ap (λ t. tested t (map at variables)) c) (next at (Var x) e there f n))
        ]

    pub again : IsUnder tests first → Laid table w left items (i + 1) rest tests (pairs ++ one ∷ []) variables
    again under =
        record {
          pending = pending_again;
          apart = apart_again;
          bases = d.bases;
          order = d.order;
          stacked = under_rest;
          variables_under = d.variables_under;
          pairs_under = All-push (λ (p : Pair). IsUnder tests p.first × IsUnder tests p.second) pairs one d.pairs_under (under, under_place);
        }

  -- a new variable has the next number
  module _ (x : ℕ) (e : Item) (there : get_or items i e ≡ Var x) (fresh : length variables ≤ x) where
    pub its_number : (vars : ℕ) → IsNumbered left vars → x ≡ length variables
    its_number vars numbered =
        elim (cases_lt (length variables) x) [
          | inr s ↦ omega arith
          | inl s ↦ (let m = matched table is w left items i stack tests pairs variables d vars numbered in
              let none = bind_beyond x (m.at place) (map m.at variables) (omega (arith, length-map variables m.at)) in
              absurd (none-some m.bound (sym (at_variable_none w left (m.at 0) x (drop (i + 1) items) (map m.at rest) (map m.at variables) (m.at place) none (next m.at (Var x) e there m.follow m.met)) ∙ m.matches)))
        ]

    pub newly : (vars : ℕ) → IsNumbered left vars → Laid table w left items (i + 1) rest tests pairs (variables ++ place ∷ [])
    newly vars numbered =
        record {
          pending = λ at f m.
              at_variable w left (at 0) x (drop (i + 1) items) (map at rest) (map at variables) (at place) (bind x (at place) (map at variables)) refl (next at (Var x) e there f m) (map at (variables ++ place ∷ []))
              (bind_next x (at place) (map at variables) (its_number vars numbered ∙ sym (length-map variables at)) ∙ ap Some (sym (map_push at variables place)));
          apart = d.apart;
          bases = d.bases;
          order = d.order;
          stacked = under_rest;
          variables_under = All-push (IsUnder tests) variables place d.variables_under under_place;
          pairs_under = d.pairs_under;
        }

  -- a symbol is to stand there
  module _ (new : Tabled) (keeps : Keeps table new) (f : Symbol) (n base : ℕ) (e : Item) (there : get_or items i e ≡ App f n) (found : new.base_of place n ≡ Some base) where
    abbrev pub test : Test
    test = record { place = place; symbol = f; count = n; base = base }

    waiting : (at : ℕ → Tree) → HasKids at place n base → stands (head.App f) n (at place) ≡ true → map at (rest ++ reverse (numbers base n)) ≡ map at rest ++ reverse (arguments (at place))
    waiting at kids s =
        map-append at rest (reverse (numbers base n))
        ∙ ap (λ us. map at rest ++ us) (map-reverse at (numbers base n) ∙ ap reverse (kids_are at n base (arguments (at place)) (sym (stands_over (head.App f) n (at place) s)) kids.kid))

    holds_more : (at : ℕ → Tree) → all_hold at (tests ++ test ∷ []) ≡ (all_hold at tests && (holds at test && true))
    holds_more at = list_all-append (λ (t : Test). holds at t) tests (test ∷ [])

    pending_under : (at : ℕ → Tree) → Follow at (tests ++ test ∷ []) → (all_hold at (tests ++ test ∷ []) && all_agree at pairs) ≡ true → Pending w left (at 0) (drop (i + 1) items) (map at (rest ++ reverse (numbers base n))) (map at variables)
    pending_under at follow m =
        let a = and_parts (all_hold at (tests ++ test ∷ [])) (all_agree at pairs) m in
        let b = and_parts (all_hold at tests) (holds at test && true) (sym (holds_more at) ∙ a.0) in
        let c = (and_parts (holds at test) true b.1).0 in
        let g = follow_front at tests test follow in
        subst (λ ts. Pending w left (at 0) (drop (i + 1) items) ts (map at variables)) (sym (waiting at g.1 c))
        (at_symbol w left (at 0) f n (drop (i + 1) items) (map at rest) (map at variables) (at place) c (next at (App f n) e there g.0 (and_from (all_hold at tests) (all_agree at pairs) b.0 a.1)))

    apart_under : (at : ℕ → Tree) → Follow at (tests ++ test ∷ []) → (all_hold at (tests ++ test ∷ []) && all_agree at pairs) ≡ false → match_of left (at 0) ≡ None
    apart_under at follow m =
        let g = follow_front at tests test follow in
        elim (cases_Bool (all_hold at tests && all_agree at pairs)) [
          | inr k ↦ d.apart at g.0 k
          | inl k ↦ (let a = and_parts (all_hold at tests) (all_agree at pairs) k in
              let c : holds at test ≡ false = fail (holds at test) (all_hold at tests) (all_agree at pairs) (all_hold at (tests ++ test ∷ [])) (holds_more at) a.0 a.1 m in
              at_other w left (at 0) f n (drop (i + 1) items) (map at rest) (map at variables) (at place) c (next at (App f n) e there g.0 k))
        ]

    ordered : (k : ℕ) (t : Test) → k < length (tests ++ test ∷ []) → IsUnder (take k (tests ++ test ∷ [])) (get_or (tests ++ test ∷ []) k t).place
    ordered k t s =
        elim (cases_lt k (length tests)) [
          | inl m ↦ subst (λ (u : Test). IsUnder (take k (tests ++ test ∷ [])) u.place) (sym (get_or_append_left tests (test ∷ []) t k m))
              (subst (λ us. IsUnder us (get_or tests k t).place) (sym (take-append-le k tests (test ∷ []) (omega arith))) (d.order k t m))
          | inr m ↦ (let z : length tests ≡ k = omega (arith, length_push tests test, s, m) in
              subst (λ (u : Test). IsUnder (take k (tests ++ test ∷ [])) u.place) (sym (get_or_push tests test t k z))
              (subst (λ us. IsUnder us place) (sym (take-append-le k tests (test ∷ []) (omega (arith, z)) ∙ take_all k tests (omega (arith, z)))) under_place))
        ]

    pub under : Laid new w left items (i + 1) (rest ++ reverse (numbers base n)) (tests ++ test ∷ []) pairs variables
    under =
        let more : (x : ℕ) → IsUnder tests x → IsUnder (tests ++ test ∷ []) x = more_under tests test in
        record {
          pending = pending_under;
          apart = apart_under;
          bases = All-push (λ (t : Test). new.base_of t.place t.count ≡ Some t.base) tests test (All-weaker (λ (t : Test). table.base_of t.place t.count ≡ Some t.base) (λ (t : Test). new.base_of t.place t.count ≡ Some t.base) (λ t b. keeps.bases t.place t.count t.base b) tests d.bases) found;
          order = ordered;
          stacked = All-append (IsUnder (tests ++ test ∷ [])) rest (reverse (numbers base n)) (All-weaker (IsUnder tests) (IsUnder (tests ++ test ∷ [])) more rest under_rest)
              (All-reverse (IsUnder (tests ++ test ∷ [])) (numbers base n) (All-numbers (IsUnder (tests ++ test ∷ [])) n base (λ x l m. inr ((test, Contains-push tests test, record { from = l; below = m })))));
          variables_under = All-weaker (IsUnder tests) (IsUnder (tests ++ test ∷ [])) more variables d.variables_under;
          pairs_under = All-weaker (λ (p : Pair). IsUnder tests p.first × IsUnder tests p.second) (λ (p : Pair). IsUnder (tests ++ test ∷ []) p.first × IsUnder (tests ++ test ∷ []) p.second) (λ p u. (more p.first u.0, more p.second u.1)) pairs d.pairs_under;
        }

-- the variables of a rule's left side are numbered
pub numbered_at : (rules : List Rule) (k : ℕ) → k < length rules → All IsRule rules → (vars : ℕ) × IsNumbered (left_at rules k) vars
numbered_at [] k l all = absurd (omega arith)
numbered_at (r ∷ rs) zero l all = (r.vars, (All-head IsRule r rs all).numbered)
numbered_at (r ∷ rs) (suc k) l all = numbered_at rs k (omega arith) (All-tail IsRule r rs all)

pub keeps_itself : (t : Tabled) → Keeps t t
keeps_itself t = record { bases = λ p n b e. e; places = omega arith }

pub keeps_on : (s t u : Tabled) → Keeps s t → Keeps t u → Keeps s u
keeps_on s t u k l = record { bases = λ p n b e. l.bases p n b (k.bases p n b e); places = omega (arith, k.places, l.places) }

-- a shape stays one as places are added
pub shape_kept : (s t : Tabled) (left : Tree) (tests : List Test) (pairs : List Pair) (variables : List ℕ) → Keeps s t → IsShape s left tests pairs variables → IsShape t left tests pairs variables
shape_kept s t left tests pairs variables k h =
    record {
      means = h.means;
      bases = λ i d l. k.bases (get_or tests i d).place (get_or tests i d).count (get_or tests i d).base (h.bases i d l);
      order = h.order;
      variables_under = h.variables_under;
      pairs_under = h.pairs_under;
    }

-- one number more in a row
pub numbers_more : (n k : ℕ) → numbers n (k + 1) ≡ numbers n k ++ (n + k) ∷ []
numbers_more n zero = ap (λ i. i ∷ []) (let e : n ≡ n + 0 = omega arith in e)
numbers_more n (suc k) =
    let two : suc k + 1 ≡ suc (suc k) = omega arith in
    let one : k + 1 ≡ suc k = omega arith in
    let r = numbers_more (n + 1) k in
    let z : n + 1 + k ≡ n + suc k = omega arith in
    ap (numbers n) two ∙ ap (λ i. n ∷ numbers (n + 1) i) (sym one) ∙ ap (λ xs. n ∷ xs) r ∙ ap (λ i. n ∷ (numbers (n + 1) k ++ i ∷ [])) z

-- what a rule before the last has, and the last
record Shaped (ss : List Shape) (r : ℕ) (tests : List Test) (pairs : List Pair) (variables : List ℕ) : Type 0 where
  its_tests : tests_at ss r ≡ tests
  its_pairs : pairs_at ss r ≡ pairs
  its_variables : variables_at ss r ≡ variables

shaped_front : (ss : List Shape) (x : Shape) (r : ℕ) → r < length ss → Shaped (ss ++ x ∷ []) r (tests_at ss r) (pairs_at ss r) (variables_at ss r)
shaped_front [] x r l = absurd (omega arith)
shaped_front (s ∷ ss) x zero l = record { its_tests = refl; its_pairs = refl; its_variables = refl }
shaped_front (s ∷ ss) x (suc r) l = let k = shaped_front ss x r (omega arith) in record { its_tests = k.its_tests; its_pairs = k.its_pairs; its_variables = k.its_variables }

shaped_last : (ss : List Shape) (x : Shape) → Shaped (ss ++ x ∷ []) (length ss) x.tests.items x.pairs.items x.variables.items
shaped_last [] x = record { its_tests = refl; its_pairs = refl; its_variables = refl }
shaped_last (s ∷ ss) x = let k = shaped_last ss x in record { its_tests = k.its_tests; its_pairs = k.its_pairs; its_variables = k.its_variables }

pub one_more_shape : (old new : Tabled) (rules : List Rule) (ss : List Shape) (x : Shape) (n : ℕ) → n ≡ length ss → Keeps old new → ((r : ℕ) → r < length ss → IsShape old (left_at rules r) (tests_at ss r) (pairs_at ss r) (variables_at ss r)) → HasShape new (left_at rules n) x → (r : ℕ) → r < length (ss ++ x ∷ []) → IsShape new (left_at rules r) (tests_at (ss ++ x ∷ []) r) (pairs_at (ss ++ x ∷ []) r) (variables_at (ss ++ x ∷ []) r)
one_more_shape old new rules ss x n e keeps before here r l =
    elim (cases_lt r (length ss)) [
      | inl s ↦ (let k = shaped_front ss x r s in
          rw (k.its_tests, k.its_pairs, k.its_variables) (shape_kept old new (left_at rules r) (tests_at ss r) (pairs_at ss r) (variables_at ss r) keeps (before r s)))
      | inr s ↦ (let z : length ss ≡ r = omega (arith, l, length_push ss x) in
          let k = shaped_last ss x in
          let last : IsShape new (left_at rules (length ss)) (tests_at (ss ++ x ∷ []) (length ss)) (pairs_at (ss ++ x ∷ []) (length ss)) (variables_at (ss ++ x ∷ []) (length ss)) = rw (k.its_tests, k.its_pairs, k.its_variables) (subst (λ i. HasShape new (left_at rules i) x) e here) in
          subst (λ i. IsShape new (left_at rules i) (tests_at (ss ++ x ∷ []) i) (pairs_at (ss ++ x ∷ []) i) (variables_at (ss ++ x ∷ []) i)) z last)
    ]
