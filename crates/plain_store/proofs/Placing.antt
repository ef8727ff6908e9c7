-- A tree that is built: its row is new or had it, and it takes its arguments' places.
use Rattle.std.proofs.Common.{◌≡◌, ◌≢◌, ℕ, zero, suc, ◌+◌, ◌-◌, ◌<◌, ◌≤◌, ◌⊎◌, ◌&&◌, inl, inr, Bool, true, List, [], ◌∷◌, Option, Some, None, length, take, drop, map, get_or, refl, ap, sym, ◌∙◌, subst, arith}
use Rattle.std.proofs.Math.ListN.{set}
use Rattle.std.specs.Prelude.{Contains, All, IsSome}
use Rattle.std.proofs.lemmas.Bool.Decides.{eqb_tells}
use Rattle.std.proofs.lemmas.List.{length-set, length-map, length-take, length-append, drop-map, get_or-set_same, get_or-set_other, set-get_or, get_or-map, get_or-take, take-append-drop}
use Rattle.std.proofs.lemmas.List.Elements.{All-append, All-get_or, Contains-append_right}
use Rattle.term_model.specs.declared.Row.{Row}
use Rattle.term_model.specs.declared.Head.{Head}
use Rattle.term_model.specs.Tree.{Tree, Node, Trees, End, More, trees_of, list_of, arguments, may_stand_over, is_well_formed, all_well_formed, is_ground, all_ground}
use Rattle.term_model.specs.Postorder.{tree_or_leaf}
use Rattle.term_model.proofs.Order.{both}
use Rattle.terms_api.specs.Terms.{Store, HasTree, IsHeld, tree_at, trees, last, but_last, asked, IsSound, MayBuild, NeedsPlace, Built}
use Rattle.terms_api.proofs.Callers.{has-held, held-has, same_row}
use Rattle.plain_store.specs.Slots.{Slots, Slot, slot_at, with_slot}
use Rattle.plain_store.specs.Agreement.{Agree}
use Rattle.plain_store.specs.Contents.{Contents, store_of, trees_on, tree_in, placed}
use Rattle.plain_store.proofs.Rows.{row_same, node_same, head_of_node, rows_of_node}

abbrev pub node_of : Head → List Row → Slot
node_of h rows = Some (h, rows)

-- the row has the asked tree, or is free while no row has it
pub record IsPlace (c : Contents) (h : Head) (n : ℕ) (r : Row) : Type 0 where
  pub below : r.0 < length c.trees
  pub only : (u : Tree) → HasTree (store_of c) r u → u ≡ asked (store_of c) h n
  pub alone : (q : Row) → HasTree (store_of c) q (asked (store_of c) h n) → q ≡ r

some_same : {A : Type 0} (x y : A) → Some x ≡ Some y → x ≡ y
some_same x y e = cc

pub place_found : (c : Contents) (h : Head) (n : ℕ) (r : Row) → IsSound (store_of c) → HasTree (store_of c) r (asked (store_of c) h n) → IsPlace c h n r
place_found c h n r sound has =
    record {
      below = sound.below r (asked (store_of c) h n) has;
      only = λ u k. some_same u (asked (store_of c) h n) (sym k ∙ has);
      alone = λ q k. sound.one_row q r (asked (store_of c) h n) k has;
    }

pub place_free : (c : Contents) (h : Head) (n : ℕ) (r : Row) → r.0 < length c.trees → get_or c.trees r.0 None ≡ None → ((q : Row) → HasTree (store_of c) q (asked (store_of c) h n) → ⊥) → IsPlace c h n r
place_free c h n r below free absent =
    record { below = below; only = λ u k. absurd (cc); alone = λ q k. absurd (absent q k) }

-- which rows have which trees afterwards
pub has_cases : (c : Contents) (h : Head) (n : ℕ) (r : Row) → IsPlace c h n r → (q : Row) (u : Tree) → HasTree (store_of (placed c h n r)) q u → ((q ≡ r) × (u ≡ asked (store_of c) h n)) ⊎ HasTree (store_of c) q u
has_cases c h n r p q u k =
    let t = asked (store_of c) h n in
    elim (eqb_tells q.0 r.0) [
      | inl e ↦ inl (
        row_same q r e.1,
        some_same u t (sym k ∙ ap (λ i. get_or (set c.trees r.0 (Some t)) i None) e.1 ∙ get_or-set_same c.trees r.0 (Some t) None p.below),
      )
      | inr ne ↦ inr (sym (get_or-set_other c.trees r.0 q.0 (Some t) None ne.1) ∙ k)
    ]

pub has_it : (c : Contents) (h : Head) (n : ℕ) (r : Row) → IsPlace c h n r → HasTree (store_of (placed c h n r)) r (asked (store_of c) h n)
has_it c h n r p = get_or-set_same c.trees r.0 (Some (asked (store_of c) h n)) None p.below

pub has_kept : (c : Contents) (h : Head) (n : ℕ) (r : Row) → IsPlace c h n r → (q : Row) (u : Tree) → HasTree (store_of c) q u → HasTree (store_of (placed c h n r)) q u
has_kept c h n r p q u k =
    let t = asked (store_of c) h n in
    elim (eqb_tells q.0 r.0) [
      | inl e ↦ (
          let same : q ≡ r = row_same q r e.1 in
          let is : u ≡ t = p.only u (subst (λ (x : Row). HasTree (store_of c) x u) same k) in
          subst (λ (x : Row). HasTree (store_of (placed c h n r)) x u) (sym same) (subst (HasTree (store_of (placed c h n r)) r) (sym is) (has_it c h n r p)))
      | inr ne ↦ get_or-set_other c.trees r.0 q.0 (Some t) None ne.1 ∙ k
    ]

held_kept : (c : Contents) (h : Head) (n : ℕ) (r : Row) → IsPlace c h n r → (q : Row) → IsHeld (store_of c) q → IsHeld (store_of (placed c h n r)) q
held_kept c h n r p q k = held-has (store_of (placed c h n r)) q (tree_at (store_of c) q) (has_kept c h n r p q (tree_at (store_of c) q) (has-held (store_of c) q k))

pub list_trees : (ts : List Tree) → list_of (trees_of ts) ≡ ts
list_trees [] = refl
list_trees (t ∷ ts) = ap (λ us. t ∷ us) (list_trees ts)

contains_drop : {A : Type 0} (k : ℕ) (xs : List A) (x : A) → Contains (drop k xs) x → Contains xs x
contains_drop k xs x h = subst (λ ys. Contains ys x) (take-append-drop k xs) (Contains-append_right (take k xs) (drop k xs) x h)

-- a tree of the stack has a row
pub row_of_stack : (s : Store) (u : Tree) → IsSound s → Contains (trees s) u → (q : Row) × HasTree s q u
row_of_stack s u sound (k, lt, e) =
    let d : Row = record { 0 = 0 } in
    let r = get_or s.stack k d in
    let below : k < length s.stack = omega (arith, length-map s.stack (tree_at s)) in
    let held = All-get_or (IsHeld s) s.stack k d below sound.stack in
    let is : tree_at s r ≡ u = sym (get_or-map (tree_at s) s.stack k d u below) ∙ e in
    (r, subst (HasTree s r) is (has-held s r held))

all_good : (P : Tree → Bool) (Q : Trees → Bool) → Q End ≡ true → ((t : Tree) (ts : Trees) → Q (More t ts) ≡ (P t && Q ts)) → (ts : List Tree) → ((u : Tree) → Contains ts u → P u ≡ true) → Q (trees_of ts) ≡ true
all_good P Q e step [] all = e
all_good P Q e step (t ∷ ts) all =
    step t (trees_of ts) ∙ both (P t) (Q (trees_of ts)) (all t (0, omega arith, refl)) (all_good P Q e step ts (λ u c. all u (suc c.0, omega arith, c.2)))

all_but_last : (c : Contents) (n : ℕ) (P : Row → Type 0) → All P c.stack → All P (but_last n c.stack)
all_but_last c n P all = λ k d lt.
    let short : length (but_last n c.stack) ≤ length c.stack = omega (arith, length-take (length c.stack - n) c.stack) in
    subst P (sym (get_or-take (length c.stack - n) c.stack k d (omega (arith, length-take (length c.stack - n) c.stack)))) (all k d (omega (arith, short)))

depth_fits : (len n room : ℕ) → n ≤ len → len ≤ room → ((n ≡ 0) × (len ≡ room) → ⊥) → (len - n) + 1 ≤ room
depth_fits len zero room h k never =
    elim (eqb_tells len room) [ inl e ↦ absurd (never (refl, e.1)) | inr ne ↦ (let d : len ≢ room = ne.1 in omega arith) ]
depth_fits len (suc n) room h k never = omega arith

one_held : (P : Row → Type 0) (r : Row) (k : ℕ) (d : Row) → k < length (r ∷ []) → P r → P (get_or (r ∷ []) k d)
one_held P r zero d lt h = h
one_held P r (suc k) d lt h = absurd (omega arith)

pub sound_placed : (c : Contents) (h : Head) (n : ℕ) (r : Row) → IsSound (store_of c) → MayBuild (store_of c) h n → (NeedsPlace (store_of c) n → ⊥) → IsPlace c h n r → IsSound (store_of (placed c h n r))
sound_placed c h n r sound may place p =
    let s = store_of c in
    let s' = store_of (placed c h n r) in
    let t = asked s h n in
    let lasts = last n (trees s) in
    let rowed : (u : Tree) → Contains lasts u → (q : Row) × HasTree s q u = λ u k. row_of_stack s u sound (contains_drop (length (trees s) - n) (trees s) u k) in
    let size = length-set {A = Option Tree} c.trees r.0 (Some t) in
    record {
      stack = All-append (IsHeld s') (but_last n c.stack) (r ∷ []) (all_but_last c n (IsHeld s') (λ k d lt. held_kept c h n r p (get_or c.stack k d) (sound.stack k d lt))) (λ k d lt. one_held (IsHeld s') r k d lt (held-has s' r t (has_it c h n r p)));
      depth = omega (arith, depth_fits (length c.stack) n c.room may.depth sound.depth place, length-append (but_last n c.stack) (r ∷ []), length-take (length c.stack - n) c.stack);
      room = sound.room;
      below = λ q u k. elim (has_cases c h n r p q u k) [
        | inl e ↦ (let f = ap (λ (x : Row). x.0) e.0 in omega (arith, f, size, p.below))
        | inr k' ↦ (let b = sound.below q u k' in omega (arith, b, size))
      ];
      one_row = λ q x u k l. elim (has_cases c h n r p q u k) [
        | inl e ↦ elim (has_cases c h n r p x u l) [
          | inl f ↦ e.0 ∙ sym f.0
          | inr l' ↦ e.0 ∙ sym (p.alone x (subst (HasTree s x) e.1 l'))
        ]
        | inr k' ↦ elim (has_cases c h n r p x u l) [
          | inl f ↦ p.alone q (subst (HasTree s q) f.1 k') ∙ sym f.0
          | inr l' ↦ sound.one_row q x u k' l'
        ]
      ];
      arguments = λ q v u k a. elim (has_cases c h n r p q v k) [
        | inl e ↦ (
            let there : Contains lasts u = subst (λ xs. Contains xs u) (ap arguments e.1 ∙ list_trees lasts) a in
            let x = rowed u there in
            (x.0, has_kept c h n r p x.0 u x.1))
        | inr k' ↦ (let x = sound.arguments q v u k' a in (x.0, has_kept c h n r p x.0 u x.1))
      ];
      well_formed = λ q v k. elim (has_cases c h n r p q v k) [
        | inl e ↦ (
            let all = all_good is_well_formed all_well_formed refl (λ x xs. refl) lasts (λ u a. let x = rowed u a in sound.well_formed x.0 u x.1) in
            ap is_well_formed e.1 ∙ both (may_stand_over h (trees_of lasts)) (all_well_formed (trees_of lasts)) may.head all)
        | inr k' ↦ sound.well_formed q v k'
      ];
      ground = λ q v k. elim (has_cases c h n r p q v k) [
        | inl e ↦ ap is_ground e.1 ∙ all_good is_ground all_ground refl (λ x xs. refl) lasts (λ u a. let x = rowed u a in sound.ground x.0 u x.1)
        | inr k' ↦ sound.ground q v k'
      ];
    }

pub built_placed : (c : Contents) (h : Head) (n : ℕ) (r : Row) → IsPlace c h n r → Built (store_of c) (store_of (placed c h n r)) h n
built_placed c h n r p =
    let s = store_of c in
    let s' = store_of (placed c h n r) in
    let keeps : (q : Row) (u : Tree) → HasTree s q u → HasTree s' q u = λ q u k. has_kept c h n r p q u k in
    record {
      row = r;
      stack = refl;
      tree = has_it c h n r p;
      built = refl;
      only = λ q u k. elim (has_cases c h n r p q u k) [ inl e ↦ inr e.1 | inr k' ↦ inl k' ];
      rows = record { reachable = λ q u k reached. keeps q u k; epoch = inl (refl, keeps) };
      counts = record {
        inside = refl;
        least_sweeps = omega arith;
        most_sweeps = omega arith;
        load = record { least = omega arith; most = omega arith };
        rows = length-set c.trees r.0 (Some (asked s h n));
        widest = refl;
        room = refl;
      };
    }

-- where the row had the tree, no row changes
pub trees_found : (c : Contents) (h : Head) (n : ℕ) (r : Row) → HasTree (store_of c) r (asked (store_of c) h n) → set c.trees r.0 (Some (asked (store_of c) h n)) ≡ c.trees
trees_found c h n r has = ap (λ (o : Option Tree). set c.trees r.0 o) (sym has) ∙ set-get_or c.trees r.0 None

-- the trees of the last places are those of their rows
pub last_trees : (c : Contents) (n : ℕ) → last n (trees (store_of c)) ≡ trees_on c.trees (last n c.stack)
last_trees c n =
    let f = tree_in c.trees in
    ap (λ k. drop (k - n) (map f c.stack)) (length-map c.stack f) ∙ drop-map f (length c.stack - n) c.stack

pub asked_is : (c : Contents) (h : Head) (n : ℕ) → asked (store_of c) h n ≡ Node h (trees_of (trees_on c.trees (last n c.stack)))
asked_is c h n = ap (λ ts. Node h (trees_of ts)) (last_trees c n)

-- a row with the asked head over the asked rows has the asked tree
pub found_tree : (slots : Slots) (c : Contents) (h : Head) (n : ℕ) (r : Row) → Agree slots c.trees → slot_at slots r ≡ node_of h (last n c.stack) → HasTree (store_of c) r (asked (store_of c) h n)
found_tree slots c h n r agree e = agree.node r h (last n c.stack) e ∙ ap Some (sym (asked_is c h n))

trees_inj : (ts us : List Tree) → trees_of ts ≡ trees_of us → ts ≡ us
trees_inj ts us e = sym (list_trees ts) ∙ ap list_of e ∙ list_trees us

head_inj : (h g : Head) (ts us : Trees) → Some (Node h ts) ≡ Some (Node g us) → h ≡ g
head_inj h g ts us e = cc

args_inj : (h g : Head) (ts us : Trees) → Some (Node h ts) ≡ Some (Node g us) → ts ≡ us
args_inj h g ts us e = cc

-- rows of the same trees are the same rows
rows_equal : (s : Store) → IsSound s → (qs rs : List Row) → ((q : Row) → Contains qs q → IsHeld s q) → ((r : Row) → Contains rs r → IsHeld s r) → map (tree_at s) qs ≡ map (tree_at s) rs → qs ≡ rs
rows_equal s sound [] [] hq hr e = refl
rows_equal s sound [] (r ∷ rs) hq hr e = absurd (cc)
rows_equal s sound (q ∷ qs) [] hq hr e = absurd (cc)
rows_equal s sound (q ∷ qs) (r ∷ rs) hq hr e =
    let first : tree_at s q ≡ tree_at s r = cc in
    let rest : map (tree_at s) qs ≡ map (tree_at s) rs = cc in
    ap (λ x. x ∷ qs) (same_row s q r sound (hq q (0, omega arith, refl)) (hr r (0, omega arith, refl)) first)
    ∙ ap (λ xs. r ∷ xs) (rows_equal s sound qs rs (λ x k. hq x (suc k.0, omega arith, k.2)) (λ x k. hr x (suc k.0, omega arith, k.2)) rest)

pub stack_held : (s : Store) → IsSound s → (r : Row) → Contains s.stack r → IsHeld s r
stack_held s sound r k = subst (IsHeld s) k.2 (sound.stack k.0 r k.1)

slot_cases : (slots : Slots) (c : Contents) (h : Head) (n : ℕ) → Agree slots c.trees → IsSound (store_of c)
    → (r : Row) → (slot_at slots r ≡ node_of h (last n c.stack) → ⊥) → HasTree (store_of c) r (asked (store_of c) h n) → (slot : Slot) → slot_at slots r ≡ slot → ⊥
slot_cases slots c h n agree sound r other has None e = absurd (let f = agree.free r e in let x : None ≡ Some (asked (store_of c) h n) = sym f ∙ has in cc)
slot_cases slots c h n agree sound r other has (Some node) e =
    let s = store_of c in
    let both = sym (agree.node r node.0 node.1 e) ∙ has ∙ ap Some (asked_is c h n) in
    let heads = head_inj node.0 h (trees_of (trees_on c.trees node.1)) (trees_of (trees_on c.trees (last n c.stack))) both in
    let args = trees_inj (trees_on c.trees node.1) (trees_on c.trees (last n c.stack)) (args_inj node.0 h (trees_of (trees_on c.trees node.1)) (trees_of (trees_on c.trees (last n c.stack))) both) in
    let rows = rows_equal s sound node.1 (last n c.stack) (λ q k. agree.held r node.0 node.1 e q k) (λ q k. stack_held s sound q (contains_drop (length c.stack - n) c.stack q k)) args in
    other (e ∙ node_same node.0 h node.1 (last n c.stack) heads rows)

-- a row that hasn't the asked head over the asked rows hasn't the asked tree
pub other_tree : (slots : Slots) (c : Contents) (h : Head) (n : ℕ) → Agree slots c.trees → IsSound (store_of c)
    → (r : Row) → (slot_at slots r ≡ node_of h (last n c.stack) → ⊥) → HasTree (store_of c) r (asked (store_of c) h n) → ⊥
other_tree slots c h n agree sound r other has = slot_cases slots c h n agree sound r other has (slot_at slots r) refl

-- where no row has the asked head over the asked rows, none has the asked tree
pub absent_tree : (slots : Slots) (c : Contents) (h : Head) (n : ℕ) → Agree slots c.trees → IsSound (store_of c)
    → ((k : ℕ) → get_or slots.slots k None ≡ node_of h (last n c.stack) → ⊥)
    → (r : Row) → HasTree (store_of c) r (asked (store_of c) h n) → ⊥
absent_tree slots c h n agree sound none r has = other_tree slots c h n agree sound r (none r.0) has

pub no_some : (o : Option Tree) → IsSome o → o ≡ None → ⊥
no_some None h e = absurd (cc)
no_some (Some t) h e = absurd (cc)

-- a tree that is added changes none of the rows that had trees
trees_same : (trees : List (Option Tree)) (r : Row) (t : Tree) → get_or trees r.0 None ≡ None → (rows : List Row) → ((q : Row) → Contains rows q → IsSome (get_or trees q.0 None)) → trees_on (set trees r.0 (Some t)) rows ≡ trees_on trees rows
trees_same trees r t free [] held = refl
trees_same trees r t free (q ∷ rows) held =
    let h = held q (0, omega arith, refl) in
    let ne : q.0 ≢ r.0 = λ e. no_some (get_or trees q.0 None) h (ap (λ i. get_or trees i None) e ∙ free) in
    ap (λ x. x ∷ trees_on (set trees r.0 (Some t)) rows) (ap tree_or_leaf (get_or-set_other trees r.0 q.0 (Some t) None ne))
    ∙ ap (λ xs. tree_in trees q ∷ xs) (trees_same trees r t free rows (λ x k. held x (suc k.0, omega arith, k.2)))

node_rows : (h g : Head) (rows args : List Row) → node_of h rows ≡ node_of g args → rows ≡ args
node_rows h g rows args e = rows_of_node (h, rows) (g, args) e

node_tree : (trees : List (Option Tree)) (h g : Head) (rows args : List Row) → node_of h rows ≡ node_of g args → Node h (trees_of (trees_on trees rows)) ≡ Node g (trees_of (trees_on trees args))
node_tree trees h g rows args e =
    ap (λ x. Node x (trees_of (trees_on trees rows))) (head_of_node (h, rows) (g, args) e)
    ∙ ap (λ (xs : List Row). Node g (trees_of (trees_on trees xs))) (rows_of_node (h, rows) (g, args) e)

pub agree_made : (slots : Slots) (c : Contents) (h : Head) (n : ℕ) (r : Row) → Agree slots c.trees → IsSound (store_of c)
    → r.0 < length c.trees → get_or c.trees r.0 None ≡ None
    → Agree (with_slot slots r (node_of h (last n c.stack))) (set c.trees r.0 (Some (asked (store_of c) h n)))
agree_made slots c h n r agree sound below free =
    let t = asked (store_of c) h n in
    let rows = last n c.stack in
    let v : Slot = node_of h rows in
    let size = length-set slots.slots r.0 v in
    let inrange : r.0 < length slots.slots = omega (arith, agree.size) in
    let stacked : (q : Row) → Contains rows q → IsSome (get_or c.trees q.0 None) = λ q k. stack_held (store_of c) sound q (contains_drop (length c.stack - n) c.stack q k) in
    let some_now : (q : Row) → IsSome (get_or c.trees q.0 None) → IsSome (get_or (set c.trees r.0 (Some t)) q.0 None) = λ q k.
    (let ne : q.0 ≢ r.0 = λ e. no_some (get_or c.trees q.0 None) k (ap (λ i. get_or c.trees i None) e ∙ free) in subst IsSome (sym (get_or-set_other c.trees r.0 q.0 (Some t) None ne)) k) in
    record {
      size = size ∙ agree.size ∙ sym (length-set c.trees r.0 (Some t));
      free = λ q e. elim (eqb_tells q.0 r.0) [
        | inl eq ↦ absurd (let x : node_of h rows ≡ None = sym (ap (λ i. get_or (set slots.slots r.0 v) i None) eq.1 ∙ get_or-set_same slots.slots r.0 v None inrange) ∙ e in cc)
        | inr ne ↦ get_or-set_other c.trees r.0 q.0 (Some t) None ne.1 ∙ agree.free q (sym (get_or-set_other slots.slots r.0 q.0 v None ne.1) ∙ e)
      ];
      node = λ q g args e. elim (eqb_tells q.0 r.0) [
        | inl eq ↦ (
            let is : node_of h rows ≡ node_of g args = sym (ap (λ i. get_or (set slots.slots r.0 v) i None) eq.1 ∙ get_or-set_same slots.slots r.0 v None inrange) ∙ e in
            ap (λ i. get_or (set c.trees r.0 (Some t)) i None) eq.1 ∙ get_or-set_same c.trees r.0 (Some t) None below
            ∙ ap Some (asked_is c h n ∙ ap (λ ts. Node h (trees_of ts)) (sym (trees_same c.trees r t free rows stacked)) ∙ node_tree (set c.trees r.0 (Some t)) h g rows args is))
        | inr ne ↦ (
            let was = sym (get_or-set_other slots.slots r.0 q.0 v None ne.1) ∙ e in
            get_or-set_other c.trees r.0 q.0 (Some t) None ne.1 ∙ agree.node q g args was
            ∙ ap (λ ts. Some (Node g (trees_of ts))) (sym (trees_same c.trees r t free args (agree.held q g args was))))
      ];
      held = λ q g args e x k. elim (eqb_tells q.0 r.0) [
        | inl eq ↦ (
            let is : node_of h rows ≡ node_of g args = sym (ap (λ i. get_or (set slots.slots r.0 v) i None) eq.1 ∙ get_or-set_same slots.slots r.0 v None inrange) ∙ e in
            some_now x (stacked x (subst (λ (ys : List Row). Contains ys x) (sym (node_rows h g rows args is)) k)))
        | inr ne ↦ some_now x (agree.held q g args (sym (get_or-set_other slots.slots r.0 q.0 v None ne.1) ∙ e) x k)
      ];
    }
