-- A pattern's items from the last to the first, where each waits until its arguments are put.
use Rattle.std.proofs.Common.{◌≡◌, ℕ, ◌+◌, ◌-◌, ◌<◌, ◌≤◌, List, [], ◌∷◌, ◌++◌, length, take, get_or, map, refl, sym, ◌∙◌, ap, arith, append_assoc, append-nil, Bool, true}
use Rattle.std.specs.Prelude.{reverse, ◌&&◌}
use Rattle.std.specs.List.{flat_map, list_all}
use Rattle.std.proofs.lemmas.List.{length_push, length-take-le, take-take, take_at, take_all, get_or-take, get_or_at, reverse-append, map-append, same_from_push}
use Rattle.std.proofs.lemmas.List.Folds.{list_all-append}
use Rattle.std.proofs.lemmas.List.Concat.{flat_map-append}
use Rattle.term_model.specs.Tree.{Tree, Leaf, Node, Trees, End, More, count_of, list_of, may_stand_over, is_well_formed, all_well_formed, IsWellFormed}
use Rattle.term_model.specs.Postorder.{postorder, postorder_all, item_of, arity_of}
use Rattle.term_model.proofs.Order.{both_hold}
use Rattle.term_model.specs.declared.Head.{Head}
use Rattle.term_model.specs.declared.Head.TheVariants.{App, Int, Nil, Cons}
use Rattle.term_model.specs.declared.Item.{Item}
use Rattle.term_model.specs.declared.Item.TheVariants.{Var}
use Rattle.rule_match.specs.Preorder.{preorder, preorder_all}
use Rattle.rule_match.specs.declared.compiling.Waiting.{Waiting}

-- an item with the arguments that are still to come, from left to right
record Open : Type 0 where
  item : Item
  args : List Tree
  formed : list_all is_well_formed args ≡ true

abbrev laid : List Tree → List Item
laid ts = flat_map preorder ts

-- how it stands on the stack, its items that are still to come, and what they are in preorder
abbrev waits : Open → Waiting
waits o = record { item = o.item; count = length o.args }

abbrev behind : Open → List Item
behind o = flat_map postorder o.args

abbrev before_it : Open → List Item
before_it o = o.item ∷ laid o.args

-- What is put is the end of a pattern in preorder, and before it stand the items that wait, each
-- with its arguments that are still to come.
pub record IsUnderWay (p : Tree) (to_come : List Item) (waiting : List Waiting) (put : List Item) : Type 0 where
  open_items : List Open
  stacked : waiting ≡ map waits open_items
  come : to_come ≡ flat_map behind open_items
  pub whole : preorder p ≡ flat_map before_it open_items ++ reverse put

-- the items before the root of a tree, and the root, which waits for all its arguments
record Opened (t : Tree) (item : Item) (front : List Item) : Type 0 where
  opened : Open
  same : opened.item ≡ item
  count : length opened.args ≡ arity_of item
  front_is : front ≡ behind opened
  ordered : preorder t ≡ before_it opened

all_formed : (ts : Trees) → all_well_formed ts ≡ true → list_all is_well_formed (list_of ts) ≡ true
all_formed End e = refl
all_formed (More t ts) e =
    let b = both_hold (is_well_formed t) (all_well_formed ts) e in
    ap (λ (q : Bool). q && list_all is_well_formed (list_of ts)) b.0 ∙ all_formed ts b.1

length_list : (ts : Trees) → length (list_of ts) ≡ count_of ts
length_list End = refl
length_list (More t ts) = let h = length_list ts in omega (arith, h)

flat_list : (ts : Trees) → postorder_all ts ≡ flat_map postorder (list_of ts)
flat_list End = refl
flat_list (More t ts) = ap (λ is. postorder t ++ is) (flat_list ts)

laid_list : (ts : Trees) → preorder_all ts ≡ laid (list_of ts)
laid_list End = refl
laid_list (More t ts) = ap (λ is. preorder t ++ is) (laid_list ts)

full_arity : (h : Head) (ts : Trees) → may_stand_over h ts ≡ true → arity_of (item_of h (count_of ts)) ≡ count_of ts
full_arity (App f) ts e = refl
full_arity (Int v) End e = refl
full_arity (Int v) (More t ts) e = cc
full_arity Nil End e = refl
full_arity Nil (More t ts) e = cc
full_arity Cons End e = cc
full_arity Cons (More t End) e = cc
full_arity Cons (More t (More u End)) e = refl
full_arity Cons (More t (More u (More v vs))) e = cc

-- the last item of a tree is its root
record Ended (t : Tree) : Type 0 where
  front : List Item
  item : Item
  ends : postorder t ≡ front ++ item ∷ []
  opened : Opened t item front

ended : (t : Tree) → IsWellFormed t → Ended t
ended (Leaf x) w =
    record {
      front = [];
      item = Var x;
      ends = refl;
      opened = record { opened = record { item = Var x; args = []; formed = refl }; same = refl; count = refl; front_is = refl; ordered = refl };
    }
ended (Node h ts) w =
    let b = both_hold (may_stand_over h ts) (all_well_formed ts) w in
    record {
      front = postorder_all ts;
      item = item_of h (count_of ts);
      ends = refl;
      opened = record {
        opened = record { item = item_of h (count_of ts); args = list_of ts; formed = all_formed ts b.1 };
        same = refl;
        count = length_list ts ∙ sym (full_arity h ts b.0);
        front_is = flat_list ts;
        ordered = ap (λ is. item_of h (count_of ts) ∷ is) (laid_list ts);
      };
    }

snoc : {A : Type 0} (x : A) (xs : List A) → (us : List A) × (t : A) × (x ∷ xs ≡ us ++ t ∷ [])
snoc x [] = ([], x, refl)
snoc x (y ∷ ys) = let r = snoc y ys in (x ∷ r.0, r.1, ap (λ zs. x ∷ zs) r.2)

-- a list that ends, up to a place
pub record Before {A : Type 0} (xs : List A) (n : ℕ) (ys : List A) (y : A) : Type 0 where
  pub some : 0 < n
  pub front : take (n - 1) xs ≡ ys
  pub last : (d : A) → get_or xs (n - 1) d ≡ y

pub ends_before : {A : Type 0} (xs ys : List A) (y : A) (n : ℕ) → n ≤ length xs → take n xs ≡ ys ++ y ∷ [] → Before xs n ys y
ends_before xs ys y n le e =
    let size : length ys + 1 ≡ n = omega (arith, length_push ys y, ap length e, length-take-le n xs le) in
    let k : length ys ≡ n - 1 = omega (arith, size) in
    let l : n - 1 ≤ n = omega arith in
    let s : n - 1 < n = omega (arith, size) in
    record {
      some = omega (arith, size);
      front = sym (take-take (n - 1) n xs l) ∙ ap (take (n - 1)) e ∙ take_at ys (y ∷ []) (n - 1) k;
      last = λ d. sym (get_or-take n xs (n - 1) d s) ∙ ap (λ zs. get_or zs (n - 1) d) e ∙ get_or_at ys y [] d (n - 1) k;
    }

same_waiting : (v w : Waiting) → v.item ≡ w.item → v.count ≡ w.count → v ≡ w
same_waiting v w e f =
    let a : Item → Waiting = λ i. record { item = i; count = v.count } in
    let b : ℕ → Waiting = λ n. record { item = w.item; count = n } in
    ap a e ∙ ap b f

flat_more : {X A : Type 0} (f : X → List A) (xs : List X) (x : X) → flat_map f (xs ++ x ∷ []) ≡ flat_map f xs ++ f x
flat_more f xs x = flat_map-append f xs (x ∷ []) ∙ ap (λ ys. flat_map f xs ++ ys) (append-nil (f x))

-- the root of a pattern waits first
pub record Begun (p : Tree) (items : List Item) : Type 0 where
  root : Item
  pub some : 0 < length items
  pub is : (d : Item) → get_or items (length items - 1) d ≡ root
  pub first : (w : Waiting) → w.item ≡ root → w.count ≡ arity_of root → IsUnderWay p (take (length items - 1) items) (w ∷ []) []

pub begun : (p : Tree) (items : List Item) → items ≡ postorder p → IsWellFormed p → Begun p items
begun p items same formed =
    let e = ended p formed in
    let o = e.opened in
    let b = ends_before items e.front e.item (length items) (omega arith) (take_all (length items) items (omega arith) ∙ same ∙ e.ends) in
    record {
      root = e.item;
      some = b.some;
      is = b.last;
      first = λ w i n. record {
        open_items = o.opened ∷ [];
        stacked = ap (λ v. v ∷ []) (same_waiting w (waits o.opened) (i ∙ sym o.same) (n ∙ sym o.count));
        come = b.front ∙ o.front_is ∙ sym (append-nil (behind o.opened));
        whole = o.ordered ∙ sym (append-nil (before_it o.opened)) ∙ sym (append-nil (flat_map before_it (o.opened ∷ [])));
      };
    }

-- the last one that waits, and those before it
record Popped (p : Tree) (to_come : List Item) (rest : List Waiting) (last : Waiting) (put : List Item) : Type 0 where
  others : List Open
  one : Open
  rest_is : rest ≡ map waits others
  last_is : last ≡ waits one
  come : to_come ≡ flat_map behind others ++ behind one
  whole : preorder p ≡ (flat_map before_it others ++ before_it one) ++ reverse put

popped_from : (p : Tree) (to_come : List Item) (rest : List Waiting) (last : Waiting) (put : List Item) (os : List Open) → rest ++ last ∷ [] ≡ map waits os → to_come ≡ flat_map behind os → preorder p ≡ flat_map before_it os ++ reverse put → Popped p to_come rest last put
popped_from p to_come rest last put [] e come whole = absurd (omega (arith, length_push rest last, ap length e))
popped_from p to_come rest last put (o ∷ os) e come whole =
    let s = snoc o os in
    let same = same_from_push rest (map waits s.0) last (waits s.1) (e ∙ ap (map waits) s.2 ∙ map-append waits s.0 (s.1 ∷ [])) in
    record {
      others = s.0;
      one = s.1;
      rest_is = same.0;
      last_is = same.1;
      come = come ∙ ap (flat_map behind) s.2 ∙ flat_more behind s.0 s.1;
      whole = whole ∙ ap (λ xs. xs ++ reverse put) (ap (flat_map before_it) s.2 ∙ flat_more before_it s.0 s.1);
    }

none_left : {A : Type 0} (xs : List A) → length xs ≡ 0 → xs ≡ []
none_left [] e = refl
none_left (x ∷ xs) e = absurd (omega (arith, e))

module _ (p : Tree) (to_come : List Item) (waiting rest : List Waiting) (last : Waiting) (put : List Item) (way : IsUnderWay p to_come waiting put) (e : waiting ≡ rest ++ last ∷ []) where
  popped : Popped p to_come rest last put
  popped = popped_from p to_come rest last put way.open_items (sym e ∙ way.stacked) way.come way.whole

  -- an item whose arguments are all put is put
  pub put_next : last.count ≡ 0 → IsUnderWay p to_come rest (put ++ last.item ∷ [])
  put_next z =
      let v = popped in
      let none : v.one.args ≡ [] = none_left v.one.args (sym (ap (λ (w : Waiting). w.count) v.last_is) ∙ z) in
      let others = flat_map before_it v.others in
      record {
        open_items = v.others;
        stacked = v.rest_is;
        come = v.come ∙ ap (λ ts. flat_map behind v.others ++ flat_map postorder ts) none ∙ append-nil (flat_map behind v.others);
        whole =
            v.whole
            ∙ ap (λ ts. (others ++ v.one.item ∷ laid ts) ++ reverse put) none
            ∙ ap (λ i. (others ++ i ∷ []) ++ reverse put) (sym (ap (λ (w : Waiting). w.item) v.last_is))
            ∙ append_assoc others (last.item ∷ []) (reverse put)
            ∙ ap (λ is. others ++ is) (sym (reverse-append put (last.item ∷ [])));
      }

-- The last item that is to come is the root of an argument.
pub record Taken (p : Tree) (items : List Item) (before : ℕ) (rest : List Waiting) (last : Waiting) (put : List Item) : Type 0 where
  item : Item
  pub some : 0 < before
  pub is : (d : Item) → get_or items (before - 1) d ≡ item
  pub next : (v w : Waiting) → v.item ≡ last.item → v.count ≡ last.count - 1 → w.item ≡ item → w.count ≡ arity_of item → IsUnderWay p (take (before - 1) items) ((rest ++ v ∷ []) ++ w ∷ []) put

some_last : {A : Type 0} (xs : List A) → 0 < length xs → (us : List A) × (t : A) × (xs ≡ us ++ t ∷ [])
some_last [] l = absurd (omega arith)
some_last (x ∷ xs) l = snoc x xs

pub taken : (p : Tree) (items : List Item) (before : ℕ) (waiting rest : List Waiting) (last : Waiting) (put : List Item) → before ≤ length items → IsUnderWay p (take before items) waiting put → waiting ≡ rest ++ last ∷ [] → 0 < last.count → Taken p items before rest last put
taken p items before waiting rest last put le way e some =
    let r = popped p (take before items) waiting rest last put way e in
    let size : last.count ≡ length r.one.args = ap (λ (w : Waiting). w.count) r.last_is in
    let s = some_last r.one.args (omega (arith, size, some)) in
    let us = s.0 in
    let t = s.1 in
    let both = both_hold (list_all is_well_formed us) (is_well_formed t && true) (sym (list_all-append is_well_formed us (t ∷ [])) ∙ ap (list_all is_well_formed) (sym s.2) ∙ r.one.formed) in
    let d = ended t (both_hold (is_well_formed t) true both.1).0 in
    let o = d.opened in
    let less : Open = record { item = r.one.item; args = us; formed = both.0 } in
    let others = flat_map behind r.others in
    let heads = flat_map before_it r.others in
    let b = ends_before items ((others ++ behind less) ++ d.front) d.item before le (
    r.come
    ∙ ap (λ ts. others ++ flat_map postorder ts) s.2
    ∙ ap (λ is. others ++ is) (flat_more postorder us t ∙ ap (λ is. behind less ++ is) d.ends)
    ∙ sym (append_assoc others (behind less) (d.front ++ d.item ∷ []))
    ∙ sym (append_assoc (others ++ behind less) d.front (d.item ∷ []))) in
    let fewer : length us ≡ last.count - 1 = omega (arith, size, ap length s.2, length_push us t) in
    record {
      item = d.item;
      some = b.some;
      is = b.last;
      next = λ v w vi vn wi wn.
          let v_is = same_waiting v (waits less) (vi ∙ ap (λ (x : Waiting). x.item) r.last_is) (vn ∙ sym fewer) in
          let w_is = same_waiting w (waits o.opened) (wi ∙ sym o.same) (wn ∙ sym o.count) in
          record {
            open_items = (r.others ++ less ∷ []) ++ o.opened ∷ [];
            stacked =
                ap (λ (x : Waiting). (rest ++ v ∷ []) ++ x ∷ []) w_is
                ∙ ap (λ (xs : List Waiting). xs ++ waits o.opened ∷ []) (ap (λ (x : Waiting). rest ++ x ∷ []) v_is ∙ ap (λ (xs : List Waiting). xs ++ waits less ∷ []) r.rest_is ∙ sym (map-append waits r.others (less ∷ [])))
                ∙ sym (map-append waits (r.others ++ less ∷ []) (o.opened ∷ []));
            come =
                b.front
                ∙ ap (λ is. (others ++ behind less) ++ is) o.front_is
                ∙ ap (λ is. is ++ behind o.opened) (sym (flat_more behind r.others less))
                ∙ sym (flat_more behind (r.others ++ less ∷ []) o.opened);
            whole =
                r.whole
                ∙ ap (λ is. is ++ reverse put) (
                ap (λ ts. heads ++ r.one.item ∷ laid ts) s.2
                ∙ ap (λ is. heads ++ r.one.item ∷ is) (flat_more preorder us t ∙ ap (λ is. laid us ++ is) o.ordered)
                ∙ sym (append_assoc heads (before_it less) (before_it o.opened))
                ∙ ap (λ is. is ++ before_it o.opened) (sym (flat_more before_it r.others less))
                ∙ sym (flat_more before_it (r.others ++ less ∷ []) o.opened));
          };
    }

-- in the end all is put
pub all_put : (p : Tree) (to_come : List Item) (waiting : List Waiting) (put : List Item) → IsUnderWay p to_come waiting put → length waiting ≡ 0 → reverse put ≡ preorder p
all_put p to_come waiting put way e =
    let none : way.open_items ≡ [] = none_open way.open_items (sym (ap length way.stacked) ∙ e) in
    sym (way.whole ∙ ap (λ os. flat_map before_it os ++ reverse put) none)
  where
    none_open : (os : List Open) → length (map waits os) ≡ 0 → os ≡ []
    none_open [] z = refl
    none_open (o ∷ os) z = absurd (omega (arith, z))
