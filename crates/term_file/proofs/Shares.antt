-- Terms are shared item by item, and term by term.
use Rattle.std.proofs.Common.{◌≡◌, ℕ, zero, suc, ◌+◌, ◌^◌, ◌<◌, ◌≤◌, Bool, true, cond, List, [], ◌∷◌, ◌++◌, length, take, drop, reverse, get_or, slice_get, Some, None, Result, Err, All, refl, sym, ap, subst, ◌∙◌, arith}
use Rattle.std.specs.List.{list_all, AllByRecursion}
use Rattle.std.specs.Cmp.{first_so, second_so}
use Rattle.std.proofs.Math.Seq.{drop-cons}
use Rattle.std.proofs.lemmas.List.{length-append, length-map, take-append-drop, take_more}
use Rattle.std.proofs.lemmas.List.Elements.{All-from_recursion}
use Rattle.std.proofs.lemmas.List.Folds.{list_all-append}
use Rattle.std.proofs.lemmas.Option.{same_Some}
use Rattle.symbol_pool.specs.Pool.{Named, IsPool}
use Rattle.term_model.specs.declared.Head.{Head}
use Rattle.term_model.specs.declared.Head.TheVariants as head
use Rattle.term_model.specs.declared.Item.{Item}
use Rattle.term_model.specs.declared.Item.TheVariants.{Var, App, Int, Nil, Cons}
use Rattle.term_model.specs.Tree.{Tree, Leaf, Node, Trees, End, More, count_of, among, IsWellFormed}
use Rattle.term_model.specs.Postorder.{item_of, postorder, postorder_all, head_of, arity_of, push_items}
use Rattle.tree_text.specs.Text.{has_names}
use Rattle.tree_text.specs.Canonical.{is_writable, all_writable, is_writable_head, IsWritable}
use Rattle.term_file.specs.declared.fault.ShareFault.{ShareFault}
use Rattle.term_file.specs.Contents.{Record, Contents, nothing, trees, tree_at, terms}
use Rattle.term_file.specs.Right.{IsRight, is_new_record}
use Rattle.term_file.specs.NamedTree.{named_tree}
use Rattle.term_file.specs.Sharing.{Shares, NumbersHead, IsPlaced, IsCutInto, ComesOn, Pushes, Takes, TakesTooMany, TakesTree, TreeIsTooMany, different, is_writable_item}
use Rattle.term_file.proofs.SymbolFields.{both_true}
use Rattle.term_file.proofs.Tables.{slice_get-behind}
use Rattle.term_file.proofs.TableLaws.{not_new}
use Rattle.term_file.proofs.TermLaws.{term_below}
use Rattle.term_file.proofs.Naming.{different_same}
use Rattle.term_file.proofs.Counting.{in_all, map_among, roots_there, counted}
use Rattle.term_file.proofs.Pushing.{pushed_over, PushesAll, Between, between, one_more, term_pushed, same_reverse, stays_all, stays_front, fewer}
use Rattle.term_file.proofs.Renaming.{renamed}
use Rattle.term_file.proofs.Steps.{stepped, below_all, all_back}

-- ---- the number of a record

pub placed_old : (old new : List Record) (r : Record) (k : ℕ) → new ≡ old → slice_get old k ≡ Some r → IsPlaced old new r k
placed_old old new r k same at = record {
  at = ap (λ (rs : List Record). slice_get rs k) same ∙ at;
  grown = same ∙ ap (λ b. cond b (old ++ r ∷ []) old) (sym (not_new old k r at));
}

pub placed_new : (old new : List Record) (r : Record) (k : ℕ) → is_new_record old r ≡ true → new ≡ old ++ r ∷ [] → k ≡ length old → IsPlaced old new r k
placed_new old new r k fresh same number = record {
  at = ap (λ (rs : List Record). slice_get rs k) same ∙ ap (slice_get (old ++ r ∷ [])) number ∙ slice_get-behind old r [];
  grown = same ∙ ap (λ b. cond b (old ++ r ∷ []) old) (sym fresh);
}

-- ---- how many different subtrees were shared

pub shares_counted : (names : List Named) (ts : List Tree) (c : Contents) → IsPool names → Shares names ts c → different ts ≡ length c.records
shares_counted names ts c one s = different_same names c.symbols one s.pool ts (terms c) s.same held ∙ counted c s.grown
  where
    held : (u : Tree) → among u (terms c) ≡ true → has_names c.symbols u ≡ true
    held u a =
        let n = map_among (tree_at (trees c.records)) u c.roots a in
        let lt = in_all (λ r. r < length c.records) n.number c.roots (roots_there c s.grown) n.is_there in
        let is = term_below c.symbols c.records s.grown.records_right (suc n.number) n.number (omega arith) lt in
        ap (has_names c.symbols) n.is ∙ is.named

-- ---- one item

record HeadOf (i : Item) : Type 0 where
  head : Head
  is : head_of i ≡ Some head

item_head : (names : List Named) (i : Item) → is_writable_item names i ≡ true → HeadOf i
item_head names (Var x) w = absurd cc
item_head names (App f n) w = record { head = head.App f; is = refl }
item_head names (Int v) w = record { head = head.Int v; is = refl }
item_head names Nil w = record { head = head.Nil; is = refl }
item_head names Cons w = record { head = head.Cons; is = refl }

as_many : (names : List Named) (ts : List Tree) (c : Contents) → Shares names ts c → length ts ≡ length c.roots
as_many names ts c s =
    sym (length-map ts (named_tree names)) ∙ ap (λ (xs : List _). length xs) s.same ∙ length-map (terms c) (named_tree c.symbols) ∙ length-map c.roots (tree_at (trees c.records))

-- there are enough trees for an item
pub enough : (names : List Named) (i : Item) (c : Contents) → is_writable_item names i ≡ true → ComesOn names i c → arity_of i ≤ length c.roots
enough names i c w on =
    let h = item_head names i w in
    let o = pushed_over i on.before on.after h.head h.is on.pushes in
    omega (arith, as_many names on.before c on.shares, ap (λ (ts : List Tree). length ts) o.before, length-append o.front o.args, o.size)

pub arguments_below : (names : List Named) (i : Item) (c : Contents) (front args : List ℕ) (n : ℕ) → ComesOn names i c → IsCutInto c.roots front args n → All (λ k. k < length c.records) args
arguments_below names i c front args n on cut =
    let all = subst (AllByRecursion (λ k. k < length c.records)) cut.whole (below_all (length c.records) c.roots on.shares.grown.roots_right) in
    All-from_recursion (λ k. k < length c.records) args (all_back (λ k. k < length c.records) front args all)

module _ (names : List Named) (i : Item) (c : Contents) (w : is_writable_item names i ≡ true) (g : Head) (new : List Named) (numbered : NumbersHead names i c.symbols new g) (front args : List ℕ) (cut : IsCutInto c.roots front args (arity_of i)) where
  pub takes : (records : List Record) (k : ℕ) → IsPlaced c.records records (record { head = g; arguments = args }) k → Takes names i c (record { symbols = new; records = records; roots = front ++ k ∷ [] })
  takes records k placed ts us s p =
      let h = item_head names i w in
      let o = pushed_over i ts us h.head h.is p in
      let r = renamed names c.symbols new s.part i o.head g s.pool w numbered o.is_head in
      stepped names i ts us c s o g new r front args cut.whole cut.size records k placed

  pub takes_too_many : (rows : ℕ) → IsPool names → length c.records ≡ rows → is_new_record c.records (record { head = g; arguments = args }) ≡ true → TakesTooMany names i c rows
  takes_too_many rows one full fresh ts us s p =
      let e : Record = record { head = g; arguments = args } in
      let all : List Record = c.records ++ e ∷ [] in
      let next : Contents = record { symbols = new; records = all; roots = front ++ length c.records ∷ [] } in
      let more = takes all (length c.records) (placed_new c.records all e (length c.records) fresh refl refl) ts us s p in
      omega (arith, shares_counted names us next one more, length-append c.records (e ∷ []), full)

-- ---- the items of a term

item_writable : (names : List Named) (h : Head) (n : ℕ) → is_writable_item names (item_of h n) ≡ is_writable_head names h n
item_writable names (head.App f) n = refl
item_writable names (head.Int v) n = refl
item_writable names head.Nil n = refl
item_writable names head.Cons n = refl

mutual
  items_writable : (names : List Named) (t : Tree) → is_writable names t ≡ true → list_all (is_writable_item names) (postorder t) ≡ true
  items_writable names (Leaf x) w = absurd cc
  items_writable names (Node h ts) w =
      list_all-append (is_writable_item names) (postorder_all ts) (item_of h (count_of ts) ∷ [])
      ∙ both_true _ _ (all_items_writable names ts (second_so (is_writable_head names h (count_of ts)) _ w))
      (both_true _ _ (item_writable names h (count_of ts) ∙ first_so (is_writable_head names h (count_of ts)) _ w) refl)

  all_items_writable : (names : List Named) (ts : Trees) → all_writable names ts ≡ true → list_all (is_writable_item names) (postorder_all ts) ≡ true
  all_items_writable names End w = refl
  all_items_writable names (More t ts) w =
      list_all-append (is_writable_item names) (postorder t) (postorder_all ts)
      ∙ both_true _ _ (items_writable names t (first_so (is_writable names t) _ w)) (all_items_writable names ts (second_so (is_writable names t) _ w))

pub passes : {X : Type 0} (p : X → Bool) (xs : List X) (i : ℕ) (d : X) → i < length xs → list_all p xs ≡ true → p (get_or xs i d) ≡ true
passes p [] i d lt h = absurd (omega arith)
passes p (x ∷ xs) zero d lt h = first_so (p x) _ h
passes p (x ∷ xs) (suc i) d lt h = passes p xs i d (omega arith) (second_so (p x) _ h)

pub writable_at : (names : List Named) (t : Tree) (items : List Item) (i : ℕ) (item d : Item) → IsWritable names t → items ≡ postorder t → i < length items → item ≡ get_or items i d → is_writable_item names item ≡ true
writable_at names t items i item d w is lt e =
    ap (is_writable_item names) e ∙ passes (is_writable_item names) items i d lt (ap (list_all (is_writable_item names)) is ∙ items_writable names t w.writable)

-- some items of a term were shared
pub record Reached (names : List Named) (items : List Item) (ts : List Tree) (c : Contents) : Type 0 where
  pub now : List Tree
  pub pushed : PushesAll items ts now
  pub shares : Shares names now c

pub not_begun : (names : List Named) (ts : List Tree) (c : Contents) → Shares names ts c → Reached names [] ts c
not_begun names ts c s = record { now = ts; pushed = refl; shares = s }

-- where some items were shared, the next one comes
module _ (names : List Named) (t : Tree) (formed : IsWellFormed t) (items : List Item) (is : items ≡ postorder t) (i : ℕ) (lt : i < length items) (item d : Item) (at : item ≡ get_or items i d) (ts : List Tree) (c : Contents) (reached : Reached names (take i items) ts c) where
  items_are : items ≡ take i items ++ item ∷ drop (suc i) items
  items_are = sym (take-append-drop i items) ∙ ap (λ xs. take i items ++ xs) (drop-cons items i d lt ∙ ap (λ x. x ∷ drop (suc i) items) (sym at))

  whole : PushesAll (take i items ++ item ∷ drop (suc i) items) ts (ts ++ t ∷ [])
  whole = ap (λ xs. push_items xs (reverse ts)) (sym items_are ∙ is) ∙ term_pushed t ts formed

  here : Between (take i items) item (drop (suc i) items) ts (ts ++ t ∷ [])
  here = between (take i items) item (drop (suc i) items) ts (ts ++ t ∷ []) whole

  same : here.before ≡ reached.now
  same = same_reverse here.before reached.now (same_Some (reverse here.before) (reverse reached.now) (sym here.first ∙ reached.pushed))

  pushes : Pushes item reached.now here.after
  pushes = subst (λ us. Pushes item us here.after) same here.pushes

  pub comes_on : ComesOn names item c
  comes_on = record { before = reached.now; after = here.after; shares = reached.shares; pushes = pushes }

  pub reaches : (next : Contents) → Takes names item c next → Reached names (take (i + 1) items) ts next
  reaches next taken = record {
    now = here.after;
    pushed = ap (λ xs. push_items xs (reverse ts)) (take_more items i d lt ∙ ap (λ x. take i items ++ x ∷ []) (sym at)) ∙ one_more (take i items) item ts reached.now here.after reached.pushed pushes;
    shares = taken reached.now here.after reached.shares pushes;
  }

  pub too_many : (rows : ℕ) → TakesTooMany names item c rows → rows < different (ts ++ t ∷ [])
  too_many rows full =
      let now = full reached.now here.after reached.shares pushes in
      let later = fewer here.after (ts ++ t ∷ []) (stays_all (drop (suc i) items) here.after (ts ++ t ∷ []) here.rest) in
      omega (arith, now, later)

take_all : {X : Type 0} (xs : List X) (n : ℕ) → length xs ≤ n → take n xs ≡ xs
take_all [] zero le = refl
take_all [] (suc n) le = refl
take_all (x ∷ xs) zero le = absurd (omega arith)
take_all (x ∷ xs) (suc n) le = ap (λ ys. x ∷ ys) (take_all xs n (omega arith))

-- all items of a term were shared
pub all_reached : (names : List Named) (t : Tree) (items : List Item) (n : ℕ) (ts : List Tree) (c : Contents) → IsWellFormed t → items ≡ postorder t → length items ≤ n → Reached names (take n items) ts c → Shares names (ts ++ t ∷ []) c
all_reached names t items n ts c formed is le r =
    let e : PushesAll (postorder t) ts r.now = ap (λ xs. push_items xs (reverse ts)) (sym (take_all items n le ∙ is)) ∙ r.pushed in
    let same = same_reverse r.now (ts ++ t ∷ []) (same_Some (reverse r.now) (reverse (ts ++ t ∷ [])) (sym e ∙ term_pushed t ts formed)) in
    subst (λ us. Shares names us c) same r.shares

-- ---- terms

pub nothing_shared : (names : List Named) → Shares names [] nothing
nothing_shared names = record {
  grown = record { symbols_right = refl; records_right = refl; uses_in_order = refl; roots_right = refl; visits_in_order = refl };
  pool = record { once = λ i j s a b. absurd (let bad : None ≡ Some s = a in cc); room = omega arith };
  part = record { among = λ i s a. absurd (let bad : None ≡ Some s = a in cc) };
  same = refl;
}

pub one_term_more : (ts : List Tree) (i : ℕ) (t d : Tree) → i < length ts → t ≡ get_or ts i d → take i ts ++ t ∷ [] ≡ take (i + 1) ts
one_term_more ts i t d lt at = ap (λ x. take i ts ++ x ∷ []) at ∙ sym (take_more ts i d lt)

-- a front of terms has no more different subtrees
pub front_fewer : (ts : List Tree) (i rows : ℕ) → rows < different (take i ts) → rows < different ts
front_fewer ts i rows lt =
    let all : take i ts ++ drop i ts ≡ ts = take-append-drop i ts in
    let e : different (take i ts ++ drop i ts) ≡ different ts = ap different all in
    omega (arith, lt, fewer (take i ts) (take i ts ++ drop i ts) (stays_front (take i ts) (drop i ts)), e)

pub shared_whole : (names : List Named) (ts : List Tree) (n : ℕ) (c : Contents) → length ts ≤ n → Shares names (take n ts) c → Shares names ts c
shared_whole names ts n c le s = subst (λ us. Shares names us c) (take_all ts n le) s

-- few of all are right
pub is_right : (names : List Named) (ts : List Tree) (c : Contents) (rows : ℕ) → Shares names ts c → length ts < 2 ^ 32 → length c.records ≤ rows → rows ≤ 262144 → IsRight c
is_right names ts c rows s few le most = record {
  few_symbols = s.pool.room;
  symbols_right = s.grown.symbols_right;
  few_records = omega arith;
  records_right = s.grown.records_right;
  uses_in_order = s.grown.uses_in_order;
  few_roots = omega (arith, as_many names ts c s);
  roots_right = s.grown.roots_right;
  visits_in_order = s.grown.visits_in_order;
}

-- the same by places of another list that is these terms
module _ (names : List Named) (ts items : List Tree) (is : items ≡ ts) (i : ℕ) (lt : i < length items) (t : Tree) (at : t ≡ get_or items i t) where
  within : i < length ts
  within = subst (λ (us : List Tree). i < length us) is lt

  next : take i ts ++ t ∷ [] ≡ take (i + 1) ts
  next = one_term_more ts i t t within (at ∙ ap (λ us. get_or us i t) is)

  pub next_shared : (c new : Contents) → Shares names (take i ts) c → TakesTree names t c new → Shares names (take (i + 1) ts) new
  next_shared c new s taken = subst (λ us. Shares names us new) next (taken (take i ts) s)

  pub next_too_many : (c : Contents) (rows : ℕ) → Shares names (take i ts) c → TreeIsTooMany names t c rows → rows < different ts
  next_too_many c rows s full = front_fewer ts (i + 1) rows (subst (λ us. rows < different us) next (full (take i ts) s))

-- ---- faults

abbrev pub failed : (A : Type 0) → ShareFault → Result A ShareFault
failed A x = Err x

-- a fault is the same fault of another call
pub same_fault : {A B : Type 0} (x y : ShareFault) → failed A x ≡ failed A y → failed B x ≡ failed B y
same_fault {A} {B} x y e =
    let h : failed A x ≡ failed A y = e in
    let same : x ≡ y = cc in
    ap (failed B) same
