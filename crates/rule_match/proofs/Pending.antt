-- What is left of a match: the patterns that the items still to come spell, and the trees that wait
-- for them on a stack, the next one last.
use Rattle.std.proofs.Common.{◌≡◌, ℕ, ◌+◌, ◌≤◌, ◌<◌, List, [], ◌∷◌, ◌++◌, Option, Some, None, length, Bool, true, false, refl, sym, ◌∙◌, ap, arith, subst, eqb-true}
use Rattle.std.specs.Prelude.{option_and_then, if◌then◌else◌, reverse, ◌&&◌, ◌==◌, nat_le}
use Rattle.std.specs.List.{list_all}
use Rattle.std.proofs.lemmas.List.{append_assoc, append-nil, reverse-append, reverse-reverse, length-reverse, length-append}
use Rattle.std.proofs.lemmas.List.Folds.{list_all-append}
use Rattle.term_model.specs.Tree.{Tree, Leaf, Node, Trees, End, More, count_of, list_of, trees_of, arguments, head_eq}
use Rattle.term_model.specs.Postorder.{item_of, postorder, postorder_all}
use Rattle.term_model.specs.Code.{join}
use Rattle.term_model.specs.declared.Head.{Head}
use Rattle.term_model.specs.declared.Head.TheVariants as head
use Rattle.term_model.specs.declared.Item.{Item}
use Rattle.term_model.specs.declared.Item.TheVariants.{Var, App, Int, Nil, Cons}
use Rattle.term_model.specs.declared.Symbol.{Symbol}
use Rattle.term_model.proofs.Order.{both_hold, both}
use Rattle.term_model.proofs.Equality.{head_eq_refl, head_eq_sound}
use Rattle.rewrite_model.specs.Matching.{bind, match_from, match_all, match_of}
use Rattle.rule_match.specs.Planned.{is_plain, IsPlain}
use Rattle.rule_match.specs.Preorder.{preorder, preorder_all}
use Rattle.rule_match.specs.Stands.{stands}

-- one after the other
chained : {A B C : Type 0} (f : A → Option B) (g : B → Option C) (o : Option A) → option_and_then g (option_and_then f o) ≡ option_and_then (λ a. option_and_then g (f a)) o
chained f g None = refl
chained f g (Some a) = refl

agree : {A B : Type 0} (f g : A → Option B) → ((a : A) → f a ≡ g a) → (o : Option A) → option_and_then f o ≡ option_and_then g o
agree f g e None = refl
agree f g e (Some a) = e a

never : {A B : Type 0} (f : A → Option B) → ((a : A) → f a ≡ None) → (o : Option A) → option_and_then f o ≡ None
never f e None = refl
never f e (Some a) = e a

-- lists of other lengths don't match
uneven : (qs us : Trees) (b : List Tree) → (count_of qs ≡ count_of us → ⊥) → match_all qs us b ≡ None
uneven End End b n = absurd (n refl)
uneven End (More u us) b n = refl
uneven (More q qs) End b n = refl
uneven (More q qs) (More u us) b n = never (λ c. match_all qs us c) (λ c. uneven qs us c (λ e. n (ap (λ k. k + 1) e))) (match_from q u b)

-- a pattern whose head doesn't stand there doesn't match
stands_not : (h : Head) (qs : Trees) (t : Tree) (b : List Tree) → stands h (count_of qs) t ≡ false → match_from (Node h qs) t b ≡ None
stands_not h qs (Leaf y) b e = refl
stands_not h qs (Node g us) b e = go (head_eq h g) (count_of us == count_of qs) refl e
  where
    go : (c d : Bool) → (count_of us == count_of qs) ≡ d → (c && d) ≡ false → (if c then match_all qs us b else None) ≡ None
    go false d k f = refl
    go true true k f = cc
    go true false k f = uneven qs us b (λ s. differ (count_of us) (count_of qs) (sym s) k)
      where
        differ : (m n : ℕ) → m ≡ n → (m == n) ≡ false → ⊥
        differ m n s w = let r : (n == n) ≡ false = subst (λ i. (i == n) ≡ false) s w in unequal n r
          where
            unequal : (n : ℕ) → (n == n) ≡ false → ⊥
            unequal n w = grind arith

-- one whose head stands there matches as its arguments do
record Standing (h : Head) (n : ℕ) (t : Tree) : Type 0 where
  args : Trees
  is : t ≡ Node h args
  count : count_of args ≡ n

standing : (h : Head) (n : ℕ) (t : Tree) → stands h n t ≡ true → Standing h n t
standing h n (Leaf y) e = cc
standing h n (Node g us) e =
    let p = both_hold (head_eq h g) (count_of us == n) e in
    record { args = us; is = ap (λ k. Node k us) (sym (head_eq_sound h g p.0)); count = eqb-true (count_of us) n p.1 }

-- the arguments of a node match before the trees that wait, as they do under the node
spread : (qs us ps ts : Trees) (b : List Tree) → count_of qs ≡ count_of us → match_all (join qs ps) (join us ts) b ≡ option_and_then (λ c. match_all ps ts c) (match_all qs us b)
spread End End ps ts b e = refl
spread End (More u us) ps ts b e = absurd (omega arith)
spread (More q qs) End ps ts b e = absurd (omega arith)
spread (More q qs) (More u us) ps ts b e =
    let k : count_of qs ≡ count_of us = omega arith in
    agree (λ c. match_all (join qs ps) (join us ts) c) (λ c. option_and_then (λ d. match_all ps ts d) (match_all qs us c)) (λ c. spread qs us ps ts c k) (match_from q u b)
    ∙ sym (chained (λ c. match_all qs us c) (λ c. match_all ps ts c) (match_from q u b))

under : (h : Head) (qs us ps ts : Trees) (b : List Tree) → count_of qs ≡ count_of us → match_all (More (Node h qs) ps) (More (Node h us) ts) b ≡ match_all (join qs ps) (join us ts) b
under h qs us ps ts b e = here (head_eq h h) (head_eq_refl h) ∙ sym (spread qs us ps ts b e)
  where
    here : (c : Bool) → c ≡ true → option_and_then (λ d. match_all ps ts d) (if c then match_all qs us b else None) ≡ option_and_then (λ d. match_all ps ts d) (match_all qs us b)
    here true e = refl
    here false e = cc

-- patterns side by side
preorder-join : (ps qs : Trees) → preorder_all (join ps qs) ≡ preorder_all ps ++ preorder_all qs
preorder-join End qs = refl
preorder-join (More p ps) qs = ap (λ is. preorder p ++ is) (preorder-join ps qs) ∙ sym (append_assoc (preorder p) (preorder_all ps) (preorder_all qs))

count-join : (ps qs : Trees) → count_of (join ps qs) ≡ count_of ps + count_of qs
count-join End qs = omega arith
count-join (More p ps) qs = let r = count-join ps qs in omega (arith, r)

join-trees : (us : Trees) (ts : List Tree) → trees_of (list_of us ++ ts) ≡ join us (trees_of ts)
join-trees End ts = refl
join-trees (More u us) ts = ap (More u) (join-trees us ts)

count-list : (us : Trees) → length (list_of us) ≡ count_of us
count-list End = refl
count-list (More u us) = let r = count-list us in omega (arith, r)

-- a plain pattern's items are plain before its arguments too
mutual
  plain_before : (w : ℕ) (p : Tree) → list_all (λ i. is_plain w i) (postorder p) ≡ true → list_all (λ i. is_plain w i) (preorder p) ≡ true
  plain_before w (Leaf x) e = refl
  plain_before w (Node h ps) e =
      let test : Item → Bool = λ i. is_plain w i in
      let i : Item = item_of h (count_of ps) in
      let k = both_hold (list_all test (postorder_all ps)) (list_all test (i ∷ [])) (sym (list_all-append test (postorder_all ps) (i ∷ [])) ∙ e) in
      let l = both_hold (test i) true k.1 in
      both (test i) (list_all test (preorder_all ps)) l.0 (plain_all_before w ps k.0)

  plain_all_before : (w : ℕ) (ps : Trees) → list_all (λ i. is_plain w i) (postorder_all ps) ≡ true → list_all (λ i. is_plain w i) (preorder_all ps) ≡ true
  plain_all_before w End e = refl
  plain_all_before w (More p ps) e =
      let test : Item → Bool = λ i. is_plain w i in
      let k = both_hold (list_all test (postorder p)) (list_all test (postorder_all ps)) (sym (list_all-append test (postorder p) (postorder_all ps)) ∙ e) in
      list_all-append test (preorder p) (preorder_all ps)
      ∙ both (list_all test (preorder p)) (list_all test (preorder_all ps)) (plain_before w p k.0) (plain_all_before w ps k.1)

-- Items in preorder spell patterns, and as many trees wait for these.
pub record Pending (w : ℕ) (p t : Tree) (items : List Item) (stack bound : List Tree) : Type 0 where
  pub patterns : Trees
  pub spelled : preorder_all patterns ≡ items
  pub size : count_of patterns ≡ length stack
  pub plain : list_all (λ i. is_plain w i) items ≡ true
  pub comes : match_of p t ≡ match_all patterns (trees_of (reverse stack)) bound

itself : (o : Option (List Tree)) → o ≡ option_and_then (λ (b : List Tree). Some b) o
itself None = refl
itself (Some b) = refl

pub at_first : (w : ℕ) (p t : Tree) → IsPlain w p → Pending w p t (preorder p) (t ∷ []) []
at_first w p t plain =
    record {
      patterns = More p End;
      spelled = append-nil (preorder p);
      size = refl;
      plain = plain_before w p plain;
      comes = itself (match_from p t []);
    }

-- the first of the patterns, by the first of their items
record Opened (item : Item) (items : List Item) (patterns : Trees) : Type 0 where
  first : Tree
  others : Trees
  is : patterns ≡ More first others
  begins : preorder first ++ preorder_all others ≡ item ∷ items

opened : (item : Item) (items : List Item) (ps : Trees) → preorder_all ps ≡ item ∷ items → Opened item items ps
opened item items End e = cc
opened item items (More p ps) e = record { first = p; others = ps; is = refl; begins = e }

-- there is a tree for the next item
pub some_wait : (w : ℕ) (p t : Tree) (item : Item) (items : List Item) (stack bound : List Tree) → Pending w p t (item ∷ items) stack bound → 0 < length stack
some_wait w p t item items stack bound d =
    let o = opened item items d.patterns d.spelled in
    omega (arith, d.size, ap count_of o.is)

pub reverse-last : {A : Type 0} (xs : List A) (x : A) → reverse (xs ++ x ∷ []) ≡ x ∷ reverse xs
reverse-last xs x = reverse-append xs (x ∷ [])

-- a variable
record OpenedVariable (x : ℕ) (items : List Item) (patterns : Trees) : Type 0 where
  others : Trees
  is : patterns ≡ More (Leaf x) others
  rest : preorder_all others ≡ items

opened_variable : (x : ℕ) (items : List Item) (ps : Trees) → preorder_all ps ≡ Var x ∷ items → OpenedVariable x items ps
opened_variable x items End e = cc
opened_variable x items (More (Leaf y) ps) e = let k : y ≡ x = cc in record { others = ps; is = ap (λ i. More (Leaf i) ps) k; rest = cc }
opened_variable x items (More (Node (head.App f) qs) ps) e = cc
opened_variable x items (More (Node (head.Int v) qs) ps) e = cc
opened_variable x items (More (Node head.Nil qs) ps) e = cc
opened_variable x items (More (Node head.Cons qs) ps) e = cc

pub at_variable : (w : ℕ) (p t : Tree) (x : ℕ) (items : List Item) (stack bound : List Tree) (u : Tree) (o : Option (List Tree)) → bind x u bound ≡ o → Pending w p t (Var x ∷ items) (stack ++ u ∷ []) bound → (more : List Tree) → o ≡ Some more → Pending w p t items stack more
at_variable w p t x items stack bound u o b d more s =
    let v = opened_variable x items d.patterns d.spelled in
    let n = ap count_of v.is in
    let m = length-append stack (u ∷ []) in
    record {
      patterns = v.others;
      spelled = v.rest;
      size = omega (arith, n, m, d.size);
      plain = d.plain;
      comes =
          d.comes
          ∙ ap (λ ps. match_all ps (trees_of (reverse (stack ++ u ∷ []))) bound) v.is
          ∙ ap (λ ts. match_all (More (Leaf x) v.others) (trees_of ts) bound) (reverse-last stack u)
          ∙ ap (λ r. option_and_then (λ c. match_all v.others (trees_of (reverse stack)) c) r) (b ∙ s);
    }

pub at_variable_none : (w : ℕ) (p t : Tree) (x : ℕ) (items : List Item) (stack bound : List Tree) (u : Tree) → bind x u bound ≡ None → Pending w p t (Var x ∷ items) (stack ++ u ∷ []) bound → match_of p t ≡ None
at_variable_none w p t x items stack bound u b d =
    let v = opened_variable x items d.patterns d.spelled in
    d.comes
    ∙ ap (λ ps. match_all ps (trees_of (reverse (stack ++ u ∷ []))) bound) v.is
    ∙ ap (λ ts. match_all (More (Leaf x) v.others) (trees_of ts) bound) (reverse-last stack u)
    ∙ ap (λ r. option_and_then (λ c. match_all v.others (trees_of (reverse stack)) c) r) b

-- a symbol
record OpenedSymbol (f : Symbol) (n : ℕ) (items : List Item) (patterns : Trees) : Type 0 where
  args : Trees
  others : Trees
  is : patterns ≡ More (Node (head.App f) args) others
  count : count_of args ≡ n
  rest : preorder_all args ++ preorder_all others ≡ items

opened_symbol : (f : Symbol) (n : ℕ) (items : List Item) (ps : Trees) → preorder_all ps ≡ App f n ∷ items → OpenedSymbol f n items ps
opened_symbol f n items End e = cc
opened_symbol f n items (More (Leaf y) ps) e = cc
opened_symbol f n items (More (Node (head.App g) qs) ps) e =
    let k : g ≡ f = cc in
    record { args = qs; others = ps; is = ap (λ h. More (Node (head.App h) qs) ps) k; count = cc; rest = cc }
opened_symbol f n items (More (Node (head.Int v) qs) ps) e = cc
opened_symbol f n items (More (Node head.Nil qs) ps) e = cc
opened_symbol f n items (More (Node head.Cons qs) ps) e = cc

-- each pattern has an item
count-items : (ps : Trees) → count_of ps ≤ length (preorder_all ps)
count-items End = omega arith
count-items (More p ps) =
    let r = count-items ps in
    let l = length-append (preorder p) (preorder_all ps) in
    let s = some p in
    omega (arith, r, l, s)
  where
    some : (p : Tree) → 0 < length (preorder p)
    some (Leaf x) = omega arith
    some (Node h qs) = omega arith

-- there is room for the arguments
pub arguments_fit : (w : ℕ) (p t : Tree) (f : Symbol) (n : ℕ) (items : List Item) (stack bound : List Tree) (u : Tree) → Pending w p t (App f n ∷ items) (stack ++ u ∷ []) bound → length stack + n ≤ length items
arguments_fit w p t f n items stack bound u d =
    let v = opened_symbol f n items d.patterns d.spelled in
    let a = ap count_of v.is in
    let m = length-append stack (u ∷ []) in
    let j = ap length (preorder-join v.args v.others ∙ v.rest) in
    let c = count-join v.args v.others in
    let i = count-items (join v.args v.others) in
    omega (arith, a, m, j, c, i, d.size, v.count)

pub at_other : (w : ℕ) (p t : Tree) (f : Symbol) (n : ℕ) (items : List Item) (stack bound : List Tree) (u : Tree) → stands (head.App f) n u ≡ false → Pending w p t (App f n ∷ items) (stack ++ u ∷ []) bound → match_of p t ≡ None
at_other w p t f n items stack bound u e d =
    let v = opened_symbol f n items d.patterns d.spelled in
    let k : stands (head.App f) (count_of v.args) u ≡ false = ap (λ m. stands (head.App f) m u) v.count ∙ e in
    d.comes
    ∙ ap (λ ps. match_all ps (trees_of (reverse (stack ++ u ∷ []))) bound) v.is
    ∙ ap (λ ts. match_all (More (Node (head.App f) v.args) v.others) (trees_of ts) bound) (reverse-last stack u)
    ∙ ap (λ r. option_and_then (λ c. match_all v.others (trees_of (reverse stack)) c) r) (stands_not (head.App f) v.args u bound k)

pub at_symbol : (w : ℕ) (p t : Tree) (f : Symbol) (n : ℕ) (items : List Item) (stack bound : List Tree) (u : Tree) → stands (head.App f) n u ≡ true → Pending w p t (App f n ∷ items) (stack ++ u ∷ []) bound → Pending w p t items (stack ++ reverse (arguments u)) bound
at_symbol w p t f n items stack bound u e d =
    let v = opened_symbol f n items d.patterns d.spelled in
    let s = standing (head.App f) n u e in
    let even : count_of v.args ≡ count_of s.args = v.count ∙ sym s.count in
    let waiting : trees_of (reverse (stack ++ reverse (arguments u))) ≡ join s.args (trees_of (reverse stack)) =
    ap trees_of (reverse-append stack (reverse (arguments u)) ∙ ap (λ ts. ts ++ reverse stack) (reverse-reverse (arguments u) ∙ ap arguments s.is)) ∙ join-trees s.args (reverse stack) in
    let l1 = ap count_of v.is in
    let l2 = count-join v.args v.others in
    let l3 = length-append stack (u ∷ []) in
    let l4 = length-append stack (reverse (arguments u)) in
    let l6 : length (arguments u) ≡ count_of s.args = ap (λ v. length (arguments v)) s.is ∙ count-list s.args in
    let l7 = length-reverse (arguments u) in
    record {
      patterns = join v.args v.others;
      spelled = preorder-join v.args v.others ∙ v.rest;
      size = omega (arith, l1, l2, l3, l4, l6, l7, d.size, even);
      plain = (both_hold (nat_le n w) (list_all (λ i. is_plain w i) items) d.plain).1;
      comes =
          d.comes
          ∙ ap (λ ps. match_all ps (trees_of (reverse (stack ++ u ∷ []))) bound) v.is
          ∙ ap (λ ts. match_all (More (Node (head.App f) v.args) v.others) (trees_of ts) bound) (reverse-last stack u ∙ ap (λ r. r ∷ reverse stack) s.is)
          ∙ under (head.App f) v.args s.args v.others (trees_of (reverse stack)) bound even
          ∙ ap (λ ts. match_all (join v.args v.others) ts bound) (sym waiting);
    }

-- no other item is plain
pub at_no_item : (w : ℕ) (p t : Tree) (i : Item) (items : List Item) (stack bound : List Tree) → Pending w p t (i ∷ items) stack bound → ((x : ℕ) → i ≡ Var x → ⊥) → ((f : Symbol) (n : ℕ) → i ≡ App f n → ⊥) → ⊥
at_no_item w p t (Var x) items stack bound d n m = n x refl
at_no_item w p t (App f k) items stack bound d n m = m f k refl
at_no_item w p t (Int v) items stack bound d n m = let e : false ≡ true = d.plain in absurd (cc)
at_no_item w p t Nil items stack bound d n m = let e : false ≡ true = d.plain in absurd (cc)
at_no_item w p t Cons items stack bound d n m = let e : false ≡ true = d.plain in absurd (cc)

-- without an item nothing is left
pub at_last : (w : ℕ) (p t : Tree) (stack bound : List Tree) → Pending w p t [] stack bound → match_of p t ≡ Some bound
at_last w p t stack bound d = d.comes ∙ go d.patterns stack d.spelled d.size
  where
    go : (ps : Trees) (stack : List Tree) → preorder_all ps ≡ [] → count_of ps ≡ length stack → match_all ps (trees_of (reverse stack)) bound ≡ Some bound
    go End [] e k = refl
    go End (u ∷ us) e k = absurd (omega arith)
    go (More (Leaf x) ps) stack e k = cc
    go (More (Node h qs) ps) stack e k = cc
