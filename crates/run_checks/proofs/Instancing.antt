-- The numbers on a stack are those of the instances of the patterns that the items so far spell.
use Rattle.std.proofs.Common.{◌≡◌, ℕ, zero, suc, ◌+◌, ◌<◌, ◌≤◌, true, List, [], ◌∷◌, ◌++◌, length, take, drop, get_or, reverse, refl, sym, ap, subst, ◌∙◌, arith, All}
use Rattle.std.specs.Prelude.{map, slice_index_or}
use Rattle.std.specs.List.{list_all}
use Rattle.std.proofs.lemmas.Bool.{ltb-true}
use Rattle.std.proofs.lemmas.List.{length-append, length-map, map-append, reverse-append, reverse-reverse, take-append-drop, take_more}
use Rattle.std.proofs.Math.Seq.{drop-cons}
use Rattle.std.proofs.lemmas.List.Elements.{All-head, All-tail, All-push}
use Rattle.std.proofs.lemmas.Option.{same_Some}
use Rattle.symbol_pool.specs.Pool.{Named}
use Rattle.term_model.specs.declared.Head.{Head}
use Rattle.term_model.specs.declared.Head.TheVariants as head
use Rattle.term_model.specs.declared.Item.{Item}
use Rattle.term_model.specs.declared.Item.TheVariants.{Var, App}
use Rattle.term_model.specs.declared.Symbol.{Symbol}
use Rattle.term_model.specs.Tree.{Tree, Leaf, Node, More, trees_of, IsWellFormed}
use Rattle.term_model.specs.Postorder.{postorder, push_items}
use Rattle.rewrite_model.specs.Matching.{instance, instances}
use Rattle.term_file.specs.Sharing.{Pushes, IsCutInto}
use Rattle.term_file.proofs.Pushing.{pushed_over, Between, between, one_more, PushesAll, term_pushed, same_reverse}
use Rattle.term_file.proofs.Shares.{passes}
use Rattle.run_checks.specs.Held.{Held, Grows, IsPut, IsThere, term_at}
use Rattle.run_checks.specs.Instances.{may_be_put, MayBePut, Stands, ComesOn, Comes, PutsOver}
use Rattle.run_checks.proofs.Growing.{grows_not, grows_twice}
use Rattle.run_checks.proofs.Shelves.{map_same}

-- ---- what stays where a table grows

pub there_later : (old new : Held) (ns : List ℕ) → Grows old new → All (IsThere old) ns → All (IsThere new) ns
there_later old new ns g a = λ k d lt. let h = a k d lt in omega (arith, h, g.count)

pub terms_later : (old new : Held) (ns : List ℕ) → Grows old new → All (IsThere old) ns → map (term_at new) ns ≡ map (term_at old) ns
terms_later old new ns g a = map_same (IsThere old) (term_at new) (term_at old) ns a g.same

pub stands_later : (old new : Held) (bound : List ℕ) (ps : List Tree) (stack : List ℕ) → Grows old new → Stands old bound ps stack → Stands new bound ps stack
stands_later old new bound ps stack g s = record {
  terms =
      terms_later old new stack g s.there ∙ s.terms
      ∙ ap (λ (b : List Tree). map (λ p. instance p b) ps) (sym (terms_later old new bound g s.bound_there));
  there = there_later old new stack g s.there;
  bound_there = there_later old new bound g s.bound_there;
}

-- ---- a variable

bound_at : (h : Held) (bound : List ℕ) (x q e : ℕ) (d : Tree) → x < length bound → q ≡ get_or bound x e → slice_index_or (map (term_at h) bound) x d ≡ term_at h q
bound_at h [] x q e d lt at = absurd (omega arith)
bound_at h (b ∷ bound) zero q e d lt at = ap (term_at h) (sym at)
bound_at h (b ∷ bound) (suc x) q e d lt at = bound_at h bound x q e d (omega arith) at

there_at : (h : Held) (bound : List ℕ) (x q e : ℕ) → x < length bound → q ≡ get_or bound x e → All (IsThere h) bound → IsThere h q
there_at h [] x q e lt at a = absurd (omega arith)
there_at h (b ∷ bound) zero q e lt at a = subst (IsThere h) (sym at) (All-head (IsThere h) b bound a)
there_at h (b ∷ bound) (suc x) q e lt at a = there_at h bound x q e (omega arith) at (All-tail (IsThere h) b bound a)

pub variable_below : (names : List Named) (n x : ℕ) → may_be_put names n (Var x) ≡ true → x < n
variable_below names n x e = ltb-true x n e

pub symbol_below : (names : List Named) (n : ℕ) (f : Symbol) (k : ℕ) → may_be_put names n (App f k) ≡ true → f.0 < length names
symbol_below names n f k e = ltb-true f.0 (length names) e

pub comes_variable : (h : Held) (bound : List ℕ) (x q e : ℕ) (stack after : List ℕ) → x < length bound → q ≡ get_or bound x e → after ≡ stack ++ q ∷ [] → Comes h h bound (Var x) stack after
comes_variable h bound x q e stack after lt at is = record {
  grows = grows_not h;
  stands = λ ps us s p.
      let pushed : us ≡ ps ++ Leaf x ∷ [] = sym (reverse-reverse us) ∙ ap reverse (sym (same_Some (Leaf x ∷ reverse ps) (reverse us) p)) ∙ reverse-append (Leaf x ∷ []) (reverse ps) ∙ ap (λ vs. vs ++ Leaf x ∷ []) (reverse-reverse ps) in
      let b = map (term_at h) bound in
      let there = there_at h bound x q e lt at s.bound_there in
      record {
        terms =
            ap (map (term_at h)) is ∙ map-append (term_at h) stack (q ∷ [])
            ∙ (λ i. s.terms i ++ sym (bound_at h bound x q e (Leaf x) lt at) i ∷ [])
            ∙ sym (map-append (λ p. instance p b) ps (Leaf x ∷ []))
            ∙ ap (map (λ p. instance p b)) (sym pushed);
        there = subst (All (IsThere h)) (sym is) (All-push (IsThere h) stack q s.there there);
        bound_there = s.bound_there;
      };
}

-- ---- a symbol

split_even : {X : Type 0} (xs ys zs ws : List X) → xs ++ ys ≡ zs ++ ws → length ys ≡ length ws → (xs ≡ zs) × (ys ≡ ws)
split_even [] ys [] ws e n = (refl, e)
split_even [] ys (z ∷ zs) ws e n = let l = ap length e in let m = length-append zs ws in absurd (omega (arith, l, m, n))
split_even (x ∷ xs) ys [] ws e n = let l = ap length e in let m = length-append xs ys in absurd (omega (arith, l, m, n))
split_even (x ∷ xs) ys (z ∷ zs) ws e n =
    let a : x ≡ z = cc in
    let b : xs ++ ys ≡ zs ++ ws = cc in
    let r = split_even xs ys zs ws b n in
    ((λ i. a i ∷ r.0 i), r.1)

instances_of : (ps : List Tree) (b : List Tree) → instances (trees_of ps) b ≡ trees_of (map (λ p. instance p b) ps)
instances_of [] b = refl
instances_of (p ∷ ps) b = ap (More (instance p b)) (instances_of ps b)

-- there are enough terms for a symbol
pub enough : (h : Held) (bound : List ℕ) (f : Symbol) (n : ℕ) (stack : List ℕ) → ComesOn h bound (App f n) stack → n ≤ length stack
enough h bound f n stack c =
    let o = pushed_over (App f n) c.before c.next (head.App f) refl c.pushes in
    let a = sym (length-map stack (term_at h)) ∙ ap (λ (ts : List Tree). length ts) c.stands.terms ∙ length-map c.before (λ p. instance p (map (term_at h) bound)) in
    let b = ap (λ (ts : List Tree). length ts) o.before ∙ length-append o.front o.args in
    omega (arith, a, b, o.size)

pub comes_symbol : (old new : Held) (bound : List ℕ) (f : Symbol) (n : ℕ) (stack after : List ℕ) → PutsOver old new f n stack after → Comes old new bound (App f n) stack after
comes_symbol old new bound f n stack after put = record {
  grows = put.put.grows;
  stands = λ ps us s p.
      let o = pushed_over (App f n) ps us (head.App f) refl p in
      let b = map (term_at old) bound in
      let inst : Tree → Tree = λ q. instance q b in
      let both : map (term_at old) put.front ++ map (term_at old) put.arguments ≡ map inst o.front ++ map inst o.args =
      sym (map-append (term_at old) put.front put.arguments) ∙ ap (map (term_at old)) (sym put.cut.whole) ∙ s.terms ∙ ap (map inst) o.before ∙ map-append inst o.front o.args in
      let sizes : length (map (term_at old) put.arguments) ≡ length (map inst o.args) = length-map put.arguments (term_at old) ∙ put.cut.size ∙ sym o.size ∙ sym (length-map o.args inst) in
      let parts = split_even (map (term_at old) put.front) (map (term_at old) put.arguments) (map inst o.front) (map inst o.args) both sizes in
      let parted : All (IsThere old) (put.front ++ put.arguments) = subst (All (IsThere old)) put.cut.whole s.there in
      let front_there : All (IsThere old) put.front = All-left put.front put.arguments parted in
      let here : term_at new put.number ≡ instance (Node o.head (trees_of o.args)) b =
      put.put.term ∙ ap (λ (ts : List Tree). Node (head.App f) (trees_of ts)) parts.1 ∙ sym (ap (Node (head.App f)) (instances_of o.args b)) ∙ ap (λ (g : Head). Node g (instances (trees_of o.args) b)) (same_Some (head.App f) o.head o.is_head) in
      let same_bound : map (term_at new) bound ≡ b = terms_later old new bound put.put.grows s.bound_there in
      record {
        terms =
            ap (map (term_at new)) put.after_is ∙ map-append (term_at new) put.front (put.number ∷ [])
            ∙ (λ i. (terms_later old new put.front put.put.grows front_there ∙ parts.0) i ++ here i ∷ [])
            ∙ sym (map-append inst o.front (Node o.head (trees_of o.args) ∷ []))
            ∙ ap (map inst) (sym o.after)
            ∙ ap (λ (c : List Tree). map (λ q. instance q c) us) (sym same_bound);
        there = subst (All (IsThere new)) (sym put.after_is) (All-push (IsThere new) put.front put.number (there_later old new put.front put.put.grows front_there) put.put.there);
        bound_there = there_later old new bound put.put.grows s.bound_there;
      };
}
  where
    All-left : (xs ys : List ℕ) → All (IsThere old) (xs ++ ys) → All (IsThere old) xs
    All-left [] ys a = λ k d lt. absurd (omega arith)
    All-left (x ∷ xs) ys a = All-cons x xs (All-head (IsThere old) x (xs ++ ys) a) (All-left xs ys (All-tail (IsThere old) x (xs ++ ys) a))
      where
        All-cons : (x : ℕ) (xs : List ℕ) → IsThere old x → All (IsThere old) xs → All (IsThere old) (x ∷ xs)
        All-cons x xs h a k d = elim k as (λ (k : ℕ). k < length (x ∷ xs) → IsThere old (get_or (x ∷ xs) k d)) [ zero ↦ λ _. h | suc k ↦ λ lt. a k d (omega arith) ]

-- ---- the items of a pattern

pub record Reached (old h : Held) (bound : List ℕ) (items : List Item) (stack : List ℕ) : Type 0 where
  pub grows : Grows old h
  pub patterns : List Tree
  pub pushed : PushesAll items [] patterns
  pub stands : Stands h bound patterns stack

pub not_begun : (h : Held) (bound : List ℕ) → All (IsThere h) bound → Reached h h bound [] []
not_begun h bound there = record {
  grows = grows_not h;
  patterns = [];
  pushed = refl;
  stands = record { terms = refl; there = λ k d lt. absurd (omega arith); bound_there = there };
}

module _ (p : Tree) (formed : IsWellFormed p) (items : List Item) (is : items ≡ postorder p) (i : ℕ) (lt : i < length items) (item d : Item) (at : item ≡ get_or items i d) (old h : Held) (bound stack : List ℕ) (reached : Reached old h bound (take i items) stack) where
  items_are : items ≡ take i items ++ item ∷ drop (suc i) items
  items_are = sym (take-append-drop i items) ∙ ap (λ xs. take i items ++ xs) (drop-cons items i d lt ∙ ap (λ x. x ∷ drop (suc i) items) (sym at))

  total : PushesAll (take i items ++ item ∷ drop (suc i) items) [] (p ∷ [])
  total = ap (λ xs. push_items xs []) (sym items_are ∙ is) ∙ term_pushed p [] formed

  here : Between (take i items) item (drop (suc i) items) [] (p ∷ [])
  here = between (take i items) item (drop (suc i) items) [] (p ∷ []) total

  same : here.before ≡ reached.patterns
  same = same_reverse here.before reached.patterns (same_Some (reverse here.before) (reverse reached.patterns) (sym here.first ∙ reached.pushed))

  pushes : Pushes item reached.patterns here.after
  pushes = subst (λ us. Pushes item us here.after) same here.pushes

  pub comes_on : MayBePut old.symbols (length bound) p → ComesOn h bound item stack
  comes_on may = record {
    may =
        ap (λ (ns : List Named). may_be_put ns (length bound) item) reached.grows.symbols
        ∙ ap (may_be_put old.symbols (length bound)) at
        ∙ passes (may_be_put old.symbols (length bound)) items i d lt (ap (list_all (may_be_put old.symbols (length bound))) is ∙ may);
    before = reached.patterns;
    next = here.after;
    stands = reached.stands;
    pushes = pushes;
  }

  pub reaches : (new : Held) (after : List ℕ) → Comes h new bound item stack after → Reached old new bound (take (i + 1) items) after
  reaches new after c = record {
    grows = grows_twice old h new reached.grows c.grows;
    patterns = here.after;
    pushed = ap (λ xs. push_items xs []) (take_more items i d lt ∙ ap (λ x. take i items ++ x ∷ []) (sym at)) ∙ one_more (take i items) item [] reached.patterns here.after reached.pushed pushes;
    stands = c.stands reached.patterns here.after reached.stands pushes;
  }

take_all : {X : Type 0} (xs : List X) (n : ℕ) → length xs ≤ n → take n xs ≡ xs
take_all [] zero le = refl
take_all [] (suc n) le = refl
take_all (x ∷ xs) zero le = absurd (omega arith)
take_all (x ∷ xs) (suc n) le = ap (λ ys. x ∷ ys) (take_all xs n (omega arith))

-- all items of a pattern came
pub record Only (old h : Held) (bound stack : List ℕ) (p : Tree) : Type 0 where
  pub number : ℕ
  pub is : stack ≡ number ∷ []
  pub put : IsPut old h number (instance p (map (term_at old) bound))

pub all_reached : (p : Tree) (items : List Item) (n : ℕ) (old h : Held) (bound stack : List ℕ) → IsWellFormed p → items ≡ postorder p → length items ≤ n → All (IsThere old) bound → Reached old h bound (take n items) stack → Only old h bound stack p
all_reached p items n old h bound stack formed is le there r =
    let e : PushesAll (postorder p) [] r.patterns = ap (λ xs. push_items xs []) (sym (take_all items n le ∙ is)) ∙ r.pushed in
    let same : r.patterns ≡ p ∷ [] = same_reverse r.patterns (p ∷ []) (same_Some (reverse r.patterns) (reverse (p ∷ [])) (sym e ∙ term_pushed p [] formed)) in
    let b : List Tree = map (term_at h) bound in
    let terms : map (term_at h) stack ≡ instance p b ∷ [] = r.stands.terms ∙ ap (map (λ q. instance q b)) same in
    by stack r.stands.there terms (ap (instance p) (terms_later old h bound r.grows there))
  where
    by : (stack : List ℕ) → All (IsThere h) stack → map (term_at h) stack ≡ instance p (map (term_at h) bound) ∷ [] → instance p (map (term_at h) bound) ≡ instance p (map (term_at old) bound) → Only old h bound stack p
    by [] a e s = absurd cc
    by (n ∷ []) a e s = let t : term_at h n ≡ instance p (map (term_at h) bound) = cc in record { number = n; is = refl; put = record { grows = r.grows; there = All-head (IsThere h) n [] a; term = t ∙ s } }
    by (n ∷ m ∷ ns) a e s = absurd cc

-- the last numbers of a stack are there
pub taken_there : (h : Held) (stack front taken : List ℕ) (n : ℕ) → IsCutInto stack front taken n → All (IsThere h) stack → All (IsThere h) taken
taken_there h stack front taken n c a = back front (subst (All (IsThere h)) c.whole a)
  where
    back : (xs : List ℕ) → All (IsThere h) (xs ++ taken) → All (IsThere h) taken
    back [] b = b
    back (x ∷ xs) b = back xs (All-tail (IsThere h) x (xs ++ taken) b)

-- the number of a variable's term
pub comes_bound : (h : Held) (bound : List ℕ) (x : ℕ) (i : Item) (q e : ℕ) (stack after : List ℕ) → i ≡ Var x → ComesOn h bound i stack → q ≡ get_or bound x e → after ≡ stack ++ q ∷ [] → Comes h h bound i stack after
comes_bound h bound x i q e stack after is c at pushed =
    let lt = variable_below h.symbols (length bound) x (ap (may_be_put h.symbols (length bound)) (sym is) ∙ c.may) in
    subst (λ (j : Item). Comes h h bound j stack after) (sym is) (comes_variable h bound x q e stack after lt at pushed)

pub variable_within : (h : Held) (bound : List ℕ) (x : ℕ) (i : Item) (stack : List ℕ) → i ≡ Var x → ComesOn h bound i stack → x < length bound
variable_within h bound x i stack is c = variable_below h.symbols (length bound) x (ap (may_be_put h.symbols (length bound)) (sym is) ∙ c.may)

pub comes_over : (old new : Held) (bound : List ℕ) (f : Symbol) (n : ℕ) (i : Item) (stack after : List ℕ) → i ≡ App f n → PutsOver old new f n stack after → Comes old new bound i stack after
comes_over old new bound f n i stack after is put = subst (λ (j : Item). Comes old new bound j stack after) (sym is) (comes_symbol old new bound f n stack after put)

pub enough_over : (h : Held) (bound : List ℕ) (f : Symbol) (n : ℕ) (i : Item) (stack : List ℕ) → i ≡ App f n → ComesOn h bound i stack → n ≤ length stack
enough_over h bound f n i stack is c = enough h bound f n stack (subst (λ (j : Item). ComesOn h bound j stack) is c)

-- ---- the loop over the items of a pattern

pub item_comes : (p : Tree) (items : List Item) (i : ℕ) (item d : Item) (old h : Held) (bound stack : List ℕ) → IsWellFormed p → items ≡ postorder p → i < length items → item ≡ get_or items i d → Reached old h bound (take i items) stack → MayBePut old.symbols (length bound) p → ComesOn h bound item stack
item_comes p items i item d old h bound stack formed is lt at r may = comes_on p formed items is i lt item d at old h bound stack r may

pub item_came : (p : Tree) (items : List Item) (i : ℕ) (item d : Item) (old h new : Held) (bound stack after : List ℕ) → IsWellFormed p → items ≡ postorder p → i < length items → item ≡ get_or items i d → Reached old h bound (take i items) stack → Comes h new bound item stack after → Reached old new bound (take (i + 1) items) after
item_came p items i item d old h new bound stack after formed is lt at r c = reaches p formed items is i lt item d at old h bound stack r new after c

-- what is left on the stack at the end is the number of the instance
pub last_is : (old h : Held) (bound stack rest : List ℕ) (n : ℕ) (p : Tree) → Only old h bound stack p → stack ≡ rest ++ n ∷ [] → IsPut old h n (instance p (map (term_at old) bound))
last_is old h bound stack [] n p o e =
    let s : o.number ≡ n = same_first o.number n (sym o.is ∙ e) in
    subst (λ m. IsPut old h m (instance p (map (term_at old) bound))) s o.put
  where
    same_first : (a b : ℕ) → a ∷ [] ≡ b ∷ [] → a ≡ b
    same_first a b e = cc
last_is old h bound stack (r ∷ rest) n p o e =
    let l = ap (λ (xs : List ℕ). length xs) (sym o.is ∙ e) in
    let m = length-append rest (n ∷ []) in
    absurd (omega (arith, l, m))

pub not_none : (old h : Held) (bound stack : List ℕ) (p : Tree) → Only old h bound stack p → stack ≡ [] → ⊥
not_none old h bound stack p o e = let l = ap (λ (xs : List ℕ). length xs) (sym o.is ∙ e) in omega (arith, l)
