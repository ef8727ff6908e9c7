-- What each step of writing does.
use Rattle.std.proofs.Common.{◌≡◌, ℕ, ◌+◌, ◌<◌, ◌≤◌, List, [], ◌∷◌, ◌++◌, Some, length, drop, ap, sym, ◌∙◌, subst, arith, append_assoc, append-nil}
use Rattle.std.specs.Prelude.{All, Result, OnOk, slice_get, codes, decimal, sum_by}
use Rattle.std.proofs.lemmas.Result.{on_ok_weaker}
use Rattle.std.proofs.lemmas.List.{nil_from_length, drop_all}
use Rattle.std.proofs.lemmas.List.Sums.{sum_by_push, sum_by-append, sum_by-cons}
use Rattle.std.proofs.lemmas.List.Elements.{All-append, All-push, All-nil}
use Rattle.term_model.specs.declared.Row.{Row}
use Rattle.term_model.specs.declared.Symbol.{Symbol}
use Rattle.term_model.specs.declared.Head.TheVariants.{App, Int, Nil, Cons}
use Rattle.term_model.specs.Tree.{nodes, arguments, trees_of, root, IsWellFormed}
use Rattle.term_model.proofs.Subtrees.{some_nodes}
use Rattle.terms_api.specs.Terms.{Store, IsHeld, tree_at}
use Rattle.symbol_pool.specs.Pool.{Named, name_at}
use Rattle.tree_text.specs.Text.{text_by, in_parentheses, after_commas, elements, further_elements, HasNames}
use Rattle.term_text.specs.Text.{text, plain_name}
use Rattle.term_text.specs.Works.{text_of, text_of_all, steps_of, steps_of_all, IsReady, Extends, Advances, PushesArgument, PushesCell}
use Rattle.term_text.specs.declared.works.Work.{Work}
use Rattle.term_text.specs.declared.works.Work.TheVariants.{Term, Arguments, Elements}
use Rattle.term_text.proofs.Shapes.{drop_at, nodes-arguments, named_at, spelled, text_symbol, text_integer, text_empty, further_cell, cell_arguments}

-- lists of work
text_append : (names : List Named) (s : Store) (xs ys : List Work) → text_of_all names s (xs ++ ys) ≡ text_of_all names s ys ++ text_of_all names s xs
text_append names s [] ys = sym (append-nil (text_of_all names s ys))
text_append names s (x ∷ xs) ys =
    ap (λ b. b ++ text_of names s x) (text_append names s xs ys)
    ∙ append_assoc (text_of_all names s ys) (text_of_all names s xs) (text_of names s x)

steps_two : (s : Store) (w v : Work) → steps_of_all s (w ∷ v ∷ []) ≡ steps_of s w + steps_of s v
steps_two s w v =
    let one = sum_by-cons (steps_of s) w (v ∷ []) in
    let two = sum_by-cons (steps_of s) v [] in
    omega (arith, one, two)

both_ready : (names : List Named) (s : Store) (w v : Work) → IsReady names s w → IsReady names s v → All (IsReady names s) (w ∷ v ∷ [])
both_ready names s w v a b =
    let P = IsReady names s in
    All-push P (w ∷ []) v (All-push P [] w (All-nil P) a) b

pub two_pushed : {A : Type 0} (old one two : List A) (x y : A) → one ≡ old ++ x ∷ [] → two ≡ one ++ y ∷ [] → two ≡ old ++ (x ∷ y ∷ [])
two_pushed old one two x y e f = f ∙ ap (λ xs. xs ++ y ∷ []) e ∙ append_assoc old (x ∷ []) (y ∷ [])

-- nothing is left of the piece
pub all_written : (names : List Named) (s : Store) (w : Work) (works : List Work) (before after written : List ℕ)
    → after ≡ before ++ written → text_of names s w ≡ written → 0 < steps_of s w
    → Advances names s w works works before after
all_written names s w works before after written out text fewer =
    record {
      more = [];
      written = written;
      works = sym (append-nil works);
      out = out;
      text = text ∙ sym (append-nil written);
      ready = All-nil (IsReady names s);
      fewer = fewer;
    }

pub some_steps : (s : Store) (r : Row) → 0 < steps_of s (Term r)
some_steps s r = let n = some_nodes (tree_at s r) in omega (arith, n)

-- a symbol without arguments
pub constant_written : (names : List Named) (s : Store) (row : Row) (f : Symbol) (name : List ℕ) (works : List Work) (before after : List ℕ)
    → root (tree_at s row) ≡ Some (App f) → name_at names f ≡ Some name → length (arguments (tree_at s row)) ≡ 0
    → after ≡ before ++ name → Advances names s (Term row) works works before after
constant_written names s row f name works before after e named none out =
    let spell = plain_name names in
    let t = tree_at s row in
    let empty : arguments t ≡ [] = nil_from_length (arguments t) none in
    let all : text names t ≡ name =
    text_symbol spell t f e
    ∙ ap (λ xs. spell f ++ in_parentheses spell (trees_of xs)) empty
    ∙ append-nil (spell f) ∙ spelled names f name named in
    all_written names s (Term row) works before after name out all (some_steps s row)

-- a symbol with arguments: the first is next
symbol_written : (names : List Named) (s : Store) (row : Row) (f : Symbol) (name : List ℕ) (works two : List Work) (before middle after : List ℕ)
    → IsReady names s (Term row) → root (tree_at s row) ≡ Some (App f) → name_at names f ≡ Some name
    → middle ≡ before ++ name → after ≡ middle ++ 40 ∷ []
    → PushesArgument s row 0 works two
    → Advances names s (Term row) works two before after
symbol_written names s row f name works two before middle after ready e named out out' push =
    let first = push.next in
    let at = push.tree in
    let spell = plain_name names in
    let t = tree_at s row in
    let a = tree_at s first in
    let xs = arguments t in
    let split : xs ≡ a ∷ drop 1 xs = drop_at xs 0 a at in
    let rest = after_commas spell (trees_of (drop 1 xs)) in
    let sum : sum_by nodes xs ≡ nodes a + sum_by nodes (drop 1 xs) = ap (sum_by nodes) split ∙ sum_by-cons nodes a (drop 1 xs) in
    let size = nodes-arguments t in
    let n = some_nodes a in
    let steps = steps_two s (Arguments row 1) (Term first) in
    record {
      more = Arguments row 1 ∷ Term first ∷ [];
      written = name ++ 40 ∷ [];
      works = push.works;
      out = out' ∙ ap (λ ys. ys ++ 40 ∷ []) out ∙ append_assoc before name (40 ∷ []);
      text =
          text_symbol spell t f e
          ∙ ap (λ ys. spell f ++ in_parentheses spell (trees_of ys)) split
          ∙ ap (λ ys. ys ++ (codes "(" ++ text_by spell a ++ rest ++ codes ")")) (spelled names f name named)
          ∙ ap (λ ys. name ++ 40 ∷ ys) (append_assoc (text_by spell a) rest (codes ")"))
          ∙ sym (append_assoc name (40 ∷ []) (text_by spell a ++ (rest ++ codes ")")));
      ready = both_ready names s (Arguments row 1) (Term first) (record { held = ready.held; named = ready.named }) (record { held = push.held; named = named_at names t 0 a ready.named at });
      fewer = omega (arith, steps, sum, size, n);
    }

-- the same, where it was pushed in a store that is the same
pub symbol_begun : {X E : Type 0} (result : Result X E) (names : List Named) (s t : Store) (row : Row) (f : Symbol) (name : List ℕ) (works two : List Work) (before middle after : List ℕ)
    → t ≡ s → IsReady names s (Term row) → root (tree_at s row) ≡ Some (App f) → name_at names f ≡ Some name
    → middle ≡ before ++ name → after ≡ middle ++ 40 ∷ []
    → OnOk result (PushesArgument t row 0 works two) → OnOk result (Advances names s (Term row) works two before after)
symbol_begun result names s t row f name works two before middle after there ready e named out out' push =
    on_ok_weaker result (λ (p : PushesArgument t row 0 works two).
    symbol_written names s row f name works two before middle after ready e named out out' (subst (λ (x : Store). PushesArgument x row 0 works two) there p)) push

-- no argument is left
pub arguments_closed : (names : List Named) (s : Store) (row : Row) (j : ℕ) (works : List Work) (before after : List ℕ)
    → length (arguments (tree_at s row)) ≤ j → after ≡ before ++ 41 ∷ [] → Advances names s (Arguments row j) works works before after
arguments_closed names s row j works before after past out =
    let none = drop_all j (arguments (tree_at s row)) past in
    let all : text_of names s (Arguments row j) ≡ 41 ∷ [] = ap (λ ys. after_commas (plain_name names) (trees_of ys) ++ codes ")") none in
    all_written names s (Arguments row j) works before after (41 ∷ []) out all (omega arith)

-- the next argument is next
argument_written : (names : List Named) (s : Store) (row : Row) (j : ℕ) (works two : List Work) (before after : List ℕ)
    → IsReady names s (Arguments row j) → after ≡ before ++ 44 ∷ [] → PushesArgument s row j works two
    → Advances names s (Arguments row j) works two before after
argument_written names s row j works two before after ready out push =
    let next = push.next in
    let at = push.tree in
    let spell = plain_name names in
    let t = tree_at s row in
    let a = tree_at s next in
    let xs = arguments t in
    let split : drop j xs ≡ a ∷ drop (j + 1) xs = drop_at xs j a at in
    let rest = after_commas spell (trees_of (drop (j + 1) xs)) in
    let sum : sum_by nodes (drop j xs) ≡ nodes a + sum_by nodes (drop (j + 1) xs) = ap (sum_by nodes) split ∙ sum_by-cons nodes a (drop (j + 1) xs) in
    let n = some_nodes a in
    let steps = steps_two s (Arguments row (j + 1)) (Term next) in
    record {
      more = Arguments row (j + 1) ∷ Term next ∷ [];
      written = 44 ∷ [];
      works = push.works;
      out = out;
      text =
          ap (λ ys. after_commas spell (trees_of ys) ++ codes ")") split
          ∙ ap (λ ys. 44 ∷ ys) (append_assoc (text_by spell a) rest (codes ")"));
      ready = both_ready names s (Arguments row (j + 1)) (Term next) (record { held = ready.held; named = ready.named }) (record { held = push.held; named = named_at names t j a ready.named at });
      fewer = omega (arith, steps, sum, n);
    }

pub argument_begun : {X E : Type 0} (result : Result X E) (names : List Named) (s t : Store) (row : Row) (j : ℕ) (works two : List Work) (before after : List ℕ)
    → t ≡ s → IsReady names s (Arguments row j) → after ≡ before ++ 44 ∷ []
    → OnOk result (PushesArgument t row j works two) → OnOk result (Advances names s (Arguments row j) works two before after)
argument_begun result names s t row j works two before after there ready out push =
    on_ok_weaker result (λ (p : PushesArgument t row j works two).
    argument_written names s row j works two before after ready out (subst (λ (x : Store). PushesArgument x row j works two) there p)) push

-- the elements of a cell are next
pub cell_pushed : (names : List Named) (s : Store) (row list first : Row) (works one two : List Work)
    → HasNames names (tree_at s row) → IsHeld s list → IsHeld s first
    → IsWellFormed (tree_at s row) → root (tree_at s row) ≡ Some Cons
    → slice_get (arguments (tree_at s row)) 1 ≡ Some (tree_at s list) → slice_get (arguments (tree_at s row)) 0 ≡ Some (tree_at s first)
    → one ≡ works ++ Elements list ∷ [] → two ≡ one ++ Term first ∷ []
    → PushesCell names s row works two
cell_pushed names s row list first works one two named held held' w e next at push push' =
    let spell = plain_name names in
    let t = tree_at s row in
    let a = tree_at s first in
    let u = tree_at s list in
    let pair = cell_arguments t a u w e at next in
    let more = sum_by-cons nodes a (u ∷ []) in
    let last = sum_by-cons nodes u [] in
    let sum : sum_by nodes (arguments t) ≡ nodes a + nodes u = ap (sum_by nodes) pair ∙ (let q : sum_by nodes (a ∷ u ∷ []) ≡ nodes a + nodes u = omega (arith, more, last) in q) in
    let size = nodes-arguments t in
    let n = some_nodes a in
    let steps = steps_two s (Elements list) (Term first) in
    record {
      more = Elements list ∷ Term first ∷ [];
      works = two_pushed works one two (Elements list) (Term first) push push';
      text =
          ap (λ ys. elements spell (trees_of ys) ++ codes "]") pair
          ∙ append_assoc (text_by spell a) (further_elements spell u) (codes "]");
      ready = both_ready names s (Elements list) (Term first) (record { held = held; named = named_at names t 1 u named next }) (record { held = held'; named = named_at names t 0 a named at });
      fewer = omega (arith, steps, sum, size, n);
    }

-- a cell among the elements of a list, whose elements were pushed in a store that is the same
pub cell_begun : {X E : Type 0} (result : Result X E) (names : List Named) (s t : Store) (row : Row) (works two : List Work) (before after : List ℕ)
    → t ≡ s → root (tree_at s row) ≡ Some Cons → after ≡ before ++ 44 ∷ []
    → OnOk result (PushesCell names t row works two) → OnOk result (Advances names s (Elements row) works two before after)
cell_begun result names s t row works two before after there e out push =
    on_ok_weaker result (λ (h : PushesCell names t row works two).
    let p = subst (λ (x : Store). PushesCell names x row works two) there h in
    let few = p.fewer in
    record {
      more = p.more;
      written = 44 ∷ [];
      works = p.works;
      out = out;
      text = ap (λ ys. ys ++ codes "]") (further_cell (plain_name names) (tree_at s row) e) ∙ ap (λ ys. 44 ∷ ys) p.text;
      ready = p.ready;
      fewer = omega (arith, few);
    }) push

-- where no element follows
pub elements_closed : (names : List Named) (s : Store) (row : Row) (works : List Work) (before after : List ℕ)
    → further_elements (plain_name names) (tree_at s row) ≡ [] → after ≡ before ++ 93 ∷ [] → Advances names s (Elements row) works works before after
elements_closed names s row works before after none out =
    let n = some_nodes (tree_at s row) in
    all_written names s (Elements row) works before after (93 ∷ []) out (ap (λ ys. ys ++ codes "]") none) (omega (arith, n))

pub integer_written : (names : List Named) (s : Store) (row : Row) (v : ℕ) (works : List Work) (before after : List ℕ)
    → root (tree_at s row) ≡ Some (Int v) → after ≡ before ++ decimal v → Advances names s (Term row) works works before after
integer_written names s row v works before after e out =
    all_written names s (Term row) works before after (decimal v) out (text_integer (plain_name names) (tree_at s row) v e) (some_steps s row)

pub empty_written : (names : List Named) (s : Store) (row : Row) (works : List Work) (before after : List ℕ)
    → root (tree_at s row) ≡ Some Nil → after ≡ before ++ codes "[]" → Advances names s (Term row) works works before after
empty_written names s row works before after e out =
    all_written names s (Term row) works before after (codes "[]") out (text_empty (plain_name names) (tree_at s row) e) (some_steps s row)

-- What is written and what is to be written stay one text.
pub text_kept : (names : List Named) (s : Store) (w : Work) (works rest new : List Work) (before after whole : List ℕ)
    → works ≡ rest ++ w ∷ [] → Advances names s w rest new before after
    → before ++ text_of_all names s works ≡ whole → after ++ text_of_all names s new ≡ whole
text_kept names s w works rest new before after whole pop step e =
    let old = text_of_all names s rest in
    let more = text_of_all names s step.more in
    let now : text_of_all names s new ≡ more ++ old = ap (text_of_all names s) step.works ∙ text_append names s rest step.more in
    let then : text_of_all names s works ≡ text_of names s w ++ old = ap (text_of_all names s) pop ∙ text_append names s rest (w ∷ []) in
    ap (λ ys. ys ++ text_of_all names s new) step.out
    ∙ ap (λ ys. before ++ step.written ++ ys) now
    ∙ append_assoc before step.written (more ++ old)
    ∙ ap (λ ys. before ++ ys) (sym (append_assoc step.written more old))
    ∙ ap (λ ys. before ++ (ys ++ old)) (sym step.text)
    ∙ ap (λ ys. before ++ ys) (sym then)
    ∙ e

pub advances_there : (names : List Named) (s t : Store) (w : Work) (old new : List Work) (before after : List ℕ)
    → t ≡ s → Advances names t w old new before after → Advances names s w old new before after
advances_there names s t w old new before after e step = subst (λ (x : Store). Advances names x w old new before after) e step

pub steps_fall : (names : List Named) (s : Store) (w : Work) (works rest new : List Work) (before after : List ℕ)
    → works ≡ rest ++ w ∷ [] → Advances names s w rest new before after → steps_of_all s new < steps_of_all s works
steps_fall names s w works rest new before after pop step =
    let now = ap (steps_of_all s) step.works ∙ sum_by-append (steps_of s) rest step.more in
    let then = ap (steps_of_all s) pop ∙ sum_by_push (steps_of s) rest w in
    let few = step.fewer in
    omega (arith, now, then, few)

pub ready_kept : (names : List Named) (s : Store) (w : Work) (rest new : List Work) (before after : List ℕ)
    → Advances names s w rest new before after → All (IsReady names s) rest → All (IsReady names s) new
ready_kept names s w rest new before after step all =
    subst (All (IsReady names s)) (sym step.works) (All-append (IsReady names s) rest step.more all step.ready)

pub extends_more : {A : Type 0} (xs ys zs : List A) → Extends xs ys → Extends ys zs → Extends xs zs
extends_more xs ys zs a b = (a.0 ++ b.0, b.1 ∙ ap (λ l. l ++ b.0) a.1 ∙ append_assoc xs a.0 b.0)
