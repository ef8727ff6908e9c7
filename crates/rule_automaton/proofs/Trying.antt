-- A rule tried by its own tests, and rules in turn.
use Rattle.std.proofs.Common.{◌≡◌, ℕ, zero, suc, ◌+◌, ◌-◌, ◌<◌, ◌≤◌, List, [], ◌∷◌, ◌++◌, length, take, drop, get_or, Some, None, Bool, true, false, refl, sym, ◌∙◌, ap, arith, inl, inr, subst}
use Rattle.std.specs.Prelude.{Contains}
use Rattle.std.proofs.lemmas.Bool.{and_from, both_ways}
use Rattle.std.proofs.lemmas.List.{take_more, take_all, drop_more}
use Rattle.std.proofs.lemmas.List.Elements.{Contains-push_cases}
use Rattle.std.proofs.lemmas.List.Folds.{list_all_more, list_all_at}
use Rattle.term_model.specs.Tree.{Tree}
use Rattle.term_model.specs.declared.Row.{Row}
use Rattle.term_model.specs.declared.Head.TheVariants.{App}
use Rattle.terms_api.specs.Terms.{Store, tree_at}
use Rattle.rule_match.specs.Planned.{match_at}
use Rattle.rule_match.specs.Stands.{stands}
use Rattle.rule_automaton.specs.Places.{HasKids}
use Rattle.rule_automaton.specs.Shapes.{holds, all_hold, IsKid, IsUnder, tests_at, pairs_at, variables_at}
use Rattle.rule_automaton.specs.Automata.{first_match, Made, part}
use Rattle.rule_automaton.specs.Rows.{row_at, IsFull, Fills}
use Rattle.rule_automaton.specs.Running.{Asked, IsBegun, IsReady, AreTested, IsAnswerOf, IsMatch}
use Rattle.rule_automaton.proofs.Steps.{first_there, first_later}
use Rattle.rule_automaton.specs.declared.shapes.Test.{Test}
use Rattle.rule_automaton.specs.declared.shapes.Shape.{Shape}

-- the tests before a place hold, and what is under them is full
pub record Done (s : Store) (at : ℕ → Tree) (rows : List Row) (tests : List Test) (i : ℕ) : Type 0 where
  pub hold : all_hold at (take i tests) ≡ true
  pub full : (q : ℕ) → IsUnder (take i tests) q → IsFull s at rows q

pub none_done : (s : Store) (at : ℕ → Tree) (rows : List Row) (tests : List Test) → IsReady s at rows tests → Done s at rows tests 0
none_done s at rows tests r = record { hold = refl; full = λ q u. elim u [ inl e ↦ subst (IsFull s at rows) (sym e) r.root | inr t ↦ absurd (let l = t.1.1 in omega arith) ] }

module _ (s : Store) (at : ℕ → Tree) (old rows : List Row) (tests : List Test) (i : ℕ) (x : Test) (ready : IsReady s at old tests) (l : i < length tests) (is : x ≡ get_or tests i x) (done : Done s at rows tests i) where
  pub place_full : IsFull s at rows x.place
  place_full = done.full x.place (subst (λ (t : Test). IsUnder (take i tests) t.place) (sym is) (ready.order i x l))

  pub fits : x.base + x.count ≤ length old
  fits = subst (λ (t : Test). t.base + t.count ≤ length old) (sym is) (ready.fits i x l)

  holds_by : (b : Bool) → stands (App x.symbol) x.count (tree_at s (row_at rows x.place)) ≡ b → holds at x ≡ b
  holds_by b e = ap (λ t. stands (App x.symbol) x.count t) (sym place_full.tree) ∙ e

  pub fails_there : stands (App x.symbol) x.count (tree_at s (row_at rows x.place)) ≡ false → AreTested s at rows tests false
  fails_there e =
      record {
        root = done.full 0 (inl refl);
        yes = λ k. absurd (both_ways false refl k);
        no = λ k. list_all_at (λ (t : Test). holds at t) tests i x l (ap (λ (t : Test). holds at t) (sym is) ∙ holds_by false e);
      }

  pub done_more : (new : List Row) → stands (App x.symbol) x.count (tree_at s (row_at rows x.place)) ≡ true → Fills s (row_at rows x.place) x.base x.count rows new → Done s at new tests (i + 1)
  done_more new e f =
      let more : take (i + 1) tests ≡ take i tests ++ x ∷ [] = take_more tests i x l ∙ ap (λ t. take i tests ++ t ∷ []) (sym is) in
      let follow : HasKids at x.place x.count x.base = subst (λ (t : Test). HasKids at t.place t.count t.base) (sym is) (ready.follow i x l) in
      record {
        hold = list_all_more (λ (t : Test). holds at t) tests i x l ∙ and_from (all_hold at (take i tests)) (holds at (get_or tests i x)) done.hold (ap (λ (t : Test). holds at t) (sym is) ∙ holds_by true e);
        full = λ q u.
            f.full at x.place follow (sym place_full.tree) q
            (elim u [
              | inl z ↦ inl (done.full q (inl z))
              | inr t ↦ elim (Contains-push_cases (take i tests) x t.0 (subst (λ ts. Contains ts t.0) more t.1)) [
                | inl c ↦ inl (done.full q (inr ((t.0, c, t.2))))
                | inr y ↦ inr ((let k = subst (λ (w : Test). IsKid w q) (sym y) t.2 in (k.from, k.below)))
              ]
            ]);
      }

-- all tests were made
pub all_done : (s : Store) (at : ℕ → Tree) (rows : List Row) (tests : List Test) (i : ℕ) → length tests ≤ i → Done s at rows tests i → AreTested s at rows tests true
all_done s at rows tests i l d =
    let all : take i tests ≡ tests = take_all i tests l in
    record {
      root = d.full 0 (inl refl);
      yes = λ k. (ap (all_hold at) (sym all) ∙ d.hold, λ q u. d.full q (subst (λ ts. IsUnder ts q) (sym all) u));
      no = λ k. absurd (both_ways true k refl);
    }

-- what is read of a rule's shape
pub record Read (shapes : List Shape) (r : ℕ) (x : Shape) : Type 0 where
  pub tests : tests_at shapes r ≡ x.tests.items
  pub pairs : pairs_at shapes r ≡ x.pairs.items
  pub variables : variables_at shapes r ≡ x.variables.items

pub read_shape : (shapes : List Shape) (r : ℕ) (x : Shape) → r < length shapes → x ≡ get_or shapes r x → Read shapes r x
read_shape [] r x l e = absurd (omega arith)
read_shape (s ∷ ss) zero x l e = record { tests = ap (λ (y : Shape). y.tests.items) (sym e); pairs = ap (λ (y : Shape). y.pairs.items) (sym e); variables = ap (λ (y : Shape). y.variables.items) (sym e) }
read_shape (s ∷ ss) (suc r) x l e = let k = read_shape ss r x (omega arith) e in record { tests = k.tests; pairs = k.pairs; variables = k.variables }

-- a rule's tests may be made
pub is_ready : (a : Made) (s : Store) (rows : List Row) (m : Asked) (b : IsBegun a s rows m) (r : ℕ) → r < length a.shapes → IsReady s b.reading.at rows (tests_at a.shapes r)
is_ready a s rows m b r l =
    let h = b.automaton.shapes.each r l in
    let tests = tests_at a.shapes r in
    record {
      root = b.root;
      follow = λ k d i. b.reading.kids (get_or tests k d).place (get_or tests k d).count (get_or tests k d).base (h.bases k d i);
      order = h.order;
      fits = λ k d i. (let w = (b.automaton.readable.within (get_or tests k d).place (get_or tests k d).count (get_or tests k d).base (h.bases k d i)).1 in let p = b.automaton.places in let q = b.size in omega (arith, w, p, q));
    }

-- one rule of a part of a list, and the others
pub part_more : {A : Type 0} (xs : List A) (i to : ℕ) (d : A) → i < to → to ≤ length xs → part xs i to ≡ get_or xs i d ∷ part xs (i + 1) to
part_more xs i to d l w =
    let n : to - i ≡ suc (to - (i + 1)) = omega arith in
    ap (λ k. take k (drop i xs)) n ∙ ap (take (suc (to - (i + 1)))) (drop_more xs i d (omega arith))

pub part_none : {A : Type 0} (xs : List A) (i to : ℕ) → to ≤ i → part xs i to ≡ []
part_none xs i to l = let n : to - i ≡ 0 = omega arith in ap (λ k. take k (drop i xs)) n

-- the rules from a place on have the first match of all of a part
pub record Passed (a : Made) (s : Store) (rows : List Row) (m : Asked) (from to i : ℕ) : Type 0 where
  pub same : first_match m.rules m.tree (part a.rules from to) ≡ first_match m.rules m.tree (part a.rules i to)

pub passed_more : (a : Made) (s : Store) (rows : List Row) (m : Asked) (from to i r : ℕ) → i < to → to ≤ length a.rules → r ≡ get_or a.rules i r → match_at m.rules r m.tree ≡ None → Passed a s rows m from to i → Passed a s rows m from to (i + 1)
passed_more a s rows m from to i r l w e none p =
    record { same = p.same ∙ ap (first_match m.rules m.tree) (part_more a.rules i to r l w ∙ ap (λ q. q ∷ part a.rules (i + 1) to) (sym e)) ∙ first_later m r (part a.rules (i + 1) to) none }

pub passed_to : (a : Made) (s : Store) (rows : List Row) (m : Asked) (from to i r : ℕ) → i < to → to ≤ length a.rules → r ≡ get_or a.rules i r → IsMatch a s rows m r → Passed a s rows m from to i → IsAnswerOf (part a.rules from to) a s rows m (Some r)
passed_to a s rows m from to i r l w e is p =
    (p.same ∙ ap (first_match m.rules m.tree) (part_more a.rules i to r l w ∙ ap (λ q. q ∷ part a.rules (i + 1) to) (sym e)) ∙ first_there m r (part a.rules (i + 1) to) _ is.bound, is)

pub passed_all : (a : Made) (s : Store) (rows : List Row) (m : Asked) (from to i : ℕ) → to ≤ i → Passed a s rows m from to i → IsAnswerOf (part a.rules from to) a s rows m None
passed_all a s rows m from to i l p = p.same ∙ ap (first_match m.rules m.tree) (part_none a.rules i to l)

-- it stays begun as rows are filled
abbrev pub begun_later : (a : Made) (s : Store) (rows now : List Row) (m : Asked) (b : IsBegun a s rows m) → IsFull s b.reading.at now 0 → length now ≡ length rows → IsBegun a s now m
begun_later a s rows now m b root e =
    record { automaton = b.automaton; reading = b.reading; root = root; size = subst (λ n. a.places ≤ n) (sym e) b.size }
