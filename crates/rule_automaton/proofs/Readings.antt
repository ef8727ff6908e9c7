-- Reading a node: on by its way, or by none. And the first state.
use Rattle.std.proofs.Common.{◌≡◌, ℕ, zero, suc, ◌+◌, ◌<◌, ◌≤◌, List, [], ◌∷◌, length, set, get_or, Some, Bool, true, false, refl, sym, ◌∙◌, ap, arith, inl, inr, subst}
use Rattle.std.specs.Prelude.{◌⊎◌, All, Contains}
use Rattle.std.proofs.lemmas.List.{length-set, get_or-set_same}
use Rattle.std.proofs.lemmas.List.Elements.{All-contains}
use Rattle.term_model.specs.Tree.{Tree, root, arguments}
use Rattle.term_model.specs.declared.Row.{Row}
use Rattle.term_model.specs.declared.Head.{Head}
use Rattle.term_model.specs.declared.Head.TheVariants.{App}
use Rattle.terms_api.specs.Terms.{Store, IsHeld, tree_at}
use Rattle.rewrite_model.specs.Rule.{Rule}
use Rattle.rule_match.specs.Preorder.{left_at}
use Rattle.rule_match.specs.Stands.{stands}
use Rattle.rule_match.specs.Groups.{head_at}
use Rattle.rule_match.proofs.Pushing.{stands_by}
use Rattle.rule_automaton.specs.Shapes.{IsShape, tests_at, pairs_at, variables_at}
use Rattle.rule_automaton.specs.Automata.{first_match, Made, part, rules_of, AreInOrder, IsWay, IsReading, IsRight, IsStart, HasStarts}
use Rattle.rule_automaton.specs.Rows.{row_at, IsFull, Fills}
use Rattle.rule_automaton.specs.Running.{Known, AreKnown, Asked, asked, IsBegun, IsRun, is_way_of}
use Rattle.rule_automaton.proofs.Standing as standing
use Rattle.rule_automaton.proofs.Steps.{is_state, rules_within}
use Rattle.rule_automaton.specs.declared.shapes.Test.{Test}
use Rattle.rule_automaton.specs.declared.states.State.{State}
use Rattle.rule_automaton.specs.declared.states.Way.{Way}
use Rattle.rule_automaton.specs.declared.states.Op.TheVariants as op

-- what is known stays known as more places are full
known_more : (at : ℕ → Tree) (full more : ℕ → Type 0) (bound : ℕ) → ((q : ℕ) → full q → more q) → (x : Test) → Known at full bound x → Known at more bound x
known_more at full more bound h x k = record { stand = k.stand; kids = λ l q u. h q (k.kids l q u) }

-- a way's symbol stands where the head and the number of arguments are the way's
pub way_stands : (h : Head) (n : ℕ) (w : Way) (t : Tree) (b : Bool) → root t ≡ Some h → n ≡ length (arguments t) → is_way_of h n w ≡ b → stands (App w.symbol) w.count t ≡ b
way_stands h n w t b e k f = stands_by (App w.symbol) h w.count n t e k ∙ f

module _ (a : Made) (s : Store) (rows : List Row) (m : Asked) (k : ℕ) (run : IsRun a s rows m k) (place first last other : ℕ) (is_op : (d : State) → (get_or a.states k d).op ≡ op.Read (record { place = place; first = first; last = last; other = other })) where
  reading : IsReading run.begun.automaton.table a k run.state place first last other
  reading = subst (IsRight run.begun.automaton.table a k run.state) (sym (ap (λ (st : State). st.op) (run.there run.state)) ∙ is_op run.state) (is_state a s rows m k run).right

  pub order : first ≤ last
  order = reading.order

  pub within_ways : last ≤ length a.ways
  within_ways = reading.within

  pub ways_in_order : AreInOrder (part a.ways first last)
  ways_in_order = reading.sorted

  shape : (r : ℕ) → r < length m.rules → IsShape run.begun.automaton.table (left_at m.rules r) (tests_at a.shapes r) (pairs_at a.shapes r) (variables_at a.shapes r)
  shape r l = run.begun.automaton.shapes.each r (let n = run.begun.automaton.shapes.count in omega (arith, l, n))

  -- the node's place is full
  pub place_full : IsFull s run.begun.reading.at rows place
  place_full = standing.place_full m.rules a.shapes run.begun.automaton.table run.begun.automaton.readable shape m.tree run.begun.reading (IsFull s run.begun.reading.at rows) run.begun.root a refl k run.state place first last other (rules_within a s rows m k run) reading run.known

  pub goes_else : All (λ (w : Way). stands (App w.symbol) w.count (tree_at s (row_at rows place)) ≡ false) (part a.ways first last) → (k < other) × IsRun a s rows m other
  goes_else apart =
      let no' : All (λ (w : Way). stands (App w.symbol) w.count (run.begun.reading.at place) ≡ false) (part a.ways first last) = λ i d l. ap (stands (App (get_or (part a.ways first last) i d).symbol) (get_or (part a.ways first last) i d).count) (sym place_full.tree) ∙ apart i d l in
      let g = reading.none in (
        g.later,
        record {
          begun = run.begun;
          within = g.within;
          state = g.state;
          there = g.there;
          same = ap (first_match m.rules m.tree) g.has ∙ standing.same_rest m.rules a.shapes run.begun.automaton.table run.begun.automaton.readable shape m.tree run.begun.reading (IsFull s run.begun.reading.at rows) run.begun.root a refl k run.state place first last other (rules_within a s rows m k run) reading run.known no' ∙ run.same;
          known = rw (g.has, g.upto) (standing.known_else m.rules a.shapes run.begun.automaton.table run.begun.automaton.readable shape m.tree run.begun.reading (IsFull s run.begun.reading.at rows) run.begun.root a refl k run.state place first last other (rules_within a s rows m k run) reading run.known no');
        },
      )

  module _ (w : Way) (there : Contains (part a.ways first last) w) where
    goes : IsWay run.begun.automaton.table a k run.state place w
    goes = All-contains (IsWay run.begun.automaton.table a k run.state place) (part a.ways first last) w reading.ways there

    pub way_fits : w.base + w.count ≤ length rows
    way_fits =
        let f = (run.begun.automaton.readable.within place w.count w.base goes.base).1 in
        let p = run.begun.automaton.places in
        let q = run.begun.size in
        omega (arith, f, p, q)

    module _ (stand : stands (App w.symbol) w.count (tree_at s (row_at rows place)) ≡ true) (new : List Row) (fills : Fills s (row_at rows place) w.base w.count rows new) where
      fuller : (q : ℕ) → IsFull s run.begun.reading.at rows q ⊎ ((w.base ≤ q) × (q < w.base + w.count)) → IsFull s run.begun.reading.at new q
      fuller = fills.full run.begun.reading.at place (run.begun.reading.kids place w.count w.base goes.base) (sym place_full.tree)

      known : AreKnown a.shapes run.begun.reading.at (IsFull s run.begun.reading.at new) run.state.bound (rules_of a run.state)
      known = λ i d l j e n. known_more run.begun.reading.at (IsFull s run.begun.reading.at rows) (IsFull s run.begun.reading.at new) run.state.bound (λ q f. fuller q (inl f)) (get_or (tests_at a.shapes (get_or (rules_of a run.state) i d)) j e) (run.known i d l j e n)

      stand' : stands (App w.symbol) w.count (run.begun.reading.at place) ≡ true
      stand' = ap (stands (App w.symbol) w.count) (sym place_full.tree) ∙ stand

      pub goes_way : (k < w.to) × IsRun a s new m w.to
      goes_way =
          let g = goes.goes in (
            g.later,
            record {
              begun = record { automaton = run.begun.automaton; reading = run.begun.reading; root = fuller 0 (inl run.begun.root); size = (let q = run.begun.size in let z = fills.size in omega (arith, q, z)) };
              within = g.within;
              state = g.state;
              there = g.there;
              same = ap (first_match m.rules m.tree) g.has ∙ standing.same_match m.rules a.shapes run.begun.automaton.table run.begun.automaton.readable shape m.tree run.begun.reading (IsFull s run.begun.reading.at new) (fuller 0 (inl run.begun.root)) a refl k run.state place first last other (rules_within a s rows m k run) reading known w goes stand' (λ q l n. fuller q (inr ((l, n)))) ∙ run.same;
              known = rw (g.has, g.upto) (standing.known_by_way m.rules a.shapes run.begun.automaton.table run.begun.automaton.readable shape m.tree run.begun.reading (IsFull s run.begun.reading.at new) (fuller 0 (inl run.begun.root)) a refl k run.state place first last other (rules_within a s rows m k run) reading known w goes stand' (λ q l n. fuller q (inr ((l, n)))));
            },
          )

-- one of some
record At {A : Type 0} (xs : List A) (i : ℕ) : Type 0 where
  one : A
  there : (d : A) → get_or xs i d ≡ one

at_of : {A : Type 0} (xs : List A) (i : ℕ) → i < length xs → At xs i
at_of [] i l = absurd (omega arith)
at_of (x ∷ xs) zero l = record { one = x; there = λ d. refl }
at_of (x ∷ xs) (suc i) l = let r = at_of xs i (omega arith) in record { one = r.one; there = r.there }

-- with the root's row at place 0 it begins, and stands at the state of the rule from which on it
-- searches
module _ (a : Made) (s : Store) (rows : List Row) (rules : List Rule) (row : Row) (from : ℕ) (au : HasStarts rules a) (held : IsHeld s row) (size : a.places ≤ length rows) where
  pub root_fits : 0 < length rows
  root_fits = let p = au.places in let q = au.readable.some in omega (arith, p, q, size)

  pub begins : IsBegun a s (set rows 0 row) (asked rules (tree_at s row) from)
  begins =
      let r = au.readable.read (tree_at s row) in
      let e : row_at (set rows 0 row) 0 ≡ row = get_or-set_same rows 0 row (record { 0 = 0 }) root_fits in
      let n = length-set rows 0 row in
      record {
        automaton = au;
        reading = r;
        root = record { within = (let l = root_fits in omega (arith, l, n)); held = subst (IsHeld s) (sym e) held; tree = ap (tree_at s) e ∙ sym r.root };
        size = omega (arith, size, n);
      }

  pub starts : from < length rules → root (tree_at s row) ≡ head_at rules from → IsRun a s (set rows 0 row) (asked rules (tree_at s row) from) from
  starts l head =
      let w : from < length a.states = (let n = au.count in omega (arith, l, n)) in
      let f = at_of a.states from w in
      let st = f.one in
      let it = subst (IsStart rules a.rules from) (f.there st) (au.starts from st l) in
      let zero = it.bound in
      record {
        begun = begins;
        within = w;
        state = st;
        there = f.there;
        same = it.same (tree_at s row) head;
        known = λ i d l j e n. record { stand = λ k. absurd (omega (arith, k, zero)); kids = λ k. absurd (omega (arith, k, zero)) };
      }
