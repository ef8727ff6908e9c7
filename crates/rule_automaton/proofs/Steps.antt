-- Steps of an automaton from a state: an answer, or a later state.
use Rattle.std.proofs.Common.{◌≡◌, ℕ, ◌+◌, ◌-◌, ◌<◌, List, [], ◌∷◌, length, drop, map, get_or, Option, Some, None, Bool, true, false, refl, sym, ◌∙◌, ap, arith, inl, inr, subst}
use Rattle.std.specs.Prelude.{◌&&◌, if◌then◌else◌, All, is_some}
use Rattle.std.specs.List.{list_all}
use Rattle.std.proofs.lemmas.Bool.{and_from, cases_Bool, both_ways, eq-eqb}
use Rattle.std.proofs.lemmas.List.Elements.{All-head, All-tail, All-cons, All-nil, All-take, All-drop, All-weaker}
use Rattle.std.proofs.lemmas.List.{length-take, get_or-take, get_or-drop}
use Rattle.term_model.specs.Tree.{Tree}
use Rattle.term_model.specs.declared.Row.{Row}
use Rattle.term_model.proofs.Equality.{tree_eq_sound, tree_eq_same}
use Rattle.terms_api.specs.Terms.{Store, IsHeld, IsSound, tree_at}
use Rattle.terms_api.proofs.Callers.{same_row}
use Rattle.rule_match.specs.Planned.{match_at}
use Rattle.rule_match.specs.Preorder.{left_at}
use Rattle.rule_match.proofs.Bindings.{same_number}
use Rattle.rule_automaton.specs.Shapes.{agrees, all_hold, all_agree, bound_by, IsUnder, IsShape, tests_at, pairs_at, variables_at}
use Rattle.rule_automaton.specs.Automata.{first_match, Made, part, rules_of, IsTested, GoesOn, IsRight, IsState}
use Rattle.rule_automaton.specs.Rows.{row_at, rows_at, IsFull}
use Rattle.rule_automaton.specs.Running.{Known, AreKnown, Asked, IsBegun, IsRun, IsMatch, IsAnswer, IsAnswerOf, have_one_row}
use Rattle.rule_automaton.proofs.Standing.{matches_as, under_full, all_below, hold_all}
use Rattle.rule_automaton.specs.declared.shapes.Test.{Test}
use Rattle.rule_automaton.specs.declared.shapes.Pair.{Pair}
use Rattle.rule_automaton.specs.declared.states.State.{State}
use Rattle.rule_automaton.specs.declared.states.Op.TheVariants.{Found, Compare}

-- rows of full places have the places' trees
trees_full : (s : Store) (at : ℕ → Tree) (rows : List Row) (qs : List ℕ) → All (IsFull s at rows) qs → map (tree_at s) (rows_at rows qs) ≡ map at qs
trees_full s at rows [] f = refl
trees_full s at rows (q ∷ qs) f =
    ap (λ t. t ∷ map (tree_at s) (rows_at rows qs)) (All-head (IsFull s at rows) q qs f).tree ∙ ap (λ ts. at q ∷ ts) (trees_full s at rows qs (All-tail (IsFull s at rows) q qs f))

held_full : (s : Store) (at : ℕ → Tree) (rows : List Row) (qs : List ℕ) → All (IsFull s at rows) qs → All (IsHeld s) (rows_at rows qs)
held_full s at rows [] f = All-nil (IsHeld s)
held_full s at rows (q ∷ qs) f = All-cons (IsHeld s) (row_at rows q) (rows_at rows qs) (All-head (IsFull s at rows) q qs f).held (held_full s at rows qs (All-tail (IsFull s at rows) q qs f))

-- equal trees have one row
one_row : (s : Store) (at : ℕ → Tree) (rows : List Row) (p : Pair) → IsSound s → IsFull s at rows p.first → IsFull s at rows p.second → have_one_row rows p ≡ agrees at p
one_row s at rows p sound f g =
    elim (cases_Bool (have_one_row rows p)) [
      | inl e ↦ e ∙ sym (tree_eq_same (at p.first) (at p.second) (sym f.tree ∙ ap (tree_at s) (same_number (row_at rows p.first) (row_at rows p.second) e) ∙ g.tree))
      | inr e ↦ elim (cases_Bool (agrees at p)) [
        | inr k ↦ e ∙ sym k
        | inl k ↦ absurd (both_ways (have_one_row rows p) e (let same = same_row s (row_at rows p.first) (row_at rows p.second) sound f.held g.held (f.tree ∙ tree_eq_sound (at p.first) (at p.second) k ∙ sym g.tree) in
            eq-eqb (row_at rows p.first).0 (row_at rows p.second).0 (ap (λ (r : Row). r.0) same)))
      ]
    ]

pub rows_agree : (s : Store) (at : ℕ → Tree) (rows : List Row) (ps : List Pair) → IsSound s → All (λ (p : Pair). IsFull s at rows p.first × IsFull s at rows p.second) ps → list_all (λ (p : Pair). have_one_row rows p) ps ≡ all_agree at ps
rows_agree s at rows [] sound f = refl
rows_agree s at rows (p ∷ ps) sound f =
    let h = All-head (λ (p : Pair). IsFull s at rows p.first × IsFull s at rows p.second) p ps f in
    ap (λ (b : Bool). b && list_all (λ (p : Pair). have_one_row rows p) ps) (one_row s at rows p sound h.0 h.1)
    ∙ ap (λ (b : Bool). agrees at p && b) (rows_agree s at rows ps sound (All-tail (λ (p : Pair). IsFull s at rows p.first × IsFull s at rows p.second) p ps f))

module _ (a : Made) (s : Store) (rows : List Row) (m : Asked) (b : IsBegun a s rows m) where
  shape : (r : ℕ) → r < length m.rules → IsShape b.automaton.table (left_at m.rules r) (tests_at a.shapes r) (pairs_at a.shapes r) (variables_at a.shapes r)
  shape r l = b.automaton.shapes.each r (omega (arith, b.automaton.shapes.count))

  same_as_shape : (r : ℕ) → r < length m.rules → match_at m.rules r m.tree ≡ bound_by b.reading.at (tests_at a.shapes r) (pairs_at a.shapes r) (variables_at a.shapes r)
  same_as_shape r l = matches_as m.rules a.shapes b.automaton.table b.automaton.readable shape m.tree b.reading r l

  -- All tests of the rule hold and its pairs agree: it matches, with the rows at its places.
  pub is_match : (now : List Row) (r : ℕ) → r < length m.rules → all_hold b.reading.at (tests_at a.shapes r) ≡ true → all_agree b.reading.at (pairs_at a.shapes r) ≡ true → ((q : ℕ) → IsUnder (tests_at a.shapes r) q → IsFull s b.reading.at now q) → IsMatch a s now m r
  is_match now r l hold agree full =
      let vars = variables_at a.shapes r in
      let full' : All (IsFull s b.reading.at now) vars = λ k d i. full (get_or vars k d) ((shape r l).variables_under k d i) in
      record {
        rule = l;
        bound =
            same_as_shape r l
            ∙ ap (λ (c : Bool). if c then Some (map b.reading.at vars) else None) (and_from (all_hold b.reading.at (tests_at a.shapes r)) (all_agree b.reading.at (pairs_at a.shapes r)) hold agree)
            ∙ ap Some (sym (trees_full s b.reading.at now vars full'));
        held = held_full s b.reading.at now vars full';
      }

  pub no_match : (r : ℕ) → r < length m.rules → (all_hold b.reading.at (tests_at a.shapes r) && all_agree b.reading.at (pairs_at a.shapes r)) ≡ false → match_at m.rules r m.tree ≡ None
  no_match r l e = same_as_shape r l ∙ ap (λ (c : Bool). if c then Some (map b.reading.at (variables_at a.shapes r)) else None) e

  pub pairs_full : (now : List Row) (r : ℕ) → r < length m.rules → ((q : ℕ) → IsUnder (tests_at a.shapes r) q → IsFull s b.reading.at now q) → All (λ (p : Pair). IsFull s b.reading.at now p.first × IsFull s b.reading.at now p.second) (pairs_at a.shapes r)
  pairs_full now r l full = λ k d i. (full (get_or (pairs_at a.shapes r) k d).first ((shape r l).pairs_under k d i).0, full (get_or (pairs_at a.shapes r) k d).second ((shape r l).pairs_under k d i).1)

-- the first of some rules, where it matches and where not
pub first_there : (m : Asked) (r : ℕ) (rs : List ℕ) (ts : List Tree) → match_at m.rules r m.tree ≡ Some ts → first_match m.rules m.tree (r ∷ rs) ≡ Some r
first_there m r rs ts e = ap (λ (o : Option (List Tree)). if is_some o then Some r else first_match m.rules m.tree rs) e

pub first_later : (m : Asked) (r : ℕ) (rs : List ℕ) → match_at m.rules r m.tree ≡ None → first_match m.rules m.tree (r ∷ rs) ≡ first_match m.rules m.tree rs
first_later m r rs e = ap (λ (o : Option (List Tree)). if is_some o then Some r else first_match m.rules m.tree rs) e

pub and_off : (b : Bool) → (b && false) ≡ false
and_off true = refl
and_off false = refl

module _ (a : Made) (s : Store) (rows : List Row) (m : Asked) (k : ℕ) (run : IsRun a s rows m k) where
  pub is_state : IsState run.begun.automaton.table a k run.state
  is_state = subst (IsState run.begun.automaton.table a k) (run.there run.state) (run.begun.automaton.states.states k run.state run.within)

  pub rules_within : All (λ r. r < length m.rules) (rules_of a run.state)
  rules_within =
      let n = run.begun.automaton.shapes.count in
      All-take (λ r. r < length m.rules) (run.state.to - run.state.from) (drop run.state.from a.rules)
      (All-drop (λ r. r < length m.rules) run.state.from a.rules (All-weaker (λ r. r < length a.shapes) (λ r. r < length m.rules) (λ r l. omega (arith, l, n)) a.rules run.begun.automaton.states.rules))

  -- the first rule of a state, of which all tests are at places below the bound
  module _ (rule : ℕ) (rest : List ℕ) (is : IsTested a run.state rule rest) where
    pub rule_within : rule < length m.rules
    rule_within = All-head (λ r. r < length m.rules) rule rest (subst (All (λ r. r < length m.rules)) is.rules rules_within)

    known : All (Known run.begun.reading.at (IsFull s run.begun.reading.at rows) run.state.bound) (tests_at a.shapes rule)
    known = All-head (λ r. All (Known run.begun.reading.at (IsFull s run.begun.reading.at rows) run.state.bound) (tests_at a.shapes r)) rule rest (subst (AreKnown a.shapes run.begun.reading.at (IsFull s run.begun.reading.at rows) run.state.bound) is.rules run.known)

    low : All (λ (x : Test). x.place < run.state.bound) (tests_at a.shapes rule)
    low = all_below run.state.bound (tests_at a.shapes rule) is.tested

    pub holds_there : all_hold run.begun.reading.at (tests_at a.shapes rule) ≡ true
    holds_there = hold_all run.begun.reading.at (IsFull s run.begun.reading.at rows) run.state.bound (tests_at a.shapes rule) known low

    pub full_there : (q : ℕ) → IsUnder (tests_at a.shapes rule) q → IsFull s run.begun.reading.at rows q
    full_there q u = under_full run.begun.reading.at (IsFull s run.begun.reading.at rows) run.begun.root (tests_at a.shapes rule) run.state.bound q known low u

    pub answers : all_agree run.begun.reading.at (pairs_at a.shapes rule) ≡ true → IsAnswer a s rows m (Some rule)
    answers agree =
        let it = is_match a s rows m run.begun rows rule rule_within holds_there agree full_there in
        (sym run.same ∙ ap (first_match m.rules m.tree) is.rules ∙ first_there m rule rest (map (tree_at s) (rows_at rows (variables_at a.shapes rule))) it.bound, it)

    pub goes_past : all_agree run.begun.reading.at (pairs_at a.shapes rule) ≡ false → (to : ℕ) → GoesOn a k to run.state.bound rest → IsRun a s rows m to
    goes_past differ to g =
        record {
          begun = run.begun;
          within = g.within;
          state = g.state;
          there = g.there;
          same =
              ap (first_match m.rules m.tree) g.has
              ∙ sym (ap (first_match m.rules m.tree) is.rules ∙ first_later m rule rest (no_match a s rows m run.begun rule rule_within (ap (λ (b : Bool). all_hold run.begun.reading.at (tests_at a.shapes rule) && b) differ ∙ and_off (all_hold run.begun.reading.at (tests_at a.shapes rule)))))
              ∙ run.same;
          known = rw (g.has, g.upto) (All-tail (λ r. All (Known run.begun.reading.at (IsFull s run.begun.reading.at rows) run.state.bound) (tests_at a.shapes r)) rule rest (subst (AreKnown a.shapes run.begun.reading.at (IsFull s run.begun.reading.at rows) run.state.bound) is.rules run.known));
        }

-- the first of a part of a list
part_first : (xs : List ℕ) (from to y d : ℕ) (ys : List ℕ) → part xs from to ≡ y ∷ ys → get_or xs from d ≡ y
part_first xs from to y d ys e =
    let n = ap length e in
    let m = length-take (to - from) (drop from xs) in
    let some : 0 < to - from = omega (arith, n, m) in
    let z : from + 0 ≡ from = omega arith in
    ap (λ i. get_or xs i d) (sym z) ∙ sym (get_or-drop from xs 0 d) ∙ sym (get_or-take (to - from) (drop from xs) 0 d some) ∙ ap (λ zs. get_or zs 0 d) e

-- the rule that is read at a state is the first of its rules
pub record Compared (a : Made) (s : Store) (rows : List Row) (m : Asked) (k : ℕ) (run : IsRun a s rows m k) (other q : ℕ) : Type 0 where
  pub rest : List ℕ
  pub tested : IsTested a run.state q rest
  pub goes : GoesOn a k other run.state.bound rest

pub compared : (a : Made) (s : Store) (rows : List Row) (m : Asked) (k : ℕ) (run : IsRun a s rows m k) (from other : ℕ) → ((d : State) → ((get_or a.states k d).from ≡ from) × ((get_or a.states k d).op ≡ Compare other)) → (q : ℕ) → q ≡ get_or a.rules from q → Compared a s rows m k run other q
compared a s rows m k run from other is q read =
    let there = run.there run.state in
    let its = is run.state in
    let r = subst (IsRight run.begun.automaton.table a k run.state) (sym (ap (λ (st : State). st.op) there) ∙ its.1) (is_state a s rows m k run).right in
    let at : run.state.from ≡ from = sym (ap (λ (st : State). st.from) there) ∙ its.0 in
    let e : r.0 ≡ q = sym (part_first a.rules run.state.from run.state.to r.0 q r.1 r.2.rules) ∙ ap (λ i. get_or a.rules i q) at ∙ sym read in
    record {
      rest = r.1;
      tested = subst (λ q. IsTested a run.state q r.1) e r.2;
      goes = r.3;
    }

pub found_at : (a : Made) (s : Store) (rows : List Row) (m : Asked) (k : ℕ) (run : IsRun a s rows m k) (st : State) → get_or a.states k st ≡ st → st.op ≡ Found → (q : ℕ) → q ≡ get_or a.rules st.from q → IsAnswer a s rows m (Some q)
found_at a s rows m k run st here op q read =
    let same : run.state ≡ st = sym (run.there st) ∙ here in
    let r = subst (IsRight run.begun.automaton.table a k run.state) (ap (λ (v : State). v.op) same ∙ op) (is_state a s rows m k run).right in
    let e : r.0 ≡ q = sym (part_first a.rules run.state.from run.state.to r.0 q r.1 r.2.rules) ∙ ap (λ i. get_or a.rules i q) (ap (λ (v : State). v.from) same) ∙ sym read in
    subst (λ q. IsAnswer a s rows m (Some q)) e (answers a s rows m k run r.0 r.1 r.2 (ap (all_agree run.begun.reading.at) r.3))

-- the answer of a state's rules is that of all
pub answer_of_all : (a : Made) (s : Store) (rows new : List Row) (m : Asked) (k : ℕ) (run : IsRun a s rows m k) (st : State) → get_or a.states k st ≡ st → (o : Option ℕ) → IsAnswerOf (rules_of a st) a s new m o → IsAnswer a s new m o
answer_of_all a s rows new m k run st here None e = sym run.same ∙ ap (λ (v : State). first_match m.rules m.tree (rules_of a v)) (sym (run.there st) ∙ here) ∙ e
answer_of_all a s rows new m k run st here (Some r) e = (sym run.same ∙ ap (λ (v : State). first_match m.rules m.tree (rules_of a v)) (sym (run.there st) ∙ here) ∙ e.0, e.1)

-- the first rule of a state stands in the list
pub tested_within : (a : Made) (s : Store) (rows : List Row) (m : Asked) (k : ℕ) (run : IsRun a s rows m k) (rule : ℕ) (rest : List ℕ) → IsTested a run.state rule rest → run.state.from < length a.rules
tested_within a s rows m k run rule rest is =
    let st = is_state a s rows m k run in
    let w = st.within in
    let n = ap length is.rules in
    let l = length-take (run.state.to - run.state.from) (drop run.state.from a.rules) in
    omega (arith, n, l, w)

pub first_within : (a : Made) (s : Store) (rows : List Row) (m : Asked) (k : ℕ) (run : IsRun a s rows m k) (from other : ℕ) → ((d : State) → ((get_or a.states k d).from ≡ from) × ((get_or a.states k d).op ≡ Compare other)) → from < length a.rules
first_within a s rows m k run from other is =
    let there = run.there run.state in
    let its = is run.state in
    let r = subst (IsRight run.begun.automaton.table a k run.state) (sym (ap (λ (st : State). st.op) there) ∙ its.1) (is_state a s rows m k run).right in
    let at : run.state.from ≡ from = sym (ap (λ (st : State). st.from) there) ∙ its.0 in
    subst (λ i. i < length a.rules) at (tested_within a s rows m k run r.0 r.1 r.2)

pub found_within : (a : Made) (s : Store) (rows : List Row) (m : Asked) (k : ℕ) (run : IsRun a s rows m k) (st : State) → get_or a.states k st ≡ st → st.op ≡ Found → st.from < length a.rules
found_within a s rows m k run st here op =
    let same : run.state ≡ st = sym (run.there st) ∙ here in
    let r = subst (IsRight run.begun.automaton.table a k run.state) (ap (λ (v : State). v.op) same ∙ op) (is_state a s rows m k run).right in
    subst (λ (v : State). v.from < length a.rules) same (tested_within a s rows m k run r.0 r.1 r.2)
