-- One more way, and one more state.
use Rattle.std.proofs.Common.{◌≡◌, ℕ, ◌+◌, ◌-◌, ◌<◌, ◌≤◌, List, [], ◌∷◌, ◌++◌, length, take, drop, map, get_or, Some, true, refl, sym, ◌∙◌, ap, arith, inl, inr, subst}
use Rattle.std.specs.Prelude.{◌||◌, ◌==◌, not, nat_lt, nat_le, All, Contains}
use Rattle.std.proofs.lemmas.Bool.{and_from, eq-eqb}
use Rattle.std.specs.List.{list_all}
use Rattle.std.proofs.lemmas.List.{length-append, length_push, length-drop, append-nil, take_all, take_more, drop_all, drop_at, map_push, drop-append-le, get_or_append_left, get_or_push}
use Rattle.std.proofs.lemmas.List.Elements.{All-append, All-cons, All-nil, All-filter, All-contains, Contains-get_or, Contains-append_left, Contains-push, Contains-push_cases}
use Rattle.rule_automaton.specs.Places.{Tabled}
use Rattle.rule_automaton.specs.Shapes.{tests_at}
use Rattle.rule_automaton.specs.Automata.{Made, part, rules_of, asks_for, is_allowed, kept, passing, way_key, AreInOrder, GoesOn, IsWay, IsRight, AreStates}
use Rattle.rule_automaton.specs.Building.{with_state, with_way, way_to, AreBased, Continues, Partway, IsLeast, ReadsOn}
use Rattle.rule_automaton.specs.Asking.{word_key, AreWords}
use Rattle.rule_automaton.specs.declared.states.Node.{Node}
use Rattle.std.specs.List.Sorted.{IsNonDecreasingBy}
use Rattle.rule_automaton.proofs.Ways.{in_order_by}
use Rattle.rule_automaton.proofs.Asked.{asked_through}
use Rattle.rule_automaton.proofs.Growing.{part_front, IsNew, way_grown, grown}
use Rattle.rule_automaton.specs.declared.shapes.Test.{Test}
use Rattle.rule_automaton.specs.declared.shapes.Shape.{Shape}
use Rattle.rule_automaton.specs.declared.states.State.{State}
use Rattle.rule_automaton.specs.declared.states.Way.{Way}
use Rattle.rule_automaton.specs.declared.states.Op.TheVariants.{Turn, Read}

-- nothing was added yet
pub none_added : (table : Tabled) (a : Made) → AreStates table a → Continues table a a
none_added table a are =
    record { shapes = refl; places = refl; are = are; count = omega arith; longer = omega arith; states = λ k d l. refl; same = λ st l k. refl }

pub no_way : (table : Tabled) (a : Made) (rules : List ℕ) (place first : ℕ) → AreStates table a → first ≡ length a.ways → Partway table a a rules place first []
no_way table a rules place first are e =
    record {
      continues = none_added table a are;
      start = omega (arith, e);
      ways = λ at st l k m n i d j. absurd (omega (arith, e, j, length-drop first a.ways));
      keys = ap (map way_key) (drop_all first a.ways (omega (arith, e)));
      all = λ t c. absurd (let l = c.1 in omega arith);
    }

-- the new state's rules are the last of the list
new_rules : (xs ys : List ℕ) → part (xs ++ ys) (length xs) (length (xs ++ ys)) ≡ ys
new_rules xs ys =
    let n = length-append xs ys in
    ap (take (length (xs ++ ys) - length xs)) (drop_at xs ys (length xs) refl) ∙ take_all (length (xs ++ ys) - length xs) ys (omega (arith, n))

module _ (table : Tabled) (a b : Made) (c : Continues table a b) (rs : List ℕ) (bound : ℕ) (ws : List Way) (fits : All (λ r. r < length b.shapes) rs) where
  abbrev pub st_new : State
  st_new = record { from = length b.rules; to = length (b.rules ++ rs); bound = bound; op = Turn }

  abbrev pub more : Made
  more = record { shapes = b.shapes; rules = b.rules ++ rs; states = b.states ++ st_new ∷ []; ways = b.ways ++ ws; places = b.places; roots = b.roots }

  new_is : IsNew (b.rules ++ rs) st_new
  new_is = record { order = (let n = length-append b.rules rs in omega (arith, n)); within = omega arith; turn = refl }

  are_new : (k : ℕ) (d : State) → k < length (st_new ∷ []) → IsNew (b.rules ++ rs) (get_or (st_new ∷ []) k d)
  are_new k d l = let z : 0 ≡ k = omega (arith, l) in subst (λ i. IsNew (b.rules ++ rs) (get_or (st_new ∷ []) i d)) z new_is

  pub more_continues : Continues table a more
  more_continues =
      record {
        shapes = c.shapes;
        places = c.places;
        are = grown table b.shapes b.rules rs b.states (st_new ∷ []) b.ways ws b.places b.roots c.are fits are_new;
        count = (let n = c.count in omega (arith, n, length_push b.states st_new));
        longer = (let n = c.longer in omega (arith, n, length-append b.rules rs));
        states = λ k d l. get_or_append_left b.states (st_new ∷ []) d k (let n = c.count in omega (arith, n, l)) ∙ c.states k d l;
        same = λ st l k. part_front b.rules rs st.from st.to l (let n = c.longer in omega (arith, n, k)) ∙ c.same st l k;
      }

  -- it goes on at the new state
  pub goes_new : (at : ℕ) → at < length a.states → GoesOn more at (length b.states) bound rs
  goes_new at l =
      record {
        later = (let n = c.count in omega (arith, n, l));
        state = st_new;
        there = λ d. get_or_push b.states st_new d (length b.states) refl;
        within = omega (arith, length_push b.states st_new);
        has = new_rules b.rules rs;
        upto = refl;
      }

  old_ways : (at : ℕ) (st : State) (place first : ℕ) → st.from ≤ st.to → st.to ≤ length a.rules → All (IsWay table b at st place) (drop first b.ways) → All (IsWay table more at st place) (drop first b.ways)
  old_ways at st place first l k all = λ i d j. way_grown table b.shapes b.rules rs b.states (st_new ∷ []) b.ways ws b.places b.roots c.are at st l (let n = c.longer in omega (arith, n, k)) place (get_or (drop first b.ways) i d) (all i d j)

-- a way of a word asks for it
its_own : (word t : Test) (w : Way) (to : ℕ) → word ≡ t → w ≡ record { symbol = word.symbol; count = word.count; base = word.base; to = to } → asks_for w.symbol w.count t ≡ true
its_own word t w to e is =
    ap (λ (v : Way). asks_for v.symbol v.count t) is ∙ ap (λ (u : Test). asks_for word.symbol word.count u) (sym e) ∙ and_from (word.symbol.0 == word.symbol.0) (word.count == word.count) (eq-eqb word.symbol.0 word.symbol.0 refl) (eq-eqb word.count word.count refl)

-- one more way, to a new state of the rules that it keeps
pub way_more : (table : Tabled) (a b : Made) (rules : List ℕ) (place first : ℕ) (words : List Test) (word : Test) → Partway table a b rules place first words → All (λ r. r < length b.shapes) rules → table.base_of place word.count ≡ Some word.base → (w : Way) → w ≡ record { symbol = word.symbol; count = word.count; base = word.base; to = length b.states } → Partway table a (with_way (with_state b (kept b.shapes place word.symbol word.count rules) (place + 1)) w) rules place first (words ++ word ∷ [])
way_more table a b rules place first words word p fits base w is =
    let rs = kept b.shapes place word.symbol word.count rules in
    let c = p.continues in
    let few : All (λ r. r < length b.shapes) rs = All-filter (λ r. list_all (λ (t : Test). is_allowed place word.symbol word.count t) (tests_at b.shapes r)) (λ r. r < length b.shapes) rules fits in
    let now : Made = with_way (with_state b rs (place + 1)) w in
    let split : drop first (b.ways ++ w ∷ []) ≡ drop first b.ways ++ w ∷ [] = drop-append-le first b.ways (w ∷ []) p.start in
    record {
      continues = more_continues table a b c rs (place + 1) (w ∷ []) few;
      start = (let n = p.start in omega (arith, n, length_push b.ways w));
      ways = λ at st l k m e.
          subst (All (IsWay table now at st place)) (sym split)
          (All-append (IsWay table now at st place) (drop first b.ways) (w ∷ []) (old_ways table a b c rs (place + 1) (w ∷ []) few at st place first k m (p.ways at st l k m e))
          (All-cons (IsWay table now at st place) w [] (record {
            base = subst (λ (v : Way). table.base_of place v.count ≡ Some v.base) (sym is) base;
            goes = subst (λ (v : Way). GoesOn now at v.to (place + 1) (kept b.shapes place v.symbol v.count (rules_of now st))) (sym is) (subst (λ qs. GoesOn now at (length b.states) (place + 1) (kept b.shapes place word.symbol word.count qs)) (sym ((more_continues table a b c rs (place + 1) (w ∷ []) few).same st k m ∙ e)) (goes_new table a b c rs (place + 1) (w ∷ []) few at l));
          }) (All-nil (IsWay table now at st place))));
      keys =
          ap (map way_key) split
          ∙ map_push way_key (drop first b.ways) w
          ∙ ap (λ (v : Way). map way_key (drop first b.ways) ++ way_key v ∷ []) is
          ∙ ap (λ ks. ks ++ word_key word ∷ []) p.keys
          ∙ sym (map_push word_key words word);
      all = λ t i.
          elim (Contains-push_cases words word t i) [
            | inl o ↦ (let h = p.all t o in (h.0, subst (λ vs. Contains vs h.0) (sym split) (Contains-append_left (drop first b.ways) (w ∷ []) h.0 h.1), h.2))
            | inr o ↦ (w, subst (λ vs. Contains vs w) (sym split) (Contains-push (drop first b.ways) w), its_own word t w (length b.states) o is)
          ];
    }

-- all words have their ways, and the others their state
module _ (table : Tabled) (a b : Made) (rules : List ℕ) (place first : ℕ) (words : List Test) (p : Partway table a b rules place first words) (are : AreWords a.shapes rules place words) (order : IsNonDecreasingBy word_key words) (fits : All (λ r. r < length b.shapes) rules) where
  abbrev rest : List ℕ
  rest = passing b.shapes place rules

  few : All (λ r. r < length b.shapes) rest
  few = All-filter (λ r. list_all (λ (t : Test). not (t.place == place)) (tests_at b.shapes r)) (λ r. r < length b.shapes) rules fits

  abbrev last_made : Made
  last_made = more table a b p.continues rest (place + 1) [] few

  abbrev node : Node
  node = record { place = place; first = first; last = length b.ways; other = length b.states }

  all_ways : part (b.ways ++ []) first (length b.ways) ≡ drop first b.ways
  all_ways = ap (λ ws. part ws first (length b.ways)) (append-nil b.ways) ∙ take_all (length b.ways - first) (drop first b.ways) (omega (arith, length-drop first b.ways))

  reads : (at : ℕ) (st : State) → at < length a.states → st.from ≤ st.to → st.to ≤ length a.rules → rules_of a st ≡ rules → IsLeast a.shapes rules st.bound place → IsRight table last_made at st (Read node)
  reads at st l k n e least =
      let c = p.continues in
      let m = more_continues table a b c rest (place + 1) [] few in
      let same : rules_of last_made st ≡ rules = m.same st k n ∙ e in
      let shapes = sym c.shapes in
      record {
        rule = least.rule;
        rule_in = subst (λ rs. Contains rs least.rule) (sym same) least.rule_in;
        test = least.test;
        test_in = subst (λ (ss : List Shape). Contains (tests_at ss least.rule) least.test) shapes least.test_in;
        asks = least.asks;
        least = subst (λ rs. All (λ r. list_all (λ (t : Test). nat_lt t.place st.bound || nat_le place t.place) (tests_at b.shapes r) ≡ true) rs) (sym same) (subst (λ (ss : List Shape). All (λ r. list_all (λ (t : Test). nat_lt t.place st.bound || nat_le place t.place) (tests_at ss r) ≡ true) rules) shapes least.least);
        order = p.start;
        within = (let z = length-append b.ways [] in omega (arith, z));
        sorted = subst AreInOrder (sym all_ways) (in_order_by way_key word_key (drop first b.ways) words least.test p.keys order);
        ways = subst (All (IsWay table last_made at st place)) (sym all_ways) (old_ways table a b c rest (place + 1) [] few at st place first k n (p.ways at st l k n e));
        covered = λ r t i j q.
            let word = are.all r t (subst (λ rs. Contains rs r) same i) (subst (λ (ss : List Shape). Contains (tests_at ss r) t) c.shapes j) q in
            let way = p.all word.0 word.1 in
            (way.0, subst (λ ws. Contains ws way.0) (sym all_ways) way.1, asked_through way.0.symbol way.0.count t word.0 way.2 word.2);
        none = subst (λ rs. GoesOn last_made at (length b.states) (place + 1) (passing b.shapes place rs)) (sym same) (goes_new table a b c rest (place + 1) [] few at l);
      }

  pub reads_on : ReadsOn table a (with_state b rest (place + 1)) rules place (Read node)
  reads_on =
      subst (λ (ws : List Way). ReadsOn table a (record { shapes = b.shapes; rules = b.rules ++ rest; states = b.states ++ st_new table a b p.continues rest (place + 1) [] few ∷ []; ways = ws; places = b.places; roots = b.roots }) rules place (Read node)) (append-nil b.ways)
      (record { continues = more_continues table a b p.continues rest (place + 1) [] few; right = reads })

-- the base of a word is that of its place
pub base_at : (table : Tabled) (shapes : List Shape) (rules : List ℕ) (place : ℕ) (words : List Test) → AreWords shapes rules place words → AreBased table shapes → All (λ r. r < length shapes) rules → (w : Test) → Contains words w → table.base_of place w.count ≡ Some w.base
base_at table shapes rules place words are based fits w i =
    let o = are.only w i in
    let l = All-contains (λ r. r < length shapes) rules o.0 fits o.1 in
    subst (λ q. table.base_of q w.count ≡ Some w.base) o.3 (All-contains (λ (t : Test). table.base_of t.place t.count ≡ Some t.base) (tests_at shapes o.0) w (based o.0 l) o.2)

-- the way of the word at a place of the list
pub way_at : (table : Tabled) (a b : Made) (rules : List ℕ) (place first : ℕ) (words : List Test) (j : ℕ) (d : Test) → j < length words → AreWords a.shapes rules place words → AreBased table a.shapes → All (λ r. r < length a.shapes) rules → Partway table a b rules place first (take j words) → (now : Made) → now ≡ with_way (with_state b (kept b.shapes place (get_or words j d).symbol (get_or words j d).count rules) (place + 1)) (way_to (get_or words j d) (length b.states)) → Partway table a now rules place first (take (j + 1) words)
way_at table a b rules place first words j d l are based fits p now is =
    let w = get_or words j d in
    let fits' : All (λ r. r < length b.shapes) rules = subst (λ (ss : List Shape). All (λ r. r < length ss) rules) (sym p.continues.shapes) fits in
    let base = base_at table a.shapes rules place words are based fits w (Contains-get_or words j d l) in
    subst (λ (v : Made). Partway table a v rules place first (take (j + 1) words)) (sym is)
    (subst (λ ws. Partway table a (with_way (with_state b (kept b.shapes place w.symbol w.count rules) (place + 1)) (way_to w (length b.states))) rules place first ws) (sym (take_more words j d l))
    (way_more table a b rules place first (take j words) w p fits' base (way_to w (length b.states)) refl))

-- all words have their ways: the place is read
pub reads_end : (table : Tabled) (a b : Made) (rules : List ℕ) (place first : ℕ) (words : List Test) (j : ℕ) → length words ≤ j → Partway table a b rules place first (take j words) → AreWords a.shapes rules place words → IsNonDecreasingBy word_key words → All (λ r. r < length a.shapes) rules → (last other : ℕ) → last ≡ length b.ways → other ≡ length b.states → (rs : List ℕ) → rs ≡ passing b.shapes place rules → (now : Made) → now ≡ with_state b rs (place + 1) → ReadsOn table a now rules place (Read (record { place = place; first = first; last = last; other = other }))
reads_end table a b rules place first words j l p are order fits last other e f rs g now h =
    let fits' : All (λ r. r < length b.shapes) rules = subst (λ (ss : List Shape). All (λ r. r < length ss) rules) (sym p.continues.shapes) fits in
    let all = subst (Partway table a b rules place first) (take_all j words l) p in
    let it = reads_on table a b rules place first words all are order fits' in
    let is : now ≡ with_state b (passing b.shapes place rules) (place + 1) = h ∙ ap (λ qs. with_state b qs (place + 1)) g in
    subst (λ (v : Made). ReadsOn table a v rules place (Read (record { place = place; first = first; last = last; other = other }))) (sym is)
    (subst (λ i. ReadsOn table a (with_state b (passing b.shapes place rules) (place + 1)) rules place (Read (record { place = place; first = first; last = i; other = other }))) (sym e)
    (subst (λ i. ReadsOn table a (with_state b (passing b.shapes place rules) (place + 1)) rules place (Read (record { place = place; first = first; last = length b.ways; other = i }))) (sym f) it))

-- rules that are tried in turn are right at every state
pub reads_turn : (table : Tabled) (a : Made) (rules : List ℕ) (place : ℕ) → AreStates table a → ReadsOn table a a rules place Turn
reads_turn table a rules place are = record { continues = none_added table a are; right = λ at st l m n e least. tt }
