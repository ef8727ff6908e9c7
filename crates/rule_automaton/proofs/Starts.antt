-- The states at which a search begins.
use Rattle.std.proofs.Common.{◌≡◌, ℕ, zero, suc, ◌+◌, ◌-◌, ◌<◌, ◌≤◌, List, [], ◌∷◌, ◌++◌, length, drop, set, map, get_or, Option, Some, None, refl, sym, ◌∙◌, ap, arith, inl, inr, subst}
use Rattle.std.specs.Prelude.{All, IfSome, unwrap_or, is_some, if◌then◌else◌}
use Rattle.std.proofs.lemmas.Bool.{cases_lt, cases_eq}
use Rattle.std.proofs.lemmas.Option.{IfSome_then}
use Rattle.std.proofs.lemmas.List.{append-nil, append_assoc, length-append, length-drop, length-map, length-set, take_all, drop-append-le, drop_all, get_or_append_left, get_or-append_right, get_or-set_same, get_or-set_other}
use Rattle.std.proofs.lemmas.List.Elements.{All-append, All-head, All-tail, All-weaker}
use Rattle.term_model.specs.Tree.{Tree, Leaf, Node, root}
use Rattle.term_model.specs.declared.Head.{Head}
use Rattle.rewrite_model.specs.Rule.{Rule, IsRule, IsNode}
use Rattle.rule_match.specs.Planned.{match_at}
use Rattle.rule_match.specs.Groups.{head_at, IsNext, MatchNone}
use Rattle.rule_automaton.specs.Places.{Tabled, IsTable}
use Rattle.rule_automaton.specs.Shapes.{HaveShapes, numbers}
use Rattle.rule_automaton.specs.Automata.{first_match, Made, part, IsRight, HasStarts}
use Rattle.rule_automaton.specs.Starting.{HaveFirst, HavePassed, in_turn_from, BeginsInTurn, AreStarts, AddsGroup}
use Rattle.rule_automaton.proofs.Laying.{All-numbers}
use Rattle.rule_automaton.proofs.Growing.{part_front}
use Rattle.rule_automaton.specs.declared.shapes.Shape.{Shape}
use Rattle.rule_automaton.specs.declared.states.State.{State}
use Rattle.rule_automaton.specs.declared.states.Way.{Way}

pub length-numbers : (n count : ℕ) → length (numbers n count) ≡ count
length-numbers n zero = refl
length-numbers n (suc count) = let r = length-numbers (n + 1) count in omega (arith, r)

-- a rule of a plan has a head
node_root : (p : Tree) → IsNode p → (h : Head) × (root p ≡ Some h)
node_root (Leaf x) n = absurd n
node_root (Node h ts) n = (h, refl)

pub has_head : (rules : List Rule) (k : ℕ) → All IsRule rules → k < length rules → (h : Head) × (head_at rules k ≡ Some h)
has_head [] k all l = absurd (omega arith)
has_head (r ∷ rs) zero all l = node_root r.left (All-head IsRule r rs all).node
has_head (r ∷ rs) (suc k) all l = has_head rs k (All-tail IsRule r rs all) (omega arith)

head_within : (rules : List Rule) (k : ℕ) (h : Head) → head_at rules k ≡ Some h → k < length rules
head_within [] k h e = cc
head_within (r ∷ rs) zero h e = omega arith
head_within (r ∷ rs) (suc k) h e = let l = head_within rs k h e in omega (arith, l)

-- the next rule of a rule's head
pub next_there : (rules : List Rule) (rule : ℕ) (h : Head) (next : Option ℕ) → head_at rules rule ≡ Some h → IsNext rules h (rule + 1) next → IfSome next (λ k. (rule < k) × (k < length rules) × (head_at rules k ≡ head_at rules rule))
next_there rules rule h next e is = IfSome_then next is.found (λ k p. (omega (arith, p.0), head_within rules k h p.1, p.1 ∙ sym e))

pub next_passed : (rules : List Rule) (rule : ℕ) (h : Head) (next : Option ℕ) → head_at rules rule ≡ Some h → MatchNone rules h (rule + 1) next → HavePassed rules rule (unwrap_or next (length rules))
next_passed rules rule h next e none = λ t is k low high. none k (omega arith) high t (is ∙ e)

-- The first match among more rules.
first_after : (rules : List Rule) (t : Tree) (xs ys zs : List ℕ) → first_match rules t ys ≡ first_match rules t zs → first_match rules t (xs ++ ys) ≡ first_match rules t (xs ++ zs)
first_after rules t [] ys zs e = e
first_after rules t (x ∷ xs) ys zs e = ap (λ (o : Option ℕ). if is_some (match_at rules x t) then Some x else o) (first_after rules t xs ys zs e)

passes : (rules : List Rule) (t : Tree) (g from count : ℕ) → ((k : ℕ) → from ≤ k → k < from + g → match_at rules k t ≡ None) → first_match rules t (numbers from (g + count)) ≡ first_match rules t (numbers (from + g) count)
passes rules t zero from count none =
    let e : from ≡ from + 0 = omega arith in
    let f : 0 + count ≡ count = omega arith in
    ap (λ i. first_match rules t (numbers from i)) f ∙ ap (λ i. first_match rules t (numbers i count)) e
passes rules t (suc g) from count none =
    let e : suc g + count ≡ suc (g + count) = omega arith in
    let f : from + 1 + g ≡ from + suc g = omega arith in
    ap (λ i. first_match rules t (numbers from i)) e
    ∙ ap (λ (o : Option (List Tree)). if is_some o then Some from else first_match rules t (numbers (from + 1) (g + count))) (none from (omega arith) (omega arith))
    ∙ passes rules t g (from + 1) count (λ k low high. none k (omega arith) (omega arith))
    ∙ ap (λ i. first_match rules t (numbers i count)) f

-- rules that don't match are passed over
skips : (rules : List Rule) (t : Tree) (from to n : ℕ) → from ≤ to → to ≤ n → ((k : ℕ) → from ≤ k → k < to → match_at rules k t ≡ None) → first_match rules t (numbers from (n - from)) ≡ first_match rules t (numbers to (n - to))
skips rules t from to n l m none =
    let e : n - from ≡ (to - from) + (n - to) = omega arith in
    let f : from + (to - from) ≡ to = omega arith in
    ap (λ i. first_match rules t (numbers from i)) e ∙ passes rules t (to - from) from (n - to) (λ k low high. none k low (omega arith)) ∙ ap (λ i. first_match rules t (numbers i (n - to))) f

-- a rule, and then those from the next on
chain : (rules : List Rule) (t : Tree) (c to : ℕ) → c < length rules → c < to → to ≤ length rules → root t ≡ head_at rules c → HavePassed rules c to → first_match rules t (c ∷ numbers to (length rules - to)) ≡ first_match rules t (numbers c (length rules - c))
chain rules t c to l low high is passed =
    let n = length rules in
    let e : n - c ≡ suc (n - (c + 1)) = omega arith in
    ap (λ (o : Option ℕ). if is_some (match_at rules c t) then Some c else o) (sym (skips rules t (c + 1) to n (omega arith) high (λ k a b. passed t is k (omega arith) b)))
    ∙ ap (λ i. first_match rules t (numbers c i)) (sym e)

abbrev rest_from : List Rule → Option ℕ → List ℕ
rest_from rules o = numbers (unwrap_or o (length rules)) (length rules - unwrap_or o (length rules))

-- Rules were added up to the next one, so that from each of them on they and the rest have the
-- first match.
pub record Adding (rules : List Rule) (old now : List ℕ) (first : ℕ) (next : Option ℕ) : Type 0 where
  pub more : List ℕ
  pub added : now ≡ old ++ more
  pub fits : All (λ r. r < length rules) more
  pub within : IfSome next (λ k. (k < length rules) × (head_at rules k ≡ head_at rules first))
  pub each : (i : ℕ) → length old ≤ i → i < length now → (head_at rules (get_or now i 0) ≡ head_at rules first) × ((t : Tree) → root t ≡ head_at rules first → first_match rules t (drop i now ++ rest_from rules next) ≡ first_match rules t (numbers (get_or now i 0) (length rules - get_or now i 0)))

pub adds_none : (rules : List Rule) (old : List ℕ) (first : ℕ) → first < length rules → Adding rules old old first (Some first)
adds_none rules old first l = record { more = []; added = sym (append-nil old); fits = λ k d i. absurd (omega arith); within = (l, refl); each = λ i low high. absurd (omega arith) }

to_bounds : (rules : List Rule) (c : ℕ) (o : Option ℕ) → c < length rules → IfSome o (λ k. (c < k) × (k < length rules) × (head_at rules k ≡ head_at rules c)) → (c < unwrap_or o (length rules)) × (unwrap_or o (length rules) ≤ length rules)
to_bounds rules c None l p = (l, omega arith)
to_bounds rules c (Some k) l p = (p.0, (let q = p.1 in omega (arith, q)))

module _ (rules : List Rule) (old now : List ℕ) (first c : ℕ) (d : Adding rules old now first (Some c)) (o : Option ℕ) (next : IfSome o (λ k. (c < k) × (k < length rules) × (head_at rules k ≡ head_at rules c))) (passed : HavePassed rules c (unwrap_or o (length rules))) where
  abbrev rest : List ℕ
  rest = rest_from rules o

  here : (t : Tree) → root t ≡ head_at rules first → first_match rules t (c ∷ rest) ≡ first_match rules t (numbers c (length rules - c))
  here t is = let b = to_bounds rules c o d.within.0 next in chain rules t c (unwrap_or o (length rules)) d.within.0 b.0 b.1 (is ∙ sym d.within.1) passed

  pub adds_more : Adding rules old (now ++ c ∷ []) first o
  adds_more =
      record {
        more = d.more ++ c ∷ [];
        added = ap (λ xs. xs ++ c ∷ []) d.added ∙ append_assoc old d.more (c ∷ []);
        fits = All-append (λ r. r < length rules) d.more (c ∷ []) d.fits (λ k e i. (let z : 0 ≡ k = omega (arith, i) in subst (λ j. get_or (c ∷ []) j e < length rules) z d.within.0));
        within = IfSome_then o next (λ k p. (p.1, p.2 ∙ d.within.1));
        each = λ i low high.
            elim (cases_lt i (length now)) [
              | inl l ↦ (let g = get_or_append_left now (c ∷ []) 0 i l in
                  let was = d.each i low l in
                  let ds : drop i (now ++ c ∷ []) ++ rest ≡ drop i now ++ (c ∷ rest) = ap (λ xs. xs ++ rest) (drop-append-le i now (c ∷ []) (omega arith)) ∙ append_assoc (drop i now) (c ∷ []) rest in
                  (ap (head_at rules) g ∙ was.0, λ t is. ap (first_match rules t) ds ∙ first_after rules t (drop i now) (c ∷ rest) (numbers c (length rules - c)) (here t is) ∙ was.1 t is ∙ ap (λ q. first_match rules t (numbers q (length rules - q))) (sym g)))
              | inr l ↦ (let z : i ≡ length now = omega (arith, l, high, length-append now (c ∷ [])) in
                  let g : get_or (now ++ c ∷ []) i 0 ≡ c = get_or-append_right now (c ∷ []) (length now) i 0 refl l ∙ ap (λ j. get_or (c ∷ []) j 0) (let k : i - length now ≡ 0 = omega (arith, z) in k) in
                  let ds : drop i (now ++ c ∷ []) ≡ c ∷ [] = ap (λ j. drop j (now ++ c ∷ [])) z ∙ drop-append-le (length now) now (c ∷ []) (omega arith) ∙ ap (λ xs. xs ++ c ∷ []) (drop_all (length now) now (omega arith)) in
                  (ap (head_at rules) g ∙ d.within.1, λ t is. ap (λ xs. first_match rules t (xs ++ rest)) ds ∙ here t is ∙ ap (λ q. first_match rules t (numbers q (length rules - q))) (sym g)))
            ];
      }

pub adds_all : (rules : List Rule) (old now : List ℕ) (first : ℕ) → Adding rules old now first None → AddsGroup rules old now
adds_all rules old now first d =
    let n = length rules in
    let e : n - n ≡ 0 = omega arith in
    record {
      more = d.more;
      added = d.added;
      fits = d.fits;
      each = λ i low high t is. (let w = d.each i low high in ap (first_match rules t) (sym (ap (λ k. drop i now ++ numbers n k) e ∙ append-nil (drop i now))) ∙ w.1 t (is ∙ w.0));
    }

-- All rules from each on.
drop_numbers : (k n b : ℕ) → k ≤ n → drop k (numbers b n) ≡ numbers (b + k) (n - k)
drop_numbers zero n b l =
    let e : b ≡ b + 0 = omega arith in
    let f : n ≡ n - 0 = omega arith in
    ap (λ i. numbers i n) e ∙ ap (numbers (b + 0)) f
drop_numbers (suc k) zero b l = absurd (omega arith)
drop_numbers (suc k) (suc n) b l =
    let e : b + 1 + k ≡ b + suc k = omega arith in
    let f : n - k ≡ suc n - suc k = omega arith in
    drop_numbers k n (b + 1) (omega arith) ∙ ap (λ i. numbers i (n - k)) e ∙ ap (numbers (b + suc k)) f

mapped_at : (f : ℕ → State) (k n b : ℕ) (d : State) → k < n → get_or (map f (numbers b n)) k d ≡ f (b + k)
mapped_at f zero zero b d l = absurd (omega arith)
mapped_at f zero (suc n) b d l = let e : b ≡ b + 0 = omega arith in ap f e
mapped_at f (suc k) zero b d l = absurd (omega arith)
mapped_at f (suc k) (suc n) b d l = let e : b + 1 + k ≡ b + suc k = omega arith in mapped_at f k n (b + 1) d (omega arith) ∙ ap f e

pub first_starts : (rules : List Rule) (list : List ℕ) (states : List State) (n : ℕ) → n ≡ length rules → list ≡ numbers 0 n → states ≡ map (in_turn_from n) (numbers 0 n) → AreStarts rules list states
first_starts rules list states n is e f =
    record {
      count = ap length f ∙ length-map (numbers 0 n) (in_turn_from n) ∙ length-numbers 0 n ∙ is;
      fits = subst (All (λ r. r < length rules)) (sym e) (All-numbers (λ r. r < length rules) n 0 (λ x l k. omega (arith, k, is)));
      each = λ k d l. subst (BeginsInTurn rules list k) (sym (ap (λ (ss : List State). get_or ss k d) f ∙ mapped_at (in_turn_from n) k n 0 d (omega (arith, l, is)))) (it k l);
    }
  where
    it : (k : ℕ) → k < length rules → BeginsInTurn rules list k (in_turn_from n (0 + k))
    it k l =
        let m = length-numbers 0 n in
        let p = ap length e in
        let z : k ≡ 0 + k = omega arith in
        let ps : part list (0 + k) n ≡ numbers k (length rules - k) =
        ap (λ j. part list j n) (sym z)
        ∙ take_all (n - k) (drop k list) (omega (arith, length-drop k list, m, p))
        ∙ ap (drop k) e
        ∙ drop_numbers k n 0 (omega (arith, l, is))
        ∙ ap (λ j. numbers j (n - k)) (sym z)
        ∙ ap (λ j. numbers k (j - k)) is in
        record { order = omega (arith, l, is); within = omega (arith, m, p); turn = refl; start = record { bound = refl; same = λ t h. ap (first_match rules t) ps } }

-- more rules in the list
pub starts_on : (rules : List Rule) (old new : List ℕ) (states : List State) → AddsGroup rules old new → AreStarts rules old states → AreStarts rules new states
starts_on rules old new states g s =
    record {
      count = s.count;
      fits = subst (All (λ r. r < length rules)) (sym g.added) (All-append (λ r. r < length rules) old g.more s.fits g.fits);
      each = λ k d l. (let b = s.each k d l in
          let st = get_or states k d in
          let same : part new st.from st.to ≡ part old st.from st.to = ap (λ xs. part xs st.from st.to) g.added ∙ part_front old g.more st.from st.to b.order b.within in
          record {
            order = b.order;
            within = (let w = b.within in omega (arith, w, ap length g.added, length-append old g.more));
            turn = b.turn;
            start = record { bound = b.start.bound; same = λ t e. ap (first_match rules t) same ∙ b.start.same t e };
          });
    }

-- a rule's state is set
pub starts_set : (rules : List Rule) (old new : List ℕ) (states : List State) (at to rule : ℕ) → AddsGroup rules old new → AreStarts rules new states → length old ≤ at → at < to → to ≡ length new → rule ≡ get_or new at 0 → AreStarts rules new (set states rule (in_turn_from to at))
starts_set rules old new states at to rule g s low high e is =
    record {
      count = length-set states rule (in_turn_from to at) ∙ s.count;
      fits = s.fits;
      each = λ k d l. elim (cases_eq k rule) [
        | inl z ↦ (let w : rule < length states = (let n = s.count in omega (arith, l, z, n)) in subst (BeginsInTurn rules new k) (sym (ap (λ j. get_or (set states rule (in_turn_from to at)) j d) z ∙ get_or-set_same states rule (in_turn_from to at) d w)) (subst (λ j. BeginsInTurn rules new j (in_turn_from to at)) (sym z) it))
        | inr n ↦ subst (BeginsInTurn rules new k) (sym (get_or-set_other states rule k (in_turn_from to at) d n)) (s.each k d l)
      ];
    }
  where
    it : BeginsInTurn rules new rule (in_turn_from to at)
    it =
        let ps : part new at to ≡ drop at new = take_all (to - at) (drop at new) (omega (arith, length-drop at new, e)) in
        record {
          order = omega arith;
          within = omega (arith, e);
          turn = refl;
          start = record { bound = refl; same = λ t h. ap (first_match rules t) ps ∙ subst (λ q. HaveFirst rules q (drop at new)) (sym is) (g.each at low (omega (arith, high, e))) t h };
        }

pub starts_automaton : (table : Tabled) → IsTable table → (rules : List Rule) (shapes : List Shape) → HaveShapes table rules shapes → (list : List ℕ) (states : List State) → AreStarts rules list states → (places : ℕ) → table.places ≤ places → (ways : List Way) (roots : List (Option Way)) → HasStarts rules (record { shapes = shapes; rules = list; states = states; ways = ways; places = places; roots = roots })
starts_automaton table is rules shapes have list states s places low ways roots =
    let a : Made = record { shapes = shapes; rules = list; states = states; ways = ways; places = places; roots = roots } in
    let n = s.count in
    let m = have.count in
    record {
      table = table;
      readable = is;
      places = low;
      shapes = have;
      count = omega (arith, n);
      starts = λ k d l. (s.each k d l).start;
      states = record {
        rules = All-weaker (λ r. r < length rules) (λ r. r < length shapes) (λ r l. omega (arith, l, m)) list s.fits;
        states = λ at d l. (let b = s.each at d (omega (arith, l, n)) in record { order = b.order; within = b.within; right = subst (IsRight table a at (get_or states at d)) (sym b.turn) tt });
      };
    }
