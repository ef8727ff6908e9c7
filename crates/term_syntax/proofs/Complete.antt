-- Each input is read to its end, as what it spells.
use Rattle.std.proofs.Common.{◌≡◌, ◌∙◌, ℕ, ◌+◌, List, [], ◌∷◌, ◌++◌, length, length-append, refl, ap, sym, arith, append_assoc, append-nil, Bool, true, false, Option, Some}
use Rattle.term_syntax.specs.Token.{Token, Word, Number, At}
use Rattle.term_syntax.specs.declared.token.Mark.TheVariants.{Open, Close, OpenList, CloseList}
use Rattle.term_syntax.specs.State.{Kind, Symbol, Integer, Brackets, Part, Machine}
use Rattle.term_syntax.specs.declared.machine.Node.{Node}
use Rattle.term_syntax.specs.declared.machine.Group.{Group}
use Rattle.term_syntax.specs.declared.machine.Place.{Place}
use Rattle.term_syntax.specs.declared.machine.Place.TheVariants.{Settled, Bracketed, Expected, Headed}
use Rattle.term_syntax.specs.Counts.{with_count}
use Rattle.term_syntax.specs.Written.{Written, Call, Digits, Listed, Writtens, End, More, count_of}
use Rattle.term_syntax.specs.TermGrammar.{IsTerm, constant, call, number, empty, list, AreTerms, only, more, IsInput, none, next}
use Rattle.term_syntax.specs.Parts.{parts_of, parts_of_all, parts_of_input}
use Rattle.term_syntax.specs.Nodes.{node, size_of, nodes_of, nodes_of_all, nodes_of_input}
use Rattle.term_syntax.specs.Steps.{step, start, is_over, end_under}
use Rattle.term_syntax.proofs.Counting.{counted_behind}
use Rattle.term_syntax.proofs.Outcome.{Read, outcome, go_on}

-- a state of the machine
abbrev pub state : Place → List Group → List Part → List Node → List (List Node) → Machine
state place groups parts nodes terms = record { place = place; groups = groups; parts = parts; nodes = nodes; terms = terms }

abbrev pub group : Bool → ℕ → ℕ → Group
group called part count = record { called = called; part = part; count = count }

abbrev pub part : ℕ → Bool → Kind → ℕ → Part
part place over kind count = record { place = place; over = over; kind = kind; count = count }

-- a term was read under these groups
abbrev pub whole : List Group → List Part → List Node → List (List Node) → Machine
whole [] P N T = state Settled [] P [] (T ++ N ∷ [])
whole (g ∷ gs) P N T = state Settled (record g { count = g.count + 1 } ∷ gs) P N T

whole_is : (gs hs : List Group) (place : Place) (P : List Part) (N : List Node) (T : List (List Node)) → end_under gs (state place hs P N T) ≡ whole gs P N T
whole_is [] hs place P N T = refl
whole_is (g ∷ gs) hs place P N T = refl

-- a term may begin here
pub record Starts (m : Machine) (gs : List Group) (P : List Part) (N : List Node) (T : List (List Node)) : Type 0 where
  pub word : (n : List ℕ) (p : ℕ) → step m (Word n p) ≡ Some (state (Headed (length P)) gs (P ++ part p (is_over gs) (Symbol n) 0 ∷ []) N T)
  pub digits : (v : Option ℕ) (p : ℕ) → step m (Number v p) ≡ Some (whole gs (P ++ part p (is_over gs) (Integer v) 0 ∷ []) (N ++ node (length P) 0 ∷ []) T)
  pub bracket : (p : ℕ) → step m (At OpenList p) ≡ Some (state Bracketed (group false (length P) 0 ∷ gs) (P ++ part p (is_over gs) Brackets 0 ∷ []) N T)

module _ (gs : List Group) (P : List Part) (N : List Node) (T : List (List Node)) where
  pub expected_starts : Starts (state Expected gs P N T) gs P N T
  expected_starts = record {
    word = λ n p. refl;
    digits = λ v p. ap Some (whole_is gs gs Expected (P ++ part p (is_over gs) (Integer v) 0 ∷ []) (N ++ node (length P) 0 ∷ []) T);
    bracket = λ p. refl;
  }

  pub bracket_starts : Starts (state Bracketed gs P N T) gs P N T
  bracket_starts = record {
    word = λ n p. refl;
    digits = λ v p. ap Some (whole_is gs gs Bracketed (P ++ part p (is_over gs) (Integer v) 0 ∷ []) (N ++ node (length P) 0 ∷ []) T);
    bracket = λ p. refl;
  }

  top_starts : Starts (state Settled [] P N T) [] P N T
  top_starts = record { word = λ n p. refl; digits = λ v p. refl; bracket = λ p. refl }

-- a name is a whole term where no arguments come
settle : {s : Read} (gs : List Group) (k : ℕ) (P : List Part) (N : List Node) (T : List (List Node)) (ts : List Token) → outcome (whole gs P (N ++ node k 0 ∷ []) T) ts ≡ Some s → outcome (state (Headed k) gs P N T) ts ≡ Some s
unfolding outcome
settle [] k P N T [] h = h
settle (g ∷ gs) k P N T [] h = h
settle [] k P N T (At Open p ∷ ts) h = cc
settle (g ∷ gs) k P N T (At Open p ∷ ts) h = cc
settle [] k P N T (At x p ∷ ts) h = h
settle (g ∷ gs) k P N T (At x p ∷ ts) h = h
settle [] k P N T (Word n p ∷ ts) h = h
settle (g ∷ gs) k P N T (Word n p ∷ ts) h = h
settle [] k P N T (Number v p ∷ ts) h = h
settle (g ∷ gs) k P N T (Number v p ∷ ts) h = h

-- whether a term is the 17th argument doesn't change how many parts it has
pub same_size : (b : Bool) (w : Written) → length (parts_of b w) ≡ size_of w
same_size b (Call p n ws) = refl
same_size b (Digits p v) = refl
same_size b (Listed p ws) = refl

longer : (b : Bool) (w : Written) (P : List Part) → length (P ++ parts_of b w) ≡ length P + size_of w
longer b w P = length-append P (parts_of b w) ∙ ap (λ n. length P + n) (same_size b w)

-- the parts of a term after those of its head
head_parts : (P : List Part) (h : Part) (qs : List Part) (n : ℕ) → with_count ((P ++ h ∷ []) ++ qs) (length P) n ≡ P ++ record h { count = n } ∷ qs
head_parts P h qs n = ap (λ xs. with_count xs (length P) n) (append_assoc P (h ∷ []) qs) ∙ counted_behind P h qs n

after_head : (P : List Part) (h : Part) → length (P ++ h ∷ []) ≡ length P + 1
after_head P h = length-append P (h ∷ [])

-- a group closes
pub closes : (gs : List Group) (k n q : ℕ) (P : List Part) (N : List Node) (T : List (List Node)) → step (state Settled (group true k n ∷ gs) P N T) (At Close q) ≡ Some (whole gs (with_count P k n) (N ++ node k 0 ∷ []) T)
closes gs k n q P N T = ap Some (whole_is gs gs Settled (with_count P k n) (N ++ node k 0 ∷ []) T)

pub list_closes : (gs : List Group) (k n q : ℕ) (P : List Part) (N : List Node) (T : List (List Node)) → step (state Settled (group false k n ∷ gs) P N T) (At CloseList q) ≡ Some (whole gs (with_count P k n) (N ++ node k n ∷ []) T)
list_closes gs k n q P N T = ap Some (whole_is gs gs Settled (with_count P k n) (N ++ node k n ∷ []) T)

empty_closes : (gs : List Group) (k q : ℕ) (P : List Part) (N : List Node) (T : List (List Node)) → step (state Bracketed (group false k 0 ∷ gs) P N T) (At CloseList q) ≡ Some (whole gs (with_count P k 0) (N ++ node k 0 ∷ []) T)
empty_closes gs k q P N T = ap Some (whole_is gs gs Bracketed (with_count P k 0) (N ++ node k 0 ∷ []) T)

same_whole : (gs : List Group) (P Q : List Part) (N M : List Node) (T : List (List Node)) (us : List Token) → P ≡ Q → N ≡ M → outcome (whole gs P N T) us ≡ outcome (whole gs Q M T) us
same_whole gs P Q N M T us e f = ap (λ xs. outcome (whole gs xs N T) us) e ∙ ap (λ ys. outcome (whole gs Q ys T) us) f

-- the parts of a head and of the terms in its group, and their nodes
group_parts : (P : List Part) (p : ℕ) (over : Bool) (kind : Kind) (qs : List Part) (n : ℕ) → with_count ((P ++ part p over kind 0 ∷ []) ++ qs) (length P) (0 + n) ≡ P ++ part p over kind n ∷ qs
group_parts P p over kind qs n =
    let none : 0 + n ≡ n = omega arith in
    head_parts P (part p over kind 0) qs (0 + n) ∙ ap (λ m. P ++ part p over kind m ∷ qs) none

group_nodes : (P : List Part) (h : Part) (N : List Node) (ws : Writtens) (m n : ℕ) → m ≡ n → (N ++ nodes_of_all (length (P ++ h ∷ [])) ws) ++ node (length P) m ∷ [] ≡ N ++ (nodes_of_all (length P + 1) ws ++ node (length P) n ∷ [])
group_nodes P h N ws m n e =
    ap (λ k. (N ++ nodes_of_all k ws) ++ node (length P) m ∷ []) (after_head P h)
    ∙ append_assoc N (nodes_of_all (length P + 1) ws) (node (length P) m ∷ [])
    ∙ ap (λ k. N ++ (nodes_of_all (length P + 1) ws ++ node (length P) k ∷ [])) e

-- a term after those that came before it in its group
state_more : {s : Read} (called : Bool) (k c : ℕ) (gs : List Group) (P : List Part) (N : List Node) (T : List (List Node)) (w : Written) (ws : Writtens) (us : List Token) →
    outcome (state Settled (group called k (c + count_of (More w ws)) ∷ gs) (P ++ parts_of_all called c (More w ws)) (N ++ nodes_of_all (length P) (More w ws)) T) us ≡ Some s →
    outcome (state Settled (group called k (c + 1 + count_of ws) ∷ gs) ((P ++ parts_of (is_over (group called k c ∷ gs)) w) ++ parts_of_all called (c + 1) ws) ((N ++ nodes_of (length P) w) ++ nodes_of_all (length (P ++ parts_of (is_over (group called k c ∷ gs)) w)) ws) T) us ≡ Some s
state_more called k c gs P N T w ws us h =
    let b = is_over (group called k c ∷ gs) in
    let n : c + 1 + count_of ws ≡ c + (count_of ws + 1) = omega arith in
    let ps = append_assoc P (parts_of b w) (parts_of_all called (c + 1) ws) in
    let ns =
    ap (λ j. (N ++ nodes_of (length P) w) ++ nodes_of_all j ws) (longer b w P)
    ∙ append_assoc N (nodes_of (length P) w) (nodes_of_all (length P + size_of w) ws) in
    ap (λ j. outcome (state Settled (group called k j ∷ gs) ((P ++ parts_of b w) ++ parts_of_all called (c + 1) ws) ((N ++ nodes_of (length P) w) ++ nodes_of_all (length (P ++ parts_of b w)) ws) T) us) n
    ∙ ap (λ xs. outcome (state Settled (group called k (c + (count_of ws + 1)) ∷ gs) xs ((N ++ nodes_of (length P) w) ++ nodes_of_all (length (P ++ parts_of b w)) ws) T) us) ps
    ∙ ap (λ ys. outcome (state Settled (group called k (c + (count_of ws + 1)) ∷ gs) (P ++ (parts_of b w ++ parts_of_all called (c + 1) ws)) ys T) us) ns
    ∙ h

state_only : {s : Read} (called : Bool) (k c : ℕ) (gs : List Group) (P : List Part) (N : List Node) (T : List (List Node)) (w : Written) (us : List Token) →
    outcome (state Settled (group called k (c + count_of (More w End)) ∷ gs) (P ++ parts_of_all called c (More w End)) (N ++ nodes_of_all (length P) (More w End)) T) us ≡ Some s →
    outcome (whole (group called k c ∷ gs) (P ++ parts_of (is_over (group called k c ∷ gs)) w) (N ++ nodes_of (length P) w) T) us ≡ Some s
state_only called k c gs P N T w us h =
    let b = is_over (group called k c ∷ gs) in
    ap (λ xs. outcome (state Settled (group called k (c + 1) ∷ gs) (P ++ xs) (N ++ nodes_of (length P) w) T) us) (sym (append-nil (parts_of b w)))
    ∙ ap (λ ys. outcome (state Settled (group called k (c + 1) ∷ gs) (P ++ (parts_of b w ++ [])) (N ++ ys) T) us) (sym (append-nil (nodes_of (length P) w)))
    ∙ h

mutual
  term_read : {ts us : List Token} {w : Written} {s : Read} → IsTerm ts w us → (m0 : Machine) (gs : List Group) (P : List Part) (N : List Node) (T : List (List Node)) → Starts m0 gs P N T →
      outcome (whole gs (P ++ parts_of (is_over gs) w) (N ++ nodes_of (length P) w) T) us ≡ Some s → outcome m0 ts ≡ Some s
  term_read {us = us} (constant {n = n} {p = p}) m0 gs P N T h k =
      go_on _ _ _ _ (h.word n p) (settle gs (length P) (P ++ part p (is_over gs) (Symbol n) 0 ∷ []) N T us k)
  term_read {us = us} (call {n = n} {p = p} {r = q} {ws = ws} args) m0 gs P N T h k =
      let f = part p (is_over gs) (Symbol n) 0 in
      go_on _ _ _ _ (h.word n p) (go_on _ _ _ (state Expected (group true (length P) 0 ∷ gs) (P ++ f ∷ []) N T) refl
      (terms_read args true (length P) 0 gs (P ++ f ∷ []) N T _ (expected_starts (group true (length P) 0 ∷ gs) (P ++ f ∷ []) N T)
      (go_on _ _ _ _ (closes gs (length P) (0 + count_of ws) q ((P ++ f ∷ []) ++ parts_of_all true 0 ws) (N ++ nodes_of_all (length (P ++ f ∷ [])) ws) T)
      (same_whole gs _ _ _ _ T us (group_parts P p (is_over gs) (Symbol n) (parts_of_all true 0 ws) (count_of ws)) (group_nodes P f N ws 0 0 refl) ∙ k))))
  term_read (number {v = v} {p = p}) m0 gs P N T h k = go_on _ _ _ _ (h.digits v p) k
  term_read {us = us} (empty {p = p} {q = q}) m0 gs P N T h k =
      go_on _ _ _ _ (h.bracket p) (go_on _ _ _ _ (empty_closes gs (length P) q (P ++ part p (is_over gs) Brackets 0 ∷ []) N T)
      (same_whole gs _ _ _ _ T us (counted_behind P (part p (is_over gs) Brackets 0) [] 0) refl ∙ k))
  term_read {us = us} (list {p = p} {q = q} {ws = ws} args) m0 gs P N T h k =
      let f = part p (is_over gs) Brackets 0 in
      let none : 0 + count_of ws ≡ count_of ws = omega arith in
      go_on _ _ _ _ (h.bracket p)
      (terms_read args false (length P) 0 gs (P ++ f ∷ []) N T _ (bracket_starts (group false (length P) 0 ∷ gs) (P ++ f ∷ []) N T)
      (go_on _ _ _ _ (list_closes gs (length P) (0 + count_of ws) q ((P ++ f ∷ []) ++ parts_of_all false 0 ws) (N ++ nodes_of_all (length (P ++ f ∷ [])) ws) T)
      (same_whole gs _ _ _ _ T us (group_parts P p (is_over gs) Brackets (parts_of_all false 0 ws) (count_of ws)) (group_nodes P f N ws (0 + count_of ws) (count_of ws) none) ∙ k)))

  terms_read : {ts us : List Token} {ws : Writtens} {s : Read} → AreTerms ts ws us → (called : Bool) (k c : ℕ) (gs : List Group) (P : List Part) (N : List Node) (T : List (List Node)) (m0 : Machine) → Starts m0 (group called k c ∷ gs) P N T →
      outcome (state Settled (group called k (c + count_of ws) ∷ gs) (P ++ parts_of_all called c ws) (N ++ nodes_of_all (length P) ws) T) us ≡ Some s → outcome m0 ts ≡ Some s
  terms_read {us = us} (only {w = w} x) called k c gs P N T m0 h r =
      term_read x m0 (group called k c ∷ gs) P N T h (state_only called k c gs P N T w us r)
  terms_read {us = us} (more {w = w} {ws = ws} x rest) called k c gs P N T m0 h r =
      let b = is_over (group called k c ∷ gs) in
      let Q = P ++ parts_of b w in
      let M = N ++ nodes_of (length P) w in
      term_read x m0 (group called k c ∷ gs) P N T h
      (go_on _ _ _ (state Expected (group called k (c + 1) ∷ gs) Q M T) refl
      (terms_read rest called k (c + 1) gs Q M T _ (expected_starts (group called k (c + 1) ∷ gs) Q M T) (state_more called k c gs P N T w ws us r)))

-- the terms of an input, after those that came before them
input_read : {ts : List Token} {ws : List Written} → IsInput ts ws → (P : List Part) (T : List (List Node)) → outcome (state Settled [] P [] T) ts ≡ Some (P ++ parts_of_input ws, T ++ nodes_of_input (length P) ws)
unfolding outcome
input_read none P T = λ i. Some (sym (append-nil P) i, sym (append-nil T) i)
input_read (next {us = us} {w = w} {ws = ws} x r) P T =
    term_read x (state Settled [] P [] T) [] P [] T (top_starts [] P [] T)
    (input_read r (P ++ parts_of false w) (T ++ nodes_of (length P) w ∷ [])
    ∙ (λ i. Some (append_assoc P (parts_of false w) (parts_of_input ws) i, append_assoc T (nodes_of (length P) w ∷ []) (nodes_of_input (longer false w P i) ws) i)))

pub complete : {ts : List Token} {ws : List Written} → IsInput ts ws → outcome start ts ≡ Some (parts_of_input ws, nodes_of_input 0 ws)
complete h = input_read h [] []
