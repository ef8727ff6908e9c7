-- A step in rules and terms leads from what must still come to what must still come after it.
use Rattle.std.proofs.Common.{◌≡◌, ◌∙◌, ℕ, suc, ◌+◌, List, [], ◌∷◌, ◌++◌, ap, sym, subst, arith, append_assoc, true, false, Some, None}
use Rattle.rec_reader.specs.declared.token.Name.{Name}
use Rattle.rec_reader.specs.declared.token.Token.{Token}
use Rattle.rec_reader.specs.declared.token.Token.TheVariants.{Named, At}
use Rattle.rec_reader.specs.declared.token.Sign.TheVariants.{If, AndIf, Joins, Parts, Arrow, Comma, Open, Close, Equal, Unequal}
use Rattle.rec_reader.specs.declared.syntax_tree.Node.{Node}
use Rattle.rec_reader.specs.declared.syntax_tree.Condition.{Condition}
use Rattle.rec_reader.specs.declared.syntax_tree.Rule.{Rule}
use Rattle.rec_reader.specs.declared.syntax_tree.Specification.{Specification}
use Rattle.rec_reader.specs.declared.machine.Purpose.{Purpose}
use Rattle.rec_reader.specs.declared.machine.Purpose.TheVariants.{Left, Right, First, Second, Value}
use Rattle.rec_reader.specs.declared.machine.Part.{Part}
use Rattle.rec_reader.specs.declared.machine.Part.TheVariants.{Expected, Headed, Whole}
use Rattle.rec_reader.specs.declared.machine.Place.TheVariants.{Within}
use Rattle.rec_reader.specs.declared.machine.Machine.{Machine}
use Rattle.rec_reader.specs.Grammar.{none, next, without, with, IsTerm, constant, call, only, more, IsTerms, joins, equal, parts, unequal, condition, by_comma, by_and_if, IsConditions, one, and, plain, conditional}
use Rattle.rec_reader.specs.Steps.{on_end, after_rules, before_rule, before_terms, after_left, after_rule, with_right, after_right, after_first, with_condition, after_second, with_term, after_value, after_term, after_argument, after_whole_under, after_whole, after_head, on_term, within_term}
use Rattle.rec_reader.specs.Syntax.{blank_rule}
use Rattle.rec_reader.proofs.Values.{with_rules, with_terms, no_rules_more, no_terms_more, one_rule, one_term}
use Rattle.rec_reader.proofs.Ahead.{Then, then, Sign_then, sign, stop, others, behind_comma, Ends, After_rules, Rules_ahead, Terms_ahead, more_conditions, After_rule, After_right, no_if, if_comes, After_condition, no_other, other, After_first, relation, After_value, fresh_rule, After_term, After_argument, close, argument, After_whole, After_head, alone, called, After_term_of, Within_term}
use Rattle.rec_reader.proofs.SectionsBack.{Backs, weaken, listed_more, end_backs, rules_backs}

-- a head, and what must still come after it
head_back : (h : Name) (R : List Node → List Token → List Specification → Type 0) {ts : List Token} {s : List Specification} → After_head h R ts s → Then IsTerm R (Named h ∷ ts) s
head_back h R (alone k) = then constant k
head_back h R (called args k) = then (call args) k

-- the first argument of a head
open_back : (h : Name) (R : List Node → List Token → List Specification → Type 0) (e : List Node) (p : ℕ) {ts : List Token} {s : List Specification} → Then IsTerm (λ t. After_argument (record { head = h; count = 0 }) R (e ++ t)) ts s → After_head h (λ t. R (e ++ t)) (At Open p ∷ ts) s
open_back h R e p {s = s} (then {a = t} x (close {ts = us} k)) = called (only x) (subst (λ ns. R ns us s) (append_assoc e t (record { head = h; count = 1 } ∷ [])) k)
open_back h R e p {s = s} (then {a = t} x (argument {us = us} {a = a} r k)) =
    let counted : 0 + 1 + a.count ≡ suc a.count = omega arith in
    let same =
    ap (λ c. ((e ++ t) ++ a.nodes) ++ record { head = h; count = c } ∷ []) counted
    ∙ append_assoc (e ++ t) a.nodes (record { head = h; count = suc a.count } ∷ [])
    ∙ append_assoc e t (a.nodes ++ record { head = h; count = suc a.count } ∷ [])
    ∙ ap (λ ns. e ++ ns) (sym (append_assoc t a.nodes (record { head = h; count = suc a.count } ∷ []))) in
    called (more x r) (subst (λ ns. R ns us s) same k)

-- one more argument of a head
argument_back : (f : Node) (R : List Node → List Token → List Specification → Type 0) (e : List Node) (p : ℕ) {ts : List Token} {s : List Specification} → Then IsTerm (λ t. After_argument (record { head = f.head; count = f.count + 1 }) R (e ++ t)) ts s → After_argument f R e (At Comma p ∷ ts) s
argument_back f R e p (then x (close k)) = argument (only x) k
argument_back f R e p {s = s} (then {a = t} x (argument {us = us} {a = a} r k)) =
    let counted : f.count + 1 + 1 + a.count ≡ f.count + 1 + suc a.count = omega arith in
    let same =
    ap (λ c. ((e ++ t) ++ a.nodes) ++ record { head = f.head; count = c } ∷ []) counted
    ∙ ap (λ ns. ns ++ record { head = f.head; count = f.count + 1 + suc a.count } ∷ []) (append_assoc e t a.nodes) in
    argument (more x r) (subst (λ ns. R ns us s) same k)

module _ (D : List Specification) (C : Specification) where
  -- the conditions of a rule
  conditions_back : (r : Rule) {ts : List Token} {s : List Specification} → Then IsTerm (λ t. After_first D C r t) ts s → Then IsConditions (λ cs. After_rule D C (more_conditions r cs)) ts s
  conditions_back r (then x (relation rel y (no_other k))) = then (one (condition x rel y)) k
  conditions_back r (then x (relation rel y (other sep cs k))) = then (and (condition x rel y) sep cs) k

  if_back : (r : Rule) (t : List Node) (p : ℕ) {ts : List Token} {s : List Specification} → Then IsTerm (λ u. After_first D C (record r { right = t; condition_at = Some p }) u) ts s → After_right D C r t (At If p ∷ ts) s
  if_back r t p h = go (conditions_back (record r { right = t; condition_at = Some p }) h)
    where
      go : {ts : List Token} {s : List Specification} → Then IsConditions (λ cs. After_rule D C (more_conditions (record r { right = t; condition_at = Some p }) cs)) ts s → After_right D C r t (At If p ∷ ts) s
      go (then cs k) = if_comes cs k

  one_condition : (r : Rule) (c : Condition) (cs : List Condition) → more_conditions (more_conditions r (c ∷ [])) cs ≡ more_conditions r (c ∷ cs)
  one_condition r c cs = ap (λ xs. record r { conditions = xs }) (append_assoc r.conditions (c ∷ []) cs)

  comma_condition : (r : Rule) (c : Condition) (p : ℕ) {ts : List Token} {s : List Specification} → Then IsConditions (λ cs. After_rule D C (more_conditions (more_conditions r (c ∷ [])) cs)) ts s → After_condition D C r c (At Comma p ∷ ts) s
  comma_condition r c p {s = s} (then {us = us} {a = cs} h k) = other by_comma h (subst (λ x. After_rule D C x us s) (one_condition r c cs) k)

  and_condition : (r : Rule) (c : Condition) (p : ℕ) {ts : List Token} {s : List Specification} → Then IsConditions (λ cs. After_rule D C (more_conditions (more_conditions r (c ∷ [])) cs)) ts s → After_condition D C r c (At AndIf p ∷ ts) s
  and_condition r c p {s = s} (then {us = us} {a = cs} h k) = other by_and_if h (subst (λ x. After_rule D C x us s) (one_condition r c cs) k)

  -- a rule, and those after it
  rule_back : {ts : List Token} {s : List Specification} → Then IsTerm (λ l. Sign_then Arrow (Then IsTerm (λ u. After_right D C (fresh_rule l) u))) ts s → Rules_ahead D C ts s
  rule_back {s = s} (then {a = l} x (sign (then {a = u} y (no_if (then {us = us} {a = rs} h k))))) =
      then (next (plain x y) h) (subst (λ c. After_rules D c us s) (one_rule C (record { left = l; right = u; condition_at = None; conditions = [] }) rs) k)
  rule_back {s = s} (then {a = l} x (sign (then {a = u} y (if_comes {p = p} {cs = cs} c (then {us = us} {a = rs} h k))))) =
      then (next (conditional x y c) h) (subst (λ c. After_rules D c us s) (one_rule C (record { left = l; right = u; condition_at = Some p; conditions = cs }) rs) k)

  -- a term to be evaluated, and those after it
  values_back : {ts : List Token} {s : List Specification} → Then IsTerm (λ t. After_value D C t) ts s → Then IsTerms (λ xs. Ends D (with_terms C xs)) ts s
  values_back (then x (then r k)) = then (listed_more x r) k

  value_others : (x : List Node) {ts : List Token} {s : List Specification} → Terms_ahead D (with_terms C (x ∷ [])) ts s → After_value D C x ts s
  value_others x {s = s} (then {us = us} without k) = then stop (subst (λ c. Ends D c us s) (no_terms_more (with_terms C (x ∷ []))) k)
  value_others x {s = s} (then {us = us} {a = xs} (with h) k) = then (others h) (subst (λ c. Ends D c us s) (one_term C x xs) k)

  value_comma : (x : List Node) (p : ℕ) {ts : List Token} {s : List Specification} → Then IsTerms (λ xs. Ends D (with_terms (with_terms C (x ∷ [])) xs)) ts s → After_value D C x (At Comma p ∷ ts) s
  value_comma x p {s = s} (then {us = us} {a = xs} h k) = then (behind_comma h) (subst (λ c. Ends D c us s) (one_term C x xs) k)

  as_terms : {ts : List Token} {s : List Specification} → Then IsTerms (λ xs. Ends D (with_terms C xs)) ts s → Terms_ahead D C ts s
  as_terms (then h k) = then (with h) k

pub rule_backs : (m : Machine) (t : Token) → Backs (before_rule m t) t (Rules_ahead m.done m.current)
rule_backs m (Named n) = λ ts s g. rule_back m.done m.current (head_back n (λ l. Sign_then Arrow (Then IsTerm (λ u. After_right m.done m.current (fresh_rule l) u))) g)
rule_backs m t = weaken (after_rules m t) t (After_rules m.done m.current) (Rules_ahead m.done m.current) (λ ts s k. then none (subst (λ c. After_rules m.done c (t ∷ ts) s) (sym (no_rules_more m.current)) k)) (rules_backs m t)

pub terms_backs : (m : Machine) (t : Token) → Backs (before_terms m t) t (Terms_ahead m.done m.current)
terms_backs m (Named n) = λ ts s g. as_terms m.done m.current (values_back m.done m.current (head_back n (λ t. After_value m.done m.current t) g))
terms_backs m t = weaken (on_end m t) t (Ends m.done m.current) (Terms_ahead m.done m.current) (λ ts s k. then without (subst (λ c. Ends m.done c (t ∷ ts) s) (sym (no_terms_more m.current)) k)) (end_backs m t)

after_rule_backs : (m : Machine) (t : Token) → Backs (after_rule m t) t (After_rule m.done m.current m.rule)
after_rule_backs m t = rule_backs (record m { current = with_rules m.current (m.rule ∷ []); rule = blank_rule }) t

-- the term of the machine's is whole, and no argument
abbrev Ended : Purpose → Machine → List Token → List Specification → Type 0
Ended purpose m = After_term purpose m.done m.current m.rule m.first m.equal m.nodes

-- no heads are open
abbrev top : Machine → Machine
top m = record m { heads = [] }

left_backs : (m : Machine) (t : Token) → Backs (after_left (top m) t) t (Ended Left m)
left_backs m (At Arrow p) = λ ts s g. sign g
left_backs m _ = tt

right_backs : (m : Machine) (t : Token) → Backs (after_right (top m) t) t (Ended Right m)
right_backs m (At If p) = λ ts s g. if_back m.done m.current m.rule m.nodes p g
right_backs m t = weaken (after_rule (with_right (top m)) t) t (After_rule m.done m.current (record m.rule { right = m.nodes })) (Ended Right m) (λ ts s k. no_if k) (after_rule_backs (with_right (top m)) t)

first_joins : (m : Machine) (p : ℕ) {ts : List Token} {s : List Specification} → Then IsTerm (λ u. After_condition m.done m.current m.rule (record { first = m.nodes; second = u; equal = true })) ts s → Ended First m (At Joins p ∷ ts) s
first_joins m p (then y k) = relation joins y k

first_equal : (m : Machine) (p : ℕ) {ts : List Token} {s : List Specification} → Then IsTerm (λ u. After_condition m.done m.current m.rule (record { first = m.nodes; second = u; equal = true })) ts s → Ended First m (At Equal p ∷ ts) s
first_equal m p (then y k) = relation equal y k

first_parts : (m : Machine) (p : ℕ) {ts : List Token} {s : List Specification} → Then IsTerm (λ u. After_condition m.done m.current m.rule (record { first = m.nodes; second = u; equal = false })) ts s → Ended First m (At Parts p ∷ ts) s
first_parts m p (then y k) = relation parts y k

first_unequal : (m : Machine) (p : ℕ) {ts : List Token} {s : List Specification} → Then IsTerm (λ u. After_condition m.done m.current m.rule (record { first = m.nodes; second = u; equal = false })) ts s → Ended First m (At Unequal p ∷ ts) s
first_unequal m p (then y k) = relation unequal y k

first_backs : (m : Machine) (t : Token) → Backs (after_first (top m) t) t (Ended First m)
first_backs m (At Joins p) = λ ts s g. first_joins m p g
first_backs m (At Equal p) = λ ts s g. first_equal m p g
first_backs m (At Parts p) = λ ts s g. first_parts m p g
first_backs m (At Unequal p) = λ ts s g. first_unequal m p g
first_backs m _ = tt

second_backs : (m : Machine) (t : Token) → Backs (after_second (top m) t) t (Ended Second m)
second_backs m (At Comma p) = λ ts s g. comma_condition m.done m.current m.rule (record { first = m.first; second = m.nodes; equal = m.equal }) p (conditions_back m.done m.current (with_condition m).rule g)
second_backs m (At AndIf p) = λ ts s g. and_condition m.done m.current m.rule (record { first = m.first; second = m.nodes; equal = m.equal }) p (conditions_back m.done m.current (with_condition m).rule g)
second_backs m t = weaken (after_rule (with_condition (top m)) t) t (After_rule m.done m.current (with_condition m).rule) (Ended Second m) (λ ts s k. no_other k) (after_rule_backs (with_condition (top m)) t)

value_backs : (m : Machine) (t : Token) → Backs (after_value (top m) t) t (Ended Value m)
value_backs m (At Comma p) = λ ts s g. value_comma m.done m.current m.nodes p (values_back m.done (with_terms m.current (m.nodes ∷ [])) g)
value_backs m t = weaken (before_terms (with_term (top m)) t) t (Terms_ahead m.done (with_terms m.current (m.nodes ∷ []))) (Ended Value m) (λ ts s k. value_others m.done m.current m.nodes k) (terms_backs (with_term (top m)) t)

term_backs : (purpose : Purpose) (m : Machine) (t : Token) → Backs (after_term purpose (top m) t) t (Ended purpose m)
term_backs Left m t = left_backs m t
term_backs Right m t = right_backs m t
term_backs First m t = first_backs m t
term_backs Second m t = second_backs m t
term_backs Value m t = value_backs m t

argument_backs : (purpose : Purpose) (f : Node) (fs : List Node) (m : Machine) (t : Token) → Backs (after_argument purpose f (record m { heads = fs }) t) t (After_argument f (After_whole fs (After_term purpose m.done m.current m.rule m.first m.equal)) m.nodes)
argument_backs purpose f fs m (At Comma p) = λ ts s g. argument_back f (After_whole fs (After_term purpose m.done m.current m.rule m.first m.equal)) m.nodes p g
argument_backs purpose f fs m (At Close p) = λ ts s g. close g
argument_backs purpose f fs m _ = tt

under_backs : (hs : List Node) (purpose : Purpose) (m : Machine) (t : Token) → Backs (after_whole_under hs purpose m t) t (After_whole hs (After_term purpose m.done m.current m.rule m.first m.equal) m.nodes)
under_backs [] purpose m t = term_backs purpose m t
under_backs (f ∷ fs) purpose m t = argument_backs purpose f fs m t

head_backs : (purpose : Purpose) (m : Machine) (t : Token) → Backs (after_head purpose m t) t (Within_term purpose Headed m)
head_backs purpose m (At Open p) = λ ts s g. open_back m.head (After_whole m.heads (After_term purpose m.done m.current m.rule m.first m.equal)) m.nodes p g
head_backs purpose m t =
    let whole : Machine = record m { place = Within purpose Whole; nodes = m.nodes ++ record { head = m.head; count = 0 } ∷ [] } in
    weaken (after_whole purpose whole t) t (After_term_of purpose m (m.nodes ++ record { head = m.head; count = 0 } ∷ [])) (Within_term purpose Headed m) (λ ts s k. alone k) (under_backs m.heads purpose whole t)

expected_backs : (purpose : Purpose) (m : Machine) (t : Token) → Backs (on_term purpose m t) t (Within_term purpose Expected m)
expected_backs purpose m (Named n) = λ ts s g. head_back n (λ t. After_term_of purpose m (m.nodes ++ t)) g
expected_backs purpose m _ = tt

pub within_backs : (purpose : Purpose) (part : Part) (m : Machine) (t : Token) → Backs (within_term purpose part m t) t (Within_term purpose part m)
within_backs purpose Expected m t = expected_backs purpose m t
within_backs purpose Headed m t = head_backs purpose m t
within_backs purpose Whole m t = under_backs m.heads purpose m t
