-- A step in sections and names leads from what must still come to what must still come after it.
use Rattle.std.proofs.Common.{ℕ, List, [], ◌∷◌, ◌++◌, sym, subst, append_assoc, Option, Some, None}
use Rattle.std.specs.Prelude.{IfSome}
use Rattle.rec_reader.specs.declared.token.Token.{Token}
use Rattle.rec_reader.specs.declared.token.Token.TheVariants.{Named, At}
use Rattle.rec_reader.specs.declared.token.Sign.TheVariants.{RecSpec, Sorts, Cons, Opns, Vars, Rules, Eval, EndSpec, Colon}
use Rattle.rec_reader.specs.declared.syntax_tree.Specification.{Specification}
use Rattle.rec_reader.specs.declared.machine.Group.{Group}
use Rattle.rec_reader.specs.declared.machine.Group.TheVariants.{Constructors, Operations}
use Rattle.rec_reader.specs.declared.machine.Machine.{Machine}
use Rattle.rec_reader.specs.Grammar.{Any, next, Maybe, absent, present, Listed, last, beside, with_comma, IsNames, IsTerms, IsRule, specification, input}
use Rattle.rec_reader.specs.Steps.{on_end, after_rules, after_variables, after_operations, after_constructors, after_declarations, after_sorts, after_header, after_heading, on_start, on_heading}
use Rattle.rec_reader.proofs.Values.{with_includes, with_sorts, with_rules, with_terms, no_includes_more, no_sorts_more, no_declarations_more, no_variables_more, no_rules_more, no_terms_more}
use Rattle.rec_reader.proofs.Ahead.{Then, then, name, Others, stop, others, behind_comma, Ends, ends, After_rules, After_variables, After_operations, After_constructors, After_declarations, After_sorts, After_header, After_heading, Declarations, Variables_ahead, At_start, at_start, At_between, at_between, At_heading, Ahead}

-- what is ahead after the step is, with the token before it, ahead before the step
abbrev pub Backs : Option Machine → Token → (List Token → List Specification → Type 0) → Type 0
Backs o t G = IfSome o (λ n. (ts : List Token) (s : List Specification) → Ahead n ts s → G (t ∷ ts) s)

pub weaken : (o : Option Machine) (t : Token) (G H : List Token → List Specification → Type 0) → ((ts : List Token) (s : List Specification) → G (t ∷ ts) s → H (t ∷ ts) s) → Backs o t G → Backs o t H
weaken None t G H f b = tt
weaken (Some n) t G H f b = λ ts s g. f ts s (b ts s g)

-- one of a list, and then others
pub listed_more : {A : Type 0} {Is : List Token → A → List Token → Type 0} {ts us vs : List Token} {x : A} {xs : List A} → Is ts x us → Others Is us xs vs → Listed Is ts (x ∷ xs) vs
listed_more h stop = last h
listed_more h (others r) = beside h r
listed_more h (behind_comma r) = with_comma h r

end_back : (D : List Specification) (C : Specification) (p : ℕ) {ts : List Token} {s : List Specification} → At_between (D ++ C ∷ []) ts s → Ends D C (At EndSpec p ∷ ts) s
end_back D C p {ts = ts} (at_between {xs = xs} h) = subst (λ s. Ends D C (At EndSpec p ∷ ts) s) (sym (append_assoc D (C ∷ []) xs)) (ends h)

pub end_backs : (m : Machine) (t : Token) → Backs (on_end m t) t (Ends m.done m.current)
end_backs m (At EndSpec p) = λ ts s g. end_back m.done m.current p g
end_backs m _ = tt

module _ (D : List Specification) {s : List Specification} where
  no_eval : (C : Specification) {ts : List Token} → Ends D C ts s → After_rules D C ts s
  no_eval C {ts = ts} e = then absent (subst (λ c. Ends D c ts s) (sym (no_terms_more C)) e)

  eval : (C : Specification) (p : ℕ) {ts : List Token} → Then (Maybe IsTerms) (λ xs. Ends D (with_terms C xs)) ts s → After_rules D C (At Eval p ∷ ts) s
  eval C p (then h k) = then (present h) k

  no_rules : (C : Specification) {ts : List Token} → After_rules D C ts s → After_variables D C ts s
  no_rules C {ts = ts} e = then absent (subst (λ c. After_rules D c ts s) (sym (no_rules_more C)) e)

  rules : (C : Specification) (p : ℕ) {ts : List Token} → Then (Any IsRule) (λ xs. After_rules D (with_rules C xs)) ts s → After_variables D C (At Rules p ∷ ts) s
  rules C p (then h k) = then (present h) k

  no_variables : (C : Specification) {ts : List Token} → After_variables D C ts s → After_operations D C ts s
  no_variables C {ts = ts} e = then absent (subst (λ c. After_variables D c ts s) (sym (no_variables_more C)) e)

  vars : (C : Specification) (p : ℕ) {ts : List Token} → Variables_ahead D C ts s → After_operations D C (At Vars p ∷ ts) s
  vars C p (then h k) = then (present h) k

  no_operations : (C : Specification) {ts : List Token} → After_operations D C ts s → After_constructors D C ts s
  no_operations C {ts = ts} e = then absent (subst (λ c. After_operations D c ts s) (sym (no_declarations_more C)) e)

  opns : (C : Specification) (p : ℕ) {ts : List Token} → Declarations Operations D C ts s → After_constructors D C (At Opns p ∷ ts) s
  opns C p (then h k) = then (present h) k

  no_constructors : (C : Specification) {ts : List Token} → After_constructors D C ts s → After_sorts D C ts s
  no_constructors C {ts = ts} e = then absent (subst (λ c. After_constructors D c ts s) (sym (no_declarations_more C)) e)

  cons : (C : Specification) (p : ℕ) {ts : List Token} → Declarations Constructors D C ts s → After_sorts D C (At Cons p ∷ ts) s
  cons C p (then h k) = then (present h) k

  no_sorts : (C : Specification) {ts : List Token} → After_sorts D C ts s → After_header D C ts s
  no_sorts C {ts = ts} e = then absent (subst (λ c. After_sorts D c ts s) (sym (no_sorts_more C)) e)

  sorts : (C : Specification) (p : ℕ) {ts : List Token} → Then (Maybe IsNames) (λ xs. After_sorts D (with_sorts C xs)) ts s → After_header D C (At Sorts p ∷ ts) s
  sorts C p (then h k) = then (present h) k

  no_includes : (C : Specification) {ts : List Token} → After_header D C ts s → After_heading D C ts s
  no_includes C {ts = ts} e = then absent (subst (λ c. After_header D c ts s) (sym (no_includes_more C)) e)

  includes : (C : Specification) (p : ℕ) {ts : List Token} → Then (Maybe IsNames) (λ xs. After_header D (with_includes C xs)) ts s → After_heading D C (At Colon p ∷ ts) s
  includes C p (then h k) = then (present h) k

pub rules_backs : (m : Machine) (t : Token) → Backs (after_rules m t) t (After_rules m.done m.current)
rules_backs m (At Eval p) = λ ts s g. eval m.done m.current p g
rules_backs m t = weaken (on_end m t) t (Ends m.done m.current) (After_rules m.done m.current) (λ ts s e. no_eval m.done m.current e) (end_backs m t)

pub variables_backs : (m : Machine) (t : Token) → Backs (after_variables m t) t (After_variables m.done m.current)
variables_backs m (At Rules p) = λ ts s g. rules m.done m.current p g
variables_backs m t = weaken (after_rules m t) t (After_rules m.done m.current) (After_variables m.done m.current) (λ ts s e. no_rules m.done m.current e) (rules_backs m t)

pub operations_backs : (m : Machine) (t : Token) → Backs (after_operations m t) t (After_operations m.done m.current)
operations_backs m (At Vars p) = λ ts s g. vars m.done m.current p g
operations_backs m t = weaken (after_variables m t) t (After_variables m.done m.current) (After_operations m.done m.current) (λ ts s e. no_variables m.done m.current e) (variables_backs m t)

pub constructors_backs : (m : Machine) (t : Token) → Backs (after_constructors m t) t (After_constructors m.done m.current)
constructors_backs m (At Opns p) = λ ts s g. opns m.done m.current p g
constructors_backs m t = weaken (after_operations m t) t (After_operations m.done m.current) (After_constructors m.done m.current) (λ ts s e. no_operations m.done m.current e) (operations_backs m t)

pub declarations_backs : (group : Group) (m : Machine) (t : Token) → Backs (after_declarations group m t) t (After_declarations group m.done m.current)
declarations_backs Constructors m t = constructors_backs m t
declarations_backs Operations m t = operations_backs m t

pub sorts_backs : (m : Machine) (t : Token) → Backs (after_sorts m t) t (After_sorts m.done m.current)
sorts_backs m (At Cons p) = λ ts s g. cons m.done m.current p g
sorts_backs m t = weaken (after_constructors m t) t (After_constructors m.done m.current) (After_sorts m.done m.current) (λ ts s e. no_constructors m.done m.current e) (constructors_backs m t)

pub header_backs : (m : Machine) (t : Token) → Backs (after_header m t) t (After_header m.done m.current)
header_backs m (At Sorts p) = λ ts s g. sorts m.done m.current p g
header_backs m t = weaken (after_sorts m t) t (After_sorts m.done m.current) (After_header m.done m.current) (λ ts s e. no_sorts m.done m.current e) (sorts_backs m t)

pub heading_backs : (m : Machine) (t : Token) → Backs (after_heading m t) t (After_heading m.done m.current)
heading_backs m (At Colon p) = λ ts s g. includes m.done m.current p g
heading_backs m t = weaken (after_header m t) t (After_header m.done m.current) (After_heading m.done m.current) (λ ts s e. no_includes m.done m.current e) (header_backs m t)

pub on_heading_backs : (m : Machine) (t : Token) → Backs (on_heading m t) t (At_heading m.done)
on_heading_backs m (Named n) = λ ts s g. name g
on_heading_backs m _ = tt

begin_back : (D : List Specification) (p : ℕ) {ts : List Token} {s : List Specification} → At_heading D ts s → At_start D (At RecSpec p ∷ ts) s
begin_back D p (name (then a (then b (then c (then d (then e (then f (then g (ends more))))))))) = at_start (input (specification a b c d e f g) more)

again_back : (D : List Specification) (p : ℕ) {ts : List Token} {s : List Specification} → At_heading D ts s → At_between D (At RecSpec p ∷ ts) s
again_back D p (name (then a (then b (then c (then d (then e (then f (then g (ends more))))))))) = at_between (next (specification a b c d e f g) more)

pub start_backs : (m : Machine) (t : Token) → Backs (on_start m t) t (At_start m.done)
start_backs m (At RecSpec p) = λ ts s g. begin_back m.done p g
start_backs m _ = tt

pub between_backs : (m : Machine) (t : Token) → Backs (on_start m t) t (At_between m.done)
between_backs m (At RecSpec p) = λ ts s g. again_back m.done p g
between_backs m _ = tt
