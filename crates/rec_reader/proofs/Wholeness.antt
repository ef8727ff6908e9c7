-- A sentence has whole terms.
use Rattle.std.proofs.Common.{◌≡◌, ℕ, ◌+◌, ◌-◌, List, [], ◌∷◌, ◌++◌, None, suc, false, sym, ◌∙◌, ap, arith, append_assoc, append-nil}
use Rattle.std.specs.Prelude.{nat_lt, if◌then◌else◌, All}
use Rattle.std.proofs.lemmas.List.Elements.{All-nil, All-cons}
use Rattle.rec_reader.specs.declared.token.Name.{Name}
use Rattle.rec_reader.specs.declared.token.Token.{Token}
use Rattle.rec_reader.specs.declared.token.Sign.{Sign}
use Rattle.rec_reader.specs.declared.syntax_tree.Node.{Node}
use Rattle.rec_reader.specs.declared.syntax_tree.Condition.{Condition}
use Rattle.rec_reader.specs.declared.syntax_tree.Rule.{Rule}
use Rattle.rec_reader.specs.declared.syntax_tree.Specification.{Specification}
use Rattle.rec_reader.specs.Grammar.{Any, Maybe, Section, IsTerm, IsArguments, Arguments, IsTerms, IsCondition, IsConditions, IsRule, IsSpecification, IsInput, none, next, without, with, absent, present, last, beside, with_comma, constant, call, only, more, condition, one, and, plain, conditional, specification, input}
use Rattle.rec_reader.specs.Whole.{terms_after, IsWhole, HasWholeSides, IsWholeRule, HasWholeTerms}

-- a head takes its arguments
takes : (n k : ℕ) (name : Name) (rest : List Node) → terms_after (n + k) (record { head = name; count = k } ∷ rest) ≡ terms_after (n + 1) rest
takes n k name rest =
    let few : nat_lt (n + k) k ≡ false = grind arith in
    let left : n + k - k + 1 ≡ n + 1 = omega arith in
    ap (λ b. if b then None else terms_after (n + k - k + 1) rest) few ∙ ap (λ m. terms_after m rest) left

mutual
  term_whole : (ts : List Token) (nodes : List Node) (rest : List Token) → IsTerm ts nodes rest → (n : ℕ) (after : List Node) → terms_after n (nodes ++ after) ≡ terms_after (n + 1) after
  term_whole _ _ _ (constant {n = name} {rest = rest}) n after = ap (λ m. terms_after m (record { head = name; count = 0 } ∷ after)) (let z : n ≡ n + 0 = omega arith in z) ∙ takes n 0 name after
  term_whole _ _ _ (call {n = name} {ts = ts} {a = a} args) n after =
      ap (λ ns. terms_after n ns) (append_assoc a.nodes (record { head = name; count = a.count } ∷ []) after)
      ∙ arguments_whole ts a _ args n (record { head = name; count = a.count } ∷ after) ∙ takes n a.count name after

  arguments_whole : (ts : List Token) (a : Arguments) (rest : List Token) → IsArguments ts a rest → (n : ℕ) (after : List Node) → terms_after n (a.nodes ++ after) ≡ terms_after (n + a.count) after
  arguments_whole _ _ _ (only {ts = ts} {rest = rest} {t = t} term) n after = term_whole ts t rest term n after
  arguments_whole _ _ _ (more {ts = ts} {us = us} {rest = rest} {t = t} {a = a} term args) n after =
      ap (λ ns. terms_after n ns) (append_assoc t a.nodes after)
      ∙ term_whole ts t _ term n (a.nodes ++ after) ∙ arguments_whole us a rest args (n + 1) after
      ∙ ap (λ m. terms_after m after) (let z : n + 1 + a.count ≡ n + suc a.count = omega arith in z)

is_whole : (ts : List Token) (nodes : List Node) (rest : List Token) → IsTerm ts nodes rest → IsWhole nodes
is_whole ts nodes rest h = ap (λ ns. terms_after 0 ns) (sym (append-nil nodes)) ∙ term_whole ts nodes rest h 0 []

listed_whole : (ts : List Token) (xs : List (List Node)) (rest : List Token) → IsTerms ts xs rest → All IsWhole xs
listed_whole _ _ _ (last {ts = ts} {rest = rest} {x = x} h) = All-cons IsWhole x [] (is_whole ts x rest h) (All-nil IsWhole)
listed_whole _ _ _ (beside {ts = ts} {us = us} {rest = rest} {x = x} {xs = xs} h hs) = All-cons IsWhole x xs (is_whole ts x us h) (listed_whole us xs rest hs)
listed_whole _ _ _ (with_comma {ts = ts} {us = us} {rest = rest} {x = x} {xs = xs} h hs) = All-cons IsWhole x xs (is_whole ts x _ h) (listed_whole us xs rest hs)

condition_whole : (ts : List Token) (c : Condition) (rest : List Token) → IsCondition ts c rest → HasWholeSides c
condition_whole _ _ _ (condition f r s) = record { first = is_whole _ _ _ f; second = is_whole _ _ _ s }

conditions_whole : (ts : List Token) (cs : List Condition) (rest : List Token) → IsConditions ts cs rest → All HasWholeSides cs
conditions_whole _ _ _ (one {c = c} h) = All-cons HasWholeSides c [] (condition_whole _ _ _ h) (All-nil HasWholeSides)
conditions_whole _ _ _ (and {c = c} {cs = cs} h s hs) = All-cons HasWholeSides c cs (condition_whole _ _ _ h) (conditions_whole _ _ _ hs)

rule_whole : (ts : List Token) (r : Rule) (rest : List Token) → IsRule ts r rest → IsWholeRule r
rule_whole _ _ _ (plain l r) = record { left = is_whole _ _ _ l; right = is_whole _ _ _ r; conditions = All-nil HasWholeSides }
rule_whole _ _ _ (conditional l r cs) = record { left = is_whole _ _ _ l; right = is_whole _ _ _ r; conditions = conditions_whole _ _ _ cs }

any_whole : {A : Type 0} (Is : List Token → A → List Token → Type 0) (P : A → Type 0) → ((ts : List Token) (x : A) (rest : List Token) → Is ts x rest → P x) → (ts : List Token) (xs : List A) (rest : List Token) → Any Is ts xs rest → All P xs
any_whole Is P f _ _ _ none = All-nil P
any_whole Is P f _ _ _ (next {x = x} {xs = xs} h hs) = All-cons P x xs (f _ _ _ h) (any_whole Is P f _ _ _ hs)

rules_whole : (sign : Sign) (ts : List Token) (rs : List Rule) (rest : List Token) → Section sign (Any IsRule) ts rs rest → All IsWholeRule rs
rules_whole sign _ _ _ absent = All-nil IsWholeRule
rules_whole sign _ _ _ (present h) = any_whole IsRule IsWholeRule rule_whole _ _ _ h

maybe_whole : (ts : List Token) (xs : List (List Node)) (rest : List Token) → Maybe IsTerms ts xs rest → All IsWhole xs
maybe_whole _ _ _ without = All-nil IsWhole
maybe_whole _ _ _ (with h) = listed_whole _ _ _ h

terms_whole : (sign : Sign) (ts : List Token) (xs : List (List Node)) (rest : List Token) → Section sign (Maybe IsTerms) ts xs rest → All IsWhole xs
terms_whole sign _ _ _ absent = All-nil IsWhole
terms_whole sign _ _ _ (present h) = maybe_whole _ _ _ h

specification_whole : (ts : List Token) (s : Specification) (rest : List Token) → IsSpecification ts s rest → HasWholeTerms s
specification_whole _ _ _ (specification i s c o v r t) = record { rules = rules_whole _ _ _ _ r; terms = terms_whole _ _ _ _ t }

pub input_whole : (ts : List Token) (ss : List Specification) → IsInput ts ss → All HasWholeTerms ss
input_whole _ _ (input {s = s} {ss = ss} h hs) = All-cons HasWholeTerms s ss (specification_whole _ _ _ h) (any_whole IsSpecification HasWholeTerms specification_whole _ _ _ hs)
