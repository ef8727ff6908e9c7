-- Rules and terms to be evaluated are read to their end.
use Rattle.std.proofs.Common.{◌≡◌, ◌∙◌, ℕ, List, [], ◌∷◌, ◌++◌, refl, ap, sym, append_assoc, Bool, Some, None}
use Rattle.rec_reader.specs.declared.token.Name.{Name}
use Rattle.rec_reader.specs.declared.token.Token.{Token}
use Rattle.rec_reader.specs.declared.token.Token.TheVariants.{Named, At}
use Rattle.rec_reader.specs.declared.token.Sign.{Sign}
use Rattle.rec_reader.specs.declared.token.Sign.TheVariants.{Rules, Eval}
use Rattle.rec_reader.specs.declared.syntax_tree.Node.{Node}
use Rattle.rec_reader.specs.declared.syntax_tree.Condition.{Condition}
use Rattle.rec_reader.specs.declared.syntax_tree.Rule.{Rule}
use Rattle.rec_reader.specs.declared.syntax_tree.Specification.{Specification}
use Rattle.rec_reader.specs.declared.machine.Purpose.TheVariants.{Left, Right, First, Second, Value}
use Rattle.rec_reader.specs.declared.machine.Part.TheVariants.{Expected, Headed, Whole}
use Rattle.rec_reader.specs.declared.machine.Place.TheVariants.{BeforeRule, BeforeTerms, Within}
use Rattle.rec_reader.specs.declared.machine.Machine.{Machine}
use Rattle.rec_reader.specs.Grammar.{Any, none, next, Maybe, without, with, Section, absent, present, Listed, last, beside, with_comma, IsTerm, IsTerms, IsRelation, joins, equal, parts, unequal, condition, IsSeparator, by_comma, by_and_if, IsConditions, one, and, IsRule, plain, conditional}
use Rattle.rec_reader.specs.Steps.{step, at, on_end, after_rules, after_variables, after_first, begin_second, after_second, with_condition}
use Rattle.rec_reader.specs.Syntax.{blank_rule}
use Rattle.rec_reader.proofs.Outcome.{outcome, go_on}
use Rattle.rec_reader.proofs.Leaving.{skip_rules, skip_eval, leave_rules, no_terms, leave_right, leave_second, leave_value}
use Rattle.rec_reader.proofs.Terms.{term_read}
use Rattle.rec_reader.proofs.Values.{with_rules, with_terms, no_rules_more, no_terms_more, one_rule, one_term}
use Rattle.rec_reader.proofs.Sections.{Leads, held, leads_same}

relation_step : {sign : Sign} {same : Bool} → IsRelation sign same → (m : Machine) (p : ℕ) → after_first m (At sign p) ≡ begin_second same m
relation_step joins m p = refl
relation_step equal m p = refl
relation_step parts m p = refl
relation_step unequal m p = refl

separator_step : {sign : Sign} → IsSeparator sign → (m : Machine) (p : ℕ) → after_second m (At sign p) ≡ at (with_condition m) (Within First Expected)
separator_step by_comma m p = refl
separator_step by_and_if m p = refl

-- a rule with more conditions
abbrev more_conditions : Rule → List Condition → Rule
more_conditions r cs = record r { conditions = r.conditions ++ cs }

one_condition : (r : Rule) (c : Condition) (cs : List Condition) → more_conditions (more_conditions r (c ∷ [])) cs ≡ more_conditions r (c ∷ cs)
one_condition r c cs = ap (λ xs. record r { conditions = xs }) (append_assoc r.conditions (c ∷ []) cs)

module _ (D : List Specification) {s : List Specification} where
  conditions_read : (C : Specification) (R : Rule) {ts us : List Token} {cs : List Condition} → IsConditions ts cs us → ((m : Machine) → outcome (record (held m D (with_rules C (more_conditions R cs ∷ []))) { place = BeforeRule }) us ≡ Some s) → (m : Machine) → outcome (record (held m D C) { place = Within First Expected; rule = R; nodes = []; heads = [] }) ts ≡ Some s
  conditions_read C R {us = us} (one (condition {p = p} {same = same} {first = first} {second = second} f rel g)) k m =
      let m0 : Machine = record (held m D C) { place = Within First Expected; rule = R; nodes = []; heads = [] } in
      term_read f First m0 m0 (λ n. refl) (λ n.
      let m1 : Machine = record m0 { place = Within Second Expected; head = n; first = first; equal = same } in
      go_on _ _ _ m1 (relation_step rel (record m0 { place = Within First Whole; head = n; nodes = first }) p)
      (term_read g Second m1 m1 (λ o. refl) (λ o. leave_second (record m1 { head = o; nodes = second }) us
      (k (record m1 { head = o; rule = blank_rule; first = []; nodes = []; heads = [] })))))
  conditions_read C R {us = us} (and {p = q} {cs = cs} (condition {p = p} {same = same} {first = first} {second = second} f rel g) sep r) k m =
      let m0 : Machine = record (held m D C) { place = Within First Expected; rule = R; nodes = []; heads = [] } in
      let c : Condition = record { first = first; second = second; equal = same } in
      term_read f First m0 m0 (λ n. refl) (λ n.
      let m1 : Machine = record m0 { place = Within Second Expected; head = n; first = first; equal = same } in
      go_on _ _ _ m1 (relation_step rel (record m0 { place = Within First Whole; head = n; nodes = first }) p)
      (term_read g Second m1 m1 (λ o. refl) (λ o.
      let m2 : Machine = record m1 { place = Within First Expected; head = o; rule = more_conditions R (c ∷ []); first = []; nodes = [] } in
      go_on _ _ _ m2 (separator_step sep (record m1 { place = Within Second Whole; head = o; nodes = second }) q)
      (conditions_read C (more_conditions R (c ∷ [])) r (λ m3. ap (λ x. outcome (record (held m3 D (with_rules C (x ∷ []))) { place = BeforeRule }) us) (one_condition R c cs) ∙ k m3) m2))))

  rules_read : (C : Specification) {ts us : List Token} {xs : List Rule} → Any IsRule ts xs us → Leads after_rules D (with_rules C xs) us s → (m : Machine) → outcome (record (held m D C) { place = BeforeRule }) ts ≡ Some s
  rules_read C {us = us} none k m = leave_rules (held m D C) us (leads_same after_rules D us (no_rules_more C) k m)
  rules_read C {us = us} (next {us = vs} {xs = xs} (plain {left = left} {right = right} l r) rest) k m =
      let rule : Rule = record { left = left; right = right; condition_at = None; conditions = [] } in
      term_read l Left (record (held m D C) { place = BeforeRule }) (record (held m D C) { nodes = []; heads = [] }) (λ n. refl) (λ n.
      let m1 : Machine = record (held m D C) { place = Within Right Expected; head = n; rule = record rule { right = [] }; nodes = []; heads = [] } in
      go_on _ _ _ m1 refl
      (term_read r Right m1 m1 (λ o. refl) (λ o. leave_right (record m1 { head = o; nodes = right }) vs
      (rules_read (with_rules C (rule ∷ [])) rest (leads_same after_rules D us (sym (one_rule C rule xs)) k) (record m1 { head = o; rule = blank_rule; nodes = []; heads = [] })))))
  rules_read C {us = us} (next {us = vs} {xs = xs} (conditional {q = q} {left = left} {right = right} {cs = cs} l r conditions) rest) k m =
      let rule : Rule = record { left = left; right = right; condition_at = Some q; conditions = cs } in
      term_read l Left (record (held m D C) { place = BeforeRule }) (record (held m D C) { nodes = []; heads = [] }) (λ n. refl) (λ n.
      let m1 : Machine = record (held m D C) { place = Within Right Expected; head = n; rule = record { left = left; right = []; condition_at = None; conditions = [] }; nodes = []; heads = [] } in
      go_on _ _ _ m1 refl
      (term_read r Right m1 m1 (λ o. refl) (λ o.
      let m2 : Machine = record m1 { place = Within First Expected; head = o; rule = record rule { conditions = [] } } in
      go_on _ _ _ m2 refl
      (conditions_read C (record rule { conditions = [] }) conditions (λ m3. rules_read (with_rules C (rule ∷ [])) rest (leads_same after_rules D us (sym (one_rule C rule xs)) k) m3) m2))))

  pub any_rules_read : (C : Specification) {ts us : List Token} {xs : List Rule} → Section Rules (Any IsRule) ts xs us → Leads after_rules D (with_rules C xs) us s → Leads after_variables D C ts s
  any_rules_read C {us = us} absent k m = skip_rules (held m D C) us (leads_same after_rules D us (no_rules_more C) k m)
  any_rules_read C (present rs) k m = rules_read C rs k m

  values_read : (C : Specification) {ts us : List Token} {xs : List (List Node)} → Listed IsTerm ts xs us → Leads on_end D (with_terms C xs) us s → (m0 m : Machine) → ((n : Name) → step m0 (Named n) ≡ Some (record (held m D C) { place = Within Value Headed; head = n; nodes = []; heads = [] })) → outcome m0 ts ≡ Some s
  values_read C {us = us} (last {x = x} t) k m0 m h =
      let m1 : Machine = record (held m D C) { nodes = []; heads = [] } in
      term_read t Value m0 m1 h (λ n. leave_value (record m1 { head = n; nodes = x }) us (k (record m1 { head = n })))
  values_read C {us = us} (beside {x = x} {xs = xs} t r) k m0 m h =
      let m1 : Machine = record (held m D C) { nodes = []; heads = [] } in
      term_read t Value m0 m1 h (λ n. values_read (with_terms C (x ∷ [])) r (leads_same on_end D us (sym (one_term C x xs)) k) (record m1 { place = Within Value Whole; head = n; nodes = x }) m1 (λ o. refl))
  values_read C {us = us} (with_comma {x = x} {xs = xs} t r) k m0 m h =
      let m1 : Machine = record (held m D C) { nodes = []; heads = [] } in
      term_read t Value m0 m1 h (λ n.
      let m2 : Machine = record (held m1 D (with_terms C (x ∷ []))) { place = Within Value Expected; head = n } in
      go_on _ _ _ m2 refl (values_read (with_terms C (x ∷ [])) r (leads_same on_end D us (sym (one_term C x xs)) k) m2 m2 (λ o. refl)))

  pub terms_read : (C : Specification) {ts us : List Token} {xs : List (List Node)} → Section Eval (Maybe IsTerms) ts xs us → Leads on_end D (with_terms C xs) us s → Leads after_rules D C ts s
  terms_read C {us = us} absent k m = skip_eval (held m D C) us (leads_same on_end D us (no_terms_more C) k m)
  terms_read C {us = us} (present without) k m = no_terms (held m D C) us (leads_same on_end D us (no_terms_more C) k m)
  terms_read C (present (with ts)) k m = values_read C ts k (record (held m D C) { place = BeforeTerms }) m (λ n. refl)
