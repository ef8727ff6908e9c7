-- A specification without an `if` in the rules that run has rules without conditions.
use Rattle.rec_check.proofs.Common.{[], nat_tests, rules, ◌≡◌, ℕ, List, ◌∷◌, ◌++◌, refl, subst, arith, min, flat_map, AllByRecursion, All-append, same_Some, Rule, IsUnconditional, Named, Token, Specification, Parsed, Any, none, next, Section, absent, present, IsRule, IsSpecification, specification, IsInput, input, specifications_at, ifs_of, least_with, first_if, rule_in, all_of, Specified, variables_of, spelled_in}
use Rattle.std.specs.Prelude.{Some, None, All}
use Rattle.rec_reader.specs.declared.token.Sign.TheVariants.{Rules}
use Rattle.rec_reader.specs.declared.syntax_tree.Rule as written
use Rattle.rec_check.specs.Spelled as spelled
use Rattle.rec_check.proofs.NameBytes.{all_at}

-- ---- a rule has conditions only where it has an `if`
abbrev AreWhole : List written.Rule → Type 0
AreWhole [] = Unit {0}
AreWhole (r ∷ rs) = (r.condition_at ≡ None → r.conditions ≡ []) × AreWhole rs

abbrev AllWhole : List Specification → Type 0
AllWhole ss = AllByRecursion (λ (s : Specification). AreWhole s.rules) ss

rule_whole : {ts rest : List Token} {r : written.Rule} → IsRule ts r rest → r.condition_at ≡ None
    → r.conditions ≡ []
rule_whole h e = grind (arith, nat_tests)

rules_whole : {ts rest : List Token} {rs : List written.Rule} → Any IsRule ts rs rest → AreWhole rs
rules_whole none = tt
rules_whole (next r more) = (rule_whole r, rules_whole more)

section_whole : {ts rest : List Token} {rs : List written.Rule}
    → Section Rules (Any IsRule) ts rs rest → AreWhole rs
section_whole absent = tt
section_whole (present rs) = rules_whole rs

specification_whole : {ts rest : List Token} {s : Specification} → IsSpecification ts s rest
    → AreWhole s.rules
specification_whole (specification a b c d e f g) = section_whole f

specifications_whole : {ts rest : List Token} {ss : List Specification}
    → Any IsSpecification ts ss rest → AllWhole ss
specifications_whole none = tt
specifications_whole (next s more) = (specification_whole s, specifications_whole more)

input_whole : (ts : List Token) (ss : List Specification) → IsInput ts ss → AllWhole ss
input_whole ts ss (input s more) = (specification_whole s, specifications_whole more)

material_whole : (ss : List Specification) (ns : List ℕ) → AllWhole ss
    → AllWhole (specifications_at ss ns)
material_whole ss ns a = all_at (λ (s : Specification). AreWhole s.rules) ss ns a

-- ---- there is no `if`
least_some : (m : ℕ) (ns : List ℕ) → least_with (Some m) ns ≡ None → ⊥
least_some m [] e = cc
least_some m (n ∷ ns) e = least_some (min m n) ns e

least_none : (ns : List ℕ) → least_with None ns ≡ None → ns ≡ []
least_none [] e = refl
least_none (n ∷ ns) e = absurd (least_some n ns e)

abbrev HaveNoIf : List written.Rule → Type 0
HaveNoIf [] = Unit {0}
HaveNoIf (r ∷ rs) = (r.condition_at ≡ None) × HaveNoIf rs

have_no_if : (rs : List written.Rule) → ifs_of rs ≡ [] → HaveNoIf rs
have_no_if [] e = tt
have_no_if (r ∷ rs) e = grind (arith, nat_tests, have_no_if rs)

first_of_two : (rs us : List written.Rule) → HaveNoIf (rs ++ us) → HaveNoIf rs × HaveNoIf us
first_of_two [] us h = (tt, h)
first_of_two (r ∷ rs) us h = let k = first_of_two rs us h.1 in ((h.0, k.0), k.1)

-- ---- what is spelled then has no condition

abbrev ArePlain : List Rule → Type 0
ArePlain rules = All IsUnconditional rules

none_plain : ArePlain []
none_plain k d lt = absurd (omega arith)

rules_are : (text : List ℕ) (symbols : List Named) (declared : List (List ℕ))
    (rs : List written.Rule) (out : List Rule) → AreWhole rs → HaveNoIf rs
    → all_of (λ r. rule_in text symbols declared r) rs ≡ Some out → ArePlain out
rules_are text symbols declared [] out w h e = subst ArePlain (same_Some [] out e) none_plain
rules_are text symbols declared (r ∷ rs) out w h e = grind (arith, nat_tests, rules_are text symbols declared rs)

all_are : (text : List ℕ) (symbols : List Named) (ss : List Specification) (out : List Rule)
    → AllWhole ss → HaveNoIf (flat_map (λ (s : Specification). s.rules) ss)
    → spelled.rules_of text symbols ss ≡ Some out → ArePlain out
all_are text symbols [] out w h e = subst ArePlain (same_Some [] out e) none_plain
all_are text symbols (s ∷ ss) out w h e =
    let two = first_of_two s.rules (flat_map (λ (x : Specification). x.rules) ss) h in
    grind (arith, nat_tests, All-append IsUnconditional, rules_are text symbols (variables_of text s) s.rules, all_are text symbols ss, two)

-- the rules of what a syntax spells
pub unconditional_rules : (syntax : Parsed) (tokens : List Token) (spec : Specified)
    → IsInput tokens syntax.specifications → first_if syntax ≡ None → spelled_in syntax ≡ Some spec
    → All IsUnconditional spec.rules
unconditional_rules syntax tokens spec read bare e = grind (arith, nat_tests, none_plain, all_are, material_whole, input_whole, have_no_if, least_none)
