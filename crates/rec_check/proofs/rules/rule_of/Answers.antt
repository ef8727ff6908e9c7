use Rattle.rec_check.proofs.Common.{common_steps, ◌≡◌, ◌∙◌, ◌<◌, List, Option, Some, IfOk, length, ap, sym, subst, arith, length-map, Rule, Node, text_of, texts, variables_in}
use Rattle.rec_check.proofs.Chains.{in_scope}
use Rattle.rec_check.proofs.Numbered.{variables_few}
use Rattle.rec_check.proofs.rules.rule_of.Goals as goal

pub sides_of-requires : goal.sides_of-requires
sides_of-requires c = grind (arith, common_steps, in_scope)

pub returns : goal.returns
returns c =
    let d = c.args.declared.now in
    let names = c.in_ok-variables.ensures.texts ∙ ap (variables_in d.bytes (texts d)) c.as_slice.ensures in
    subst (λ (o : Option Rule). IfOk c.sides_of.result (λ r. o ≡ Some r))
    (in_scope _ _ c.args.symbols.now _ _ c.args.written.now c.in_ok-variables.ensures.bytes names)
    c.sides_of.ensures

pub invariant_of-scope : goal.invariant_of-scope
invariant_of-scope c =
    let d = c.args.declared.now in
    let v = c.in_ok-variables.variables in
    let nodes : List Node = c.as_slice.result.now in
    let below : length nodes < 4294967296 = subst (λ (ns : List Node). length ns < 4294967296) (sym c.as_slice.ensures) c.requires.few in
    let all = ap length c.in_ok-variables.ensures.texts in
    record { few = grind (arith, variables_few d.bytes (texts d) nodes below, length-map v.names (λ n. text_of v.bytes n), all) }
