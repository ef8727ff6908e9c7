use Rattle.rec_check.proofs.Common.{◌∙◌, ◌++◌, ap, is_some, flat_map, listing}
use Rattle.rec_check.proofs.Declaring.{of_rules, on_rules}
use Rattle.rec_check.proofs.spelling.add_rules.Goals as goal

pub push_rules-requires-clause-spelled : goal.push_rules-requires-clause-spelled
push_rules-requires-clause-spelled c =
    let s = c.args.specification.now in
    let names = c.in_ok-add_variables.ensures ∙ ap (λ d. listing d.bytes (d.names ++ flat_map (λ v. v.names) s.variables)) c.new-declared.ensures in
    ap is_some (of_rules c.args.rules.now.items c.args.text.now c.args.symbols.now s _ _ names c.as_slice-written.ensures)
    ∙ c.requires.spelled

pub returns : goal.returns
returns c =
    let s = c.args.specification.now in
    let names = c.in_ok-add_variables.ensures ∙ ap (λ d. listing d.bytes (d.names ++ flat_map (λ v. v.names) s.variables)) c.new-declared.ensures in
    on_rules c.args.rules.now.items c.args.text.now c.args.symbols.now s _ _ names c.as_slice-written.ensures c.push_rules.result _ c.push_rules.ensures
