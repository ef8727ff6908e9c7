use Rattle.std.proofs.Common.{sym, ◌∙◌, ap}
use Rattle.std.proofs.lemmas.List.{get_or_default}
use Rattle.rule_automaton.specs.Automata.{part}
use Rattle.rule_automaton.specs.Running.{made}
use Rattle.rule_automaton.proofs.Decided.{decides_by}
use Rattle.rule_automaton.proofs.building.op_of.Goals as goal

pub returns-clause-decides : goal.returns-clause-decides
returns-clause-decides c = λ table built.
    let a = made c.args.automaton.now in
    let st = c.index-state.result.now in
    decides_by table a (made c.choose.new.automaton) c.args.at st c.deref-4.result.now c.in_ok-op.op c.requires.at (λ d. get_or_default a.states c.args.at d st c.requires.at ∙ sym c.index-state.ensures) (c.deref-4.ensures.value ∙ c.in_ok-rules.ensures.items ∙ ap (λ xs. part xs st.from st.to) c.deref.ensures.value) built (c.in_ok-op.ensures.serves table built)
