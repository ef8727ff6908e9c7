use Rattle.std.proofs.Common.{◌<◌, length, sym, ◌∙◌, arith}
use Rattle.std.proofs.lemmas.List.{get_or_default}
use Rattle.rule_automaton.specs.Running.{made}
use Rattle.rule_automaton.proofs.Decided.{grown_by}
use Rattle.rule_automaton.proofs.building.build_at.Goals as goal

pub returns-clause-grown : goal.returns-clause-grown
returns-clause-grown c = λ table built.
    let b = made c.args.automaton.now in
    let now = made c.op_of.new.automaton in
    let at = c.args.at in
    let d = c.in_ok-op.ensures.decides table built in
    let l = c.requires.at in
    let m : at < length now.states = (let k = d.continues.count in omega (arith, l, k)) in
    let st = c.index_mut.result.now in
    grown_by table b now at c.in_ok-op.op d built l st (λ e. sym (d.continues.states at e l) ∙ get_or_default now.states at e st m ∙ sym c.index_mut.ensures.value)
