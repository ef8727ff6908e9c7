use Rattle.std.proofs.Common.{sym, arith}
use Rattle.rule_automaton.specs.Running.{made}
use Rattle.rule_automaton.proofs.Steps.{found_at, found_within, answer_of_all}
use Rattle.rule_automaton.proofs.finding.step.Goals as goal

pub returns-in-Found-clause-next : goal.returns-in-Found-clause-next
returns-in-Found-clause-next g c = λ m run.
    let a = made c.args.automaton.now in
    found_at a (g.T.Terms.store c.args.terms.now) c.args.rows.now m c.args.at run c.index-state.result.now (sym c.index-state.ensures) c.in-Found.is _ c.index.ensures

pub returns-in-Turn-clause-next : goal.returns-in-Turn-clause-next
returns-in-Turn-clause-next g c = λ m run.
    let a = made c.args.automaton.now in
    answer_of_all a (g.T.Terms.store c.args.terms.now) c.args.rows.now c.in_turn.new.rows m c.args.at run c.index-state.result.now (sym c.index-state.ensures) c.in_turn.result (c.in_turn.ensures.answer m run.begun)

pub index-state-requires : goal.index-state-requires
index-state-requires g c = let l = c.requires.run.1.within in omega (arith, l, c.args.automaton.now.states.ok.0)

pub index-requires : goal.index-requires
index-requires g c =
    let l = found_within (made c.args.automaton.now) (g.T.Terms.store c.args.terms.now) c.args.rows.now c.requires.run.0 c.args.at c.requires.run.1 c.index-state.result.now (sym c.index-state.ensures) c.in-Found.is in
    omega (arith, l, c.args.automaton.now.rules.ok.0)
