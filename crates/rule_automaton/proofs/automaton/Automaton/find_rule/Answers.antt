use Rattle.std.proofs.Common.{◌≡◌, ◌≤◌, List, length, sym, subst, ap, ◌∙◌, arith}
use Rattle.term_model.specs.declared.Row.{Row}
use Rattle.terms_api.specs.Terms.{Store, IsSound, tree_at}
use Rattle.rule_automaton.specs.Running.{made, asked, IsRun, IsAnswer}
use Rattle.std.proofs.lemmas.List.{length-set, with_items_is}
use Rattle.rule_automaton.proofs.Rooted.{rooted}
use Rattle.rule_automaton.proofs.automaton.Automaton.find_rule.Goals as goal

pub begin-start-requires-clause-rooted : goal.begin-start-requires-clause-rooted
begin-start-requires-clause-rooted g c =
    let s = g.T.Terms.store c.args.terms.now in
    (asked c.args.plan.now.rules (tree_at s c.args.row) c.args.first, rooted (made c.args.self.now) s c.as_mut_slice-rows.result.now c.args.plan.now.rules c.args.row c.args.first c.requires.automaton c.requires.held (subst (λ (rs : List Row). (made c.args.self.now).places ≤ length rs) (sym c.as_mut_slice-rows.ensures.value) c.requires.places) c.requires.first c.requires.head)

pub run-requires-clause-run : goal.run-requires-clause-run
run-requires-clause-run g c =
    let s = g.T.Terms.store c.args.terms.now in
    let a = made c.args.self.now in
    let m = asked c.args.plan.now.rules (tree_at s c.args.row) c.args.first in
    let it = rooted a s c.as_mut_slice-rows.result.now c.args.plan.now.rules c.args.row c.args.first c.requires.automaton c.requires.held (subst (λ (rs : List Row). a.places ≤ length rs) (sym c.as_mut_slice-rows.ensures.value) c.requires.places) c.requires.first c.requires.head in
    (m, subst (λ (v : Store). IsRun a v c.begin-start.new.rows m c.begin-start.result) (sym c.begin-start.ensures.unchanged) (c.begin-start.ensures.run m it))

pub returns-clause-answer : goal.returns-clause-answer
returns-clause-answer g c =
    let s = g.T.Terms.store c.args.terms.now in
    let a = made c.args.self.now in
    let m = asked c.args.plan.now.rules (tree_at s c.args.row) c.args.first in
    let n = length-set c.as_mut_slice-rows.result.now 0 c.args.row in
    let size : length c.run.new.rows ≡ c.args.places.now.rows.len = omega (arith, n, c.as_mut_slice-rows.ensures.len) in
    let it = rooted a s c.as_mut_slice-rows.result.now c.args.plan.now.rules c.args.row c.args.first c.requires.automaton c.requires.held (subst (λ (rs : List Row). a.places ≤ length rs) (sym c.as_mut_slice-rows.ensures.value) c.requires.places) c.requires.first c.requires.head in
    let run = subst (λ (v : Store). IsRun a v c.begin-start.new.rows m c.begin-start.result) (sym c.begin-start.ensures.unchanged) (c.begin-start.ensures.run m it) in
    let answer = subst (λ (v : Store). IsAnswer a v c.run.new.rows m c.run.result) c.begin-start.ensures.unchanged (c.run.ensures.answer m run) in
    subst (λ (rs : List Row). IsAnswer a s rs m c.run.result) (sym (with_items_is c.args.places.now.rows c.run.new.rows size)) answer

pub run-requires-clause-inside : goal.run-requires-clause-inside
run-requires-clause-inside g c = ap (λ (v : Store). v.inside) c.begin-start.ensures.unchanged ∙ c.requires.inside

pub run-requires-clause-sound : goal.run-requires-clause-sound
run-requires-clause-sound g c = subst IsSound (sym c.begin-start.ensures.unchanged) c.depth.ensures.sound

pub returns-clause-unchanged : goal.returns-clause-unchanged
returns-clause-unchanged g c = c.run.ensures.unchanged ∙ c.begin-start.ensures.unchanged

pub returns-clause-sound : goal.returns-clause-sound
returns-clause-sound g c = subst IsSound (sym (c.run.ensures.unchanged ∙ c.begin-start.ensures.unchanged)) c.depth.ensures.sound

pub returns-clause-same : goal.returns-clause-same
returns-clause-same g c = g.met.T.Terms.same_in_turn _ _ _ c.begin-start.ensures.same c.run.ensures.same
