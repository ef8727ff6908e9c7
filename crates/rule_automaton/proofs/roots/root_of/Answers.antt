use Rattle.std.proofs.Common.{◌≡◌, ◌<◌, List, length, get_or, Some, sym, ◌∙◌, ap, arith, subst}
use Rattle.std.specs.Prelude.{Contains}
use Rattle.std.proofs.lemmas.List.{get_or_default}
use Rattle.std.proofs.lemmas.Option.{IfSome_then}
use Rattle.term_model.specs.declared.Symbol.{Symbol}
use Rattle.term_model.specs.declared.Head.TheVariants.{App}
use Rattle.rewrite_model.specs.Rule.{Rule}
use Rattle.rule_match.proofs.Skipping.{head_at_rule}
use Rattle.rule_automaton.specs.Automata.{part}
use Rattle.rule_automaton.specs.Running.{made}
use Rattle.rule_automaton.specs.declared.states.State.{State}
use Rattle.rule_automaton.specs.declared.states.Way.{Way}
use Rattle.rule_automaton.specs.declared.states.Op.TheVariants.{Read}
use Rattle.rule_automaton.proofs.roots.root_of.Goals as goal

pub returns : goal.returns
returns c =
    let rules = c.args.plan.now.rules in
    let a = made c.args.automaton.now in
    let n = c.in-Read.node in
    let l : c.args.rule < length a.states = (let m = c.requires.starts.count in let r = c.requires.rule in omega (arith, m, r)) in
    let rule = subst (λ (rs : List Rule). c.index-rules-rule.result ≡ get_or rs c.args.rule c.index-rules-rule.result) c.rules.ensures.rules c.index-rules-rule.is in
    let head = head_at_rule rules c.args.rule c.index-rules-rule.result c.left.result.now c.requires.rule rule c.left.ensures ∙ sym c.root.ensures ∙ c.in-Some-App.is ∙ ap Some c.in-Some-App.field-0-is in
    IfSome_then c.find_symbol.result c.find_symbol.ensures (λ w h. record {
      first = n.first;
      last = n.last;
      other = n.other;
      reads = λ d. ap (λ (st : State). st.op) (get_or_default a.states c.args.rule d c.index.result.now l ∙ sym c.index.ensures) ∙ c.in-Read.is ∙ ap (λ p. Read (record { place = p; first = n.first; last = n.last; other = n.other })) c.if-node-ne0.false;
      way = subst (λ (ws : List Way). Contains (part ws n.first n.last) w) c.deref.ensures.value h.0;
      head = head ∙ ap (λ (f : Symbol). Some (App f)) (sym h.1);
    })
