use Rattle.std.proofs.Common.{◌≡◌, ℕ, List, take, get_or, true, sym, ◌∙◌, ap, inl, inr, subst}
use Rattle.std.specs.Prelude.{All, Contains}
use Rattle.std.specs.List.{list_all}
use Rattle.std.proofs.lemmas.List.{take_all}
use Rattle.std.proofs.lemmas.List.Elements.{All-more, All-weaker, Contains-get_or}
use Rattle.rule_automaton.specs.Shapes.{tests_at}
use Rattle.rule_automaton.specs.Asking.{is_from}
use Rattle.rule_automaton.proofs.Trying.{read_shape}
use Rattle.rule_automaton.proofs.Asked.{all_lower}
use Rattle.rule_automaton.specs.declared.shapes.Test.{Test}
use Rattle.rule_automaton.specs.declared.shapes.Shape.{Shape}
use Rattle.rule_automaton.proofs.asking.least_of_all.Goals as goal

pub loop-rule-preserved : goal.loop-rule-preserved
loop-rule-preserved c =
    let shapes = c.args.shapes.now in
    let rules = c.args.rules.now in
    let k = c.loop-rule.rule-index in
    let r = get_or rules k 0 in
    let l = c.loop-rule-test.true in
    let i = c.loop-rule.invariant in
    let old = c.loop-rule.least in
    let new = c.least_place-least.result in
    let read = read_shape shapes r c.index-shapes-rule.result (c.requires k 0 l) c.index-shapes-rule.is in
    let same = read.tests ∙ ap (λ (s : Shape). s.tests.items) c.index-shapes-rule.is ∙ sym c.deref.ensures.value in
    let is_low : ℕ → Type 0 = λ q. list_all (λ (t : Test). is_from c.args.bound new t) (tests_at shapes q) ≡ true in
    let was_low : ℕ → Type 0 = λ q. list_all (λ (t : Test). is_from c.args.bound old t) (tests_at shapes q) ≡ true in
    record {
      all = All-more is_low rules k 0 l (All-weaker was_low is_low (λ q e. all_lower c.args.bound new old (tests_at shapes q) c.least_place-least.ensures.low e) (take k rules) i.all) (ap (list_all (λ (t : Test). is_from c.args.bound new t)) same ∙ c.least_place-least.ensures.all);
      asked =
          elim c.least_place-least.ensures.asked [
            | inl e ↦ elim i.asked [ inl f ↦ inl (e ∙ f) | inr o ↦ inr ((o.0, o.1, (o.2.0, o.2.1, o.2.2 ∙ sym e))) ]
            | inr t ↦ inr ((r, Contains-get_or rules k 0 l, (t.0, subst (λ (ts : List Test). Contains ts t.0) (sym same) t.1, t.2)))
          ];
    }

pub returns-clause-all : goal.returns-clause-all
returns-clause-all c =
    subst (All (λ q. list_all (λ (t : Test). is_from c.args.bound c.loop-rule.least t) (tests_at c.args.shapes.now q) ≡ true)) (take_all c.loop-rule.rule-index c.args.rules.now c.loop-rule-test.false) c.loop-rule.invariant.all
