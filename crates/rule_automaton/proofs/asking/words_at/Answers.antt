use Rattle.std.proofs.Common.{List, subst, rules}
use Rattle.std.proofs.lemmas.List.Sorted.{IsNonDecreasingBy-from_sort_by_key}
use Rattle.rule_automaton.specs.Asking.{ArePicked, word_key}
use Rattle.rule_automaton.specs.declared.shapes.Test.{Test}
use Rattle.rule_automaton.proofs.Asked.{words_picked}
use Rattle.rule_automaton.proofs.asking.words_at.Goals as goal

pub returns-clause-order : goal.returns-clause-order
returns-clause-order c =
    let words = c.in_ok-words.words.items in
    let picked = subst (λ (ts : List Test). ArePicked ts ts words) c.deref.ensures.value c.in_ok-words.ensures in
    picked.order (IsNonDecreasingBy-from_sort_by_key word_key c.sort_unstable_by_key.new.self.items c.sort_unstable_by_key.ensures.sorted (λ a r q k. search rules))

pub returns-clause-words : goal.returns-clause-words
returns-clause-words c =
    let words = c.in_ok-words.words.items in
    let picked = subst (λ (ts : List Test). ArePicked ts ts words) c.deref.ensures.value c.in_ok-words.ensures in
    words_picked c.args.shapes.now c.args.rules.now c.args.place c.in_ok-noted.noted.items c.sort_unstable_by_key.new.self.items words c.in_ok-noted.ensures c.sort_unstable_by_key.ensures.permutation picked
