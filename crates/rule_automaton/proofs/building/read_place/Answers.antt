use Rattle.std.proofs.Common.{◌≡◌, ◌+◌, ◌<◌, List, length, refl, sym, ◌∙◌, ap, subst, arith}
use Rattle.std.specs.Prelude.{All}
use Rattle.std.proofs.lemmas.List.{length_push}
use Rattle.rule_automaton.specs.Automata.{Made, passing}
use Rattle.rule_automaton.specs.Asking.{word_key, AreWords}
use Rattle.std.specs.List.Sorted.{IsNonDecreasingBy}
use Rattle.rule_automaton.specs.Running.{made}
use Rattle.rule_automaton.proofs.Built.{no_way, way_at, reads_end, reads_turn}
use Rattle.rule_automaton.specs.declared.shapes.Test.{Test}
use Rattle.rule_automaton.specs.declared.shapes.Shape.{Shape}
use Rattle.rule_automaton.proofs.building.read_place.Goals as goal

pub loop-word-init : goal.loop-word-init
loop-word-init c =
    record {
      shapes = refl;
      count = omega arith;
      within = omega arith;
      partway = λ table are based. no_way table (made c.args.automaton.now) c.args.rules.now c.args.place c.len-first.result are (omega (arith, c.len-first.ensures));
    }

pub push_way-requires-clause-rules : goal.push_way-requires-clause-rules
push_way-requires-clause-rules c = subst (λ (ss : List Shape). All (λ r. r < length ss) c.args.rules.now) (sym c.loop-word.invariant.shapes) c.requires.rules

pub loop-word-preserved : goal.loop-word-preserved
loop-word-preserved c =
    let a = made c.args.automaton.now in
    let b = made c.loop-word.automaton in
    let zero : Test = record { place = 0; symbol = record { 0 = 0 }; count = 0; base = 0 } in
    let words = subst (λ (ss : List Shape). AreWords ss c.args.rules.now c.args.place c.deref-word-items.result.now) c.deref.ensures.value (subst (AreWords c.deref.result.now c.args.rules.now c.args.place) (sym c.deref-word-items.ensures.value) c.in_ok-words.ensures.words) in
    let e = c.in_ok-push_way.ensures in
    let i = c.loop-word.invariant in
    record {
      shapes = ap (λ (v : Made). v.shapes) e ∙ i.shapes;
      count = (let n : length (made c.push_way.new.automaton).states ≡ length b.states + 1 = ap (λ (v : Made). length v.states) e ∙ length_push b.states _ in let k = i.count in omega (arith, n, k));
      within = omega arith;
      partway = λ table are based.
          way_at table a b c.args.rules.now c.args.place c.len-first.result _ c.loop-word.word-index zero c.loop-word-test.true words based c.requires.rules (i.partway table are based) (made c.push_way.new.automaton) e;
    }

pub returns-then-not-take-clause-reads : goal.returns-then-not-take-clause-reads
returns-then-not-take-clause-reads c = λ table are based. reads_turn table (made c.args.automaton.now) c.args.rules.now c.args.place are

pub returns-clause-paid : goal.returns-clause-paid
returns-clause-paid c =
    let b = made c.loop-word.automaton in
    let n : length (made c.push_state.new.automaton).states ≡ length b.states + 1 = ap (λ (v : Made). length v.states) c.in_ok-other.ensures.pushed ∙ length_push b.states _ in
    let i = c.loop-word.invariant in
    let k = i.count in
    let w = i.within in
    let z = c.deref-word-items.ensures.len in
    let t = c.take.ensures.taken c.if-not-take.false in
    omega (arith, n, k, w, z, t, c.len-count.ensures)

pub returns-clause-reads : goal.returns-clause-reads
returns-clause-reads c = λ table are based.
    let b = made c.loop-word.automaton in
    let words = subst (λ (ss : List Shape). AreWords ss c.args.rules.now c.args.place c.deref-word-items.result.now) c.deref.ensures.value (subst (AreWords c.deref.result.now c.args.rules.now c.args.place) (sym c.deref-word-items.ensures.value) c.in_ok-words.ensures.words) in
    let rest = c.deref-4.ensures.value ∙ c.in_ok-rest.ensures ∙ ap (λ (ss : List Shape). passing ss c.args.place c.args.rules.now) (c.deref-2.ensures.value ∙ sym c.loop-word.invariant.shapes) in
    let order = subst (IsNonDecreasingBy word_key) (sym c.deref-word-items.ensures.value) c.in_ok-words.ensures.order in
    reads_end table (made c.args.automaton.now) b c.args.rules.now c.args.place c.len-first.result _ c.loop-word.word-index c.loop-word-test.false (c.loop-word.invariant.partway table are based) words order c.requires.rules c.len-last.result c.in_ok-other.other (omega (arith, c.len-last.ensures)) (omega (arith, c.in_ok-other.ensures.place)) _ rest (made c.push_state.new.automaton) c.in_ok-other.ensures.pushed
