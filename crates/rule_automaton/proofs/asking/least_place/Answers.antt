use Rattle.std.proofs.Common.{◌≤◌, get_or, refl, arith, inl, inr}
use Rattle.std.proofs.lemmas.List.{get_or_default}
use Rattle.std.proofs.lemmas.List.Elements.{Contains-get_or}
use Rattle.rule_automaton.proofs.Asked.{least_more}
use Rattle.rule_automaton.specs.declared.shapes.Test.{Test}
use Rattle.rule_automaton.proofs.asking.least_place.Goals.{then-test-bound+then-test-least, else-test-bound, else-test-bound-via-then-test-bound+else-test-least, else-test-bound-via-else-test-bound}
use Rattle.rule_automaton.proofs.asking.least_place.Goals as goal

pub loop-test-preserved : goal.loop-test-preserved
loop-test-preserved c =
    let tests = c.args.tests.now in
    let k = c.loop-test.test-index in
    let zero : Test = record { place = 0; symbol = record { 0 = 0 }; count = 0; base = 0 } in
    let x = get_or tests k zero in
    let l = c.loop-test-test.true in
    let i = c.loop-test.invariant in
    let is = get_or_default tests k zero x l in
    elim c.if-test-bound.branch [
      | then-test-bound+then-test-least w ↦ rw w.least-is (let low : x.place ≤ c.loop-test.least = omega (arith, w.if-test-least.true) in record {
        low = omega (arith, low, i.low);
        all = least_more c.args.bound x.place c.loop-test.least tests k x l is low (inr (omega arith)) i.all;
        asked = inr ((x, Contains-get_or tests k zero l, refl));
      })
      | else-test-bound w ↦ rw w.least-is (record {
        low = i.low;
        all =
            least_more c.args.bound c.loop-test.least c.loop-test.least tests k x l is (omega arith)
            (elim w.else-test-bound.branch [
              | else-test-bound-via-then-test-bound+else-test-least v ↦ inr (v.if-test-least.false)
              | else-test-bound-via-else-test-bound v ↦ inl (v.if-test-bound.false)
            ]) i.all;
        asked = i.asked;
      })
    ]
