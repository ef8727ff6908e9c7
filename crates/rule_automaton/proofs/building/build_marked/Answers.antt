use Rattle.std.proofs.Common.{arith}
use Rattle.rule_automaton.specs.Running.{made}
use Rattle.rule_automaton.proofs.Decided.{built_on, grown_not, grown_on}
use Rattle.rule_automaton.proofs.building.build_marked.Goals as goal

pub build_one-requires : goal.build_one-requires
build_one-requires c = built_on (made c.args.automaton.now) (made c.loop-at.automaton) c.requires c.loop-at.invariant.grown

pub loop-at-init : goal.loop-at-init
loop-at-init c = record { grown = λ table built. grown_not table (made c.args.automaton.now) built; paid = omega arith }

pub loop-at-preserved : goal.loop-at-preserved
loop-at-preserved c =
    let paid = c.in_ok-build_one.ensures.paid in
    let before = c.loop-at.invariant.paid in
    record {
      grown = λ table built.
          let b = made c.loop-at.automaton in
          let g = c.loop-at.invariant.grown table built in
          grown_on table (made c.args.automaton.now) b (made c.build_one.new.automaton) g (c.in_ok-build_one.ensures.grown table g.built);
      paid = omega (arith, paid, before);
    }
