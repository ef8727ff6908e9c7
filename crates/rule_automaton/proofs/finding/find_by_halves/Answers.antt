use Rattle.std.proofs.Common.{◌+◌, ◌-◌, ◌/◌, ◌<◌, length, get_or, arith}
use Rattle.rule_automaton.proofs.Ways.{other_way, not_below, not_above}
use Rattle.rule_automaton.specs.declared.states.Way.{Way}
use Rattle.rule_automaton.proofs.finding.find_by_halves.Goals as goal

pub halves-preserved-then-key_of-key : goal.halves-preserved-then-key_of-key
halves-preserved-then-key_of-key c =
    let ways = c.args.ways.now in
    let zero : Way = record { symbol = record { 0 = 0 }; count = 0; base = 0; to = 0 } in
    let middle = c.halves.low + (c.halves.high - c.halves.low) / 2 in
    let i = c.halves.invariant in
    let l : middle < length ways = omega arith in
    record {
      order = omega arith;
      within = i.within;
      below = not_below ways c.requires c.args.symbol c.args.count middle zero l (omega (arith, c.key_of.ensures.key, c.key_of-key.ensures.key, c.if-key_of-key.true));
      above = i.above;
    }

pub halves-preserved : goal.halves-preserved
halves-preserved c =
    let ways = c.args.ways.now in
    let zero : Way = record { symbol = record { 0 = 0 }; count = 0; base = 0; to = 0 } in
    let middle = c.halves.low + (c.halves.high - c.halves.low) / 2 in
    let i = c.halves.invariant in
    let l : middle < length ways = omega arith in
    record {
      order = omega arith;
      within = omega arith;
      below = i.below;
      above = not_above ways c.requires c.args.symbol c.args.count middle zero l c.key_of-key.ensures.small c.key_of.ensures.small (omega (arith, c.key_of.ensures.key, c.key_of-key.ensures.key, c.if-key_of-key.false)) (other_way c.args.symbol c.args.count (get_or ways middle zero) c.else-way-symbol.either);
    }
