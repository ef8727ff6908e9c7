use Rattle.rec_offences.proofs.Common.{◌≡◌, ◌+◌, ◌-◌, ◌^◌, ◌≤◌, drop, length, rules_of, counted}
use Rattle.rec_offences.proofs.numbered.count_rules.Given as goal

abbrev pub invariant-loop-number : goal.invariant-loop-number
invariant-loop-number l =
    record {
      fits : l.rules ≤ 2 ^ 64 - 1;
      sum : counted (l.rules + length (rules_of l.specifications (drop l.number-index l.numbers))) ≡ counted (l.initial.rules + length (rules_of l.specifications l.numbers));
    }
