use Rattle.std.proofs.Common.{◌≡◌, take, Some}
use Rattle.rec_reader.specs.Steps.{run, start}
use Rattle.rec_reader.proofs.Counts.{UpTo}
use Rattle.rec_reader.proofs.parser.run.Given as goal

abbrev pub invariant-loop-token : goal.invariant-loop-token
invariant-loop-token l = record {
  ran : run start (take l.token-index l.tokens) ≡ Some l.machine;
  counted : UpTo l.token-index l.machine.heads;
}
