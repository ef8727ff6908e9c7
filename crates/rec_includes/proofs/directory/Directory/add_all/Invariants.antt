use Rattle.rec_includes.proofs.Common.{◌≡◌, ◌++◌, drop}
use Rattle.rec_includes.proofs.directory.Directory.add_all.Given as goal

abbrev pub invariant-loop-name : goal.invariant-loop-name
invariant-loop-name l =
    record {
      bytes : l.self.bytes ≡ l.initial.self.bytes;
      names : l.self.names ++ drop l.name-index l.names ≡ l.initial.self.names ++ l.names;
    }
