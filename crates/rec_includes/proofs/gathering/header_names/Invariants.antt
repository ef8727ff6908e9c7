use Rattle.rec_includes.proofs.Common.{◌≡◌, ◌++◌, drop, header_names}
use Rattle.rec_includes.proofs.gathering.header_names.Given as goal

abbrev pub invariant-loop-specification : goal.invariant-loop-specification
invariant-loop-specification l =
    record {
      bytes : l.names.bytes ≡ l.text;
      names : l.names.names ++ header_names (drop l.specification-index l.specifications) ≡ header_names l.specifications;
    }
