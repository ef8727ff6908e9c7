use Rattle.term_syntax.specs.Known.{AreKnown}
use Rattle.term_syntax.specs.Shown.{parts_in}
use Rattle.term_syntax.proofs.TakingUp.{Taking}
use Rattle.term_syntax.proofs.symbols.items_of.Given as goal

abbrev pub invariant-loop-part : goal.invariant-loop-part
invariant-loop-part l = record {
  taking : Taking l.fn.symbols l.symbols (parts_in l.text l.parts) l.part-index l.items.items;
  known : AreKnown l.lately l.symbols;
}
