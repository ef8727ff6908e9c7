use Rattle.std.proofs.Common.{List, sym, subst}
use Rattle.term_file.specs.Contents.{Record}
use Rattle.run_checks.specs.Shelved.{AreShelved}
use Rattle.run_checks.proofs.Shelves.{all_there_shown, kept_shelved, put_shown}
use Rattle.run_checks.proofs.table.TermTable.put.Goals.{in-Ok, in-Err-StoreFull, in-Err-Memory}
use Rattle.run_checks.proofs.table.TermTable.put.Goals as goal

pub number_of-requires-clause-before : goal.number_of-requires-clause-before
number_of-requires-clause-before c =
    all_there_shown c.self.inside.symbols c.self.inside.records c.args.self.now c.self.view_is c.self.invariant c.args.arguments.items c.requires.there

pub invariant_of-self : goal.invariant_of-self
invariant_of-self c = elim c.match-number_of.branch [
  | in-Ok w ↦ kept_shelved c.self.inside.symbols c.self.inside.records c.number_of.new.table c.args.self.now c.self.view_is c.self.invariant c.args.symbol c.args.arguments.items w.in-Ok.number c.requires.symbol c.requires.there w.in-Ok.ensures.placed w.in-Ok.ensures.few
  | in-Err-StoreFull w ↦ subst (λ (rs : List Record). AreShelved c.self.inside.symbols rs) (sym w.in-Err-StoreFull.ensures.unchanged) c.self.invariant
  | in-Err-Memory w ↦ subst (λ (rs : List Record). AreShelved c.self.inside.symbols rs) (sym w.in-Err-Memory.ensures.unchanged) c.self.invariant
]

pub returns : goal.returns
returns c = elim c.match-number_of.branch [
  | in-Ok w ↦ rw w.result-is (put_shown c.self.inside.symbols c.self.inside.records c.number_of.new.table c.args.self.now c.self.view_is c.self.invariant c.args.symbol c.args.arguments.items w.in-Ok.number c.requires.symbol c.requires.there w.in-Ok.ensures.placed)
  | in-Err-StoreFull w ↦ rw w.result-is tt
  | in-Err-Memory w ↦ rw w.result-is tt
]
