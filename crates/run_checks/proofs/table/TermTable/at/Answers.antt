use Rattle.std.proofs.Common.{refl, ap, sym, subst, ◌∙◌, All}
use Rattle.run_checks.specs.Held.{IsThere, term_over}
use Rattle.term_file.specs.Outcome.{view, head_of}
use Rattle.run_checks.proofs.Shelves.{there_shown, term_shown, arguments_shown, symbol_shown, only_symbols}
use Rattle.run_checks.proofs.table.TermTable.at.Goals as goal

pub at-record-requires : goal.at-record-requires
at-record-requires c = there_shown c.self.inside.symbols c.self.inside.records c.args.self.now c.self.view_is c.self.invariant c.args.number c.requires

pub unreachable-requires : goal.unreachable-requires
unreachable-requires c =
    only_symbols c.self.inside.symbols c.self.inside.records c.self.invariant c.args.number (view c.at-record.result.now) c.at-record.result.now.kind c.at-record.ensures refl (λ f. c.in_default.not-Call f)

pub returns-clause-term : goal.returns-clause-term
returns-clause-term c =
    term_shown c.self.inside.symbols c.self.inside.records c.args.self.now c.self.view_is c.self.invariant c.args.number c.in-Call.symbol (view c.at-record.result.now) c.at-record.ensures (ap head_of c.in-Call.is)
    ∙ ap (term_over c.args.self.now (record { 0 = c.in-Call.symbol })) (sym c.deref.ensures.value)

pub returns-clause-there : goal.returns-clause-there
returns-clause-there c =
    subst (All (IsThere c.args.self.now)) (sym c.deref.ensures.value)
    (arguments_shown c.self.inside.symbols c.self.inside.records c.args.self.now c.self.view_is c.self.invariant c.args.number c.in-Call.symbol (view c.at-record.result.now) c.at-record.ensures (ap head_of c.in-Call.is))

pub returns-clause-symbol : goal.returns-clause-symbol
returns-clause-symbol c =
    symbol_shown c.self.inside.symbols c.self.inside.records c.args.self.now c.self.view_is c.self.invariant c.args.number c.in-Call.symbol (view c.at-record.result.now) c.at-record.ensures (ap head_of c.in-Call.is)
