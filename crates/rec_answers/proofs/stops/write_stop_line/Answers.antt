use Rattle.std.proofs.Common.{sym, subst}
use Rattle.rec_answers.specs.Lines.{TookLine, stop_line}
use Rattle.rec_answers.proofs.stops.write_stop_line.Goals as goal

pub returns-in-Usage-clause-line : goal.returns-in-Usage-clause-line
returns-in-Usage-clause-line g c =
    subst (λ stop. TookLine g.E.Sink.taken g.E.Sink.faults c.args.err.now c.write_line.new.err (stop_line stop)) (sym c.in-Usage.is) c.write_line.ensures.line

pub returns-in-StoreFull-clause-line : goal.returns-in-StoreFull-clause-line
returns-in-StoreFull-clause-line g c =
    subst (λ stop. TookLine g.E.Sink.taken g.E.Sink.faults c.args.err.now c.write_line-in-StoreFull.new.err (stop_line stop)) (sym c.in-StoreFull.is) c.write_line-in-StoreFull.ensures.line

pub returns-in-ReadFault-clause-line : goal.returns-in-ReadFault-clause-line
returns-in-ReadFault-clause-line g c =
    subst (λ stop. TookLine g.E.Sink.taken g.E.Sink.faults c.args.err.now c.write_line-in-ReadFault.new.err (stop_line stop)) (sym c.in-ReadFault.is) c.write_line-in-ReadFault.ensures.line

pub returns-in-WriteFault-clause-line : goal.returns-in-WriteFault-clause-line
returns-in-WriteFault-clause-line g c =
    subst (λ stop. TookLine g.E.Sink.taken g.E.Sink.faults c.args.err.now c.write_line-in-WriteFault.new.err (stop_line stop)) (sym c.in-WriteFault.is) c.write_line-in-WriteFault.ensures.line

pub returns-in-Memory-clause-line : goal.returns-in-Memory-clause-line
returns-in-Memory-clause-line g c =
    subst (λ stop. TookLine g.E.Sink.taken g.E.Sink.faults c.args.err.now c.write_line-in-Memory.new.err (stop_line stop)) (sym c.in-Memory.is) c.write_line-in-Memory.ensures.line

pub returns-in-Worn-clause-line : goal.returns-in-Worn-clause-line
returns-in-Worn-clause-line g c =
    subst (λ stop. TookLine g.E.Sink.taken g.E.Sink.faults c.args.err.now c.write_line-in-Worn.new.err (stop_line stop)) (sym c.in-Worn.is) c.write_line-in-Worn.ensures.line
