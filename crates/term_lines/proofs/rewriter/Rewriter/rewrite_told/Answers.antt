use Rattle.std.proofs.Common.{Err, refl, ap, subst, arith}
use Rattle.innermost.specs.Traced.{TracedBuilds, TracedSweeps, RefusedOnlyWhereTold}
use Rattle.rewrite_model.specs.Built.{trees_at}
use Rattle.innermost.specs.Machines.{Made}
use Rattle.innermost.specs.declared.normal.TraceFault.{TraceFault}
use Rattle.term_lines.specs.Strategies.{points_of}
use Rattle.term_lines.proofs.Building.{points_front}
use Rattle.term_lines.proofs.rewriter.Rewriter.rewrite_told.Goals as goal

pub returns-in-Err-Memory-clause-rewritten : goal.returns-in-Err-Memory-clause-rewritten
returns-in-Err-Memory-clause-rewritten g c =
    let rules = c.args.plan.now.rules in
    let depth = c.args.self.now.machine.depth in
    let old = g.T.Terms.store c.args.terms.now in
    let new = g.T.Terms.store c.normalize_traced.new.terms in
    let fault = c.in-Err-Memory.field-0-is in
    let sweeps = subst (λ (f : TraceFault). TracedSweeps old new (Err f)) fault c.in-Err-Memory.ensures.sweeps in
    record {
      answer = c.in-Err-Memory.ensures.answer;
      built = points_front rules c.args.term.now c.args.self.now.fuel depth old new (subst (λ (f : TraceFault). TracedBuilds (points_of rules c.args.term.now c.args.self.now.fuel depth) old new (Err f)) fault c.in-Err-Memory.ensures.built);
      refusals = subst (λ (f : TraceFault). RefusedOnlyWhereTold old new (Err f)) fault c.in-Err-Memory.ensures.faults;
      sweeps = omega (arith, sweeps);
      load = λ _. c.in-Err-Memory.ensures.load;
      numbers = c.in-Err-Memory.ensures.numbers;
    }

pub returns-in-Ok-clause-rewritten : goal.returns-in-Ok-clause-rewritten
returns-in-Ok-clause-rewritten g c =
    let rules = c.args.plan.now.rules in
    let term = c.args.term.now in
    let fuel = c.args.self.now.fuel in
    let depth = c.args.self.now.machine.depth in
    let old = g.T.Terms.store c.args.terms.now in
    let new = g.T.Terms.store c.normalize_traced.new.terms in
    record {
      answer = c.in-Ok.ensures.answer;
      built = record { trees = trees_at (points_of rules term fuel depth); are = refl; built = c.in-Ok.ensures.built };
      refusals = c.in-Ok.ensures.faults;
      sweeps = omega (arith, c.in-Ok.ensures.sweeps);
      load = λ _. c.in-Ok.ensures.load;
      numbers = c.in-Ok.ensures.numbers;
    }

pub returns-in-Err-StoreFull-clause-rewritten : goal.returns-in-Err-StoreFull-clause-rewritten
returns-in-Err-StoreFull-clause-rewritten g c =
    let rules = c.args.plan.now.rules in
    let term = c.args.term.now in
    let fuel = c.args.self.now.fuel in
    let depth = c.args.self.now.machine.depth in
    let old = g.T.Terms.store c.args.terms.now in
    let new = g.T.Terms.store c.normalize_traced.new.terms in
    let fault = c.in-Err-StoreFull.field-0-is in
    record {
      answer = c.in-Err-StoreFull.ensures.answer;
      built = subst (λ (f : TraceFault). TracedBuilds (points_of rules term fuel depth) old new (Err f)) fault c.in-Err-StoreFull.ensures.built;
      refusals = subst (λ (f : TraceFault). RefusedOnlyWhereTold old new (Err f)) fault c.in-Err-StoreFull.ensures.faults;
      sweeps = subst (λ (f : TraceFault). TracedSweeps old new (Err f)) fault c.in-Err-StoreFull.ensures.sweeps;
      load = λ _. c.in-Err-StoreFull.ensures.load;
      numbers = c.in-Err-StoreFull.ensures.numbers;
    }

pub returns-in-Err-Worn-clause-rewritten : goal.returns-in-Err-Worn-clause-rewritten
returns-in-Err-Worn-clause-rewritten g c =
    let rules = c.args.plan.now.rules in
    let term = c.args.term.now in
    let fuel = c.args.self.now.fuel in
    let depth = c.args.self.now.machine.depth in
    let old = g.T.Terms.store c.args.terms.now in
    let new = g.T.Terms.store c.normalize_traced.new.terms in
    let fault = c.in-Err-Worn.field-0-is in
    record {
      answer = c.in-Err-Worn.ensures.answer;
      built = subst (λ (f : TraceFault). TracedBuilds (points_of rules term fuel depth) old new (Err f)) fault c.in-Err-Worn.ensures.built;
      refusals = subst (λ (f : TraceFault). RefusedOnlyWhereTold old new (Err f)) fault c.in-Err-Worn.ensures.faults;
      sweeps = subst (λ (f : TraceFault). TracedSweeps old new (Err f)) fault c.in-Err-Worn.ensures.sweeps;
      load = λ _. c.in-Err-Worn.ensures.load;
      numbers = c.in-Err-Worn.ensures.numbers;
    }

pub returns-in-Ok-clause-rewriter : goal.returns-in-Ok-clause-rewriter
returns-in-Ok-clause-rewriter g c = ap (λ (m : Made). record c.args.self.now { machine = m }) c.in-Ok.ensures.machine

pub returns-in-Err-StoreFull-clause-rewriter : goal.returns-in-Err-StoreFull-clause-rewriter
returns-in-Err-StoreFull-clause-rewriter g c = ap (λ (m : Made). record c.args.self.now { machine = m }) c.in-Err-StoreFull.ensures.machine

pub returns-in-Err-Worn-clause-rewriter : goal.returns-in-Err-Worn-clause-rewriter
returns-in-Err-Worn-clause-rewriter g c = ap (λ (m : Made). record c.args.self.now { machine = m }) c.in-Err-Worn.ensures.machine

pub returns-in-Err-Memory-clause-rewriter : goal.returns-in-Err-Memory-clause-rewriter
returns-in-Err-Memory-clause-rewriter g c = ap (λ (m : Made). record c.args.self.now { machine = m }) c.in-Err-Memory.ensures.machine
