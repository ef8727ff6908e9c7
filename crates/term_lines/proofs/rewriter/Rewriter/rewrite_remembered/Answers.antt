use Rattle.std.proofs.Common.{ap, subst, arith}
use Rattle.innermost.specs.Machines.{Made}
use Rattle.innermost.specs.Remembered.{WasRefusedAmong}
use Rattle.innermost.specs.declared.normal.RunFault.{RunFault}
use Rattle.term_lines.specs.Strategies.{points_of}
use Rattle.term_lines.proofs.Building.{cached_whole}
use Rattle.term_lines.proofs.rewriter.Rewriter.rewrite_remembered.Goals as goal

pub returns-in-Ok-clause-rewritten : goal.returns-in-Ok-clause-rewritten
returns-in-Ok-clause-rewritten g c =
    let rules = c.args.plan.now.rules in
    let term = c.args.term.now in
    let fuel = c.args.self.now.fuel in
    let depth = c.args.self.now.machine.depth in
    let old = g.T.Terms.store c.args.terms.now in
    let new = g.T.Terms.store c.normalize_with.new.terms in
    record {
      answer = c.in-Ok.ensures.answer;
      built = cached_whole rules term fuel depth old new c.in-Ok.ensures.built;
      refusals = c.in-Ok.ensures.faults;
      sweeps = omega (arith, c.in-Ok.ensures.sweeps);
      load = λ _. c.in-Ok.ensures.load;
      numbers = c.in-Ok.ensures.numbers;
    }

pub returns-in-Err-StoreFull-clause-rewritten : goal.returns-in-Err-StoreFull-clause-rewritten
returns-in-Err-StoreFull-clause-rewritten g c =
    let rules = c.args.plan.now.rules in
    let term = c.args.term.now in
    let fuel = c.args.self.now.fuel in
    let depth = c.args.self.now.machine.depth in
    let old = g.T.Terms.store c.args.terms.now in
    let new = g.T.Terms.store c.normalize_with.new.terms in
    record {
      answer = c.in-Err-StoreFull.ensures.answer;
      built = subst (λ (f : RunFault). WasRefusedAmong rules (points_of rules term fuel depth) old new f) c.in-Err-StoreFull.field-0-is c.in-Err-StoreFull.ensures.built;
      refusals = c.in-Err-StoreFull.ensures.faults;
      sweeps = c.in-Err-StoreFull.ensures.sweeps;
      load = λ _. c.in-Err-StoreFull.ensures.load;
      numbers = c.in-Err-StoreFull.ensures.numbers;
    }

pub returns-in-Err-Worn-clause-rewritten : goal.returns-in-Err-Worn-clause-rewritten
returns-in-Err-Worn-clause-rewritten g c =
    let rules = c.args.plan.now.rules in
    let term = c.args.term.now in
    let fuel = c.args.self.now.fuel in
    let depth = c.args.self.now.machine.depth in
    let old = g.T.Terms.store c.args.terms.now in
    let new = g.T.Terms.store c.normalize_with.new.terms in
    record {
      answer = c.in-Err-Worn.ensures.answer;
      built = subst (λ (f : RunFault). WasRefusedAmong rules (points_of rules term fuel depth) old new f) c.in-Err-Worn.field-0-is c.in-Err-Worn.ensures.built;
      refusals = c.in-Err-Worn.ensures.faults;
      sweeps = c.in-Err-Worn.ensures.sweeps;
      load = λ _. c.in-Err-Worn.ensures.load;
      numbers = c.in-Err-Worn.ensures.numbers;
    }

pub returns-in-Ok-clause-rewriter : goal.returns-in-Ok-clause-rewriter
returns-in-Ok-clause-rewriter g c = ap (λ (m : Made). record c.args.self.now { machine = m }) c.in-Ok.ensures.machine

pub returns-in-Err-StoreFull-clause-rewriter : goal.returns-in-Err-StoreFull-clause-rewriter
returns-in-Err-StoreFull-clause-rewriter g c = ap (λ (m : Made). record c.args.self.now { machine = m }) c.in-Err-StoreFull.ensures.machine

pub returns-in-Err-Worn-clause-rewriter : goal.returns-in-Err-Worn-clause-rewriter
returns-in-Err-Worn-clause-rewriter g c = ap (λ (m : Made). record c.args.self.now { machine = m }) c.in-Err-Worn.ensures.machine
