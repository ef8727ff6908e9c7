use Rattle.innermost.proofs.normalizing.Machine.new.Goals as goal

pub returns-clause-plan : goal.returns-clause-plan
returns-clause-plan c = record { code = c.in_ok-code.ensures.code; automaton = c.in_ok-of.ensures.matcher }
