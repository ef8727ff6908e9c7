use Rattle.rec_includes.proofs.Common.{common_steps, ◌<◌, None, arith, get_or_default, recursion_from_All}
use Rattle.rec_includes.proofs.Forests.{leads_first, leads_after}
use Rattle.rec_includes.proofs.ordering.Chain.put.Goals as goal

pub returns-in-Some-clause-put : goal.returns-in-Some-clause-put
returns-in-Some-clause-put c ns distinct below leads =
    let s = c.args.self.now in
    let n = c.args.number in
    let p = c.in-Some.parent in
    grind (arith, common_steps, get_or_default s.next.items p None c.index.result.now, leads_after s.next.items n p s.first ns c.requires.number, recursion_from_All (λ m. m < n) ns below)

pub returns-in-None-clause-put : goal.returns-in-None-clause-put
returns-in-None-clause-put c ns distinct below leads = grind (arith, common_steps, leads_first, recursion_from_All)
