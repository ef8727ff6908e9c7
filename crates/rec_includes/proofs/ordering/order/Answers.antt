use Rattle.rec_includes.proofs.Common.{common_steps, None, append_assoc, arith, get_or_default}
use Rattle.rec_includes.proofs.Forests.{leads_step, one_less, in_order}
use Rattle.rec_includes.proofs.ordering.order.Goals as goal

pub index-rest-requires : goal.index-rest-requires
index-rest-requires c =
    let i = c.loop-rest.invariant in
    grind (arith, common_steps, leads_step c.in_ok-chain.chain.next.items c.loop-rest.rest c.in-Some.number i.0 i.2 c.in-Some.is)

pub loop-rest-preserved : goal.loop-rest-preserved
loop-rest-preserved c =
    let i = c.loop-rest.invariant in
    let next = c.in_ok-chain.chain.next.items in
    let n = c.in-Some.number in
    let step = leads_step next c.loop-rest.rest n i.0 i.2 c.in-Some.is in
    let read = get_or_default next n None c.index-rest.result.now step.2 in
    (step.0, grind (arith, append_assoc, step.1), grind (arith, read, step.3))

pub loop-rest-smaller : goal.loop-rest-smaller
loop-rest-smaller c = grind (arith, common_steps, leads_step, one_less)

pub returns : goal.returns
returns c =
    let h = c.args.headers.now in
    let i = c.loop-rest.invariant in
    let o = in_order h.bytes h.names _ _ _ _ i.0 c.in_default.is i.2 i.1 in
    record { all = o.all; no_others = o.no_others; once = o.once; near = o.near }
