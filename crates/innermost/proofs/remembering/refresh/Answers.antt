use Rattle.std.proofs.Common.{sym, ◌∙◌}
use Rattle.innermost.proofs.Memories.{steady_right}
use Rattle.innermost.proofs.remembering.refresh.Goals as goal

pub returns-then-is_same-clause-right : goal.returns-then-is_same-clause-right
returns-then-is_same-clause-right g c = λ rules built was.
    let k = c.is_same.ensures c.if-is_same.true in
    steady_right rules built (g.M.Memo.map c.args.memo.now) c.args.epoch.now (g.T.Terms.store c.args.terms.now) was
    (record { number = k.0; before = k.1; same = sym c.epoch-present.ensures.epoch ∙ k.2 })
