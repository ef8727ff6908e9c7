use Rattle.std.proofs.Common.{sym, subst}
use Rattle.terms_api.specs.Terms.{Store, IsSound}
use Rattle.innermost.specs.Remembered.{AreRight}
use Rattle.innermost.proofs.Memories.{kept_right}
use Rattle.innermost.proofs.remembering.remember.Goals as goal

pub returns-then-refresh-clause-right : goal.returns-then-refresh-clause-right
returns-then-refresh-clause-right g c = λ rules built was result.
    let now = g.T.Terms.store c.args.terms.now in
    let e = c.refresh.ensures in
    let top = c.top_row-value.ensures in
    subst (λ (s : Store). AreRight rules built s (g.M.Memo.map c.keep.new.self)) (sym top.unchanged)
    (kept_right rules built (g.M.Memo.map c.refresh.new.memo) (g.M.Memo.map c.keep.new.self) c.args.epoch.now now c.args.row c.top_row-value.result c.args.fuel c.args.room (e.right rules built was) result (e.steady c.if-refresh.true) (subst (λ (s : Store). IsSound s) top.unchanged top.sound) top.row c.keep.ensures.part)

pub returns-then-refresh-clause-same : goal.returns-then-refresh-clause-same
returns-then-refresh-clause-same g c = c.top_row-value.ensures.same

pub returns-else-refresh-clause-same : goal.returns-else-refresh-clause-same
returns-else-refresh-clause-same g c = g.met.T.Terms.same_as_itself _
