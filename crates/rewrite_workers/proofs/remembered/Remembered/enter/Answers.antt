use Rattle.std.proofs.Common.{Some, ◌∙◌, sym, ap}
use Rattle.rewrite_workers.proofs.Recalling.{same_epoch}
use Rattle.rewrite_workers.proofs.remembered.Remembered.enter.Goals as goal

pub returns-in-Some-Some : goal.returns-in-Some-Some
returns-in-Some-Some g c = λ s rules left recalls entered.
    same_epoch s rules left (g.T.Terms.store c.args.desk.now) (g.M.Memo.map c.args.self.now.memo) c.args.self.now.epoch c.in-Some-Some.left c.in-Some-Some.is-0
    (sym c.epoch.ensures.epoch ∙ c.in-Some-Some.is-1 ∙ ap Some (sym c.if-left-now.true)) recalls entered
