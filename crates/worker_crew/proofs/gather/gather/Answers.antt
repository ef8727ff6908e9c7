use Rattle.std.proofs.Common.{refl, subst}
use Rattle.worker_crew.proofs.Gathering.{Gathering, none_left, gathering_begins, gathering_goes, gathering_ends}
use Rattle.worker_crew.proofs.gather.gather.Goals as goal

pub shares-init : goal.shares-init
shares-init c =
    gathering_begins c.args.draws.now.shared.table_id c.args.shares.items c.args.all.now.me.0 c.args.lines.now.items c.args.all.now.table_id c.args.all.now.me refl
    c.requires.all c.requires.shares c.requires.places

pub shares-preserved : goal.shares-preserved
shares-preserved c =
    let t = c.take_in.ensures in
    gathering_goes c.args.draws.now.shared.table_id c.args.shares.items c.args.all.now.me.0 c.args.lines.now.items c.shares.shares.items c.pop.new.self.items c.in-Some.share
    c.shares.all.table_id c.take_in.new.all.table_id c.shares.all.me c.take_in.new.all.me c.shares.lines.items c.take_in.new.lines.items c.in-Some.ensures.items c.shares.invariant
    t.all t.shares t.drawn t.length t.placed

pub returns-clause-placed : goal.returns-clause-placed
returns-clause-placed c =
    let none = none_left c.pop.result c.shares.shares.items c.shares.shares.len c.in_default.not-Some c.pop.ensures.variant.1 c.shares.shares.ok.0 in
    gathering_ends c.args.draws.now.shared.table_id c.args.shares.items c.args.all.now.me.0 c.shares.all.table_id c.shares.all.me c.args.lines.now.items c.shares.lines.items
    (subst (λ xs. Gathering c.args.draws.now.shared.table_id c.args.shares.items xs c.args.all.now.me.0 c.shares.all.table_id c.shares.all.me c.args.lines.now.items c.shares.lines.items) none c.shares.invariant)
