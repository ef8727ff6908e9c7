use Rattle.rec_offences.proofs.Common.{[], length, take, ap, ◌∙◌, arith, IsFront, last_material, closed_none}
use Rattle.rec_offences.proofs.Levels.{left, last_closed, scope_cut, sorts_cut}
use Rattle.rec_offences.proofs.inclusion.Inclusion.leave.Goals as goal

pub returns-clause-kept : goal.returns-clause-kept
returns-clause-kept c = λ bytes specifications at.
    let s = c.args.self.now in
    let gone = left bytes specifications s.levels.items c.pop.new.self.items c.pop.result c.pop.ensures.items at.levels in
    let m = last_material bytes specifications [] c.pop.new.self.items in
    let extent = c.extent-extent.ensures bytes specifications gone.levels in
    let front : IsFront m s.material.keys = ap (take (length m)) at.material ∙ gone.front in
    let keys = c.truncate.ensures.keys ∙ ap (λ e. take e.material s.material.keys) extent ∙ front in
    let scope = scope_cut bytes specifications m s.material.keys front s.scope c.truncate-2.new.self c.extent-extent.result.symbols at.inclusion.scope c.truncate-2.ensures (ap (λ e. e.symbols) extent) in
    let sorts = sorts_cut bytes specifications m s.material.keys front s.sorts c.truncate-3.new.self c.extent-extent.result.sorts at.inclusion.sorts c.truncate-3.ensures (ap (λ e. e.sorts) extent) in
    let closed = last_closed bytes specifications [] c.pop.new.self.items (closed_none bytes specifications) in
    record { inclusion = grind (arith, keys, scope, sorts, extent, closed); levels = gone.levels; material = keys }
