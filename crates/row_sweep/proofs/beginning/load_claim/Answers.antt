use Rattle.std.proofs.Common.{◌+◌, ◌≤◌, [], ◌∷◌, ◌++◌, ap, ◌∙◌, subst}
use Rattle.store_model.specs.declared.view.Place.TheVariants.{Base, Claim}
use Rattle.store_model.specs.declared.view.Sizes.{Sizes}
use Rattle.store_model.specs.declared.view.Call.{Call}
use Rattle.store_model.specs.Machine.{with_call}
use Rattle.store_model.specs.Steps.{loads, loading}
use Rattle.node_rows.specs.Collecting.{HasStore}
use Rattle.node_rows.specs.declared.view.NodeView.{NodeView}
use Rattle.row_sweep.proofs.Begins.{begin_alone, begin_call, begun_loading, begin_claim, claim_loads}
use Rattle.row_sweep.proofs.beginning.load_claim.Goals as goal

pub returns-clause-few : goal.returns-clause-few
returns-clause-few c = let s = c.args.seat.now in let t = c.load_any.new.seat in let e = c.load_any.ensures in
    let b = begun_loading s.seat.me.0.store.call ((Base, c.args.base) ∷ []) c.requires.call in
    subst (λ (z : Sizes). c.load_any.result ≤ z.rows + z.seats) c.requires.store.told
    (begin_claim c.args.store.now t.seat t.number t.seats (begin_alone c.args.store.now s.seat s.number s.seats c.requires.alone ((Base, c.args.base) ∷ []) b Claim t.seat t.number t.seats c.load_any.result e.same.0 e.same.1 e.same.2 e.view) e.has_store c.args.base c.load_any.result
    (begin_call c.args.store.now s.seat s.number s.seats c.requires.alone ((Base, c.args.base) ∷ []) b Claim t.seat t.number t.seats c.load_any.result e.same.0 e.same.1 e.same.2 e.view))

pub returns-clause-loads : goal.returns-clause-loads
returns-clause-loads c =
    let s = c.args.seat.now in
    let t = c.load_any.new.seat in
    let e = c.load_any.ensures in
    let v = s.seat.me.0.store in
    let n = c.load_any.result in
    let is = ap (λ (u : NodeView). u.store) e.view ∙ ap (λ (x : Call). with_call v (loading c.args.store.now.table.shared.key (loads x ++ (Claim, n) ∷ []))) c.requires.call in
    claim_loads c.args.store.now.sizes t.number v t.seat.me.0.store c.args.base n (subst (λ (z : Sizes). HasStore z t.number t.seat.me.0.store) c.requires.store.told e.has_store) is c.requires.base

pub returns-clause-alone : goal.returns-clause-alone
returns-clause-alone c = let s = c.args.seat.now in let t = c.load_any.new.seat in let e = c.load_any.ensures in
    begin_alone c.args.store.now s.seat s.number s.seats c.requires.alone ((Base, c.args.base) ∷ []) (begun_loading s.seat.me.0.store.call ((Base, c.args.base) ∷ []) c.requires.call) Claim t.seat t.number t.seats c.load_any.result e.same.0 e.same.1 e.same.2 e.view
