use Rattle.shared_desk.proofs.Telling.{made_may}
use Rattle.work_desks.proofs.Making.{new_of, stores_of, store_is}
use Rattle.work_desks.specs.NewDesks.{sizes_for}
use Rattle.work_desks.proofs.desks.store_for.Goals as goal

pub returns : goal.returns
returns c =
    let z = c.sizes_of.result in
    let r = c.make.result in
    let e = c.make.ensures in
    record {
      store = store_is z r e.store;
      sizes = stores_of z (sizes_for c.args.settings.now c.args.plan.now) r c.sizes_of.ensures.sizes e.store;
      may = made_may (λ v. v.items) z r e.store e.passes e.ready e.told;
      new = new_of (λ v. v.items) z r e.store e.passes;
    }
