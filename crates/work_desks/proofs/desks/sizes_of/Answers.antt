use Rattle.std.proofs.Common.{ℕ, ap}
use Rattle.store_model.specs.declared.view.Sizes.{Sizes}
use Rattle.work_desks.specs.NewDesks.{sizes_for}
use Rattle.work_desks.proofs.Making.{may_size}
use Rattle.work_desks.proofs.desks.sizes_of.Goals as goal

pub returns : goal.returns
returns c =
    let z : Sizes = sizes_for c.args.settings.now c.args.plan.now in
    let e = ap (λ (n : ℕ). record z { arity = n }) c.widest.ensures.widest in
    record {
      sizes = e;
      may = let m = may_size c.args.settings.now c.args.plan.now c.requires.in_range c.requires.width in rw (c.widest.ensures.widest) m;
    }
