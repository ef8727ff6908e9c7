use Rattle.std.proofs.Common.{◌≡◌, ℕ, true, sym, subst, ◌∙◌, arith}
use Rattle.store_model.specs.declared.view.Place.TheVariants.{FreePlace}
use Rattle.store_model.specs.declared.view.Sizes.{Sizes}
use Rattle.store_model.specs.Shown.{in_table, shown}
use Rattle.store_model.proofs.Follows.{below}
use Rattle.store_core.specs.Running.{IsBegun}
use Rattle.store_core.proofs.Tables.{begun_more}
use Rattle.store_core.proofs.machine.table.Table.with_free_places.Goals as goal

pub store-requires : goal.store-requires
store-requires c = subst (λ (z : Sizes). in_table z (FreePlace c.loop-i.i) ≡ true) (sym c.loop-i.invariant.0) (below c.loop-i.i c.args.self.sizes.rows c.loop-i-test.true)

pub loop-i-preserved : goal.loop-i-preserved
loop-i-preserved c = (c.store.ensures.sizes ∙ c.loop-i.invariant.0, begun_more _ _ _ _ _ _ _ c.loop-i.invariant.0 c.store.ensures.sizes c.from.ensures c.store.ensures.words c.loop-i.invariant.1)

pub returns-clause-words : goal.returns-clause-words
returns-clause-words c =
    let all : c.loop-i.i ≡ c.args.self.sizes.rows = (let a = c.loop-i-test.false in let b = c.loop-i.auto.i-end in omega arith) in
    subst (λ (n : ℕ). IsBegun c.args.self.sizes n (shown c.args.self.sizes c.loop-i.self.words.items)) all c.loop-i.invariant.1
