use Rattle.std.proofs.Common.{◌≡◌, ℕ, suc, ◌-◌, ◌<◌, List, length, sym, subst, arith}
use Rattle.store_model.specs.declared.view.Place.{Place}
use Rattle.store_model.specs.declared.view.Place.TheVariants.{Bucket, Next}
use Rattle.store_model.specs.Shown.{shown}
use Rattle.store_model.specs.MarkedChains.{HasPassed}
use Rattle.store_core.proofs.Chained.{passed_more, passed_all, passed_past, passed_long}
use Rattle.store_core.proofs.machine.marked_chains.chain_of.Goals.{then-at-from-via-then-at-from, then-at-from-via-else-at-from+then-len-table}
use Rattle.store_core.proofs.machine.marked_chains.chain_of.Goals as goal

pub returns-then-at-from : goal.returns-then-at-from
returns-then-at-from c =
    let z = c.args.table.now.sizes in
    let w : Place → ℕ = shown z c.args.table.now.words.items in
    let m = c.loop-at in
    elim c.then-at-from.branch [
      | then-at-from-via-then-at-from b ↦ passed_past z w c.args.number m.at m.rows.items c.loop-at-test.true (let a = b.if-at-from.true in let e = c.from.ensures in omega arith) m.invariant
      | then-at-from-via-else-at-from+then-len-table b ↦ passed_long z w c.args.number m.at m.rows.items c.loop-at-test.true (let a = b.if-len-table.true in let e = b.len.ensures in let d = m.rows.ok.0 in omega arith) m.invariant
    ]

pub loop-at-preserved : goal.loop-at-preserved
loop-at-preserved c =
    let z = c.args.table.now.sizes in
    let w : Place → ℕ = shown z c.args.table.now.words.items in
    let m = c.loop-at in
    let head : ℕ = w (Bucket c.args.number) in
    let row : ℕ = m.at - 1 in
    let few : length m.rows.items < z.rows = (let a = c.if-len-table.false in let e = c.len.ensures in let d = m.rows.ok.0 in omega arith) in
    let is : m.at ≡ suc row = (let l = c.loop-at-test.true in omega arith) in
    let inside : row < z.rows = (let a = c.if-at-from.false in let e = c.from.ensures in let l = c.loop-at-test.true in omega arith) in
    subst (λ (n : ℕ). HasPassed z w head n c.push.new.self.items) (sym c.load-at-in-loop-at.ensures)
    (subst (λ (xs : List ℕ). HasPassed z w head (w (Next row)) xs) (sym c.in_ok-push.ensures.items) (passed_more z w head m.at row m.rows.items is inside few m.invariant))

pub returns : goal.returns
returns c =
    let z = c.args.table.now.sizes in
    let w : Place → ℕ = shown z c.args.table.now.words.items in
    passed_all z w c.args.number c.loop-at.at c.loop-at.rows.items (let l = c.loop-at-test.false in omega arith) c.loop-at.invariant
