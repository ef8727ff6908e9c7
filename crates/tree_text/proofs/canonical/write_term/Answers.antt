use Rattle.std.proofs.Common.{◌≡◌, ◌∙◌, ℕ, ◌+◌, ◌++◌, ◌-◌, [], get_or, take, reverse, ap, sym, subst, arith, All}
use Rattle.term_model.specs.declared.Item.TheVariants.{Var}
use Rattle.tree_text.specs.declared.writer.Writer.{Writer}
use Rattle.tree_text.specs.Canonical.{spelling}
use Rattle.tree_text.specs.Writing.{written, all_written, IsItemHeld}
use Rattle.tree_text.proofs.Writings.{writer, items_held, term_is_written, one_written}
use Rattle.tree_text.proofs.CellCounts.{one_cell}
use Rattle.tree_text.proofs.canonical.write_term.Goals as goal

pub write-requires-clause-item : goal.write-requires-clause-item
write-requires-clause-item c =
    let names = c.args.symbols.now in
    let held : All (IsItemHeld names) c.items-items.result.now = subst (All (IsItemHeld names)) (sym c.items-items.ensures.items) (items_held names c.args.term.now c.requires.held) in
    held (c.loop-at.at - 1) (Var 0) (omega (arith, c.loop-at-test.true, c.loop-at.invariant.within))

pub returns-clause-written : goal.returns-clause-written
returns-clause-written c =
    let spell = spelling c.args.symbols.now in
    let items = c.items-items.result.now in
    let none : 0 ≡ c.loop-at.at = omega (arith, c.loop-at-test.false) in
    let whole =
    ap (λ n. all_written spell (reverse (take n items)) c.loop-at.writer) none
    ∙ c.loop-at.invariant.written
    ∙ ap (λ is. all_written spell (reverse is) (writer [] [] 0)) c.items-items.ensures.items
    ∙ term_is_written spell c.args.term.now c.requires.ground c.items-items.ensures.well_formed in
    c.in_ok-append_to.ensures.ok ∙ ap (λ (w : Writer). c.args.out.now.items ++ w.text) whole

pub loop-at-preserved : goal.loop-at-preserved
loop-at-preserved c =
    let spell = spelling c.args.symbols.now in
    let items = c.items-items.result.now in
    let l = c.loop-at in
    let at : ℕ = l.at - 1 in
    let back : at + 1 ≡ l.at = omega (arith, c.loop-at-test.true) in
    let item = get_or items at (Var 0) in
    let is : c.write.new.self ≡ written spell item l.writer = c.in_ok-write.ensures.written in
    let one = one_written spell items at (Var 0) l.writer (omega (arith, back, l.invariant.within)) in
    let cell = one_cell spell item l.writer in
    let count = ap (λ (w : Writer). w.cells) is in
    record {
      within = omega (arith, l.invariant.within);
      written =
          ap (all_written spell (reverse (take at items))) is
          ∙ sym one
          ∙ ap (λ n. all_written spell (reverse (take n items)) l.writer) back
          ∙ l.invariant.written;
      held = c.in_ok-write.ensures.held;
      cells = omega (arith, cell, count, back, l.invariant.cells);
    }
