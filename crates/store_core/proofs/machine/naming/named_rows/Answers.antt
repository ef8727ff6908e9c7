use Rattle.std.proofs.Common.{List, ℕ, ◌≡◌, [], length, subst, arith}
use Rattle.store_model.specs.declared.view.Place.TheVariants.{Root}
use Rattle.store_model.specs.Shown.{shown}
use Rattle.store_core.specs.Naming.{Halfway}
use Rattle.store_core.proofs.Naming.{waits_named, taken, got_kept, named, no_items}
use Rattle.store_core.proofs.machine.naming.named_rows.Goals as goal

pub mark_arguments-requires : goal.mark_arguments-requires
mark_arguments-requires c =
    let w = shown c.args.table.now.sizes c.args.table.now.words.items in
    waits_named w c.args.seat c.args.view.now c.loop-row.naming.marks.items c.pop.new.self.items [] c.in-Some.row
    (subst (λ (ws : List ℕ). Halfway w c.args.seat c.args.view.now c.loop-row.naming.marks.items ws []) c.in-Some.ensures.items c.loop-row.invariant.halfway)

pub loop-row-preserved : goal.loop-row-preserved
loop-row-preserved c =
    let w = shown c.args.table.now.sizes c.args.table.now.words.items in
    let here = subst (λ (ws : List ℕ). Halfway w c.args.seat c.args.view.now c.loop-row.naming.marks.items ws []) c.in-Some.ensures.items c.loop-row.invariant.halfway in
    record {
      halfway = c.in_ok-mark_arguments.ensures.halfway (taken w c.args.seat c.args.view.now c.loop-row.naming.marks.items c.pop.new.self.items c.in-Some.row here);
      got = got_kept w c.args.seat c.args.view.now c.loop-row.naming.marks.items c.mark_arguments.new.self.marks.items c.in_ok-mark_arguments.ensures.visits.kept c.loop-row.invariant.got;
      roots = λ k l. c.in_ok-mark_arguments.ensures.visits.kept (shown c.args.table.now.sizes c.args.table.now.words.items (Root c.args.seat k)) (c.loop-row.invariant.roots k l);
    }

pub returns : goal.returns
returns c =
    let w = shown c.args.table.now.sizes c.args.table.now.words.items in
    let none : length c.loop-row.naming.waiting.items ≡ 0 = (let a = c.loop-row.naming.waiting.ok.0 in let e = c.in_default.ensures.cases.0 in omega arith) in
    let half = subst (λ (ws : List ℕ). Halfway w c.args.seat c.args.view.now c.loop-row.naming.marks.items ws []) (no_items c.loop-row.naming.waiting.items none) c.loop-row.invariant.halfway in
    named w c.args.seat c.args.view.now c.loop-row.naming.marks.items half c.loop-row.invariant.got c.loop-row.invariant.roots
