use Rattle.std.proofs.Common.{refl, arith, inl, inr}
use Rattle.term_model.specs.declared.Item.TheVariants.{Var}
use Rattle.rule_match.specs.Preorder.{left_at}
use Rattle.rule_match.proofs.Compiled.{plain_at}
use Rattle.rule_automaton.specs.Tables.{tabled}
use Rattle.rule_automaton.proofs.Laying.{first_laid, numbered_at, place_waits, no_other_item, shaped, place_within, again, newly, under, keeps_itself, keeps_on}
use Rattle.rule_automaton.proofs.shapes.shape_of.Goals.{in-Var+in_ok-note_variable-in-Var, in-App+in_ok-base-in-App+in_ok-push-in-App+in_ok-push_places-in-App}
use Rattle.rule_automaton.proofs.shapes.shape_of.Goals as goal

pub loop-item-init : goal.loop-item-init
loop-item-init c =
    let plain = plain_at c.args.plan.now.widest c.args.plan.now.rules c.args.rule c.requires.rule c.program-item-items.ensures.plan.symbols in
    record {
      table = c.requires.table;
      kept = keeps_itself (tabled c.args.table.now);
      laid = first_laid (tabled c.args.table.now) c.args.plan.now.widest (left_at c.args.plan.now.rules c.args.rule) _ _ _ _ _ plain c.program-item-items.ensures.program c.in_ok-stack.ensures.items c.new.ensures.items c.new-2.ensures.items c.new-3.ensures.items;
    }

pub take_last-place-requires : goal.take_last-place-requires
take_last-place-requires c =
    let n = numbered_at c.args.plan.now.rules c.args.rule c.requires.rule c.program-item-items.ensures.plan.rules in
    let i = c.loop-item.invariant in
    let l = place_waits _ i.table _ _ _ _ _ _ _ _ i.laid n.0 n.1 c.loop-item-test.true in
    omega (arith, l)

pub kids-requires-clause-place : goal.kids-requires-clause-place
kids-requires-clause-place c =
    let i = c.loop-item.invariant in
    place_within _ i.table _ _ _ _ _ _ _ _ _ _ c.loop-item-test.true c.take_last-place.ensures.items i.laid

pub unreachable-requires : goal.unreachable-requires
unreachable-requires c =
    let n = numbered_at c.args.plan.now.rules c.args.rule c.requires.rule c.program-item-items.ensures.plan.rules in
    let i = c.loop-item.invariant in
    no_other_item _ i.table _ _ _ _ _ _ _ _ i.laid n.0 _ (Var 0) n.1 c.loop-item-test.true refl (λ x. c.in_default.not-Var x) (λ f m. c.in_default.not-App f m)

pub loop-item-preserved : goal.loop-item-preserved
loop-item-preserved c =
    let n = numbered_at c.args.plan.now.rules c.args.rule c.requires.rule c.program-item-items.ensures.plan.rules in
    let i = c.loop-item.invariant in
    let l = c.loop-item-test.true in
    let top = c.take_last-place.ensures.items in
    elim c.match-item.branch [
      | in-Var+in_ok-note_variable-in-Var w ↦ rw (w.table-is, w.shape-is, w.stack-is) (record {
        table = i.table;
        kept = i.kept;
        laid =
            elim w.in_ok-note_variable-in-Var.ensures.noted [
              | inl k ↦ rw (w.note_variable.ensures.tests, k.1, k.2) (again _ i.table _ _ _ _ _ _ _ _ _ _ l top i.laid w.in-Var.variable _ _ w.in-Var.is k.0 refl (i.laid.variables_under w.in-Var.variable 0 k.0))
              | inr k ↦ rw (w.note_variable.ensures.tests, k.1, k.2) (newly _ i.table _ _ _ _ _ _ _ _ _ _ l top i.laid w.in-Var.variable _ w.in-Var.is k.0 n.0 n.1)
            ];
      })
      | in-App+in_ok-base-in-App+in_ok-push-in-App+in_ok-push_places-in-App w ↦ rw (w.table-is, w.shape-is, w.stack-is) (record {
        table = w.in_ok-base-in-App.ensures.table;
        kept = keeps_on _ _ _ i.kept w.in_ok-base-in-App.ensures.kept;
        laid = rw (w.in_ok-push-in-App.ensures.items, w.in_ok-push_places-in-App.ensures) (under _ i.table _ _ _ _ _ _ _ _ _ _ l top i.laid (tabled w.kids.new.self) w.in_ok-base-in-App.ensures.kept w.in-App.symbol w.in-App.count _ _ w.in-App.is w.in_ok-base-in-App.ensures.found);
      })
    ]

pub returns-clause-shape : goal.returns-clause-shape
returns-clause-shape c =
    let i = c.loop-item.invariant in
    shaped _ i.table _ _ _ _ _ _ _ _ i.laid c.loop-item-test.false
