use Rattle.std.proofs.Common.{◌∙◌, sym, map, Some, arith}
use Rattle.std.proofs.lemmas.List.Elements.{All-pop}
use Rattle.rewrite_model.specs.Matching.{bind}
use Rattle.rule_match.specs.Preorder.{left_at}
use Rattle.rule_match.proofs.Compiled.{plain_at, match_at-left}
use Rattle.run_checks.specs.Held.{IsThere, term_at}
use Rattle.run_checks.proofs.Bound.{one_there, none_there, binds_not, binds_so, so_pushed}
use Rattle.run_checks.proofs.Matches.{first_left, stack_left, variable_left, variable_apart, symbol_left, symbol_apart, none_left}
use Rattle.run_checks.proofs.matching.run.Goals.{in-Var+in_ok-bind-in-Var+else-not-branch, in-App+in_ok-open-in-App+else-not-branch-2}
use Rattle.run_checks.proofs.matching.run.Goals as goal

pub loop-item-init : goal.loop-item-init
loop-item-init c =
    let h = c.args.table.now in
    let plain = plain_at c.args.plan.now.widest c.args.plan.now.rules c.args.rule c.requires.rule c.program-item-items.ensures.plan.symbols in
    record {
      left = first_left (term_at h) c.args.plan.now.widest (left_at c.args.plan.now.rules c.args.rule) c.program-item-items.result.now c.in_ok-stack.stack.items c.args.bound.now.items c.args.number plain c.program-item-items.ensures.program c.in_ok-stack.ensures.items c.requires.empty;
      stack_there = one_there h c.args.number c.in_ok-stack.stack.items c.in_ok-stack.ensures.items c.requires.there;
      bound_there = none_there h c.args.bound.now.items c.requires.empty;
    }

pub unreachable-requires : goal.unreachable-requires
unreachable-requires c =
    let l = stack_left _ _ _ _ _ _ _ _ c.loop-item-test.true c.loop-item.invariant.left in
    let n = c.in_default.ensures.cases.0 in
    omega (arith, l, n)

pub bind-requires-clause-there : goal.bind-requires-clause-there
bind-requires-clause-there c =
    (All-pop (IsThere c.args.table.now) c.loop-item.stack.items c.pop.new.self.items (Some c.in-Some.top) c.in-Some.ensures.items c.loop-item.invariant.stack_there).1

pub returns-then-not-branch : goal.returns-then-not-branch
returns-then-not-branch c =
    let h = c.args.table.now in
    let b = binds_not h c.bind.new.bound.items (bind c.in-Var.variable (term_at h c.in-Some.top) (map (term_at h) c.loop-item.bound.items)) c.in_ok-bind-in-Var.field-0 c.in_ok-bind-in-Var.ensures c.if-not-branch.true in
    match_at-left c.args.plan.now.rules c.args.rule (term_at h c.args.number) c.requires.rule
    ∙ variable_apart (term_at h) _ _ _ _ _ c.in-Var.variable _ _ _ _ c.in-Some.top c.loop-item-test.true c.in-Var.is c.in-Some.ensures.items b c.loop-item.invariant.left

pub open-requires-clause-there : goal.open-requires-clause-there
open-requires-clause-there c =
    (All-pop (IsThere c.args.table.now) c.loop-item.stack.items c.pop.new.self.items (Some c.in-Some.top) c.in-Some.ensures.items c.loop-item.invariant.stack_there).1

pub returns-then-not-branch-2 : goal.returns-then-not-branch-2
returns-then-not-branch-2 c =
    let h = c.args.table.now in
    let apart = sym c.in_ok-open-in-App.ensures.opened ∙ c.if-not-branch-2.true in
    match_at-left c.args.plan.now.rules c.args.rule (term_at h c.args.number) c.requires.rule
    ∙ symbol_apart (term_at h) _ _ _ _ _ c.in-App.symbol c.in-App.count _ _ _ _ c.in-Some.top c.loop-item-test.true c.in-App.is c.in-Some.ensures.items apart c.loop-item.invariant.left

pub loop-item-preserved : goal.loop-item-preserved
loop-item-preserved c =
    let h = c.args.table.now in
    let i = c.loop-item.invariant in
    let top = c.in-Some.top in
    let all = All-pop (IsThere h) c.loop-item.stack.items c.pop.new.self.items (Some top) c.in-Some.ensures.items i.stack_there in
    elim c.match-item.branch [
      | in-Var+in_ok-bind-in-Var+else-not-branch w ↦ rw (w.stack-is, w.bound-is) (
          let b = binds_so h w.bind.new.bound.items (bind w.in-Var.variable (term_at h top) (map (term_at h) c.loop-item.bound.items)) w.in_ok-bind-in-Var.field-0 w.in_ok-bind-in-Var.ensures w.if-not-branch.false in
          record {
            left = variable_left (term_at h) _ _ _ _ _ w.in-Var.variable _ _ _ _ w.bind.new.bound.items top c.loop-item-test.true w.in-Var.is c.in-Some.ensures.items b.0 i.left;
            stack_there = all.0;
            bound_there = b.1;
          })
      | in-App+in_ok-open-in-App+else-not-branch-2 w ↦ rw (w.stack-is, w.bound-is) (
          let stood = sym w.in_ok-open-in-App.ensures.opened ∙ w.if-not-branch-2.false in
          record {
            left = symbol_left (term_at h) _ _ _ _ _ w.in-App.symbol w.in-App.count _ _ _ w.open.new.stack.items _ top c.loop-item-test.true w.in-App.is c.in-Some.ensures.items stood (so_pushed _ _ w.if-not-branch-2.false w.in_ok-open-in-App.ensures.pushed) i.left;
            stack_there = w.in_ok-open-in-App.ensures.stack_there;
            bound_there = i.bound_there;
          })
    ]

pub returns : goal.returns
returns c =
    let h = c.args.table.now in (
      match_at-left c.args.plan.now.rules c.args.rule (term_at h c.args.number) c.requires.rule
          ∙ none_left (term_at h) _ _ _ _ _ _ _ c.loop-item-test.false c.loop-item.invariant.left,
      c.loop-item.invariant.bound_there,
    )
