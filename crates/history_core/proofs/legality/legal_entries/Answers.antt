use Rattle.std.proofs.Common.{◌≡◌, ◌∙◌, ℕ, ◌<◌, true, false, length, sym, subst, arith}
use Rattle.history_core.specs.declared.entry.Entry.{Entry}
use Rattle.history_core.proofs.Prefixes.{at_start, goes_on, halts, whole, whole_at_end}
use Rattle.history_core.proofs.legality.legal_entries.Goals as goal

pub returns-then-not-branch-clause-legal : goal.returns-then-not-branch-clause-legal
returns-then-not-branch-clause-legal c =
    let inv = c.loop-i.invariant in
    let out : c.in_ok-step.field-0 ≡ false = let no = c.if-not-branch.true in cc in
    halts c.args.rows c.args.history.now c.loop-i.i c.loop-i.table c.step.new.self c.index-history-i.result c.in_ok-step.field-0 inv.names c.loop-i-test.true c.index-history-i.is
    inv.at c.in_ok-step.ensures.decides out

pub returns-then-not-branch-clause-whole : goal.returns-then-not-branch-clause-whole
returns-then-not-branch-clause-whole c = whole c.args.rows c.args.history.now c.loop-i.i (returns-then-not-branch-clause-legal c)

pub loop-i-preserved : goal.loop-i-preserved
loop-i-preserved c =
    let inv = c.loop-i.invariant in
    let yes : c.in_ok-step.field-0 ≡ true = let no = c.if-not-branch.false in cc in
    record {
      at = goes_on c.args.rows c.args.history.now c.loop-i.i c.loop-i.table c.step.new.self c.index-history-i.result c.in_ok-step.field-0 inv.names c.loop-i-test.true
          c.index-history-i.is inv.at c.in_ok-step.ensures.decides yes;
      names = c.step.ensures.size.names ∙ inv.names;
      callers = c.step.ensures.size.callers ∙ inv.callers;
    }

pub loop-i-init : goal.loop-i-init
loop-i-init c = record {
  at = at_start c.args.rows c.args.history.now c.in_ok-table.table c.in_ok-table.ensures.empty;
  names = c.in_ok-table.ensures.rows;
  callers = c.in_ok-table.ensures.callers;
}

pub step-requires : goal.step-requires
step-requires c =
    let x = c.index-history-i.result in
    let below : x.0 < c.args.callers = subst (λ (y : ℕ × Entry). y.0 < c.args.callers) (sym c.index-history-i.is) (c.requires c.loop-i.i x c.loop-i-test.true) in
    omega (arith, below, c.loop-i.invariant.callers)

pub returns : goal.returns
returns c =
    let up = whole_at_end c.args.rows c.args.history.now c.loop-i.i c.loop-i.table (omega (arith, c.loop-i-test.false, c.loop-i.auto.i-end)) c.loop-i.invariant.at in
    record { legal = up; whole = whole c.args.rows c.args.history.now (length c.args.history.now) up }
