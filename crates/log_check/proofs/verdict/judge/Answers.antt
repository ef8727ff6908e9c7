use Rattle.std.proofs.Common.{◌≡◌, ◌∙◌, sym, subst, length, ap, arith}
use Rattle.log_check.specs.Log.{Log}
use Rattle.log_check.specs.Verdict.{Rises, IsVerdict, lists_of}
use Rattle.log_check.specs.declared.verdict.LogVerdict.TheVariants.{Illegal}
use Rattle.history_core.specs.Chronicle.{IsGood}
use Rattle.log_check.proofs.Ordering.{line_count, history_count}
use Rattle.log_check.proofs.Found.{callers_below, legal_is, illegal_is}
use Rattle.log_check.proofs.verdict.judge.Goals as goal

pub legal_entries-requires : goal.legal_entries-requires
legal_entries-requires c =
    callers_below c.log.inside.callers c.log.inside.begun c.log.inside.noted.items c.merge.new.noted.items c.deref.result.now c.log.invariant c.in_ok-merge.ensures.same
    (c.deref.ensures.value ∙ c.in_ok-parted.ensures.history)

pub returns : goal.returns
returns c =
    let inside : Log = record { stage = c.log.inside.stage; rows = c.log.inside.rows; callers = c.log.inside.callers; begun = c.log.inside.begun; noted = c.log.inside.noted.items } in
    let rises : Rises inside.noted = subst (λ (l : Log). Rises l.noted) (sym c.log.view_is) c.requires in
    let same = c.deref.ensures.value ∙ c.in_ok-parted.ensures.history in
    let lines = ap length c.in_ok-parted.ensures.lines in
    let entries = ap length same in
    let of_lines = line_count c.merge.new.noted.items in
    let of_entries = history_count c.merge.new.noted.items in
    let whole : c.in_ok-legal.legal ≡ length c.deref.result.now =
    omega (arith, c.if-legal-len.false, c.len.ensures, c.in_ok-legal.ensures.legal.within, lines, entries, of_lines, of_entries) in
    subst (λ (l : Log). IsGood l.rows (lists_of l) × (c.in_ok-legal.legal ≡ length l.noted)) c.log.view_is
    (legal_is inside c.merge.new.noted.items c.deref.result.now c.in_ok-legal.legal c.log.invariant rises c.in_ok-merge.ensures.merged
    (c.deref.ensures.value ∙ c.in_ok-parted.ensures.history) c.in_ok-merge.ensures.size whole c.in_ok-legal.ensures.whole.0)

pub merge-requires-clause-rises : goal.merge-requires-clause-rises
merge-requires-clause-rises c = subst (λ (l : Log). Rises l.noted) (sym c.log.view_is) c.requires

pub returns-then-legal-len : goal.returns-then-legal-len
returns-then-legal-len c =
    let inside : Log = record { stage = c.log.inside.stage; rows = c.log.inside.rows; callers = c.log.inside.callers; begun = c.log.inside.begun; noted = c.log.inside.noted.items } in
    let rises : Rises inside.noted = subst (λ (l : Log). Rises l.noted) (sym c.log.view_is) c.requires in
    subst (λ (l : Log). IsVerdict l (Illegal c.index.result.now)) c.log.view_is
    (subst (λ n. IsVerdict inside (Illegal n)) (sym c.index.ensures)
    (illegal_is inside c.merge.new.noted.items c.deref.result.now c.in_ok-parted.parted.lines.items c.in_ok-legal.legal c.index.result.now rises c.in_ok-merge.ensures.merged
    (c.deref.ensures.value ∙ c.in_ok-parted.ensures.history) c.in_ok-parted.ensures.lines (omega (arith, c.if-legal-len.true, c.len.ensures)) c.in_ok-legal.ensures.legal))
