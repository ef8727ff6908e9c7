use Rattle.std.proofs.Common.{◌<◌, ◌≤◌, ◌+◌, ℕ, List, [], length, sym, subst, arith}
use Rattle.std.proofs.lemmas.Result.{err_from_is_err_and}
use Rattle.term_syntax.specs.declared.machine.Entry.{Entry}
use Rattle.term_syntax.specs.Shown.{part_in, parts_in}
use Rattle.term_syntax.specs.TakenUp.{TookFront}
use Rattle.term_syntax.specs.Parts.{symbols_of_parts}
use Rattle.term_syntax.proofs.Keeping.{parts_many, entry_at, part_there}
use Rattle.symbol_pool.proofs.Taking.{grows_on}
use Rattle.term_syntax.proofs.TakingUp.{Taking, taking_none, taking_all, taking_more, part_due, part_grows, took_front}
use Rattle.term_syntax.proofs.symbols.items_of.Goals as goal

within : (text : List ℕ) (es : List Entry) (i : ℕ) → i < length es → i < length (parts_in text es)
within text es i h = let n = parts_many text es in omega (arith, n, h)

past : (text : List ℕ) (es : List Entry) (i : ℕ) → length es ≤ i → length (parts_in text es) ≤ i
past text es i h = let n = parts_many text es in omega (arith, n, h)

pub returns-in_err-item-clause-refused : goal.returns-in_err-item-clause-refused
returns-in_err-item-clause-refused c =
    let l = c.loop-part in
    let text = c.args.text.now in
    let es = c.args.parts.now in
    let p = err_from_is_err_and c.from_residual-in_err-item.result c.from_residual-in_err-item.ensures.1 in
    let here = part_there text es l.part-index c.loop-part-test.true in
    rw (p.1, p.2) (part_due c.args.symbols.now l.symbols (parts_in text es) l.part-index l.items.items (part_in text (entry_at es l.part-index)) c.in_err-item.field-0.0 l.invariant.taking (within text es l.part-index c.loop-part-test.true) here c.in_err-item.ensures.refused)

pub returns-in_err-push-clause-grows : goal.returns-in_err-push-clause-grows
returns-in_err-push-clause-grows c =
    let l = c.loop-part in
    grows_on c.args.symbols.now l.symbols c.take_part.new.symbols l.invariant.taking.grows (part_grows l.symbols c.take_part.new.symbols (part_in c.args.text.now (entry_at c.args.parts.now l.part-index)) c.in_ok-item.item c.in_ok-item.ensures.taken)

pub loop-part-preserved : goal.loop-part-preserved
loop-part-preserved c =
    let l = c.loop-part in
    let text = c.args.text.now in
    let es = c.args.parts.now in
    let here = part_there text es l.part-index c.loop-part-test.true in
    let more = taking_more c.args.symbols.now l.symbols c.take_part.new.symbols (parts_in text es) l.part-index l.items.items (part_in text (entry_at es l.part-index)) c.in_ok-item.item l.invariant.taking (within text es l.part-index c.loop-part-test.true) here c.in_ok-item.ensures.taken in
    record {
      taking = subst (λ xs. Taking c.args.symbols.now c.take_part.new.symbols (parts_in text es) (l.part-index + 1) xs) (sym c.in_ok-push.ensures.items) more;
      known = c.in_ok-item.ensures.known;
    }

pub returns-in_err-item-clause-front : goal.returns-in_err-item-clause-front
returns-in_err-item-clause-front c =
    let l = c.loop-part in
    let parts = parts_in c.args.text.now c.args.parts.now in
    subst (TookFront (symbols_of_parts parts) c.args.symbols.now) (sym c.in_err-item.ensures.unchanged)
    (took_front c.args.symbols.now l.symbols parts l.part-index l.items.items l.invariant.taking)

pub returns-in_err-push-clause-front : goal.returns-in_err-push-clause-front
returns-in_err-push-clause-front c =
    let l = c.loop-part in
    let text = c.args.text.now in
    let es = c.args.parts.now in
    let here = part_there text es l.part-index c.loop-part-test.true in
    let more = taking_more c.args.symbols.now l.symbols c.take_part.new.symbols (parts_in text es) l.part-index l.items.items (part_in text (entry_at es l.part-index)) c.in_ok-item.item l.invariant.taking (within text es l.part-index c.loop-part-test.true) here c.in_ok-item.ensures.taken in
    took_front c.args.symbols.now c.take_part.new.symbols (parts_in text es) (l.part-index + 1) _ more

pub returns-clause-taken : goal.returns-clause-taken
returns-clause-taken c =
    let l = c.loop-part in
    let text = c.args.text.now in
    let es = c.args.parts.now in
    (taking_all c.args.symbols.now l.symbols (parts_in text es) l.part-index l.items.items l.invariant.taking (past text es l.part-index c.loop-part-test.false)).0

pub returns-clause-items : goal.returns-clause-items
returns-clause-items c =
    let l = c.loop-part in
    let text = c.args.text.now in
    let es = c.args.parts.now in
    (taking_all c.args.symbols.now l.symbols (parts_in text es) l.part-index l.items.items l.invariant.taking (past text es l.part-index c.loop-part-test.false)).1

pub returns-clause-there : goal.returns-clause-there
returns-clause-there c =
    let l = c.loop-part in
    let text = c.args.text.now in
    let es = c.args.parts.now in
    (taking_all c.args.symbols.now l.symbols (parts_in text es) l.part-index l.items.items l.invariant.taking (past text es l.part-index c.loop-part-test.false)).2

pub returns-clause-front : goal.returns-clause-front
returns-clause-front c =
    let l = c.loop-part in
    took_front c.args.symbols.now l.symbols (parts_in c.args.text.now c.args.parts.now) l.part-index l.items.items l.invariant.taking

pub returns-in_err-items-clause-front : goal.returns-in_err-items-clause-front
returns-in_err-items-clause-front c =
    let parts = parts_in c.args.text.now c.args.parts.now in
    took_front c.args.symbols.now c.args.symbols.now parts 0 [] (taking_none c.args.symbols.now parts)
