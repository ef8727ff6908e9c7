use Rattle.std.proofs.Common.{◌≡◌, ◌∙◌, ◌-◌, ◌+◌, ◌<◌, ◌++◌, ◌∷◌, [], ℕ, List, length, All, ap, sym, subst, arith}
use Rattle.std.proofs.lemmas.Result.{err_from_is_err_and}
use Rattle.std.proofs.lemmas.List.Elements.{All-push}
use Rattle.term_file.specs.Outcome.{head_of}
use Rattle.term_file.specs.Reading.{Body, body, arguments_at}
use Rattle.term_file.proofs.Loops.{arguments_end, arguments_on, arguments_done}
use Rattle.term_file.proofs.records.arguments_at.Goals as goal

pub returns-in_err-number-clause-read : goal.returns-in_err-number-clause-read
returns-in_err-number-clause-read c =
    let l = c.loop-index in
    let p = err_from_is_err_and c.from_residual.result c.from_residual.ensures.1 in
    let b : Body = record { head = head_of c.args.kind; arguments = l.arguments.items; last = l.from.now; rest = l.rest.now } in
    rw (p.1, p.2) (arguments_end c.args.total (c.args.arity - l.index) (c.args.arity - 1 - l.index) c.args.table.now b (arguments_at c.args.total c.args.table.now c.args.arity (body (head_of c.args.kind) c.args.last.now c.args.bytes.now)) c.in_err-number.field-0.0 (omega (arith, c.loop-index-test.true)) l.invariant.so_far c.in_err-number.ensures.read)

pub loop-index-preserved : goal.loop-index-preserved
loop-index-preserved c =
    let l = c.loop-index in
    let b : Body = record { head = head_of c.args.kind; arguments = l.arguments.items; last = l.from.now; rest = l.rest.now } in
    let whole = arguments_at c.args.total c.args.table.now c.args.arity (body (head_of c.args.kind) c.args.last.now c.args.bytes.now) in
    let i = c.in_ok-number.number in
    let after = c.in_ok-number.after.now in
    let next = arguments_on c.args.total (c.args.arity - l.index) (c.args.arity - 1 - l.index) c.args.table.now b i after whole (omega (arith, c.loop-index-test.true)) l.invariant.so_far c.in_ok-number.ensures.read in
    let count : c.args.arity - (l.index + 1) ≡ c.args.arity - 1 - l.index = omega arith in
    let P : ℕ → Type 0 = λ k. k < length c.args.table.now in
    record {
      so_far =
          ap (λ (ks : List ℕ). arguments_at c.args.total c.args.table.now (c.args.arity - (l.index + 1)) (record { head = head_of c.args.kind; arguments = ks; last = l.rest.now; rest = after })) c.in_ok-push.ensures.items
          ∙ ap (λ (n : ℕ). arguments_at c.args.total c.args.table.now n (record { head = head_of c.args.kind; arguments = l.arguments.items ++ i ∷ []; last = l.rest.now; rest = after })) count
          ∙ next;
      before = subst (All P) (sym c.in_ok-push.ensures.items) (All-push P l.arguments.items i l.invariant.before c.in_ok-number.ensures.before);
    }

pub returns-clause-read : goal.returns-clause-read
returns-clause-read c =
    let l = c.loop-index in
    let b : Body = record { head = head_of c.args.kind; arguments = l.arguments.items; last = l.from.now; rest = l.rest.now } in
    arguments_done c.args.total (c.args.arity - l.index) c.args.table.now b (arguments_at c.args.total c.args.table.now c.args.arity (body (head_of c.args.kind) c.args.last.now c.args.bytes.now)) (omega (arith, c.loop-index-test.false)) l.invariant.so_far
