use Rattle.std.proofs.Common.{◌≡◌, ℕ, List, ◌∷◌, ◌++◌, [], get_or, sym, ap, subst, ◌∙◌}
use Rattle.std.specs.Prelude.{Ok, Err}
use Rattle.std.proofs.lemmas.Option.{get_or_from_slice_get, slice_get-get_or}
use Rattle.term_model.specs.Tree.{Tree, Leaf}
use Rattle.term_lines.specs.declared.ending.Ending.{Ending}
use Rattle.worker_crew.specs.declared.lines.Traced.{Traced}
use Rattle.term_lines.specs.Line.{line_text}
use Rattle.term_lines.specs.Strategies.{ended}
use Rattle.term_lines.specs.Written.{MayRecall}
use Rattle.work_order.specs.Works.{term_at, remembers_results}
use Rattle.rewrite_workers.proofs.Ending.{ended_stop}
use Rattle.rewrite_workers.proofs.Lining.{line_ended}
use Rattle.rewrite_workers.proofs.Recalling.{as_asked, recalls_asked, recalls_told, left_with, line_told}
use Rattle.rewrite_workers.proofs.worker.make_line.Goals as goal

pub write_line-made-requires-clause-memory : goal.write_line-made-requires-clause-memory
write_line-made-requires-clause-memory g c =
    let work = c.args.job.now.work in
    recalls_asked work.settings work.plan.now c.args.rewriter.now c.requires.rewriter work.plan.now.rules (g.T.Terms.store c.enter.new.self) (g.M.Memo.map c.enter-2.new.self.memo)
    (c.enter-2.ensures work.settings work.plan.now.rules (g.T.Terms.store c.args.desk.now) c.requires.recalls c.enter.ensures.entered)

pub returns-in-Err-clause-ended : goal.returns-in-Err-clause-ended
returns-in-Err-clause-ended g c =
    let work = c.args.job.now.work in
    let s = work.settings in
    let plan = work.plan.now in
    let store = g.T.Terms.store in
    let term : Tree = term_at work.terms.now c.args.number in
    let stop = c.in-Err.stop in
    let before = store c.args.desk.now in
    let begun = store c.enter.new.self in
    let made = store c.write_line-made.new.terms in
    let after = store c.leave-2.new.self in
    let read : Tree = get_or work.terms.now c.args.number c.index-job-number.result in
    let same : read ≡ term = get_or_from_slice_get work.terms.now c.args.number term c.index-job-number.result (slice_get-get_or work.terms.now c.args.number (Leaf 0) c.requires.number) in
    let built = as_asked s plan c.args.rewriter.now c.requires.rewriter read term same begun made (Err stop) c.in-Err.ensures.built in
    ended_stop s plan.rules Ending Traced (term ∷ []) before after stop
    (line_ended s plan term before begun made after c.requires.ready c.enter.ensures.entered c.write_line-made.ensures.numbers c.write_line-made.ensures.empty c.leave-2.ensures.left
    (Err stop) built c.in-Err.ensures.refusals)

pub returns-in-Ok-clause-ended : goal.returns-in-Ok-clause-ended
returns-in-Ok-clause-ended g c =
    let work = c.args.job.now.work in
    let s = work.settings in
    let plan = work.plan.now in
    let store = g.T.Terms.store in
    let term : Tree = term_at work.terms.now c.args.number in
    let begun = store c.enter.new.self in
    let made = store c.write_line-made.new.terms in
    let read : Tree = get_or work.terms.now c.args.number c.index-job-number.result in
    let same : read ≡ term = get_or_from_slice_get work.terms.now c.args.number term c.index-job-number.result (slice_get-get_or work.terms.now c.args.number (Leaf 0) c.requires.number) in
    let built = as_asked s plan c.args.rewriter.now c.requires.rewriter read term same begun made (Ok c.in-Ok.ending) c.in-Ok.ensures.built in
    line_ended s plan term (store c.args.desk.now) begun made (store c.leave-2.new.self) c.requires.ready c.enter.ensures.entered c.write_line-made.ensures.numbers c.write_line-made.ensures.empty c.leave-2.ensures.left
    (Ok c.in-Ok.ending) built c.in-Ok.ensures.refusals

pub returns-in-Ok-clause-recalls : goal.returns-in-Ok-clause-recalls
returns-in-Ok-clause-recalls g c =
    let work = c.args.job.now.work in
    let made = g.T.Terms.store c.write_line-made.new.terms in
    let right = recalls_told work.settings work.plan.now c.args.rewriter.now c.requires.rewriter work.plan.now.rules made (g.M.Memo.map c.write_line-made.new.memo) c.write_line-made.ensures.memory in
    left_with work.settings work.plan.now.rules made (g.T.Terms.store c.leave-2.new.self) (g.M.Memo.map c.leave.new.self.memo) c.leave.new.self.epoch
    (subst (λ m. MayRecall (remembers_results work.settings work.plan.now.rules) work.plan.now.rules made (g.M.Memo.map m)) (sym c.leave.ensures.memo) right) c.leave.ensures.epoch c.leave-2.ensures.left

pub returns-in-Err-clause-recalls : goal.returns-in-Err-clause-recalls
returns-in-Err-clause-recalls g c =
    let work = c.args.job.now.work in
    let made = g.T.Terms.store c.write_line-made.new.terms in
    let right = recalls_told work.settings work.plan.now c.args.rewriter.now c.requires.rewriter work.plan.now.rules made (g.M.Memo.map c.write_line-made.new.memo) c.write_line-made.ensures.memory in
    left_with work.settings work.plan.now.rules made (g.T.Terms.store c.leave-2.new.self) (g.M.Memo.map c.leave.new.self.memo) c.leave.new.self.epoch
    (subst (λ m. MayRecall (remembers_results work.settings work.plan.now.rules) work.plan.now.rules made (g.M.Memo.map m)) (sym c.leave.ensures.memo) right) c.leave.ensures.epoch c.leave-2.ensures.left

pub returns-in-Ok-clause-line : goal.returns-in-Ok-clause-line
returns-in-Ok-clause-line g c =
    let work = c.args.job.now.work in
    let term : Tree = term_at work.terms.now c.args.number in
    let read : Tree = get_or work.terms.now c.args.number c.index-job-number.result in
    let same : read ≡ term = get_or_from_slice_get work.terms.now c.args.number term c.index-job-number.result (slice_get-get_or work.terms.now c.args.number (Leaf 0) c.requires.number) in
    let e = c.in-Ok.ensures in
    let r = c.args.rewriter.now in
    let end = ended r.strategy work.plan.now.rules read r.fuel r.machine.depth in
    let text = e.text ∙ ap (λ (xs : List ℕ). xs ++ line_text r.sizes work.symbols.now end) c.new-text.ensures.items in
    line_told work.settings work.plan.now c.args.rewriter.now c.requires.rewriter work.symbols.now read term same c.in-Ok.ending.kind c.write_line-made.new.out.items c.in-Ok.ending.spent c.write_line-made.new.events.items
    text e.kind e.spent e.events

pub returns-in-Ok-clause-same : goal.returns-in-Ok-clause-same
returns-in-Ok-clause-same g c =
    g.met.T.Terms.same_in_turn _ _ _ (g.met.T.Terms.same_in_turn _ _ _ c.enter.ensures.same c.write_line-made.ensures.same) c.leave-2.ensures.same

pub returns-in-Err-clause-same : goal.returns-in-Err-clause-same
returns-in-Err-clause-same g c =
    g.met.T.Terms.same_in_turn _ _ _ (g.met.T.Terms.same_in_turn _ _ _ c.enter.ensures.same c.write_line-made.ensures.same) c.leave-2.ensures.same
