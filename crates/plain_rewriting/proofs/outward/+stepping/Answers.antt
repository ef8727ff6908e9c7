use Rattle.std.proofs.Common.{Option, sym, subst, arith, Err, Ok, Some}
use Rattle.std.proofs.lemmas.Result.{err_from_is_err_and}
use Rattle.plain_rewriting.specs.Boxed.{tree_of, trees}
use Rattle.rewrite_model.specs.Run.{Done}
use Rattle.term_model.specs.Tree.{Tree}
use Rattle.rewrite_model.specs.Outermost.{Building, Stepped, Changed}
use Rattle.plain_rewriting.specs.Program.{Agrees, ComesTo}
use Rattle.plain_rewriting.specs.OutwardSteps.{same_tree, stepped_of, UsesFirst}
use Rattle.plain_rewriting.specs.declared.boxed.Term.{Term}
use Rattle.plain_rewriting.proofs.OutwardSteps.{no_room_step, step_is, below_root}
use Rattle.plain_rewriting.proofs.outward.+stepping.Goals as goal

pub step-returns-then-room-eq0 : goal.step-returns-then-room-eq0
step-returns-then-room-eq0 t c = no_room_step c.args.rules.now (tree_of c.args.term.now) c.args.fuel c.args.room (trees c.args.built.now.items) c.if-room-eq0.true

pub step-returns-in_err-changed : goal.step-returns-in_err-changed
step-returns-in_err-changed t c =
    let e = err_from_is_err_and c.from_residual.result c.from_residual.ensures.1 in
    let is = step_is c.args.rules.now (tree_of c.args.term.now) c.args.fuel c.args.room (omega arith) in
    rw (e.1, e.2) (subst (λ (x : Building (Stepped Tree)). ComesTo {T = Option Term} same_tree stepped_of (trees c.args.built.now.items) (trees c.use_first.new.built.items) c.args.fuel (Err c.in_err-changed.field-0.0) x) (sym is) (c.in_err-changed.ensures (below_root c.args.rules.now (tree_of c.args.term.now) c.args.fuel c.args.room)))

pub step-returns-in-Some : goal.step-returns-in-Some
step-returns-in-Some t c =
    let u : UsesFirst c.args.rules.now c.args.term.now c.args.fuel c.args.room c.args.built.now c.use_first.new.built (Ok (Some (c.in-Some.changed, c.in-Some.left))) = subst (λ o. UsesFirst c.args.rules.now c.args.term.now c.args.fuel c.args.room c.args.built.now c.use_first.new.built (Ok o)) c.in-Some.is c.in_ok-changed.ensures in
    let h = u (below_root c.args.rules.now (tree_of c.args.term.now) c.args.fuel c.args.room) in
    let is = step_is c.args.rules.now (tree_of c.args.term.now) c.args.fuel c.args.room (omega arith) in
    (subst (λ (x : Building (Stepped Tree)). Agrees same_tree (trees c.args.built.now.items) (trees c.use_first.new.built.items) (Done (Changed (tree_of c.in-Some.changed)) c.in-Some.left) x) (sym is) h.0, h.1)
