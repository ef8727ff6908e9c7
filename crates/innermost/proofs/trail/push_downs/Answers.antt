use Rattle.std.proofs.Common.{◌++◌, ◌∷◌, [], ◌∙◌, sym, ap, arith, append_assoc, take, get_or, List}
use Rattle.std.proofs.lemmas.List.{map_more}
use Rattle.std.proofs.lemmas.Result.{err_from_is_err_and}
use Rattle.rewrite_model.specs.Trace.{downs}
use Rattle.rewrite_model.specs.declared.event.Event.{Event}
use Rattle.rewrite_model.specs.declared.event.Event.TheVariants.{Down}
use Rattle.innermost.proofs.trail.push_downs.Goals as goal

pub returns-in_err-push : goal.returns-in_err-push
returns-in_err-push c =
    let p = err_from_is_err_and c.from_residual.result c.from_residual.ensures.1 in
    rw p.1 (tt)

pub loop-argument-preserved : goal.loop-argument-preserved
loop-argument-preserved c =
    let args = c.args.arguments.now in
    let i = c.loop-argument.argument-index in
    c.in_ok-push.ensures.items
    ∙ ap (λ (ms : List Event). ms ++ Down (get_or args i 0) ∷ []) c.loop-argument.invariant
    ∙ append_assoc c.args.moves.now.items (downs (take i args)) (Down (get_or args i 0) ∷ [])
    ∙ ap (λ (ms : List Event). c.args.moves.now.items ++ ms) (sym (map_more (λ j. Down j) args i 0 (omega arith)))
