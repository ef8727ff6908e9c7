use Rattle.std.proofs.Common.{◌∙◌, ◌++◌, ◌∷◌, [], ℕ, List, sym, ap}
use Rattle.node_rows.specs.Rows.{names}
use Rattle.node_rows.specs.Crowding.{kept_in}
use Rattle.shared_desk.proofs.Logging.{names_push, one_below, same_below}
use Rattle.shared_desk.proofs.noting.list_one.Goals as goal

pub returns-then-not-kept : goal.returns-then-not-kept
returns-then-not-kept g c = λ ascends told.
    let ks = kept_in (g.S.SharedPass.view c.args.pass.now).entries in
    told ∙ sym (same_below c.args.number ks (λ k. let bad = sym c.if-not-kept.true ∙ c.kept.ensures.1 k in absurd (cc)))

pub returns : goal.returns
returns g c = λ ascends told.
    let ks = kept_in (g.S.SharedPass.view c.args.pass.now).entries in
    ap names c.in_ok-push.ensures.items ∙ (names_push c.args.kept.now.items (record { 0 = c.args.number })
    ∙ (ap (λ (ns : List ℕ). ns ++ c.args.number ∷ []) told ∙ sym (one_below c.args.number ks ascends (c.kept.ensures.0 c.if-not-kept.false))))
