use Rattle.std.proofs.Common.{ℕ, List, inl, inr, refl, sym, subst}
use Rattle.store_model.specs.Machine.{In}
use Rattle.store_trials.proofs.roots.protect_constant.Goals as goal

pub returns-clause-uses : goal.returns-clause-uses
returns-clause-uses g c =
    let row : ℕ = c.in-Ok.row.0 in
    c.push_root-pushed.ensures.keeps.uses row (subst (λ (gs : List ℕ). In row gs) (sym c.in-Ok.ensures.gets.got) (inl refl))

pub returns-clause-keeps : goal.returns-clause-keeps
returns-clause-keeps g c = λ r u. c.push_root-pushed.ensures.keeps.uses r (subst (λ (gs : List ℕ). In r gs) (sym c.in-Ok.ensures.gets.got) (inr u))
