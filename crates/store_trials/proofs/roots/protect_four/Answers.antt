use Rattle.store_trials.proofs.roots.protect_four.Goals as goal

pub returns-clause-uses : goal.returns-clause-uses
returns-clause-uses g c =
    let kept = c.protect_two-2.ensures.keeps in
    (kept c.protect_two.result.0.0 c.protect_two.ensures.first, (kept c.protect_two.result.1.0 c.protect_two.ensures.second, (c.protect_two-2.ensures.first, (c.protect_two-2.ensures.second, tt))))
