use Rattle.std.proofs.Common.{◌≡◌, ◌-◌, suc, subst, arith}
use Rattle.plain_rewriting.specs.Boxed.{tree_of, trees}
use Rattle.rewrite_model.specs.Run.{Done}
use Rattle.rewrite_model.specs.Outermost.{step}
use Rattle.plain_rewriting.specs.Program.{Agrees}
use Rattle.plain_rewriting.specs.OutwardSteps.{same_tree, stepped_of}
use Rattle.plain_rewriting.proofs.OutwardSteps.{steps_changed}
use Rattle.plain_rewriting.proofs.outward.+steps.Goals as goal

pub steps-requires : goal.steps-requires
steps-requires t c = (omega arith, tt)

pub returns : goal.returns
returns t c =
    let f : c.args.fuel ≡ suc (c.args.fuel - 1) = omega arith in
    let a = subst (λ o. Agrees same_tree (trees c.args.built.now.items) (trees c.step.new.built.items) (Done (stepped_of o) c.in_ok-stepped.left) (step c.args.rules.now (tree_of c.args.term) c.args.fuel c.args.room)) c.in-Some.is c.in_ok-stepped.ensures.0 in
    steps_changed c.args.rules.now (tree_of c.args.term) (tree_of c.in-Some.changed) c.args.fuel (c.args.fuel - 1) c.args.room c.in_ok-stepped.left (trees c.args.built.now.items) (trees c.step.new.built.items) (trees c.steps.new.built.items) c.steps.result f a c.steps.ensures
