use Rattle.std.proofs.Common.{◌+◌, ◌∙◌, sym, refl, arith}
use Rattle.term_syntax.specs.declared.token.Shape.TheVariants as shape
use Rattle.term_building.specs.Ready.{state_in}
use Rattle.term_building.proofs.Passing.{passed_mark, step_in_group, mark_stage}
use Rattle.term_building.proofs.builder.Builder.pass_mark.Goals as goal

pub returns-in_ok-in_group-in-Some : goal.returns-in_ok-in_group-in-Some
returns-in_ok-in_group-in-Some g c =
    let text = c.args.text.now in
    let at = c.args.at in
    let h = c.requires.at in
    let old = state_in c.args.self.now (g.T.Terms.store c.args.store.now) in
    let new = state_in c.in_group.new.self (g.T.Terms.store c.in_group.new.store) in
    let innermost = sym c.innermost.ensures ∙ c.in-Some.is in
    let step_is = step_in_group text at (at + 1) (shape.At c.args.mark) old.stage old.groups c.in-Some.group old c.requires.stage refl innermost ∙ c.in_ok-in_group-in-Some.ensures.built in
    record {
      passes = record {
        after = omega arith;
        within = omega (arith, h);
        passed = passed_mark text at c.args.mark old new h c.requires.mark step_is;
      };
      stage = mark_stage c.args.text.now (c.args.at + 1) c.in-Some.group c.args.mark (state_in c.args.self.now (g.T.Terms.store c.args.store.now)) _ c.in_ok-in_group-in-Some.ensures.built;
      ready = c.in_ok-in_group-in-Some.ensures.ready;
      same = c.in_ok-in_group-in-Some.ensures.same;
    }
