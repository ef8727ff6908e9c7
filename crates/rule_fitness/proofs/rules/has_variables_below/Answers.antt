use Rattle.std.proofs.Common.{◌∙◌, ap}
use Rattle.std.specs.List.{list_all}
use Rattle.rule_match.specs.Planned.{is_item_below}
use Rattle.rule_match.proofs.Numbering.{below}
use Rattle.rule_fitness.proofs.rules.has_variables_below.Goals as goal

pub returns : goal.returns
returns c = c.are_below.ensures ∙ ap (list_all (is_item_below c.args.vars)) c.items.ensures.items ∙ below c.args.vars c.args.pattern.now
