use Rattle.std.proofs.Common.{ap}
use Rattle.plain_store.specs.Contents.{Contents}
use Rattle.term_commands.proofs.AtOnce.{entered_wide}
use Rattle.text_trials.proofs.building.build.Goals as goal

pub build_text-requires-clause-wide : goal.build_text-requires-clause-wide
build_text-requires-clause-wide c = (entered_wide _ c.enter.new.self c.args.rows _ c.args.most c.in_ok-store.ensures (ap (λ (s : Contents). s.widest) c.enter.ensures.inside_alone)).0

pub build_text-requires-clause-cells : goal.build_text-requires-clause-cells
build_text-requires-clause-cells c = (entered_wide _ c.enter.new.self c.args.rows _ c.args.most c.in_ok-store.ensures (ap (λ (s : Contents). s.widest) c.enter.ensures.inside_alone)).1
