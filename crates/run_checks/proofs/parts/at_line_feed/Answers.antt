use Rattle.run_checks.proofs.Feeds.{at_feed}
use Rattle.run_checks.proofs.parts.at_line_feed.Goals as goal

pub returns : goal.returns
returns c = at_feed c.args.bytes.now c.split_line.result c.split_line.ensures
