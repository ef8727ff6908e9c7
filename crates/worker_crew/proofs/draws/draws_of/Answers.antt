use Rattle.worker_crew.proofs.Dealing.{opens}
use Rattle.worker_crew.proofs.draws.draws_of.Goals as goal

pub of_words-requires : goal.of_words-requires
of_words-requires c = opens c.args.about.now c.requires
