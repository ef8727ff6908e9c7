use Rattle.std.proofs.Common.{ℕ, get_or}
use Rattle.busy_forbidden.specs.Moves.{word_of, written}
use Rattle.busy_forbidden.specs.Rules.{seen}
use Rattle.node_rows.specs.Joining.{with_views}
use Rattle.node_rows.specs.Gathering.{not_spent, known_at}
use Rattle.node_rows.specs.Locking.{lock_step_is}
use Rattle.node_rows.proofs.law.lock_steps_are_the_stores.Goals as goal

pub returns : goal.returns
returns c = λ s rule i v x may.
    let f : ℕ = get_or s.words (word_of i x) 0 in
    let t = with_views s rule.known in
    let at = known_at rule.known s.views rule.joins i v may.view (not_spent v i may.number) in
    lock_step_is c.args.about.now t i v rule.shows at x may.place may.may (seen x f) (written i x f)
