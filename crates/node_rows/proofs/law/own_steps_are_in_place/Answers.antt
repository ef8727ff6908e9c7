use Rattle.node_rows.specs.Locking.{below}
use Rattle.node_rows.specs.Shown.{state_of}
use Rattle.node_rows.proofs.Plays.{permits_base, permits_in_use, permits_begin, permits_go, permits_shown, own_reads_granted}
use Rattle.node_rows.proofs.law.own_steps_are_in_place.Goals as goal

pub returns-clause-bases : goal.returns-clause-bases
returns-clause-bases c = λ s rule i v at may away. record { present = below c.args.about.now s i v rule at; permitted = permits_base c.args.about.now s i v rule at may away }

pub returns-clause-in_uses : goal.returns-clause-in_uses
returns-clause-in_uses c = λ s rule i v at idle based. record { present = below c.args.about.now s i v rule at; permitted = permits_in_use c.args.about.now s i v rule at idle based }

pub returns-clause-begins : goal.returns-clause-begins
returns-clause-begins c = λ s rule i v f rs k at may. record { present = below c.args.about.now s i v rule at; permitted = permits_begin c.args.about.now s i v rule at f rs k may }

pub returns-clause-goes : goal.returns-clause-goes
returns-clause-goes c = λ s rule i v at is. record { present = below c.args.about.now s i v rule at; permitted = permits_go c.args.about.now s i v rule at is }

pub returns-clause-owns : goal.returns-clause-owns
returns-clause-owns c = λ s rule i v x k at may.
    let z = c.args.about.now in
    record { present = below z s i v rule at; permitted = permits_shown z s i v rule at x may.shown (own_reads_granted (state_of z s.words s.views rule.lock.state) i x may.acts) }
