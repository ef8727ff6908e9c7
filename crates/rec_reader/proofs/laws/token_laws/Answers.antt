use Rattle.std.proofs.Common.{refl}
use Rattle.rec_reader.proofs.Cutting.{tokens_are_cut}
use Rattle.rec_reader.proofs.Joined.{others_are_no_cut}
use Rattle.rec_reader.proofs.Refused.{refused_at_first_bad, others_are_not_refused}
use Rattle.rec_reader.proofs.laws.token_laws.Goals as goal

pub returns-clause-cut : goal.returns-clause-cut
returns-clause-cut c = tokens_are_cut

pub returns-clause-only : goal.returns-clause-only
returns-clause-only c = others_are_no_cut

pub returns-clause-refused : goal.returns-clause-refused
returns-clause-refused c = refused_at_first_bad

pub returns-clause-refused_only : goal.returns-clause-refused_only
returns-clause-refused_only c = others_are_not_refused

pub returns-clause-worked : goal.returns-clause-worked
returns-clause-worked c = record { arrow = refl; dash = refl; joins = refl; parts = refl; word = refl; comment = refl; bad = refl }
