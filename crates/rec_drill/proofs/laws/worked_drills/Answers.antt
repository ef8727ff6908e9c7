use Rattle.std.proofs.Common.{refl}
use Rattle.rec_drill.specs.Drill.{opening_lines}
use Rattle.rec_drill.specs.Worked.{text_of_one, three_terms}
use Rattle.rec_drill.proofs.laws.worked_drills.Goals as goal

pub returns-clause-one : goal.returns-clause-one
unfolding opening_lines text_of_one
returns-clause-one c = refl

pub returns-clause-three : goal.returns-clause-three
unfolding three_terms
returns-clause-three c = refl

pub returns-clause-first : goal.returns-clause-first
returns-clause-first c = refl

pub returns-clause-second : goal.returns-clause-second
returns-clause-second c = refl
