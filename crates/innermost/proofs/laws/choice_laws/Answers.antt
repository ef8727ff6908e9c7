use Rattle.std.proofs.Common.{refl}
use Rattle.innermost.proofs.Choosing.{passes, needs_fuel, needs_room, is_used}
use Rattle.innermost.proofs.laws.choice_laws.Goals as goal

pub returns-clause-stays : goal.returns-clause-stays
returns-clause-stays c = λ reduce below t fuel room. refl

pub returns-clause-passes : goal.returns-clause-passes
returns-clause-passes c = λ reduce r rs below t fuel room m. passes reduce r rs below t fuel room m

pub returns-clause-fuel : goal.returns-clause-fuel
returns-clause-fuel c = λ reduce r rs below bound t room m. needs_fuel reduce r rs below t bound room m

pub returns-clause-room : goal.returns-clause-room
returns-clause-room c = λ reduce r rs below bound t fuel room m le. needs_room reduce r rs below t bound fuel room m le

pub returns-clause-used : goal.returns-clause-used
returns-clause-used c = λ reduce r rs below bound t fuel room m e l le. is_used reduce r rs below t bound fuel room m e l le
