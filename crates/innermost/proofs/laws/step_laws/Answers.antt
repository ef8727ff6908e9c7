use Rattle.std.proofs.Common.{refl}
use Rattle.innermost.proofs.States.{begins, closes, builds, builds_last, has_no_room, puts_bound, gives, chooses, tests, opens}
use Rattle.innermost.proofs.laws.step_laws.Goals as goal

pub returns-clause-begins : goal.returns-clause-begins
returns-clause-begins c = λ rules term fuel room le. begins rules term fuel room le

pub returns-clause-closes : goal.returns-clause-closes
returns-clause-closes c = λ rules os o stack fuel. closes rules os o stack fuel

pub returns-clause-builds : goal.returns-clause-builds
returns-clause-builds c = λ rules os o h n down is stack fuel l. builds rules os o h n down is stack fuel l

pub returns-clause-builds_last : goal.returns-clause-builds_last
returns-clause-builds_last c = λ rules os o h n is stack fuel. builds_last rules os o h n is stack fuel

pub returns-clause-no_room : goal.returns-clause-no_room
returns-clause-no_room c = λ rules os o h n x down is stack fuel le. has_no_room rules os o h n x down is stack fuel le

pub returns-clause-bound : goal.returns-clause-bound
returns-clause-bound c = λ rules os o x down is stack fuel l. puts_bound rules os o x down is stack fuel l

pub returns-clause-gives : goal.returns-clause-gives
returns-clause-gives c = λ rules os o x is stack fuel. gives rules os o x is stack fuel

pub returns-clause-chosen : goal.returns-clause-chosen
returns-clause-chosen c = λ rules os o is stack fuel. chooses rules os o is stack fuel

pub returns-clause-tests : goal.returns-clause-tests
returns-clause-tests c = λ rules os o equal is stack fuel. tests rules os o equal is stack fuel

pub returns-clause-opens : goal.returns-clause-opens
returns-clause-opens c = λ rules os r rs bound below t fuel room m e l le. opens rules os r rs bound below t fuel room m e l le

pub returns-clause-stays : goal.returns-clause-stays
returns-clause-stays c = λ rules os below t fuel room. refl
