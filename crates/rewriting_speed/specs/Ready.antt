-- When terms may be rewritten on a store, one after the other.
use Rattle.std.specs.Prelude.{◌≡◌, ◌≤◌, [], false}
use Rattle.terms_api.specs.Terms.{Store}
use Rattle.rule_match.specs.Planned.{Planned}
use Rattle.innermost.specs.Machines.{Made, IsFor}

-- Nobody is inside, the stack is empty, the machine is the plan's, and there are its places and the
-- plan's width.
pub record IsReady (plan : Planned) (machine : Made) (store : Store) : Type 0 where
  pub outside : store.inside ≡ false
  pub empty : store.stack ≡ []
  pub fits : IsFor plan machine
  pub width : plan.widest ≤ store.widest
  pub room : machine.depth ≤ store.room
