use Rattle.std.proofs.Common.{◌≡◌, take, true}
use Rattle.std.specs.List.{list_all}
use Rattle.work_desks.specs.Keys.{has_log_key}
use Rattle.work_desks.proofs.keys.have_log_keys.Given as goal

abbrev pub invariant-loop-pass : goal.invariant-loop-pass
invariant-loop-pass l = list_all has_log_key (take l.pass-index l.passes) ≡ true
