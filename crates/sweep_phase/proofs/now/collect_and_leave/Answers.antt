use Rattle.busy_forbidden.proofs.Asking.{same_again}
use Rattle.std.proofs.Common.{◌∙◌}
use Rattle.sweep_phase.proofs.Nows.{leaves_by, crowd_left, crowd_worn}
use Rattle.sweep_phase.proofs.now.collect_and_leave.Goals as goal

pub returns : goal.returns
returns c = record {
  pass = c.leave_exclusive.ensures.pass;
  same = (same_again _ _ _ c.collect-result.ensures.same.0 c.leave_exclusive.ensures.same.0, c.leave_exclusive.ensures.same.1 ∙ c.collect-result.ensures.same.1);
  out = c.leave_exclusive.ensures.out;
  told = c.leave_exclusive.ensures.told c.collect-result.ensures.inside.told;
  leaves = leaves_by c.args.store.now.sizes c.args.pass.now.seat.number c.leave_exclusive.new.pass.seat.number c.args.pass.now.seat.seat.me.0 c.collect-result.new.pass.seat.seat.me.0 c.leave_exclusive.new.pass.seat.seat.me.0 c.collect-result.result
      (c.leave_exclusive.ensures.same.1 ∙ c.collect-result.ensures.same.1)
      c.collect-result.ensures.collects c.collect-result.ensures.worn c.collect-result.ensures.unchanged c.leave_exclusive.ensures.left;
  crowd = crowd_left c.collect-result.new.pass.seat.seat.me.0 c.leave_exclusive.new.pass.seat.seat.me.0 c.collect-result.result c.collect-result.ensures.crowd c.leave_exclusive.ensures.left c.leave_exclusive.ensures.crowd;
  same_crowd = crowd_worn c.args.pass.now.seat.seat.me.0 c.collect-result.new.pass.seat.seat.me.0 c.leave_exclusive.new.pass.seat.seat.me.0 c.collect-result.result c.collect-result.ensures.unchanged c.leave_exclusive.ensures.crowd;
}
