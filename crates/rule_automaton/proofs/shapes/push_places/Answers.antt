use Rattle.std.proofs.Common.{arith}
use Rattle.rule_automaton.proofs.Laying.{put_more}
use Rattle.rule_automaton.proofs.shapes.push_places.Goals as goal

pub places-preserved : goal.places-preserved
places-preserved c =
    record {
      within = omega (arith, c.places.invariant.within);
      put = put_more c.args.stack.now.items c.places.stack.items c.push.new.self.items c.args.base c.args.count c.places.left (omega arith) c.places.invariant.within c.places.invariant.put c.in_ok-push.ensures.items;
    }
