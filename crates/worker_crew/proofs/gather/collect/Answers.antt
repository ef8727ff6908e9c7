use Rattle.std.proofs.Common.{None, Some, List, map, ap, arith, subst}
use Rattle.worker_crew.specs.Gathered.{end_of_share, IsWorst}
use Rattle.worker_crew.specs.declared.share.Share.{Share}
use Rattle.worker_crew.proofs.Gathering.{drawn_once}
use Rattle.worker_crew.proofs.gather.collect.Goals as goal

pub count_drawn-requires-clause-all : goal.count_drawn-requires-clause-all
count_drawn-requires-clause-all c = omega (arith, c.gather.ensures.shares, c.requires.all.1, c.requires.count)

pub returns-in-None-clause-once : goal.returns-in-None-clause-once
returns-in-None-clause-once c =
    drawn_once c.args.shares.items c.args.all.me.0 c.gather.new.all.me.0 c.count_drawn.new.seat.me.0 c.count_drawn.result c.requires.all.0.none c.gather.ensures.drawn
    (ap (λ m. m.0) c.count_drawn.ensures.same) c.count_drawn.ensures.once

pub returns-in-None-clause-ok : goal.returns-in-None-clause-ok
returns-in-None-clause-ok c =
    record {
      well =
          subst (λ (ss : List Share). IsWorst (map end_of_share ss) None) c.deref.ensures.value
          (subst (λ w. IsWorst (map end_of_share c.deref.result.now) w) c.in-None.is c.worst_of-worst.ensures);
      long = c.gather.ensures.length;
      placed = c.gather.ensures.placed;
    }

pub returns-clause-once : goal.returns-clause-once
returns-clause-once c =
    drawn_once c.args.shares.items c.args.all.me.0 c.gather.new.all.me.0 c.count_drawn.new.seat.me.0 c.count_drawn.result c.requires.all.0.none c.gather.ensures.drawn
    (ap (λ m. m.0) c.count_drawn.ensures.same) c.count_drawn.ensures.once

pub returns-clause-err : goal.returns-clause-err
returns-clause-err c =
    subst (λ (ss : List Share). IsWorst (map end_of_share ss) (Some c.in-Some.fault)) c.deref.ensures.value
    (subst (λ w. IsWorst (map end_of_share c.deref.result.now) w) c.in-Some.is c.worst_of-worst.ensures)
