use Rattle.std.proofs.Common.{refl}
use Rattle.term_building.proofs.builder.Builder.on_mark.Goals as goal

pub returns-in_ok-pass_mark-in-44 : goal.returns-in_ok-pass_mark-in-44
returns-in_ok-pass_mark-in-44 g c =
    let e = c.in_ok-pass_mark-in-44.ensures in
    record { behind = e.passes; ready = e.ready; same = e.same }

pub returns-in_ok-pass_mark-in-41 : goal.returns-in_ok-pass_mark-in-41
returns-in_ok-pass_mark-in-41 g c =
    let e = c.in_ok-pass_mark-in-41.ensures in
    record { behind = (e.passes, e.stage); ready = e.ready; same = e.same }

pub returns-in_ok-pass_mark-in-93 : goal.returns-in_ok-pass_mark-in-93
returns-in_ok-pass_mark-in-93 g c =
    let e = c.in_ok-pass_mark-in-93.ensures in
    record { behind = (e.passes, e.stage); ready = e.ready; same = e.same }

pub returns-in_default : goal.returns-in_default
returns-in_default g c = record {
  behind = refl;
  ready = c.requires.ready;
  same = g.met.T.Terms.same_as_itself _;
}
