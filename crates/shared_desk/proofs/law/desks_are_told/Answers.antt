use Rattle.shared_desk.proofs.Telling.{built_are_named, rooted_are_last, crowd_is_last, crowd_is_of_its_names, hand_is_protected, load_is_most, load_is_reached, sweeps_are_counted}
use Rattle.shared_desk.proofs.law.desks_are_told.Goals as goal

pub returns : goal.returns
returns c = record {
  built = built_are_named;
  roots = rooted_are_last;
  crowd = crowd_is_last;
  names = crowd_is_of_its_names;
  hand = hand_is_protected;
  load = load_is_most;
  reached = load_is_reached;
  sweeps = sweeps_are_counted;
}
