use Rattle.std.proofs.Common.{refl}
use Rattle.rewrite_cache.proofs.Worked.{four_times, four_cached, first_whole, second_shorter, three_rooms, no_rooms}
use Rattle.rewrite_cache.proofs.facts.worked_facts.Goals as goal

pub returns-clause-four_terms : goal.returns-clause-four_terms
returns-clause-four_terms c = (refl, (four_times, refl, four_cached))

pub returns-clause-first : goal.returns-clause-first
returns-clause-first c = first_whole

pub returns-clause-second : goal.returns-clause-second
returns-clause-second c = second_shorter

pub returns-clause-room : goal.returns-clause-room
returns-clause-room c = three_rooms

pub returns-clause-no_room : goal.returns-clause-no_room
returns-clause-no_room c = no_rooms
