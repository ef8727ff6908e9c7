use Rattle.std.proofs.Common.{◌≡◌, true, take}
use Rattle.terms_api.specs.Terms.{IsSound, trees}
use Rattle.plain_store.specs.Contents.{store_of, IsSame}
use Rattle.term_commands.proofs.building.build_terms.Given as goal

abbrev pub invariant-loop-term : goal.invariant-loop-term
invariant-loop-term l = record {
  inside : l.store.inside ≡ true;
  sound : IsSound (store_of l.store);
  built : trees (store_of l.store) ≡ take l.term-index l.terms;
  same : IsSame l.fn.store l.store;
}
