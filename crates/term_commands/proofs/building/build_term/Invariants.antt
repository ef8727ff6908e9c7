use Rattle.std.proofs.Common.{◌≡◌, ◌+◌, ◌-◌, ◌≤◌, ◌++◌, ◌∷◌, [], true, length, drop}
use Rattle.terms_api.specs.Terms.{IsSound, trees}
use Rattle.plain_store.specs.Contents.{store_of, IsSame}
use Rattle.term_commands.specs.Building.{Make}
use Rattle.term_commands.proofs.building.build_term.Given as goal

-- the items that are left make the term's tree
abbrev pub invariant-loop-item : goal.invariant-loop-item
invariant-loop-item l = record {
  inside : l.store.inside ≡ true;
  sound : IsSound (store_of l.store);
  made : Make (drop l.item-index l.items) (trees (store_of l.store)) (trees (store_of l.fn.store) ++ l.fn.term ∷ []);
  room : length l.store.stack + (length l.items - l.item-index) ≤ l.store.room;
  same : IsSame l.fn.store l.store;
}
