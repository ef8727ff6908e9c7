use Rattle.std.proofs.Common.{◌≡◌, ℕ, take, subst, arith}
use Rattle.plain_store.specs.Index.{IsIndexed}
use Rattle.plain_store.proofs.adding.add_all.Goals as goal

pub returns-clause-indexed : goal.returns-clause-indexed
returns-clause-indexed c =
    let all : c.loop-i.i ≡ c.args.fresh = omega (arith, c.loop-i-test.false) in
    record {
      front = c.requires.front;
      room = omega (arith, c.loop-i.invariant.tags, c.requires.room);
      places = omega (arith, c.loop-i.invariant.places, c.requires.places);
      indexed = subst (λ (i : ℕ). IsIndexed (take i c.args.table.now.slots) c.loop-i.index) all c.loop-i.invariant.indexed;
    }
