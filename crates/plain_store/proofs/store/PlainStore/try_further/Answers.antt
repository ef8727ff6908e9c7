use Rattle.std.proofs.Common.{inr, sym, subst}
use Rattle.plain_store.specs.Contents.{Contents}
use Rattle.plain_store.specs.Outcome.{IsMade}
use Rattle.plain_store.proofs.Outcomes.{made_found, made_free}
use Rattle.plain_store.proofs.store.PlainStore.try_further.Goals as goal

pub returns-in-Some : goal.returns-in-Some
returns-in-Some c =
    let old = c.args.self.now in
    let h = c.args.head in
    let n = c.args.n in
    record {
      tried = subst (λ (x : Contents). IsMade old x h n) (sym c.place.ensures)
          (made_found old h n c.in-Some.row c.find.ensures.sound c.find.ensures.holds c.requires.may c.requires.room c.in-Some.ensures.found);
    }

pub returns-in-Some-make : goal.returns-in-Some-make
returns-in-Some-make c =
    let old = c.args.self.now in
    let h = c.args.head in
    let n = c.args.n in
    record {
      tried = subst (λ (x : Contents). IsMade old x h n) (sym c.in-Some-make.ensures.made)
          (made_free old h n c.in-Some-make._made c.find.ensures.sound c.find.ensures.holds c.requires.may c.requires.room c.in_default.ensures.absent c.in-Some-make.ensures.free);
    }

pub returns-in-None : goal.returns-in-None
returns-in-None c =
    record {
      tried = (c.in-None.ensures.unchanged, inr (record { full = c.in-None.ensures.full; absent = c.in_default.ensures.absent }));
    }
