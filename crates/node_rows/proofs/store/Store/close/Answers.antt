use Rattle.std.proofs.Common.{Some, length, sym, ap, subst, arith}
use Rattle.std.proofs.lemmas.List.{length_push}
use Rattle.std.specs.Prelude.{All}
use Rattle.std.proofs.lemmas.List.Elements.{All-pop, All-push}
use Rattle.node_rows.specs.Passes.{IsPass, IsOut}
use Rattle.node_rows.specs.Joining.{HasBase}
use Rattle.node_rows.specs.Told.{HasEntries, KeepsOrder, HasRisingKeys, TellsTrees, TellsCrowd, view_of}
use Rattle.node_rows.proofs.store.Store.close.Goals as goal

pub close_from-requires : goal.close_from-requires
close_from-requires c =
    let t = All-pop (λ p. IsPass c.args.self.table.shared.table_id c.args.self.sizes p.seat.seat p.seat.seats × IsOut p.seat.seat.me.0) c.args.passes.items c.pop.new.self.items (Some c.in-Some.first) c.in-Some.ensures.items c.requires.passes in
    record {
      store = c.requires.store;
      first = t.1.0;
      rest = t.0;
      all = let long = ap length c.in-Some.ensures.items in let more = length_push c.pop.new.self.items c.in-Some.first in let n = c.requires.all in omega arith;
    }

pub returns-in-Some : goal.returns-in-Some
returns-in-Some c =
    let r = c.close_from.result in
    let z = c.args.self.sizes in
    let first = c.in-Some.first in
    let rest = c.pop.new.self.items in
    let e = c.close_from.ensures in
    let is = sym c.in-Some.ensures.items in
    record {
      count = e.count;
      own = subst (All (HasEntries r)) is (All-push (HasEntries r) rest first e.own.1 e.own.0);
      order = subst (All (KeepsOrder r)) is (All-push (KeepsOrder r) rest first e.order.1 e.order.0);
      rises = subst (All (HasRisingKeys r)) is (All-push (HasRisingKeys r) rest first e.rises.1 e.rises.0);
      legal = e.legal;
      numbers = e.numbers;
      bases = subst (All (λ p. HasBase z r (view_of p).store.base)) is (All-push (λ p. HasBase z r (view_of p).store.base) rest first e.bases.1 e.bases.0);
      told = subst (All (TellsTrees r)) is (All-push (TellsTrees r) rest first e.told.1 e.told.0);
      crowds = subst (All (TellsCrowd r)) is (All-push (TellsCrowd r) rest first e.crowds.1 e.crowds.0);
    }
