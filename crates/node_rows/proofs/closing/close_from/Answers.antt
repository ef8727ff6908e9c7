use Rattle.std.proofs.Common.{List, map, length, sym, ap, ◌∙◌, subst, arith}
use Rattle.std.proofs.lemmas.List.{length-map}
use Rattle.std.proofs.lemmas.List.Elements.{All-from_recursion}
use Rattle.history_core.specs.declared.entry.Entry.{Entry}
use Rattle.history_core.specs.Chronicle.{chronicle, IsLegal}
use Rattle.store_model.specs.declared.view.Sizes.{Sizes}
use Rattle.store_model.specs.Bases.{StaysBelow, collect_numbers}
use Rattle.store_model.specs.Invariant.{span}
use Rattle.store_model.specs.Machine.{Each}
use Rattle.store_model.specs.Recalls.{EntriesRecalled}
use Rattle.store_model.proofs.Histories.{listed_length}
use Rattle.node_rows.specs.declared.view.NodeView.{NodeView}
use Rattle.node_rows.specs.Joining.{gathered, HasBase}
use Rattle.node_rows.specs.Crowding.{IsCrowd}
use Rattle.node_rows.specs.Told.{HasEntries, KeepsOrder, HasRisingKeys, TellsTrees, TellsCrowd, view_of}
use Rattle.node_rows.proofs.Joins.{lists_are, joined_count, finds, rises, orders, crowds, bases, trees}
use Rattle.node_rows.proofs.closing.close_from.Goals as goal

pub returns : goal.returns
returns c =
    let z : Sizes = c.args.store.now.sizes in
    let V : NodeView = view_of c.gather_all.new.first in
    let r = c.chronicle_of.result in
    let first = c.args.first in
    let rest = c.args.rest.items in
    let joined = c.gather_all.ensures.view in
    let is = lists_are z V (view_of c.look.new.pass) r c.chronicle_of.ensures c.look.ensures.view c.gather_all.ensures.first.sizes in
    let count = joined_count (map view_of rest) (view_of first) V joined in
    let long = length-map rest view_of in
    let all = c.requires.all in
    let told = c.look.ensures.tells.whole (omega arith) in
    let own = finds z V c.look.ensures.tells r is first rest joined in
    let rise = rises V r told.rises first rest joined own in
    let order = orders r first rest rise own in
    let base = bases z V r (subst (λ (ls : List (List Entry)). Each (λ x. HasBase z ls x.store.base) (gathered V)) (sym is) told.bases) first rest joined in
    let tree = trees V r (subst (λ (ls : List (List Entry)). Each (λ x. EntriesRecalled ls x.seat x.store.entries) (gathered V)) (sym is) told.trees) first rest joined in
    let crowd = crowds V r (subst (λ (ls : List (List Entry)). Each (λ x. IsCrowd ls x.seat x.store.entries x.crowd) (gathered V)) (sym is) told.crowds) first rest joined in
    record {
      count = ap (λ (ls : List (List Entry)). length ls) is ∙ listed_length z.seats _;
      own = (own.0, All-from_recursion (HasEntries r) rest own.1);
      order = (order.0, All-from_recursion (KeepsOrder r) rest order.1);
      rises = (rise.0, All-from_recursion (HasRisingKeys r) rest rise.1);
      legal = subst (λ (ls : List (List Entry)). IsLegal z.rows (chronicle ls)) (sym is) told.legal;
      numbers = subst (λ (ls : List (List Entry)). StaysBelow z.first (span z) 1 (collect_numbers (chronicle ls))) (sym is) told.numbers;
      bases = (base.0, All-from_recursion (λ p. HasBase z r (view_of p).store.base) rest base.1);
      told = (tree.0, All-from_recursion (TellsTrees r) rest tree.1);
      crowds = (crowd.0, All-from_recursion (TellsCrowd r) rest crowd.1);
    }
