use Rattle.std.proofs.Common.{◌≡◌, ◌∙◌, None, [], ap, subst}
use Rattle.std.specs.Prelude.{IfErr}
use Rattle.store_model.specs.Machine.{arrived, widest}
use Rattle.node_rows.specs.Rows.{names}
use Rattle.node_rows.specs.declared.view.NodeView.{NodeView}
use Rattle.node_rows.specs.Full.{HoldsAll}
use Rattle.node_rows.specs.Knowing.{IsAbsent}
use Rattle.node_rows.specs.Steps.{over}
use Rattle.node_rows.proofs.Tellings.{told_on}
use Rattle.term_create.proofs.Told.{ends_whole, ends_filled}
use Rattle.term_create.proofs.Arguments.{second_word}
use Rattle.term_create.proofs.Whole.{words_fit, same_joined}
use Rattle.term_create.proofs.Costs.{whole_cost}
use Rattle.term_create.proofs.creating.create_whole.Goals as goal

pub create_from-requires-clause-told : goal.create_from-requires-clause-told
create_from-requires-clause-told g c =
    let p = c.args.pass.now in
    let e = c.begin-from.ensures.view in
    told_on p.seat.seat.me.0.store c.begin-from.new.seat.seat.me.0.store p.rows p.seen p.last p.marks
    (ap (λ (u : NodeView). u.store.entries) e) (ap (λ (u : NodeView). u.store.seen) e) c.requires.inside.told

pub create_from-requires-clause-stay : goal.create_from-requires-clause-stay
create_from-requires-clause-stay g c = ap (λ (u : NodeView). u.store.stay) c.begin-from.ensures.view ∙ c.requires.inside.ready.rest.stay

pub returns : goal.returns
returns g c =
    let z = c.args.store.now.sizes in
    let p = c.args.pass.now in
    let v = p.seat.seat.me.0 in
    let b = c.begin-from.ensures in
    let u = c.begin-from.new.seat.seat.me.0 in
    let n = c.begin-from.result in
    let f = c.args.head in
    let rs = names c.args.args.now in
    let r = c.create_from.result in
    let e = c.create_from.ensures in
    let was = c.requires.inside in
    let same = same_joined record { same = b.same.0; number = b.same.1; seats = b.same.2 } e.same in
    record {
      pass = record { table = e.at.of.table; sizes = e.at.of.sizes ∙ was.store.told; count = same.seats ∙ was.pass.count; none = same.same.slots ∙ was.pass.none };
      same = same;
      loaded = e.loaded;
      known = e.at.known;
      view = ends_whole v u c.create_from.new.pass.seat.seat.me.0 f rs (arrived (over f rs) None n 0 n) r b.view e.view;
      told = e.told;
      alone = subst (λ (q : NodeView). IfErr r (λ _. z.seats ≡ 1 → IsAbsent q.store.entries (over f rs))) b.view e.alone;
      all = subst (λ (q : NodeView). IfErr r (λ _. z.seats ≡ 1 → HoldsAll z.rows q.store.entries)) b.view e.all;
      filled = ends_filled z p.seat.number c.begin-from.new.seat.number v u f rs 0 [] (arrived (over f rs) None n 0 n) r b.same.1 b.view e.filled;
      cost = whole_cost (widest z) z.rows c.args.steps.now c.tick.new.self c.create_from.new.steps c.tick.ensures e.cost;
    }

pub invariant_of-asked-clause-second : goal.invariant_of-asked-clause-second
invariant_of-asked-clause-second g c = second_word c.args.head c.args.args.now c.requires.may.over

pub invariant_of-asked-clause-fits : goal.invariant_of-asked-clause-fits
invariant_of-asked-clause-fits g c = words_fit c.args.store.now.sizes c.args.head (names c.args.args.now) c.requires.may.over c.requires.may.few
