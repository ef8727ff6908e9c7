use Rattle.std.proofs.Common.{◌≤◌, ◌∙◌, ℕ, sym, ap, subst}
use Rattle.store_model.specs.Machine.{widest, knowing}
use Rattle.node_rows.specs.Steps.{with_store}
use Rattle.term_create.proofs.Reading.{count_bound, count_tree}
use Rattle.term_create.proofs.reads.count_at.Goals as goal

pub narrow-requires : goal.narrow-requires
narrow-requires c =
    let r = c.read-count in
    count_bound c.args.store.now.sizes c.args.pass.now.seat.seat.me.0 r.new.pass.seat.seat.me.0 c.requires.inside.ready.rest r.ensures.inside.ready.known c.args.row.0 r.result r.ensures.view

pub returns : goal.returns
returns c =
    let z = c.args.store.now.sizes in
    let v = c.args.pass.now.seat.seat.me.0 in
    let rest = c.requires.inside.ready.rest in
    let row = c.args.row.0 in
    let r = c.read-count in
    let w = r.new.pass.seat.seat.me.0 in
    let e = r.ensures in
    let is = sym c.narrow.ensures in
    record {
      inside = e.inside;
      same = e.same;
      reads = e.view ∙ ap (λ (n : ℕ). with_store v (knowing v.store row 1 n)) is;
      within = subst (λ (n : ℕ). n ≤ widest z) is (count_bound z v w rest e.inside.ready.known row r.result e.view);
      tree = λ t k. count_tree z v w rest e.inside.ready.known row r.result e.view t k ∙ is;
    }
