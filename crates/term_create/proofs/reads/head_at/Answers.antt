use Rattle.std.proofs.Common.{◌≡◌, ◌<◌, ◌∙◌, ℕ, ap, arith}
use Rattle.busy_forbidden.proofs.Asking.{same_again}
use Rattle.std.proofs.lemmas.Bool.Decides.{nat_tests}
use Rattle.term_model.specs.declared.Head.TheVariants.{App, Int, Nil, Cons}
use Rattle.store_model.specs.Machine.{knowing}
use Rattle.node_rows.specs.declared.view.NodeView.{NodeView}
use Rattle.node_rows.specs.Steps.{with_store}
use Rattle.term_create.proofs.Reading.{head_tree, head_bound}
use Rattle.term_create.proofs.reads.head_at.Goals as goal

pub returns-then-word-lt-INTEGER : goal.returns-then-word-lt-INTEGER
returns-then-word-lt-INTEGER c =
    let z = c.args.store.now.sizes in
    let v = c.args.pass.now.seat.seat.me.0 in
    let rest = c.requires.inside.ready.rest in
    let row = c.args.row.0 in
    let r = c.read-word in
    let w = r.new.pass.seat.seat.me.0 in
    let e = r.ensures in
    let t = c.if-word-lt-INTEGER.true in
    let l : r.result < 4294967296 = grind (arith, nat_tests) in
    record {
      inside = e.inside;
      same = e.same;
      reads = e.view;
      tree = head_tree z v w rest e.inside.ready.known row (App record { 0 = r.result }) e.view l;
    }

pub returns-then-word-eq-INTEGER : goal.returns-then-word-eq-INTEGER
returns-then-word-eq-INTEGER c =
    let z = c.args.store.now.sizes in
    let v = c.args.pass.now.seat.seat.me.0 in
    let rest = c.requires.inside.ready.rest in
    let row = c.args.row.0 in
    let r = c.read-word in
    let e = r.ensures in
    let q = c.read in
    let t = c.if-word-eq-INTEGER.true in
    let is : r.result ≡ 4294967296 = grind (arith, nat_tests) in
    let reads = q.ensures.view ∙ ap (λ (u : NodeView). with_store u (knowing u.store row 2 q.result)) (e.view ∙ ap (λ (n : ℕ). with_store v (knowing v.store row 0 n)) is) in
    record {
      inside = q.ensures.inside;
      same = (same_again _ _ _ e.same.0 q.ensures.same.0, q.ensures.same.1 ∙ e.same.1);
      reads = reads;
      tree = head_tree z v q.new.pass.seat.seat.me.0 rest q.ensures.inside.ready.known row (Int q.result) reads tt;
    }

pub returns-then-word-eq-EMPTY_LIST : goal.returns-then-word-eq-EMPTY_LIST
returns-then-word-eq-EMPTY_LIST c =
    let z = c.args.store.now.sizes in
    let v = c.args.pass.now.seat.seat.me.0 in
    let rest = c.requires.inside.ready.rest in
    let row = c.args.row.0 in
    let r = c.read-word in
    let w = r.new.pass.seat.seat.me.0 in
    let e = r.ensures in
    let t = c.if-word-eq-EMPTY_LIST.true in
    let is : r.result ≡ 4294967297 = grind (arith, nat_tests) in
    let reads = e.view ∙ ap (λ (n : ℕ). with_store v (knowing v.store row 0 n)) is in
    record {
      inside = e.inside;
      same = e.same;
      reads = reads;
      tree = head_tree z v w rest e.inside.ready.known row Nil reads tt;
    }

pub returns-else-word-eq-EMPTY_LIST : goal.returns-else-word-eq-EMPTY_LIST
returns-else-word-eq-EMPTY_LIST c =
    let z = c.args.store.now.sizes in
    let v = c.args.pass.now.seat.seat.me.0 in
    let rest = c.requires.inside.ready.rest in
    let row = c.args.row.0 in
    let r = c.read-word in
    let w = r.new.pass.seat.seat.me.0 in
    let e = r.ensures in
    let a = c.if-word-lt-INTEGER.false in
    let b = c.if-word-eq-INTEGER.false in
    let d = c.if-word-eq-EMPTY_LIST.false in
    let bound = head_bound z v w rest e.inside.ready.known row r.result e.view in
    let is : r.result ≡ 4294967298 = grind (arith, nat_tests) in
    let reads = e.view ∙ ap (λ (n : ℕ). with_store v (knowing v.store row 0 n)) is in
    record {
      inside = e.inside;
      same = e.same;
      reads = reads;
      tree = head_tree z v w rest e.inside.ready.known row Cons reads tt;
    }
