use Rattle.shared_desk.proofs.Standing.{is_in_shared, inside_of}
use Rattle.shared_desk.proofs.Looking.{own_used, own_argument, own_child, after_child}
use Rattle.shared_desk.proofs.own_reads.child_from.Goals as goal

pub child_at-requires : goal.child_at-requires
child_at-requires c =
    let s = c.args.store.now in
    let p = c.args.pass.now in
    let r = c.requires in
    record {
      inside = inside_of s p r.standing (is_in_shared s p r.standing r.shared).1;
      uses = own_used s p r.standing c.args.row r.held;
      start = r.start;
      argument = own_argument s p r.standing c.args.row r.held c.args.j r.below;
    }

pub returns : goal.returns
returns c =
    let s = c.args.store.now in
    let p = c.args.pass.now in
    let r = c.requires in
    let q = c.child_at.new.pass in
    let e = c.child_at.ensures in
    let a = after_child s p r.standing c.args.row r.held q r.shared e.inside e.same c.args.j c.child_at.result.0 e.reads in
    let b = own_child s p r.standing c.args.row r.held q r.shared e.inside e.same c.args.j c.child_at.result.0 e.reads r.below e.tree in
    record {
      standing = a.0;
      unchanged = a.1;
      held = b.0;
      tree = b.1;
    }
