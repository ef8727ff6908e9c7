use Rattle.shared_desk.proofs.Standing.{is_in_shared, inside_of}
use Rattle.shared_desk.proofs.Looking.{own_used, own_root, after_head}
use Rattle.shared_desk.proofs.own_reads.head_from.Goals as goal

pub head_at-requires : goal.head_at-requires
head_at-requires c =
    let s = c.args.store.now in
    let p = c.args.pass.now in
    let r = c.requires in
    record {
      inside = inside_of s p r.standing (is_in_shared s p r.standing r.shared).1;
      uses = own_used s p r.standing c.args.row r.held;
      start = r.start;
    }

pub returns : goal.returns
returns c =
    let s = c.args.store.now in
    let p = c.args.pass.now in
    let r = c.requires in
    let e = c.head_at.ensures in
    let a = after_head s p r.standing c.args.row r.held c.head_at.new.pass r.shared e.inside e.same c.head_at.result e.reads in
    record {
      standing = a.0;
      unchanged = a.1;
      head = own_root s p r.standing c.args.row r.held c.head_at.result e.tree;
    }
