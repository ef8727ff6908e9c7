use Rattle.shared_desk.proofs.Standing.{is_in_shared, inside_of}
use Rattle.shared_desk.proofs.Looking.{own_used, own_many, after_count}
use Rattle.shared_desk.proofs.own_reads.count_from.Goals as goal

pub count_at-requires : goal.count_at-requires
count_at-requires c =
    let s = c.args.store.now in
    let p = c.args.pass.now in
    let r = c.requires in
    record {
      inside = inside_of s p r.standing (is_in_shared s p r.standing r.shared).1;
      uses = own_used s p r.standing c.args.row r.held;
      start = r.start;
    }

pub returns : goal.returns
returns c =
    let s = c.args.store.now in
    let p = c.args.pass.now in
    let r = c.requires in
    let e = c.count_at.ensures in
    let a = after_count s p r.standing c.args.row r.held c.count_at.new.pass r.shared e.inside e.same c.count_at.result e.reads in
    record {
      standing = a.0;
      unchanged = a.1;
      count = own_many s p r.standing c.args.row r.held c.count_at.result e.tree;
    }
