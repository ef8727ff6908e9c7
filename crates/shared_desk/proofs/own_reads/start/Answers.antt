use Rattle.shared_desk.proofs.Standing.{is_in_shared, inside_of}
use Rattle.shared_desk.proofs.Looking.{own_used}
use Rattle.shared_desk.proofs.own_reads.start.Goals as goal

pub start_of-requires : goal.start_of-requires
start_of-requires c =
    let s = c.args.store.now in
    let p = c.args.pass.now in
    let r = c.requires in
    record {
      inside = inside_of s p r.standing (is_in_shared s p r.standing r.shared).1;
      uses = own_used s p r.standing c.args.row r.held;
    }

pub returns : goal.returns
returns c = c.start_of.ensures
