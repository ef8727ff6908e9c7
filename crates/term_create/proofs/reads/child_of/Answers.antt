use Rattle.term_create.proofs.reads.child_of.Goals as goal

pub returns : goal.returns
returns c =
    let e = c.child_at.ensures in
    record {
      inside = e.inside;
      same = e.same;
      reads = e.reads;
      tree = e.tree;
    }
