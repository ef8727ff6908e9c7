use Rattle.term_create.proofs.reads.head_of.Goals as goal

pub returns : goal.returns
returns c =
    let e = c.head_at.ensures in
    record {
      inside = e.inside;
      same = e.same;
      reads = e.reads;
      tree = e.tree;
    }
