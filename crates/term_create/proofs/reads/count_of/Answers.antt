use Rattle.term_create.proofs.reads.count_of.Goals as goal

pub returns : goal.returns
returns c =
    let e = c.count_at.ensures in
    record {
      inside = e.inside;
      same = e.same;
      reads = e.reads;
      within = e.within;
      tree = e.tree;
    }
