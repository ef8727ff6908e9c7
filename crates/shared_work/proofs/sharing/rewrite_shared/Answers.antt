use Rattle.shared_work.proofs.sharing.rewrite_shared.Goals as goal

pub returns : goal.returns
returns g c =
    let e = c.rewrite_new.ensures in
    record {
      lines = e.lines;
      traces = e.traces;
      workers = e.workers;
      legal = e.legal;
      order = e.order;
      rises = e.rises;
      built = e.built;
      collects = e.collects;
      full = e.full;
      few = e.few;
      worn = e.worn;
      each = e.each;
      front = e.front;
      only = e.only;
      log = e.log;
      keys = e.keys;
    }
