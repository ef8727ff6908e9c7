use Rattle.term_create.proofs.creating.create_uncounted.Goals as goal

pub returns : goal.returns
returns g c =
    let e = c.create_counted.ensures in
    record {
      inside = e.inside;
      same = e.same;
      only = e.only;
      notes = e.notes;
      gets = e.gets;
      full_only_where_read_full = e.full_only_where_read_full;
      full_alone_only_where_absent = e.full_alone_only_where_absent;
      full_alone_only_where_all_rows_are_held = e.full_alone_only_where_all_rows_are_held;
      full_after_collection_only_where_filled = e.full_after_collection_only_where_filled;
      full_gets_none = e.full_gets_none;
      rest = e.rest;
    }
