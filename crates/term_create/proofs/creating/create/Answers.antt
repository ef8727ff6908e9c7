use Rattle.std.proofs.Common.{inl}
use Rattle.term_create.proofs.creating.create.Goals as goal

pub create_inside-requires : goal.create_inside-requires
create_inside-requires c = record { inside = c.requires.inside; access = inl c.requires.shared; may = c.requires.may }

pub returns : goal.returns
returns c =
    let e = c.create_inside.ensures in
    record {
      inside = e.inside;
      same = e.same;
      only = e.only;
      notes = e.notes;
      gets = e.gets;
      full_only_where_read_full = e.full_only_where_read_full;
      full_alone_only_where_absent = e.full_alone_only_where_absent;
      full_alone_only_where_all_rows_are_held = e.full_alone_only_where_all_rows_are_held;
      full_gets_none = e.full_gets_none;
      rest = e.rest;
    }
