-- The sizes of the shared store.
use Rattle.std.specs.Prelude.{ℕ}
use Rattle.store_model.specs.declared.view.Sizes.{Sizes}

-- All rows, as many buckets, all in use, one pass, and terms of so many arguments.
abbrev pub sizes_of : ℕ → Sizes
sizes_of widest =
    record {
      rows = 262144;
      buckets = 262144;
      start = 262144;
      seats = 1;
      depth = 65536;
      arity = widest;
      first = 1;
    }
