-- What shared terms hold.
use Rattle.std.specs.Prelude.{◌≡◌, length}
use Rattle.term_file.specs.declared.shared.Shared.TheInside.{Inside}
use Rattle.term_file.specs.Contents.{Contents}
use Rattle.term_file.specs.Right.{IsRight}

abbrev pub contents_of : Inside → Contents
contents_of s = record { symbols = s.symbols; records = s.table; roots = s.roots.items }

pub record IsShared (s : Inside) : Type 0 where
  pub right : IsRight (contents_of s)
  pub count : s.symbol_count ≡ length s.symbols
