-- What was shared so far, without where it lies in memory.
use Rattle.term_file.specs.declared.growing.Growing.{Growing}
use Rattle.term_file.specs.Contents.{Contents}

abbrev pub contents_so_far : Growing → Contents
contents_so_far g = record { symbols = g.symbols; records = g.table; roots = g.stack.items }
