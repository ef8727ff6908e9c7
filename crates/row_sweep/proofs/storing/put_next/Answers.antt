use Rattle.row_sweep.proofs.storing.put_next.Goals as goal

pub returns : goal.returns
returns c = record {
  at = c.put_cell.ensures.at;
  more = c.put_cell.ensures.more;
  words = c.put_cell.ensures.words;
}
