use Rattle.term_file.proofs.OneFile.{one_file}
use Rattle.term_file.proofs.OneList.{one_list}
use Rattle.term_file.proofs.SameText.{lines_same}
use Rattle.term_file.proofs.laws.file_laws.Goals as goal

pub returns : goal.returns
returns c = record { one_file = one_file; one_list = one_list; one_text = lines_same }
