use Rattle.term_syntax.proofs.LinesBack.{read_back, alone_back, nothing_else, one_terms}
use Rattle.term_syntax.proofs.laws.canonical_laws.Goals as goal

pub returns : goal.returns
returns c = record {
  read_back = λ names ts pool h. read_back names pool ts h;
  written_back = λ names t pool h. alone_back names pool t h;
  only = λ names new ts us pool h r. nothing_else names pool new ts us h r;
  one_terms = λ names t u pool h k e. one_terms names pool t u h k e;
}
