-- The canonical text of written terms: the names as they can be written, and no white space.
use Rattle.std.specs.Prelude.{ℕ, List, [], ◌∷◌, ◌++◌, codes, decimal}
use Rattle.tree_text.specs.Canonical.{spelled_name}
use Rattle.term_syntax.specs.TakenUp.{value_or_zero}
use Rattle.term_syntax.specs.Written.{Written, Call, Digits, Listed, Writtens, End, More}
use Rattle.term_building.specs.Progress.{Stage, Settled, Bracketed, Expected, Headed, Opening, Called, Bracket, Open, joined}

abbrev mutual
  pub text_of : Written → List ℕ
  text_of (Call p n ws) = spelled_name n ++ in_parentheses ws
  text_of (Digits p v) = decimal (value_or_zero v)
  text_of (Listed p ws) = codes "[" ++ with_commas ws ++ codes "]"

  pub in_parentheses : Writtens → List ℕ
  in_parentheses End = []
  in_parentheses (More w ws) = codes "(" ++ text_of w ++ after_commas ws ++ codes ")"

  -- terms with commas between them
  pub with_commas : Writtens → List ℕ
  with_commas End = []
  with_commas (More w ws) = text_of w ++ after_commas ws

  -- each term after a comma
  pub after_commas : Writtens → List ℕ
  after_commas End = []
  after_commas (More w ws) = codes "," ++ text_of w ++ after_commas ws

-- each term with a comma behind it
abbrev pub before_commas : List Written → List ℕ
before_commas [] = []
before_commas (w ∷ ws) = text_of w ++ codes "," ++ before_commas ws

-- each term with a line feed
abbrev pub lines_of : List Written → List ℕ
lines_of [] = []
lines_of (w ∷ ws) = text_of w ++ 10 ∷ lines_of ws

-- what stands before the terms of a group
abbrev pub opening_text : Opening → List ℕ
opening_text (Called p n) = spelled_name n ++ codes "("
opening_text (Bracket p) = codes "["

-- the text before a term that begins under these groups, after these terms
abbrev pub text_before : List Open → List Written → List ℕ
text_before [] finished = lines_of finished
text_before (g ∷ gs) finished =
    text_before gs finished ++ opening_text g.opening ++ before_commas g.terms

-- the text up to the last whole term
abbrev pub text_behind : List Open → List Written → List ℕ
text_behind [] finished = lines_of finished
text_behind (g ∷ gs) finished =
    text_before gs finished ++ opening_text g.opening ++ with_commas (joined g.terms End)

-- the text so far
abbrev pub text_at : Stage → List Open → List Written → List ℕ
text_at Settled gs finished = text_behind gs finished
text_at Bracketed gs finished = text_before gs finished
text_at Expected gs finished = text_before gs finished
text_at (Headed p n) gs finished = text_before gs finished ++ spelled_name n
