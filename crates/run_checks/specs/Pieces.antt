-- What is still to be read of a line, as pieces on a stack, the next one last.
use Rattle.std.specs.Prelude.{◌≡◌, ℕ, ◌+◌, ◌<◌, List, [], ◌∷◌, ◌++◌, reverse, sum_by, Option, Some, None, All}
use Rattle.std.specs.List.{flat_map}
use Rattle.term_model.specs.Tree.{Tree, Leaf, Node, Trees, End, More}
use Rattle.term_text.specs.Text.{text}
use Rattle.run_checks.specs.declared.text.Piece.{Piece}
use Rattle.run_checks.specs.declared.text.Piece.TheVariants.{Term, Byte}
use Rattle.run_checks.specs.Held.{Held, IsThere, term_at}

abbrev pub text_of : Held → Piece → List ℕ
text_of h (Term n) = text h.symbols (term_at h n)
text_of h (Byte b) = b ∷ []

-- the text of all pieces, the last one first
abbrev pub texts : Held → List Piece → List ℕ
texts h pieces = flat_map (text_of h) (reverse pieces)

abbrev pub IsPiece : Held → Piece → Type 0
IsPiece h (Term n) = IsThere h n
IsPiece h (Byte b) = Unit {0}

abbrev pub ArePieces : Held → List Piece → Type 0
ArePieces h pieces = All (IsPiece h) pieces

-- the arguments from some one on, each after a comma
abbrev pub further : List ℕ → List Piece
further [] = []
further (n ∷ ns) = further ns ++ Term n ∷ Byte 44 ∷ []

-- arguments in parentheses, which no arguments don't have
abbrev pub over_arguments : List ℕ → List Piece
over_arguments [] = []
over_arguments (n ∷ ns) = (Byte 41 ∷ further ns) ++ Term n ∷ Byte 40 ∷ []

-- how many pieces a term comes to before it is read
abbrev mutual
  pub weight : Tree → ℕ
  weight (Leaf x) = 1
  weight (Node h ts) = weights ts + 2

  pub weights : Trees → ℕ
  weights End = 0
  weights (More t ts) = weight t + weights ts + 1

abbrev pub weight_of : Held → Piece → ℕ
weight_of h (Term n) = weight (term_at h n)
weight_of h (Byte b) = 1

abbrev pub left : Held → List Piece → ℕ
left h pieces = sum_by (weight_of h) pieces

-- the beginning of some bytes is the beginning of the text of the pieces, and the rest of both is
-- still to be read
pub record Reads (h : Held) (before after : List Piece) (bytes rest : List ℕ) : Type 0 where
  pub begin : List ℕ
  pub bytes_are : bytes ≡ begin ++ rest
  pub texts_are : texts h before ≡ begin ++ texts h after
  pub pieces : ArePieces h after
  pub less : left h after < left h before

-- the same for what is left of the bytes; without it they aren't the text
abbrev pub Takes : Held → List Piece → List Piece → List ℕ → Option (List ℕ) → Type 0
Takes h before after bytes None = bytes ≡ texts h before → ⊥
Takes h before after bytes (Some rest) = Reads h before after bytes rest
