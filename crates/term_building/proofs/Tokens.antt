-- What stands in the text where a token was cut, and what it is in canonical text.
use Rattle.std.proofs.Common.{◌≡◌, ◌≤◌, ◌<◌, ◌∙◌, ℕ, suc, ◌+◌, ◌-◌, List, [], ◌∷◌, ◌++◌, length, take, drop, Bool, true, false, ◌&&◌, cond, refl, ap, arith, Some, decimal}
use Rattle.std.specs.List.{list_all}
use Rattle.std.specs.Prelude.{if◌then◌else◌}
use Rattle.tree_text.specs.NameBytes.{begins_name, continues_name}
use Rattle.tree_text.specs.Canonical.{is_plain, escaped, spelled_name}
use Rattle.term_syntax.specs.Tokens.{front_length}
use Rattle.term_syntax.specs.Shown.{plain_name, plain_at, quoted_at, value_at}
use Rattle.term_syntax.specs.declared.token.Shape.{Shape}
use Rattle.term_syntax.specs.declared.token.Shape.TheVariants as shape
use Rattle.term_syntax.specs.declared.token.Mark.{Mark}
use Rattle.term_syntax.specs.declared.token.Mark.TheVariants as mark

-- all bytes of the front pass
pub front_passes : (p : ℕ → Bool) (bs : List ℕ) → list_all p (take (front_length p bs) bs) ≡ true
front_passes p [] = refl
front_passes p (b ∷ bs) = by (p b) refl (front_passes p bs)
  where
    by : (t : Bool) → p b ≡ t → list_all p (take (front_length p bs) bs) ≡ true → list_all p (take (front_length p (b ∷ bs)) (b ∷ bs)) ≡ true
    by true e rest =
        let n : front_length p (b ∷ bs) ≡ suc (front_length p bs) = ap (λ t. cond t (front_length p bs + 1) 0) e ∙ omega arith in
        ap (λ k. list_all p (take k (b ∷ bs))) n ∙ (λ i. e i && rest i)
    by false e rest =
        let n : front_length p (b ∷ bs) ≡ 0 = ap (λ t. cond t (front_length p bs + 1) 0) e in
        ap (λ k. list_all p (take k (b ∷ bs))) n

-- a plain name that was cut can be plain
pub cut_is_plain : (b : ℕ) (bs : List ℕ) → begins_name b ≡ true → is_plain (plain_name (b ∷ bs)) ≡ true
cut_is_plain b bs h = let rest = front_passes continues_name bs in (λ i. h i && rest i)

pub plain_spelled : (n : List ℕ) → is_plain n ≡ true → spelled_name n ≡ n
plain_spelled n h = ap (λ t. if t then n else (34 ∷ []) ++ (escaped n ++ 34 ∷ [])) h

-- the byte of a mark
abbrev pub byte_of : Mark → ℕ
byte_of mark.Open = 40
byte_of mark.Close = 41
byte_of mark.OpenList = 91
byte_of mark.CloseList = 93
byte_of mark.Comma = 44

-- the bytes from a place to an end are canonical text, but for a name in quotes that can be plain
abbrev pub IsCut : List ℕ → ℕ → ℕ → Shape → Type 0
IsCut text place end shape.Word = (take (end - place) (drop place text) ≡ plain_at text place) × (is_plain (plain_at text place) ≡ true)
IsCut text place end shape.Quoted = take (end - place) (drop place text) ≡ 34 ∷ (escaped (quoted_at text place) ++ 34 ∷ [])
IsCut text place end shape.Number = (v : ℕ) → value_at text place ≡ Some v → take (end - place) (drop place text) ≡ decimal v
IsCut text place end (shape.At m) = take (end - place) (drop place text) ≡ byte_of m ∷ []

pub record IsToken (text : List ℕ) (place end : ℕ) (shape : Shape) : Type 0 where
  pub after : place < end
  pub fits : end ≤ length text
  pub is : IsCut text place end shape
