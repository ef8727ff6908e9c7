-- Bytes and runs of which one test tells that they are none of many.
use Rattle.std.proofs.Common.{◌≡◌, ℕ, ◌-◌, ◌==◌, ◌||◌, ◌&&◌, List, [], ◌∷◌, length, nat_eq, Bool, true, false, cond, None, slice_get, codes, refl, sym, ap, ◌∙◌, true≢false}
use Rattle.std.specs.Option.{option_map_or}
use Rattle.std.specs.Str.{bytes_eq}
use Rattle.std.proofs.lemmas.Bool.{eq-eqb, eqb-true}
use Rattle.std.specs.Cmp.Lexicographic.{bytes_decides}
use Rattle.rec_reader.specs.Tokens.{begins, ends_word, is_plain, is_frequent_mark, word_of}

-- such a mark may not stand in a name
pub mark_not_plain : (b : ℕ) → is_frequent_mark b ≡ true → is_plain b ≡ false
mark_not_plain b h = by (b == 40) (b == 41) (b == 44) refl refl refl h
  where
    by : (p q r : Bool) → (b == 40) ≡ p → (b == 41) ≡ q → (b == 44) ≡ r → (p || q || r) ≡ true → is_plain b ≡ false
    by true q r e f g k = ap is_plain (eqb-true b 40 e)
    by false true r e f g k = ap is_plain (eqb-true b 41 f)
    by false false true e f g k = ap is_plain (eqb-true b 44 g)
    by false false false e f g k = absurd (true≢false (sym k))

same_byte : (x b : ℕ) → (x == b) ≡ (nat_eq b x && true)
same_byte x b = by (x == b) (nat_eq b x) refl refl
  where
    by : (p q : Bool) → (x == b) ≡ p → nat_eq b x ≡ q → p ≡ (q && true)
    by true true e f = refl
    by false false e f = refl
    by true false e f = absurd (true≢false (sym (eq-eqb b x (sym (eqb-true x b e))) ∙ f))
    by false true e f = absurd (true≢false (sym (eq-eqb x b (sym (eqb-true b x f))) ∙ e))

-- the first byte tells whether the bytes begin with a byte
pub begins_first : (bytes : List ℕ) (b : ℕ) → option_map_or (λ x. x == b) (slice_get bytes 0) false ≡ begins bytes (b ∷ [])
begins_first [] b = refl
begins_first (x ∷ xs) b = same_byte x b

-- whether the last byte is that of a reserved word
abbrev ends : List ℕ → Bool
ends run = option_map_or ends_word (slice_get run (length run - 1)) false

-- a run that ends otherwise is no word
other_word : (run word : List ℕ) → ends run ≡ false → ends word ≡ true → bytes_eq run word ≡ false
other_word run word h k = by (bytes_eq run word) refl
  where
    by : (b : Bool) → bytes_eq run word ≡ b → b ≡ false
    by true e = absurd (true≢false (sym k ∙ ap ends (sym ((bytes_decides run word).0 e)) ∙ h))
    by false e = refl

skip : {A : Type 0} {b : Bool} (x y : A) → b ≡ false → cond b x y ≡ y
skip x y e = ap (λ t. cond t x y) e

pub no_word : (run : List ℕ) → ends run ≡ false → word_of run ≡ None
no_word run h =
    let never : (word : List ℕ) → ends word ≡ true → bytes_eq run word ≡ false = λ word k. other_word run word h k in
    skip _ _ (never (codes "REC-SPEC") refl) ∙ skip _ _ (never (codes "SORTS") refl) ∙ skip _ _ (never (codes "CONS") refl)
    ∙ skip _ _ (never (codes "OPNS") refl) ∙ skip _ _ (never (codes "VARS") refl) ∙ skip _ _ (never (codes "RULES") refl)
    ∙ skip _ _ (never (codes "EVAL") refl) ∙ skip _ _ (never (codes "END-SPEC") refl) ∙ skip _ _ (never (codes "if") refl)
    ∙ skip _ _ (never (codes "and-if") refl)
