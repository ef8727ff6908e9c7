-- Bytes are cut into parts: what each piece that is read says of the bytes.
use Rattle.std.proofs.Common.{◌≡◌, ◌≢◌, ◌<◌, ◌∙◌, ℕ, zero, suc, ◌+◌, List, [], ◌∷◌, ◌++◌, length, drop, Bool, true, false, cond, refl, ap, sym, subst, arith, Option, Some, None, ◌⊎◌, inl, inr, codes}
use Rattle.std.proofs.lemmas.Bool.Decides.{Decides-eqb, eqb_tells}
use Rattle.std.proofs.lemmas.Bool.{both_ways}
use Rattle.std.proofs.lemmas.Option.{none-some}
use Rattle.std.proofs.lemmas.Slice.Eq.{starts_is, bytes_eq-Decides}
use Rattle.std.specs.Str.{bytes_eq}
use Rattle.std.specs.Prelude.{All}
use Rattle.std.proofs.lemmas.List.Elements.{All-nil, All-cons}
use Rattle.rec_reader.specs.declared.token.Sign.{Sign}
use Rattle.rec_reader.specs.declared.token.Sign.TheVariants.{RecSpec, Sorts, Cons, Opns, Vars, Rules, Eval, EndSpec, If, AndIf, Joins, Parts, Arrow, Colon, Comma, Open, Close, Equal, Unequal}
use Rattle.rec_reader.specs.Tokens.{is_name_byte, run_length, comment_length, word_of, mark_of, begins}
use Rattle.rec_reader.specs.Cut.{text_of, IsLongestRun, EndsBefore}

-- a list cut in two, the front of this length
pub record Split (n : ℕ) (bytes : List ℕ) : Type 0 where
  pub text : List ℕ
  pub rest : List ℕ
  pub is : bytes ≡ text ++ rest
  pub long : length text ≡ n

pub record Commented (bytes : List ℕ) : Type 0 where
  pub split : Split (comment_length bytes) bytes
  pub within : All (λ b. b ≢ 10) split.text
  pub ends : (split.rest ≡ []) ⊎ ((after : List ℕ) × (split.rest ≡ 10 ∷ after))

pub commented : (bytes : List ℕ) → Commented bytes
commented [] = record { split = record { text = []; rest = []; is = refl; long = refl }; within = All-nil _; ends = inl refl }
commented (b ∷ bs) =
    elim (eqb_tells b 10) [
      | inl h ↦ record {
        split = record { text = []; rest = b ∷ bs; is = refl; long = sym (ap (λ t. cond t 0 (comment_length bs + 1)) h.0) };
        within = All-nil _;
        ends = inr (bs, ap (λ x. x ∷ bs) h.1);
      }
      | inr h ↦
          let c = commented bs in
          record {
            split = record {
              text = b ∷ c.split.text;
              rest = c.split.rest;
              is = ap (λ xs. b ∷ xs) c.split.is;
              long = let n : length (b ∷ c.split.text) ≡ comment_length bs + 1 = omega (arith, c.split.long) in n ∙ sym (ap (λ t. cond t 0 (comment_length bs + 1)) h.0);
            };
            within = All-cons (λ x. x ≢ 10) b c.split.text h.1 c.within;
            ends = c.ends;
          }
    ]

pub record Run (bytes : List ℕ) : Type 0 where
  pub split : Split (run_length bytes) bytes
  pub each : (k : ℕ) → k < length split.text → is_name_byte (drop k (split.text ++ split.rest)) ≡ true
  pub longest : is_name_byte split.rest ≡ false

each_more : (b : ℕ) (text rest : List ℕ) → is_name_byte (b ∷ text ++ rest) ≡ true → ((k : ℕ) → k < length text → is_name_byte (drop k (text ++ rest)) ≡ true) → (k : ℕ) → k < length (b ∷ text) → is_name_byte (drop k (b ∷ text ++ rest)) ≡ true
each_more b text rest first each zero h = first
each_more b text rest first each (suc k) h = each k (omega arith)

pub run_of : (bytes : List ℕ) → Run bytes
run_of [] = record { split = record { text = []; rest = []; is = refl; long = refl }; each = λ k h. absurd (omega (arith, h)); longest = refl }
run_of (b ∷ bs) =
    let by : (t : Bool) → is_name_byte (b ∷ bs) ≡ t → Run (b ∷ bs) = λ t. elim t as (λ v. is_name_byte (b ∷ bs) ≡ v → Run (b ∷ bs)) [
      | true ↦ λ e.
          let r = run_of bs in
          record {
            split = record {
              text = b ∷ r.split.text;
              rest = r.split.rest;
              is = ap (λ xs. b ∷ xs) r.split.is;
              long = let n : length (b ∷ r.split.text) ≡ run_length bs + 1 = omega (arith, r.split.long) in n ∙ sym (ap (λ c. cond c (run_length bs + 1) 0) e);
            };
            each = each_more b r.split.text r.split.rest (sym (ap (λ xs. is_name_byte (b ∷ xs)) r.split.is) ∙ e) r.each;
            longest = r.longest;
          }
      | false ↦ λ e.
          record {
            split = record { text = []; rest = b ∷ bs; is = refl; long = sym (ap (λ c. cond c (run_length bs + 1) 0) e) };
            each = λ k h. absurd (omega (arith, h));
            longest = e;
          }
    ] in by (is_name_byte (b ∷ bs)) refl

-- a mark at the front
pub record Marked (bytes : List ℕ) (m : Sign × ℕ) : Type 0 where
  pub rest : List ℕ
  pub is : bytes ≡ text_of m.0 ++ rest
  pub long : length (text_of m.0) ≡ m.1 + 1
  pub ends : EndsBefore rest m.0

level : {A : Type 0} (P : A → Type 0) (c : Bool) (s : A) (later : Option A) (m : A) → (c ≡ true → P s) → (c ≡ false → later ≡ Some m → P m) → cond c (Some s) later ≡ Some m → P m
level P true s later m first others e = let same : s ≡ m = cc in subst P same (first refl)
level P false s later m first others e = others refl e

front_is : (bytes text : List ℕ) → begins bytes text ≡ true → bytes ≡ text ++ drop (length text) bytes
front_is bytes text h = (starts_is Decides-eqb bytes text _ refl).0 h

arrow_front : (bytes : List ℕ) → begins bytes (codes "-><-") ≡ false → begins bytes (codes "->/<-") ≡ false → begins bytes (codes "->") ≡ true → Marked bytes (Arrow, 1)
arrow_front bytes joins parts h =
    let e = front_is bytes (codes "->") h in
    record {
      rest = drop 2 bytes;
      is = e;
      long = refl;
      ends = (sym (ap (λ bs. begins bs (codes "-><-")) e) ∙ joins, sym (ap (λ bs. begins bs (codes "->/<-")) e) ∙ parts);
    }

pub marked : (bytes : List ℕ) (m : Sign × ℕ) → mark_of bytes ≡ Some m → Marked bytes m
marked bytes m =
    let P : Sign × ℕ → Type 0 = λ m. Marked bytes m in
    level P _ _ _ m (λ h. record { rest = drop 1 bytes; is = front_is bytes (codes ":") h; long = refl; ends = tt }) (λ _.
    level P _ _ _ m (λ h. record { rest = drop 1 bytes; is = front_is bytes (codes ",") h; long = refl; ends = tt }) (λ _.
    level P _ _ _ m (λ h. record { rest = drop 1 bytes; is = front_is bytes (codes "(") h; long = refl; ends = tt }) (λ _.
    level P _ _ _ m (λ h. record { rest = drop 1 bytes; is = front_is bytes (codes ")") h; long = refl; ends = tt }) (λ _.
    level P _ _ _ m (λ h. record { rest = drop 1 bytes; is = front_is bytes (codes "=") h; long = refl; ends = tt }) (λ _.
    level P _ _ _ m (λ h. record { rest = drop 2 bytes; is = front_is bytes (codes "<>") h; long = refl; ends = tt }) (λ _.
    level P _ _ _ m (λ h. record { rest = drop 4 bytes; is = front_is bytes (codes "-><-") h; long = refl; ends = tt }) (λ joins.
    level P _ _ _ m (λ h. record { rest = drop 5 bytes; is = front_is bytes (codes "->/<-") h; long = refl; ends = tt }) (λ parts.
    level P _ _ _ m (λ h. arrow_front bytes joins parts h) (λ _ e. absurd (none-some m e))))))))))

-- the text of a sign is no name
pub no_sign : (sign : Sign) (rest : List ℕ) → word_of (text_of sign) ≡ None → is_name_byte (text_of sign ++ rest) ≡ true → ⊥
no_sign RecSpec rest w n = none-some RecSpec (sym w)
no_sign Sorts rest w n = none-some Sorts (sym w)
no_sign Cons rest w n = none-some Cons (sym w)
no_sign Opns rest w n = none-some Opns (sym w)
no_sign Vars rest w n = none-some Vars (sym w)
no_sign Rules rest w n = none-some Rules (sym w)
no_sign Eval rest w n = none-some Eval (sym w)
no_sign EndSpec rest w n = none-some EndSpec (sym w)
no_sign If rest w n = none-some If (sym w)
no_sign AndIf rest w n = none-some AndIf (sym w)
no_sign Joins rest w n = both_ways false refl n
no_sign Parts rest w n = both_ways false refl n
no_sign Arrow rest w n = both_ways false refl n
no_sign Colon rest w n = both_ways false refl n
no_sign Comma rest w n = both_ways false refl n
no_sign Open rest w n = both_ways false refl n
no_sign Close rest w n = both_ways false refl n
no_sign Equal rest w n = both_ways false refl n
no_sign Unequal rest w n = both_ways false refl n

word_is : (text rest word : List ℕ) → IsLongestRun text rest → bytes_eq text word ≡ true → (text ≡ word) × IsLongestRun word rest
word_is text rest word run h =
    let e : text ≡ word = (bytes_eq-Decides text word).0 h in
    let P : List ℕ → Type 0 = λ t. IsLongestRun t rest in
    (e, subst P e run)

-- a run that is a reserved word has its text
pub word_known : (text rest : List ℕ) (sign : Sign) → IsLongestRun text rest → word_of text ≡ Some sign → (text ≡ text_of sign) × EndsBefore rest sign
word_known text rest sign run =
    let P : Sign → Type 0 = λ s. (text ≡ text_of s) × EndsBefore rest s in
    level P _ _ _ sign (word_is text rest (codes "REC-SPEC") run) (λ _.
    level P _ _ _ sign (word_is text rest (codes "SORTS") run) (λ _.
    level P _ _ _ sign (word_is text rest (codes "CONS") run) (λ _.
    level P _ _ _ sign (word_is text rest (codes "OPNS") run) (λ _.
    level P _ _ _ sign (word_is text rest (codes "VARS") run) (λ _.
    level P _ _ _ sign (word_is text rest (codes "RULES") run) (λ _.
    level P _ _ _ sign (word_is text rest (codes "EVAL") run) (λ _.
    level P _ _ _ sign (word_is text rest (codes "END-SPEC") run) (λ _.
    level P _ _ _ sign (word_is text rest (codes "if") run) (λ _.
    level P _ _ _ sign (word_is text rest (codes "and-if") run) (λ _ e. absurd (none-some sign e)))))))))))
