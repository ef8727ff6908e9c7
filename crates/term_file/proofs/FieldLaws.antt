-- A field that is read is the field that was written, and what was written is read again.
use Rattle.std.proofs.Common.{◌≡◌, ℕ, ◌+◌, ◌*◌, ◌%◌, ◌^◌, ◌<◌, ◌≤◌, Bool, true, false, cond, ltb, List, [], ◌∷◌, ◌++◌, length, get_or, take, drop, Result, Ok, Err, refl, sym, ap, subst, ◌∙◌, append_assoc, arith, inl, inr}
use Rattle.std.proofs.Math.Nat.{mod-eq_of_lt}
use Rattle.std.proofs.lemmas.Bool.{cases_lt, ltb-false, le-ltb}
use Rattle.std.proofs.lemmas.List.{take_at, drop_at, take-append-drop, length-append, length-take, get_or-drop, get_or-take, get_or_past}
use Rattle.std.proofs.lemmas.Nat.{be_bytes_4, be_bytes_8}
use Rattle.byteorder.specs.Endian.{big_bytes, big_number}
use Rattle.byteorder.specs.Numbers.{big_from-lt, big_from-take, big_number-reads_back, length-bytes_high_first}
use Rattle.faults.specs.declared.refusal.Refusal.{Refusal}
use Rattle.read_faults.specs.Fault.{fault}
use Rattle.term_file.specs.Reading.{◌>>=◌, checked, text_at, number_at, text_where, number_where}

abbrev pub IsBytes : List ℕ → Type 0
IsBytes bytes = (i : ℕ) → get_or bytes i 0 < 256

pub IsBytes-drop : (n : ℕ) (bytes : List ℕ) → IsBytes bytes → IsBytes (drop n bytes)
IsBytes-drop n bytes h i = rw get_or-drop (h (n + i))

pub IsBytes-take : (n : ℕ) (bytes : List ℕ) → IsBytes bytes → IsBytes (take n bytes)
IsBytes-take n bytes h i =
    elim (cases_lt i n) [
      | inl lt ↦ rw (get_or-take n bytes i 0 lt) (h i)
      | inr le ↦ rw (get_or_past (take n bytes) i 0 (omega (arith, length-take n bytes))) (omega arith)
    ]

-- the value of a step that did not fail
pub bind_ok : {A B : Type 0} (r : Result A Refusal) (f : A → Result B Refusal) (y : B) → (r >>= f) ≡ Ok y → (x : A) × (r ≡ Ok x) × (f x ≡ Ok y)
bind_ok (Ok x) f y e = (x, refl, e)
bind_ok (Err d) f y e = absurd cc

-- a test that did not fail
pub guard_ok : {A : Type 0} (b : Bool) (d : Refusal) (x y : A) → cond b (Err d) (Ok x) ≡ Ok y → (b ≡ false) × (x ≡ y)
guard_ok true d x y e = absurd cc
guard_ok false d x y e = (refl, cc)

-- a rule that was kept
pub checked_ok : {A : Type 0} (total : ℕ) (bytes : List ℕ) (rule : Bool) (x y : A) → checked total bytes rule x ≡ Ok y → (rule ≡ true) × (x ≡ y)
checked_ok total bytes true x y e = (refl, cc)
checked_ok total bytes false x y e = absurd cc

abbrev done : {A : Type 0} → A → Result A Refusal
done x = Ok x

pub ok_is : {A : Type 0} (x y : A) → done x ≡ done y → x ≡ y
ok_is x y e = cc

-- what a reader took from the front
pub record Takes (bytes text rest : List ℕ) : Type 0 where
  pub parts : bytes ≡ text ++ rest
  pub rest_fits : IsBytes rest

pub Takes-then : (a x b y c : List ℕ) → Takes a x b → Takes b y c → Takes a (x ++ y) c
Takes-then a x b y c p q = record {
  parts = p.parts ∙ ap (λ (t : List ℕ). x ++ t) q.parts ∙ sym (append_assoc x y c);
  rest_fits = q.rest_fits;
}

pub Takes-none : (a : List ℕ) → IsBytes a → Takes a [] a
Takes-none a fits = record { parts = refl; rest_fits = fits }

-- the bytes of a number that n bytes spell are these bytes
pub record IsWide (n : ℕ) : Type 0 where
  pub back : (bytes : List ℕ) → length bytes ≡ n → IsBytes bytes → big_bytes n (big_number n bytes) ≡ bytes

back_one : (bytes : List ℕ) → length bytes ≡ 1 → IsBytes bytes → big_bytes 1 (big_number 1 bytes) ≡ bytes
back_one [] len fits = absurd (omega arith)
back_one (b ∷ []) len fits =
    let e : b * 1 + 0 ≡ b = omega arith in
    let m : b % 256 ≡ b = mod-eq_of_lt (fits 0) in
    ap (λ (x : ℕ). x % 256 ∷ []) e ∙ ap (λ (x : ℕ). x ∷ []) m
back_one (b ∷ c ∷ bs) len fits = absurd (omega arith)

pub wide1 : IsWide 1
wide1 = record { back = back_one }

pub wide4 : IsWide 4
wide4 = record { back = λ bytes len fits. be_bytes_4 bytes (big_number 4 bytes) len fits (omega arith) }

pub wide8 : IsWide 8
wide8 = record { back = λ bytes len fits. be_bytes_8 bytes (big_number 8 bytes) len fits (omega arith) }

-- a number that was read
pub record NumberTaken (n : ℕ) (rule : ℕ → Bool) (bytes : List ℕ) (x : ℕ × List ℕ) : Type 0 where
  pub takes : Takes bytes (big_bytes n x.0) x.1
  pub below : x.0 < 256 ^ n
  pub kept : rule x.0 ≡ true

pub number_takes : (total n : ℕ) → IsWide n → (bytes : List ℕ) (x : ℕ × List ℕ) → IsBytes bytes → number_at total n bytes ≡ Ok x → NumberTaken n (λ k. true) bytes x
number_takes total n wide bytes x fits e =
    let g = guard_ok (ltb (length bytes) n) (fault 3 total) (big_number n bytes, drop n bytes) x e in
    let long : n ≤ length bytes = ltb-false _ _ g.0 in
    let same : big_number n (take n bytes) ≡ big_number n bytes = big_from-take 0 n n bytes (omega arith) in
    let front : big_bytes n (big_number n bytes) ≡ take n bytes =
    ap (big_bytes n) (sym same) ∙ wide.back (take n bytes) (omega (arith, length-take n bytes)) (IsBytes-take n bytes fits) in
    let taken : NumberTaken n (λ k. true) bytes (big_number n bytes, drop n bytes) = record {
      takes = record {
        parts = sym (take-append-drop n bytes) ∙ ap (λ (t : List ℕ). t ++ drop n bytes) (sym front);
        rest_fits = IsBytes-drop n bytes fits;
      };
      below = big_from-lt 0 n bytes fits;
      kept = refl;
    } in
    subst (λ (y : ℕ × List ℕ). NumberTaken n (λ k. true) bytes y) g.1 taken

pub number_where_takes : (total n : ℕ) → IsWide n → (rule : ℕ → Bool) (bytes : List ℕ) (x : ℕ × List ℕ) → IsBytes bytes → number_where total n rule bytes ≡ Ok x → NumberTaken n rule bytes x
unfolding number_where
number_where_takes total n wide rule bytes x fits e =
    let a = bind_ok (number_at total n bytes) (λ x. checked total bytes (rule x.0) x) x e in
    let c = checked_ok total bytes (rule a.0.0) a.0 x a.2 in
    let t = number_takes total n wide bytes a.0 fits a.1 in
    let taken : NumberTaken n rule bytes a.0 = record { takes = t.takes; below = t.below; kept = c.0 } in
    subst (λ (y : ℕ × List ℕ). NumberTaken n rule bytes y) c.1 taken

pub number_again : (total n x : ℕ) (rest : List ℕ) → x < 256 ^ n → number_at total n (big_bytes n x ++ rest) ≡ Ok (x, rest)
number_again total n x rest lt =
    let len = length-bytes_high_first n x in
    let long : ltb (length (big_bytes n x ++ rest)) n ≡ false = le-ltb _ _ (omega (arith, length-append (big_bytes n x) rest)) in
    rw (long, big_number-reads_back n x rest lt, drop_at (big_bytes n x) rest n len) refl

pub number_where_again : (total n : ℕ) (rule : ℕ → Bool) (x : ℕ) (rest : List ℕ) → x < 256 ^ n → rule x ≡ true → number_where total n rule (big_bytes n x ++ rest) ≡ Ok (x, rest)
unfolding number_where
number_where_again total n rule x rest lt kept =
    ap (λ (r : Result (ℕ × List ℕ) Refusal). r >>= λ y. checked total (big_bytes n x ++ rest) (rule y.0) y) (number_again total n x rest lt)
    ∙ ap (λ (b : Bool). checked total (big_bytes n x ++ rest) b (x, rest)) kept

-- a text that was read
pub record TextTaken (n : ℕ) (rule : List ℕ → Bool) (bytes : List ℕ) (x : List ℕ × List ℕ) : Type 0 where
  pub takes : Takes bytes x.0 x.1
  pub size : length x.0 ≡ n
  pub kept : rule x.0 ≡ true

text_takes : (total n : ℕ) (bytes : List ℕ) (x : List ℕ × List ℕ) → IsBytes bytes → text_at total n bytes ≡ Ok x → TextTaken n (λ t. true) bytes x
text_takes total n bytes x fits e =
    let g = guard_ok (ltb (length bytes) n) (fault 3 total) (take n bytes, drop n bytes) x e in
    let long : n ≤ length bytes = ltb-false _ _ g.0 in
    let taken : TextTaken n (λ t. true) bytes (take n bytes, drop n bytes) = record {
      takes = record { parts = sym (take-append-drop n bytes); rest_fits = IsBytes-drop n bytes fits };
      size = omega (arith, length-take n bytes);
      kept = refl;
    } in
    subst (λ (y : List ℕ × List ℕ). TextTaken n (λ t. true) bytes y) g.1 taken

pub text_where_takes : (total n : ℕ) (rule : List ℕ → Bool) (bytes : List ℕ) (x : List ℕ × List ℕ) → IsBytes bytes → text_where total n rule bytes ≡ Ok x → TextTaken n rule bytes x
unfolding text_where
text_where_takes total n rule bytes x fits e =
    let a = bind_ok (text_at total n bytes) (λ t. checked total bytes (rule t.0) t) x e in
    let c = checked_ok total bytes (rule a.0.0) a.0 x a.2 in
    let t = text_takes total n bytes a.0 fits a.1 in
    let taken : TextTaken n rule bytes a.0 = record { takes = t.takes; size = t.size; kept = c.0 } in
    subst (λ (y : List ℕ × List ℕ). TextTaken n rule bytes y) c.1 taken

text_again : (total n : ℕ) (text rest : List ℕ) → length text ≡ n → text_at total n (text ++ rest) ≡ Ok (text, rest)
text_again total n text rest len =
    let long : ltb (length (text ++ rest)) n ≡ false = le-ltb _ _ (omega (arith, length-append text rest)) in
    rw (long, take_at text rest n len, drop_at text rest n len) refl

pub text_where_again : (total n : ℕ) (rule : List ℕ → Bool) (text rest : List ℕ) → length text ≡ n → rule text ≡ true → text_where total n rule (text ++ rest) ≡ Ok (text, rest)
unfolding text_where
text_where_again total n rule text rest len kept =
    ap (λ (r : Result (List ℕ × List ℕ) Refusal). r >>= λ t. checked total (text ++ rest) (rule t.0) t) (text_again total n text rest len)
    ∙ ap (λ (b : Bool). checked total (text ++ rest) b (text, rest)) kept

-- a number that was read, and its rule
pub where_is : (total n : ℕ) (rule : ℕ → Bool) (bytes : List ℕ) (x : ℕ × List ℕ) (b : Bool) → number_at total n bytes ≡ Ok x → rule x.0 ≡ b → number_where total n rule bytes ≡ checked total bytes b x
unfolding number_where
where_is total n rule bytes x b e kept =
    ap (λ (r : Result (ℕ × List ℕ) Refusal). r >>= λ y. checked total bytes (rule y.0) y) e
    ∙ ap (λ (q : Bool). checked total bytes q x) kept
