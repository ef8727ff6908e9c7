-- An input spells one specification or has one fault.
use Rattle.std.proofs.Common.{◌≡◌, ◌⊎◌, inl, inr, ℕ, List, [], ◌∷◌, ◌++◌, length, Some, None, refl, sym, ap, subst, ◌∙◌, append_assoc, append-nil}
use Rattle.std.specs.Prelude.{Result, Ok, Err}
use Rattle.std.proofs.lemmas.Option.{same_Some}
use Rattle.rec_reader.specs.declared.token.Token.{Token}
use Rattle.rec_reader.specs.declared.syntax_tree.Specification.{Specification}
use Rattle.rec_reader.specs.Parsed.{Parsed}
use Rattle.rec_reader.specs.Tokens.{tokens_of}
use Rattle.rec_reader.specs.Grammar.{IsInput, BeginsSentence}
use Rattle.rec_reader.specs.Refusal.{IsFirstUnexpected, IsUnended, place_of}
use Rattle.rec_reader.proofs.Verdicts.{only_these}
use Rattle.rec_offences.specs.Faults.{fault_of}
use Rattle.faults.specs.declared.refusal.Refusal.{Refusal}
use Rattle.rec_check.specs.Spelled.{Specified}
use Rattle.rec_check.specs.Run.{spelled_in}
use Rattle.rec_answers.specs.Rewritten.{IsRead, Spells, IsTokenFault, IsSpecificationFault}

-- ---- tokens
same_tokens : (r : Result (List Token) ℕ) (ts us : List Token) → r ≡ Ok ts → r ≡ Ok us → ts ≡ us
same_tokens (Ok xs) ts us e f = cc
same_tokens (Err x) ts us e f = cc

never_both : {A : Type 0} (r : Result (List Token) ℕ) (ts : List Token) (n : ℕ) → r ≡ Ok ts → r ≡ Err n → A
never_both (Ok xs) ts n e f = cc
never_both (Err x) ts n e f = cc

same_byte : (r : Result (List Token) ℕ) (m n : ℕ) → r ≡ Err m → r ≡ Err n → m ≡ n
same_byte (Ok xs) m n e f = cc
same_byte (Err x) m n e f = cc

-- ---- fronts of a sentence
begins_before : (ts more : List Token) → BeginsSentence (ts ++ more) → BeginsSentence ts
begins_before ts more b = (more ++ b.0, b.1, subst (λ us. IsInput us b.1) (append_assoc ts more b.0) b.2)

sentence_begins : (ts : List Token) (ss : List Specification) → IsInput ts ss → BeginsSentence ts
sentence_begins ts ss h = ([], ss, subst (λ us. IsInput us ss) (sym (append-nil ts)) h)

-- two splits of the same tokens are the same, or one is further on
data Splits (b c : List Token) (t u : Token) : Type 0 where
  same : b ≡ c → t ≡ u → Splits b c t u
  sooner : (more : List Token) → c ≡ (b ++ t ∷ []) ++ more → Splits b c t u
  later : (more : List Token) → b ≡ (c ++ u ∷ []) ++ more → Splits b c t u

head_same : (x y : Token) (xs ys : List Token) → x ∷ xs ≡ y ∷ ys → x ≡ y
head_same x y xs ys e = cc

tail_same : (x y : Token) (xs ys : List Token) → x ∷ xs ≡ y ∷ ys → xs ≡ ys
tail_same x y xs ys e = cc

after_head : (x : Token) (b c : List Token) (t u : Token) → Splits b c t u → Splits (x ∷ b) (x ∷ c) t u
after_head x b c t u (same e f) = same (ap (λ ts. x ∷ ts) e) f
after_head x b c t u (sooner more e) = sooner more (ap (λ ts. x ∷ ts) e)
after_head x b c t u (later more e) = later more (ap (λ ts. x ∷ ts) e)

splits : (b c : List Token) (t u : Token) (xs ys : List Token) → b ++ t ∷ xs ≡ c ++ u ∷ ys → Splits b c t u
splits [] [] t u xs ys e = same refl (head_same t u xs ys e)
splits [] (y ∷ c) t u xs ys e = sooner c (ap (λ z. z ∷ c) (sym (head_same t y xs (c ++ u ∷ ys) e)))
splits (x ∷ b) [] t u xs ys e = later b (ap (λ z. z ∷ b) (head_same x u (b ++ t ∷ xs) ys e))
splits (x ∷ b) (y ∷ c) t u xs ys e =
    let h = head_same x y (b ++ t ∷ xs) (c ++ u ∷ ys) e in
    subst (λ z. Splits (x ∷ b) (z ∷ c) t u) h (after_head x b c t u (splits b c t u xs ys (tail_same x y (b ++ t ∷ xs) (c ++ u ∷ ys) e)))

-- the first unexpected token is one
by_splits : (ts : List Token) (m n : ℕ) (p : IsFirstUnexpected ts m) (q : IsFirstUnexpected ts n) → Splits p.before q.before p.token q.token → m ≡ n
by_splits ts m n p q (same e f) = p.place ∙ ap place_of f ∙ sym q.place
by_splits ts m n p q (sooner more e) = absurd (p.unexpected (begins_before (p.before ++ p.token ∷ []) more (subst BeginsSentence e q.begins)))
by_splits ts m n p q (later more e) = absurd (q.unexpected (begins_before (q.before ++ q.token ∷ []) more (subst BeginsSentence e p.begins)))

one_place : (ts : List Token) (m n : ℕ) → IsFirstUnexpected ts m → IsFirstUnexpected ts n → m ≡ n
one_place ts m n p q = by_splits ts m n p q (splits p.before q.before p.token q.token p.after q.after (sym p.is ∙ q.is))

-- tokens of which each front begins a sentence have no unexpected one
none_unexpected : (ts : List Token) (n : ℕ) → BeginsSentence ts → IsFirstUnexpected ts n → ⊥
none_unexpected ts n b p =
    let is : ts ≡ (p.before ++ p.token ∷ []) ++ p.after = p.is ∙ sym (append_assoc p.before (p.token ∷ []) p.after) in
    p.unexpected (begins_before (p.before ++ p.token ∷ []) p.after (subst BeginsSentence is b))

-- ---- refusals
abbrev IsTokenRefusal : List ℕ → List Token → Refusal → Type 0
IsTokenRefusal input ts f =
    ((f.kind ≡ 2) × IsFirstUnexpected ts f.place)
    ⊎ ((f.kind ≡ 3) × (f.place ≡ length input) × IsUnended ts)

pub same_fault : (f g : Refusal) → f.kind ≡ g.kind → f.place ≡ g.place → f ≡ g
same_fault f g e d =
    let middle : Refusal = record { kind = g.kind; place = f.place } in
    let first : f ≡ middle = ap (λ k. let z : Refusal = record { kind = k; place = f.place } in z) e in
    let second : middle ≡ g = ap (λ o. let z : Refusal = record { kind = g.kind; place = o } in z) d in
    first ∙ second

one_refusal : (input : List ℕ) (ts : List Token) (f g : Refusal) → IsTokenRefusal input ts f → IsTokenRefusal input ts g → f ≡ g
one_refusal input ts f g (inl p) (inl q) = same_fault f g (p.0 ∙ sym q.0) (one_place ts f.place g.place p.1 q.1)
one_refusal input ts f g (inl p) (inr q) = absurd (none_unexpected ts f.place q.2.begins p.1)
one_refusal input ts f g (inr p) (inl q) = absurd (none_unexpected ts g.place p.2.begins q.1)
one_refusal input ts f g (inr p) (inr q) = same_fault f g (p.0 ∙ sym q.0) (p.1 ∙ sym q.1)

no_refusal : (input : List ℕ) (ts : List Token) (ss : List Specification) (f : Refusal) → IsInput ts ss → IsTokenRefusal input ts f → ⊥
no_refusal input ts ss f h (inl p) = none_unexpected ts f.place (sentence_begins ts ss h) p.1
no_refusal input ts ss f h (inr p) = p.2.unended ss h

-- ---- syntaxes
same_parsed : (a b : Parsed) → a.bytes ≡ b.bytes → a.specifications ≡ b.specifications → a ≡ b
same_parsed a b e f =
    let middle : Parsed = record { bytes = b.bytes; specifications = a.specifications } in
    let first : a ≡ middle = ap (λ bs. let z : Parsed = record { bytes = bs; specifications = a.specifications } in z) e in
    let second : middle ≡ b = ap (λ ss. let z : Parsed = record { bytes = b.bytes; specifications = ss } in z) f in
    first ∙ second

pub one_syntax : (input : List ℕ) (a b : Parsed) → IsRead input a → IsRead input b → a ≡ b
one_syntax input a b p q =
    let ts : p.tokens ≡ q.tokens = same_tokens (tokens_of input) p.tokens q.tokens p.cut q.cut in
    same_parsed a b (p.bytes ∙ sym q.bytes)
    (only_these q.tokens b.specifications a.specifications q.sentence (subst (λ us. IsInput us a.specifications) ts p.sentence))

-- ---- the verdict on an input
pub one_specification : (input : List ℕ) (a b : Specified) → Spells input a → Spells input b → a ≡ b
one_specification input a b p q = same_Some a b (sym p.spec_is ∙ ap spelled_in (one_syntax input p.syntax q.syntax p.read q.read) ∙ q.spec_is)

faulty : (syntax other : Parsed) (o : Refusal) → syntax ≡ other → fault_of syntax ≡ None → fault_of other ≡ Some o → ⊥
faulty syntax other o e n s = let none : None ≡ Some o = sym n ∙ ap fault_of e ∙ s in cc

pub none_of_faultless : (input : List ℕ) (syntax : Parsed) (f : Refusal) → IsRead input syntax → fault_of syntax ≡ None → IsSpecificationFault input f → ⊥
none_of_faultless input syntax f read none (inl b) = never_both (tokens_of input) read.tokens f.place read.cut b.place
none_of_faultless input syntax f read none (inr (inl t)) =
    let ts : read.tokens ≡ t.tokens = same_tokens (tokens_of input) read.tokens t.tokens read.cut t.cut in
    no_refusal input t.tokens syntax.specifications f (subst (λ us. IsInput us syntax.specifications) ts read.sentence) t.refusal
none_of_faultless input syntax f read none (inr (inr o)) = faulty syntax o.syntax _ (one_syntax input syntax o.syntax read o.read) none o.first

pub no_fault : (input : List ℕ) (spec : Specified) (f : Refusal) → Spells input spec → IsSpecificationFault input f → ⊥
no_fault input spec f p fault = none_of_faultless input p.syntax f p.read p.faultless fault

-- a sentence has no refusal
sentence_refused : {A : Type 0} (input : List ℕ) (f : Refusal) (t : IsTokenFault input f) (syntax : Parsed) → IsRead input syntax → A
sentence_refused input f t syntax r =
    let ts : r.tokens ≡ t.tokens = same_tokens (tokens_of input) r.tokens t.tokens r.cut t.cut in
    absurd (no_refusal input t.tokens syntax.specifications f (subst (λ us. IsInput us syntax.specifications) ts r.sentence) t.refusal)

pub one_fault : (input : List ℕ) (f g : Refusal) → IsSpecificationFault input f → IsSpecificationFault input g → f ≡ g
one_fault input f g (inl a) (inl b) = same_fault f g (a.kind ∙ sym b.kind) (same_byte (tokens_of input) f.place g.place a.place b.place)
one_fault input f g (inl a) (inr (inl t)) = never_both (tokens_of input) t.tokens f.place t.cut a.place
one_fault input f g (inl a) (inr (inr o)) = never_both (tokens_of input) o.read.tokens f.place o.read.cut a.place
one_fault input f g (inr (inl t)) (inl b) = never_both (tokens_of input) t.tokens g.place t.cut b.place
one_fault input f g (inr (inl t)) (inr (inl u)) =
    let ts : t.tokens ≡ u.tokens = same_tokens (tokens_of input) t.tokens u.tokens t.cut u.cut in
    one_refusal input u.tokens f g (subst (λ us. IsTokenRefusal input us f) ts t.refusal) u.refusal
one_fault input f g (inr (inl t)) (inr (inr o)) = sentence_refused input f t o.syntax o.read
one_fault input f g (inr (inr o)) (inl b) = never_both (tokens_of input) o.read.tokens g.place o.read.cut b.place
one_fault input f g (inr (inr o)) (inr (inl t)) = sentence_refused input g t o.syntax o.read
one_fault input f g (inr (inr o)) (inr (inr q)) =
    let a : Refusal = record { kind = f.kind; place = f.place } in
    let b : Refusal = record { kind = g.kind; place = g.place } in
    let same : a ≡ b = same_Some a b (sym o.first ∙ ap fault_of (one_syntax input o.syntax q.syntax o.read q.read) ∙ q.first) in
    same_fault f g (ap (λ (x : Refusal). x.kind) same) (ap (λ (x : Refusal). x.place) same)
