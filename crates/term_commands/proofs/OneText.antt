-- An input is told in one way, or has one fault.
use Rattle.std.proofs.Common.{◌≡◌, inl, inr, ℕ, List, [], ◌∷◌, ◌++◌, length, Option, refl, sym, ap, subst, ◌∙◌, arith, append_assoc, append-nil}
use Rattle.std.specs.Prelude.{Result, Ok, Err, unwrap_or}
use Rattle.faults.specs.declared.refusal.Refusal.{Refusal}
use Rattle.read_faults.specs.declared.fail.ReadFail.TheVariants as fail
use Rattle.term_model.specs.Tree.{Tree}
use Rattle.symbol_pool.specs.Pool.{Named}
use Rattle.term_syntax.specs.Token.{Token}
use Rattle.term_syntax.specs.Tokens.{tokens_of}
use Rattle.term_syntax.specs.Written.{Written}
use Rattle.term_syntax.specs.TermGrammar.{IsInput, BeginsInput}
use Rattle.term_syntax.specs.Refusal.{IsFirstUnexpected, AreRefused, place_of}
use Rattle.term_syntax.specs.Parts.{taken_up}
use Rattle.term_syntax.specs.TakenUp.{take_input}
use Rattle.term_syntax.specs.Steps.{start}
use Rattle.term_syntax.specs.Reading.{Spells, IsReading}
use Rattle.term_syntax.proofs.Outcome.{Read, outcome}
use Rattle.term_syntax.proofs.Complete.{complete}
use Rattle.term_syntax.proofs.TakingTerms.{taking_input}
use Rattle.term_syntax.proofs.Readings.{only_one, no_refusal}
use Rattle.term_commands.specs.Different.{different}
use Rattle.term_commands.specs.Listing.{IsListed, IsTooMuch, IsTextFault, sizes_line}
use Rattle.tree_text.specs.Canonical.{canonical_lines}

-- ---- two splits of the same tokens are the same, or one is further on
data Splits (b c : List Token) (t u : Token) : Type 0 where
  same : b ≡ c → t ≡ u → Splits b c t u
  sooner : (more : List Token) → c ≡ (b ++ t ∷ []) ++ more → Splits b c t u
  later : (more : List Token) → b ≡ (c ++ u ∷ []) ++ more → Splits b c t u

head_same : (x y : Token) (xs ys : List Token) → x ∷ xs ≡ y ∷ ys → x ≡ y
head_same x y xs ys e = cc

tail_same : (x y : Token) (xs ys : List Token) → x ∷ xs ≡ y ∷ ys → xs ≡ ys
tail_same x y xs ys e = cc

after_head : (x : Token) (b c : List Token) (t u : Token) → Splits b c t u → Splits (x ∷ b) (x ∷ c) t u
after_head x b c t u (same e f) = same (ap (λ ts. x ∷ ts) e) f
after_head x b c t u (sooner more e) = sooner more (ap (λ ts. x ∷ ts) e)
after_head x b c t u (later more e) = later more (ap (λ ts. x ∷ ts) e)

splits : (b c : List Token) (t u : Token) (xs ys : List Token) → b ++ t ∷ xs ≡ c ++ u ∷ ys → Splits b c t u
splits [] [] t u xs ys e = same refl (head_same t u xs ys e)
splits [] (y ∷ c) t u xs ys e = sooner c (ap (λ z. z ∷ c) (sym (head_same t y xs (c ++ u ∷ ys) e)))
splits (x ∷ b) [] t u xs ys e = later b (ap (λ z. z ∷ b) (head_same x u (b ++ t ∷ xs) ys e))
splits (x ∷ b) (y ∷ c) t u xs ys e =
    let h = head_same x y (b ++ t ∷ xs) (c ++ u ∷ ys) e in
    subst (λ z. Splits (x ∷ b) (z ∷ c) t u) h (after_head x b c t u (splits b c t u xs ys (tail_same x y (b ++ t ∷ xs) (c ++ u ∷ ys) e)))

-- ---- the first unexpected token is one
begins_before : (ts more : List Token) → BeginsInput (ts ++ more) → BeginsInput ts
begins_before ts more b = (more ++ b.0, b.1, subst (λ us. IsInput us b.1) (append_assoc ts more b.0) b.2)

by_splits : (ts : List Token) (m n : ℕ) (p : IsFirstUnexpected ts m) (q : IsFirstUnexpected ts n) → Splits p.before q.before p.token q.token → m ≡ n
by_splits ts m n p q (same e f) = p.place ∙ ap place_of f ∙ sym q.place
by_splits ts m n p q (sooner more e) = absurd (p.unexpected (begins_before (p.before ++ p.token ∷ []) more (subst BeginsInput e q.begins)))
by_splits ts m n p q (later more e) = absurd (q.unexpected (begins_before (q.before ++ q.token ∷ []) more (subst BeginsInput e p.begins)))

one_place : (ts : List Token) (m n : ℕ) → IsFirstUnexpected ts m → IsFirstUnexpected ts n → m ≡ n
one_place ts m n p q = by_splits ts m n p q (splits p.before q.before p.token q.token p.after q.after (sym p.is ∙ q.is))

-- tokens that an input goes on from have none
none_unexpected : (ts : List Token) (n : ℕ) → BeginsInput ts → IsFirstUnexpected ts n → ⊥
none_unexpected ts n b p =
    let is : ts ≡ (p.before ++ p.token ∷ []) ++ p.after = p.is ∙ sym (append_assoc p.before (p.token ∷ []) p.after) in
    p.unexpected (begins_before (p.before ++ p.token ∷ []) p.after (subst BeginsInput is b))

-- ---- tokens are refused in one way
same_fault : (f g : Refusal) → f.kind ≡ g.kind → f.place ≡ g.place → f ≡ g
same_fault f g e d = λ i. record { kind = e i; place = d i }

one_refusal : (size : ℕ) (ts : List Token) (f g : Refusal) → AreRefused size ts f.kind f.place → AreRefused size ts g.kind g.place → f ≡ g
one_refusal size ts f g (inl p) (inl q) = same_fault f g (p.0 ∙ sym q.0) (one_place ts f.place g.place p.1 q.1)
one_refusal size ts f g (inl p) (inr q) = absurd (none_unexpected ts f.place q.2.begins p.1)
one_refusal size ts f g (inr p) (inl q) = absurd (none_unexpected ts g.place p.2.begins q.1)
one_refusal size ts f g (inr p) (inr q) = same_fault f g (p.0 ∙ sym q.0) (p.1 ∙ sym q.1)

spelled_not_refused : (size : ℕ) (ts : List Token) (f : Refusal) (ws : List Written) → AreRefused size ts f.kind f.place → IsInput ts ws → ⊥
spelled_not_refused size ts f ws (inl p) h = none_unexpected ts f.place ([], ws, subst (λ us. IsInput us ws) (sym (append-nil ts)) h) p.1
spelled_not_refused size ts f ws (inr p) h = p.2.unended ws h

same_tokens : (r : Result (List Token) Refusal) (ts us : List Token) → r ≡ Ok ts → r ≡ Ok us → ts ≡ us
same_tokens (Ok xs) ts us e d = cc
same_tokens (Err x) ts us e d = cc

never_both : {A : Type 0} (r : Result (List Token) Refusal) (ts : List Token) (f : Refusal) → r ≡ Ok ts → r ≡ Err f → A
never_both (Ok xs) ts f e d = cc
never_both (Err x) ts f e d = cc

same_error : {A : Type 0} (r : Result A Refusal) (f g : Refusal) → r ≡ Err f → r ≡ Err g → f ≡ g
same_error (Ok xs) f g e d = cc
same_error (Err x) f g e d = cc

-- bytes that spell terms take up the same symbols, whichever these terms are
same_taken : (bytes : List ℕ) (ws vs : List Written) → Spells bytes ws → Spells bytes vs → take_input ws [] ≡ take_input vs []
same_taken bytes ws vs s t =
    let tokens = same_tokens (tokens_of bytes) s.tokens t.tokens s.cut t.cut in
    let reads = sym (complete s.spelled) ∙ ap (outcome start) tokens ∙ complete t.spelled in
    let parts = ap (λ (o : Option Read). (unwrap_or o ([], [])).0) reads in
    sym (taking_input ws []) ∙ ap (taken_up []) parts ∙ taking_input vs []

-- ---- of an input
pub one_fault : (input : List ℕ) (f g : Refusal) → IsTextFault input f → IsTextFault input g → f ≡ g
one_fault input f g (inl a) (inl b) = same_error (tokens_of input) f g a b
one_fault input f g (inl a) (inr (inl t)) = never_both (tokens_of input) t.tokens f t.cut a
one_fault input f g (inl a) (inr (inr q)) = never_both (tokens_of input) q.spelled.tokens f q.spelled.cut a
one_fault input f g (inr (inl t)) (inl b) = never_both (tokens_of input) t.tokens g t.cut b
one_fault input f g (inr (inr p)) (inl b) = never_both (tokens_of input) p.spelled.tokens g p.spelled.cut b
one_fault input f g (inr (inl t)) (inr (inl u)) =
    let tokens = same_tokens (tokens_of input) t.tokens u.tokens t.cut u.cut in
    one_refusal (length input) u.tokens f g (subst (λ ts. AreRefused (length input) ts f.kind f.place) tokens t.refused) u.refused
one_fault input f g (inr (inl t)) (inr (inr q)) =
    let tokens = same_tokens (tokens_of input) q.spelled.tokens t.tokens q.spelled.cut t.cut in
    absurd (spelled_not_refused (length input) t.tokens f q.terms t.refused (subst (λ ts. IsInput ts q.terms) tokens q.spelled.spelled))
one_fault input f g (inr (inr p)) (inr (inl u)) =
    let tokens = same_tokens (tokens_of input) p.spelled.tokens u.tokens p.spelled.cut u.cut in
    absurd (spelled_not_refused (length input) u.tokens g p.terms u.refused (subst (λ ts. IsInput ts p.terms) tokens p.spelled.spelled))
one_fault input f g (inr (inr p)) (inr (inr q)) =
    same_error (take_input p.terms []) f g p.refused (same_taken input p.terms q.terms p.spelled q.spelled ∙ q.refused)

-- an input that spells terms has no fault
pub no_fault : (input : List ℕ) (symbols : List Named) (terms : List Tree) (f : Refusal) → IsReading input [] symbols terms → IsTextFault input f → ⊥
no_fault input symbols terms f r bad = let e : fail.Refused f.kind f.place ≡ fail.Memory = no_refusal input [] symbols terms (fail.Refused f.kind f.place) bad r in cc

-- it is told in one way
pub one_text : (rows : ℕ) (input text other : List ℕ) → IsListed rows input text → IsListed rows input other → text ≡ other
one_text rows input text other l m =
    let same = only_one input [] l.symbols m.symbols l.terms m.terms l.read m.read in
    l.text_is ∙ (λ i. canonical_lines (sym same.0 i) (sym same.1 i) ++ sizes_line (sym same.1 i)) ∙ sym m.text_is

-- and where it is told, the rows suffice
pub not_too_much : (rows : ℕ) (input text : List ℕ) → IsListed rows input text → IsTooMuch rows input → ⊥
not_too_much rows input text l m =
    let same = only_one input [] l.symbols m.symbols l.terms m.terms l.read m.read in
    let count = ap different same.1 in
    let fit = l.fit in
    let full = m.full in
    omega (arith, count, fit, full)
