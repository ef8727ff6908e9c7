-- The steps of the loops of the reader: one more is read, or the first fault ends the loop.
use Rattle.std.proofs.Common.{◌≡◌, ℕ, suc, ◌-◌, Bool, true, false, List, length, Result, Ok, Err, sym, ap, subst, ◌∙◌}
use Rattle.faults.specs.declared.refusal.Refusal.{Refusal}
use Rattle.read_faults.specs.declared.fail.ReadFail.{ReadFail}
use Rattle.read_faults.specs.declared.fail.ReadFail.TheVariants.{Refused, Memory}
use Rattle.symbol_pool.specs.Pool.{Named}
use Rattle.read_faults.specs.Fault.{IsDue, fault}
use Rattle.term_file.specs.Contents.{Record}
use Rattle.term_file.specs.Right.{may_be_argument}
use Rattle.term_file.specs.Reading.{◌>>=◌, checked, number_where, symbol_at, symbols_at, Body, arguments_at, Records, record_at, records_at, Roots, may_be_root, with_root, roots_at}
use Rattle.term_file.proofs.RecordFields.{one_more}

-- want of memory needs no cause
pub memory_due : {A : Type 0} (due : Result A Refusal) (e : ReadFail) → e ≡ Memory → IsDue due e
memory_due due e is = subst (λ (f : ReadFail). IsDue due f) (sym is) tt

-- a fault of the first step is that of all
pub first_due : {A B : Type 0} (r : Result A Refusal) (f : A → Result B Refusal) (e : ReadFail) → IsDue r e → IsDue (r >>= f) e
first_due r f Memory h = tt
first_due r f (Refused kind offset) h = ap (λ q. q >>= f) h

pub same_due : {A : Type 0} (r q : Result A Refusal) (e : ReadFail) → r ≡ q → IsDue r e → IsDue q e
same_due r q Memory same h = tt
same_due r q (Refused kind offset) same h = sym same ∙ h

pub bad_due : {A : Type 0} (due : Result A Refusal) (e : ReadFail) (kind place : ℕ) → e ≡ Refused kind place → due ≡ Err (fault kind place) → IsDue due e
bad_due due e kind place is h = subst (λ (f : ReadFail). IsDue due f) (sym is) h

-- a rule that was broken is broken for each value
pub checked_due : {A B : Type 0} (total : ℕ) (bytes : List ℕ) (rule : Bool) (x : A) (y : B) (e : ReadFail) → IsDue (checked total bytes rule x) e → IsDue (checked total bytes rule y) e
checked_due total bytes rule x y Memory h = tt
checked_due total bytes true x y (Refused kind place) h = absurd cc
checked_due total bytes false x y (Refused kind place) h = let same : fault 18 (total - length bytes) ≡ fault kind place = cc in ap Err same

-- ---- symbols

pub symbols_end : (total n m : ℕ) (before : List Named) (bytes : List ℕ) (whole : Result (List Named × List ℕ) Refusal) (e : ReadFail) → n ≡ suc m → symbols_at total n before bytes ≡ whole → IsDue (symbol_at total before bytes) e → IsDue whole e
unfolding symbols_at
symbols_end total n m before bytes whole e is so_far h =
    same_due (symbols_at total (suc m) before bytes) whole e (ap (λ k. symbols_at total k before bytes) (sym is) ∙ so_far)
    (first_due (symbol_at total before bytes) (λ s. symbols_at total m s.0 s.1) e h)

pub symbols_on : (total n m : ℕ) (before after : List Named) (bytes rest : List ℕ) (whole : Result (List Named × List ℕ) Refusal) → n ≡ suc m → symbols_at total n before bytes ≡ whole → symbol_at total before bytes ≡ Ok (after, rest) → symbols_at total m after rest ≡ whole
unfolding symbols_at
symbols_on total n m before after bytes rest whole is so_far h =
    sym (ap (λ (r : Result (List Named × List ℕ) Refusal). r >>= λ s. symbols_at total m s.0 s.1) h)
    ∙ ap (λ k. symbols_at total k before bytes) (sym is) ∙ so_far

pub symbols_done : (total n : ℕ) (before : List Named) (bytes : List ℕ) (whole : Result (List Named × List ℕ) Refusal) → n ≡ 0 → symbols_at total n before bytes ≡ whole → whole ≡ Ok (before, bytes)
unfolding symbols_at
symbols_done total n before bytes whole is so_far = sym so_far ∙ ap (λ k. symbols_at total k before bytes) is

-- ---- arguments

pub arguments_end : (total n m : ℕ) (before : List Record) (b : Body) (whole : Result Body Refusal) (e : ReadFail) → n ≡ suc m → arguments_at total before n b ≡ whole → IsDue (number_where total 4 (may_be_argument before b.head m) b.rest) e → IsDue whole e
unfolding arguments_at
arguments_end total n m before b whole e is so_far h =
    same_due (arguments_at total before (suc m) b) whole e (ap (λ k. arguments_at total before k b) (sym is) ∙ so_far)
    (first_due (number_where total 4 (may_be_argument before b.head m) b.rest) (λ i. arguments_at total before m (one_more b i)) e h)

pub arguments_on : (total n m : ℕ) (before : List Record) (b : Body) (i : ℕ) (rest : List ℕ) (whole : Result Body Refusal) → n ≡ suc m → arguments_at total before n b ≡ whole → number_where total 4 (may_be_argument before b.head m) b.rest ≡ Ok (i, rest) → arguments_at total before m (one_more b (i, rest)) ≡ whole
unfolding arguments_at
arguments_on total n m before b i rest whole is so_far h =
    sym (ap (λ (r : Result (ℕ × List ℕ) Refusal). r >>= λ j. arguments_at total before m (one_more b j)) h)
    ∙ ap (λ k. arguments_at total before k b) (sym is) ∙ so_far

pub arguments_done : (total n : ℕ) (before : List Record) (b : Body) (whole : Result Body Refusal) → n ≡ 0 → arguments_at total before n b ≡ whole → whole ≡ Ok b
unfolding arguments_at
arguments_done total n before b whole is so_far = sym so_far ∙ ap (λ k. arguments_at total before k b) is

-- ---- records

pub records_end : (total : ℕ) (symbols : List Named) (n m : ℕ) (before : Records) (bytes : List ℕ) (whole : Result (Records × List ℕ) Refusal) (e : ReadFail) → n ≡ suc m → records_at total symbols n before bytes ≡ whole → IsDue (record_at total symbols before bytes) e → IsDue whole e
unfolding records_at
records_end total symbols n m before bytes whole e is so_far h =
    same_due (records_at total symbols (suc m) before bytes) whole e (ap (λ k. records_at total symbols k before bytes) (sym is) ∙ so_far)
    (first_due (record_at total symbols before bytes) (λ r. records_at total symbols m r.0 r.1) e h)

pub records_on : (total : ℕ) (symbols : List Named) (n m : ℕ) (before after : Records) (bytes rest : List ℕ) (whole : Result (Records × List ℕ) Refusal) → n ≡ suc m → records_at total symbols n before bytes ≡ whole → record_at total symbols before bytes ≡ Ok (after, rest) → records_at total symbols m after rest ≡ whole
unfolding records_at
records_on total symbols n m before after bytes rest whole is so_far h =
    sym (ap (λ (q : Result (Records × List ℕ) Refusal). q >>= λ r. records_at total symbols m r.0 r.1) h)
    ∙ ap (λ k. records_at total symbols k before bytes) (sym is) ∙ so_far

pub records_done : (total : ℕ) (symbols : List Named) (n : ℕ) (before : Records) (bytes : List ℕ) (whole : Result (Records × List ℕ) Refusal) → n ≡ 0 → records_at total symbols n before bytes ≡ whole → whole ≡ Ok (before, bytes)
unfolding records_at
records_done total symbols n before bytes whole is so_far = sym so_far ∙ ap (λ k. records_at total symbols k before bytes) is

-- ---- roots

pub roots_end : (total : ℕ) (visits : List (List ℕ)) (n m : ℕ) (before : Roots) (bytes : List ℕ) (whole : Result (Roots × List ℕ) Refusal) (e : ReadFail) → n ≡ suc m → roots_at total visits n before bytes ≡ whole → IsDue (number_where total 4 (may_be_root visits before.visited) bytes) e → IsDue whole e
unfolding roots_at
roots_end total visits n m before bytes whole e is so_far h =
    same_due (roots_at total visits (suc m) before bytes) whole e (ap (λ k. roots_at total visits k before bytes) (sym is) ∙ so_far)
    (first_due (number_where total 4 (may_be_root visits before.visited) bytes) (λ r. roots_at total visits m (with_root visits before r.0) r.1) e h)

pub roots_on : (total : ℕ) (visits : List (List ℕ)) (n m : ℕ) (before : Roots) (r : ℕ) (bytes rest : List ℕ) (whole : Result (Roots × List ℕ) Refusal) → n ≡ suc m → roots_at total visits n before bytes ≡ whole → number_where total 4 (may_be_root visits before.visited) bytes ≡ Ok (r, rest) → roots_at total visits m (with_root visits before r) rest ≡ whole
unfolding roots_at
roots_on total visits n m before r bytes rest whole is so_far h =
    sym (ap (λ (q : Result (ℕ × List ℕ) Refusal). q >>= λ s. roots_at total visits m (with_root visits before s.0) s.1) h)
    ∙ ap (λ k. roots_at total visits k before bytes) (sym is) ∙ so_far

pub roots_done : (total : ℕ) (visits : List (List ℕ)) (n : ℕ) (before : Roots) (bytes : List ℕ) (whole : Result (Roots × List ℕ) Refusal) → n ≡ 0 → roots_at total visits n before bytes ≡ whole → whole ≡ Ok (before, bytes)
unfolding roots_at
roots_done total visits n before bytes whole is so_far = sym so_far ∙ ap (λ k. roots_at total visits k before bytes) is
