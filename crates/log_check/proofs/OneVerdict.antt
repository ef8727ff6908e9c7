-- A log has one verdict, and it is good exactly where that is Legal.
use Rattle.std.proofs.Common.{◌≡◌, ℕ, zero, suc, ◌+◌, ◌-◌, ◌<◌, ◌≤◌, Bool, true, false, List, [], ◌∷◌, ◌++◌, length, map, take, drop, get_or, Option, Some, None, Result, Ok, Err, refl, sym, ap, ◌∙◌, subst, arith, ◌⊎◌, inl, inr, append_assoc, ne_eqb}
use Rattle.std.specs.Prelude.{if◌then◌else◌, ◌==◌, ◌&&◌, nat_lt, option_and_then}
use Rattle.std.specs.List.{AllByRecursion}
use Rattle.std.proofs.lemmas.Bool.{cases_eq, cases_lt, cond-true, cond-false, eq-eqb}
use Rattle.std.proofs.lemmas.Bool.Decides.{nat_tests}
use Rattle.std.proofs.lemmas.List.{take-append-drop}
use Rattle.std.proofs.lemmas.Option.{option_and_then_some, same_Some}
use Rattle.history_core.specs.declared.entry.Entry.{Entry}
use Rattle.history_core.specs.TermSet.{empty}
use Rattle.history_core.specs.Entry.{key, is_numbered}
use Rattle.history_core.specs.Chronicle.{History, IsLegal, IsGood, KeysRise, part_of}
use Rattle.history_core.specs.Table.{IsLegalUpTo}
use Rattle.history_core.proofs.Growing.{legal_parts}
use Rattle.history_core.proofs.Only.{only_one}
use Rattle.log_check.specs.declared.form.LogLine.{LogLine}
use Rattle.log_check.specs.declared.form.LogLine.TheVariants as line
use Rattle.log_check.specs.declared.log.Stage.TheVariants.{Inside, After}
use Rattle.log_check.specs.declared.log.Noted.{Noted}
use Rattle.log_check.specs.declared.verdict.LogVerdict.{LogVerdict}
use Rattle.log_check.specs.declared.verdict.LogVerdict.TheVariants.{Legal, Illegal}
use Rattle.log_check.specs.Words.{lines, words_after}
use Rattle.log_check.specs.Form.{is_marked, line_in}
use Rattle.log_check.specs.Log.{Log, at_start, is_before, is_inside, is_after, placed, taken, go_on, come, log_in}
use Rattle.log_check.specs.Filed.{IsFiled}
use Rattle.log_check.specs.Verdict.{history, line_of, own, lists_of, Rises, IsMerged, IsFirstFall, IsFirstNoStep, IsVerdict, IsFound}
use Rattle.log_check.proofs.Rising.{filed_end}
use Rattle.log_check.proofs.Ordering.{part_is, entry_of, history_count}
use Rattle.log_check.proofs.Found.{raised, entries_are, chronicle_is}

-- ---- the entries of a log that was read stand by callers

abbrev Filed : Log → Type 0
Filed log = IsFiled log.callers log.begun log.noted

filed_when : (b : Bool) (log next : Log) → (if b then Some log else None) ≡ Some next → (b ≡ true → Filed log) → Filed next
filed_when true log next e f = subst Filed (same_Some log next e) (f refl)
filed_when false log next e f = cc

placed_filed : (n : ℕ) (log next : Log) (what : LogLine) → Filed log → placed n log what ≡ Some next → Filed next
placed_filed n log next (line.Header rows callers) f e =
    filed_when (is_before log.stage) (record { stage = Inside; rows = rows; callers = callers; begun = 0; noted = [] }) next e
    (λ _. record { few = omega arith; each = tt; rise = tt })
placed_filed n log next (line.Caller j) f e =
    filed_when (is_inside log.stage && (j == log.begun && nat_lt j log.callers)) (record { stage = log.stage; rows = log.rows; callers = log.callers; begun = j + 1; noted = log.noted }) next e
    (λ t.
    let here : j ≡ log.begun = grind (arith, nat_tests) in
    let below : j < log.callers = grind (arith, nat_tests) in
    record { few = omega arith; each = raised log.begun (j + 1) log.noted (omega arith) f.each; rise = f.rise })
placed_filed n log next (line.Step entry) f e =
    filed_when (is_inside log.stage && nat_lt 0 log.begun)
    (record { stage = log.stage; rows = log.rows; callers = log.callers; begun = log.begun; noted = log.noted ++ record { line = n; caller = log.begun - 1; entry = entry } ∷ [] }) next e
    (λ t.
    let some : 0 < log.begun = grind (arith, nat_tests) in
    filed_end log.callers log.begun log.noted (record { line = n; caller = log.begun - 1; entry = entry }) some refl f)
placed_filed n log next line.End f e =
    filed_when (is_inside log.stage && (log.begun == log.callers)) (record { stage = After; rows = log.rows; callers = log.callers; begun = log.begun; noted = log.noted }) next e (λ _. f)

taken_filed : (n : ℕ) (log next : Log) (text : List ℕ) → Filed log → taken n log text ≡ Some next → Filed next
taken_filed n log next text f e = go (is_marked text) e
  where
    go : (b : Bool) → (if b then option_and_then (placed n log) (line_in (words_after (drop 1 text))) else Some log) ≡ Some next → Filed next
    go true h = option_and_then_some (placed n log) (line_in (words_after (drop 1 text))) next h (λ what _ stands. placed_filed n log next what f stands)
    go false h = subst Filed (same_Some log next h) f

came_filed : (n : ℕ) (log out : Log) (texts : List (List ℕ)) → Filed log → come n log texts ≡ Ok out → Filed out
came_filed n log out [] f e = go (is_after log.stage) e
  where
    go : (b : Bool) → (if b then Ok log else Err n) ≡ Ok out → Filed out
    go true h = let same : log ≡ out = cc in subst Filed same f
    go false h = cc
came_filed n log out (text ∷ texts) f e = go (taken n log text) refl e (λ next g h. came_filed (n + 1) next out texts g h)
  where
    go : (o : Option Log) → taken n log text ≡ o → go_on n (λ next. come (n + 1) next texts) o ≡ Ok out → ((next : Log) → Filed next → come (n + 1) next texts ≡ Ok out → Filed out) → Filed out
    go None t h rest = cc
    go (Some next) t h rest = rest next (taken_filed n log next text f t) h

filed : (input : List ℕ) (log : Log) → log_in input ≡ Ok log → Filed log
filed input log e = came_filed 1 at_start log (lines input) (record { few = omega arith; each = tt; rise = tt }) e

-- ---- one order

own_here : (c : ℕ) (x : Noted) (xs : List Noted) → x.caller ≡ c → own c (x ∷ xs) ≡ x ∷ own c xs
own_here c x xs e = cond-true (x.caller == c) (x ∷ own c xs) (own c xs) (eq-eqb x.caller c e)

own_there : (c : ℕ) (x : Noted) (xs : List Noted) → (x.caller ≡ c → ⊥) → own c (x ∷ xs) ≡ own c xs
own_there c x xs ne = cond-false (x.caller == c) (x ∷ own c xs) (own c xs) (ne_eqb x.caller c ne)

head_same : {X : Type 0} (x y : X) (xs ys : List X) → x ∷ xs ≡ y ∷ ys → x ≡ y
head_same x y xs ys e = cc

tail_same : {X : Type 0} (x y : X) (xs ys : List X) → x ∷ xs ≡ y ∷ ys → xs ≡ ys
tail_same x y xs ys e = cc

one_list : (a b : List Noted) → history a ≡ history b → ((c : ℕ) → own c a ≡ own c b) → a ≡ b
one_list [] [] h o = refl
one_list [] (y ∷ b) h o = let bad : [] ≡ (y.caller, y.entry) ∷ history b = h in cc
one_list (x ∷ a) [] h o = let bad : (x.caller, x.entry) ∷ history a ≡ [] = h in cc
one_list (x ∷ a) (y ∷ b) h o =
    let first = head_same (x.caller, x.entry) (y.caller, y.entry) (history a) (history b) h in
    let caller : x.caller ≡ y.caller = ap (λ (p : ℕ × Entry). p.0) first in
    let both : x ∷ own x.caller a ≡ y ∷ own x.caller b = sym (own_here x.caller x a refl) ∙ o x.caller ∙ own_here x.caller y b (sym caller) in
    let head : x ≡ y = head_same x y (own x.caller a) (own x.caller b) both in
    ap (λ z. z ∷ a) head ∙ ap (λ l. y ∷ l)
    (one_list a b (tail_same (x.caller, x.entry) (y.caller, y.entry) (history a) (history b) h) (λ c. rest c caller both (cases_eq x.caller c)))
  where
    rest : (c : ℕ) → x.caller ≡ y.caller → x ∷ own x.caller a ≡ y ∷ own x.caller b → (x.caller ≡ c) ⊎ (x.caller ≡ c → ⊥) → own c a ≡ own c b
    rest c caller both (inl is) = subst (λ (k : ℕ). own k a ≡ own k b) is (tail_same x y (own x.caller a) (own x.caller b) both)
    rest c caller both (inr ne) = sym (own_there c x a ne) ∙ o c ∙ own_there c y b (λ e. ne (caller ∙ e))

part_same : (noted a b : List Noted) → IsMerged noted a → IsMerged noted b → (c : ℕ) → part_of c (history a) ≡ part_of c (history b)
part_same noted a b m n c = part_is c a ∙ ap (map entry_of) (m.each c ∙ sym (n.each c)) ∙ sym (part_is c b)

one_order : (noted a b : List Noted) → IsMerged noted a → IsMerged noted b → a ≡ b
one_order noted a b m n =
    one_list a b (only_one (history a) (history b) m.in_order n.in_order (part_same noted a b m n)) (λ c. m.each c ∙ sym (n.each c))

-- ---- one place

take_front : {X : Type 0} (i j : ℕ) (xs : List X) → i ≤ j → take i (take j xs) ≡ take i xs
take_front zero zero [] l = refl
take_front zero (suc j) [] l = refl
take_front (suc i) zero [] l = refl
take_front (suc i) (suc j) [] l = refl
take_front zero zero (x ∷ xs) l = refl
take_front zero (suc j) (x ∷ xs) l = refl
take_front (suc i) zero (x ∷ xs) l = absurd (omega arith)
take_front (suc i) (suc j) (x ∷ xs) l = ap (λ ys. x ∷ ys) (take_front i j xs (omega arith))

legal_front : (rows i : ℕ) (l : History) → IsLegal rows l → IsLegal rows (take i l)
legal_front rows i l legal = (legal_parts rows empty (take i l) (drop i l) (subst (IsLegal rows) (sym (take-append-drop i l)) legal)).0

not_sooner : (rows : ℕ) (l : History) (p q : ℕ) → IsLegalUpTo rows l p → IsLegalUpTo rows l q → p < length l → p < q → ⊥
not_sooner rows l p q a b within less =
    a.next within (subst (IsLegal rows) (take_front (p + 1) q l (omega arith)) (legal_front rows (p + 1) (take q l) b.legal))

one_place : (rows : ℕ) (l : History) (p q : ℕ) → IsLegalUpTo rows l p → IsLegalUpTo rows l q → p < length l → q < length l → p ≡ q
one_place rows l p q a b within inside = go (cases_lt p q) (cases_lt q p)
  where
    go : (p < q) ⊎ (q ≤ p) → (q < p) ⊎ (p ≤ q) → p ≡ q
    go (inl less) o = absurd (not_sooner rows l p q a b within less)
    go (inr le) (inl less) = absurd (not_sooner rows l q p b a inside less)
    go (inr le) (inr ge) = omega arith

one_step : (rows : ℕ) (noted : List Noted) (m n : ℕ) → IsFirstNoStep rows noted m → IsFirstNoStep rows noted n → m ≡ n
one_step rows noted m n p q =
    let same : p.order ≡ q.order = one_order noted p.order q.order p.merged q.merged in
    let up : IsLegalUpTo rows (history q.order) p.place = subst (λ (o : List Noted). IsLegalUpTo rows (history o) p.place) same p.legal in
    let within : p.place < length q.order = subst (λ (o : List Noted). p.place < length o) same p.within in
    let counted = history_count q.order in
    let inside = q.within in
    let place : p.place ≡ q.place = one_place rows (history q.order) p.place q.place up q.legal (omega arith) (omega arith) in
    sym p.line ∙ ap (λ (o : List Noted). get_or (map line_of o) p.place 0) same ∙ ap (λ (k : ℕ). get_or (map line_of q.order) k 0) place ∙ q.line

-- ---- one fall

part_append : (c : ℕ) (xs ys : List Noted) → part_of c (history (xs ++ ys)) ≡ part_of c (history xs) ++ part_of c (history ys)
part_append c [] ys = refl
part_append c (x ∷ xs) ys = go (x.caller == c) (part_append c xs ys)
  where
    go : (b : Bool) → part_of c (history (xs ++ ys)) ≡ part_of c (history xs) ++ part_of c (history ys)
        → (if b then x.entry ∷ part_of c (history (xs ++ ys)) else part_of c (history (xs ++ ys))) ≡ (if b then x.entry ∷ part_of c (history xs) else part_of c (history xs)) ++ part_of c (history ys)
    go true r = ap (λ es. x.entry ∷ es) r
    go false r = r

all_front : (P : Entry → Type 0) (xs ys : List Entry) → AllByRecursion P (xs ++ ys) → AllByRecursion P xs
all_front P [] ys a = tt
all_front P (x ∷ xs) ys a = (a.0, all_front P xs ys a.1)

keys_front : (xs ys : List Entry) → KeysRise (xs ++ ys) → KeysRise xs
keys_front [] ys k = tt
keys_front (e ∷ xs) ys k = (all_front (λ d. (key e ≤ key d) × (is_numbered d ≡ true → key e < key d)) xs ys k.0, keys_front xs ys k.1)

rises_front : (xs ys : List Noted) → Rises (xs ++ ys) → Rises xs
rises_front xs ys r = λ c. keys_front (part_of c (history xs)) (part_of c (history ys)) (subst KeysRise (part_append c xs ys) (r c))

falls_not_risen : (noted : List Noted) (n : ℕ) → IsFirstFall noted n → Rises noted → ⊥
falls_not_risen noted n p r =
    let is : noted ≡ (p.before ++ p.breaks ∷ []) ++ p.rest = p.all ∙ sym (append_assoc p.before (p.breaks ∷ []) p.rest) in
    p.fall (rises_front (p.before ++ p.breaks ∷ []) p.rest (subst Rises is r))

-- two splits of the same entries are the same, or one is further on
data Splits (b c : List Noted) (x y : Noted) : Type 0 where
  same : x ≡ y → Splits b c x y
  sooner : (more : List Noted) → c ≡ (b ++ x ∷ []) ++ more → Splits b c x y
  later : (more : List Noted) → b ≡ (c ++ y ∷ []) ++ more → Splits b c x y

after_head : (z : Noted) (b c : List Noted) (x y : Noted) → Splits b c x y → Splits (z ∷ b) (z ∷ c) x y
after_head z b c x y (same e) = same e
after_head z b c x y (sooner more e) = sooner more (ap (λ l. z ∷ l) e)
after_head z b c x y (later more e) = later more (ap (λ l. z ∷ l) e)

splits : (b c : List Noted) (x y : Noted) (xs ys : List Noted) → b ++ x ∷ xs ≡ c ++ y ∷ ys → Splits b c x y
splits [] [] x y xs ys e = same (head_same x y xs ys e)
splits [] (z ∷ c) x y xs ys e = sooner c (ap (λ w. w ∷ c) (sym (head_same x z xs (c ++ y ∷ ys) e)))
splits (z ∷ b) [] x y xs ys e = later b (ap (λ w. w ∷ b) (head_same z y (b ++ x ∷ xs) ys e))
splits (z ∷ b) (w ∷ c) x y xs ys e =
    subst (λ v. Splits (z ∷ b) (v ∷ c) x y) (head_same z w (b ++ x ∷ xs) (c ++ y ∷ ys) e)
    (after_head z b c x y (splits b c x y xs ys (tail_same z w (b ++ x ∷ xs) (c ++ y ∷ ys) e)))

one_fall : (noted : List Noted) (m n : ℕ) → IsFirstFall noted m → IsFirstFall noted n → m ≡ n
one_fall noted m n p q = by (splits p.before q.before p.breaks q.breaks p.rest q.rest (sym p.all ∙ q.all))
  where
    by : Splits p.before q.before p.breaks q.breaks → m ≡ n
    by (same e) = sym p.line ∙ ap line_of e ∙ q.line
    by (sooner more e) = absurd (p.fall (rises_front (p.before ++ p.breaks ∷ []) more (subst Rises e q.rise)))
    by (later more e) = absurd (q.fall (rises_front (q.before ++ q.breaks ∷ []) more (subst Rises e p.rise)))

-- ---- one verdict

-- a log whose verdict is Illegal isn't good
not_good : (log : Log) (n : ℕ) → Filed log → IsVerdict log (Illegal n) → IsGood log.rows (lists_of log) → ⊥
not_good log n f (inl falls) good = falls_not_risen log.noted n falls (λ c. subst KeysRise (entries_are log f c) (good.rise c))
not_good log n f (inr both) good =
    let p = both.1 in
    let legal : IsLegal log.rows (history p.order) = subst (IsLegal log.rows) (sym (chronicle_is log p.order f both.0 p.merged)) good.legal in
    let counted = history_count p.order in
    let inside = p.within in
    p.legal.next (omega arith) (legal_front log.rows (p.place + 1) (history p.order) legal)

verdicts_same : (log : Log) (v w : LogVerdict) → Filed log → IsVerdict log v → IsVerdict log w → v ≡ w
verdicts_same log (Legal m) (Legal n) f a b = ap Legal (a.1 ∙ sym b.1)
verdicts_same log (Legal m) (Illegal n) f a b = absurd (not_good log n f b a.0)
verdicts_same log (Illegal m) (Legal n) f a b = absurd (not_good log m f a b.0)
verdicts_same log (Illegal m) (Illegal n) f (inl a) (inl b) = ap Illegal (one_fall log.noted m n a b)
verdicts_same log (Illegal m) (Illegal n) f (inl a) (inr b) = absurd (falls_not_risen log.noted m a b.0)
verdicts_same log (Illegal m) (Illegal n) f (inr a) (inl b) = absurd (falls_not_risen log.noted n b a.0)
verdicts_same log (Illegal m) (Illegal n) f (inr a) (inr b) = ap Illegal (one_step log.rows log.noted m n a.1 b.1)

-- what is found of an input is the verdict on the log in it
pub record IsOf (input : List ℕ) (v : LogVerdict) : Type 0 where
  pub log : Log
  pub log_is : log_in input ≡ Ok log
  pub verdict : IsVerdict log v

pub found_of : (input : List ℕ) (v : LogVerdict) → IsFound (log_in input) v → IsOf input v
found_of input v f = go (log_in input) refl f
  where
    go : (r : Result Log ℕ) → log_in input ≡ r → IsFound r v → IsOf input v
    go (Ok log) e h = record { log = log; log_is = e; verdict = h }
    go (Err n) e h = absurd h

-- there is no other
pub one_verdict : (input : List ℕ) (v w : LogVerdict) → IsFound (log_in input) v → IsFound (log_in input) w → v ≡ w
one_verdict input v w a b =
    let p = found_of input v a in
    let q = found_of input w b in
    let same : p.log ≡ q.log = the_log (log_in input) p.log q.log p.log_is q.log_is in
    verdicts_same q.log v w (filed input q.log q.log_is) (subst (λ (l : Log). IsVerdict l v) same p.verdict) q.verdict
  where
    the_log : (r : Result Log ℕ) (a b : Log) → r ≡ Ok a → r ≡ Ok b → a ≡ b
    the_log (Ok l) a b e f = cc
    the_log (Err n) a b e f = cc

-- where it is Illegal the log isn't good
pub illegal_is_bad : (input : List ℕ) (n : ℕ) (log : Log) → log_in input ≡ Ok log → IsVerdict log (Illegal n) → IsGood log.rows (lists_of log) → ⊥
illegal_is_bad input n log e v good = not_good log n (filed input log e) v good
