-- A whole log is read line by line.
use Rattle.std.proofs.Common.{◌≡◌, ◌∙◌, ℕ, suc, ◌+◌, ◌-◌, ◌<◌, ◌≤◌, eqb, Bool, true, false, cond, ◌&&◌, List, [], ◌∷◌, ◌++◌, drop, length, append_assoc, append-nil, Option, Some, None, refl, sym, ap, ap₂, subst, arith, length-append}
use Rattle.std.specs.Prelude.{Ok, Err, codes, decimal, option_and_then, nat_lt, ◌==◌}
use Rattle.std.specs.List.{AllByRecursion}
use Rattle.std.proofs.lemmas.Bool.{eq-eqb, lt-ltb}
use Rattle.std.proofs.lemmas.List.{map-append}
use Rattle.history_core.specs.declared.entry.Entry.{Entry}
use Rattle.history_core.specs.Chronicle.{History, part_of, IsGood}
use Rattle.history_core.proofs.Own.{own_part, other_part}
use Rattle.log_check.specs.declared.verdict.LogVerdict.TheVariants.{Legal}
use Rattle.log_check.specs.Words.{lines, words_after}
use Rattle.log_check.specs.Form.{is_marked, line_in, header_of, number_below}
use Rattle.log_check.specs.Log.{Log, at_start, is_inside, is_after, placed, taken, go_on, come, log_in}
use Rattle.log_check.specs.Verdict.{history, lists_from, lists_of, IsFound}
use Rattle.log_check.proofs.OneVerdict.{one_verdict}
use Rattle.log_check.proofs.Ordering.{history_count}
use Rattle.log_text.specs.Lines.{line_of, lines_of, header_text, caller_text, callers_from, end_text, log_of}
use Rattle.log_laws.specs.ReadBack.{MayTell}
use Rattle.log_laws.specs.Whole.{lined, StandsBeside, entries_in, LogsAreReadBack, GoodLogsAreLegal}
use Rattle.log_laws.proofs.Numbers.{below_back}
use Rattle.log_laws.proofs.Cutting.{line_cut}
use Rattle.log_laws.proofs.Reading.{decimal_without, IsLine, cut_line, entry_line, step_of, through}

-- ---- one line after the other

one_line : (n : ℕ) (log next : Log) (bytes text rest : List ℕ) → lines bytes ≡ text ∷ lines rest → taken n log text ≡ Some next
    → come n log (lines bytes) ≡ come (n + 1) next (lines rest)
one_line n log next bytes text rest cut takes =
    ap (come n log) cut ∙ ap (go_on n (λ (l : Log). come (n + 1) l (lines rest))) takes

-- a line that stands beside the log is passed over
beside_line : (n : ℕ) (log : Log) (text : List ℕ) → is_marked text ≡ false → taken n log text ≡ Some log
beside_line n log text h = ap (λ (b : Bool). cond b (option_and_then (placed n log) (line_in (words_after (drop 1 text)))) (Some log)) h

pub passed_over : (beside : List (List ℕ)) → AllByRecursion StandsBeside beside → (n : ℕ) (log : Log) (rest : List ℕ)
    → (m : ℕ) × (come n log (lines (lined beside ++ rest)) ≡ come m log (lines rest))
passed_over [] h n log rest = (n, refl)
passed_over (t ∷ ts) h n log rest =
    let more = passed_over ts h.1 (n + 1) log rest in
    let cut : lines (((t ++ 10 ∷ []) ++ lined ts) ++ rest) ≡ t ∷ lines (lined ts ++ rest) =
    ap lines (append_assoc (t ++ 10 ∷ []) (lined ts) rest ∙ append_assoc t (10 ∷ []) (lined ts ++ rest)) ∙ line_cut t (lined ts ++ rest) h.0.0 in
    (more.0, one_line n log log (((t ++ 10 ∷ []) ++ lined ts) ++ rest) t (lined ts ++ rest) cut (beside_line n log t h.0.1) ∙ more.1)

-- a line with its mark
marked : (n : ℕ) (log next : Log) (text word : List ℕ) (ws : List (List ℕ)) → is_marked text ≡ true → words_after (drop 1 text) ≡ word ∷ ws
    → option_and_then (placed n log) (line_in (word ∷ ws)) ≡ Some next → taken n log text ≡ Some next
marked n log next text word ws mark cut is =
    ap (λ (b : Bool). cond b (option_and_then (placed n log) (line_in (words_after (drop 1 text)))) (Some log)) mark
    ∙ (ap (λ (all : List (List ℕ)). option_and_then (placed n log) (line_in all)) cut ∙ is)

log_line : (n : ℕ) (log next : Log) (bytes word : List ℕ) (ws : List (List ℕ)) → IsLine bytes word ws
    → option_and_then (placed n log) (line_in (word ∷ ws)) ≡ Some next → (rest : List ℕ) → come n log (lines (bytes ++ rest)) ≡ come (n + 1) next (lines rest)
log_line n log next bytes word ws h is rest =
    let cut = cut_line bytes word ws h rest in
    one_line n log next (bytes ++ rest) cut.0 rest cut.1 (marked n log next cut.0 word ws cut.2 cut.3 is)

-- ---- the entries of a caller

-- the entries with their caller
abbrev tagged : ℕ → List Entry → History
tagged k [] = []
tagged k (e ∷ es) = (k, e) ∷ tagged k es

abbrev told_from : ℕ → List (List Entry) → History
told_from k [] = []
told_from k (es ∷ lists) = tagged k es ++ told_from (suc k) lists

-- a log that follows on another, so many callers having begun, with more entries
record Follows (old new : Log) (begun : ℕ) (more : History) : Type 0 where
  pub stands : is_inside new.stage ≡ true
  pub has_rows : new.rows ≡ old.rows
  pub has_callers : new.callers ≡ old.callers
  pub has_begun : new.begun ≡ begun
  pub told : history new.noted ≡ history old.noted ++ more

follows_on : (a b c : Log) (j k : ℕ) (xs ys : History) → Follows a b j xs → Follows b c k ys → Follows a c k (xs ++ ys)
follows_on a b c j k xs ys f g = record {
  stands = g.stands;
  has_rows = g.has_rows ∙ f.has_rows;
  has_callers = g.has_callers ∙ f.has_callers;
  has_begun = g.has_begun;
  told = g.told ∙ (ap (λ (h : History). h ++ ys) f.told ∙ append_assoc (history a.noted) xs ys);
}

-- what comes of some lines of a log: a log that follows on it, at a later line
record Comes (n : ℕ) (log : Log) (begun : ℕ) (bytes rest : List ℕ) (more : History) : Type 0 where
  pub at : ℕ
  pub next : Log
  pub comes : come n log (lines (bytes ++ rest)) ≡ come at next (lines rest)
  pub follows : Follows log next begun more

-- an entry on this line
abbrev with_entry : ℕ → Log → Entry → Log
with_entry n log e = record {
  stage = log.stage;
  rows = log.rows;
  callers = log.callers;
  begun = log.begun;
  noted = log.noted ++ record { line = n; caller = log.begun - 1; entry = e } ∷ [];
}

step_placed : (n k : ℕ) (log : Log) (e : Entry) → is_inside log.stage ≡ true → log.begun ≡ suc k → step_of n log e ≡ Some (with_entry n log e)
step_placed n k log e i b =
    ap₂ (λ (x y : Bool). cond (x && y) (Some (with_entry n log e)) None) i (lt-ltb 0 log.begun (omega (arith, b)))

step_follows : (n k : ℕ) (log : Log) (e : Entry) → is_inside log.stage ≡ true → log.begun ≡ suc k → Follows log (with_entry n log e) (suc k) ((k, e) ∷ [])
step_follows n k log e i b =
    let same : log.begun - 1 ≡ k = omega (arith, b) in
    record {
      stands = i;
      has_rows = refl;
      has_callers = refl;
      has_begun = b;
      told = map-append _ log.noted _ ∙ ap (λ (j : ℕ). history log.noted ++ (j, e) ∷ []) same;
    }

entries_come : (es : List Entry) → AllByRecursion MayTell es → (n k : ℕ) (log : Log) (rest : List ℕ) → is_inside log.stage ≡ true → log.begun ≡ suc k
    → Comes n log (suc k) (lines_of es) rest (tagged k es)
entries_come [] t n k log rest i b =
    record { at = n; next = log; comes = refl; follows = record { stands = i; has_rows = refl; has_callers = refl; has_begun = b; told = sym (append-nil (history log.noted)) } }
entries_come (e ∷ es) t n k log rest i b =
    let is = entry_line e t.0 in
    let now = with_entry n log e in
    let more = entries_come es t.1 (n + 1) k now rest i b in
    record {
      at = more.at;
      next = more.next;
      comes = ap (λ (z : List ℕ). come n log (lines z)) (append_assoc (line_of e) (lines_of es) rest)
          ∙ (log_line n log now (line_of e) is.word is.words is.line (is.steps n log ∙ step_placed n k log e i b) (lines_of es ++ rest) ∙ more.comes);
      follows = follows_on log now more.next (suc k) (suc k) ((k, e) ∷ []) (tagged k es) (step_follows n k log e i b) more.follows;
    }

-- ---- the callers

both_true : (a b : Bool) → a ≡ true → b ≡ true → a && b ≡ true
both_true a b e f = ap₂ (λ (x y : Bool). x && y) e f

number_free : (b n : ℕ) → b < 48 → n < 262145 → AllByRecursion (λ x. eqb x b ≡ false) (decimal n)
number_free b n l small = decimal_without b n l (omega (arith, small))

caller_line : (k : ℕ) → k < 16 → IsLine (caller_text k) (codes "caller") (decimal k ∷ [])
caller_line k l = record {
  is = ap (λ (z : List ℕ). codes "# caller " ++ (z ++ 10 ∷ [])) (sym (append-nil (decimal k)));
  feeds = ((refl, (refl, (refl, (refl, (refl, (refl, tt)))))), (number_free 10 k (omega arith) (omega (arith, l)), tt));
  spaces = ((refl, (refl, (refl, (refl, (refl, (refl, tt)))))), (number_free 32 k (omega arith) (omega (arith, l)), tt));
}

-- a caller begins
abbrev with_caller : ℕ → Log → Log
with_caller k log = record { stage = log.stage; rows = log.rows; callers = log.callers; begun = k + 1; noted = log.noted }

caller_placed : (n k : ℕ) (log : Log) → is_inside log.stage ≡ true → log.begun ≡ k → k < log.callers → log.callers ≤ 16
    → option_and_then (placed n log) (line_in (codes "caller" ∷ decimal k ∷ [])) ≡ Some (with_caller k log)
caller_placed n k log i b l few =
    through _ (placed n log) (number_below 16 (decimal k)) k (below_back 16 k (omega (arith, l, few)) (omega (arith, l, few)))
    ∙ ap₂ (λ (x y : Bool). cond (x && y) (Some (with_caller k log)) None) i (both_true (k == log.begun) (nat_lt k log.callers) (eq-eqb k log.begun (sym b)) (lt-ltb k log.callers l))

caller_follows : (k : ℕ) (log : Log) → is_inside log.stage ≡ true → Follows log (with_caller k log) (suc k) []
caller_follows k log i = record { stands = i; has_rows = refl; has_callers = refl; has_begun = omega arith; told = sym (append-nil (history log.noted)) }

callers_come : (lists : List (List Entry)) → AllByRecursion (AllByRecursion MayTell) lists → (n k : ℕ) (log : Log) (rest : List ℕ) → is_inside log.stage ≡ true → log.begun ≡ k
    → k + length lists ≤ log.callers → log.callers ≤ 16 → Comes n log (k + length lists) (callers_from k lists) rest (told_from k lists)
callers_come [] t n k log rest i b few most =
    record { at = n; next = log; comes = refl; follows = record { stands = i; has_rows = refl; has_callers = refl; has_begun = b ∙ omega arith; told = sym (append-nil (history log.noted)) } }
callers_come (es ∷ lists) t n k log rest i b few most =
    let here : k < log.callers = omega (arith, few) in
    let begun = with_caller k log in
    let own = entries_come es t.0 (n + 1) k begun (callers_from (suc k) lists ++ rest) i (omega arith) in
    let f = own.follows in
    let same = f.has_callers in
    let more = callers_come lists t.1 own.at (suc k) own.next rest f.stands f.has_begun (omega (arith, few, same)) (omega (arith, most, same)) in
    let all = follows_on begun own.next more.next (suc k) ((suc k) + length lists) (tagged k es) (told_from (suc k) lists) f more.follows in
    record {
      at = more.at;
      next = more.next;
      comes = ap (λ (z : List ℕ). come n log (lines z))
          (append_assoc (caller_text k ++ lines_of es) (callers_from (suc k) lists) rest ∙ append_assoc (caller_text k) (lines_of es) (callers_from (suc k) lists ++ rest))
          ∙ (log_line n log begun (caller_text k) (codes "caller") (decimal k ∷ []) (caller_line k (omega (arith, here, most))) (caller_placed n k log i b here most)
          (lines_of es ++ (callers_from (suc k) lists ++ rest))
          ∙ (own.comes ∙ more.comes));
      follows = record { stands = all.stands; has_rows = all.has_rows; has_callers = all.has_callers; has_begun = all.has_begun ∙ omega arith; told = all.told };
    }

-- ---- the header, and the end

header_line : (rows callers : ℕ) → rows < 262145 → callers < 17 → IsLine (header_text rows callers) (codes "log") (decimal rows ∷ decimal callers ∷ [])
header_line rows callers r c = record {
  is = ap (λ (z : List ℕ). codes "# log " ++ (z ++ 10 ∷ []))
      (append_assoc (decimal rows) (32 ∷ []) (decimal callers) ∙ ap (λ (z : List ℕ). decimal rows ++ (32 ∷ z)) (sym (append-nil (decimal callers))));
  feeds = ((refl, (refl, (refl, tt))), (number_free 10 rows (omega arith) r, (number_free 10 callers (omega arith) (omega (arith, c)), tt)));
  spaces = ((refl, (refl, (refl, tt))), (number_free 32 rows (omega arith) r, (number_free 32 callers (omega arith) (omega (arith, c)), tt)));
}

if_so : {L : Type 0} (b : Bool) (x : L) (g : L → Option Log) → b ≡ true → option_and_then g (cond b (Some x) None) ≡ g x
if_so b x g e = ap (λ (c : Bool). option_and_then g (cond c (Some x) None)) e

-- the log behind its header
record HasBegun (rows callers : ℕ) (log : Log) : Type 0 where
  pub stands : is_inside log.stage ≡ true
  pub has_rows : log.rows ≡ rows
  pub has_callers : log.callers ≡ callers
  pub begun : log.begun ≡ 0
  pub noted : log.noted ≡ []

header_taken : (n rows callers : ℕ) → (1 ≤ rows) × (rows < 262145) → (1 ≤ callers) × (callers < 17)
    → (next : Log) × (option_and_then (placed n at_start) (line_in (codes "log" ∷ decimal rows ∷ decimal callers ∷ [])) ≡ Some next) × HasBegun rows callers next
header_taken n rows callers r c = (
  _,
  ap₂ (λ (a b : Option ℕ). option_and_then (placed n at_start) (option_and_then (λ (x : ℕ). option_and_then (λ (y : ℕ). header_of x y) b) a))
      (below_back 262145 rows r.1 (let l = r.1 in omega (arith, l))) (below_back 17 callers c.1 (let l = c.1 in omega (arith, l)))
      ∙ if_so _ _ (placed n at_start)
      (both_true (nat_lt 0 rows) (nat_lt 0 callers) (lt-ltb 0 rows (let l = r.0 in omega (arith, l))) (lt-ltb 0 callers (let l = c.0 in omega (arith, l)))),
  record { stands = refl; has_rows = refl; has_callers = refl; begun = refl; noted = refl },
)

end_line : IsLine end_text (codes "end") []
end_line = record { is = refl; feeds = ((refl, (refl, (refl, tt))), tt); spaces = ((refl, (refl, (refl, tt))), tt) }

-- the log behind its end
record HasEnded (old log : Log) : Type 0 where
  pub stands : is_after log.stage ≡ true
  pub has_rows : log.rows ≡ old.rows
  pub has_callers : log.callers ≡ old.callers
  pub noted : log.noted ≡ old.noted

cond_so : (b : Bool) (x : Log) → b ≡ true → cond b (Some x) None ≡ Some x
cond_so b x e = ap (λ (c : Bool). cond c (Some x) None) e

end_taken : (n : ℕ) (log : Log) → is_inside log.stage ≡ true → log.begun ≡ log.callers
    → (next : Log) × (option_and_then (placed n log) (line_in (codes "end" ∷ [])) ≡ Some next) × HasEnded log next
end_taken n log i e = (
  _,
  cond_so (is_inside log.stage && (log.begun == log.callers)) _ (both_true (is_inside log.stage) (log.begun == log.callers) i (eq-eqb log.begun log.callers e)),
  record { stands = refl; has_rows = refl; has_callers = refl; noted = refl },
)

-- ---- the lists of a log

cut_part : (b : Bool) (e : Entry) (all xs ys : List Entry) → all ≡ xs ++ ys → cond b (e ∷ all) all ≡ cond b (e ∷ xs) xs ++ ys
cut_part true e all xs ys h = ap (λ (es : List Entry). e ∷ es) h
cut_part false e all xs ys h = h

part_both : (k : ℕ) (xs ys : History) → part_of k (xs ++ ys) ≡ part_of k xs ++ part_of k ys
part_both k [] ys = refl
part_both k (x ∷ xs) ys = cut_part (x.0 == k) x.1 (part_of k (xs ++ ys)) (part_of k xs) (part_of k ys) (part_both k xs ys)

abbrev AreOf : (ℕ → Type 0) → History → Type 0
AreOf P l = AllByRecursion (λ x. P x.0) l

none_of : (k : ℕ) (l : History) → AreOf (λ j. j ≡ k → ⊥) l → part_of k l ≡ []
none_of k [] a = refl
none_of k (x ∷ xs) a = other_part k x xs a.0 ∙ none_of k xs a.1

all_of : (k : ℕ) (es : List Entry) → part_of k (tagged k es) ≡ es
all_of k [] = refl
all_of k (e ∷ es) = own_part k (k, e) (tagged k es) refl ∙ ap (λ (xs : List Entry). e ∷ xs) (all_of k es)

are_both : (P : ℕ → Type 0) (xs ys : History) → AreOf P xs → AreOf P ys → AreOf P (xs ++ ys)
are_both P [] ys a b = b
are_both P (x ∷ xs) ys a b = (a.0, are_both P xs ys a.1 b)

are_tagged : (P : ℕ → Type 0) (k : ℕ) (es : List Entry) → P k → AreOf P (tagged k es)
are_tagged P k [] p = tt
are_tagged P k (e ∷ es) p = (p, are_tagged P k es p)

later_ones : (P : ℕ → Type 0) (k : ℕ) (lists : List (List Entry)) → ((j : ℕ) → k ≤ j → P j) → AreOf P (told_from k lists)
later_ones P k [] p = tt
later_ones P k (es ∷ lists) p =
    are_both P (tagged k es) (told_from (suc k) lists) (are_tagged P k es (p k (omega arith))) (later_ones P (suc k) lists (λ j l. p j (omega (arith, l))))

are_weaker : (P Q : ℕ → Type 0) (l : History) → ((j : ℕ) → P j → Q j) → AreOf P l → AreOf Q l
are_weaker P Q [] f a = tt
are_weaker P Q (x ∷ xs) f a = (f x.0 a.0, are_weaker P Q xs f a.1)

lists_back : (lists : List (List Entry)) (k : ℕ) (before : History) → AreOf (λ j. j < k) before → lists_from (length lists) k (before ++ told_from k lists) ≡ lists
lists_back [] k before a = refl
lists_back (es ∷ lists) k before a =
    let first : part_of k (before ++ (tagged k es ++ told_from (suc k) lists)) ≡ es =
    part_both k before (tagged k es ++ told_from (suc k) lists)
    ∙ (ap (λ (xs : List Entry). xs ++ part_of k (tagged k es ++ told_from (suc k) lists)) (none_of k before (are_weaker (λ j. j < k) (λ j. j ≡ k → ⊥) before (λ j l e. omega (arith, l, e)) a))
    ∙ (part_both k (tagged k es) (told_from (suc k) lists)
    ∙ (ap₂ (λ (xs ys : List Entry). xs ++ ys) (all_of k es) (none_of k (told_from (suc k) lists) (later_ones (λ j. j ≡ k → ⊥) (suc k) lists (λ j l e. omega (arith, l, e))))
    ∙ append-nil es))) in
    let rest : lists_from (length lists) (suc k) (before ++ (tagged k es ++ told_from (suc k) lists)) ≡ lists =
    ap (λ (h : History). lists_from (length lists) (suc k) h) (sym (append_assoc before (tagged k es) (told_from (suc k) lists)))
    ∙ lists_back lists (suc k) (before ++ tagged k es) (are_both (λ j. j < suc k) before (tagged k es) (are_weaker (λ j. j < k) (λ j. j < suc k) before (λ j l. omega (arith, l)) a) (are_tagged (λ j. j < suc k) k es (omega arith))) in
    ap₂ (λ (xs : List Entry) (ls : List (List Entry)). xs ∷ ls) first rest

long_tagged : (k : ℕ) (es : List Entry) → length (tagged k es) ≡ length es
long_tagged k [] = refl
long_tagged k (e ∷ es) = ap suc (long_tagged k es)

long_told : (k : ℕ) (lists : List (List Entry)) → length (told_from k lists) ≡ entries_in lists
long_told k [] = refl
long_told k (es ∷ lists) =
    let both = length-append (tagged k es) (told_from (suc k) lists) in
    let own = long_tagged k es in
    let rest = long_told (suc k) lists in
    omega (arith, both, own, rest)

-- ---- the whole

ok_after : (n : ℕ) (log : Log) → is_after log.stage ≡ true → come n log [] ≡ Ok log
ok_after n log a = ap (λ (b : Bool). cond b (Ok log) (Err n)) a

pub logs_read_back : LogsAreReadBack
logs_read_back rows lists t beside b =
    let callers = length lists in
    let r : (1 ≤ rows) × (rows < 262145) = (t.has_rows.0, (let l = t.has_rows.1 in omega (arith, l))) in
    let c : (1 ≤ callers) × (callers < 17) = (t.has_callers.0, (let l = t.has_callers.1 in omega (arith, l))) in
    let start = passed_over beside b 1 at_start (log_of rows lists) in
    let header = header_taken start.0 rows callers r c in
    let log : Log = header.0 in
    let has = header.2 in
    let first = log_line start.0 at_start log (header_text rows callers) (codes "log") (decimal rows ∷ decimal callers ∷ []) (header_line rows callers r.1 c.1) header.1 (callers_from 0 lists ++ end_text) in
    let count = has.has_callers in
    let few = t.has_callers.1 in
    let all = callers_come lists t.entries (start.0 + 1) 0 log end_text has.stands has.begun (omega (arith, count)) (omega (arith, count, few)) in
    let f = all.follows in
    let own = f.has_callers in
    let begun = f.has_begun in
    let end = end_taken all.at all.next f.stands (omega (arith, count, own, begun)) in
    let last = log_line all.at all.next end.0 end_text (codes "end") [] end_line end.1 [] in
    let done = end.2 in
    let told : history end.0.noted ≡ told_from 0 lists = ap history done.noted ∙ (f.told ∙ ap (λ ns. history ns ++ told_from 0 lists) has.noted) in
    record {
      log = end.0;
      log_is = start.1
          ∙ (ap (λ (z : List ℕ). come start.0 at_start (lines z)) (append_assoc (header_text rows callers) (callers_from 0 lists) end_text)
          ∙ (first ∙ (all.comes ∙ (last ∙ ok_after (all.at + 1) end.0 done.stands))));
      rows_are = done.has_rows ∙ (f.has_rows ∙ has.has_rows);
      lists_are = ap₂ (λ (n : ℕ) (h : History). lists_from n 0 h) (done.has_callers ∙ (own ∙ count)) told ∙ lists_back lists 0 [] tt;
      count = sym (history_count end.0.noted) ∙ (ap length told ∙ long_told 0 lists);
    }

pub good_are_legal : GoodLogsAreLegal
good_are_legal rows lists t beside b good verdict found =
    let bytes = lined beside ++ log_of rows lists in
    let is = logs_read_back rows lists t beside b in
    let here : IsGood is.log.rows (lists_of is.log) =
    subst (λ (r : ℕ). IsGood r (lists_of is.log)) (sym is.rows_are) (subst (IsGood rows) (sym is.lists_are) good) in
    let legal : IsFound (log_in bytes) (Legal (entries_in lists)) = subst (λ r. IsFound r (Legal (entries_in lists))) (sym is.log_is) (here, sym is.count) in
    one_verdict bytes verdict (Legal (entries_in lists)) found legal
