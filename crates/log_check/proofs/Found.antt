-- The order of a log's entries is its chronicle.
use Rattle.std.proofs.Common.{◌≡◌, ℕ, zero, suc, ◌+◌, ◌<◌, ◌≤◌, List, [], ◌∷◌, Result, Ok, length, get_or, refl, sym, ap, ◌∙◌, subst, arith, ◌⊎◌, inl, inr}
use Rattle.std.specs.Prelude.{map, All}
use Rattle.std.specs.List.{AllByRecursion}
use Rattle.std.specs.List.Sorted.{IsPermutation}
use Rattle.std.proofs.lemmas.Bool.{cases_lt}
use Rattle.std.proofs.lemmas.List.Sorted.{All-permutation}
use Rattle.history_core.specs.declared.entry.Entry.{Entry}
use Rattle.history_core.specs.Chronicle.{History, chronicle, entries_of, part_of, KeysRise, IsGood, IsLegal}
use Rattle.history_core.specs.Table.{IsLegalUpTo}
use Rattle.history_core.proofs.Places.{rising_never_falls}
use Rattle.history_core.proofs.Only.{chronicle_is_the_one}
use Rattle.log_check.specs.declared.log.Noted.{Noted}
use Rattle.log_check.specs.Log.{Log}
use Rattle.log_check.specs.Filed.{IsFiled}
use Rattle.log_check.specs.declared.verdict.LogVerdict.{LogVerdict}
use Rattle.log_check.specs.declared.verdict.LogVerdict.TheVariants.{Illegal}
use Rattle.log_check.specs.Verdict.{history, line_of, lists_from, lists_of, Rises, IsMerged, IsFirstFall, IsFirstNoStep, IsVerdict, IsFound}
use Rattle.log_check.proofs.Rising.{no_part}
use Rattle.log_check.proofs.Ordering.{part_is, entry_of, line_count, history_count}

entries_from : (more caller i : ℕ) (l : History) → i < more → entries_of (lists_from more caller l) i ≡ part_of (caller + i) l
entries_from zero caller i l lt = absurd (omega arith)
entries_from (suc more) caller zero l lt = let e : caller ≡ caller + 0 = omega arith in ap (λ (k : ℕ). part_of k l) e
entries_from (suc more) caller (suc i) l lt =
    let e : suc caller + i ≡ caller + suc i = omega arith in
    entries_from more (suc caller) i l (omega arith) ∙ ap (λ (k : ℕ). part_of k l) e

entries_past : (more caller i : ℕ) (l : History) → more ≤ i → entries_of (lists_from more caller l) i ≡ []
entries_past zero caller zero l le = refl
entries_past zero caller (suc i) l le = refl
entries_past (suc more) caller zero l le = absurd (omega arith)
entries_past (suc more) caller (suc i) l le = entries_past more (suc caller) i l (omega arith)

pub raised : (n m : ℕ) (xs : List Noted) → n ≤ m → AllByRecursion (λ x. x.caller < n) xs → AllByRecursion (λ x. x.caller < m) xs
raised n m [] le a = tt
raised n m (x ∷ xs) le a = ((let l = a.0 in omega arith), raised n m xs le a.1)

pub entries_are : (log : Log) → IsFiled log.callers log.begun log.noted → (c : ℕ) → entries_of (lists_of log) c ≡ part_of c (history log.noted)
entries_are log f c = go (cases_lt c log.callers)
  where
    go : (c < log.callers) ⊎ (log.callers ≤ c) → entries_of (lists_of log) c ≡ part_of c (history log.noted)
    go (inl l) = let e : 0 + c ≡ c = omega arith in entries_from log.callers 0 c (history log.noted) l ∙ ap (λ (k : ℕ). part_of k (history log.noted)) e
    go (inr l) =
        entries_past log.callers 0 c (history log.noted) l
        ∙ sym (no_part c log.noted (raised log.begun c log.noted (let few = f.few in omega arith) f.each))

pub chronicle_is : (log : Log) (order : List Noted) → IsFiled log.callers log.begun log.noted → Rises log.noted → IsMerged log.noted order → history order ≡ chronicle (lists_of log)
chronicle_is log order f rises m =
    chronicle_is_the_one (lists_of log) (history order)
    (λ c. rising_never_falls (entries_of (lists_of log) c) (subst KeysRise (sym (entries_are log f c)) (rises c)))
    m.in_order
    (λ c. part_is c order ∙ ap (map entry_of) (m.each c) ∙ sym (part_is c log.noted) ∙ sym (entries_are log f c))

pub good : (log : Log) (order : List Noted) → IsFiled log.callers log.begun log.noted → Rises log.noted → IsMerged log.noted order → IsLegal log.rows (history order) → IsGood log.rows (lists_of log)
good log order f rises m legal = record {
  rise = λ c. subst KeysRise (sym (entries_are log f c)) (rises c);
  legal = subst (IsLegal log.rows) (chronicle_is log order f rises m) legal;
}

-- ---- the callers of sorted entries

all_at : (n : ℕ) (xs : List Noted) → AllByRecursion (λ x. x.caller < n) xs → All (λ x. x.caller < n) xs
all_at n [] a k d lt = absurd (omega arith)
all_at n (x ∷ xs) a zero d lt = a.0
all_at n (x ∷ xs) a (suc k) d lt = all_at n xs a.1 k d (omega arith)

each_by : (n : ℕ) (xs : List Noted) → All (λ x. x.caller < n) xs → AllByRecursion (λ x. x.caller < n) xs
each_by n [] f = tt
each_by n (x ∷ xs) f = (f 0 x (omega arith), each_by n xs (λ k d lt. f (suc k) d (omega arith)))

callers_at : (n : ℕ) (xs : List Noted) → AllByRecursion (λ x. x.caller < n) xs → All (λ (y : ℕ × Entry). y.0 < n) (history xs)
callers_at n [] a k d lt = absurd (omega arith)
callers_at n (x ∷ xs) a zero d lt = a.0
callers_at n (x ∷ xs) a (suc k) d lt = callers_at n xs a.1 k d (omega arith)

pub callers_below : (callers begun : ℕ) (noted order : List Noted) (l : History) → IsFiled callers begun noted → IsPermutation noted order → l ≡ history order → All (λ (y : ℕ × Entry). y.0 < callers) l
callers_below callers begun noted order l f p e =
    let each : AllByRecursion (λ x. x.caller < callers) noted = raised begun callers noted f.few f.each in
    subst (All (λ (y : ℕ × Entry). y.0 < callers)) (sym e)
    (callers_at callers order (each_by callers order (All-permutation (λ x. x.caller < callers) noted order p (all_at callers noted each))))

-- ---- the verdict

pub found_is : (r : Result Log ℕ) (log : Log) (v : LogVerdict) → r ≡ Ok log → IsVerdict log v → IsFound r v
found_is r log v e h = subst (λ x. IsFound x v) (sym e) h

pub fall_is : (r : Result Log ℕ) (log : Log) (noted : List Noted) (n : ℕ) → r ≡ Ok log → noted ≡ log.noted → IsFirstFall noted n → IsFound r (Illegal n)
fall_is r log noted n e same fall = found_is r log (Illegal n) e (inl (subst (λ xs. IsFirstFall xs n) same fall))

pub legal_is : (log : Log) (order : List Noted) (l : History) (n : ℕ) → IsFiled log.callers log.begun log.noted → Rises log.noted → IsMerged log.noted order
    → l ≡ history order → length order ≡ length log.noted → n ≡ length l → (n ≡ length l → IsLegal log.rows l) → IsGood log.rows (lists_of log) × (n ≡ length log.noted)
legal_is log order l n f rises m e size all legal =
    (good log order f rises m (subst (IsLegal log.rows) e (legal all)), all ∙ ap length e ∙ history_count order ∙ size)

pub illegal_is : (log : Log) (order : List Noted) (l : History) (lines : List ℕ) (n d : ℕ) → Rises log.noted → IsMerged log.noted order
    → l ≡ history order → lines ≡ map line_of order → n < length lines → IsLegalUpTo log.rows l n
    → IsFirstFall log.noted (get_or lines n d) ⊎ (Rises log.noted × IsFirstNoStep log.rows log.noted (get_or lines n d))
illegal_is log order l lines n d rises m e at less legal =
    inr (
      rises,
      record {
        order = order;
        place = n;
        merged = m;
        within = (let c = line_count order in let s = ap length at in omega arith);
        legal = subst (λ h. IsLegalUpTo log.rows h n) e legal;
        line = ap (λ ls. get_or ls n 0) (sym at) ∙ same_at lines n 0 d less;
      },
    )
  where
    same_at : (ls : List ℕ) (k a b : ℕ) → k < length ls → get_or ls k a ≡ get_or ls k b
    same_at [] k a b lt = absurd (omega arith)
    same_at (x ∷ ls) zero a b lt = refl
    same_at (x ∷ ls) (suc k) a b lt = same_at ls k a b (omega arith)
