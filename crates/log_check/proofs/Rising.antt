-- Keys that rise, entry by entry.
use Rattle.std.proofs.Common.{◌≡◌, ℕ, zero, suc, ◌+◌, ◌-◌, ◌<◌, ◌≤◌, Bool, true, false, List, [], ◌∷◌, ◌++◌, length, take, get_or, refl, sym, ap, ◌∙◌, subst, arith, ◌⊎◌, inl, inr, ltb}
use Rattle.std.specs.Prelude.{if◌then◌else◌, ◌==◌, ◌&&◌, nat_le, nat_lt}
use Rattle.std.specs.List.{AllByRecursion}
use Rattle.std.proofs.lemmas.Bool.{cases_eq, eq-eqb, lt-ltb, le-ltb}
use Rattle.std.proofs.lemmas.Bool.Decides.{nat_tests}
use Rattle.std.proofs.lemmas.List.{take_more}
use Rattle.history_core.specs.declared.entry.Entry.{Entry}
use Rattle.history_core.specs.declared.entry.Entry.TheVariants.{Collect}
use Rattle.history_core.specs.Entry.{key, is_numbered}
use Rattle.history_core.specs.Chronicle.{part_of, KeysRise}
use Rattle.history_core.proofs.Own.{own_part, other_part}
use Rattle.log_check.specs.declared.log.Noted.{Noted}
use Rattle.log_check.specs.Filed.{CallersRise, IsFiled, falls, breaks, breaks_at}
use Rattle.log_check.specs.Verdict.{history, Rises, IsFirstFall}

-- an entry may come after another of its caller
abbrev pub Follows : Entry → Entry → Type 0
Follows d e = (key d ≤ key e) × (is_numbered e ≡ true → key d < key e)

-- ---- one more at the end

module _ {X : Type 0} (P : X → Type 0) where
  pub all_end : (xs : List X) (x : X) → AllByRecursion P xs → P x → AllByRecursion P (xs ++ x ∷ [])
  all_end [] x a p = (p, tt)
  all_end (y ∷ ys) x a p = (a.0, all_end ys x a.1 p)

  pub last_of : (xs : List X) (x : X) → AllByRecursion P (xs ++ x ∷ []) → P x
  last_of [] x a = a.0
  last_of (y ∷ ys) x a = last_of ys x a.1

  pub all_take : (i : ℕ) (xs : List X) → AllByRecursion P xs → AllByRecursion P (take i xs)
  all_take zero [] a = tt
  all_take (suc i) [] a = tt
  all_take zero (x ∷ xs) a = tt
  all_take (suc i) (x ∷ xs) a = (a.0, all_take i xs a.1)

rise_end : (es : List Entry) (e : Entry) → KeysRise es → AllByRecursion (λ d. Follows d e) es → KeysRise (es ++ e ∷ [])
rise_end [] e k a = (tt, tt)
rise_end (d ∷ es) e k a = (all_end (Follows d) es e k.0 a.0, rise_end es e k.1 a.1)

last_follows : (es : List Entry) (e : Entry) → KeysRise (es ++ e ∷ []) → AllByRecursion (λ d. Follows d e) es
last_follows [] e k = tt
last_follows (d ∷ es) e k = (last_of (Follows d) es e k.0, last_follows es e k.1)

one_on : (d p e : Entry) → Follows d p → Follows p e → Follows d e
one_on d p e f g =
    let a = f.0 in let b = g.0 in
    let low : key d ≤ key e = omega arith in
    (low, λ n. let c = g.1 n in omega arith)

follow_on : (p e : Entry) → Follows p e → (es : List Entry) → AllByRecursion (λ d. Follows d p) es → AllByRecursion (λ d. Follows d e) es
follow_on p e f [] a = tt
follow_on p e f (d ∷ es) a = (one_on d p e a.0 f, follow_on p e f es a.1)

pub callers_end : (xs : List Noted) (y : Noted) → CallersRise xs → AllByRecursion (λ x. x.caller ≤ y.caller) xs → CallersRise (xs ++ y ∷ [])
callers_end [] y k a = (tt, tt)
callers_end (x ∷ xs) y k a = (all_end (λ z. x.caller ≤ z.caller) xs y k.0 a.0, callers_end xs y k.1 a.1)

last_is_highest : (xs : List Noted) (y : Noted) → CallersRise (xs ++ y ∷ []) → AllByRecursion (λ x. x.caller ≤ y.caller) xs
last_is_highest [] y k = tt
last_is_highest (x ∷ xs) y k = (last_of (λ z. x.caller ≤ z.caller) xs y k.0, last_is_highest xs y k.1)

callers_take : (i : ℕ) (xs : List Noted) → CallersRise xs → CallersRise (take i xs)
callers_take zero [] k = tt
callers_take (suc i) [] k = tt
callers_take zero (x ∷ xs) k = tt
callers_take (suc i) (x ∷ xs) k = (all_take (λ z. x.caller ≤ z.caller) i xs k.0, callers_take i xs k.1)

-- ---- the parts of callers

part_own : (c : ℕ) (xs : List Noted) (y : Noted) → y.caller ≡ c → part_of c (history (xs ++ y ∷ [])) ≡ part_of c (history xs) ++ y.entry ∷ []
part_own c [] y e = own_part c (y.caller, y.entry) [] e
part_own c (x ∷ xs) y e = go (x.caller == c) (part_own c xs y e)
  where
    go : (b : Bool) → part_of c (history (xs ++ y ∷ [])) ≡ part_of c (history xs) ++ y.entry ∷ []
        → (if b then x.entry ∷ part_of c (history (xs ++ y ∷ [])) else part_of c (history (xs ++ y ∷ []))) ≡ (if b then x.entry ∷ part_of c (history xs) else part_of c (history xs)) ++ y.entry ∷ []
    go true r = ap (λ es. x.entry ∷ es) r
    go false r = r

part_other : (c : ℕ) (xs : List Noted) (y : Noted) → (y.caller ≡ c → ⊥) → part_of c (history (xs ++ y ∷ [])) ≡ part_of c (history xs)
part_other c [] y ne = other_part c (y.caller, y.entry) [] ne
part_other c (x ∷ xs) y ne = go (x.caller == c) (part_other c xs y ne)
  where
    go : (b : Bool) → part_of c (history (xs ++ y ∷ [])) ≡ part_of c (history xs)
        → (if b then x.entry ∷ part_of c (history (xs ++ y ∷ [])) else part_of c (history (xs ++ y ∷ []))) ≡ (if b then x.entry ∷ part_of c (history xs) else part_of c (history xs))
    go true r = ap (λ es. x.entry ∷ es) r
    go false r = r

pub no_part : (c : ℕ) (xs : List Noted) → AllByRecursion (λ x. x.caller < c) xs → part_of c (history xs) ≡ []
no_part c [] a = refl
no_part c (x ∷ xs) a = other_part c (x.caller, x.entry) (history xs) (λ e. let l = a.0 in omega arith) ∙ no_part c xs a.1

-- ---- tests

follows_by : (d e : Entry) → falls d e ≡ false → Follows d e
follows_by d e h = go (is_numbered e) refl h
  where
    go : (b : Bool) → is_numbered e ≡ b → (if b then nat_le (key e) (key d) else nat_lt (key e) (key d)) ≡ false → Follows d e
    go true n h = let l : key d < key e = grind (arith, nat_tests) in let m : key d ≤ key e = omega arith in (m, λ _. l)
    go false n h = let l : key d ≤ key e = grind (arith, nat_tests) in (l, λ m. let bad : true ≡ false = sym m ∙ n in cc)

falls_not : (d e : Entry) → falls d e ≡ true → Follows d e → ⊥
falls_not d e h f = go (is_numbered e) refl h
  where
    go : (b : Bool) → is_numbered e ≡ b → (if b then nat_le (key e) (key d) else nat_lt (key e) (key d)) ≡ true → ⊥
    go true n h = let l : key e ≤ key d = grind (arith, nat_tests) in let m = f.1 n in omega arith
    go false n h = let l : key e < key d = grind (arith, nat_tests) in let m = f.0 in omega arith

not_broken : (p y : Noted) → p.caller ≡ y.caller → breaks p y ≡ false → falls p.entry y.entry ≡ false
not_broken p y e h = sym (ap (λ b. b && falls p.entry y.entry) (eq-eqb p.caller y.caller e)) ∙ h

broken : (p y : Noted) → breaks p y ≡ true → (p.caller ≡ y.caller) × (falls p.entry y.entry ≡ true)
broken p y h = go (cases_eq p.caller y.caller)
  where
    go : (p.caller ≡ y.caller) ⊎ (p.caller ≡ y.caller → ⊥) → (p.caller ≡ y.caller) × (falls p.entry y.entry ≡ true)
    go (inl e) = (e, sym (ap (λ b. b && falls p.entry y.entry) (eq-eqb p.caller y.caller e)) ∙ h)
    go (inr ne) = grind (arith, nat_tests)

-- ---- one entry more

first_rises : (y : Noted) → Rises (y ∷ [])
first_rises y c = go (y.caller == c)
  where
    go : (b : Bool) → KeysRise (if b then y.entry ∷ [] else [])
    go true = (tt, tt)
    go false = tt

behind : (c : ℕ) (front : List Noted) (p y : Noted) → CallersRise ((front ++ p ∷ []) ++ y ∷ []) → KeysRise (part_of c (history (front ++ p ∷ []))) → breaks p y ≡ false → y.caller ≡ c
    → (p.caller ≡ c) ⊎ (p.caller ≡ c → ⊥) → AllByRecursion (λ d. Follows d y.entry) (part_of c (history (front ++ p ∷ [])))
behind c front p y rise k ok same (inl own) =
    let f : Follows p.entry y.entry = follows_by p.entry y.entry (not_broken p y (own ∙ sym same) ok) in
    let e = part_own c front p own in
    subst (AllByRecursion (λ d. Follows d y.entry)) (sym e)
    (all_end (λ d. Follows d y.entry) (part_of c (history front)) p.entry
    (follow_on p.entry y.entry f (part_of c (history front)) (last_follows (part_of c (history front)) p.entry (subst KeysRise e k))) f)
behind c front p y rise k ok same (inr ne) =
    let high : AllByRecursion (λ x. x.caller ≤ y.caller) (front ++ p ∷ []) = last_is_highest (front ++ p ∷ []) y rise in
    let own : AllByRecursion (λ x. x.caller ≤ p.caller) front = last_is_highest front p (before_end (front ++ p ∷ []) y rise) in
    let l : p.caller ≤ y.caller = last_of (λ x. x.caller ≤ y.caller) front p high in
    let less : p.caller < c = strictly p.caller y.caller c l same ne in
    subst (AllByRecursion (λ d. Follows d y.entry)) (sym (no_part c (front ++ p ∷ []) (all_end (λ x. x.caller < c) front p (lower front own less) less))) tt
  where
    strictly : (a b d : ℕ) → a ≤ b → b ≡ d → (a ≡ d → ⊥) → a < d
    strictly a b d l e n = go (cases_eq a d)
      where
        go : (a ≡ d) ⊎ (a ≡ d → ⊥) → a < d
        go (inl s) = absurd (n s)
        go (inr m) = omega arith

    lower : (xs : List Noted) → AllByRecursion (λ x. x.caller ≤ p.caller) xs → p.caller < c → AllByRecursion (λ x. x.caller < c) xs
    lower [] a l = tt
    lower (x ∷ xs) a l = ((let m = a.0 in omega arith), lower xs a.1 l)

    before_end : (xs : List Noted) (z : Noted) → CallersRise (xs ++ z ∷ []) → CallersRise xs
    before_end [] z k = tt
    before_end (x ∷ xs) z k = (first_all (λ w. x.caller ≤ w.caller) xs z k.0, before_end xs z k.1)
      where
        first_all : (P : Noted → Type 0) (ws : List Noted) (w : Noted) → AllByRecursion P (ws ++ w ∷ []) → AllByRecursion P ws
        first_all P [] w a = tt
        first_all P (v ∷ ws) w a = (a.0, first_all P ws w a.1)

rise_more : (front : List Noted) (p y : Noted) → CallersRise ((front ++ p ∷ []) ++ y ∷ []) → Rises (front ++ p ∷ []) → breaks p y ≡ false → Rises ((front ++ p ∷ []) ++ y ∷ [])
rise_more front p y rise r ok c = go (cases_eq y.caller c)
  where
    go : (y.caller ≡ c) ⊎ (y.caller ≡ c → ⊥) → KeysRise (part_of c (history ((front ++ p ∷ []) ++ y ∷ [])))
    go (inl same) =
        subst KeysRise (sym (part_own c (front ++ p ∷ []) y same))
        (rise_end (part_of c (history (front ++ p ∷ []))) y.entry (r c) (behind c front p y rise (r c) ok same (cases_eq p.caller c)))
    go (inr ne) = subst KeysRise (sym (part_other c (front ++ p ∷ []) y ne)) (r c)

rise_no_more : (front : List Noted) (p y : Noted) → breaks p y ≡ true → Rises ((front ++ p ∷ []) ++ y ∷ []) → ⊥
rise_no_more front p y h r =
    let b = broken p y h in
    let e : part_of y.caller (history ((front ++ p ∷ []) ++ y ∷ [])) ≡ (part_of y.caller (history front) ++ p.entry ∷ []) ++ y.entry ∷ []
    = part_own y.caller (front ++ p ∷ []) y refl ∙ ap (λ es. es ++ y.entry ∷ []) (part_own y.caller front p b.0) in
    let all = last_follows (part_of y.caller (history front) ++ p.entry ∷ []) y.entry (subst KeysRise e (r y.caller)) in
    falls_not p.entry y.entry b.1 (last_of (λ d. Follows d y.entry) (part_of y.caller (history front)) p.entry all)

-- ---- in a list

take_two : (xs : List Noted) (k : ℕ) (d : Noted) → suc k < length xs → take (suc k + 1) xs ≡ (take k xs ++ get_or xs k d ∷ []) ++ get_or xs (suc k) d ∷ []
take_two xs k d lt =
    let e : k + 1 ≡ suc k = omega arith in
    let one : take (suc k) xs ≡ take k xs ++ get_or xs k d ∷ [] = ap (λ (n : ℕ). take n xs) (sym e) ∙ take_more xs k d (omega arith) in
    take_more xs (suc k) d lt ∙ ap (λ ys. ys ++ get_or xs (suc k) d ∷ []) one

take_one : (xs : List Noted) (k : ℕ) (d : Noted) → suc k < length xs → take (suc k) xs ≡ take k xs ++ get_or xs k d ∷ []
take_one xs k d lt = let e : k + 1 ≡ suc k = omega arith in ap (λ (n : ℕ). take n xs) (sym e) ∙ take_more xs k d (omega arith)

take_none : (xs : List Noted) → take 0 xs ≡ []
take_none [] = refl
take_none (x ∷ xs) = refl

pub nothing_rises : (xs : List Noted) → Rises (take 0 xs)
nothing_rises xs = subst Rises (sym (take_none xs)) (λ c. tt)

is_after : (xs : List Noted) (k : ℕ) (d : Noted) (b : Bool) → breaks_at xs (suc k) d ≡ b → breaks (get_or xs k d) (get_or xs (suc k) d) ≡ b
is_after xs k d b h =
    let e : suc k - 1 ≡ k = omega arith in
    let l : ltb 0 (suc k) ≡ true = lt-ltb 0 (suc k) (omega arith) in
    ap (λ (n : ℕ). breaks (get_or xs n d) (get_or xs (suc k) d)) (sym e)
    ∙ sym (ap (λ t. t && breaks (get_or xs (suc k - 1) d) (get_or xs (suc k) d)) l) ∙ h

pub rises_on : (xs : List Noted) (i : ℕ) (d : Noted) → i < length xs → CallersRise xs → Rises (take i xs) → breaks_at xs i d ≡ false → Rises (take (i + 1) xs)
rises_on xs zero d lt rise r ok = subst Rises (sym (take_more xs 0 d lt ∙ ap (λ ys. ys ++ get_or xs 0 d ∷ []) (take_none xs))) (first_rises (get_or xs 0 d))
rises_on xs (suc k) d lt rise r ok =
    subst Rises (sym (take_two xs k d lt))
    (rise_more (take k xs) (get_or xs k d) (get_or xs (suc k) d) (subst CallersRise (take_two xs k d lt) (callers_take (suc k + 1) xs rise))
    (subst Rises (take_one xs k d lt) r) (is_after xs k d false ok))

some_entry : Noted
some_entry = record { line = 0; caller = 0; entry = Collect 0 [] }

pub rises_at : (xs : List Noted) (i : ℕ) → i < length xs → CallersRise xs → Rises (take i xs) → ((d : Noted) → breaks_at xs i d ≡ false) → Rises (take (i + 1) xs)
rises_at xs i lt rise r ok = rises_on xs i some_entry lt rise r (ok some_entry)

falls_there : (xs : List Noted) (i : ℕ) (d : Noted) → i < length xs → breaks_at xs i d ≡ true → Rises (take i xs ++ get_or xs i d ∷ []) → ⊥
falls_there xs zero d lt bad r = let l : ltb 0 0 ≡ false = le-ltb 0 0 (omega arith) in let no : false ≡ true = sym (ap (λ t. t && breaks (get_or xs (0 - 1) d) (get_or xs 0 d)) l) ∙ bad in cc
falls_there xs (suc k) d lt bad r =
    rise_no_more (take k xs) (get_or xs k d) (get_or xs (suc k) d) (is_after xs k d true bad) (subst (λ ys. Rises (ys ++ get_or xs (suc k) d ∷ [])) (take_one xs k d lt) r)

abbrev pub behind_place : ℕ → List Noted → List Noted
behind_place zero [] = []
behind_place (suc i) [] = []
behind_place zero (x ∷ xs) = xs
behind_place (suc i) (x ∷ xs) = behind_place i xs

split_at : (i : ℕ) (xs : List Noted) (d : Noted) → i < length xs → xs ≡ take i xs ++ get_or xs i d ∷ behind_place i xs
split_at zero [] d lt = absurd (omega arith)
split_at (suc i) [] d lt = absurd (omega arith)
split_at zero (x ∷ xs) d lt = refl
split_at (suc i) (x ∷ xs) d lt = ap (λ ys. x ∷ ys) (split_at i xs d (omega arith))

pub first_fall_at : (xs : List Noted) (i : ℕ) (d : Noted) → i < length xs → Rises (take i xs) → breaks_at xs i d ≡ true → IsFirstFall xs (get_or xs i d).line
first_fall_at xs i d lt r bad = record {
  before = take i xs;
  breaks = get_or xs i d;
  rest = behind_place i xs;
  all = split_at i xs d lt;
  rise = r;
  fall = falls_there xs i d lt bad;
  line = refl;
}

-- ---- an entry of the last caller

lower_by_one : (n m : ℕ) (xs : List Noted) → n ≡ m + 1 → AllByRecursion (λ x. x.caller < n) xs → AllByRecursion (λ x. x.caller ≤ m) xs
lower_by_one n m [] e a = tt
lower_by_one n m (x ∷ xs) e a = ((let l = a.0 in omega arith), lower_by_one n m xs e a.1)

pub filed_end : (callers begun : ℕ) (xs : List Noted) (y : Noted) → 0 < begun → y.caller ≡ begun - 1 → IsFiled callers begun xs → IsFiled callers begun (xs ++ y ∷ [])
filed_end callers begun xs y some e f = record {
  few = f.few;
  each = all_end (λ x. x.caller < begun) xs y f.each (omega arith);
  rise = callers_end xs y f.rise (lower_by_one begun y.caller xs (omega arith) f.each);
}
