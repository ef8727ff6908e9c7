-- Good entries may be told: a legal history names only names below its rows.
use Rattle.std.proofs.Common.{◌≡◌, ℕ, zero, suc, ◌<◌, ◌≤◌, ◌^◌, Bool, true, false, List, [], ◌∷◌, ◌++◌, length, refl, sym, ap, ◌∙◌, subst, arith}
use Rattle.std.specs.Prelude.{if◌then◌else◌, ◌==◌, Contains}
use Rattle.std.specs.List.{AllByRecursion}
use Rattle.term_model.specs.Tree.{count_of}
use Rattle.term_model.specs.declared.Head.{Head}
use Rattle.term_model.specs.declared.Head.TheVariants.{App, Int, Nil, Cons}
use Rattle.term_model.proofs.Order.{both_hold}
use Rattle.std.proofs.lemmas.Bool.{ltb-true}
use Rattle.history_core.specs.declared.entry.Entry.{Entry}
use Rattle.history_core.specs.TermSet.{Names, TermSet, IsHeld, IsSound, empty, trees_at, tree_over, IsReached}
use Rattle.history_core.specs.declared.entry.Entry.TheVariants.{Make, Find, Roots, Collect}
use Rattle.history_core.specs.Entry.{key, IsStep, after}
use Rattle.history_core.specs.Told.{told, named}
use Rattle.history_core.specs.Chronicle.{History, Legal, chronicle, part_of, entries_of, IsGood}
use Rattle.history_core.proofs.Members.{contains_here, contains_there}
use Rattle.history_core.proofs.Own.{own_order_stays}
use Rattle.history_core.proofs.Places.{rising_never_falls}
use Rattle.history_core.proofs.Sound.{step_sound, empty_sound}
use Rattle.log_text.specs.Keys.{HaveKeys}
use Rattle.log_check.specs.Form.{takes}
use Rattle.log_laws.specs.ReadBack.{IsTold, AreNames, MayTell}
use Rattle.log_laws.specs.Told.{AllHeads, is_told, may_tell}
use Rattle.log_laws.specs.Good.{NamesToldTrees, MayHaveLog}
use Rattle.log_laws.specs.Whole.{MayTellAll}

each_held : (rows : ℕ) (s : TermSet) → rows ≤ 2 ^ 32 → IsSound rows s → (ns : List ℕ) → AllByRecursion (IsHeld s.held) ns → AreNames ns
each_held rows s few sound [] h = tt
each_held rows s few sound (n ∷ ns) h =
    let less : n < rows = sound.below n h.0.0 h.0.1 in
    (omega (arith, less, few), each_held rows s few sound ns h.1)

each_kept : (rows : ℕ) (s : TermSet) → rows ≤ 2 ^ 32 → IsSound rows s → (ns : List ℕ) → ((n : ℕ) → Contains ns n → IsReached s n) → AreNames ns
each_kept rows s few sound [] h = tt
each_kept rows s few sound (n ∷ ns) h =
    let reached = h n (contains_here n ns) in
    let less : n < rows = sound.below n reached.below reached.tree in
    (omega (arith, less, few), each_kept rows s few sound ns (λ m c. h m (contains_there n ns m c)))

counted : (h : Names) (ns : List ℕ) → count_of (trees_at h ns) ≡ length ns
counted h [] = refl
counted h (n ∷ ns) = let rest = counted h ns in omega (arith, rest)

is_told_so : (h : Head) → is_told h ≡ true → IsTold h
is_told_so (App f) e = ltb-true f.0 65535 e
is_told_so (Int v) e = ltb-true v (2 ^ 64) e
is_told_so Nil e = tt
is_told_so Cons e = tt

told_head : (h : Names) (head : Head) (args : List ℕ) → AllHeads may_tell (tree_over h head args) → IsTold head × (takes head (length args) ≡ true)
told_head h head args may =
    let both = both_hold (is_told head) (takes head (count_of (trees_at h args))) may.0 in
    (is_told_so head both.0, sym (ap (takes head) (counted h args)) ∙ both.1)

one_entry : (rows : ℕ) (s : TermSet) (e : Entry) → rows ≤ 2 ^ 32 → IsSound rows s → IsStep rows s e → AllByRecursion (AllHeads may_tell) (named s.held e) → key e < 2 ^ 62 → MayTell e
one_entry rows s (Make number head args row) few sound step may low =
    let t = told_head s.held head args may.0 in
    let less : row < rows = step.1 in
    (low, (omega (arith, less, few), t.0, t.1, each_held rows s few sound args step.0.names))
one_entry rows s (Find seen head args row) few sound step may low =
    let t = told_head s.held head args may.0 in
    let less : row < rows = sound.below row (tree_over s.held head args) step.1 in
    (low, (omega (arith, less, few), t.0, t.1, each_held rows s few sound args step.0.names))
one_entry rows s (Roots seen names) few sound step may low = (low, each_held rows s few sound names step)
one_entry rows s (Collect number kept) few sound step may low = (low, each_kept rows s few sound kept (λ n c. (step.1 n).0 c))

front_of : {A : Type 0} (P : A → Type 0) (xs ys : List A) → AllByRecursion P (xs ++ ys) → AllByRecursion P xs × AllByRecursion P ys
front_of P [] ys h = (tt, h)
front_of P (x ∷ xs) ys h = let rest = front_of P xs ys h.1 in ((h.0, rest.0), rest.1)

part_told : (rows : ℕ) (caller : ℕ) → rows ≤ 2 ^ 32 → (s : TermSet) (l : History) → IsSound rows s → Legal rows s l → AllByRecursion (AllHeads may_tell) (told named caller s l)
    → HaveKeys (part_of caller l) → AllByRecursion MayTell (part_of caller l)
part_told rows caller few s [] sound legal may low = tt
part_told rows caller few s (x ∷ xs) sound legal may low =
    go (x.0 == caller) (part_told rows caller few (after s x.0 x.1) xs (step_sound rows s x.0 x.1 sound legal.0) legal.1) may low
  where
    go : (b : Bool) → (AllByRecursion (AllHeads may_tell) (told named caller (after s x.0 x.1) xs) → HaveKeys (part_of caller xs) → AllByRecursion MayTell (part_of caller xs))
        → AllByRecursion (AllHeads may_tell) ((if b then named s.held x.1 else []) ++ told named caller (after s x.0 x.1) xs)
        → HaveKeys (if b then x.1 ∷ part_of caller xs else part_of caller xs) → AllByRecursion MayTell (if b then x.1 ∷ part_of caller xs else part_of caller xs)
    go true rest trees keys =
        let parts = front_of (AllHeads may_tell) (named s.held x.1) (told named caller (after s x.0 x.1) xs) trees in
        (one_entry rows s x.1 few sound legal.0 parts.0 keys.0, rest parts.1 keys.1)
    go false rest trees keys = rest trees keys

keys_of : (lists : List (List Entry)) → AllByRecursion HaveKeys lists → (caller : ℕ) → HaveKeys (entries_of lists caller)
keys_of [] h caller = tt
keys_of (es ∷ lists) h zero = h.0
keys_of (es ∷ lists) h (suc caller) = keys_of lists h.1 caller

each_list : (P : Entry → Type 0) (lists : List (List Entry)) → ((caller : ℕ) → caller < length lists → AllByRecursion P (entries_of lists caller)) → AllByRecursion (AllByRecursion P) lists
each_list P [] h = tt
each_list P (es ∷ lists) h = (h 0 (omega arith), each_list P lists (λ caller less. h (suc caller) (omega (arith, less))))

entries_told : (rows : ℕ) (lists : List (List Entry)) → rows ≤ 2 ^ 32 → IsGood rows lists → AllByRecursion HaveKeys lists → NamesToldTrees lists → AllByRecursion (AllByRecursion MayTell) lists
entries_told rows lists few good low may = each_list MayTell lists each
  where
    each : (caller : ℕ) → caller < length lists → AllByRecursion MayTell (entries_of lists caller)
    each caller less =
        let own : part_of caller (chronicle lists) ≡ entries_of lists caller = own_order_stays lists caller (rising_never_falls (entries_of lists caller) (good.rise caller)) in
        subst (AllByRecursion MayTell) own
        (part_told rows caller few empty (chronicle lists) (empty_sound rows) good.legal (may caller less) (subst HaveKeys (sym own) (keys_of lists low caller)))

pub good_told : (rows : ℕ) (lists : List (List Entry)) → MayHaveLog rows lists → IsGood rows lists → AllByRecursion HaveKeys lists → NamesToldTrees lists → MayTellAll rows lists
good_told rows lists has good low may =
    let few : rows ≤ 262144 = has.has_rows.1 in
    record { has_rows = has.has_rows; has_callers = has.has_callers; entries = entries_told rows lists (omega (arith, few)) good low may }
