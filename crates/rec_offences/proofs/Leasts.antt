-- The least of what was found.
use Rattle.std.proofs.lemmas.Result.{on_ok_weaker}
use Rattle.rec_offences.proofs.Common.{nat_tests, ◌≡◌, ℕ, suc, ◌+◌, ◌<◌, ◌≤◌, min, length-drop, Bool, true, false, cond, List, [], ◌∷◌, ◌++◌, length, drop, get_or, Option, refl, sym, ap, ◌∙◌, add-one, arith, drop-cons, rules, ◌||◌, ◌&&◌, ◌==◌, nat_lt, Some, None, ◌⊎◌, inl, inr, subst, filter, flat_map, Name, Node, Refusal, Argument, heads, lesser, least_with, of_kind, offence_at, goes_before, offences_of, fault_of, clashing_sorts, drop_all, nil_from_length, flat_map-append, Parsed, IsLeastOf, common_steps}
use Rattle.std.specs.Prelude.{Contains}

-- ---- offences that are noted one after another

pub least_append : (found : Option Refusal) (xs ys : List Refusal) → least_with found (xs ++ ys) ≡ least_with (least_with found xs) ys
least_append found [] ys = refl
least_append found (x ∷ xs) ys = least_append (lesser found x) xs ys

-- one name more, where it is so
abbrev pub picked : Bool → Name → List Name
picked b n = cond b (n ∷ []) []

-- behind what was found nothing counts
pub noted_behind : (found : Option Refusal) (kind : ℕ) (n : Name) (b : Bool) → lesser found (offence_at kind n) ≡ found → found ≡ least_with found (of_kind kind (picked b n))
noted_behind found kind n b h = grind (arith, nat_tests)

module _ {X : Type 0} (all : List X → List Refusal) (one : X → List Refusal) (splits : (x : X) (xs : List X) → all (x ∷ xs) ≡ one x ++ all xs) where
  -- after one item more
  pub noted_turn : (xs : List X) (i : ℕ) (x : X) (found now start : Option Refusal) → i < length xs → x ≡ get_or xs i x →
      now ≡ least_with found (one x) → least_with found (all (drop i xs)) ≡ start → least_with now (all (drop (i + 1) xs)) ≡ start
  noted_turn xs i x found now start l at is was = grind (arith, nat_tests, least_append, drop-cons, add-one)

-- after all items
pub noted_end : {X : Type 0} (all : List X → List Refusal) → all [] ≡ [] → (xs : List X) (i : ℕ) (found start : Option Refusal) → length xs ≤ i →
    least_with found (all (drop i xs)) ≡ start → found ≡ start
noted_end all empty xs i found start l was = sym (ap (λ ys. least_with found (all ys)) (drop_all xs i l) ∙ ap (least_with found) empty) ∙ was

-- what is noted of the heads of nodes is noted of one part and then of the other
pub marks_append : (kind : ℕ) (test : Name → Bool) (xs ys : List Node) →
    of_kind kind (filter test (heads (xs ++ ys))) ≡ of_kind kind (filter test (heads xs)) ++ of_kind kind (filter test (heads ys))
marks_append kind test [] ys = refl
marks_append kind test (x ∷ xs) ys = grind (arith, nat_tests, marks_append kind test xs ys)

-- no argument is left, or no sort
pub clashing_end : (bytes : List ℕ) (wanted : List Name) (arguments : List Argument) (k : ℕ) → min (length wanted) (length arguments) ≤ k →
    clashing_sorts bytes (drop k wanted) (drop k arguments) ≡ []
clashing_end bytes wanted arguments k h = by (drop k wanted) (drop k arguments) (omega (arith, length-drop k wanted, length-drop k arguments))
  where
    by : (ws : List Name) (others : List Argument) → min (length ws) (length others) ≡ 0 → clashing_sorts bytes ws others ≡ []
    by [] others e = refl
    by (w ∷ ws) others e = grind (arith, nil_from_length others)

-- one list after another
pub noted_after : (found one two : Option Refusal) (xs ys : List Refusal) → one ≡ least_with found xs → two ≡ least_with one ys → two ≡ least_with found (xs ++ ys)
noted_after found one two xs ys a b = b ∙ ap (λ o. least_with o ys) a ∙ sym (least_append found xs ys)

-- three lists after another
pub three_after : (found one two : Option Refusal) (ws xs ys zs : List Refusal) →
    one ≡ least_with found ws → two ≡ least_with one (xs ++ ys ++ zs) → two ≡ least_with found (ws ++ xs ++ ys ++ zs)
three_after found one two ws xs ys zs a b = grind (arith, nat_tests, least_append)

-- ---- the least of offences doesn't depend on their order

same_parts : (a b c d : ℕ) → (nat_lt a b || (a == b && nat_lt c d)) ≡ false → (nat_lt b a || (b == a && nat_lt d c)) ≡ false → (a ≡ b) × (c ≡ d)
same_parts a b c d h k = grind (arith, nat_tests)

pub one_way : (x y : Refusal) → goes_before x y ≡ true → goes_before y x ≡ false
one_way x y h = grind (arith, nat_tests)

pub only_same : (x y : Refusal) → goes_before x y ≡ false → goes_before y x ≡ false → x ≡ y
only_same x y h k = let same = same_parts x.place y.place x.kind y.kind h k in λ i. record { kind = same.1 i; place = same.0 i }

pub along : (x y z : Refusal) → goes_before x y ≡ false → goes_before y z ≡ false → goes_before x z ≡ false
along x y z h k = grind (arith, nat_tests)

-- behind the least that was found, none goes before it
pub behind : (least : Refusal) (kind : ℕ) (n : Name) → nat_lt least.place n.start ≡ true → lesser (Some least) (offence_at kind n) ≡ Some least
behind least kind n h = grind (arith, nat_tests)

lesser_swap : (found : Option Refusal) (x y : Refusal) → lesser (lesser found x) y ≡ lesser (lesser found y) x
lesser_swap found x y = grind (arith, nat_tests)

swap_one : (found : Option Refusal) (y : Refusal) (xs : List Refusal) → least_with (lesser found y) xs ≡ lesser (least_with found xs) y
swap_one found y [] = refl
swap_one found y (x ∷ xs) = ap (λ o. least_with o xs) (lesser_swap found y x) ∙ swap_one (lesser found x) y xs

swap_all : (found : Option Refusal) (xs ys : List Refusal) → least_with (least_with found ys) xs ≡ least_with (least_with found xs) ys
swap_all found xs [] = refl
swap_all found xs (y ∷ ys) = swap_all (lesser found y) xs ys ∙ ap (λ o. least_with o ys) (swap_one found y xs)

-- what is found at each of many together is found by one kind after another
pub together : {V : Type 0} (first others : V → List Refusal) (found : Option Refusal) (vs : List V) →
    least_with found (flat_map (λ v. first v ++ others v) vs) ≡ least_with (least_with found (flat_map first vs)) (flat_map others vs)
together first others found [] = refl
together first others found (v ∷ vs) = grind (arith, nat_tests, together first others (least_with found (first v ++ others v)) vs, least_append, swap_all)

pub kinds_append : (kind : ℕ) (xs ys : List Name) → of_kind kind (xs ++ ys) ≡ of_kind kind xs ++ of_kind kind ys
kinds_append kind [] ys = refl
kinds_append kind (x ∷ xs) ys = ap (λ os. offence_at kind x ∷ os) (kinds_append kind xs ys)

pub kinds_flat : {V : Type 0} (kind : ℕ) (names : V → List Name) (vs : List V) → flat_map (λ v. of_kind kind (names v)) vs ≡ of_kind kind (flat_map names vs)
kinds_flat kind names [] = refl
kinds_flat kind names (v ∷ vs) = ap (λ os. of_kind kind (names v) ++ os) (kinds_flat kind names vs) ∙ sym (kinds_append kind (names v) (flat_map names vs))

-- three kinds at each of many, and more of the last kind
pub three_kinds : {V : Type 0} (i j k : ℕ) (a b c : V → List Name) (more : List Name) (found after now : Option Refusal) (vs : List V) →
    after ≡ least_with found (flat_map (λ v. of_kind i (a v) ++ of_kind j (b v) ++ of_kind k (c v)) vs) → now ≡ least_with after (of_kind k more) →
    now ≡ least_with found (of_kind i (flat_map a vs) ++ of_kind j (flat_map b vs) ++ of_kind k (flat_map c vs ++ more))
three_kinds i j k a b c more found after now vs visited is =
    grind (arith, together (λ v. of_kind i (a v) ++ of_kind j (b v)) (λ v. of_kind k (c v)) found vs, together (λ v. of_kind i (a v)) (λ v. of_kind j (b v)) found vs, kinds_flat i a vs, kinds_flat j b vs, kinds_flat k c vs, least_append, kinds_append k (flat_map c vs) more)

-- what is noted at rules and at terms to be rewritten, of which the latter have one kind more, and more of the third kind
pub four_kinds : {V T : Type 0} (i j k m : ℕ) (a b c : V → List Name) (n : V → List Name) (visit : T → List V) (rules values : List T) (more : List Name) (found one two now : Option Refusal) →
    one ≡ least_with found (flat_map (λ v. of_kind i (a v) ++ of_kind j (b v) ++ of_kind k (c v)) (flat_map visit rules)) →
    two ≡ least_with one (flat_map (λ v. of_kind m (n v) ++ (of_kind i (a v) ++ of_kind j (b v) ++ of_kind k (c v))) (flat_map visit values)) →
    now ≡ least_with two (of_kind k more) →
    now ≡ least_with found
    (of_kind i (flat_map a (flat_map visit (rules ++ values)))
    ++ of_kind j (flat_map b (flat_map visit (rules ++ values)))
    ++ of_kind k (flat_map c (flat_map visit (rules ++ values)) ++ more)
    ++ of_kind m (flat_map n (flat_map visit values)))
four_kinds {V} i j k m a b c n visit rules values more found one two now ruled valued is =
    let all : V → List Refusal = λ v. of_kind i (a v) ++ of_kind j (b v) ++ of_kind k (c v) in
    let vs = flat_map visit values in
    let late = flat_map (λ v. of_kind m (n v)) vs in
    let both = least_with found (flat_map all (flat_map visit (rules ++ values))) in
    let whole : least_with one (flat_map all vs) ≡ both = grind (arith, ruled, least_append, flat_map-append) in
    let three = three_kinds i j k a b c more found both (least_with both (of_kind k more)) (flat_map visit (rules ++ values)) refl refl in
    grind (arith, is, valued, together (λ v. of_kind m (n v)) all one vs, swap_all one (flat_map all vs) late, whole, swap_all both (of_kind k more) late, three, least_append, kinds_flat m n vs)

-- what is noted last might have been noted first
pub last_first : (one two three now : Option Refusal) (a b k e : List Refusal) →
    two ≡ least_with one a → three ≡ least_with two b → now ≡ least_with three (k ++ e) → now ≡ least_with (least_with (least_with (least_with one e) a) b) k
last_first one two three now a b k e second third is = grind (arith, nat_tests, least_append, swap_all)

pub in_none : (p : Refusal) → Contains [] p → ⊥
in_none p c = let l = c.1 in absurd (omega (arith, l))

at_head : (x : Refusal) (os : List Refusal) → Contains (x ∷ os) x
at_head x os = (0, omega arith, refl)

later : (x p : Refusal) (os : List Refusal) → Contains os p → Contains (x ∷ os) p
later x p os c = let l = c.1 in (suc c.0, omega (arith, l), c.2)

head_or_behind : (x p : Refusal) (os : List Refusal) → Contains (x ∷ os) p → (x ≡ p) ⊎ Contains os p
head_or_behind x p os h = grind (arith, nat_tests)

-- one offence more, which doesn't go before the least
one_more : (x fault : Refusal) (os more : List Refusal) → ((p : Refusal) → Contains os p → Contains more p) → ((p : Refusal) → Contains more p → (x ≡ p) ⊎ Contains os p) →
    goes_before x fault ≡ false → IsLeastOf os fault → IsLeastOf more fault
one_more x fault os more to from before l = record {
  one = to fault l.one;
  least = λ p c. elim (from p c) [ inl e ↦ subst (λ q. goes_before q fault ≡ false) e before | inr d ↦ l.least p d ];
}

-- what comes of something found and more
least_of : (found fault : Refusal) (os : List Refusal) → least_with (Some found) os ≡ Some fault → IsLeastOf (found ∷ os) fault
least_of found fault [] h =
    let e : found ≡ fault = cc in
    record { one = (0, omega arith, e); least = λ p c. grind (arith, nat_tests, head_or_behind found p [] c, in_none p) }
least_of found fault (x ∷ os) h = by (goes_before x found) refl h (least_of x fault os) (least_of found fault os)
  where
    between : (p : Refusal) → Contains (found ∷ os) p → Contains (found ∷ x ∷ os) p
    between p c = elim (head_or_behind found p os c) [ inl e ↦ subst (Contains (found ∷ x ∷ os)) e (at_head found (x ∷ os)) | inr d ↦ later found p (x ∷ os) (later x p os d) ]

    apart : (p : Refusal) → Contains (found ∷ x ∷ os) p → (x ≡ p) ⊎ Contains (found ∷ os) p
    apart p c = grind (arith, nat_tests, head_or_behind found p (x ∷ os) c, at_head found os, head_or_behind x p os, later found p os)

    by : (b : Bool) → goes_before x found ≡ b → least_with (cond b (Some x) (Some found)) os ≡ Some fault → (least_with (Some x) os ≡ Some fault → IsLeastOf (x ∷ os) fault) →
        (least_with (Some found) os ≡ Some fault → IsLeastOf (found ∷ os) fault) → IsLeastOf (found ∷ x ∷ os) fault
    by true k e f g =
        one_more found fault (x ∷ os) (found ∷ x ∷ os) (λ p. later found p (x ∷ os)) (λ p. head_or_behind found p (x ∷ os)) (along found x fault (one_way x found k) ((f e).least x (at_head x os))) (f e)
    by false k e f g =
        one_more x fault (found ∷ os) (found ∷ x ∷ os) between apart (along x found fault k ((g e).least found (at_head found os))) (g e)

pub of_all : (os : List Refusal) (fault : Refusal) → least_with None os ≡ Some fault → IsLeastOf os fault
of_all [] fault h = absurd cc
of_all (x ∷ os) fault h = least_of x fault os h

pub fault_is_least : (syntax : Parsed) (fault : Refusal) → fault_of syntax ≡ Some fault → IsLeastOf (offences_of syntax) fault
fault_is_least syntax fault h = of_all (offences_of syntax) fault h

-- what was found is never lost
still : (found : Refusal) (os : List Refusal) → least_with (Some found) os ≡ None → ⊥
still found [] h = cc
still found (x ∷ os) h = grind (arith, nat_tests, still x os, still found os)

pub none_of_all : (os : List Refusal) → least_with None os ≡ None → os ≡ []
none_of_all [] h = refl
none_of_all (x ∷ os) h = absurd (still x os h)

pub faultless_has_none : (syntax : Parsed) → fault_of syntax ≡ None → offences_of syntax ≡ []
faultless_has_none syntax h = none_of_all (offences_of syntax) h

-- what is noted one after another, and of the parts of a list
pub ruleset noting = (common_steps, on_ok_weaker, noted_after, noted_behind)

pub ruleset noting_parts = (common_steps, noted_turn, noted_end, least_append, marks_append)

pub ruleset fault_of_all = (fault_is_least, faultless_has_none)
