-- A worked history: two callers, a Find and Roots at the key of a Make, and a Collect that drops
-- one of three pairs.
use Rattle.std.proofs.Common.{◌≡◌, ℕ, Bool, true, false, Some, None, List, [], ◌∷◌, refl, sym, ap, ◌∙◌, subst, arith, ◌⊎◌, inl, inr}
use Rattle.std.specs.Prelude.{Contains, if◌then◌else◌, ◌==◌}
use Rattle.term_model.specs.Tree.{Tree, Node, End, More, subtrees}
use Rattle.term_model.specs.declared.Head.TheVariants.{Int, Nil, Cons}
use Rattle.history_core.specs.TermSet.{Names, TermSet, empty, Holds, with_pair, with_roots, IsReached}
use Rattle.history_core.specs.Entry.{Entry, Make, Find, Roots, Collect, IsStep, after}
use Rattle.history_core.proofs.Members.{contains_here, contains_none, contains_cases}
use Rattle.history_core.proofs.Sound.{pair_split, some_same}
use Rattle.history_core.specs.Chronicle.{History, precedes, chronicle, earlier, set_of, IsLegal}

abbrev pub one : List Entry
one = Make 1 Nil [] 5 ∷ Make 3 (Int 7) [] 2 ∷ Roots 3 (5 ∷ []) ∷ Collect 6 (5 ∷ []) ∷ []

abbrev pub two : List Entry
two = Find 1 Nil [] 5 ∷ Make 2 (Int 8) [] 0 ∷ Make 4 Cons (2 ∷ 5 ∷ []) 9 ∷ Roots 4 [] ∷ []

abbrev pub merged : History
merged =
    (0, Make 1 Nil [] 5) ∷ (1, Find 1 Nil [] 5) ∷ (1, Make 2 (Int 8) [] 0) ∷ (0, Make 3 (Int 7) [] 2) ∷ (0, Roots 3 (5 ∷ []))
    ∷ (1, Make 4 Cons (2 ∷ 5 ∷ []) 9) ∷ (1, Roots 4 []) ∷ (0, Collect 6 (5 ∷ [])) ∷ []

pub merges : chronicle (one ∷ two ∷ []) ≡ merged
merges = refl

-- the cell's tree, and what the Collect leaves
pub names_a_cell : (set_of (earlier (2, Roots 4 []) merged)).held 9 ≡ Some (Node Cons (More (Node (Int 7) End) (More (Node Nil End) End)))
names_a_cell = refl

pub keeps_root : (set_of merged).held 5 ≡ Some (Node Nil End)
keeps_root = refl

pub drops_others : ((set_of merged).held 9 ≡ None) × ((set_of merged).held 2 ≡ None) × ((set_of merged).held 0 ≡ None)
drops_others = (refl, refl, refl)

pub last_of_one : (set_of merged).roots 0 ≡ 5 ∷ []
last_of_one = refl

-- a Make of caller 0 at number 4 goes before the Make of caller 1 there, and a Find after it
pub ties : (precedes (0, Make 4 Nil [] 1) (1, Make 4 Nil [] 9) ≡ true) × (precedes (1, Make 4 Nil [] 1) (0, Find 4 Nil [] 9) ≡ true) × (precedes (1, Find 4 Nil [] 1) (0, Find 4 Nil [] 9) ≡ false) × (precedes (0, Find 4 Nil [] 1) (0, Find 4 Nil [] 9) ≡ false)
ties = (refl, refl, refl, refl)

-- A legal history with a Collect that keeps one of two pairs: so the definitions can be met.
abbrev nil : Tree
nil = Node Nil End

abbrev eight : Tree
eight = Node (Int 8) End

abbrev pub short : History
short = (0, Make 1 Nil [] 5) ∷ (1, Make 2 (Int 8) [] 0) ∷ (1, Roots 2 (5 ∷ [])) ∷ (0, Collect 6 (5 ∷ [])) ∷ []

abbrev both : Names
both = with_pair (with_pair empty.held 5 nil) 0 eight

held_by_both : (n : ℕ) (t : Tree) → Holds both n t → ((n ≡ 0) × (eight ≡ t)) ⊎ ((n ≡ 5) × (nil ≡ t))
held_by_both n t e = go (pair_split (with_pair empty.held 5 nil) 0 eight n t e)
  where
    go : ((n ≡ 0) × (eight ≡ t)) ⊎ Holds (with_pair empty.held 5 nil) n t → ((n ≡ 0) × (eight ≡ t)) ⊎ ((n ≡ 5) × (nil ≡ t))
    go (inl k) = inl k
    go (inr h) = elim (pair_split empty.held 5 nil n t h) [ inl k ↦ inr k | inr none ↦ cc ]

abbrev before_collect : TermSet
before_collect = record { held = both; roots = with_roots (λ _. []) 1 (5 ∷ []) }

reached_five : IsReached before_collect 5
reached_five = record { caller = 1; root = 5; below = nil; above = nil; rooted = contains_here 5 []; root_tree = refl; tree = refl; inside = contains_here nil [] }

only_five : (n : ℕ) → IsReached before_collect n → n ≡ 5
only_five n r =
    let root : r.root ≡ 5 = rooted (r.caller == 1) r.rooted in
    let above : r.above ≡ nil = some_same r.above nil (sym r.root_tree ∙ ap both root) in
    let below : r.below ≡ nil = one_of_nil r.below (subst (λ t. Contains (subtrees t) r.below) above r.inside) in
    elim (held_by_both n r.below r.tree) [ inl k ↦ (let h : eight ≡ nil = k.1 ∙ below in cc) | inr k ↦ k.0 ]
  where
    rooted : (b : Bool) → Contains (if b then 5 ∷ [] else []) r.root → r.root ≡ 5
    rooted true c = elim (contains_cases 5 [] r.root c) [ inl e ↦ sym e | inr d ↦ absurd (contains_none r.root d) ]
    rooted false c = absurd (contains_none r.root c)

    one_of_nil : (t : Tree) → Contains (nil ∷ []) t → t ≡ nil
    one_of_nil t c = elim (contains_cases nil [] t c) [ inl e ↦ sym e | inr d ↦ absurd (contains_none t d) ]

pub short_is_legal : IsLegal 6 short
short_is_legal = (first, (second, (((nil, refl), tt), (collect, tt))))
  where
    first : IsStep 6 empty (Make 1 Nil [] 5)
    first = (record { names = tt; formed = refl }, omega arith, refl, λ n e. cc)

    second : IsStep 6 (after empty 0 (Make 1 Nil [] 5)) (Make 2 (Int 8) [] 0)
    second = (
      record { names = tt; formed = refl },
      omega arith,
      refl,
      λ n e. elim (pair_split empty.held 5 nil n eight e) [ inl k ↦ (let h : nil ≡ eight = k.1 in cc) | inr none ↦ cc ],
    )

    collect : IsStep 6 before_collect (Collect 6 (5 ∷ []))
    collect = (
      (tt, tt),
      λ n. (
        (λ c. elim (contains_cases 5 [] n c) [ inl e ↦ subst (IsReached before_collect) e reached_five | inr d ↦ absurd (contains_none n d) ]),
        (λ r. subst (Contains (5 ∷ [])) (sym (only_five n r)) (contains_here 5 [])),
      ),
    )
