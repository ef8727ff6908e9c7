-- The left sides of rules, one after another.
use Rattle.std.proofs.Common.{◌≡◌, ℕ, zero, suc, ◌+◌, ◌-◌, ◌≤◌, ◌<◌, List, [], ◌∷◌, ◌++◌, length, refl, sym, ◌∙◌, ap, arith, get_or, take, drop}
use Rattle.std.proofs.lemmas.List.{append_assoc, append-nil, length-append, take_more}
use Rattle.std.proofs.Math.Seq.{take-append_seam, drop-append_seam}
use Rattle.std.specs.Prelude.{All}
use Rattle.std.proofs.lemmas.List.Elements.{All-head, All-tail}
use Rattle.term_model.specs.Tree.{Tree}
use Rattle.term_model.specs.declared.Item.{Item}
use Rattle.rewrite_model.specs.Rule.{Rule}
use Rattle.rewrite_model.specs.Matching.{match_of}
use Rattle.rule_match.specs.Planned.{IsPlain, HasSymbolsAlone, match_at}
use Rattle.rule_match.specs.Preorder.{preorder, left_at, left_items, left_starts, IsCompiled}

items_push : (rules : List Rule) (r : Rule) → left_items (rules ++ r ∷ []) ≡ left_items rules ++ preorder r.left
items_push [] r = append-nil (preorder r.left)
items_push (q ∷ qs) r = ap (λ is. preorder q.left ++ is) (items_push qs r) ∙ sym (append_assoc (preorder q.left) (left_items qs) (preorder r.left))

starts_push : (n : ℕ) (rules : List Rule) (r : Rule) → left_starts n (rules ++ r ∷ []) ≡ left_starts n rules ++ (n + length (left_items (rules ++ r ∷ []))) ∷ []
starts_push n [] r = ap (λ k. n ∷ (n + k) ∷ []) (ap length (sym (append-nil (preorder r.left))))
starts_push n (q ∷ qs) r =
    ap (λ ks. n ∷ ks) (starts_push (n + length (preorder q.left)) qs r
    ∙ ap (λ k. left_starts (n + length (preorder q.left)) qs ++ k ∷ []) (let l = length-append (preorder q.left) (left_items (qs ++ r ∷ [])) in
    let k : (n + length (preorder q.left)) + length (left_items (qs ++ r ∷ [])) ≡ n + length (preorder q.left ++ left_items (qs ++ r ∷ [])) = omega (arith, l) in k))

-- one rule more
pub one_more : (rules : List Rule) (k : ℕ) (r : Rule) (left : Tree) (items after : List Item) (starts : List ℕ) → k < length rules → r ≡ get_or rules k r → left ≡ r.left → IsCompiled (take k rules) items starts → after ≡ items ++ preorder left → IsCompiled (take (k + 1) rules) after (starts ++ length after ∷ [])
one_more rules k r left items after starts l e is c a =
    let more : take (k + 1) rules ≡ take k rules ++ r ∷ [] = take_more rules k r l ∙ ap (λ q. take k rules ++ q ∷ []) (sym e) in
    let all : after ≡ left_items (take k rules ++ r ∷ []) = a ∙ ap (λ is. is ++ preorder left) c.in_order ∙ ap (λ p. left_items (take k rules) ++ preorder p) is ∙ sym (items_push (take k rules) r) in
    record {
      in_order = all ∙ ap left_items (sym more);
      begins =
          ap (λ ks. ks ++ length after ∷ []) c.begins
          ∙ ap (λ n. left_starts 0 (take k rules) ++ n ∷ []) (let l = ap length all in let z : length after ≡ 0 + length (left_items (take k rules ++ r ∷ [])) = omega (arith, l) in z)
          ∙ sym (starts_push 0 (take k rules) r)
          ∙ ap (left_starts 0) (sym more);
    }

-- where a rule's items stand
pub count-starts : (n : ℕ) (rules : List Rule) → length (left_starts n rules) ≡ length rules + 1
count-starts n [] = refl
count-starts n (r ∷ rs) = let q = count-starts (n + length (preorder r.left)) rs in omega (arith, q)

start_at : (n : ℕ) (rules : List Rule) (k d : ℕ) → k ≤ length rules → get_or (left_starts n rules) k d ≡ n + length (left_items (take k rules))
start_at n [] zero d l = omega arith
start_at n [] (suc k) d l = absurd (omega arith)
start_at n (r ∷ rs) zero d l = omega arith
start_at n (r ∷ rs) (suc k) d l =
    let q = start_at (n + length (preorder r.left)) rs k d (omega arith) in
    let m = length-append (preorder r.left) (left_items (take k rs)) in
    omega (arith, q, m)

around : (rules : List Rule) (k : ℕ) → k < length rules → left_items rules ≡ left_items (take k rules) ++ (preorder (left_at rules k) ++ left_items (drop (suc k) rules))
around [] k l = absurd (omega arith)
around (r ∷ rs) zero l = refl
around (r ∷ rs) (suc k) l = ap (λ is. preorder r.left ++ is) (around rs k (omega arith)) ∙ sym (append_assoc (preorder r.left) (left_items (take k rs)) (preorder (left_at rs k) ++ left_items (drop (suc k) rs)))

next_start : (rules : List Rule) (k : ℕ) → k < length rules → length (left_items (take (suc k) rules)) ≡ length (left_items (take k rules)) + length (preorder (left_at rules k))
next_start [] k l = absurd (omega arith)
next_start (r ∷ rs) zero l = let e = ap length (append-nil (preorder r.left)) in omega (arith, e)
next_start (r ∷ rs) (suc k) l =
    let q = next_start rs k (omega arith) in
    let a = length-append (preorder r.left) (left_items (take (suc k) rs)) in
    let b = length-append (preorder r.left) (left_items (take k rs)) in
    omega (arith, q, a, b)

pub record IsPart (rules : List Rule) (items : List Item) (k from to : ℕ) : Type 0 where
  pub order : from ≤ to
  pub within : to ≤ length items
  pub read : take (to - from) (drop from items) ≡ preorder (left_at rules k)

pub part_at : (rules : List Rule) (items : List Item) (starts : List ℕ) (k from to : ℕ) → IsCompiled rules items starts → k < length rules → from ≡ get_or starts k from → to ≡ get_or starts (k + 1) to → IsPart rules items k from to
part_at rules items starts k from to c l e f =
    let front = left_items (take k rules) in
    let here = preorder (left_at rules k) in
    let back = left_items (drop (suc k) rules) in
    let a' = e ∙ ap (λ ks. get_or ks k from) c.begins ∙ start_at 0 rules k from (omega arith) in
    let a : from ≡ length front = omega (arith, a') in
    let b' = f ∙ ap (λ ks. get_or ks (k + 1) to) c.begins ∙ start_at 0 rules (k + 1) to (omega arith) in
    let b : to ≡ length (left_items (take (k + 1) rules)) = omega (arith, b') in
    let s : k + 1 ≡ suc k = omega arith in
    let n : length (left_items (take (k + 1) rules)) ≡ length front + length here = ap (λ j. length (left_items (take j rules))) s ∙ next_start rules k l in
    let whole : items ≡ front ++ (here ++ back) = c.in_order ∙ around rules k l in
    let l1 = ap length whole in
    let l2 = length-append front (here ++ back) in
    let l3 = length-append here back in
    let m : to - from ≡ length here = omega (arith, a, b, n) in
    record {
      order = omega (arith, a, b, n);
      within = omega (arith, a, b, n, l1, l2, l3);
      read =
          ap (λ j. take j (drop from items)) m
          ∙ ap (λ j. take (length here) (drop j items)) a
          ∙ ap (λ is. take (length here) (drop (length front) is)) whole
          ∙ ap (take (length here)) (drop-append_seam front (here ++ back))
          ∙ take-append_seam here back;
    }

-- what the left side at a place has
pub match_at-left : (rules : List Rule) (k : ℕ) (t : Tree) → k < length rules → match_at rules k t ≡ match_of (left_at rules k) t
match_at-left [] k t l = absurd (omega arith)
match_at-left (r ∷ rs) zero t l = refl
match_at-left (r ∷ rs) (suc k) t l = match_at-left rs k t (omega arith)

pub plain_at : (w : ℕ) (rules : List Rule) (k : ℕ) → k < length rules → All (HasSymbolsAlone w) rules → IsPlain w (left_at rules k)
plain_at w [] k l all = absurd (omega arith)
plain_at w (r ∷ rs) zero l all = (All-head (HasSymbolsAlone w) r rs all).left
plain_at w (r ∷ rs) (suc k) l all = plain_at w rs k (omega arith) (All-tail (HasSymbolsAlone w) r rs all)
