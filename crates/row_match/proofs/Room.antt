-- Room for the left side of each rule.
use Rattle.std.proofs.Common.{◌≡◌, ℕ, zero, suc, ◌+◌, ◌≤◌, ◌<◌, List, [], ◌∷◌, ◌++◌, length, sym, ◌∙◌, ap, arith, subst, get_or, take}
use Rattle.std.proofs.lemmas.List.{take_more, take_all}
use Rattle.std.proofs.lemmas.List.Elements.{All-head, All-tail, All-push}
use Rattle.term_model.specs.Tree.{nodes}
use Rattle.rewrite_model.specs.Rule.{Rule}
use Rattle.rule_match.specs.Preorder.{left_at}
use Rattle.row_match.specs.Binding.{HasRoom}

pub room_at : (room : ℕ) (rules : List Rule) (k : ℕ) → k < length rules → HasRoom room rules → nodes (left_at rules k) ≤ room
room_at room [] k l all = absurd (omega arith)
room_at room (r ∷ rs) zero l all = All-head (λ (q : Rule). nodes q.left ≤ room) r rs all
room_at room (r ∷ rs) (suc k) l all = room_at room rs k (omega arith) (All-tail (λ (q : Rule). nodes q.left ≤ room) r rs all)

-- room for the left sides of one rule more
pub room_more : (rules : List Rule) (k : ℕ) (r : Rule) (room more : ℕ) → k < length rules → r ≡ get_or rules k r → room ≤ more → nodes r.left ≤ more → HasRoom room (take k rules) → HasRoom more (take (k + 1) rules)
room_more rules k r room more l e kept past all =
    let one = take_more rules k r l ∙ ap (λ q. take k rules ++ q ∷ []) (sym e) in
    subst (HasRoom more) (sym one)
    (All-push (λ (q : Rule). nodes q.left ≤ more) (take k rules) r (λ i d h. let b : nodes (get_or (take k rules) i d).left ≤ room = all i d h in omega arith) past)

pub room_of_all : (rules given : List Rule) (k room : ℕ) → given ≡ rules → length given ≤ k → HasRoom room (take k given) → HasRoom room rules
room_of_all rules given k room e l all = subst (HasRoom room) (take_all k given l ∙ e) all
