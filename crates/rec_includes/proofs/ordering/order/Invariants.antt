use Rattle.rec_includes.proofs.Common.{◌≡◌, ◌-◌, ◌++◌, ℕ, List, length, Leads, parent_of, preorder}
use Rattle.rec_includes.proofs.ordering.order.Given as goal

-- the links lead over what is left
abbrev pub invariant-loop-rest : goal.invariant-loop-rest
invariant-loop-rest l =
    (left : List ℕ)
    × (l.order.items ++ left ≡ preorder (parent_of l.headers.bytes l.headers.names l.specifications) (length l.specifications))
    × Leads l.chain.next.items l.rest left

abbrev pub decreases-loop-rest : goal.decreases-loop-rest
decreases-loop-rest l =
    length (preorder (parent_of l.headers.bytes l.headers.names l.specifications) (length l.specifications)) - length l.order.items
