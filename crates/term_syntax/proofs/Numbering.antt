-- The nodes of written terms are numbered within the parts.
use Rattle.std.proofs.Common.{◌≤◌, ◌<◌, ℕ, ◌+◌, List, [], ◌∷◌, length, length-append, arith, Bool, true, false, ◌&&◌, ◌==◌, All}
use Rattle.std.proofs.lemmas.List.Elements.{All-nil, All-cons, All-push, All-append}
use Rattle.term_syntax.specs.declared.machine.Node.{Node}
use Rattle.term_syntax.specs.Written.{Written, Call, Digits, Listed, Writtens, End, More, count_of}
use Rattle.term_syntax.specs.Parts.{parts_of, parts_of_all, parts_of_input}
use Rattle.term_syntax.specs.Nodes.{node, size_of, nodes_of, nodes_of_all, nodes_of_input}
use Rattle.term_syntax.specs.Items.{AreWithin}
use Rattle.term_syntax.proofs.Complete.{same_size}

module _ (n : ℕ) where
  abbrev Within : Node → Type 0
  Within m = m.part < n

  mutual
    term_within : (w : Written) (k : ℕ) → k + size_of w ≤ n → All Within (nodes_of k w)
    term_within (Call p name ws) k h =
        All-push Within (nodes_of_all (k + 1) ws) (node k 0) (terms_within true 0 ws (k + 1) (omega (arith, h))) (omega (arith, h))
    term_within (Digits p v) k h = All-cons Within (node k 0) [] (omega (arith, h)) (All-nil Within)
    term_within (Listed p ws) k h =
        All-push Within (nodes_of_all (k + 1) ws) (node k (count_of ws)) (terms_within false 0 ws (k + 1) (omega (arith, h))) (omega (arith, h))

    terms_within : (called : Bool) (c : ℕ) (ws : Writtens) (k : ℕ) → k + length (parts_of_all called c ws) ≤ n → All Within (nodes_of_all k ws)
    terms_within called c End k h = All-nil Within
    terms_within called c (More w ws) k h =
        let b = called && c == 16 in
        let l = length-append (parts_of b w) (parts_of_all called (c + 1) ws) in
        let s = same_size b w in
        All-append Within (nodes_of k w) (nodes_of_all (k + size_of w) ws)
        (term_within w k (omega (arith, h, l, s)))
        (terms_within called (c + 1) ws (k + size_of w) (omega (arith, h, l, s)))

  pub input_within : (ws : List Written) (k : ℕ) → k + length (parts_of_input ws) ≤ n → All (AreWithin n) (nodes_of_input k ws)
  input_within [] k h = All-nil (AreWithin n)
  input_within (w ∷ ws) k h =
      let l = length-append (parts_of false w) (parts_of_input ws) in
      All-cons (AreWithin n) (nodes_of k w) (nodes_of_input (k + size_of w) ws)
      (term_within w k (omega (arith, h, l)))
      (input_within ws (k + size_of w) (omega (arith, h, l)))
