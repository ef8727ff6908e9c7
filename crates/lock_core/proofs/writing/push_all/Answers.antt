use Rattle.std.proofs.Common.{◌≡◌, ◌++◌, ◌+◌, [], List, ℕ, take, get_or, sym, ap, ◌∙◌, append_assoc}
use Rattle.std.proofs.lemmas.List.{take_more}
use denote.Bor.{Bor}
use Rattle.lock_core.specs.StateText.{joined}
use Rattle.lock_core.proofs.Appending.{joined_more}
use Rattle.lock_core.proofs.writing.push_all.Goals as goal

pub loop-part-preserved : goal.loop-part-preserved
loop-part-preserved c =
    let i : ℕ = c.loop-part.part-index in
    let none : Bor (List ℕ) = record { ref_ptr = (0, 0); now = [] } in
    let part : List ℕ = (get_or c.args.parts.now i none).now in
    let front : List ℕ = joined (take i c.args.parts.now) in
    let more = take_more c.args.parts.now i none c.loop-part-test.true in
    let all : joined (take (i + 1) c.args.parts.now) ≡ front ++ part = ap joined more ∙ joined_more (take i c.args.parts.now) _ in
    c.in_ok-extend_from_slice.ensures.items
    ∙ (ap (λ (z : List ℕ). z ++ part) c.loop-part.invariant
    ∙ (append_assoc c.args.out.now.items front part ∙ sym (ap (λ (z : List ℕ). c.args.out.now.items ++ z) all)))
