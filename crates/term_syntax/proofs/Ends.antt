-- Nodes of terms in one list, by the ends of the terms.
use Rattle.std.proofs.Common.{◌≡◌, ◌≤◌, ◌<◌, ◌∙◌, ℕ, zero, suc, ◌+◌, ◌-◌, List, [], ◌∷◌, ◌++◌, length, take, drop, get_or, slice_get, refl, ap, sym, subst, arith, Some}
use Rattle.std.proofs.lemmas.List.{take-append-le, drop-append-le, take_all, drop_all, length-append, length-drop}
use Rattle.term_syntax.specs.declared.machine.Node.{Node}
use Rattle.term_syntax.specs.Ends.{Nodes, AreEnds, parted, last_end, start_in, nodes_in}

pub parted_many : (from : ℕ) (es : List ℕ) (ns : List Node) → length (parted from es ns) ≡ length es
parted_many from [] ns = refl
parted_many from (e ∷ es) ns = let rest = parted_many e es ns in omega (arith, rest)

-- as many terms as ends
pub many : (es : List ℕ) (ns : List Node) (now : Nodes) → nodes_in es ns ≡ now → length es ≡ length now.terms
many es ns now v = let m = parted_many 0 es ns in let t = ap (λ (w : Nodes). length w.terms) v in omega (arith, m, t)

-- where a term starts and ends
start_then : (from : ℕ) (es : List ℕ) (n : ℕ) → n < length es → start_in from es (suc n) ≡ get_or es n 0
start_then from [] n h = absurd (omega arith)
start_then from (e ∷ es) zero h = refl
start_then from (e ∷ es) (suc n) h = start_then e es n (omega arith)

pub start_first : (es : List ℕ) (n : ℕ) → n ≡ 0 → start_in 0 es n ≡ 0
start_first es n h = ap (start_in 0 es) h

pub start_before : (es : List ℕ) (n : ℕ) → 0 < n → n < length es → start_in 0 es n ≡ get_or es (n - 1) 0
start_before es zero p h = absurd (omega arith)
start_before es (suc n) p h = start_then 0 es n (omega arith) ∙ ap (λ k. get_or es k 0) (omega arith)

all_after : (from : ℕ) (es : List ℕ) (size : ℕ) → AreEnds from es size → from ≤ size
all_after from [] size a = a
all_after from (e ∷ es) size a = let rest = all_after e es size a.1 in let first = a.0 in omega (arith, rest, first)

pub start_low : (from : ℕ) (es : List ℕ) (size n : ℕ) → AreEnds from es size → n < length es → start_in from es n ≤ get_or es n 0
start_low from [] size n a h = absurd (omega arith)
start_low from (e ∷ es) size zero a h = a.0
start_low from (e ∷ es) size (suc n) a h = start_low e es size n a.1 (omega arith)

pub end_within : (from : ℕ) (es : List ℕ) (size n : ℕ) → AreEnds from es size → n < length es → get_or es n 0 ≤ size
end_within from [] size n a h = absurd (omega arith)
end_within from (e ∷ es) size zero a h = all_after e es size a.1
end_within from (e ∷ es) size (suc n) a h = end_within e es size n a.1 (omega arith)

part_at : (from : ℕ) (es : List ℕ) (ns : List Node) (n : ℕ) → n < length es → slice_get (parted from es ns) n ≡ Some (take (get_or es n 0 - start_in from es n) (drop (start_in from es n) ns))
part_at from [] ns n h = absurd (omega arith)
part_at from (e ∷ es) ns zero h = refl
part_at from (e ∷ es) ns (suc n) h = part_at e es ns n (omega arith)

pub term_at : (es : List ℕ) (ns : List Node) (now : Nodes) (n : ℕ) → nodes_in es ns ≡ now → n < length es → slice_get now.terms n ≡ Some (take (get_or es n 0 - start_in 0 es n) (drop (start_in 0 es n) ns))
term_at es ns now n v h = sym (ap (λ (w : Nodes). slice_get w.terms n) v) ∙ part_at 0 es ns n h

-- one more node
ends_more : (from : ℕ) (es : List ℕ) (size : ℕ) → AreEnds from es size → AreEnds from es (size + 1)
ends_more from [] size a = omega (arith, a)
ends_more from (e ∷ es) size a = (a.0, ends_more e es size a.1)

pub pushed_ends : (es : List ℕ) (ns new : List Node) (m : Node) → AreEnds 0 es (length ns) → new ≡ ns ++ m ∷ [] → AreEnds 0 es (length new)
pushed_ends es ns new m a is =
    let size : length ns + 1 ≡ length new = let l = ap length is in let k = length-append ns (m ∷ []) in omega (arith, l, k) in
    subst (AreEnds 0 es) size (ends_more 0 es (length ns) a)

same_part : (from e : ℕ) (ns : List Node) (m : Node) → from ≤ e → e ≤ length ns → take (e - from) (drop from (ns ++ m ∷ [])) ≡ take (e - from) (drop from ns)
same_part from e ns m l h =
    let size = length-drop from ns in
    ap (take (e - from)) (drop-append-le from ns (m ∷ []) (omega (arith, l, h)))
    ∙ take-append-le (e - from) (drop from ns) (m ∷ []) (omega (arith, size, l, h))

same_parts : (from : ℕ) (es : List ℕ) (ns : List Node) (m : Node) → AreEnds from es (length ns) → parted from es (ns ++ m ∷ []) ≡ parted from es ns
same_parts from [] ns m a = refl
same_parts from (e ∷ es) ns m a =
    let first = same_part from e ns m a.0 (all_after e es (length ns) a.1) in
    let rest = same_parts e es ns m a.1 in
    λ i. first i ∷ rest i

last_within : (from : ℕ) (es : List ℕ) (size : ℕ) → AreEnds from es size → last_end from es ≤ size
last_within from [] size a = a
last_within from (e ∷ es) size a = last_within e es size a.1

pub pushed : (es : List ℕ) (ns new : List Node) (m : Node) (now : Nodes) → AreEnds 0 es (length ns) → new ≡ ns ++ m ∷ [] → nodes_in es ns ≡ now → nodes_in es new ≡ record now { begun = now.begun ++ m ∷ [] }
pushed es ns new m now a is v =
    let terms = same_parts 0 es ns m a in
    let begun = drop-append-le (last_end 0 es) ns (m ∷ []) (last_within 0 es (length ns) a) in
    let step : nodes_in es (ns ++ m ∷ []) ≡ record (nodes_in es ns) { begun = (nodes_in es ns).begun ++ m ∷ [] } =
    λ i. record { terms = terms i; begun = begun i } in
    ap (nodes_in es) is ∙ step ∙ ap (λ (w : Nodes). record w { begun = w.begun ++ m ∷ [] }) v

-- one more end
ends_on : (from : ℕ) (es : List ℕ) (size : ℕ) → AreEnds from es size → AreEnds from (es ++ size ∷ []) size
ends_on from [] size a = (a, omega arith)
ends_on from (e ∷ es) size a = (a.0, ends_on e es size a.1)

pub ended_ends : (es new : List ℕ) (e size : ℕ) → AreEnds 0 es size → e ≡ size → new ≡ es ++ e ∷ [] → AreEnds 0 new size
ended_ends es new e size a s is = subst (λ xs. AreEnds 0 xs size) (sym (is ∙ ap (λ k. es ++ k ∷ []) s)) (ends_on 0 es size a)

parts_on : (from : ℕ) (es : List ℕ) (e : ℕ) (ns : List Node) → parted from (es ++ e ∷ []) ns ≡ parted from es ns ++ take (e - last_end from es) (drop (last_end from es) ns) ∷ []
parts_on from [] e ns = refl
parts_on from (x ∷ es) e ns = ap (λ ts. take (x - from) (drop from ns) ∷ ts) (parts_on x es e ns)

last_on : (from : ℕ) (es : List ℕ) (e : ℕ) → last_end from (es ++ e ∷ []) ≡ e
last_on from [] e = refl
last_on from (x ∷ es) e = last_on x es e

pub ended : (es new : List ℕ) (e : ℕ) (ns : List Node) (now : Nodes) → e ≡ length ns → new ≡ es ++ e ∷ [] → nodes_in es ns ≡ now → nodes_in new ns ≡ record { terms = now.terms ++ now.begun ∷ []; begun = [] }
ended es new e ns now s is v =
    let size = length-drop (last_end 0 es) ns in
    let whole = take_all (e - last_end 0 es) (drop (last_end 0 es) ns) (omega (arith, size, s)) in
    let terms = parts_on 0 es e ns ∙ ap (λ t. parted 0 es ns ++ t ∷ []) whole in
    let begun = ap (λ k. drop k ns) (last_on 0 es e) ∙ drop_all e ns (omega (arith, s)) in
    let step : nodes_in (es ++ e ∷ []) ns ≡ record { terms = parted 0 es ns ++ drop (last_end 0 es) ns ∷ []; begun = [] } =
    λ i. record { terms = terms i; begun = begun i } in
    ap (λ xs. nodes_in xs ns) is ∙ step ∙ ap (λ (w : Nodes). record { terms = w.terms ++ w.begun ∷ []; begun = [] }) v
