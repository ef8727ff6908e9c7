-- One protected row more, and how many there are.
use Rattle.std.proofs.Common.{◌≡◌, ◌⊎◌, inl, inr, ℕ, ◌+◌, ◌<◌, List, [], ◌∷◌, ◌++◌, length, get_or, take, sym, ap, ◌∙◌, subst, ⊎_elim, arith}
use Rattle.std.proofs.lemmas.List.{length-take-le, get_or-take, get_or-set_same, take_more_set}
use Rattle.std.proofs.lemmas.Bool.{cases_lt}
use Rattle.store_model.specs.declared.view.Sizes.{Sizes}
use Rattle.store_model.specs.declared.view.View.{View}
use Rattle.store_model.specs.declared.view.Stay.TheVariants.{Away, Ready}
use Rattle.store_model.specs.Machine.{In, Each, with_got, rooted, root_counted, protected_in}
use Rattle.store_model.specs.Steps.{IsAtRest}
use Rattle.node_rows.specs.declared.view.NodeView.{NodeView}
use Rattle.node_rows.specs.Steps.{with_store, Known}
use Rattle.root_sets.proofs.Keeping.{each_got}

-- a pass protects as many rows as it counts
pub counted : (z : Sizes) (v : View) → Known z v → length (protected_in v) ≡ v.root_count
counted z v known = length-take-le v.root_count v.roots (let a = known.roots in let b = known.root_count in omega arith)

-- the i-th is in the i-th word
pub root_is : (v : View) (i : ℕ) → i < v.root_count → get_or v.roots i 0 ≡ get_or (protected_in v) i 0
root_is v i l = sym (get_or-take v.root_count v.roots i 0 l)

-- a pass may use each row that it is then to protect
pub push_uses : (z : Sizes) (v u : NodeView) (n row : ℕ) → Known z v.store → n ≡ v.store.root_count → n < z.depth → u ≡ with_store v (rooted v.store n row) → In row u.store.got
    → (i : ℕ) → i < n + 1 → (i < u.store.root_count) ⊎ In (get_or u.store.roots i 0) u.store.got
push_uses z v u n row known same below is uses i l = ⊎_elim
    (λ (less : i < n). inl (let c : u.store.root_count ≡ v.store.root_count = ap (λ (q : NodeView). q.store.root_count) is in omega arith))
    (λ past.
    let e : i ≡ n = omega arith in
    let here : get_or u.store.roots n 0 ≡ row = ap (λ (q : NodeView). get_or q.store.roots n 0) is ∙ get_or-set_same v.store.roots n row 0 (let a = known.roots in omega arith) in
    inr (subst (λ (r : ℕ). In r u.store.got) (sym (ap (λ (j : ℕ). get_or u.store.roots j 0) e ∙ here)) uses))
    (cases_lt i n)

pub push_rows : (z : Sizes) (v u w : NodeView) (n row : ℕ) → Known z v.store → n ≡ v.store.root_count → n < z.depth → u ≡ with_store v (rooted v.store n row) → w ≡ with_store u (root_counted u.store (n + 1))
    → protected_in w.store ≡ protected_in v.store ++ row ∷ []
push_rows z v u w n row known same below is then =
    ap (λ (q : NodeView). protected_in q.store) then
    ∙ (ap (λ (q : NodeView). take (n + 1) q.store.roots) is
    ∙ (take_more_set v.store.roots n row (let a = known.roots in omega arith)
    ∙ ap (λ (k : ℕ). take k v.store.roots ++ row ∷ []) same))

-- a row that was loaded is one of the store
pub loaded_below : (z : Sizes) (v w : NodeView) (row : ℕ) → IsAtRest w.store → Known z w.store → w ≡ with_store v (with_got v.store row) → row < z.rows
loaded_below z v w row rest known e = (subst (λ (u : NodeView). Each (λ q. q < z.rows) u.store.got) e (known.got (λ f. let no : Ready ≡ Away = sym rest.stay ∙ f in grind arith))).0

-- each row that was stored may be used
pub rows_use : (got rows roots : List ℕ) (count : ℕ) → Each (λ r. In r got) rows → take (length rows) roots ≡ rows → (k : ℕ) → k < length rows → (k < count) ⊎ In (get_or roots k 0) got
rows_use got rows roots count uses is k l = inr (subst (λ (r : ℕ). In r got)
    (ap (λ (rs : List ℕ). get_or rs k 0) (sym is) ∙ get_or-take (length rows) roots k 0 l)
    (each_got got rows k uses l))
