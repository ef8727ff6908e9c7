-- Which terms each worker drew, where a list tells the worker of each term.
use Rattle.std.proofs.Common.{◌≡◌, ◌≢◌, ◌==◌, ℕ, zero, suc, ◌+◌, ◌<◌, ◌≤◌, cond, true, false, Bool, List, [], ◌∷◌, length, get_or, slice_get, Some, None, eq-eqb, ne_eqb, refl, sym, ap, ◌∙◌, add-zero, arith, All}
use mathlib.Core.Logic.{dite}
use native.Mathlib.Decide.{ℕ_discrete}
use Rattle.std.specs.List.{flat_map}
use Rattle.std.proofs.lemmas.Option.{same_Some}
use Rattle.std.proofs.lemmas.List.Elements.{All-nil, All-cons, All-weaker}
use Rattle.std.proofs.lemmas.List.Concat.{flat_map-cons}
use Rattle.term_model.specs.Tree.{Tree, Leaf}
use Rattle.worker_crew.specs.Dealt.{times}
use Rattle.work_order.specs.Lined.{drawn_by}
use Rattle.work_order.specs.Works.{term_at}
use Rattle.work_order.specs.Drawn.{AreApart, Rises, numbered}
use Rattle.worker_crew.proofs.Dealing.{hit, times_cons, times_append, hit_same, hit_other, times_none}

-- ---- one worker
-- the places, counted from o, at which these workers have worker k
abbrev pub places : (k o : ℕ) → List ℕ → List ℕ
places k o [] = []
places k o (w ∷ ws) = cond (w == k) (o ∷ places k (suc o) ws) (places k (suc o) ws)

-- where all places after the first are as said
more : (P : ℕ → Type 0) (b : Bool) (o : ℕ) (rest : List ℕ) → P o → All P rest → All P (cond b (o ∷ rest) rest)
more P true o rest first h = All-cons P o rest first h
more P false o rest first h = h

least : (k o : ℕ) (ws : List ℕ) → All (λ i. o ≤ i) (places k o ws)
least k o [] = All-nil (λ i. o ≤ i)
least k o (w ∷ ws) =
    more (λ i. o ≤ i) (w == k) o (places k (suc o) ws) (omega arith)
    (All-weaker (λ i. suc o ≤ i) (λ i. o ≤ i) (λ i h. omega (arith, h)) (places k (suc o) ws) (least k (suc o) ws))

most : (k o n : ℕ) (ws : List ℕ) → o + length ws ≤ n → All (λ i. i < n) (places k o ws)
most k o n [] h = All-nil (λ i. i < n)
most k o n (w ∷ ws) h = more (λ i. i < n) (w == k) o (places k (suc o) ws) (omega (arith, h)) (most k (suc o) n ws (omega (arith, h)))

rises_more : (b : Bool) (o : ℕ) (rest : List ℕ) → All (λ j. o < j) rest → Rises rest → Rises (cond b (o ∷ rest) rest)
rises_more true o rest above h = (above, h)
rises_more false o rest above h = h

rises : (k o : ℕ) (ws : List ℕ) → Rises (places k o ws)
rises k o [] = tt
rises k o (w ∷ ws) =
    rises_more (w == k) o (places k (suc o) ws)
    (All-weaker (λ j. suc o ≤ j) (λ j. o < j) (λ j h. omega (arith, h)) (places k (suc o) ws) (least k (suc o) ws)) (rises k (suc o) ws)

-- the terms at these places are those that the worker drew
one_drawn : (terms : List Tree) (b : Bool) (o : ℕ) (t : Tree) (ts : List Tree) (rest : List ℕ) → t ≡ term_at terms o → ts ≡ numbered terms rest → cond b (t ∷ ts) ts ≡ numbered terms (cond b (o ∷ rest) rest)
one_drawn terms true o t ts rest first same = ap (λ u. u ∷ ts) first ∙ ap (λ (us : List Tree). term_at terms o ∷ us) same
one_drawn terms false o t ts rest first same = same

pub drawn_places : (terms : List Tree) (k o : ℕ) (ws : List ℕ) (ts : List Tree) → length ws ≡ length ts → ((j : ℕ) → j < length ts → get_or ts j (Leaf 0) ≡ term_at terms (o + j)) → drawn_by k ws ts ≡ numbered terms (places k o ws)
drawn_places terms k o [] ts long at = refl
drawn_places terms k o (w ∷ ws) [] long at = absurd (omega (arith, long))
drawn_places terms k o (w ∷ ws) (t ∷ ts) long at =
    let first : t ≡ term_at terms o = at 0 (omega arith) ∙ ap (term_at terms) (add-zero o) in
    let next : (j : ℕ) → j < length ts → get_or ts j (Leaf 0) ≡ term_at terms (suc o + j) =
    λ j h. at (suc j) (omega (arith, h)) ∙ ap (term_at terms) (let e : o + suc j ≡ suc o + j = omega arith in e) in
    one_drawn terms (w == k) o t (drawn_by k ws ts) (places k (suc o) ws) first (drawn_places terms k (suc o) ws ts (omega (arith, long)) next)

-- ---- workers k to k + n - 1
abbrev pub hands : (n k o : ℕ) → List ℕ → List (List ℕ)
hands zero k o ws = []
hands (suc n) k o ws = places k o ws ∷ hands n (suc k) o ws

hands_long : (n k o : ℕ) (ws : List ℕ) → length (hands n k o ws) ≡ n
hands_long zero k o ws = refl
hands_long (suc n) k o ws = let r = hands_long n (suc k) o ws in omega (arith, r)

all_hands : (P : List ℕ → Type 0) (n k o : ℕ) (ws : List ℕ) → ((j : ℕ) → P (places j o ws)) → All P (hands n k o ws)
all_hands P zero k o ws h = All-nil P
all_hands P (suc n) k o ws h = All-cons P (places k o ws) (hands n (suc k) o ws) (h k) (all_hands P n (suc k) o ws h)

pub hand_at : (n k o : ℕ) (ws : List ℕ) (j : ℕ) (hand : List ℕ) → slice_get (hands n k o ws) j ≡ Some hand → hand ≡ places (k + j) o ws
hand_at zero k o ws j hand e = absurd (let bad : None ≡ Some hand = e in cc)
hand_at (suc n) k o ws zero hand e = sym (same_Some (places k o ws) hand e) ∙ ap (λ m. places m o ws) (sym (add-zero k))
hand_at (suc n) k o ws (suc j) hand e =
    hand_at n (suc k) o ws j hand e ∙ ap (λ m. places m o ws) (let e : suc k + j ≡ k + suc j = omega arith in e)

-- ---- no term is drawn twice
-- how often a number is in the hands
abbrev in_hands : (x n k o : ℕ) → List ℕ → ℕ
in_hands x n k o ws = times x (flat_map (λ (h : List ℕ). h) (hands n k o ws))

one_more : (x n k o : ℕ) (ws : List ℕ) → in_hands x (suc n) k o ws ≡ times x (places k o ws) + in_hands x n (suc k) o ws
one_more x n k o ws =
    ap (times x) (flat_map-cons (λ (h : List ℕ). h) (places k o ws) (hands n (suc k) o ws))
    ∙ times_append x (places k o ws) (flat_map (λ (h : List ℕ). h) (hands n (suc k) o ws))

not_before : (x n k o : ℕ) (ws : List ℕ) → x < o → in_hands x n k o ws ≡ 0
not_before x zero k o ws h = refl
not_before x (suc n) k o ws h =
    let a = times_none x (places k o ws) (All-weaker (λ i. o ≤ i) (λ i. x < i) (λ i l. omega (arith, l, h)) (places k o ws) (least k o ws)) in
    let b = not_before x n (suc k) o ws h in
    let c = one_more x n k o ws in omega (arith, a, b, c)

-- the first of the terms is in its worker's hand alone
mine : (x k o w : ℕ) (ws : List ℕ) → w ≡ k → times x (places k o (w ∷ ws)) ≡ hit x o + times x (places k (suc o) ws)
mine x k o w ws e = ap (λ b. times x (cond b (o ∷ places k (suc o) ws) (places k (suc o) ws))) (eq-eqb w k e) ∙ times_cons x o (places k (suc o) ws)

others : (x k o w : ℕ) (ws : List ℕ) → w ≢ k → times x (places k o (w ∷ ws)) ≡ times x (places k (suc o) ws)
others x k o w ws ne = ap (λ b. times x (cond b (o ∷ places k (suc o) ws) (places k (suc o) ws))) (ne_eqb w k ne)

skips : (x n k o w : ℕ) (ws : List ℕ) → w < k → in_hands x n k o (w ∷ ws) ≡ in_hands x n k (suc o) ws
skips x zero k o w ws h = refl
skips x (suc n) k o w ws h =
    let a = others x k o w ws (λ e. omega (arith, h, e)) in
    let b = skips x n (suc k) o w ws (omega (arith, h)) in
    let c = one_more x n k o (w ∷ ws) in
    let d = one_more x n k (suc o) ws in omega (arith, a, b, c, d)

adds : (x n k o w : ℕ) (ws : List ℕ) → in_hands x n k o (w ∷ ws) ≤ hit x o + in_hands x n k (suc o) ws
adds x zero k o w ws = omega arith
adds x (suc n) k o w ws =
    let c = one_more x n k o (w ∷ ws) in
    let d = one_more x n k (suc o) ws in
    dite (ℕ_discrete w k)
    (λ e. let a = mine x k o w ws e in let b = skips x n (suc k) o w ws (omega (arith, e)) in omega (arith, a, b, c, d))
    (λ ne. let a = others x k o w ws ne in let b = adds x n (suc k) o w ws in omega (arith, a, b, c, d))

once : (x n k o : ℕ) (ws : List ℕ) → in_hands x n k o ws ≤ 1
once x zero k o [] = omega arith
once x (suc n) k o [] = let c = one_more x n k o [] in let r = once x n (suc k) o [] in omega (arith, c, r)
once x n k o (w ∷ ws) =
    let a = adds x n k o w ws in
    dite (ℕ_discrete o x)
    (λ e. let h : hit x o ≡ 1 = ap (hit x) e ∙ hit_same x in let b = not_before x n k (suc o) ws (omega (arith, e)) in omega (arith, a, b, h))
    (λ ne. let h = hit_other x o ne in let b = once x n k (suc o) ws in omega (arith, a, b, h))

-- ---- all of them
pub apart : (terms : List Tree) (count : ℕ) (workers : List ℕ) → length workers ≡ length terms → AreApart (length terms) count (hands count 0 0 workers)
apart terms count workers long = record {
  one_each = hands_long count 0 0 workers;
  below = all_hands (λ hand. All (λ i. i < length terms) hand) count 0 0 workers (λ j. most j 0 (length terms) workers (omega (arith, long)));
  upwards = all_hands Rises count 0 0 workers (λ j. rises j 0 workers);
  once = λ i. once i count 0 0 workers;
}

pub within : (n k o : ℕ) (ws : List ℕ) (j : ℕ) (hand : List ℕ) → slice_get (hands n k o ws) j ≡ Some hand → j < n
within zero k o ws j hand e = absurd (let bad : None ≡ Some hand = e in cc)
within (suc n) k o ws zero hand e = omega arith
within (suc n) k o ws (suc j) hand e = let l = within n (suc k) o ws j hand e in omega (arith, l)
