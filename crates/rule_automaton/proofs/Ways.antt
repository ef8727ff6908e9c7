-- Ways in order: which of them is a head's, by halves.
use Rattle.std.proofs.Common.{◌≡◌, ℕ, ◌+◌, ◌^◌, ◌<◌, ◌≤◌, List, length, map, get_or, Bool, true, false, sym, ◌∙◌, ap, arith, inl, inr, eqb-true}
use Rattle.std.specs.Prelude.{◌⊎◌, ◌==◌, All}
use Rattle.std.specs.List.Sorted.{IsNonDecreasingBy}
use Rattle.std.proofs.lemmas.Bool.{and_from, and_parts, eq-eqb, cases_Bool, cases_lt, both_ways}
use Rattle.std.proofs.lemmas.List.{get_or_default, get_or-map, length-map}
use Rattle.term_model.specs.declared.Symbol.{Symbol}
use Rattle.term_model.specs.declared.Head.TheVariants.{App}
use Rattle.rule_automaton.specs.Automata.{key_of, way_key, AreInOrder}
use Rattle.rule_automaton.specs.Running.{is_way_of}
use Rattle.rule_automaton.specs.declared.states.Way.{Way}

-- what has a head's symbol and count has its key
same_key : (f : Symbol) (n : ℕ) (w : Way) → is_way_of (App f) n w ≡ true → way_key w ≡ key_of f n
same_key f n w e =
    let p = and_parts (w.symbol.0 == f.0) (n == w.count) e in
    let s = eqb-true w.symbol.0 f.0 p.0 in
    let c = eqb-true n w.count p.1 in
    omega (arith, s, c)

-- and the other way round
same_way : (f : Symbol) (n : ℕ) (w : Way) → n < 2 ^ 32 → w.count < 2 ^ 32 → way_key w ≡ key_of f n → is_way_of (App f) n w ≡ true
same_way f n w l m e =
    let s : w.symbol.0 ≡ f.0 = omega (arith, e) in
    let c : n ≡ w.count = omega (arith, e) in
    and_from (w.symbol.0 == f.0) (n == w.count) (eq-eqb w.symbol.0 f.0 s) (eq-eqb n w.count c)

off : (b : Bool) → (b ≡ true → ⊥) → b ≡ false
off b n = elim (cases_Bool b) [ inl e ↦ absurd (n e) | inr e ↦ e ]

-- what isn't a head's symbol or count isn't its way
pub other_way : (f : Symbol) (n : ℕ) (w : Way) → ((w.symbol.0 ≡ f.0) × (w.count ≡ n → ⊥)) ⊎ (w.symbol.0 ≡ f.0 → ⊥) → is_way_of (App f) n w ≡ false
other_way f n w (inl a) = off (is_way_of (App f) n w) (λ e. a.1 (sym (eqb-true n w.count (and_parts (w.symbol.0 == f.0) (n == w.count) e).1)))
other_way f n w (inr a) = off (is_way_of (App f) n w) (λ e. a (eqb-true w.symbol.0 f.0 (and_parts (w.symbol.0 == f.0) (n == w.count) e).0))

module _ (ways : List Way) (sorted : AreInOrder ways) (f : Symbol) (n middle : ℕ) (z : Way) (l : middle < length ways) where
  -- no way up to one with a lower key
  pub not_below : way_key (get_or ways middle z) < key_of f n → (k : ℕ) (d : Way) → k < middle + 1 → is_way_of (App f) n (get_or ways k d) ≡ false
  not_below low k d u =
      off (is_way_of (App f) n (get_or ways k d)) (λ e.
      let same = same_key f n (get_or ways k d) e in
      let up = sorted k middle d (omega (arith, u)) l in
      let here : way_key (get_or ways middle d) ≡ way_key (get_or ways middle z) = ap way_key (get_or_default ways middle d z l) in
      omega (arith, same, up, here, low))

  -- no way from one on whose key isn't lower, if that isn't the head's
  pub not_above : n < 2 ^ 32 → (get_or ways middle z).count < 2 ^ 32 → key_of f n ≤ way_key (get_or ways middle z) → is_way_of (App f) n (get_or ways middle z) ≡ false → (k : ℕ) (d : Way) → middle ≤ k → k < length ways → is_way_of (App f) n (get_or ways k d) ≡ false
  not_above small small' high other k d u v =
      off (is_way_of (App f) n (get_or ways k d)) (λ e.
      let same = same_key f n (get_or ways k d) e in
      let up = sorted middle k d u v in
      let here : way_key (get_or ways middle d) ≡ way_key (get_or ways middle z) = ap way_key (get_or_default ways middle d z l) in
      let key : way_key (get_or ways middle z) ≡ key_of f n = omega (arith, same, up, here, high) in
      both_ways (is_way_of (App f) n (get_or ways middle z)) other (same_way f n (get_or ways middle z) small small' key))

-- none at all
pub not_at_all : (ways : List Way) (f : Symbol) (n low high : ℕ) → high ≤ low → ((k : ℕ) (d : Way) → k < low → is_way_of (App f) n (get_or ways k d) ≡ false) → ((k : ℕ) (d : Way) → high ≤ k → k < length ways → is_way_of (App f) n (get_or ways k d) ≡ false) → All (λ (w : Way). is_way_of (App f) n w ≡ false) ways
not_at_all ways f n low high m below above = λ k d l.
    elim (cases_lt k low) [
      | inl u ↦ below k d u
      | inr u ↦ above k d (omega (arith, m, u)) l
    ]

-- what has the same keys as something in order is in order
pub in_order_by : {A B : Type 0} (f : A → ℕ) (g : B → ℕ) (xs : List A) (ys : List B) (e : B) → map f xs ≡ map g ys → IsNonDecreasingBy g ys → IsNonDecreasingBy f xs
in_order_by {A} {B} f g xs ys e same order i j d l m =
    let size : length xs ≡ length ys = sym (length-map xs f) ∙ ap length same ∙ length-map ys g in
    let at : (k : ℕ) → k < length xs → f (get_or xs k d) ≡ g (get_or ys k e) = λ k u.
    sym (get_or-map f xs k d (f d) u) ∙ ap (λ zs. get_or zs k (f d)) same ∙ get_or-map g ys k e (f d) (omega (arith, u, size)) in
    let a = at i (omega (arith, l, m)) in
    let b = at j m in
    let o = order i j e l (omega (arith, m, size)) in
    omega (arith, a, b, o)
