-- A collection: the rows keep their trees that can be reached from the stack, and the others are
-- free.
use Rattle.std.proofs.Common.{◌≡◌, ◌≢◌, ℕ, ◌+◌, ◌^◌, ◌-◌, ◌<◌, ◌≤◌, ◌⊎◌, inl, inr, Bool, true, false, List, Option, Some, None, length, get_or, refl, ap, sym, ◌∙◌, subst, arith}
use Rattle.std.specs.Prelude.{Contains, min, ◌==◌, if◌then◌else◌}
use Rattle.std.proofs.lemmas.Bool.{cases_lt, eqb-true, eqb-false, eq-eqb}
use Rattle.std.proofs.lemmas.List.{length-map, get_or-map, get_or_past}
use Rattle.term_model.specs.declared.Row.{Row}
use Rattle.term_model.specs.Tree.{Tree, arguments, among}
use Rattle.term_model.proofs.Equality.{among_from_contains, contains_from_among}
use Rattle.term_model.proofs.Subtrees.{subtrees_nest, arguments_are_subtrees}
use Rattle.terms_api.specs.Terms.{Store, HasTree, tree_at, trees, reachable, IsSound, IsLater, Loses, GainsNone}
use Rattle.terms_api.proofs.Callers.{has-held, held-has}
use Rattle.terms_api.proofs.Staying.{reached, reached_from, reached-itself, trees_stay}
use Rattle.plain_store.specs.Contents.{Contents, store_of, kept_among, epoch_after, once_more, kept_trees, collected, LosesRow}

-- a row after a collection
pub kept_at : (c : Contents) (r : Row) → get_or (kept_trees c) r.0 None ≡ kept_among (reachable (store_of c)) (get_or c.trees r.0 None)
kept_at c r =
    let f = kept_among (reachable (store_of c)) in
    elim (cases_lt r.0 (length c.trees)) [
      | inl lt ↦ get_or-map f c.trees r.0 None None lt
      | inr le ↦ (
          let there : length (kept_trees c) ≤ r.0 = omega (arith, length-map c.trees f) in
          get_or_past (kept_trees c) r.0 None there ∙ ap f (sym (get_or_past c.trees r.0 None le)))
    ]

among_kept : (ts : List Tree) (t : Tree) → among t ts ≡ true → kept_among ts (Some t) ≡ Some t
among_kept ts t h = ap (λ (b : Bool). if b then Some t else None) h

if_cases : (b : Bool) (t u : Tree) → (if b then Some t else None) ≡ Some u → (b ≡ true) × (t ≡ u)
if_cases true t u e = (refl, cc)
if_cases false t u e = absurd (cc)

was_cases : (ts : List Tree) (o : Option Tree) (u : Tree) → kept_among ts o ≡ Some u → (o ≡ Some u) × (among u ts ≡ true)
was_cases ts None u e = absurd (cc)
was_cases ts (Some t) u e =
    let r = if_cases (among t ts) t u e in
    (ap Some r.1, subst (λ x. among x ts ≡ true) r.1 r.0)

-- a row that has a tree afterwards had it, and the tree is reachable
pub had : (c : Contents) (raised : ℕ) (r : Row) (u : Tree) → HasTree (store_of (collected c raised)) r u → HasTree (store_of c) r u × Contains (reachable (store_of c)) u
had c raised r u k =
    let w = was_cases (reachable (store_of c)) (get_or c.trees r.0 None) u (sym (kept_at c r) ∙ k) in
    (w.0, contains_from_among u (reachable (store_of c)) w.1)

pub keeps : (c : Contents) (raised : ℕ) (r : Row) (u : Tree) → HasTree (store_of c) r u → Contains (reachable (store_of c)) u → HasTree (store_of (collected c raised)) r u
keeps c raised r u k reach =
    let ts = reachable (store_of c) in
    kept_at c r ∙ ap (kept_among ts) k ∙ among_kept ts u (among_from_contains u ts reach)

-- the arguments of what is reachable are reachable
pub closed_reach : (s : Store) (t u : Tree) → Contains (reachable s) t → Contains (arguments t) u → Contains (reachable s) u
closed_reach s t u h a =
    let from = reached_from s t h in
    reached s from.0 u from.1 (subtrees_nest from.0 t u from.2 (arguments_are_subtrees t u a))

pub sound_collected : (c : Contents) (raised : ℕ) → IsSound (store_of c) → IsSound (store_of (collected c raised))
sound_collected c raised sound =
    let s = store_of c in
    let s' = store_of (collected c raised) in
    record {
      stack = λ k d lt.
          (let r = get_or c.stack k d in
          let t = tree_at s r in
          let has = has-held s r (sound.stack k d lt) in
          let there : Contains (trees s) t = (k, omega (arith, length-map c.stack (tree_at s)), get_or-map (tree_at s) c.stack k d t lt) in
          held-has s' r t (keeps c raised r t has (reached-itself s t there)));
      depth = sound.depth;
      room = sound.room;
      below = λ r u k. (let b = sound.below r u (had c raised r u k).0 in omega (arith, b, length-map c.trees (kept_among (reachable s))));
      one_row = λ r q u k l. sound.one_row r q u (had c raised r u k).0 (had c raised q u l).0;
      arguments = λ r t u k a.
          (let h = had c raised r t k in
          let x = sound.arguments r t u h.0 a in
          (x.0, keeps c raised x.0 u x.1 (closed_reach s t u h.1 a)));
      well_formed = λ r u k. sound.well_formed r u (had c raised r u k).0;
      ground = λ r u k. sound.ground r u (had c raised r u k).0;
    }

pub gains_none : (c : Contents) (raised : ℕ) → GainsNone (store_of c) (store_of (collected c raised))
gains_none c raised = λ r u k. (had c raised r u k).0

abbrev pub Raises : Contents → ℕ → Type 0
Raises c raised = ((raised ≡ c.raised) × (kept_trees c ≡ c.trees)) ⊎ ((raised ≡ once_more c.raised) × LosesRow (store_of c) (store_of (collected c raised)))

later_if : (m n : ℕ) (b d : Bool) → (d ≡ false → m < n) → (b ≡ true → d ≡ true) → IsLater (if b then None else Some m) (if d then None else Some n)
later_if m n true true less none = tt
later_if m n true false less none = absurd (let e : false ≡ true = none refl in cc)
later_if m n false true less none = tt
later_if m n false false less none = less refl

later_below : (limit n : ℕ) → IsLater (if n == limit then None else Some n) (if min (n + 1) limit == limit then None else Some (min (n + 1) limit))
later_below limit n =
    later_if n (min (n + 1) limit) (n == limit) (min (n + 1) limit == limit)
    (λ e. let ne : min (n + 1) limit ≢ limit = eqb-false (min (n + 1) limit) limit e in omega arith)
    (λ e. eq-eqb (min (n + 1) limit) limit (let is : n ≡ limit = eqb-true n limit e in omega arith))

-- an epoch that is raised once more is later
once_more_is_later : (n : ℕ) → IsLater (epoch_after n) (epoch_after (once_more n))
once_more_is_later n = later_below (2 ^ 64 - 1) n

pub loses_collected : (c : Contents) (raised : ℕ) → Raises c raised → Loses (store_of c) (store_of (collected c raised))
loses_collected c raised r =
    record {
      reachable = λ q u k reach. keeps c raised q u k reach;
      epoch = elim r [
        | inl same ↦ inl (ap epoch_after same.0, λ q u k. ap (λ (xs : List (Option Tree)). get_or xs q.0 None) same.1 ∙ k)
        | inr once ↦ inr (subst (λ n. IsLater (epoch_after c.raised) (epoch_after n)) (sym once.0) (once_more_is_later c.raised))
      ];
    }

sound_any : (c : Contents) → IsSound (store_of c) → IsSound (record (store_of c) { epoch = None })
sound_any c sound = record { stack = sound.stack; depth = sound.depth; room = sound.room; below = sound.below; one_row = sound.one_row; arguments = sound.arguments; well_formed = sound.well_formed; ground = sound.ground }

-- what a later epoch allows
loses_at : (c : Contents) (raised : ℕ) → Loses (record (store_of c) { epoch = None }) (record (store_of (collected c raised)) { epoch = None })
loses_at c raised = record { reachable = λ q u k reach. keeps c raised q u k reach; epoch = inr tt }

-- the trees of the stack stay
pub trees_collected : (c : Contents) (raised : ℕ) → IsSound (store_of c) → trees (store_of (collected c raised)) ≡ trees (store_of c)
trees_collected c raised sound = trees_stay (record (store_of c) { epoch = None }) (record (store_of (collected c raised)) { epoch = None }) (sound_any c sound) (loses_at c raised)
