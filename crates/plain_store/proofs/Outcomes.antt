-- The ways in which a build ends.
use Rattle.std.proofs.Common.{◌≡◌, ℕ, ◌<◌, inl, inr, List, [], ◌∷◌, ◌++◌, Option, Some, None, length, get_or, refl, ap, sym, ◌∙◌, subst, arith}
use Rattle.std.specs.Prelude.{Contains}
use Rattle.std.specs.List.{flat_map}
use Rattle.std.proofs.lemmas.List.{length-map, length-set}
use Rattle.term_model.specs.declared.Row.{Row}
use Rattle.term_model.specs.declared.Head.{Head}
use Rattle.term_model.specs.Tree.{Tree, Node, trees_of, subtrees, distinct, may_stand_over}
use Rattle.terms_api.specs.Terms.{HasTree, KeepsAll, trees, reachable, last, but_last, asked, IsSound, MayBuild, NeedsPlace}
use Rattle.terms_api.proofs.Staying.{trees-built}
use Rattle.plain_store.specs.Contents.{Contents, store_of, placed, collected, kept_trees, kept_among, refused, IsAbsent, IsFreeRow, HasNoFree, IsFilled, IsSame, Collected, LosesRow, CountsLosses, once_more, IsUsedUp}
use Rattle.plain_store.specs.Outcome.{HoldsReachable, IsBuilt, IsRefused, IsMade}
use Rattle.plain_store.proofs.Placing.{IsPlace, place_found, place_free, sound_placed, built_placed, has_kept, has_it}
use Rattle.plain_store.proofs.Keeping.{Raises, had, keeps, kept_at, loses_collected, trees_collected, sound_collected}
use Rattle.plain_store.proofs.Crowding.{room_left, all_full}
use Rattle.plain_store.proofs.Stepping.{sound_refused}

-- a row whose tree can't be reached loses it
kept_gone : (c : Contents) (r : Row) (t : Tree) → HasTree (store_of c) r t → (Contains (reachable (store_of c)) t → ⊥) → (o : Option Tree) → get_or (kept_trees c) r.0 None ≡ o → get_or (kept_trees c) r.0 None ≡ None
kept_gone c r t has never None e = e
kept_gone c r t has never (Some u) e =
    let h = had c c.raised r u e in
    let is : u ≡ t = (let x : Some u ≡ Some t = sym h.0 ∙ has in cc) in
    absurd (never (subst (Contains (reachable (store_of c))) is h.1))

found_not_filled : (c : Contents) (h : Head) (n : ℕ) (r : Row) → IsSound (store_of c) → HoldsReachable c → HasTree (store_of c) r (asked (store_of c) h n) → IsFilled (store_of c) h n → ⊥
found_not_filled c h n r sound holds has filled =
    let below = sound.below r (asked (store_of c) h n) has in
    let gone = kept_gone c r (asked (store_of c) h n) has filled.absent (get_or (kept_trees c) r.0 None) refl in
    let short = room_left c r.0 holds below gone in
    absurd (omega (arith, short, filled.full))

free_not_filled : (c : Contents) (h : Head) (n k : ℕ) → HoldsReachable c → k < length c.trees → get_or (kept_trees c) k None ≡ None → IsFilled (store_of c) h n → ⊥
free_not_filled c h n k holds below gone filled =
    let short = room_left c k holds below gone in absurd (omega (arith, short, filled.full))

same_placed : (c : Contents) (h : Head) (n : ℕ) (r : Row) → IsSame c (placed c h n r)
same_placed c h n r = (length-set c.trees r.0 (Some (asked (store_of c) h n)), refl, refl)

-- where no row is lost, the epoch stays
counts_kept : (c d : Contents) → d.raised ≡ c.raised → KeepsAll (store_of c) (store_of d) → CountsLosses c d
counts_kept c d same keeps =
    record { lost = λ l. absurd (l.gone (keeps l.row l.tree l.had)); kept = λ all. same }

-- where one is lost, it is raised
counts_lost : (c d : Contents) → LosesRow (store_of c) (store_of d) → d.raised ≡ once_more c.raised → CountsLosses c d
counts_lost c d l once =
    record { lost = λ other. once; kept = λ all. absurd (l.gone (all l.row l.tree l.had)) }

never_lost : (c d : Contents) {P : Type 0} → KeepsAll (store_of c) (store_of d) → LosesRow (store_of c) (store_of d) → P
never_lost c d keeps l = absurd (l.gone (keeps l.row l.tree l.had))

built_at : (c : Contents) (h : Head) (n : ℕ) (r : Row) → IsSound (store_of c) → MayBuild (store_of c) h n → (NeedsPlace (store_of c) n → ⊥) → IsPlace c h n r → (IsFilled (store_of c) h n → ⊥) → IsBuilt c (placed c h n r) h n
built_at c h n r sound may place p filled =
    record {
      built = built_placed c h n r p;
      trees = trees-built (store_of c) (store_of (placed c h n r)) h n sound (built_placed c h n r p);
      refusals = refl;
      losses = counts_kept c (placed c h n r) refl (λ q u k. has_kept c h n r p q u k);
      only_used_up = never_lost c (placed c h n r) (λ q u k. has_kept c h n r p q u k);
      sound = sound_placed c h n r sound may place p;
      same = same_placed c h n r;
      not_filled = filled;
      place = place;
    }

-- the tree had a row
outcome_found : (c : Contents) (h : Head) (n : ℕ) (r : Row) → IsSound (store_of c) → HoldsReachable c → MayBuild (store_of c) h n → (NeedsPlace (store_of c) n → ⊥) → HasTree (store_of c) r (asked (store_of c) h n) → IsBuilt c (placed c h n r) h n
outcome_found c h n r sound holds may place has =
    built_at c h n r sound may place (place_found c h n r sound has) (found_not_filled c h n r sound holds has)

-- a row was free
outcome_made : (c : Contents) (h : Head) (n : ℕ) (r : Row) → IsSound (store_of c) → HoldsReachable c → MayBuild (store_of c) h n → (NeedsPlace (store_of c) n → ⊥) → IsAbsent c (asked (store_of c) h n) → IsFreeRow c r → IsBuilt c (placed c h n r) h n
outcome_made c h n r sound holds may place absent free =
    built_at c h n r sound may place (place_free c h n r free.below free.free absent)
    (free_not_filled c h n r.0 holds free.below (kept_at c r ∙ ap (kept_among (reachable (store_of c))) free.free))

-- each without a loss
pub made_found : (c : Contents) (h : Head) (n : ℕ) (r : Row) → IsSound (store_of c) → HoldsReachable c → MayBuild (store_of c) h n → (NeedsPlace (store_of c) n → ⊥) → HasTree (store_of c) r (asked (store_of c) h n) → IsMade c (placed c h n r) h n
made_found c h n r sound holds may place has =
    record {
      built = outcome_found c h n r sound holds may place has;
      keeps = λ q u k. has_kept c h n r (place_found c h n r sound has) q u k;
      raised = refl;
      not_used_up = λ used. used.absent r has;
    }

pub made_free : (c : Contents) (h : Head) (n : ℕ) (r : Row) → IsSound (store_of c) → HoldsReachable c → MayBuild (store_of c) h n → (NeedsPlace (store_of c) n → ⊥) → IsAbsent c (asked (store_of c) h n) → IsFreeRow c r → IsMade c (placed c h n r) h n
made_free c h n r sound holds may place absent free =
    record {
      built = outcome_made c h n r sound holds may place absent free;
      keeps = λ q u k. has_kept c h n r (place_free c h n r free.below free.free absent) q u k;
      raised = refl;
      not_used_up = λ used. used.full r.0 free.below free.free;
    }

-- after a collection the same is asked
asked_collected : (c : Contents) (raised : ℕ) (h : Head) (n : ℕ) → IsSound (store_of c) → asked (store_of (collected c raised)) h n ≡ asked (store_of c) h n
asked_collected c raised h n sound = ap (λ (ts : List Tree). Node h (trees_of (last n ts))) (trees_collected c raised sound)

pub may_collected : (c : Contents) (raised : ℕ) (h : Head) (n : ℕ) → IsSound (store_of c) → MayBuild (store_of c) h n → MayBuild (store_of (collected c raised)) h n
may_collected c raised h n sound may =
    record {
      depth = may.depth;
      width = may.width;
      head = ap (λ (ts : List Tree). may_stand_over h (trees_of (last n ts))) (trees_collected c raised sound) ∙ may.head;
    }

pub absent_collected : (c : Contents) (raised : ℕ) (h : Head) (n : ℕ) → IsSound (store_of c) → IsAbsent c (asked (store_of c) h n) → IsAbsent (collected c raised) (asked (store_of (collected c raised)) h n)
absent_collected c raised h n sound absent = λ r k.
    absent r (subst (HasTree (store_of c) r) (asked_collected c raised h n sound) (had c raised r (asked (store_of (collected c raised)) h n) k).0)

-- the row that a collection freed doesn't get its tree again
lost_placed : (c : Contents) (raised : ℕ) (h : Head) (n : ℕ) (r : Row) → IsSound (store_of c) → IsAbsent c (asked (store_of c) h n) → IsPlace (collected c raised) h n r → LosesRow (store_of c) (store_of (collected c raised)) → LosesRow (store_of c) (store_of (placed (collected c raised) h n r))
lost_placed c raised h n r sound absent p l =
    record {
      row = l.row;
      tree = l.tree;
      had = l.had;
      gone = λ k. elim ((built_placed (collected c raised) h n r p).only l.row l.tree k) [
        | inl k' ↦ l.gone k'
        | inr is ↦ absent l.row (subst (HasTree (store_of c) l.row) (is ∙ asked_collected c raised h n sound) l.had)
      ];
    }

keeps_collected : (c : Contents) (raised : ℕ) → kept_trees c ≡ c.trees → KeepsAll (store_of c) (store_of (collected c raised))
keeps_collected c raised same = λ q u k. ap (λ (xs : List (Option Tree)). get_or xs q.0 None) same ∙ k

counts_made : (c : Contents) (raised : ℕ) (h : Head) (n : ℕ) (r : Row) → IsSound (store_of c) → IsAbsent c (asked (store_of c) h n) → IsPlace (collected c raised) h n r → Raises c raised → CountsLosses c (placed (collected c raised) h n r)
counts_made c raised h n r sound absent p raises =
    let e = placed (collected c raised) h n r in
    elim raises [
      | inl same ↦ counts_kept c e same.0 (λ q u k. has_kept (collected c raised) h n r p q u (keeps_collected c raised same.1 q u k))
      | inr once ↦ counts_lost c e (lost_placed c raised h n r sound absent p once.1) once.0
    ]

counts_refused : (c : Contents) (raised : ℕ) → Raises c raised → CountsLosses c (refused (collected c raised))
counts_refused c raised raises =
    let d = refused (collected c raised) in
    elim raises [
      | inl same ↦ counts_kept c d same.0 (keeps_collected c raised same.1)
      | inr once ↦ counts_lost c d (record { row = once.1.row; tree = once.1.tree; had = once.1.had; gone = once.1.gone }) once.0
    ]

-- a row was free after a collection
pub outcome_collected : (c : Contents) (raised : ℕ) (h : Head) (n : ℕ) (r : Row) → IsSound (store_of c) → HoldsReachable c → MayBuild (store_of c) h n → (NeedsPlace (store_of c) n → ⊥) → IsUsedUp c h n → Raises c raised → IsFreeRow (collected c raised) r → IsBuilt c (placed (collected c raised) h n r) h n
outcome_collected c raised h n r sound holds may place used raises free =
    let d = collected c raised in
    let e = placed d h n r in
    let size = length-map c.trees (kept_among (reachable (store_of c))) in
    let p = place_free d h n r free.below free.free (absent_collected c raised h n sound used.absent) in
    let made = built_placed d h n r p in
    let same = asked_collected c raised h n sound in
    let lost = loses_collected c raised raises in
    let well = sound_placed d h n r (sound_collected c raised sound) (may_collected c raised h n sound may) place p in
    record {
      built = record {
        row = r;
        stack = refl;
        tree = has_it d h n r p ∙ ap Some same;
        built = ap (λ (t : Tree). c.built ++ t ∷ []) same;
        only = λ q u k. elim (made.only q u k) [ inl k' ↦ inl (had c raised q u k').0 | inr is ↦ inr (is ∙ same) ];
        rows = record {
          reachable = λ q u k reach. has_kept d h n r p q u (keeps c raised q u k reach);
          epoch = elim lost.epoch [
            | inl both ↦ inl (both.0, λ q u k. has_kept d h n r p q u (both.1 q u k))
            | inr later ↦ inr later
          ];
        };
        counts = record {
          inside = refl;
          least_sweeps = omega arith;
          most_sweeps = omega arith;
          load = record { least = omega arith; most = omega arith };
          rows = length-set d.trees r.0 (Some (asked (store_of d) h n)) ∙ size;
          widest = refl;
          room = refl;
        };
      };
      trees = trees-built (store_of d) (store_of e) h n (sound_collected c raised sound) made
          ∙ ap (λ (ts : List Tree). but_last n ts ++ asked (store_of d) h n ∷ []) (trees_collected c raised sound)
          ∙ ap (λ (t : Tree). but_last n (trees (store_of c)) ++ t ∷ []) same;
      refusals = refl;
      losses = counts_made c raised h n r sound used.absent p raises;
      only_used_up = λ l. used;
      sound = well;
      same = (length-set d.trees r.0 (Some (asked (store_of d) h n)) ∙ size, refl, refl);
      not_filled = free_not_filled c h n r.0 holds (let b = free.below in omega (arith, b, size)) free.free;
      place = place;
    }

-- no row was free after a collection
pub outcome_refused : (c : Contents) (raised : ℕ) (h : Head) (n : ℕ) → IsSound (store_of c) → HoldsReachable c → (NeedsPlace (store_of c) n → ⊥) → IsUsedUp c h n → Raises c raised → HasNoFree (collected c raised) → IsRefused c (refused (collected c raised)) h n
outcome_refused c raised h n sound holds place used raises full =
    let d = collected c raised in
    let s = store_of c in
    let size = length-map c.trees (kept_among (reachable s)) in
    let same = trees_collected c raised sound in
    let filled = all_full c holds sound (λ k lt e. full k (omega (arith, size)) e) in
    let crowd : flat_map subtrees (trees (store_of d)) ≡ reachable s = ap (flat_map subtrees) same in
    let missing : Contains (reachable s) (asked s h n) → ⊥ = λ k. let r = holds (asked s h n) k in used.absent r.0 r.1 in
    let lost = loses_collected c raised raises in
    record {
      not_built = record {
        stack = refl;
        built = refl;
        none = λ q u k. (had c raised q u k).0;
        rows = record { reachable = lost.reachable; epoch = lost.epoch };
        counts = record {
          inside = refl;
          least_sweeps = omega arith;
          most_sweeps = omega arith;
          load = record { least = omega arith; most = omega arith };
          rows = size;
          widest = refl;
          room = refl;
        };
      };
      trees = same;
      crowded = record {
        full = ap distinct crowd ∙ filled ∙ sym size;
        absent = λ k. missing (subst (λ (ts : List Tree). Contains ts (asked s h n)) crowd k);
        hand = same;
      };
      refusals = refl;
      losses = counts_refused c raised raises;
      only_used_up = λ l. used;
      sound = sound_refused d (sound_collected c raised sound);
      same = (size, refl, refl);
      filled = record { full = filled; absent = missing };
      place = place;
    }

pub raises_of : (c d : Contents) → Collected c d → Raises c d.raised
raises_of c d col = elim col.raises [ inl s ↦ inl (s.0, sym (ap (λ (x : Contents). x.trees) col.new_is) ∙ s.1) | inr once ↦ inr once ]
