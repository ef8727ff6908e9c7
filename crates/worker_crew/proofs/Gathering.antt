-- Lines are put at the places of their terms, one share after another.
use Rattle.std.proofs.Common.{◌≡◌, ◌≢◌, ℕ, zero, suc, ◌+◌, ◌<◌, List, [], ◌∷◌, ◌++◌, length, map, set, sum_by, true, false, refl, sym, ap, subst, ◌∙◌, inl, inr, ⊎_elim, arith, length-set, add-zero, All}
use mathlib.Core.Logic.{dite}
use native.Mathlib.Decide.{ℕ_discrete}
use Rattle.std.specs.Prelude.{Option, Some, None, Contains, IsSome, slice_get}
use Rattle.std.proofs.lemmas.List.{append-nil, append_assoc}
use Rattle.std.proofs.lemmas.List.Elements.{All-nil, All-cons, All-head, All-tail, All-contains, Contains-append_left, Contains-append_right, Contains-push}
use Rattle.atomic_table.specs.Table.{Me}
use Rattle.atomic_table.specs.Seated.{TableId}
use Rattle.worker_crew.specs.declared.draws.Drawn.{Drawn}
use Rattle.worker_crew.specs.declared.lines.Traced.{Traced}
use Rattle.worker_crew.specs.declared.share.Numbered.{Numbered}
use Rattle.worker_crew.specs.declared.share.Share.{Share}
use Rattle.worker_crew.specs.Dealt.{IsIn, times, once_below}
use Rattle.worker_crew.specs.Crews.{number_of, drawn_of}
use Rattle.worker_crew.specs.Gathered.{DrawnOnce, HasOneShare, HasPlaces, IsPlaced, Places, PlacesAll}
use Rattle.worker_crew.proofs.Dealing.{times_cons, hit_other, sum_cons}

pub get_set : {A : Type 0} (l : List A) (i : ℕ) (a : A) → i < length l → slice_get (set l i a) i ≡ Some a
get_set [] i a h = absurd (omega arith)
get_set (x ∷ xs) zero a h = refl
get_set (x ∷ xs) (suc i) a h = get_set xs i a (omega arith)

pub get_set_else : {A : Type 0} (l : List A) (i j : ℕ) (a : A) → j ≢ i → slice_get (set l i a) j ≡ slice_get l j
get_set_else [] i j a ne = refl
get_set_else (x ∷ xs) zero zero a ne = absurd (ne refl)
get_set_else (x ∷ xs) zero (suc j) a ne = refl
get_set_else (x ∷ xs) (suc i) zero a ne = refl
get_set_else (x ∷ xs) (suc i) (suc j) a ne = get_set_else xs i j a (λ e. ne (ap suc e))

pub contains_first : {A : Type 0} (x : A) (xs : List A) → Contains (x ∷ xs) x
contains_first x xs = Contains-append_left (x ∷ []) xs x (Contains-push [] x)

pub contains_rest : {A : Type 0} (x : A) (xs : List A) (y : A) → Contains xs y → Contains (x ∷ xs) y
contains_rest x xs y c = Contains-append_right (x ∷ []) xs y c

pub falsity : false ≡ true → ⊥
falsity h = cc

-- where nothing was taken, nothing is left
pub none_left : {A : Type 0} (o : Option A) (xs : List A) (n : ℕ) → ((a : A) → o ≡ Some a → ⊥) → (0 < n → IsSome o) → n ≡ length xs → xs ≡ []
none_left (Some a) xs n none_taken some e = absurd (none_taken a refl)
none_left None [] n none_taken some e = refl
none_left None (x ∷ xs) n none_taken some e = absurd (falsity (some (omega arith)))

-- some lines are placed, and these are left
pub record Placing (made rest : List Numbered) (old new : List Traced) : Type 0 where
  pub done : List Numbered
  pub split : made ≡ rest ++ done
  pub long : length new ≡ length old
  pub left : HasPlaces (length old) rest
  pub placed : Places done old new

pub placing_begins : (made : List Numbered) (old : List Traced) → HasPlaces (length old) made → Placing made made old old
placing_begins made old places = record {
  done = [];
  split = sym (append-nil made);
  long = refl;
  left = places;
  placed = λ i h. inr (refl, refl);
}

place_one : (done : List Numbered) (old new : List Traced) (x : Numbered) → x.number < length new → length new ≡ length old → Places done old new →
    Places (x ∷ done) old (set new x.number x.line)
place_one done old new x inside long placed i h = dite (ℕ_discrete i x.number)
    (λ (e : i ≡ x.number). inl (
      x.line,
      subst (λ (j : ℕ). slice_get (set new x.number x.line) j ≡ Some x.line) (sym e) (get_set new x.number x.line inside),
      subst (λ (j : ℕ). Contains (x ∷ done) (record { number = j; line = x.line })) (sym e) (contains_first x done),
    ))
    (λ ne.
    let same = get_set_else new x.number i x.line ne in
    ⊎_elim
    (λ (p : IsPlaced done new i). inl (p.0, same ∙ p.1, contains_rest x done _ p.2))
    (λ p. inr (
      same ∙ p.0,
      times_cons i x.number (map number_of done)
          ∙ (let a = hit_other i x.number (λ e. ne (sym e)) in let b = p.1 in omega arith),
    ))
    (placed i h))

pub placing_goes : (made rest left : List Numbered) (old new : List Traced) (x : Numbered) → rest ≡ left ++ x ∷ [] → Placing made rest old new →
    (x.number < length new) × Placing made left old (set new x.number x.line)
placing_goes made rest left old new x cut p =
    let all_left : HasPlaces (length old) (left ++ x ∷ []) = subst (HasPlaces (length old)) cut p.left in
    let inside : x.number < length new = subst (λ n. x.number < n) (sym p.long) (last_of left x (λ (y : Numbered). y.number < length old) all_left) in (
      inside,
      record {
        done = x ∷ p.done;
        split = p.split ∙ (ap (λ (xs : List Numbered). xs ++ p.done) cut ∙ append_assoc left (x ∷ []) p.done);
        long = length-set new x.number x.line ∙ p.long;
        left = front_of left x (λ (y : Numbered). y.number < length old) all_left;
        placed = place_one p.done old new x inside p.long p.placed;
      },
    )
  where
    last_of : (xs : List Numbered) (y : Numbered) (P : Numbered → Type 0) → All P (xs ++ y ∷ []) → P y
    last_of xs y P all = All-contains P (xs ++ y ∷ []) y all (Contains-push xs y)

    front_of : (xs : List Numbered) (y : Numbered) (P : Numbered → Type 0) → All P (xs ++ y ∷ []) → All P xs
    front_of [] y P all = All-nil P
    front_of (z ∷ zs) y P all = All-cons P z zs (All-head P z (zs ++ y ∷ []) all) (front_of zs y P (All-tail P z (zs ++ y ∷ []) all))

pub placing_ends : (made : List Numbered) (old new : List Traced) → Placing made [] old new → Places made old new
placing_ends made old new p = subst (λ (xs : List Numbered). Places xs old new) (sym p.split) p.placed

-- some shares are taken in, and these are left
pub record Gathering (table : TableId) (shares rest : List Share) (begun : Drawn) (of : TableId) (me : Me (Unit {0}) Drawn) (old new : List Traced) : Type 0 where
  pub done : List Share
  pub split : shares ≡ rest ++ done
  pub seat : IsIn table of me me.0
  pub count : me.0.shares ≡ begun.shares + length done
  pub drawn : (x : ℕ) → times x me.0.numbers ≡ times x begun.numbers + sum_by (λ (s : Share). times x (drawn_of s)) done
  pub long : length new ≡ length old
  pub left : All (HasOneShare table) rest
  pub places : All (λ (s : Share). HasPlaces (length old) s.lines.items) rest
  pub placed : PlacesAll done old new

module _ (table : TableId) (shares : List Share) (begun : Drawn) (old : List Traced) where
  pub gathering_begins : (of : TableId) (me : Me (Unit {0}) Drawn) → me.0 ≡ begun → IsIn table of me me.0 → All (HasOneShare table) shares →
      All (λ (s : Share). HasPlaces (length old) s.lines.items) shares → Gathering table shares shares begun of me old old
  gathering_begins of me same seat ones places = record {
    done = [];
    split = sym (append-nil shares);
    seat = seat;
    count = ap (λ (v : Drawn). v.shares) same ∙ sym (add-zero begun.shares);
    drawn = λ x. ap (λ (v : Drawn). times x v.numbers) same ∙ sym (add-zero (times x begun.numbers));
    long = refl;
    left = ones;
    places = places;
    placed = λ i h. inr (refl, All-nil (λ (s : Share). times i (map number_of s.lines.items) ≡ 0));
  }

  -- the share that is taken in next
  pub next_is : (rest left : List Share) (share : Share) (of : TableId) (me : Me (Unit {0}) Drawn) (new : List Traced) → rest ≡ left ++ share ∷ [] →
      Gathering table shares rest begun of me old new → HasOneShare table share × HasPlaces (length new) share.lines.items
  next_is rest left share of me new cut g = (
    last_one left share (HasOneShare table) (subst (All (HasOneShare table)) cut g.left),
    subst (λ n. HasPlaces n share.lines.items) (sym g.long)
        (last_one left share (λ (s : Share). HasPlaces (length old) s.lines.items) (subst (All (λ (s : Share). HasPlaces (length old) s.lines.items)) cut g.places)),
  )
    where
      last_one : (xs : List Share) (y : Share) (P : Share → Type 0) → All P (xs ++ y ∷ []) → P y
      last_one xs y P all = All-contains P (xs ++ y ∷ []) y all (Contains-push xs y)

  place_more : (done : List Share) (share : Share) (new newer : List Traced) → length new ≡ length old → PlacesAll done old new → Places share.lines.items new newer →
      PlacesAll (share ∷ done) old newer
  place_more done share new newer long all more i h = ⊎_elim
      (λ (p : IsPlaced share.lines.items newer i). inl (share, contains_first share done, p))
      (λ p. ⊎_elim
      (λ q. inl (q.0, contains_rest share done q.0 q.1, (q.2.0, p.0 ∙ q.2.1, q.2.2)))
      (λ q. inr (p.0 ∙ q.0, All-cons (λ (s : Share). times i (map number_of s.lines.items) ≡ 0) share done p.1 q.1))
      (all i h))
      (more i (subst (λ n. i < n) (sym long) h))

  -- one share more is taken in
  pub gathering_goes : (rest left : List Share) (share : Share) (of of' : TableId) (me me' : Me (Unit {0}) Drawn) (new newer : List Traced) → rest ≡ left ++ share ∷ [] →
      Gathering table shares rest begun of me old new → IsIn table of' me' me'.0 → me'.0.shares ≡ me.0.shares + 1 →
      ((x : ℕ) → times x me'.0.numbers ≡ times x me.0.numbers + times x (drawn_of share)) → length newer ≡ length new → Places share.lines.items new newer →
      Gathering table shares left begun of' me' old newer
  gathering_goes rest left share of of' me me' new newer cut g seat one drawn long placed = record {
    done = share ∷ g.done;
    split = g.split ∙ (ap (λ (xs : List Share). xs ++ g.done) cut ∙ append_assoc left (share ∷ []) g.done);
    seat = seat;
    count = let a = g.count in omega arith;
    drawn = λ x. let a = drawn x in let b = g.drawn x in let c = sum_cons (λ (s : Share). times x (drawn_of s)) share g.done in omega arith;
    long = long ∙ g.long;
    left = front_of left share (HasOneShare table) (subst (All (HasOneShare table)) cut g.left);
    places = front_of left share (λ (s : Share). HasPlaces (length old) s.lines.items) (subst (All (λ (s : Share). HasPlaces (length old) s.lines.items)) cut g.places);
    placed = place_more g.done share new newer g.long g.placed placed;
  }
    where
      front_of : (xs : List Share) (y : Share) (P : Share → Type 0) → All P (xs ++ y ∷ []) → All P xs
      front_of [] y P all = All-nil P
      front_of (z ∷ zs) y P all = All-cons P z zs (All-head P z (zs ++ y ∷ []) all) (front_of zs y P (All-tail P z (zs ++ y ∷ []) all))

-- nothing is left
pub gathering_ends : (table : TableId) (shares : List Share) (begun : Drawn) (of : TableId) (me : Me (Unit {0}) Drawn) (old new : List Traced) →
    Gathering table shares [] begun of me old new → PlacesAll shares old new
gathering_ends table shares begun of me old new g = subst (λ (xs : List Share). PlacesAll xs old new) (sym g.split) g.placed

-- who has all shares knows how often each number was drawn
pub drawn_once : (shares : List Share) (old new last : Drawn) (n : ℕ) → old.numbers ≡ [] →
    ((x : ℕ) → times x new.numbers ≡ times x old.numbers + sum_by (λ (s : Share). times x (drawn_of s)) shares) → last ≡ new → ((x : ℕ) → times x last.numbers ≡ once_below n x) → DrawnOnce shares
drawn_once shares old new last n begun drawn same once = record {
  count = n;
  once = λ x.
      let a : times x old.numbers ≡ 0 = ap (times x) begun in
      let b = drawn x in
      let c : times x last.numbers ≡ times x new.numbers = ap (λ (v : Drawn). times x v.numbers) same in
      let d = once x in omega arith;
}
