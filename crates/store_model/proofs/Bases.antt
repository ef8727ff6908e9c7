-- Steps keep what is known of bases.
use Rattle.std.proofs.Common.{◌≡◌, ◌⊎◌, ℕ, zero, suc, ◌+◌, ◌*◌, ◌<◌, ◌≤◌, eqb, Bool, true, false, cond, List, [], ◌∷◌, ◌++◌, length, refl, sym, ap, ◌∙◌, subst, ⊎_elim, inl, inr, arith, length-append, Some}
use Rattle.std.specs.Prelude.{Contains, nat_lt}
use Rattle.history_core.specs.declared.entry.Entry.{Entry}
use Rattle.history_core.specs.declared.entry.Entry.TheVariants.{Make, Collect}
use Rattle.history_core.specs.Entry.{is_collect, key, place}
use Rattle.history_core.specs.Chronicle.{History, precedes, put, chronicle, IsNoted}
use Rattle.history_core.proofs.Merge.{noting_puts_in}
use Rattle.history_core.proofs.Chronicles.{has_the_noted}
use Rattle.history_core.proofs.Members.{contains_here, contains_there}
use Rattle.history_core.proofs.Places.{lower_goes_first}
use Rattle.store_model.specs.Words as words
use Rattle.store_model.specs.Words.{Place, Base, write}
use Rattle.store_model.specs.Calls.{Call, Idle, Comparing, Passing, Finding, Ended, Counting, Drawing, Placing, Filling, Numbering, Linking, Publishing, Loading, Storing, View}
use Rattle.store_model.specs.Machine.{Sizes, In, action, with_call, refusing, overdrawn, gained, arrived, IsCreation}
use Rattle.store_model.specs.Invariant.{span, listed, tally, one_if}
use Rattle.store_model.specs.Bases.{collect_numbers, StaysBelow, IsBase, collections, BasesKnown}
use Rattle.store_model.proofs.Basics.{choose, put_case}
use Rattle.store_model.proofs.Histories.{listed_same, listed_length, lists_noted}

-- what a step does to its seat's entries and base: nothing, or one more entry that is no Collect;
-- nothing, or the base
pub record NotesOne (now : ℕ) (v u : View) : Type 0 where
  pub entries : (u.entries ≡ v.entries) ⊎ ((e : Entry) × (is_collect e ≡ false) × (u.entries ≡ v.entries ++ e ∷ []))
  pub base : (u.base ≡ v.base) ⊎ (u.base ≡ now)

pub notes_none : (base : ℕ) (v u : View) → u.entries ≡ v.entries → u.base ≡ v.base → NotesOne base v u
notes_none base v u e b = record { entries = inl e; base = inl b }

numbers_head : (x : ℕ × Entry) (l : History) → is_collect x.1 ≡ false → collect_numbers (x ∷ l) ≡ collect_numbers l
numbers_head x l e = ap (λ (b : Bool). cond b (key x.1 ∷ collect_numbers l) (collect_numbers l)) e

numbers_put : (x : ℕ × Entry) (l : History) → is_collect x.1 ≡ false → collect_numbers (put x l) ≡ collect_numbers l
numbers_put x [] e = numbers_head x [] e
numbers_put x (y ∷ ys) e = choose (λ (l : History). collect_numbers l ≡ collect_numbers (y ∷ ys)) (precedes x y) (x ∷ y ∷ ys) (y ∷ put x ys)
    (λ _. numbers_head x (y ∷ ys) e)
    (λ _. ap (λ (ns : List ℕ). cond (is_collect y.1) (key y.1 ∷ ns) ns) (numbers_put x ys e))

moved : (b : Bool) (n : ℕ) (ns : List ℕ) (k : ℕ) → cond b (n ∷ (ns ++ k ∷ [])) (ns ++ k ∷ []) ≡ cond b (n ∷ ns) ns ++ k ∷ []
moved true n ns k = refl
moved false n ns k = refl

numbers_end : (x : ℕ × Entry) (l : History) → is_collect x.1 ≡ true → ((y : ℕ × Entry) → Contains l y → precedes x y ≡ false) → collect_numbers (put x l) ≡ collect_numbers l ++ key x.1 ∷ []
numbers_end x [] e last = ap (λ (b : Bool). cond b (key x.1 ∷ []) []) e
numbers_end x (y ∷ ys) e last =
    ap (λ (b : Bool). collect_numbers (cond b (x ∷ y ∷ ys) (y ∷ put x ys))) (last y (contains_here y ys))
    ∙ (ap (λ (ns : List ℕ). cond (is_collect y.1) (key y.1 ∷ ns) ns) (numbers_end x ys e (λ q c. last q (contains_there y ys q c)))
    ∙ moved (is_collect y.1) (key y.1) (collect_numbers ys) (key x.1))

below_more : (first wide c : ℕ) (ns : List ℕ) (n : ℕ) → StaysBelow first wide c ns → n + 1 ≤ first + (c + length ns) * wide → StaysBelow first wide c (ns ++ n ∷ [])
below_more first wide c [] n h l = (subst (λ (k : ℕ). n + 1 ≤ first + k * wide) (let e : c + 0 ≡ c = omega arith in e) l, tt)
below_more first wide c (x ∷ ns) n h l = (h.0, below_more first wide (suc c) ns n h.1 (subst (λ (k : ℕ). n + 1 ≤ first + k * wide) (let e : c + suc (length ns) ≡ suc c + length ns = omega arith in e) l))

in_more : (n k : ℕ) (ns : List ℕ) → In n ns → In n (ns ++ k ∷ [])
in_more n k [] i = absurd i
in_more n k (x ∷ ns) i = ⊎_elim inl (λ j. inr (in_more n k ns j)) i

in_last : (n : ℕ) (ns : List ℕ) → In n (ns ++ n ∷ [])
in_last n [] = inl refl
in_last n (x ∷ ns) = inr (in_last n ns)

base_more : (first : ℕ) (ns : List ℕ) (k b : ℕ) → IsBase first ns b → IsBase first (ns ++ k ∷ []) b
base_more first ns k b h = ⊎_elim inl (λ (t : (n : ℕ) × In n ns × (b ≡ n + 1)). inr (t.0, in_more t.0 k ns t.1, t.2)) h

one : (b : Bool) → one_if b ≤ 1
one true = omega arith
one false = omega arith

pub tally_few : (f : ℕ → Bool) (n : ℕ) → tally f n ≤ n
tally_few f zero = omega arith
tally_few f (suc n) = let a = tally_few f n in let b : one_if (f n) ≤ 1 = one (f n) in omega arith

more_times : (a b : ℕ) → suc a * b ≡ a * b + b
more_times a b = grind arith

-- what is known, over the numbers of the collections
pub known_of : (z : Sizes) (base : ℕ) (view : ℕ → View) (ns : List ℕ) → collections z view ≡ ns → StaysBelow z.first (span z) 1 ns → base ≤ z.first + length ns * span z → IsBase z.first ns base
    → ((j : ℕ) → ((view j).base ≡ 0) ⊎ IsBase z.first ns (view j).base) → BasesKnown z base view
known_of z base view ns e a b c d = record {
  numbers = subst (StaysBelow z.first (span z) 1) (sym e) a;
  below = subst (λ (ms : List ℕ). base ≤ z.first + length ms * span z) (sym e) b;
  known = subst (λ (ms : List ℕ). IsBase z.first ms base) (sym e) c;
  seats = λ j. subst (λ (ms : List ℕ). ((view j).base ≡ 0) ⊎ IsBase z.first ms (view j).base) (sym e) (d j);
}

module _ (z : Sizes) (view : ℕ → View) (i : ℕ) (there : i < z.seats) where
  same_collections : (v : View) (base : ℕ) → NotesOne base (view i) v → collections z (words.put view i v) ≡ collections z view
  same_collections v base o = ⊎_elim
      (λ e. ap (λ ls. collect_numbers (chronicle ls)) (listed_same z.seats _ _ (λ j. put_case (λ (p : View). p.entries ≡ (view j).entries) view i v j (λ f. e ∙ ap (λ (k : ℕ). (view k).entries) (sym f)) (λ _. refl))))
      (λ (t : (e : Entry) × (is_collect e ≡ false) × (v.entries ≡ (view i).entries ++ e ∷ [])).
      let lists = listed z.seats (λ j. (view j).entries) in
      ap (λ ls. collect_numbers (chronicle ls)) (lists_noted z.seats view i v t.0 there t.2)
      ∙ (ap collect_numbers (noting_puts_in lists i t.0 (let a = listed_length z.seats (λ j. (view j).entries) in omega arith)) ∙ numbers_put (i, t.0) (chronicle lists) t.1))
      o.entries

  pub bases_noted : (v : View) (base next : ℕ) → NotesOne base (view i) v → next ≡ base → BasesKnown z base view → BasesKnown z next (words.put view i v)
  bases_noted v base next o same h =
      known_of z next (words.put view i v) (collections z view) (same_collections v base o) h.numbers (let b = h.below in omega arith) (subst (IsBase z.first (collections z view)) (sym same) h.known)
      (λ j. put_case (λ (p : View). (p.base ≡ 0) ⊎ IsBase z.first (collections z view) p.base) view i v j
      (λ _. ⊎_elim (λ f. subst (λ (b : ℕ). (b ≡ 0) ⊎ IsBase z.first (collections z view) b) (sym f) (h.seats i)) (λ f. inr (subst (IsBase z.first (collections z view)) (sym f) h.known)) o.base) (λ _. h.seats j))

  -- a collection ends
  pub bases_collected : (v : View) (base claim : ℕ) (names : List ℕ) → BasesKnown z base view → v.entries ≡ (view i).entries ++ Collect (base + claim) names ∷ [] → v.base ≡ base + claim + 1 → claim + 1 ≤ span z
      → ((y : ℕ × Entry) → IsNoted (listed z.seats (λ j. (view j).entries)) y → place y.1 < 2 * (base + claim)) → BasesKnown z (base + claim + 1) (words.put view i v)
  bases_collected v base claim names h more own few low =
      let number : ℕ = base + claim in
      let e : Entry = Collect number names in
      let lists = listed z.seats (λ j. (view j).entries) in
      let ns : List ℕ = collections z view in
      let all : collections z (words.put view i v) ≡ ns ++ number ∷ [] =
      ap (λ ls. collect_numbers (chronicle ls)) (lists_noted z.seats view i v e there more)
      ∙ (ap collect_numbers (noting_puts_in lists i e (let a = listed_length z.seats (λ j. (view j).entries) in omega arith))
      ∙ numbers_end (i, e) (chronicle lists) refl (λ y c. lower_goes_first (i, e) y (low y ((has_the_noted lists y).0 c)))) in
      let product : suc (length ns) * span z ≡ length ns * span z + span z = more_times (length ns) (span z) in
      let below = h.below in
      let long : length (ns ++ number ∷ []) ≡ suc (length ns) = (let a = length-append ns (number ∷ []) in omega arith) in
      let bound : number + 1 ≤ z.first + suc (length ns) * span z = omega arith in
      let new : IsBase z.first (ns ++ number ∷ []) (number + 1) = inr (number, in_last number ns, refl) in
      known_of z (number + 1) (words.put view i v) (ns ++ number ∷ []) all
      (below_more z.first (span z) 1 ns number h.numbers (subst (λ (k : ℕ). number + 1 ≤ z.first + k * span z) (let a : suc (length ns) ≡ 1 + length ns = omega arith in a) bound))
      (subst (λ (k : ℕ). number + 1 ≤ z.first + k * span z) (sym long) bound) new
      (λ j. put_case (λ (p : View). (p.base ≡ 0) ⊎ IsBase z.first (ns ++ number ∷ []) p.base) view i v j
      (λ _. inr (subst (IsBase z.first (ns ++ number ∷ [])) (sym own) new)) (λ _. ⊎_elim inl (λ b. inr (base_more z.first ns number (view j).base b)) (h.seats j)))

-- what an action of a creation notes
pub action_notes : (base : ℕ) (v : View) (x : Call) (n : ℕ) → NotesOne base v ((action v x).moved n)
action_notes base v Idle n = notes_none base v _ refl refl
action_notes base v (Loading ls) n = notes_none base v _ refl refl
action_notes base v (Storing ls ss) n = notes_none base v _ refl refl
action_notes base v (Comparing c d from old at k) n = notes_none base v _ refl refl
action_notes base v (Passing c d from old at dif) n = notes_none base v _ refl refl
action_notes base v (Finding c d r) n = record { entries = inr (_, refl, refl); base = inl refl }
action_notes base v (Ended c from) n = notes_none base v _ refl refl
action_notes base v (Counting c from claim) n = choose (NotesOne base v) (nat_lt claim n) (with_call v (Drawing c from n)) (refusing v c from claim n) (λ _. notes_none base v _ refl refl) (λ _. notes_none base v _ refl refl)
action_notes base v (Drawing c from count) n = choose (NotesOne base v) (nat_lt n count) (with_call v (Placing c from n)) (overdrawn v c from n count) (λ _. notes_none base v _ refl refl) (λ _. notes_none base v _ refl refl)
action_notes base v (Placing c from a) n = notes_none base v _ refl refl
action_notes base v (Filling c from a r k) n = notes_none base v _ refl refl
action_notes base v (Numbering c from a r) n = notes_none base v _ refl refl
action_notes base v (Linking c from a r) n = notes_none base v _ refl refl
action_notes base v (Publishing c from a r) n = choose (NotesOne base v) (eqb n from) (gained v c r (v.base + a) (Make (v.base + a) c.head c.arguments r)) (with_call v (arrived c (Some (a, r)) n from n)) (λ _. record { entries = inr (_, refl, refl); base = inl refl }) (λ _. notes_none base v _ refl refl)

-- and that it leaves the base
pub action_base : (w : Place → ℕ) (v : View) (x : Call) → IsCreation x → write w (action v x).place ((action v x).written (w (action v x).place)) Base ≡ w Base
action_base w v Idle is = absurd is
action_base w v (Loading ls) is = absurd is
action_base w v (Storing ls ss) is = absurd is
action_base w v x is = refl
