-- What a collection notes of the words that it has worked out.
use Rattle.std.proofs.Common.{◌≡◌, ◌≢◌, ℕ, suc, ◌+◌, ◌<◌, ◌≤◌, Bool, true, false, cond, Some, List, [], ◌∷◌, get_or, refl, sym, ap, ◌∙◌, subst, ⊎_elim, arith, eq-eqb, ne_eqb}
use Rattle.std.specs.Bool.{IsTrue}
use Rattle.std.proofs.lemmas.Bool.{cases_lt, false≢true}
use Rattle.atomic_table.specs.declared.shared.Seat.{Seat}
use Rattle.store_model.specs.declared.view.Sizes.{Sizes}
use Rattle.store_model.specs.declared.view.Call.{Call}
use Rattle.store_model.specs.declared.view.Call.TheVariants.{Loading}
use Rattle.store_model.specs.declared.view.Place.{Place}
use Rattle.store_model.specs.declared.view.Place.TheVariants.{FreeCount, InUse, FreePlace, Bucket, Next}
use Rattle.store_model.specs.Machine.{Each, In}
use Rattle.store_model.specs.Marks.{IsMarked, MarksReached}
use Rattle.store_model.specs.Steps.{loads, stores, value_at, grown_use}
use Rattle.store_model.specs.ByView.{IsLoaded, seen_at}
use Rattle.store_model.specs.Words.{write}
use Rattle.store_model.proofs.Basics.{each_map, write_same}
use Rattle.node_rows.specs.declared.view.NodeView.{NodeView}
use Rattle.node_rows.specs.Collecting.{HasSeen}
use Rattle.row_sweep.specs.declared.sweep.Sweep.{Sweep}
use Rattle.row_sweep.specs.Gathered.{sizes_of, loads_of, words_of, HasGathered, LoadsAgain}
use Rattle.row_sweep.specs.Chained.{LeadsTo, Belongs, ChainsTo}
use Rattle.row_sweep.specs.Collected.{IsWorkedOut}
use Rattle.row_sweep.specs.Read.{again_in_turn}
use Rattle.row_sweep.specs.Compared.{told_by, unmarked_before, place_for, Notes, IsCompared}
use Rattle.row_sweep.specs.declared.turns.Order.{Order}
use Rattle.row_sweep.specs.Turns.{order_for, row_in_turn}
use Rattle.row_sweep.proofs.Turning.{turn_back, turn_same}

-- what a test says of a mark
pub as_told : (r b : Bool) → (IsTrue r → b ≡ true) × (b ≡ true → IsTrue r) → b ≡ r
as_told true b h = h.0 refl
as_told false true h = absurd (false≢true (h.1 refl))
as_told false false h = refl

-- a cell that says that the word stays, and another one
pub told_stays : (word cell : ℕ) → cell ≡ 4294967295 → told_by word cell ≡ word
told_stays word cell e = ap (λ (b : Bool). cond b word cell) (eq-eqb cell 4294967295 e)

pub told_new : (word cell : ℕ) → cell ≢ 4294967295 → told_by word cell ≡ cell
told_new word cell ne = ap (λ (b : Bool). cond b word cell) (ne_eqb cell 4294967295 ne)

-- a word that is written as it was
pub written_same : (w : Place → ℕ) (p : Place) (n : ℕ) → n ≡ w p → w ≡ write w p n
written_same w p n e = sym (ap (λ (k : ℕ). write w p k) e ∙ write_same w p)

-- the words of a chain are 0 or one more than a row of it
leads_few : (next : ℕ → ℕ) (n at : ℕ) (rs : List ℕ) → Each (λ r. r < n) rs → LeadsTo next at rs → at ≤ n
leads_few next n at [] e h = omega arith
leads_few next n at (r ∷ rs) e h = let a = e.0 in let b = h.0 in omega arith

next_few : (next : ℕ → ℕ) (n at : ℕ) (rs : List ℕ) → Each (λ r. r < n) rs → LeadsTo next at rs → (r : ℕ) → In r rs → next r ≤ n
next_few next n at [] e h r is = absurd is
next_few next n at (q ∷ rs) e h r is = ⊎_elim (λ same. subst (λ (x : ℕ). next x ≤ n) (sym same) (leads_few next n (next q) rs e.1 h.1)) (λ more. next_few next n (next q) rs e.1 h.1 r more) is

module _ (w : Place → ℕ) (marks : List Bool) (u n : ℕ) (heads nexts : List ℕ) (h : ChainsTo w marks u n heads nexts) where
  rows_few : (b : ℕ) → b < u → Each (λ r. r < n) (h.rows b)
  rows_few b l = each_map (Belongs w marks u n b) (λ r. r < n) (h.rows b) (λ r k. k.below) (h.belong b l)

  pub heads_few : (b : ℕ) → b < u → get_or heads b 0 ≤ n
  heads_few b l = leads_few (λ r. get_or nexts r 0) n (get_or heads b 0) (h.rows b) (rows_few b l) (h.leads b l)

  pub nexts_few : (r : ℕ) → r < n → IsMarked marks r → get_or nexts r 0 ≤ n
  nexts_few r l m = let t = h.all r l m in next_few (λ q. get_or nexts q 0) n (get_or heads t.0 0) (h.rows t.0) (rows_few t.0 t.1) (h.leads t.0 t.1) r t.2

-- how many aren't marked, one turn more
pub unmarked_next : (marks : List Bool) (z : Sizes) (o : Order) (n count : ℕ) → count ≡ unmarked_before marks z o n → count + cond (get_or marks (row_in_turn z o n) false) 0 1 ≡ unmarked_before marks z o (n + 1)
unmarked_next marks z o n count e =
    let next : n + 1 ≡ suc n = omega arith in
    ap (λ (k : ℕ). k + cond (get_or marks (row_in_turn z o n) false) 0 1) e ∙ sym (ap (unmarked_before marks z o) next)

-- the cells of no row yet
pub notes_none : (w : Place → ℕ) (count : ℕ) (marks : List Bool) (nexts : List ℕ) (z : Sizes) (o : Order) → Notes w count marks nexts nexts z o 0
notes_none w count marks nexts z o = record { next = λ r l t. absurd (omega arith); place = λ r l t. absurd (omega arith); rest = λ r l. refl }

-- the cells of one row more
module _ (w : Place → ℕ) (count : ℕ) (marks : List Bool) (nexts cells more : List ℕ) (z : Sizes) (o : Order) (n row : ℕ) (is : row ≡ row_in_turn z o n) (h : Notes w count marks nexts cells z o n)
    (next : IsMarked marks row → told_by (w (Next row)) (get_or more row 0) ≡ get_or cells row 0)
    (place : get_or marks row false ≡ false → get_or more row 0 ≡ 4294967295 → (unmarked_before marks z o n < count) × (w (FreePlace (unmarked_before marks z o n)) ≡ row))
    (others : (r : ℕ) → r ≢ row → get_or more r 0 ≡ get_or cells r 0) where
  turn_is : row_in_turn z o row ≡ n
  turn_is = ap (row_in_turn z o) is ∙ turn_back z o n

  other : (r : ℕ) → row_in_turn z o r ≢ n → get_or more r 0 ≡ get_or cells r 0
  other r not = others r (λ e. not (ap (row_in_turn z o) e ∙ turn_is))

  before : (r : ℕ) → row_in_turn z o r < n → get_or more r 0 ≡ get_or cells r 0
  before r l = other r (λ e. omega arith)

  this : (r : ℕ) → n ≤ row_in_turn z o r → row_in_turn z o r < n + 1 → row ≡ r
  this r past l = is ∙ turn_same z o n r (omega arith)

  pub notes_more : Notes w count marks nexts more z o (n + 1)
  notes_more = record {
    next = λ r l t m. ⊎_elim (λ less. ap (told_by (w (Next r))) (before r less) ∙ h.next r l less m)
        (λ past. subst (λ (q : ℕ). IsMarked marks q → told_by (w (Next q)) (get_or more q 0) ≡ get_or nexts q 0) (this r past t) (λ k. next k ∙ h.rest row (let e = turn_is in omega arith)) m) (cases_lt (row_in_turn z o r) n);
    place = λ r l t not is. ⊎_elim (λ less. h.place r l less not (sym (before r less) ∙ is))
        (λ past. subst (λ (q : ℕ). get_or marks q false ≡ false → get_or more q 0 ≡ 4294967295 → (place_for marks z o q < count) × (w (FreePlace (place_for marks z o q)) ≡ q)) (this r past t)
        (subst (λ (j : ℕ). get_or marks row false ≡ false → get_or more row 0 ≡ 4294967295 → (unmarked_before marks z o j < count) × (w (FreePlace (unmarked_before marks z o j)) ≡ row)) (sym turn_is) place) not is) (cases_lt (row_in_turn z o r) n);
    rest = λ r l. other r (λ e. omega arith) ∙ h.rest r (omega arith);
  }

-- what was worked out stays so while words are loaded again
module _ (c : Sweep) (a : Seat (Unit {0}) NodeView) (i n : ℕ) (marks : List Bool) (nexts heads : List ℕ) (live buckets : ℕ) (h : IsWorkedOut c a i n marks nexts heads live buckets)
    (b : Seat (Unit {0}) NodeView) (j m : ℕ) (again : LoadsAgain c a i n b j m) (at : HasGathered c b j m) where
  pub out_again : IsWorkedOut c b j m marks nexts heads live buckets
  out_again = record {
    gathered = at;
    reached = subst (λ (w : Place → ℕ). MarksReached w (sizes_of c).rows marks) (sym again.words) h.reached;
    chains = subst (λ (w : Place → ℕ). ChainsTo w marks buckets (sizes_of c).rows heads nexts) (sym again.words) h.chains;
    live_is = h.live_is;
    buckets_are = h.buckets_are ∙ ap (λ (w : Place → ℕ). grown_use (sizes_of c) (w InUse) live) (sym again.words);
    use_is = ap (λ (w : Place → ℕ). w InUse) again.words ∙ (h.use_is ∙ sym (ap (λ (v : NodeView). v.store.in_use) again.stays.only));
    used = h.used;
    within = h.within;
    more = subst (λ (w : Place → ℕ). w InUse ≤ buckets) (sym again.words) h.more;
  }

-- and it is noted which words it changes
module _ (c : Sweep) (a : Seat (Unit {0}) NodeView) (i n : ℕ) (marks : List Bool) (nexts heads : List ℕ) (live buckets : ℕ) (h : IsWorkedOut c a i n marks nexts heads live buckets)
    (b : Seat (Unit {0}) NodeView) (j m : ℕ) (d : Seat (Unit {0}) NodeView) (k l : ℕ) (first : LoadsAgain c a i n b j m) (second : LoadsAgain c b j m d k l) (at : HasGathered c d k l)
    (cells tails : List ℕ) (notes : Notes (words_of a) c.count marks nexts cells (sizes_of c) (order_for (sizes_of c) live) (sizes_of c).rows) (tells : (x : ℕ) → x < buckets → told_by (words_of b (Bucket x)) (get_or tails x 0) ≡ get_or heads x 0) where
  both : LoadsAgain c a i n d k l
  both = again_in_turn c a i n b j m d k l first second

  pub all_compared : IsCompared c d k l marks cells tails live buckets
  all_compared = record {
    new_nexts = nexts;
    new_heads = heads;
    out = out_again c a i n marks nexts heads live buckets h d k l both at;
    notes = subst (λ (w : Place → ℕ). Notes w c.count marks nexts cells (sizes_of c) (order_for (sizes_of c) live) (sizes_of c).rows) (sym both.words) notes;
    heads_are = λ x less. subst (λ (w : Place → ℕ). told_by (w (Bucket x)) (get_or tails x 0) ≡ get_or heads x 0) (sym second.words) (tells x less);
  }

-- what a collection has loaded it has seen, and the free places that count are loaded
pub gathered_seen : (c : Sweep) (a : Seat (Unit {0}) NodeView) (i n : ℕ) → HasGathered c a i n → (p : Place) → IsLoaded p (loads_of a) → HasSeen a.me.0.store p
gathered_seen c a i n h p l =
    let own : a.me.0.store.call ≡ Loading (loads_of a) = h.gathers.call ∙ ap Loading (sym (ap loads h.gathers.call)) in
    subst (λ (x : Call). (t : ℕ) × (seen_at p (loads x) (stores x) ≡ Some t)) (sym own) l

pub place_loaded : (c : Sweep) (a : Seat (Unit {0}) NodeView) (i n : ℕ) → HasGathered c a i n → (k : ℕ) → k < c.count → IsLoaded (FreePlace k) (loads_of a)
place_loaded c a i n h k l = h.all.places k c.count (ap (λ (x : Call). value_at FreeCount (loads x)) h.gathers.call) l
