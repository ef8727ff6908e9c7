-- What a collection has loaded grows to all.
use Rattle.std.proofs.Common.{◌≡◌, ℕ, ◌+◌, ◌<◌, ◌≤◌, Option, Some, List, [], ◌∷◌, ◌++◌, sym, ap, ◌∙◌, subst, ⊎_elim, arith}
use Rattle.std.proofs.lemmas.Bool.{cases_lt}
use Rattle.atomic_table.specs.declared.shared.Seat.{Seat}
use Rattle.store_model.specs.declared.view.Sizes.{Sizes}
use Rattle.store_model.specs.declared.view.Place.{Place}
use Rattle.store_model.specs.declared.view.Place.TheVariants.{Base, FreeCount, Claim, InUse, FreePlace, Bucket, RowWord, Birth, Next, RootCount, Root}
use Rattle.store_model.specs.Steps.{loads, value_at}
use Rattle.store_model.specs.ByView.{IsLoaded, HasAll}
use Rattle.node_rows.specs.declared.view.NodeView.{NodeView}
use Rattle.row_sweep.specs.declared.sweep.Sweep.{Sweep}
use Rattle.row_sweep.specs.Loaded.{begun, Extends, found, HasRow, HasRoots, HasLists}
use Rattle.row_sweep.specs.Gathered.{sizes_of, loads_of, words_of, Gathers, LoadsMore, HasGathered, LoadsAgain}
use Rattle.row_sweep.proofs.Values.{found_again}
use Rattle.row_sweep.proofs.Stands.{root_count_few}
use Rattle.node_rows.specs.Collecting.{or_zero}

-- one more
pub below_more : (P Q : ℕ → Type 0) (n : ℕ) → ((q : ℕ) → q < n → P q) → ((q : ℕ) → P q → Q q) → Q n → (q : ℕ) → q < n + 1 → Q q
below_more P Q n h f x q l = ⊎_elim (λ less. f q (h q less)) (λ past. let e : n ≡ q = omega arith in subst Q e x) (cases_lt q n)

pub loaded_on : (ls ms : List (Place × ℕ)) (p : Place) → Extends ls ms → IsLoaded p ls → IsLoaded p ms
loaded_on ls ms p f h = (h.0, f p h.0 h.1)

pub row_on : (z : Sizes) (ls ms : List (Place × ℕ)) (r : ℕ) → Extends ls ms → HasRow z ls r → HasRow z ms r
row_on z ls ms r f h = record { words = λ k l. loaded_on ls ms (RowWord r k) f (h.words k l); birth = loaded_on ls ms (Birth r) f h.birth; next = loaded_on ls ms (Next r) f h.next }

pub roots_on : (ls ms : List (Place × ℕ)) (j : ℕ) → Extends ls ms → HasRoots ls j → HasRoots ms j
roots_on ls ms j f h = record { count = h.count; loaded = f (RootCount j) h.count h.loaded; roots = λ k l. loaded_on ls ms (Root j k) f (h.roots k l) }

pub lists_on : (z : Sizes) (n : ℕ) (ls ms : List (Place × ℕ)) → Extends ls ms → HasLists z n ls → HasLists z n ms
lists_on z n ls ms f h = record {
  in_use = loaded_on ls ms InUse f h.in_use;
  places = λ i l. loaded_on ls ms (FreePlace i) f (h.places i l);
  buckets = λ b l. loaded_on ls ms (Bucket b) f (h.buckets b l);
}

same_value : (o : Option ℕ) (m n : ℕ) → o ≡ Some m → o ≡ Some n → m ≡ n
same_value o m n e f = let k : Some m ≡ Some n = sym e ∙ f in cc

pub has_all : (z : Sizes) (b c f : ℕ) (more ls : List (Place × ℕ)) → ls ≡ begun b c f more → HasLists z f ls → ((r : ℕ) → r < z.rows → HasRow z ls r) → ((j : ℕ) → j < z.seats → HasRoots ls j) → HasAll z ls
has_all z b c f more ls is lists rows seats = record {
  base = (b, ap (value_at Base) is);
  claim = (c, ap (value_at Claim) is);
  count = (f, ap (value_at FreeCount) is);
  in_use = lists.in_use;
  places = λ i n e l. lists.places i (let k = same_value (value_at FreeCount ls) n f e (ap (value_at FreeCount) is) in omega arith);
  buckets = lists.buckets;
  row_words = λ r k l m. (rows r l).words k m;
  births = λ r l. (rows r l).birth;
  nexts = λ r l. (rows r l).next;
  root_counts = λ j l. ((seats j l).count, (seats j l).loaded);
  roots = λ j k n l e m. (seats j l).roots k (let q = same_value (value_at (RootCount j) ls) n (seats j l).count e (seats j l).loaded in omega arith);
}

pub all_on : (z : Sizes) (ls ms : List (Place × ℕ)) → Extends ls ms → HasAll z ls → HasAll z ms
all_on z ls ms f h = record {
  base = loaded_on ls ms Base f h.base;
  claim = loaded_on ls ms Claim f h.claim;
  count = loaded_on ls ms FreeCount f h.count;
  in_use = loaded_on ls ms InUse f h.in_use;
  places = λ i n e l. loaded_on ls ms (FreePlace i) f (h.places i h.count.0 h.count.1 (let k = same_value (value_at FreeCount ms) n h.count.0 e (f FreeCount h.count.0 h.count.1) in omega arith));
  buckets = λ b l. loaded_on ls ms (Bucket b) f (h.buckets b l);
  row_words = λ r k l m. loaded_on ls ms (RowWord r k) f (h.row_words r k l m);
  births = λ r l. loaded_on ls ms (Birth r) f (h.births r l);
  nexts = λ r l. loaded_on ls ms (Next r) f (h.nexts r l);
  root_counts = λ j l. loaded_on ls ms (RootCount j) f (h.root_counts j l);
  roots = λ j k n l e m. let q = h.root_counts j l in loaded_on ls ms (Root j k) f (h.roots j k q.0 l q.1 (let t = same_value (value_at (RootCount j) ms) n q.0 e (f (RootCount j) q.0 q.1) in omega arith));
}

-- a word that is loaded again
module _ (c : Sweep) (a : Seat (Unit {0}) NodeView) (i n : ℕ) (h : HasGathered c a i n) (b : Seat (Unit {0}) NodeView) (j m : ℕ) (p : Place) (v : ℕ) (loaded : IsLoaded p (loads_of a))
    (at : Gathers c b j m) (more : LoadsMore a i n b j m) (pushed : loads_of b ≡ loads_of a ++ (p, v) ∷ []) (value : value_at p (loads_of b) ≡ Some v) where
  pub again_gathered : HasGathered c b j m
  again_gathered = record { gathers = at; all = all_on (sizes_of c) (loads_of a) (loads_of b) more.extends h.all }

  pub again_loads : LoadsAgain c a i n b j m
  again_loads = record {
    stays = more.stays;
    words = ap found pushed ∙ found_again p (loads_of a) v loaded;
    all = λ _. again_gathered;
  }

  pub again_value : v ≡ words_of a p
  again_value = same_value (value_at p (loads_of b)) v loaded.0 value (more.extends p loaded.0 loaded.1) ∙ sym (ap or_zero loaded.1)

pub loaded_few : (c : Sweep) (a : Seat (Unit {0}) NodeView) (i n : ℕ) → Gathers c a i n → (j k : ℕ) → value_at (RootCount j) (loads_of a) ≡ Some k → k ≤ (sizes_of c).depth
loaded_few c a i n h j k e = root_count_few (sizes_of c) i a.me.0.store (begun c.base c.claim c.count h.more) h.call h.stands j k (ap (value_at (RootCount j)) (sym (ap loads h.call)) ∙ e)

pub all_loaded : (c : Sweep) (b : Seat (Unit {0}) NodeView) (i n : ℕ) (d : Seat (Unit {0}) NodeView) (j m : ℕ) (e : Seat (Unit {0}) NodeView) (k l : ℕ) → HasLists (sizes_of c) c.count (loads_of b)
    → LoadsMore b i n d j m → ((r : ℕ) → r < (sizes_of c).rows → HasRow (sizes_of c) (loads_of d) r) → Gathers c e k l → LoadsMore d j m e k l → ((q : ℕ) → q < (sizes_of c).seats → HasRoots (loads_of e) q) → HasGathered c e k l
all_loaded c b i n d j m e k l lists first rows at second seats = record {
  gathers = at;
  all = has_all (sizes_of c) c.base c.claim c.count at.more (loads_of e) (ap loads at.call)
      (lists_on (sizes_of c) c.count (loads_of d) (loads_of e) second.extends (lists_on (sizes_of c) c.count (loads_of b) (loads_of d) first.extends lists))
      (λ r q. row_on (sizes_of c) (loads_of d) (loads_of e) r second.extends (rows r q)) seats;
}

pub root_words_few : (c : Sweep) (a : Seat (Unit {0}) NodeView) (i n : ℕ) → HasGathered c a i n → (j : ℕ) → j < (sizes_of c).seats → words_of a (RootCount j) ≤ (sizes_of c).depth
root_words_few c a i n h j l = let t = h.all.root_counts j l in let f = loaded_few c a i n h.gathers j t.0 t.1 in let e = ap or_zero t.1 in omega arith
