-- The rows with their arguments are a graph that a collection reads by loading words again, which
-- are as they were.
use Rattle.std.specs.Prelude.{◌≡◌, ℕ, refl}
use Rattle.std.proofs.Common.{◌∙◌, ap, sym, subst}
use Rattle.atomic_table.specs.declared.shared.Seat.{Seat}
use Rattle.term_model.specs.declared.Row.{Row}
use Rattle.store_model.specs.declared.view.Place.{Place}
use Rattle.store_model.specs.Machine.{with_call}
use Rattle.store_model.specs.Steps.{ReachesByWords}
use Rattle.node_rows.specs.declared.view.NodeView.{NodeView}
use Rattle.node_rows.specs.Steps.{with_store}
use Rattle.row_sweep.specs.declared.sweep.Sweep.{Sweep}
use Rattle.row_sweep.specs.Gathered.{words_of, StaysSeat, HasGathered, LoadsAgain}
use Rattle.row_sweep.specs.Marked.{children_of}

-- the collection has loaded all words, and the row is reached
pub record MayRead (c : Sweep) (seat : Seat (Unit {0}) NodeView) (i n : ℕ) (r : Row) : Type 0 where
  pub at : HasGathered c seat i n
  pub reached : ReachesByWords (words_of seat) r.0

-- the same collection, which has loaded words again
pub record ReadsOn (c : Sweep) (a : Seat (Unit {0}) NodeView) (i n : ℕ) (d : Sweep)
    (b : Seat (Unit {0}) NodeView) (j m : ℕ) : Type 0 where
  pub sweep : d ≡ c
  pub again : LoadsAgain c a i n b j m

pub stays_itself : (a : Seat (Unit {0}) NodeView) (i n : ℕ) → StaysSeat a i n a i n
stays_itself a i n =
    record {
      same = record { table = refl; id = refl; slots = refl };
      number = refl;
      seats = refl;
      only = refl;
    }

pub stays_in_turn : (a : Seat (Unit {0}) NodeView) (i n : ℕ) (b : Seat (Unit {0}) NodeView)
    (j m : ℕ) (c : Seat (Unit {0}) NodeView) (k l : ℕ) → StaysSeat a i n b j m
    → StaysSeat b j m c k l → StaysSeat a i n c k l
stays_in_turn a i n b j m c k l e f = record {
  same = record {
    table = f.same.table ∙ e.same.table;
    id = f.same.id ∙ e.same.id;
    slots = f.same.slots ∙ e.same.slots;
  };
  number = f.number ∙ e.number;
  seats = f.seats ∙ e.seats;
  only = f.only ∙ ap (λ (v : NodeView). with_store v (with_call v.store c.me.0.store.call)) e.only;
}

module _ (c : Sweep) (a : Seat (Unit {0}) NodeView) (i n : ℕ) where
  pub again_itself : LoadsAgain c a i n a i n
  again_itself = record { stays = stays_itself a i n; words = refl; all = λ h. h }

  pub again_in_turn : (b : Seat (Unit {0}) NodeView) (j m : ℕ) (d : Seat (Unit {0}) NodeView)
      (k l : ℕ) → LoadsAgain c a i n b j m → LoadsAgain c b j m d k l → LoadsAgain c a i n d k l
  again_in_turn b j m d k l e f = record {
    stays = stays_in_turn a i n b j m d k l e.stays f.stays;
    words = f.words ∙ e.words;
    all = λ h. f.all (e.all h);
  }

  pub reads_itself : ReadsOn c a i n c a i n
  reads_itself = record { sweep = refl; again = again_itself }

  pub reads_in_turn : (d : Sweep) (b : Seat (Unit {0}) NodeView) (j m : ℕ) (e : Sweep)
      (f : Seat (Unit {0}) NodeView) (k l : ℕ) → ReadsOn c a i n d b j m → ReadsOn d b j m e f k l
      → ReadsOn c a i n e f k l
  reads_in_turn d b j m e f k l g h =
      record {
        sweep = h.sweep ∙ g.sweep;
        again = again_in_turn b j m f k l g.again
            (subst (λ (x : Sweep). LoadsAgain x b j m f k l) g.sweep h.again);
      }

  pub reads_same : (d : Sweep) (b : Seat (Unit {0}) NodeView) (j m : ℕ) → ReadsOn c a i n d b j m
      → (r : Row) → children_of (words_of b) r ≡ children_of (words_of a) r
  reads_same d b j m h r = ap (λ (w : Place → ℕ). children_of w r) h.again.words

  pub reads_still : (d : Sweep) (b : Seat (Unit {0}) NodeView) (j m : ℕ) → ReadsOn c a i n d b j m
      → (r : Row) → MayRead c a i n r → MayRead d b j m r
  reads_still d b j m h r may = record {
    at = subst (λ (x : Sweep). HasGathered x b j m) (sym h.sweep) (h.again.all may.at);
    reached = subst (λ (w : Place → ℕ). ReachesByWords w r.0) (sym h.again.words) may.reached;
  }
