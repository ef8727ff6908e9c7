-- What contracts see of a desk is stored as the tuple of its parts.
use Rattle.std.specs.Prelude.{◌≡◌, ℕ, zero, suc, Bool, List, Option, refl}
use Rattle.std.proofs.Common.{ap}
use Rattle.std.specs.Coded.{Coded, code_by, coded×, coded_ℕ, coded_bool, coded_list, coded_option}
use Rattle.term_model.specs.declared.Row.{Row}
use Rattle.term_model.specs.Tree.{Tree}
use Rattle.term_model.specs.declared.Head.{Head}
use Rattle.term_model.specs.declared.Head.TheVariants.{App, Int, Nil, Cons}
use Rattle.term_model.specs.Code.{tree_code, head_from}
use Rattle.history_core.specs.declared.entry.Entry.{Entry}
use Rattle.history_core.specs.declared.entry.Entry.TheVariants.{Make, Find, Roots, Collect}
use Rattle.atomic_table.specs.Seated.{TableId}
use Rattle.store_model.specs.declared.view.Sizes.{Sizes}
use Rattle.shared_desk.specs.Pass.{PassView, WhichStore, WhichPass}

-- what contracts see of a desk
pub record Contents : Type 0 where
  pub pass : PassView
  pub stack : List Row
  pub refusals : ℕ
  pub spent : Bool
  -- the log that its pass writes; None where it is lost, or where the pass writes none
  pub log : Option (List ℕ)

abbrev pub row_code : Coded Row
row_code = code_by ℕ coded_ℕ (λ r. r.0) (λ n. record { 0 = n }) (λ _. refl)

abbrev pub Trees : Type 0
Trees = List Tree × List Tree

abbrev pub Rows : Type 0
Rows = List Row × List Row

abbrev pub Numbers : Type 0
Numbers = ℕ × ℕ

abbrev pub EntryParts : Type 0
EntryParts = (Numbers × Numbers) × (List ℕ × ℕ)

abbrev pub Notes : Type 0
Notes = List Entry × ℕ

abbrev pub Parts : Type 0
Parts = ((Bool × Bool) × (Bool × ℕ))
    × ((List (Option Tree) × Rows)
    × ((Trees × Trees) × ((Numbers × Numbers) × ((ℕ × Notes) × (WhichStore × WhichPass)))))

abbrev pub trees_code : Coded Trees
trees_code = coded× (coded_list tree_code) (coded_list tree_code)

abbrev pub numbers_code : Coded Numbers
numbers_code = coded× coded_ℕ coded_ℕ

-- a head as its kind and its number
abbrev pub head_parts : Head → Numbers
head_parts (App f) = (0, f.0)
head_parts (Int v) = (1, v)
head_parts Nil = (2, 0)
head_parts Cons = (3, 0)

pub head_back : (h : Head) → head_from (head_parts h).0 (head_parts h).1 ≡ h
head_back (App f) = refl
head_back (Int v) = refl
head_back Nil = refl
head_back Cons = refl

-- an entry as its kind, its key, its head, its names, and the name of its row
abbrev pub entry_parts : Entry → EntryParts
entry_parts (Make n h args row) = (((0, n), head_parts h), (args, row))
entry_parts (Find n h args row) = (((1, n), head_parts h), (args, row))
entry_parts (Roots n rows) = (((2, n), (0, 0)), (rows, 0))
entry_parts (Collect n kept) = (((3, n), (0, 0)), (kept, 0))

abbrev pub entry_of : (kind n : ℕ) → Head → List ℕ → ℕ → Entry
entry_of zero n h names row = Make n h names row
entry_of (suc zero) n h names row = Find n h names row
entry_of (suc (suc zero)) n h names row = Roots n names
entry_of (suc (suc (suc k))) n h names row = Collect n names

abbrev pub entry_from : EntryParts → Entry
entry_from p = entry_of p.0.0.0 p.0.0.1 (head_from p.0.1.0 p.0.1.1) p.1.0 p.1.1

pub entry_back : (e : Entry) → entry_from (entry_parts e) ≡ e
entry_back (Make n h args row) = ap (λ (g : Head). Make n g args row) (head_back h)
entry_back (Find n h args row) = ap (λ (g : Head). Find n g args row) (head_back h)
entry_back (Roots n rows) = refl
entry_back (Collect n kept) = refl

abbrev pub entry_code : Coded Entry
entry_code = code_by EntryParts
    (coded× (coded× numbers_code numbers_code) (coded× (coded_list coded_ℕ) coded_ℕ)) entry_parts
    entry_from entry_back

abbrev pub table_code : Coded TableId
table_code = code_by ((Numbers × Numbers) × (Numbers × List ℕ))
    (coded× (coded× numbers_code numbers_code) (coded× numbers_code (coded_list coded_ℕ)))
    (λ t. (((t.words, t.slots), (t.views_name, t.atom)), ((t.block, t.offset), t.slot_names)))
    (λ p. record {
      words = p.0.0.0;
      slots = p.0.0.1;
      views_name = p.0.1.0;
      atom = p.0.1.1;
      block = p.1.0.0;
      offset = p.1.0.1;
      slot_names = p.1.1;
    }) (λ _. refl)

abbrev pub sizes_code : Coded Sizes
sizes_code = code_by ((Numbers × Numbers) × (Numbers × ℕ))
    (coded× (coded× numbers_code numbers_code) (coded× numbers_code coded_ℕ))
    (λ z. (((z.rows, z.buckets), (z.start, z.seats)), ((z.depth, z.arity), z.first)))
    (λ p. record {
      rows = p.0.0.0;
      buckets = p.0.0.1;
      start = p.0.1.0;
      seats = p.0.1.1;
      depth = p.1.0.0;
      arity = p.1.0.1;
      first = p.1.1;
    }) (λ _. refl)

abbrev pub store_code : Coded WhichStore
store_code = code_by (TableId × Sizes) (coded× table_code sizes_code) (λ s. (s.table, s.sizes))
    (λ p. record { table = p.0; sizes = p.1 }) (λ _. refl)

abbrev pub seat_code : Coded WhichPass
seat_code = code_by Numbers numbers_code (λ s. (s.id, s.number))
    (λ p. record { id = p.0; number = p.1 }) (λ _. refl)

abbrev pub parts_code : Coded Parts
parts_code =
    coded× (coded× (coded× coded_bool coded_bool) (coded× coded_bool coded_ℕ))
    (coded× (coded× (coded_list (coded_option tree_code))
    (coded× (coded_list row_code) (coded_list row_code)))
    (coded× (coded× trees_code trees_code)
    (coded× (coded× numbers_code numbers_code)
    (coded× (coded× coded_ℕ (coded× (coded_list entry_code) coded_ℕ))
    (coded× store_code seat_code)))))

abbrev pub parts : PassView → Parts
parts v = (
  ((v.shared, v.alone), (v.fresh, v.base)),
  (
    (v.held, (v.roots, v.noted)),
    (
      ((v.built, v.rooted), (v.crowd, v.hand)),
      (
        ((v.load, v.sweeps), (v.rows, v.arity)),
        ((v.depth, (v.entries, v.greatest)), (v.store, v.seat)),
      ),
    ),
  ),
)

abbrev pub whole : Parts → PassView
whole p =
    record {
      shared = p.0.0.0;
      alone = p.0.0.1;
      fresh = p.0.1.0;
      base = p.0.1.1;
      held = p.1.0.0;
      roots = p.1.0.1.0;
      noted = p.1.0.1.1;
      built = p.1.1.0.0.0;
      rooted = p.1.1.0.0.1;
      crowd = p.1.1.0.1.0;
      hand = p.1.1.0.1.1;
      load = p.1.1.1.0.0.0;
      sweeps = p.1.1.1.0.0.1;
      rows = p.1.1.1.0.1.0;
      arity = p.1.1.1.0.1.1;
      depth = p.1.1.1.1.0.0;
      entries = p.1.1.1.1.0.1.0;
      greatest = p.1.1.1.1.0.1.1;
      store = p.1.1.1.1.1.0;
      seat = p.1.1.1.1.1.1;
    }

abbrev pub pass_code : Coded PassView
pass_code = code_by Parts parts_code parts whole (λ _. refl)

abbrev pub All : Type 0
All = (PassView × List Row) × ((ℕ × Bool) × Option (List ℕ))

abbrev pub contents_code : Coded Contents
contents_code =
    code_by All (coded× (coded× pass_code (coded_list row_code))
    (coded× (coded× coded_ℕ coded_bool) (coded_option (coded_list coded_ℕ))))
    (λ c. ((c.pass, c.stack), ((c.refusals, c.spent), c.log)))
    (λ p. record {
      pass = p.0.0;
      stack = p.0.1;
      refusals = p.1.0.0;
      spent = p.1.0.1;
      log = p.1.1;
    }) (λ _. refl)

-- a pass with its log
pub record LoggedView : Type 0 where
  pub pass : PassView
  pub log : Option (List ℕ)

abbrev pub logged_code : Coded LoggedView
logged_code = code_by (PassView × Option (List ℕ))
    (coded× pass_code (coded_option (coded_list coded_ℕ))) (λ l. (l.pass, l.log))
    (λ p. record { pass = p.0; log = p.1 }) (λ _. refl)
