-- The store of some work, the desks at its passes, and the passes that they give back.
use Rattle.std.specs.Prelude.{◌≡◌, ℕ, false, List, [], Some, length, slice_get}
use Rattle.rule_match.specs.Planned.{Planned}
use Rattle.settings.specs.declared.parts.Settings.{Settings}
use Rattle.busy_forbidden.specs.Dealt.{EachPlace}
use Rattle.store_model.specs.declared.view.Sizes.{Sizes}
use Rattle.store_model.specs.Machine.{widest}
use Rattle.node_rows.specs.declared.store.Store.{Store}
use Rattle.node_rows.specs.declared.store.Pass.{Pass}
use Rattle.node_rows.specs.Opening.{IsNew}
use Rattle.shared_desk.specs.Code.{Contents}
use Rattle.shared_desk.specs.Passes.{store_of, IsBack}

-- As many rows, and as deep, as the settings say; a bucket for each row, all in use from the start;
-- a seat for each worker; and the plan's width.
abbrev pub sizes_for : Settings → Planned → Sizes
sizes_for s plan =
    record {
      rows = s.rows;
      buckets = s.rows;
      start = s.rows;
      seats = s.workers;
      depth = s.depth;
      arity = plan.widest;
      first = 1;
    }

-- pass k of a store that is new
abbrev pub IsNewPass : Store → ℕ → Pass → Type 0
IsNewPass s k p = IsNew s.table.shared.table_id s.sizes k p.seat.seat p.seat.number p.seat.seats

-- the desk at pass k of a new store: it is out, and nothing has been done
pub record IsNewDesk (s : Store) (k : ℕ) (desk : Contents) : Type 0 where
  pub outside : desk.pass.shared ≡ false
  pub stack : desk.stack ≡ []
  pub unspent : desk.spent ≡ false
  pub built : desk.pass.built ≡ []
  pub sweeps : desk.pass.sweeps ≡ 0
  pub load : desk.pass.load ≡ 0
  pub number : desk.pass.seat.number ≡ k
  pub store : desk.pass.store ≡ store_of s
  pub rows : desk.pass.rows ≡ s.sizes.rows
  pub arity : desk.pass.arity ≡ widest s.sizes
  pub depth : desk.pass.depth ≡ s.sizes.depth

-- the pass of the desk at place k of these
pub record IsBackAt (desks : List Contents) (k : ℕ) (pass : Pass) : Type 0 where
  pub desk : Contents
  pub at : slice_get desks k ≡ Some desk
  pub back : IsBack desk.pass pass

-- the passes of these desks, in their order
abbrev pub AreBack : List Contents → List Pass → Type 0
AreBack desks passes = EachPlace (IsBackAt desks) (length desks) passes
