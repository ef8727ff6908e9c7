-- Why workers on one store stop for want of rows, by the chronicle.
use Rattle.std.proofs.Common.{◌≡◌, ◌⊎◌, inl, inr, ℕ, ◌≤◌, List, get_or, length, sym, ap, subst, ◌∙◌, arith}
use Rattle.std.specs.Prelude.{All, Contains, Result, Ok, Err, IfErr}
use Rattle.std.proofs.lemmas.List.Elements.{Contains-append_right, Contains-get_or}
use Rattle.term_model.specs.Tree.{Tree, list_of, distinct}
use Rattle.rewrite_model.specs.Rule.{Rule}
use Rattle.settings.specs.declared.parts.Settings.{Settings}
use Rattle.history_core.specs.declared.entry.Entry.{Entry}
use Rattle.history_core.specs.Chronicle.{chronicle, set_of, IsLegal, IsNoted}
use Rattle.history_core.specs.TermSet.{empty, Holds, trees_at}
use Rattle.history_core.specs.Told.{told, named, kept_trees}
use Rattle.history_core.proofs.Chronicles.{has_the_noted}
use Rattle.innermost.specs.declared.normal.RunFault.TheVariants as fault
use Rattle.term_lines.specs.Strategies.{IsBuiltBy}
use Rattle.node_rows.specs.declared.store.Store.{Store}
use Rattle.node_rows.specs.declared.store.Pass.{Pass}
use Rattle.node_rows.specs.Crowding.{EndsWith, IsLastCollect}
use Rattle.node_rows.specs.Told.{TellsTrees, TellsCrowd}
use Rattle.node_rows.proofs.Crowding.{told_none_by}
use Rattle.worker_crew.specs.declared.fault.AllFault.{AllFault}
use Rattle.worker_crew.specs.declared.fault.AllFault.TheVariants.{StoreFull}
use Rattle.worker_crew.specs.declared.lines.Lines.{Lines}
use Rattle.work_order.specs.Drawn.{numbered, AreApart}
use Rattle.work_order.specs.Works.{strategy_of, remembers_results}
use Rattle.shared_desk.specs.Desk.{store_of}
use Rattle.shared_desk.proofs.Telling.{crowd_is_last, crowd_is_of_its_names}
use Rattle.shared_work.specs.Running.{HasRun, WantsMemory}
use Rattle.shared_work.specs.Filling.{IsMade, FillsRows, TellsFull}
use Rattle.shared_work.proofs.Kept.{IsNamed, kept_made, told_some}
use Rattle.shared_work.proofs.Closing.{Worker, all_got}
use Rattle.shared_work.proofs.Fronts.{next_built}
use Rattle.shared_work.proofs.Reached.{NoneBy, last_collect, end_of_nothing}
use Rattle.shared_work.proofs.Refusals.{IsRefused, last_refused}
use Rattle.shared_work.proofs.Refusing.{Refused, refused}

-- a tree that a Collect of a legal chronicle kept was made or found by a caller
made_by : (s : Settings) (rows k : ℕ) (lists : List (List Entry)) (t : Tree) → length lists ≡ s.workers → IsLegal rows (chronicle lists) → Contains (told kept_trees k empty (chronicle lists)) t → IsMade s lists t
made_by s rows k lists t count legal c = by (kept_made rows k empty (chronicle lists) t legal c)
  where
    by : ((n : ℕ) × Holds empty.held n t) ⊎ IsNamed empty (chronicle lists) t → IsMade s lists t
    by (inl h) = absurd cc
    by (inr m) =
        let some = told_some named m.caller empty (chronicle lists) t m.there in
        let noted : IsNoted lists (m.caller, some.0) = (has_the_noted lists (m.caller, some.0)).0 some.1 in
        let below = noted.present in
        record { worker = m.caller; below = omega (arith, below, count); named = m.there }

module _ (s : Settings) (rules : List Rule) (terms : List Tree) (store : Store) (ps : List Pass) (run : HasRun s rules terms store (Err StoreFull) ps)
    (lists : List (List Entry)) (rows : ℕ) (some : 1 ≤ s.rows) (seats : store.sizes.seats ≡ s.workers) (same_rows : store.sizes.rows ≡ s.rows) (count : length lists ≡ store.sizes.seats)
    (legal : IsLegal rows (chronicle lists)) (tells : All (TellsTrees lists) ps) (crowds : All (TellsCrowd lists) ps) where
  abbrev off : Refused s rules terms store ps run
  off = refused s rules terms store ps run

  abbrev k : ℕ
  k = off.number

  abbrev one : Worker s rules terms store (Err StoreFull) ps run k
  one = off.one

  abbrev crowd : List Tree
  crowd = one.new.pass.crowd

  was : IsRefused (IsBuiltBy (strategy_of s.command) (remembers_results s rules) rules off.last.term s.fuel s.depth) off.last.begun (store_of one.new) fault.StoreFull
  was = last_refused s rules (numbered terms off.drawn) (store_of one.old) (store_of one.new) fault.StoreFull off.last

  tells_crowd : TellsCrowd lists one.pass
  tells_crowd = all_got (TellsCrowd lists) ps k one.pass crowds one.at_pass

  ends : EndsWith (told kept_trees one.pass.seat.number empty (chronicle lists)) crowd
  ends = crowd_is_last lists one.new.pass one.pass one.back tells_crowd

  full : distinct crowd ≡ s.rows
  full = was.2.full ∙ ((run.kept.1 k one.old one.new one.at_old one.at_new).rows ∙ (one.fresh.rows ∙ same_rows))

  -- it has collected, since it kept as many trees as there are rows
  collected : IsLastCollect (chronicle lists) one.pass.seat.number
  collected = by (last_collect one.pass.seat.number (chronicle lists))
    where
      by : IsLastCollect (chronicle lists) one.pass.seat.number ⊎ NoneBy one.pass.seat.number (chronicle lists) → IsLastCollect (chronicle lists) one.pass.seat.number
      by (inl c) = c
      by (inr none) =
          let nothing = end_of_nothing (told kept_trees one.pass.seat.number empty (chronicle lists)) crowd ends (told_none_by one.pass.seat.number empty (chronicle lists) none) in
          let no_rows : distinct crowd ≡ 0 = ap distinct nothing in
          let all = full in
          absurd (omega (arith, no_rows, all, some))

  -- its trees, at its place
  abbrev IsCrowdOf : (i : ℕ) → IsLastCollect (chronicle lists) i → Type 0
  IsCrowdOf i c = crowd ≡ list_of (trees_at (set_of c.before).held c.kept)

  last_kept : (c : IsLastCollect (chronicle lists) k) × IsCrowdOf k c
  last_kept = subst (λ i. (c : IsLastCollect (chronicle lists) i) × IsCrowdOf i c) one.number
      (collected, crowd_is_of_its_names lists one.new.pass one.pass one.back tells_crowd collected)

  made_each : All (IsMade s lists) crowd
  made_each = λ i d below. made_by s rows one.pass.seat.number lists (get_or crowd i d) (count ∙ seats) legal
      (subst (λ ts. Contains ts (get_or crowd i d)) (sym ends.is) (Contains-append_right ends.before crowd (get_or crowd i d) (Contains-get_or crowd i d below)))

  fills : FillsRows s rules terms lists
  fills =
      let within = off.below in
      let many : length run.olds ≡ s.workers = run.new.count ∙ seats in
      record {
        worker = k;
        below = omega (arith, within, seats);
        hands = run.stopped.hands;
        apart = subst (λ n. AreApart (length terms) n run.stopped.hands) many run.stopped.apart;
        drawn = off.drawn;
        drawn_is = off.drawn_is;
        next = was.0;
        rest = was.1.back;
        built = next_built s rules terms store StoreFull ps run lists tells k one off.drawn fault.StoreFull off.last was.0 was.1;
        collect = last_kept.0;
        crowd = crowd;
        crowd_is = last_kept.1;
        full = full;
        made = made_each;
        absent = was.2.absent;
      }

-- where the workers stopped for want of rows
pub fills_rows : (s : Settings) (rules : List Rule) (terms : List Tree) (store : Store) (lines : Result Lines AllFault) (ps : List Pass) (run : HasRun s rules terms store lines ps) (lists : List (List Entry)) (rows : ℕ)
    → 1 ≤ s.rows → store.sizes.seats ≡ s.workers → store.sizes.rows ≡ s.rows → length lists ≡ store.sizes.seats → IsLegal rows (chronicle lists) → All (TellsTrees lists) ps → All (TellsCrowd lists) ps
    → lines ≡ Err StoreFull → FillsRows s rules terms lists
fills_rows s rules terms store lines ps run lists rows some seats same_rows count legal tells crowds e =
    fills s rules terms store ps (subst (λ (l : Result Lines AllFault). HasRun s rules terms store l ps) e run) lists rows some seats same_rows count legal tells crowds

pub tells_full : (s : Settings) (rules : List Rule) (terms : List Tree) (store : Store) (lines : Result Lines AllFault) (ps : List Pass) (run : HasRun s rules terms store lines ps) (lists : List (List Entry)) (rows : ℕ)
    → 1 ≤ s.rows → store.sizes.seats ≡ s.workers → store.sizes.rows ≡ s.rows → length lists ≡ store.sizes.seats → IsLegal rows (chronicle lists) → All (TellsTrees lists) ps → All (TellsCrowd lists) ps
    → IfErr lines (TellsFull s rules terms lists)
tells_full s rules terms store (Ok l) ps run lists rows some seats same_rows count legal tells crowds = tt
tells_full s rules terms store (Err f) ps run lists rows some seats same_rows count legal tells crowds = λ e.
    fills_rows s rules terms store (Err f) ps run lists rows some seats same_rows count legal tells crowds (ap (λ (x : AllFault). let r : Result Lines AllFault = Err x in r) e)

pub none_full : (s : Settings) (rules : List Rule) (terms : List Tree) (lists : List (List Entry)) (lines : Result Lines AllFault) → WantsMemory lines → IfErr lines (TellsFull s rules terms lists)
none_full s rules terms lists (Ok l) e = tt
none_full s rules terms lists (Err f) e = λ q. absurd cc
