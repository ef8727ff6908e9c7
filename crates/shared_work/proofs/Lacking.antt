-- Where workers on one store stop for want of rows, they need more rows than there are.
use Rattle.std.proofs.Common.{◌≡◌, ◌⊎◌, inl, inr, ℕ, ◌*◌, ◌<◌, ◌≤◌, List, [], ◌∷◌, length, sym, ap, subst, ◌∙◌, arith}
use Rattle.std.specs.Prelude.{All, Contains, max, Result, Ok, Err, IfErr}
use Rattle.std.proofs.lemmas.List.Elements.{Contains-append_right}
use Rattle.term_model.specs.Tree.{Tree, distinct}
use Rattle.term_model.proofs.Members.{distinct_of_part}
use Rattle.rewrite_model.specs.Rule.{Rule}
use Rattle.rewrite_model.specs.Evaluation.{Point}
use Rattle.settings.specs.declared.parts.Settings.{Settings}
use Rattle.innermost.specs.declared.normal.RunFault.TheVariants as fault
use Rattle.term_lines.specs.Strategies.{RefusedBy}
use Rattle.history_core.specs.declared.entry.Entry.{Entry}
use Rattle.history_core.specs.Chronicle.{chronicle, IsLegal}
use Rattle.history_core.specs.TermSet.{empty}
use Rattle.history_core.specs.Told.{told, kept_trees}
use Rattle.history_core.proofs.Members.{contains_here, contains_none, contains_cases}
use Rattle.node_rows.specs.declared.store.Store.{Store}
use Rattle.node_rows.specs.declared.store.Pass.{Pass}
use Rattle.node_rows.specs.Crowding.{IsLastCollect}
use Rattle.node_rows.specs.Told.{KeepsOrder, TellsTrees, TellsCrowd}
use Rattle.node_rows.proofs.Crowding.{told_none_by}
use Rattle.worker_crew.specs.declared.fault.AllFault.{AllFault}
use Rattle.worker_crew.specs.declared.fault.AllFault.TheVariants.{StoreFull}
use Rattle.worker_crew.specs.declared.lines.Lines.{Lines}
use Rattle.work_order.specs.Works.{need_of, IsInnermost, remembers_results}
use Rattle.shared_desk.specs.Desk.{store_of}
use Rattle.shared_desk.specs.Telling.{protected_by}
use Rattle.shared_desk.proofs.Telling.{crowd_is_last, crowd_is_of_its_names, hand_is_protected, load_is_most}
use Rattle.shared_work.specs.Running.{HasRun}
use Rattle.shared_work.specs.Numbers.{TellsNeed}
use Rattle.shared_work.proofs.Closing.{Worker, worker, all_got}
use Rattle.shared_work.proofs.Needing.{below, asked_in_hand, point_needs, drawn_needs, crowd_needs}
use Rattle.shared_work.proofs.Reached.{NoneBy, last_collect, end_of_nothing, kept_below}
use Rattle.shared_work.proofs.Refusals.{WantsRows, wants_rows}
use Rattle.shared_work.proofs.Refusing.{Refused, refused}

module _ (s : Settings) (innermost : IsInnermost s) (rules : List Rule) (terms : List Tree) (store : Store) (ps : List Pass) (run : HasRun s rules terms store (Err StoreFull) ps)
    (lists : List (List Entry)) (seats : store.sizes.seats ≡ s.workers) (same_rows : store.sizes.rows ≡ s.rows) (count : length lists ≡ store.sizes.seats)
    (rows : ℕ) (legal : IsLegal rows (chronicle lists)) (order : All (KeepsOrder lists) ps) (tells : All (TellsTrees lists) ps) (crowds : All (TellsCrowd lists) ps) where
  abbrev needed : ℕ
  needed = need_of s rules terms

  abbrev off : Refused s rules terms store ps run
  off = refused s rules terms store ps run

  abbrev k : ℕ
  k = off.number

  abbrev one : Worker s rules terms store (Err StoreFull) ps run k
  one = off.one

  abbrev crowd : List Tree
  crowd = one.new.pass.crowd

  was : (p : Point) × WantsRows rules off.last.term s.fuel s.depth off.last.begun (store_of one.new) p
  was = wants_rows rules off.last.term s.fuel s.depth off.last.begun (store_of one.new) (remembers_results s rules)
      (subst (λ by. RefusedBy by (remembers_results s rules) rules off.last.term s.fuel s.depth off.last.begun (store_of one.new) fault.StoreFull) innermost off.last.refused)

  abbrev next : Tree
  next = was.0.tree

  -- it had the refused tree and what it protected in hand
  hand_needs : distinct (next ∷ below one.new.pass.hand) ≤ needed
  hand_needs =
      let p = was.0 in
      let at = was.1 in
      let asked = asked_in_hand p one.new.pass.hand (at.hand off.last.empty) in
      let point = point_needs s rules off.last.term at.front at.back p at.split in
      let drawn = drawn_needs s rules terms off.drawn off.of off.last.term
      (subst (λ ts. Contains ts off.last.term) (sym off.last.drawn_is) (Contains-append_right off.last.before (off.last.term ∷ []) off.last.term (contains_here off.last.term []))) in
      omega (arith, asked, point, drawn)

  -- no worker protects more than a term needs
  load_needs : (j : ℕ) (w : Worker s rules terms store (Err StoreFull) ps run j) → (c : IsLastCollect (chronicle lists) one.pass.seat.number) → distinct (below (protected_by j c.before)) ≤ needed
  load_needs j w c =
      let load = load_is_most rows lists w.new.pass w.pass w.back (all_got (KeepsOrder lists) ps j w.pass order w.at_pass) (all_got (TellsTrees lists) ps j w.pass tells w.at_pass) legal c.before _ c.is in
      let here = subst (λ i. distinct (below (protected_by i c.before)) ≤ w.new.pass.load) w.number load in
      let most = subst (λ n. w.new.pass.load ≤ max n needed) w.fresh.load ((run.kept.1 j w.old w.new w.at_old w.at_new).most_load innermost) in
      omega (arith, here, most)

  -- what its last Collect kept is below what the workers protected there
  at_collect : (c : IsLastCollect (chronicle lists) one.pass.seat.number) → distinct crowd < s.workers * needed
  at_collect c =
      let tells_crowd = all_got (TellsCrowd lists) ps k one.pass crowds one.at_pass in
      let hand = hand_is_protected rows lists one.new.pass one.pass one.back (all_got (KeepsOrder lists) ps k one.pass order one.at_pass) (all_got (TellsTrees lists) ps k one.pass tells one.at_pass) legal c
      ∙ ap (λ i. protected_by i c.before) one.number in
      let names = crowd_is_of_its_names lists one.new.pass one.pass one.back tells_crowd c in
      let within = off.below in
      crowd_needs s.workers k needed (omega (arith, within, seats)) next crowd (λ j. protected_by j c.before)
      (λ j l ne. load_needs j (worker s rules terms store (Err StoreFull) ps run j (omega (arith, l, seats))) c)
      (subst (λ ts. distinct (next ∷ below ts) ≤ needed) hand hand_needs)
      (λ t has.
      let b = kept_below rows lists one.pass.seat.number legal c t (subst (λ ts. Contains ts t) names has) in
      let here = b.1.1.present in
      (b.0, omega (arith, here, count, seats), b.2))
      was.1.full.absent

  -- without a Collect it kept nothing
  at_none : crowd ≡ [] → distinct crowd < s.workers * needed
  at_none none =
      let within = off.below in
      crowd_needs s.workers k needed (omega (arith, within, seats)) next crowd (λ j. [])
      (λ j l ne. omega arith)
      (let one_tree = distinct_of_part (next ∷ []) (next ∷ below one.new.pass.hand) (λ t c. front t (contains_cases next [] t c)) in let h = hand_needs in omega (arith, one_tree, h))
      (λ t has. absurd (contains_none t (subst (λ ts. Contains ts t) none has)))
      was.1.full.absent
    where
      front : (t : Tree) → (next ≡ t) ⊎ Contains [] t → Contains (next ∷ below one.new.pass.hand) t
      front t (inl same) = subst (Contains (next ∷ below one.new.pass.hand)) same (contains_here next (below one.new.pass.hand))
      front t (inr nothing) = absurd (contains_none t nothing)

  needs : s.rows < s.workers * needed
  needs =
      let full = was.1.full.full ∙ ((run.kept.1 k one.old one.new one.at_old one.at_new).rows ∙ (one.fresh.rows ∙ same_rows)) in
      subst (λ n. n < s.workers * needed) full (by (last_collect one.pass.seat.number (chronicle lists)))
    where
      by : IsLastCollect (chronicle lists) one.pass.seat.number ⊎ NoneBy one.pass.seat.number (chronicle lists) → distinct crowd < s.workers * needed
      by (inl c) = at_collect c
      by (inr none) =
          let ends = crowd_is_last lists one.new.pass one.pass one.back (all_got (TellsCrowd lists) ps k one.pass crowds one.at_pass) in
          at_none (end_of_nothing (told kept_trees one.pass.seat.number empty (chronicle lists)) crowd ends (told_none_by one.pass.seat.number empty (chronicle lists) none))

pub tells_need : (s : Settings) (rules : List Rule) (terms : List Tree) (store : Store) (lines : Result Lines AllFault) (ps : List Pass) → HasRun s rules terms store lines ps
    → (lists : List (List Entry)) → store.sizes.seats ≡ s.workers → store.sizes.rows ≡ s.rows → length lists ≡ store.sizes.seats
    → (rows : ℕ) → IsLegal rows (chronicle lists) → All (KeepsOrder lists) ps → All (TellsTrees lists) ps → All (TellsCrowd lists) ps → IfErr lines (TellsNeed s rules terms)
tells_need s rules terms store (Ok l) ps run lists seats same_rows count rows legal order tells crowds = tt
tells_need s rules terms store (Err f) ps run lists seats same_rows count rows legal order tells crowds = λ e innermost.
    needs s innermost rules terms store ps (subst (λ (x : AllFault). let r : Result Lines AllFault = Err x in HasRun s rules terms store r ps) e run) lists seats same_rows count rows legal order tells crowds
