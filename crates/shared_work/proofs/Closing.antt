-- What the chronicle tells of the workers, by the passes that their desks gave back.
use Rattle.std.proofs.Common.{◌≡◌, ℕ, zero, suc, ◌<◌, List, [], ◌∷◌, ◌++◌, get_or, length, map, refl, sym, ap, subst, ◌∙◌, ⊎_elim, arith}
use Rattle.std.proofs.lemmas.Bool.{cases_lt}
use Rattle.std.proofs.lemmas.List.{get_or_past}
use Rattle.std.specs.Prelude.{All, Some, slice_get, Result, Ok, Err, IfOk}
use Rattle.std.proofs.lemmas.Option.{slice_get_within, slice_get-get_or, same_Some}
use Rattle.term_model.specs.Tree.{Tree}
use Rattle.rewrite_model.specs.Rule.{Rule}
use Rattle.settings.specs.declared.parts.Settings.{Settings}
use Rattle.history_core.specs.declared.entry.Entry.{Entry}
use Rattle.history_core.specs.Chronicle.{chronicle, part_of, entries_of, KeysRise, IsLegal}
use Rattle.node_rows.specs.declared.store.Store.{Store}
use Rattle.node_rows.specs.declared.store.Pass.{Pass}
use Rattle.node_rows.specs.Passes.{IsPass, IsOut}
use Rattle.node_rows.specs.Told.{HasEntries, KeepsOrder, HasRisingKeys, TellsTrees}
use Rattle.worker_crew.specs.declared.fault.AllFault.{AllFault}
use Rattle.worker_crew.specs.declared.lines.Lines.{Lines}
use Rattle.work_order.specs.Lined.{worker_of, drawn_by}
use Rattle.work_order.specs.Works.{AreBuilt}
use Rattle.shared_desk.specs.Code.{Contents}
use Rattle.shared_desk.specs.Pass.{PassView, WhichStore, WhichPass}
use Rattle.shared_desk.specs.Passes.{IsBack}
use Rattle.shared_desk.specs.Passes as passes
use Rattle.shared_desk.specs.Telling.{collects_by}
use Rattle.shared_desk.proofs.Telling.{built_are_named, sweeps_are_counted}
use Rattle.work_desks.specs.NewDesks.{IsNewDesk}
use Rattle.shared_work.specs.Running.{HasRun}
use Rattle.shared_work.specs.Sharing.{named_by, NamesWhatItBuilt, CollectsFew, KeepsOrders, EachRises}

pub there : {A : Type 0} (xs : List A) (k : ℕ) → k < length xs → (x : A) × (slice_get xs k ≡ Some x)
there [] k l = absurd (omega (arith, l))
there (x ∷ xs) zero l = (x, refl)
there (x ∷ xs) (suc k) l = there xs k (omega (arith, l))

pub all_got : {A : Type 0} (P : A → Type 0) (xs : List A) (k : ℕ) (x : A) → All P xs → slice_get xs k ≡ Some x → P x
all_got P xs k x h at =
    let l = slice_get_within xs k x at in
    subst P (same_Some (get_or xs k x) x (sym (slice_get-get_or xs k x l) ∙ at)) (h k x l)

module _ (s : Settings) (rules : List Rule) (terms : List Tree) (store : Store) (lines : Result Lines AllFault) (ps : List Pass) (run : HasRun s rules terms store lines ps) where
  -- worker k: its desk before and after, and the pass that it gave back
  pub record Worker (k : ℕ) : Type 0 where
    pub old : Contents
    pub new : Contents
    pub pass : Pass
    pub at_old : slice_get run.olds k ≡ Some old
    pub at_new : slice_get run.news k ≡ Some new
    pub at_pass : slice_get ps k ≡ Some pass
    pub fresh : IsNewDesk store k old
    pub back : IsBack new.pass pass
    pub number : pass.seat.number ≡ k

  pub worker : (k : ℕ) → k < store.sizes.seats → Worker k
  worker k lt =
      let one = run.new.count in
      let two = run.same.0 in
      let three = run.back.count in
      let o = there run.olds k (omega (arith, one, lt)) in
      let n = there run.news k (omega (arith, one, two, lt)) in
      let p = there ps k (omega (arith, one, two, three, lt)) in
      let b = run.back.each k p.0 p.1 in
      let same : b.desk ≡ n.0 = same_Some b.desk n.0 (sym b.at ∙ n.1) in
      let back : IsBack n.0.pass p.0 = subst (λ (d : Contents). IsBack d.pass p.0) same b.back in
      let fresh = run.new.each k o.0 o.1 in
      let seat = (run.same.1 k o.0 n.0 o.1 n.1).pass.seat in
      record {
        old = o.0;
        new = n.0;
        pass = p.0;
        at_old = o.1;
        at_new = n.1;
        at_pass = p.1;
        fresh = fresh;
        back = back;
        number = ap (λ (v : PassView). v.seat.number) back.seen ∙ ap (λ (w : WhichPass). w.number) seat ∙ fresh.number;
      }

  -- the trees that its entries name are those that its desk has built
  pub names_built : (lists : List (List Entry)) → All (TellsTrees lists) ps → (k : ℕ) (w : Worker k) → named_by lists k ≡ w.new.pass.built
  names_built lists tells k w =
      subst (λ j. named_by lists j ≡ w.new.pass.built) w.number (built_are_named lists w.new.pass w.pass w.back (all_got (TellsTrees lists) ps k w.pass tells w.at_pass))

  counts : (lists : List (List Entry)) → All (HasEntries lists) ps → (k : ℕ) (w : Worker k) → collects_by k (chronicle lists) ≡ w.new.pass.sweeps
  counts lists has k w =
      subst (λ j. collects_by j (chronicle lists) ≡ w.new.pass.sweeps) w.number (sweeps_are_counted lists w.new.pass w.pass w.back (all_got (HasEntries lists) ps k w.pass has w.at_pass))

  pub collects_few : (lists : List (List Entry)) → store.sizes.seats ≡ s.workers → All (TellsTrees lists) ps → All (HasEntries lists) ps → CollectsFew s lists
  collects_few lists seats tells has k lt =
      let w = worker k (omega (arith, lt, seats)) in
      let most = (run.kept.1 k w.old w.new w.at_old w.at_new).most_sweeps in
      let none = ap length w.fresh.built in
      let zero_sweeps = w.fresh.sweeps in
      let long = ap length (names_built lists tells k w) in
      let many = counts lists has k w in
      omega (arith, most, none, zero_sweeps, long, many)

  pub keeps_orders : (lists : List (List Entry)) → store.sizes.seats ≡ s.workers → All (HasEntries lists) ps → All (KeepsOrder lists) ps → KeepsOrders s lists
  keeps_orders lists seats has order k lt =
      let w = worker k (omega (arith, lt, seats)) in
      subst (λ j. part_of j (chronicle lists) ≡ entries_of lists j) w.number
      (all_got (KeepsOrder lists) ps k w.pass order w.at_pass ∙ sym (all_got (HasEntries lists) ps k w.pass has w.at_pass))

  -- a caller that is no worker has no entries
  pub each_rises : (lists : List (List Entry)) → length lists ≡ store.sizes.seats → All (HasRisingKeys lists) ps → EachRises lists
  each_rises lists count rises k = ⊎_elim
      (λ lt. let w = worker k lt in subst (λ j. KeysRise (entries_of lists j)) w.number (all_got (HasRisingKeys lists) ps k w.pass rises w.at_pass))
      (λ past. subst KeysRise (sym (get_or_past lists k [] (omega (arith, past, count)))) tt)
      (cases_lt k store.sizes.seats)

  -- the passes are those of the store, and out
  pub are_out : All (λ p. IsPass store.table.shared.table_id store.sizes p.seat.seat p.seat.seats × IsOut p.seat.seat.me.0) ps
  are_out k d lt =
      let p = get_or ps k d in
      let at : slice_get ps k ≡ Some p = slice_get-get_or ps k d lt in
      let one = run.new.count in
      let two = run.same.0 in
      let three = run.back.count in
      let w = worker k (omega (arith, one, two, three, lt)) in
      let same : w.pass ≡ p = same_Some w.pass p (sym w.at_pass ∙ at) in
      let of : w.new.pass.store ≡ passes.store_of store = (run.same.1 k w.old w.new w.at_old w.at_new).pass.store ∙ w.fresh.store in
      let is : IsPass store.table.shared.table_id store.sizes w.pass.seat.seat w.pass.seat.seats = subst (λ (x : WhichStore). IsPass x.table x.sizes w.pass.seat.seat w.pass.seat.seats) of w.back.pass in
      subst (λ (q : Pass). IsPass store.table.shared.table_id store.sizes q.seat.seat q.seat.seats × IsOut q.seat.seat.me.0) same (is, w.back.out)

  pub are_all : length ps ≡ store.sizes.seats
  are_all =
      let one = run.new.count in
      let two = run.same.0 in
      let three = run.back.count in
      omega (arith, one, two, three)

-- the built lists, where the lines were made
pub names_what_it_built : (s : Settings) (rules : List Rule) (terms : List Tree) (store : Store) (lines : Result Lines AllFault) (ps : List Pass) (run : HasRun s rules terms store lines ps) (lists : List (List Entry))
    → store.sizes.seats ≡ s.workers → All (TellsTrees lists) ps → IfOk lines (λ l. NamesWhatItBuilt s rules terms (map worker_of l.list.items) lists)
names_what_it_built s rules terms store (Err fault) ps run lists seats tells = tt
names_what_it_built s rules terms store (Ok l) ps run lists seats tells = λ k lt.
    let w = worker s rules terms store (Ok l) ps run k (omega (arith, lt, seats)) in
    let all = run.built.1 k w.old w.new w.at_old w.at_new in
    let drew = drawn_by k (map worker_of l.list.items) terms in
    let named = names_built s rules terms store (Ok l) ps run lists tells k w ∙ all.built ∙ ap (λ ts. ts ++ all.trees) w.fresh.built in
    subst (AreBuilt s rules drew []) (sym named) (subst (λ ts. AreBuilt s rules drew ts all.trees) w.fresh.built all.are)

-- the chronicle of nothing
pub none_collect : (s : Settings) (lists : List (List Entry)) → lists ≡ [] → CollectsFew s lists
none_collect s [] e = λ k lt. omega arith
none_collect s (x ∷ xs) e = cc

pub none_order : (s : Settings) (lists : List (List Entry)) → lists ≡ [] → KeepsOrders s lists
none_order s [] e = λ k lt. refl
none_order s (x ∷ xs) e = cc

pub none_rises : (lists : List (List Entry)) → lists ≡ [] → EachRises lists
none_rises [] e = λ k. tt
none_rises (x ∷ xs) e = cc

pub none_ok : {A E : Type 0} (P : A → Type 0) (r : Result A E) (x : E) → r ≡ Err x → IfOk r P
none_ok P (Ok a) x e = cc
none_ok P (Err y) x e = tt

pub none_legal : (rows : ℕ) (lists : List (List Entry)) → lists ≡ [] → IsLegal rows (chronicle lists)
none_legal rows [] e = tt
none_legal rows (x ∷ xs) e = cc
