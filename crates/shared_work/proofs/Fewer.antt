-- Where workers stop for want of rows, the terms build more different trees than there are rows.
use Rattle.std.proofs.Common.{◌≡◌, inl, inr, ◌+◌, ◌<◌, List, ◌∷◌, ◌++◌, length, Bool, true, false, refl, ap, subst, arith}
use Rattle.std.specs.Prelude.{All, Contains, Result, Ok, Err, IfErr, if◌then◌else◌}
use Rattle.std.proofs.lemmas.List.Elements.{All-contains, Contains-append_right}
use Rattle.term_model.specs.Tree.{Tree, among, distinct}
use Rattle.term_model.proofs.Equality.{contains_from_among}
use Rattle.term_model.proofs.Members.{distinct_of_part}
use Rattle.rewrite_model.specs.Rule.{Rule}
use Rattle.settings.specs.declared.parts.Settings.{Settings}
use Rattle.history_core.specs.declared.entry.Entry.{Entry}
use Rattle.work_order.specs.Drawn.{numbered}
use Rattle.work_order.specs.Works.{built_of}
use Rattle.worker_crew.specs.declared.fault.AllFault.{AllFault}
use Rattle.worker_crew.specs.declared.lines.Lines.{Lines}
use Rattle.shared_work.specs.Filling.{IsMade, FillsRows, TellsFull}
use Rattle.shared_work.specs.Fronts.{NamesOnlyBuilt}
use Rattle.shared_work.specs.Numbers.{TellsNeed, TellsFew}
use Rattle.shared_work.specs.Running.{WantsMemory}
use Rattle.shared_work.specs.Sharing.{named_by}
use Rattle.shared_work.proofs.Closing.{all_got}
use Rattle.shared_work.proofs.Members.{built_by_all, built_within, numbered_within, first_or_other}

never_true : (b : Bool) → (b ≡ true → ⊥) → b ≡ false
never_true true f = absurd (f refl)
never_true false f = refl

one_more : (t : Tree) (ts : List Tree) → (Contains ts t → ⊥) → distinct (t ∷ ts) ≡ distinct ts + 1
one_more t ts absent = ap (λ b. if b then distinct ts else distinct ts + 1) (never_true (among t ts) (λ e. absent (contains_from_among t ts e)))

module _ (s : Settings) (rules : List Rule) (terms : List Tree) (lists : List (List Entry)) (only : NamesOnlyBuilt s rules terms lists) (f : FillsRows s rules terms lists) where
  abbrev all : List Tree
  all = built_of s rules terms

  of : All (λ i. i < length terms) f.drawn
  of = all_got (λ hand. All (λ i. i < length terms) hand) f.hands f.worker f.drawn f.apart.below f.drawn_is

  next_within : Contains all f.next
  next_within =
      built_by_all s rules (numbered terms f.drawn) terms (numbered_within terms f.drawn of) f.next
      (built_within s rules (numbered terms f.drawn) (named_by lists f.worker ++ f.next ∷ f.rest) f.built f.next
      (Contains-append_right (named_by lists f.worker) (f.next ∷ f.rest) f.next (0, omega arith, refl)))

  crowd_within : (t : Tree) → Contains f.crowd t → Contains all t
  crowd_within t c =
      let m = All-contains (IsMade s lists) f.crowd t f.made c in
      All-contains (Contains all) (named_by lists m.worker) t (only m.worker m.below) m.named

  each_within : (t : Tree) → Contains (f.next ∷ f.crowd) t → Contains all t
  each_within t c = elim (first_or_other f.next f.crowd t c) [ inl e ↦ subst (Contains all) e next_within | inr more ↦ crowd_within t more ]

  pub builds_more : s.rows < distinct (built_of s rules terms)
  builds_more =
      let more = one_more f.next f.crowd f.absent in
      let full = f.full in
      let part = distinct_of_part (f.next ∷ f.crowd) all each_within in
      omega (arith, more, full, part)

pub tells_few : (s : Settings) (rules : List Rule) (terms : List Tree) (lines : Result Lines AllFault) (lists : List (List Entry))
    → NamesOnlyBuilt s rules terms lists → IfErr lines (TellsFull s rules terms lists) → IfErr lines (TellsNeed s rules terms) → IfErr lines (TellsFew s rules terms)
tells_few s rules terms (Ok l) lists only full need = tt
tells_few s rules terms (Err fault) lists only full need = λ e. record { built = builds_more s rules terms lists only (full e); need = need e }

pub none_few : (s : Settings) (rules : List Rule) (terms : List Tree) (lines : Result Lines AllFault) → WantsMemory lines → IfErr lines (TellsFew s rules terms)
none_few s rules terms (Ok l) e = tt
none_few s rules terms (Err fault) e = λ q. absurd cc
