-- All that the terms build that workers drew is a front of itself, where a list tells the worker of
-- each term.
use Rattle.std.proofs.Common.{◌≡◌, ℕ, List, [], ◌++◌, length, sym, ap, subst, ◌∙◌, zero-add, append-nil, map}
use Rattle.term_model.specs.Tree.{Tree}
use Rattle.history_core.specs.declared.entry.Entry.{Entry}
use Rattle.rewrite_model.specs.Rule.{Rule}
use Rattle.settings.specs.declared.parts.Settings.{Settings}
use Rattle.work_order.specs.Lined.{drawn_by}
use Rattle.work_order.specs.Works.{term_at, AreBuilt}
use Rattle.work_order.specs.Drawn.{numbered}
use Rattle.shared_work.specs.Sharing.{NamesWhatItBuilt, named_by}
use Rattle.shared_work.specs.Fronts.{NamesFronts}
use Rattle.worker_crew.specs.declared.lines.Lines.{Lines}
use Rattle.work_order.specs.Lined.{worker_of}
use Rattle.rec_check.specs.Spelled.{Specified}
use Rattle.rec_answers.specs.Rewritten.{Spells}
use Rattle.rec_answers.specs.Sequence.{AreLinesOf, IsSplit}
use Rattle.rec_top.specs.Histories.{NamesAll, NamesAllFronts, SpellsSuch}
use Rattle.rec_answers.proofs.OneFault.{one_specification}
use Rattle.rec_answers.proofs.Drawing.{places, drawn_places, hands, hand_at, apart, within}

fronts : (s : Settings) (rules : List Rule) (terms : List Tree) (workers : List ℕ) (lists : List (List Entry)) → length workers ≡ length terms → NamesWhatItBuilt s rules terms workers lists → NamesFronts s rules terms lists
fronts s rules terms workers lists long built = record {
  drawn = hands s.workers 0 0 workers;
  apart = apart terms s.workers workers long;
  front = λ k numbers at.
      let hand : numbers ≡ places k 0 workers = hand_at s.workers 0 0 workers k numbers at ∙ ap (λ m. places m 0 workers) (zero-add k) in
      let below = within s.workers 0 0 workers k numbers at in
      let drawn : drawn_by k workers terms ≡ numbered terms numbers =
      drawn_places terms k 0 workers terms long (λ j h. ap (term_at terms) (sym (zero-add j))) ∙ ap (numbered terms) (sym hand) in
      record {
        rest = [];
        built = subst (λ ts. AreBuilt s rules ts [] (named_by lists k ++ [])) drawn
            (subst (AreBuilt s rules (drawn_by k workers terms) []) (sym (append-nil (named_by lists k))) (built k below));
      };
}

-- of the lines of an input
pub whole_front : (s : Settings) (input : List ℕ) (all : Lines) (lists : List (List Entry)) → ((spec : Specified) × Spells input spec × AreLinesOf s spec all)
    → SpellsSuch input (NamesAll (map worker_of all.list.items) lists s) → SpellsSuch input (NamesAllFronts lists s)
whole_front s input all lists made built =
    let same = one_specification input made.0 built.0 made.1 built.1 in
    let split = subst (λ (spec : Specified). IsSplit s.workers (map worker_of all.list.items) (length spec.terms)) same made.2.workers in
    (built.0, built.1, fronts s built.0.rules built.0.terms (map worker_of all.list.items) lists split.each built.2)
