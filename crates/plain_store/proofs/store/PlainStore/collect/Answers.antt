use Rattle.std.proofs.Common.{◌∙◌, inl, inr, List, ap, sym, subst, length}
use Rattle.std.specs.Prelude.{Contains}
use Rattle.term_model.specs.declared.Row.{Row}
use Rattle.plain_store.specs.declared.event.Event.TheVariants.{Swept}
use Rattle.plain_store.specs.Slots.{Slots, children}
use Rattle.plain_store.specs.Agreement.{Agree}
use Rattle.plain_store.specs.Marked.{MarksFrom}
use Rattle.plain_store.specs.Contents.{Contents, Past, store_of, collected, kept_trees, once_more, LosesRow}
use Rattle.plain_store.specs.View.{contents_of}
use Rattle.plain_store.proofs.Keeping.{sound_collected}
use Rattle.plain_store.proofs.Reaching.{agree_collected}
use Rattle.plain_store.proofs.Stepping.{past_step, shape, right_from, reach_below, kept_same, row_lost}
use Rattle.plain_store.proofs.store.PlainStore.collect.Goals as goal

pub keep_reachable-lost-requires-clause-below : goal.keep_reachable-lost-requires-clause-below
keep_reachable-lost-requires-clause-below c = λ p k r reaches.
    let s = c.self.inside in
    reach_below s.nodes (contents_of s) c.self.invariant.agree c.self.invariant.sound p (subst (λ (xs : List Row). Contains xs p) c.rows.ensures k) r reaches

pub invariant_of-self : goal.invariant_of-self
invariant_of-self c =
    let s = c.self.inside in
    let was = contents_of s in
    let e = c.keep_reachable-lost.ensures in
    let marked = subst (λ (xs : List Row). MarksFrom (children s.nodes) xs c.keep_reachable-lost.new.marks) c.rows.ensures e.marked in
    let raised = c.raised_once-self-inside.result in
    let step = past_step s.history.items c.and-self-inside.result.items (λ v. v.items) (length s.nodes.slots) (length c.keep_reachable-lost.new.nodes.slots) s.places Swept c.and-self-inside.ensures e.swept.size in
    let is = ap (λ (p : Past). shape s.places.items p s.inside s.widest s.room raised) step in
    right_from _ (collected was raised) is
    (agree_collected s.nodes c.keep_reachable-lost.new.nodes was c.keep_reachable-lost.new.marks c.self.invariant.agree c.self.invariant.sound marked e.swept)
    (sound_collected was raised c.self.invariant.sound)
    c.self.invariant.places (e.size ∙ c.self.invariant.marks ∙ sym e.swept.size) (e.swept.widest ∙ c.self.invariant.widest)

pub invariant_of-self-else-lost : goal.invariant_of-self-else-lost
invariant_of-self-else-lost c =
    let s = c.self.inside in
    let was = contents_of s in
    let e = c.keep_reachable-lost.ensures in
    let marked = subst (λ (xs : List Row). MarksFrom (children s.nodes) xs c.keep_reachable-lost.new.marks) c.rows.ensures e.marked in
    let step = past_step s.history.items c.and-self-inside.result.items (λ v. v.items) (length s.nodes.slots) (length c.keep_reachable-lost.new.nodes.slots) s.places Swept c.and-self-inside.ensures e.swept.size in
    let is = ap (λ (p : Past). shape s.places.items p s.inside s.widest s.room s.raised) step in
    right_from _ (collected was s.raised) is
    (agree_collected s.nodes c.keep_reachable-lost.new.nodes was c.keep_reachable-lost.new.marks c.self.invariant.agree c.self.invariant.sound marked e.swept)
    (sound_collected was s.raised c.self.invariant.sound)
    c.self.invariant.places (e.size ∙ c.self.invariant.marks ∙ sym e.swept.size) (e.swept.widest ∙ c.self.invariant.widest)

pub returns-then-lost : goal.returns-then-lost
returns-then-lost c =
    let s = c.self.inside in
    let was = contents_of s in
    let e = c.keep_reachable-lost.ensures in
    let marked = subst (λ (xs : List Row). MarksFrom (children s.nodes) xs c.keep_reachable-lost.new.marks) c.rows.ensures e.marked in
    let now = agree_collected s.nodes c.keep_reachable-lost.new.nodes was c.keep_reachable-lost.new.marks c.self.invariant.agree c.self.invariant.sound marked e.swept in
    let lost = row_lost s.nodes c.keep_reachable-lost.new.nodes was c.raised_once-self-inside.result c.self.invariant.agree now (e.some c.if-lost.true) in
    let raised = c.raised_once-self-inside.result in
    let step = past_step s.history.items c.and-self-inside.result.items (λ v. v.items) (length s.nodes.slots) (length c.keep_reachable-lost.new.nodes.slots) s.places Swept c.and-self-inside.ensures e.swept.size in
    record {
      new_is = ap (λ (p : Past). shape s.places.items p s.inside s.widest s.room raised) step ∙ ap (λ (x : Contents). collected x raised) c.self.view_is;
      raises = inr (c.raised_once-self-inside.ensures ∙ ap (λ (x : Contents). once_more x.raised) c.self.view_is, subst (λ (x : Contents). LosesRow (store_of x) (store_of (collected x raised))) c.self.view_is lost);
    }

pub returns-else-lost : goal.returns-else-lost
returns-else-lost c =
    let s = c.self.inside in
    let was = contents_of s in
    let e = c.keep_reachable-lost.ensures in
    let marked = subst (λ (xs : List Row). MarksFrom (children s.nodes) xs c.keep_reachable-lost.new.marks) c.rows.ensures e.marked in
    let step = past_step s.history.items c.and-self-inside.result.items (λ v. v.items) (length s.nodes.slots) (length c.keep_reachable-lost.new.nodes.slots) s.places Swept c.and-self-inside.ensures e.swept.size in
    let is = ap (λ (p : Past). shape s.places.items p s.inside s.widest s.room s.raised) step in
    let now = agree_collected s.nodes c.keep_reachable-lost.new.nodes was c.keep_reachable-lost.new.marks c.self.invariant.agree c.self.invariant.sound marked e.swept in
    let same = subst (λ (x : Slots). Agree x (kept_trees was)) (e.none c.if-lost.false) now in
    record {
      new_is = is ∙ ap (λ (x : Contents). collected x s.raised) c.self.view_is;
      raises = inl (ap (λ (x : Contents). x.raised) c.self.view_is, ap (λ (x : Contents). x.trees) is ∙ kept_same s.nodes was c.self.invariant.agree same ∙ ap (λ (x : Contents). x.trees) c.self.view_is);
    }
