use Rattle.std.proofs.Common.{◌∙◌, ap, refl, length}
use Rattle.plain_store.specs.declared.event.Event.TheVariants.{Refused}
use Rattle.plain_store.specs.Contents.{Contents, Past, refused}
use Rattle.plain_store.specs.View.{contents_of}
use Rattle.plain_store.proofs.Stepping.{past_step, shape, right_from, sound_refused}
use Rattle.plain_store.proofs.store.PlainStore.refuse.Goals as goal

pub invariant_of-self : goal.invariant_of-self
invariant_of-self c =
    let s = c.self.inside in
    let step = past_step s.history.items c.and-self-inside.result.items (λ v. v.items) (length s.nodes.slots) (length s.nodes.slots) s.places Refused c.and-self-inside.ensures refl in
    let is = ap (λ (p : Past). shape s.places.items p s.inside s.widest s.room s.raised) step in
    right_from _ (refused (contents_of s)) is c.self.invariant.agree (sound_refused (contents_of s) c.self.invariant.sound) c.self.invariant.places c.self.invariant.marks c.self.invariant.widest

pub returns : goal.returns
returns c =
    let s = c.self.inside in
    let step = past_step s.history.items c.and-self-inside.result.items (λ v. v.items) (length s.nodes.slots) (length s.nodes.slots) s.places Refused c.and-self-inside.ensures refl in
    ap (λ (p : Past). shape s.places.items p s.inside s.widest s.room s.raised) step ∙ ap (λ (x : Contents). refused x) c.self.view_is
