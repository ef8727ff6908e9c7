use Rattle.std.proofs.Common.{◌∙◌, ◌<◌, List, ap, sym, subst, length, arith}
use Rattle.std.proofs.lemmas.List.{length-set}
use Rattle.term_model.specs.declared.Row.{Row}
use Rattle.terms_api.specs.Terms.{asked, MayBuild, NeedsPlace, last}
use Rattle.plain_store.specs.declared.event.Event.TheVariants.{Built}
use Rattle.plain_store.specs.Slots.{Slots, with_slot}
use Rattle.plain_store.specs.Agreement.{Agree}
use Rattle.plain_store.specs.Contents.{Contents, Past, store_of, placed, after, IsAbsent, HasNoFree}
use Rattle.plain_store.specs.View.{contents_of, past}
use Rattle.plain_store.proofs.Placing.{node_of, place_free, sound_placed, agree_made}
use Rattle.plain_store.proofs.Stepping.{past_step, shape, right_from, no_free, if_none_any}
use Rattle.plain_store.proofs.store.PlainStore.make.Goals as goal

pub returns-in_err-row-clause-full : goal.returns-in_err-row-clause-full
returns-in_err-row-clause-full c =
    let s = c.self.inside in
    if_none_any c.from_residual.result (HasNoFree c.args.self.now) (subst HasNoFree c.self.view_is (no_free s.nodes (contents_of s) c.self.invariant.agree c.in_err-row.ensures.full))

pub invariant_of-self-2 : goal.invariant_of-self-2
invariant_of-self-2 c =
    let s = c.self.inside in
    let was = contents_of s in
    let h = c.args.head in
    let n = c.args.n in
    let r = c.in_ok-row.row in
    let e = Built h n r in
    let back = sym c.self.view_is in
    let may = subst (λ (x : Contents). MayBuild (store_of x) h n) back c.requires.may in
    let room = subst (λ (x : Contents). (NeedsPlace (store_of x) n → ⊥)) back c.requires.room in
    let absent = subst (λ (x : Contents). IsAbsent x (asked (store_of x) h n)) back c.requires.absent in
    let args = c.last.ensures in
    let made = c.in_ok-row.ensures.made ∙ ap (λ (xs : List Row). with_slot s.nodes r (node_of h xs)) args in
    let size = ap (λ (x : Slots). length x.slots) made ∙ length-set s.nodes.slots r.0 (node_of h (last n s.places.items)) in
    let step = past_step s.history.items c.and-self-inside.result.items (λ v. v.items) (length s.nodes.slots) (length c.make.new.self.slots) s.places e c.and-self-inside.ensures size in
    let is = ap (λ (p : Past). shape c.put.new.self.items p s.inside s.widest s.room s.raised) step
    ∙ ap (λ (xs : List Row). shape xs (after (past s) s.places.items e) s.inside s.widest s.room s.raised) c.put.ensures.items in
    let free = c.self.invariant.agree.free r c.in_ok-row.ensures.free in
    let below : r.0 < length was.trees = omega (arith, c.in_ok-row.ensures.below, c.self.invariant.agree.size) in
    right_from _ (placed was h n r) is
    (subst (λ (x : Slots). Agree x (placed was h n r).trees) (sym made) (agree_made s.nodes was h n r c.self.invariant.agree c.self.invariant.sound below free))
    (sound_placed was h n r c.self.invariant.sound may room (place_free was h n r below free absent))
    (omega (arith, c.self.invariant.places, c.put.ensures.room))
    (c.self.invariant.marks ∙ sym size)
    (ap (λ (x : Slots). x.widest) made ∙ c.self.invariant.widest)

pub returns-clause-made : goal.returns-clause-made
returns-clause-made c =
    let s = c.self.inside in
    let h = c.args.head in
    let n = c.args.n in
    let r = c.in_ok-row.row in
    let e = Built h n r in
    let size = ap (λ (x : Slots). length x.slots) c.in_ok-row.ensures.made ∙ length-set s.nodes.slots r.0 (node_of h c.last.result.now) in
    let step = past_step s.history.items c.and-self-inside.result.items (λ v. v.items) (length s.nodes.slots) (length c.make.new.self.slots) s.places e c.and-self-inside.ensures size in
    ap (λ (p : Past). shape c.put.new.self.items p s.inside s.widest s.room s.raised) step
    ∙ ap (λ (xs : List Row). shape xs (after (past s) s.places.items e) s.inside s.widest s.room s.raised) c.put.ensures.items
    ∙ ap (λ (x : Contents). placed x h n r) c.self.view_is
