use Rattle.std.proofs.Common.{◌∙◌, List, Option, ap, refl, sym, subst, length, arith}
use Rattle.term_model.specs.declared.Row.{Row}
use Rattle.term_model.specs.Tree.{Tree}
use Rattle.terms_api.specs.Terms.{HasTree, asked, MayBuild, NeedsPlace}
use Rattle.plain_store.specs.declared.event.Event.TheVariants.{Built}
use Rattle.plain_store.specs.Agreement.{Agree}
use Rattle.plain_store.specs.Contents.{Contents, Past, store_of, placed, after}
use Rattle.plain_store.specs.View.{contents_of, past}
use Rattle.plain_store.proofs.Placing.{place_found, sound_placed, trees_found}
use Rattle.plain_store.proofs.Stepping.{past_step, shape, right_from}
use Rattle.plain_store.proofs.store.PlainStore.place.Goals as goal

pub invariant_of-self : goal.invariant_of-self
invariant_of-self c =
    let s = c.self.inside in
    let was = contents_of s in
    let h = c.args.head in
    let n = c.args.n in
    let r = c.args.row in
    let e = Built h n r in
    let back = sym c.self.view_is in
    let may = subst (λ (x : Contents). MayBuild (store_of x) h n) back c.requires.may in
    let room = subst (λ (x : Contents). (NeedsPlace (store_of x) n → ⊥)) back c.requires.room in
    let has = subst (λ (x : Contents). HasTree (store_of x) r (asked (store_of x) h n)) back c.requires.has in
    let step = past_step s.history.items c.and-self-inside.result.items (λ v. v.items) (length s.nodes.slots) (length s.nodes.slots) s.places e c.and-self-inside.ensures refl in
    let is = ap (λ (p : Past). shape c.put.new.self.items p s.inside s.widest s.room s.raised) step
    ∙ ap (λ (xs : List Row). shape xs (after (past s) s.places.items e) s.inside s.widest s.room s.raised) c.put.ensures.items in
    right_from _ (placed was h n r) is
    (subst (λ (xs : List (Option Tree)). Agree s.nodes xs) (sym (trees_found was h n r has)) c.self.invariant.agree)
    (sound_placed was h n r c.self.invariant.sound may room (place_found was h n r c.self.invariant.sound has))
    (omega (arith, c.self.invariant.places, c.put.ensures.room)) c.self.invariant.marks c.self.invariant.widest

pub returns : goal.returns
returns c =
    let s = c.self.inside in
    let h = c.args.head in
    let n = c.args.n in
    let r = c.args.row in
    let e = Built h n r in
    let step = past_step s.history.items c.and-self-inside.result.items (λ v. v.items) (length s.nodes.slots) (length s.nodes.slots) s.places e c.and-self-inside.ensures refl in
    ap (λ (p : Past). shape c.put.new.self.items p s.inside s.widest s.room s.raised) step
    ∙ ap (λ (xs : List Row). shape xs (after (past s) s.places.items e) s.inside s.widest s.room s.raised) c.put.ensures.items
    ∙ ap (λ (x : Contents). placed x h n r) c.self.view_is
