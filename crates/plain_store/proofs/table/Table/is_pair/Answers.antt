use Rattle.std.proofs.Common.{◌≡◌, ◌∙◌, ◌*◌, ◌<◌, ◌≤◌, true, false, None, length, take, drop, get_or, ap, sym, subst, arith}
use Rattle.std.proofs.lemmas.List.{length-drop}
use Rattle.term_model.specs.declared.Head.{Head}
use Rattle.term_model.specs.Tree.{head_eq}
use Rattle.term_model.proofs.Equality.{head_eq_refl, head_eq_sound}
use Rattle.plain_store.specs.Slots.{Slots}
use Rattle.plain_store.specs.Flat.{IsEntry}
use Rattle.plain_store.proofs.Pairing.{filled_has_two}
use Rattle.plain_store.proofs.Flattened.{slot_is}
use Rattle.plain_store.proofs.Filling.{free_behind}
use Rattle.plain_store.proofs.Placing.{node_of}
use Rattle.plain_store.proofs.Looking.{HasPair, used_so, pair_told, pair_shows}
use Rattle.plain_store.proofs.table.Table.is_pair.Goals as goal

pub index-entry-requires : goal.index-entry-requires
index-entry-requires c =
    let s = c.self.inside in
    omega (arith, c.if-row-len.false, c.len.ensures, s.entries.ok.0)

pub returns-then-row-len : goal.returns-then-row-len
returns-then-row-len c =
    let s = c.self.inside in
    let shown = ap (λ (x : Slots). x.slots) c.self.view_is in
    let none = free_behind s.widest s.rows s.entries.items s.places.items c.args.self.now.slots c.args.row.0 shown (omega (arith, c.if-row-len.true, c.len.ensures, s.entries.ok.0)) in
    (λ t. absurd (cc), λ given. absurd (let bad : None ≡ node_of c.args.head (take c.args.count c.args.pair) = sym none ∙ given in cc))

pub returns-then-entry-count : goal.returns-then-entry-count
returns-then-entry-count c =
    let s = c.self.inside in
    let k = c.args.row.0 in
    let e = c.index-entry.result.now in
    let shown = ap (λ (x : Slots). x.slots) c.self.view_is in
    let lt : k < length s.entries.items = omega (arith, c.if-row-len.false, c.len.ensures, s.entries.ok.0) in
    let ok = subst (IsEntry s.widest (length s.places.items) k) (sym c.index-entry.ensures) (c.self.invariant.entries k e lt) in
    let places = drop (k * s.widest) s.places.items in
    let is = slot_is s.widest s.rows s.entries.items s.places.items c.args.self.now.slots k e shown lt c.index-entry.ensures in
    let fits : 2 < e.count → e.count ≤ length places = λ many. (let there = ok.places many in omega (arith, there, length-drop (k * s.widest) s.places.items, ok.fits)) in
    let told = pair_told s.widest (length s.places.items) k e places (get_or c.args.self.now.slots k None) c.args.head c.args.pair c.args.count ok fits is c.requires.few c.requires.filled in
    (λ t. absurd (cc), λ given. absurd (c.if-entry-count.true (told given).count))

pub same_pair-requires : goal.same_pair-requires
same_pair-requires c =
    let s = c.self.inside in
    let k = c.args.row.0 in
    let e = c.index-entry.result.now in
    let shown = ap (λ (x : Slots). x.slots) c.self.view_is in
    let lt : k < length s.entries.items = omega (arith, c.if-row-len.false, c.len.ensures, s.entries.ok.0) in
    let ok = subst (IsEntry s.widest (length s.places.items) k) (sym c.index-entry.ensures) (c.self.invariant.entries k e lt) in
    let places = drop (k * s.widest) s.places.items in
    let is = slot_is s.widest s.rows s.entries.items s.places.items c.args.self.now.slots k e shown lt c.index-entry.ensures in
    let few : e.count ≤ 2 = omega (arith, c.if-entry-count.false, c.requires.few) in
    (ok.two, filled_has_two c.args.pair c.args.count c.requires.filled c.requires.few)

pub returns-then-same_pair : goal.returns-then-same_pair
returns-then-same_pair c =
    let s = c.self.inside in
    let k = c.args.row.0 in
    let e = c.index-entry.result.now in
    let shown = ap (λ (x : Slots). x.slots) c.self.view_is in
    let lt : k < length s.entries.items = omega (arith, c.if-row-len.false, c.len.ensures, s.entries.ok.0) in
    let ok = subst (IsEntry s.widest (length s.places.items) k) (sym c.index-entry.ensures) (c.self.invariant.entries k e lt) in
    let places = drop (k * s.widest) s.places.items in
    let is = slot_is s.widest s.rows s.entries.items s.places.items c.args.self.now.slots k e shown lt c.index-entry.ensures in
    let fits : 2 < e.count → e.count ≤ length places = λ many. (let there = ok.places many in omega (arith, there, length-drop (k * s.widest) s.places.items, ok.fits)) in
    let told = pair_told s.widest (length s.places.items) k e places (get_or c.args.self.now.slots k None) c.args.head c.args.pair c.args.count ok fits is c.requires.few c.requires.filled in (
      λ t. (
          let heads = head_eq_sound e.head c.args.head (sym c.same_head.ensures ∙ t) in
          let has : HasPair e c.args.head c.args.pair c.args.count = record { used = used_so s.widest (length s.places.items) k e c.args.pair c.args.count ok c.if-entry-count.false (c.same_pair.ensures.0 c.if-same_pair.true) c.requires.filled; count = c.if-entry-count.false; same = c.same_pair.ensures.0 c.if-same_pair.true; head = heads } in
          pair_shows e places (get_or c.args.self.now.slots k None) c.args.head c.args.pair c.args.count is c.requires.few has),
      λ given. c.same_head.ensures ∙ ap (λ (h : Head). head_eq h c.args.head) (told given).head ∙ head_eq_refl c.args.head,
    )

pub returns-else-same_pair : goal.returns-else-same_pair
returns-else-same_pair c =
    let s = c.self.inside in
    let k = c.args.row.0 in
    let e = c.index-entry.result.now in
    let shown = ap (λ (x : Slots). x.slots) c.self.view_is in
    let lt : k < length s.entries.items = omega (arith, c.if-row-len.false, c.len.ensures, s.entries.ok.0) in
    let ok = subst (IsEntry s.widest (length s.places.items) k) (sym c.index-entry.ensures) (c.self.invariant.entries k e lt) in
    let places = drop (k * s.widest) s.places.items in
    let is = slot_is s.widest s.rows s.entries.items s.places.items c.args.self.now.slots k e shown lt c.index-entry.ensures in
    let fits : 2 < e.count → e.count ≤ length places = λ many. (let there = ok.places many in omega (arith, there, length-drop (k * s.widest) s.places.items, ok.fits)) in
    let told = pair_told s.widest (length s.places.items) k e places (get_or c.args.self.now.slots k None) c.args.head c.args.pair c.args.count ok fits is c.requires.few c.requires.filled in
    (λ t. (let f : true ≡ false = sym t ∙ c.if-same_pair.false in absurd (cc)), λ given. c.same_pair.ensures.1 (told given).same)
