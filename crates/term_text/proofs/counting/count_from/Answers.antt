use Rattle.std.proofs.Common.{◌≡◌, ◌<◌, ◌∷◌, ◌++◌, [], inr, List, length, refl, ap, sym, ◌∙◌, subst, arith}
use Rattle.terms_api.specs.Terms.{tree_at}
use Rattle.terms_api.proofs.Callers.{has-held}
use Rattle.term_text.specs.Tally.{count_at, IsHalfway, IsBegun, AreWithin}
use Rattle.term_text.specs.declared.counting.Visit.{Visit}
use Rattle.term_text.proofs.Counts.{any_default}
use Rattle.term_text.proofs.Going.{first_visit, first_within, none_visited, halfway_there, continues_there}
use Rattle.term_text.proofs.counting.count_from.Goals as goal

pub path-init : goal.path-init
path-init g c =
    let s = g.T.Terms.store c.args.terms.now in
    let t = c.args.tally.now in
    let r = c.args.row in
    let v : Visit = record { row = r; next = 0 } in
    let sound = c.depth.ensures.sound in
    let under = sound.below r (tree_at s r) (has-held s r c.requires.held) in
    let h : r.0 < length t.counts.items = omega (arith, under, c.requires.tally.room) in
    let default = any_default t.counts.items r.0 0 c.index.result.now h in
    let none : count_at t.counts.items r ≡ 0 = omega (arith, default, c.index.ensures, c.if-index-gt0.false) in
    let e = c.push_reserved.ensures.items ∙ ap (λ vs. vs ++ v ∷ []) c.requires.idle in
    record {
      store = refl;
      same = g.met.T.Terms.same_as_itself _;
      sound = sound;
      halfway = subst (IsHalfway s t.counts.items t.rows.items) (sym e) (first_visit s t.counts.items t.rows.items r c.requires.tally c.requires.held none);
      room = record { rows = c.requires.room.rows; path = omega (arith, c.requires.room.path, c.push_reserved.ensures.capacity) };
      size = refl;
      begun = subst (λ (p : List Visit). IsBegun t.counts.items p r) (sym e) (inr (v, (0, omega arith, refl), refl));
      kept = λ q k. k;
      within = λ ts w a. subst (AreWithin s ts t.counts.items) (sym e) (first_within s t.counts.items r ts w a);
    }

pub path-preserved : goal.path-preserved
path-preserved g c =
    let s = g.T.Terms.store c.args.terms.now in
    let i = c.path.invariant in
    let pop = c.in-Some.ensures.items in
    let counts = c.path.tally.counts.items in
    let on = continues_there s _ counts _ _ _ _ _ i.store c.go_on.ensures.continues in
    record {
      store = c.go_on.ensures.unchanged ∙ i.store;
      same = g.met.T.Terms.same_in_turn _ _ _ i.same c.go_on.ensures.same;
      sound = i.sound;
      halfway = halfway_there s _ _ _ _ i.store c.go_on.ensures.halfway;
      room = c.go_on.ensures.room;
      size = on.size ∙ i.size;
      begun = on.begun c.args.row (subst (λ (p : List Visit). IsBegun counts p c.args.row) pop i.begun);
      kept = λ r k. on.kept r (i.kept r k);
      within = λ ts w a. on.within ts (subst (AreWithin s ts counts) pop (i.within ts w a));
    }

pub returns-clause-within : goal.returns-clause-within
returns-clause-within g c = λ ts w a.
    none_visited (g.T.Terms.store c.args.terms.now) c.path.tally.counts.items c.path.tally.path.items ts (c.path.invariant.within ts w a)

pub returns-then-index-gt0-clause-same : goal.returns-then-index-gt0-clause-same
returns-then-index-gt0-clause-same g c = g.met.T.Terms.same_as_itself _
