use Rattle.rec_includes.proofs.Common.{◌<◌, ℕ, ◌-◌, length, nat_eq, inl, inr, refl, sym, ◌∙◌, arith, Vec, pointwise}
use Rattle.rec_includes.proofs.Places.{popped_found, popped_rises, no_entries, fronted}
use Rattle.rec_includes.proofs.directory.Directory.truncate.Goals as goal

pub invariant_of-self : goal.invariant_of-self
invariant_of-self c =
    let s = c.loop-place.self-inside in
    let l = c.loop-place.invariant in
    let d = c.args.self.now in
    let es = s.places.entries in
    let n = length es in
    let e : Vec ℕ × ℕ = (c.in-Some.field-0-0.now, c.in-Some.place.now) in
    let some : 0 < n = c.in-Some.ensures.found.0 refl in
    fronted d.bytes d.names c.args.count es l.rising l.found (inr (n - 1, e, omega (arith, some), (sym c.in-Some.ensures.entry), c.if-place-count.true)) s l.text l.names refl

pub loop-place-preserved-else-place-count : goal.loop-place-preserved-else-place-count
loop-place-preserved-else-place-count c =
    let l = c.loop-place in
    let es = l.self-inside.places.entries in
    let new = c.pop.new.self.entries in
    let e : Vec ℕ × ℕ = (c.in-Some.field-0-0.now, c.in-Some.place.now) in
    let some = c.pop.ensures.found.1 (c.in-Some.ensures.found.0 refl) in
    let found = popped_found es new c.pop.result e (length es) c.pop.ensures.entries refl (sym c.in-Some.ensures.entry) some in
    record {
      text = l.invariant.text;
      names = l.invariant.names;
      found = λ q. found (λ k. pointwise nat_eq q k.items) c.args.count c.if-place-count.false ∙ l.invariant.found q;
      rising = popped_rises es new c.pop.result e (length es) c.pop.ensures.entries refl (sym c.in-Some.ensures.entry) some _ l.invariant.rising;
    }

pub invariant_of-self-in_default : goal.invariant_of-self-in_default
invariant_of-self-in_default c =
    let s = c.loop-place.self-inside in
    let l = c.loop-place.invariant in
    let d = c.args.self.now in
    let es = s.places.entries in
    fronted d.bytes d.names c.args.count es l.rising l.found (inl (no_entries es c.in_default.ensures.found.1)) s l.text l.names refl
