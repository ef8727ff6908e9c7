use Rattle.rec_includes.proofs.Common.{◌≡◌, ◌-◌, length, ◌∙◌, ap, sym, subst, arith, is_among, PlacesRise}
use Rattle.rec_includes.proofs.Places.{Looks, added_last, looks_more, rises_more}
use Rattle.rec_includes.proofs.directory.Directory.add_absent.Goals as goal

pub invariant_of-self-in-Ok : goal.invariant_of-self-in-Ok
invariant_of-self-in-Ok c =
    let s = c.self.inside in
    let es = s.places.entries in
    let new = c.insert.new.self.entries in
    let i = c.len-2.result - 1 in
    let k = c.in_ok-key.key in
    let absent = ap (λ d. is_among d.bytes d.names c.args.name) c.self.view_is ∙ c.requires in
    let key = c.in_ok-key.ensures.items ∙ c.text_of-text.ensures in
    let place : i ≡ length s.names.items = omega (arith, c.in_ok-push.ensures.len, s.names.ok.0, c.len-2.ensures) in
    let last = added_last s.text.now s.names.items es new c.args.name k i absent key c.in-Ok.ensures.entries c.self.invariant.places in
    let names = sym c.in_ok-push.ensures.items in
    record {
      places = subst (λ ns. Looks s.text.now ns new) names (looks_more s.text.now s.names.items es new c.args.name k i key place last c.self.invariant.places);
      rising = subst (λ ns. PlacesRise 0 (length ns) new) names (rises_more s.names.items c.args.name es c.self.invariant.rising new k i place last);
    }
