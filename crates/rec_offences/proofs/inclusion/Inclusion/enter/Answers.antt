use Rattle.rec_offences.proofs.Common.{◌+◌, ◌-◌, ◌^◌, length, min, refl, ap, ◌∙◌, path_of, Inclusion}
use Rattle.rec_offences.proofs.Levels.{entered, path_pushed}
use Rattle.rec_offences.proofs.inclusion.Inclusion.enter.Goals as goal

pub returns-clause-at_level : goal.returns-clause-at_level
returns-clause-at_level c = λ bytes specifications d.
    let s = c.args.self.now in
    let j : Inclusion = record { scope = c.truncate.new.self; sorts = s.sorts; rules = c.saturating_add-self.result; material = c.insert.new.self; levels = c.push.new.self } in
    let rules = c.saturating_add-self.ensures ∙ ap (λ rs. min (s.rules + length rs) (2 ^ 64 - 1)) c.as_slice.ensures in
    entered bytes specifications c.args.number c.args.symbols c.args.specification.now s j d _ c.truncate.ensures refl rules c.in_ok-insert.ensures.keys c.in_ok-push.ensures.items refl
    (λ n. record { material = c.len.ensures.len n; symbols = c.len-2.ensures.count n; sorts = c.len-3.ensures n; rules = c.saturating_add-self.result })

pub returns-clause-path : goal.returns-clause-path
returns-clause-path c = ap path_of c.in_ok-push.ensures.items ∙ path_pushed c.args.self.now.levels.items _
