use Rattle.rec_offences.proofs.Common.{◌≡◌, ◌≤◌, length, min, arith, rules}
use Rattle.std.proofs.lemmas.Slice.Zip.{zip_end}
use Rattle.rec_offences.proofs.Leasts.{clashing_end}
use Rattle.rec_offences.proofs.offences.heads.note_clashing.Goals as goal

pub returns : goal.returns
returns c =
    let s = c.args.scope.now in
    let n : length c.loop-sort.yielded ≡ min (length c.args.wanted.now) (length c.args.arguments.now) = zip_end c.args.wanted.now c.args.arguments.now c.loop-sort.yielded c.into_iter-sort-iterator.result c.loop-sort.sort-iterator c.next.new.self c.next.result (search rules) (search rules) c.loop-sort.yielded_by c.in-None.is c.next.ensures.steps in
    let end : min (length c.args.wanted.now) (length c.args.arguments.now) ≤ length c.loop-sort.yielded = omega (arith, n) in
    grind (arith, clashing_end s.bytes c.args.wanted.now c.args.arguments.now (length c.loop-sort.yielded) end)
