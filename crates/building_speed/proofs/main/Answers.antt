use Rattle.std.proofs.Common.{◌≡◌, ℕ, ◌≤◌, true, ap, lit<, arith}
use Rattle.plain_store.specs.Contents.{Contents, empty}
use Rattle.building_speed.proofs.main.Goals as goal

-- the width of a store that is entered
width : (first : Contents) (entered : Contents) (rows depth : ℕ) → first ≡ empty rows depth 2 → entered ≡ record first { inside = true } → 1 ≤ entered.widest
width first entered rows depth new enters =
    let before : first.widest ≡ 2 = ap (λ (s : Contents). s.widest) new in
    let after : entered.widest ≡ first.widest = ap (λ (s : Contents). s.widest) enters in
    omega arith

pub enter-requires : goal.enter-requires
enter-requires c = ap (λ (s : Contents). s.inside) c.in-Ok.ensures

pub build_pairs-built-requires : goal.build_pairs-built-requires
build_pairs-built-requires c = record {
  inside = ap (λ (s : Contents). s.inside) c.enter.ensures.inside_alone;
  width = width c.in-Ok.store c.enter.new.self 262144 4 c.in-Ok.ensures c.enter.ensures.inside_alone;
  leaves = lit< tt;
}

pub build_pairs-built-requires-in-Some-found : goal.build_pairs-built-requires-in-Some-found
build_pairs-built-requires-in-Some-found c = record {
  inside = ap (λ (s : Contents). s.inside) c.enter.ensures.inside_alone;
  width = width c.in-Ok.store c.enter.new.self 262144 4 c.in-Ok.ensures c.enter.ensures.inside_alone;
  leaves = lit< tt;
}

pub build_beside-built-requires : goal.build_beside-built-requires
build_beside-built-requires c = record {
  inside = ap (λ (s : Contents). s.inside) c.enter.ensures.inside_alone;
  width = width c.in-Ok.store c.enter.new.self 262144 4 c.in-Ok.ensures c.enter.ensures.inside_alone;
}
