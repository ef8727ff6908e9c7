use Rattle.std.proofs.Common.{◌≡◌, ℕ, Option, ap, subst, ◌∙◌}
use Rattle.lru.specs.LruCache.{LruCache}
use Rattle.innermost.specs.declared.memo.Known.{Known}
use Rattle.result_memory.specs.Order.{map_of, with_used}
use Rattle.result_memory.proofs.Lookups.{promoted_same}
use Rattle.result_memory.proofs.Ordering.{used_first, used_room}
use Rattle.result_memory.proofs.memory.LruMemoMemo.find.Goals as goal

pub invariant_of-self : goal.invariant_of-self
invariant_of-self c = used_room c.self.inside.results _ c.args.row c.get.follows.holds-at-none c.self.invariant

pub returns-clause-same : goal.returns-clause-same
returns-clause-same c = λ other.
    let found : LruCache ℕ Known → Option Known = λ m. map_of m other in
    ap found c.get.follows.holds-at-none ∙ (promoted_same c.args.row.0 other.0 c.self.inside.results.entries ∙ ap found c.self.view_is)

pub returns-clause-order : goal.returns-clause-order
returns-clause-order c =
    subst (λ (m : LruCache ℕ Known). c.get.follows.lender-at-none ≡ with_used m c.args.row) c.self.view_is
    (used_first c.self.inside.results c.get.follows.lender-at-none c.args.row c.get.follows.holds-at-none)
