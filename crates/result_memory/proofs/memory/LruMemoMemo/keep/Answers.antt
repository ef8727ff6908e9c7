use Rattle.std.proofs.Common.{◌≡◌, ◌⊎◌, inl, inr, nat_eq, ℕ, ap, ◌∙◌, sym, subst}
use Rattle.std.specs.Map.{lookup}
use Rattle.std.specs.Prelude.{IsSome}
use Rattle.lru.specs.LruCache.{LruCache, lru_cache, put_entries}
use Rattle.innermost.specs.Remembered.{IsPartWith}
use Rattle.innermost.specs.declared.memo.Known.{Known}
use Rattle.term_model.specs.declared.Row.{Row}
use Rattle.result_memory.specs.Order.{map_of, with_first}
use Rattle.result_memory.proofs.Lookups.{put_finds, same_row}
use Rattle.result_memory.proofs.Ordering.{put_or_same, put_there, put_first, kept_room, kept_first}
use Rattle.result_memory.proofs.memory.LruMemoMemo.keep.Goals as goal

module _ (old new : LruCache ℕ Known) (row : Row) (known : Known) where
  part_of : (new ≡ lru_cache (put_entries nat_eq old row.0 known) old.cap) ⊎ (new ≡ old) → IsPartWith (map_of old) row known (map_of new)
  part_of (inl put) other k is =
      let found = put_finds old row.0 known other.0 k (sym (ap (λ (m : LruCache ℕ Known). lookup (nat_eq other.0) m.entries) put) ∙ is) in
      elim found [
        | inl was ↦ inl was
        | inr here ↦ inr (same_row other row here.0, here.1)
      ]
  part_of (inr same) other k is = inl (sym (ap (λ (m : LruCache ℕ Known). lookup (nat_eq other.0) m.entries) same) ∙ is)

pub invariant_of-self : goal.invariant_of-self
invariant_of-self c = kept_room c.self.inside.results c.put.new.self c.args.row c.args.known c.self.invariant (put_or_same c.put.result c.put.ensures.entries c.put.ensures.err)

pub returns-clause-part : goal.returns-clause-part
returns-clause-part c =
    subst (λ (m : LruCache ℕ Known). IsPartWith (map_of m) c.args.row c.args.known (map_of c.put.new.self)) c.self.view_is
    (part_of c.self.inside.results c.put.new.self c.args.row c.args.known (put_or_same c.put.result c.put.ensures.entries c.put.ensures.err))

pub returns-clause-order : goal.returns-clause-order
returns-clause-order c =
    subst (λ (m : LruCache ℕ Known). (c.put.new.self ≡ with_first m c.args.row c.args.known) ⊎ (c.put.new.self ≡ m)) c.self.view_is
    (kept_first c.self.inside.results c.put.new.self c.args.row c.args.known c.self.invariant (put_or_same c.put.result c.put.ensures.entries c.put.ensures.err))

pub returns-clause-there : goal.returns-clause-there
returns-clause-there c =
    subst (λ (m : LruCache ℕ Known). IsSome (map_of m c.args.row) → c.put.new.self ≡ with_first m c.args.row c.args.known) c.self.view_is
    (λ there. put_first c.self.inside.results c.put.new.self c.args.row c.args.known c.self.invariant (put_there c.put.result c.put.ensures.entries (c.put.ensures.succeeds there)))
