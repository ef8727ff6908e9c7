use Rattle.rec_includes.proofs.Common.{◌≡◌, length, Leads, parent_of, preorder}
use Rattle.rec_includes.proofs.ordering.chained.Given as goal

abbrev pub invariant-loop-number : goal.invariant-loop-number
invariant-loop-number l =
    record {
      count : length l.chain.next.items ≡ length l.specifications;
      leads : Leads l.chain.next.items l.chain.first (preorder (parent_of l.headers.bytes l.headers.names l.specifications) l.number);
    }
