-- Whether a number may be a root.
use Rattle.std.proofs.Common.{◌≡◌, ℕ, ◌<◌, ◌≤◌, true, false, ◌&&◌, List, length, Option, Some, None, sym, ap, ◌∙◌, arith}
use Rattle.std.specs.Prelude.{is_some}
use Rattle.std.proofs.lemmas.Bool.{lt-ltb, le-ltb}
use Rattle.term_file.specs.Contents.{Record}
use Rattle.term_file.specs.InOrder.{came_after, visits, visits_at, visits_over}
use Rattle.term_file.specs.Reading.{may_be_root}
use Rattle.term_file.proofs.SymbolFields.{both_true}
use Rattle.term_file.proofs.Tables.{length-table_of}

pub past_all : (records : List Record) (came r : ℕ) → length records ≤ r → may_be_root (visits records) came r ≡ false
past_all records came r le =
    ap (λ b. b && is_some (came_after came (visits_at (visits records) r))) (le-ltb _ _ (omega (arith, length-table_of visits_over records)))

pub comes_early : (records : List Record) (came r : ℕ) → r < length records → None ≡ came_after came (visits_at (visits records) r) → may_be_root (visits records) came r ≡ false
comes_early records came r lt e =
    ap (λ b. b && is_some (came_after came (visits_at (visits records) r))) (lt-ltb _ _ (omega (arith, length-table_of visits_over records)))
    ∙ ap (λ (o : Option ℕ). is_some o) (sym e)

pub comes_well : (records : List Record) (came r count : ℕ) → r < length records → Some count ≡ came_after came (visits_at (visits records) r) → may_be_root (visits records) came r ≡ true
comes_well records came r count lt e =
    both_true _ _ (lt-ltb _ _ (omega (arith, length-table_of visits_over records))) (ap (λ (o : Option ℕ). is_some o) (sym e))
