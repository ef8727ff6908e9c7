-- Terms are packed into one file, and a file has one text or one fault.
use Rattle.std.proofs.Common.{◌≡◌, ℕ, List, [], Bool, sym, ap, ◌∙◌, arith, map}
use Rattle.std.specs.Prelude.{Ok, Err}
use Rattle.faults.specs.declared.refusal.Refusal.{Refusal}
use Rattle.term_syntax.proofs.Readings.{only_one}
use Rattle.term_file.specs.File.{Terms}
use Rattle.term_file.specs.NamedTree.{named_tree}
use Rattle.term_file.proofs.OneFile.{one_file}
use Rattle.term_file.proofs.OneList.{read_again, one_list}
use Rattle.term_commands.specs.Different.{different}
use Rattle.term_commands.specs.Listing.{IsTooMuch}
use Rattle.term_commands.specs.Packing.{IsPacked}
use Rattle.term_commands.specs.Unpacking.{IsUnpacked, IsFileFault, lines, all_written}

pub one_packed : (rows : ℕ) (input file other : List ℕ) → IsPacked rows input file → IsPacked rows input other → file ≡ other
one_packed rows input file other p q =
    let same = only_one input [] p.symbols q.symbols p.terms q.terms p.read q.read in
    one_file file other p.held q.held p.is_file q.is_file
    (sym p.same ∙ (λ i. map (named_tree (sym same.0 i)) (sym same.1 i)) ∙ q.same)

-- where terms are packed, the rows suffice
pub packed_fit : (rows : ℕ) (input file : List ℕ) → IsPacked rows input file → IsTooMuch rows input → ⊥
packed_fit rows input file p m =
    let same = only_one input [] p.symbols m.symbols p.terms m.terms p.read m.read in
    let count = ap different same.1 in
    let fit = p.fit in
    let full = m.full in
    omega (arith, count, fit, full)

pub one_unpacked : (file text other : List ℕ) (whole all : Bool) → IsUnpacked file text whole → IsUnpacked file other all → (text ≡ other) × (whole ≡ all)
one_unpacked file text other whole all p q =
    let same = one_list file p.held q.held p.is_file q.is_file in (
      p.text_is ∙ ap (λ (ts : Terms). lines 0 ts.symbols ts.trees) same ∙ sym q.text_is,
      p.whole_is ∙ ap (λ (ts : Terms). all_written 0 ts.trees) same ∙ sym q.whole_is,
    )

pub no_file_fault : (file text : List ℕ) (whole : Bool) (f : Refusal) → IsUnpacked file text whole → IsFileFault file f → ⊥
no_file_fault file text whole f p bad = let e : Ok p.is_file.contents ≡ Err f = sym (read_again file p.held p.is_file) ∙ bad in cc

pub one_file_fault : (file : List ℕ) (f g : Refusal) → IsFileFault file f → IsFileFault file g → f ≡ g
one_file_fault file f g a b = let e : Err f ≡ Err g = sym a ∙ b in cc
