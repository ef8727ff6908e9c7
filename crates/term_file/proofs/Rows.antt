-- Worked files, computed by the definitions.
use Rattle.std.proofs.Common.{◌≡◌, ℕ, List, [], ◌∷◌, Ok, refl}
use Rattle.term_model.specs.declared.Head.TheVariants.{App}
use Rattle.term_file.specs.Contents.{Contents}
use Rattle.term_file.specs.File.{file_bytes}
use Rattle.term_file.specs.Reading.{read_file, records_to_end, roots_to_end, text_where, number_where, symbols_at, symbol_at, records_at, record_at, head_at, arguments_at, roots_at}

-- f(a,a)
abbrev pair : Contents
pair = record {
  symbols = record { name = 97 ∷ []; arity = 0 } ∷ record { name = 102 ∷ []; arity = 2 } ∷ [];
  records = record { head = App (record { 0 = 0 }); arguments = [] } ∷ record { head = App (record { 0 = 1 }); arguments = 0 ∷ 0 ∷ [] } ∷ [];
  roots = 1 ∷ [];
}

abbrev pair_file : List ℕ
pair_file =
    82 ∷ 69 ∷ 67 ∷ 84 ∷ 69 ∷ 82 ∷ 77 ∷ 49 ∷ 0 ∷ 0 ∷ 0 ∷ 2 ∷ 1 ∷ 97 ∷ 0 ∷ 1 ∷ 102 ∷ 2 ∷ 0 ∷ 0 ∷ 0 ∷ 2 ∷ 0 ∷ 0 ∷ 0 ∷ 0 ∷ 0
    ∷ 0 ∷ 0 ∷ 0 ∷ 0 ∷ 1 ∷ 0 ∷ 0 ∷ 0 ∷ 0 ∷ 0 ∷ 0 ∷ 0 ∷ 0 ∷ 0 ∷ 0 ∷ 0 ∷ 1 ∷ 0 ∷ 0 ∷ 0 ∷ 1 ∷ []

written : file_bytes pair ≡ pair_file
written = refl

read_back : read_file pair_file ≡ Ok pair
unfolding read_file records_to_end roots_to_end text_where number_where symbols_at symbol_at records_at record_at head_at arguments_at roots_at
read_back = refl
