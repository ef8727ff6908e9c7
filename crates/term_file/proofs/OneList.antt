-- A file holds one list of terms.
use Rattle.std.proofs.Common.{◌≡◌, ℕ, List, Ok, sym, ap, ◌∙◌}
use Rattle.term_file.specs.File.{Terms, IsFile, terms_in}
use Rattle.term_file.specs.Reading.{read_file}
use Rattle.term_file.proofs.Files.{file_again}

pub read_again : (file : List ℕ) (ts : Terms) (is : IsFile file ts) → read_file file ≡ Ok is.contents
read_again file ts is = ap read_file is.bytes_are ∙ file_again is.contents is.right

pub one_list : (file : List ℕ) (ts us : Terms) → IsFile file ts → IsFile file us → ts ≡ us
one_list file ts us a b =
    let both : Ok a.contents ≡ Ok b.contents = sym (read_again file ts a) ∙ read_again file us b in
    let same : a.contents ≡ b.contents = cc in
    a.terms_are ∙ ap terms_in same ∙ sym b.terms_are
