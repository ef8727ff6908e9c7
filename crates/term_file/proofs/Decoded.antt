-- What `decode` answers, by what reading gives.
use Rattle.std.proofs.Common.{◌≡◌, ℕ, List, Result, Ok, Err, refl, sym, ◌∙◌}
use Rattle.faults.specs.declared.refusal.Refusal.{Refusal}
use Rattle.read_faults.specs.declared.fail.ReadFail.{ReadFail}
use Rattle.read_faults.specs.declared.fail.ReadFail.TheVariants.{Refused, Memory}
use Rattle.read_faults.specs.Fault.{IsDue, fault}
use Rattle.term_file.specs.Contents.{Contents}
use Rattle.term_file.specs.File.{Terms, IsFile, terms_in}
use Rattle.term_file.specs.Reading.{read_file}
use Rattle.term_file.proofs.FieldLaws.{IsBytes}
use Rattle.term_file.proofs.Files.{file_takes}
use Rattle.term_file.proofs.OneList.{read_again}

pub is_file : (bytes : List ℕ) (c : Contents) → IsBytes bytes → read_file bytes ≡ Ok c → IsFile bytes (terms_in c)
is_file bytes c fits e =
    let t = file_takes bytes c fits e in
    record { contents = c; right = t.right; bytes_are = t.bytes_are; terms_are = refl }

only_memory : {A : Type 0} (due : Result A Refusal) (x : A) (e : ReadFail) → due ≡ Ok x → IsDue due e → e ≡ Memory
only_memory due x Memory is h = refl
only_memory due x (Refused kind offset) is h = absurd (let bad : Ok x ≡ Err (fault kind offset) = sym is ∙ h in cc)

-- a right file is refused for want of memory alone
pub accepted : (bytes : List ℕ) (e : ReadFail) → IsDue (read_file bytes) e → (ts : Terms) → IsFile bytes ts → e ≡ Memory
accepted bytes e h ts is = only_memory (read_file bytes) is.contents e (read_again bytes ts is) h
