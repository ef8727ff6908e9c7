use Rattle.std.proofs.Common.{ℕ, List, [], ◌∷◌, ◌++◌, decimal, ap, sym, ◌∙◌, arith, append_assoc}
use Rattle.std.proofs.lemmas.List.{drop_all}
use Rattle.log_text.specs.Lines.{names, head_text, names_text}
use Rattle.log_text.proofs.line.put_term.Goals as goal

pub returns-clause-written : goal.returns-clause-written
returns-clause-written c =
    let name = decimal c.args.row.0 in
    let space : List ℕ = 32 ∷ [] in
    let head = head_text c.args.head in
    let args = names_text (names c.args.args.now) in
    let end : List ℕ = 10 ∷ [] in
    let ends = c.put-at.ensures.written ∙ ap (λ (bs : List ℕ). 10 ∷ bs) (drop_all 512 c.args.bytes.now (omega (arith, c.told-bytes))) in
    let with_args = c.put_names-at.ensures.written ∙ ap (λ (bs : List ℕ). args ++ bs) ends in
    let with_head = c.put_head-at.ensures.written ∙ ap (λ (bs : List ℕ). head ++ bs) with_args in
    let with_space = c.put-at-2.ensures.written ∙ ap (λ (bs : List ℕ). 32 ∷ bs) with_head in
    c.put_number.ensures.written ∙ (ap (λ (bs : List ℕ). name ++ bs) with_space
    ∙ sym (append_assoc ((name ++ space) ++ head) args end ∙ (append_assoc (name ++ space) head (args ++ end) ∙ append_assoc name space (head ++ (args ++ end)))))
