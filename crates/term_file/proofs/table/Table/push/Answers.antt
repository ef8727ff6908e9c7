use Rattle.std.proofs.Common.{◌≡◌, ◌∙◌, ◌++◌, ◌∷◌, [], length, All, ℕ, ◌<◌, List, sym, ap, subst, arith}
use Rattle.term_file.specs.Contents.{Record}
use Rattle.term_file.specs.Outcome.{view, views}
use Rattle.term_file.specs.Tables.{IsTable, least_over}
use Rattle.term_file.proofs.TableLaws.{comes_last, table_grown, counts_shown}
use Rattle.term_file.proofs.table.Table.push.Goals as goal

last : (c : goal.In_ok-push) → views c.insert_full.new.self.keys ≡ c.args.self.now ++ view c.args.entry ∷ []
last c = comes_last c.args.entry c.self.inside.records.keys c.insert_full.new.self.keys c.args.self.now c.in_ok-insert_full.ensures.keys c.self.view_is c.requires.absent

pub returns-clause-pushed : goal.returns-clause-pushed
returns-clause-pushed c = last c

pub invariant_of-self-2 : goal.invariant_of-self-2
invariant_of-self-2 c =
    let before : IsTable c.args.self.now c.self.inside.nodes.items = subst (λ (rs : List Record). IsTable rs c.self.inside.nodes.items) c.self.view_is c.self.invariant in
    let more : c.push.new.self.items ≡ c.self.inside.nodes.items ++ c.nodes_over-nodes.result ∷ [] =
    c.in_ok-push.ensures.items ∙ ap (λ (ns : List ℕ). ns ++ c.nodes_over-nodes.result ∷ []) c.in_ok-reserve.ensures.items in
    let counted : c.nodes_over-nodes.result ≡ least_over c.self.inside.nodes.items c.args.entry.arguments.items =
    c.nodes_over-nodes.ensures ∙ (λ i. least_over (c.deref.ensures.value i) (c.deref-2.ensures.value i)) in
    let grown : IsTable (c.args.self.now ++ view c.args.entry ∷ []) c.push.new.self.items =
    table_grown c.args.self.now c.self.inside.nodes.items c.push.new.self.items (view c.args.entry) c.nodes_over-nodes.result before c.requires.before more counted in
    subst (λ (rs : List Record). IsTable rs c.push.new.self.items) (sym (last c)) grown

pub nodes_over-nodes-requires : goal.nodes_over-nodes-requires
nodes_over-nodes-requires c =
    let size : length c.deref.result.now ≡ length c.args.self.now = ap (λ (ns : List ℕ). length ns) c.deref.ensures.value ∙ counts_shown _ _ _ c.self.view_is c.self.invariant in
    let there : All (λ k. k < length c.args.self.now) c.deref-2.result.now = subst (All (λ k. k < length c.args.self.now)) (sym c.deref-2.ensures.value) c.requires.before in
    λ k d lt. omega (arith, there k d lt, size)
