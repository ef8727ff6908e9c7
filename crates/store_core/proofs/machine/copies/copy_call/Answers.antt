use Rattle.std.proofs.Common.{◌∙◌, sym, ap, ap₂}
use Rattle.store_model.specs.declared.view.Content.{Content}
use Rattle.store_model.specs.declared.view.Call.TheVariants.{Comparing, Passing, Finding, Ended, Counting, Drawing, Placing, Filling, Numbering, Linking, Publishing, Loading, Storing}
use Rattle.store_core.proofs.machine.copies.copy_call.Goals as goal

pub returns-in_ok-copy_content-in-Comparing : goal.returns-in_ok-copy_content-in-Comparing
returns-in_ok-copy_content-in-Comparing c = ap (λ (x : Content). Comparing x c.in-Comparing.d c.in-Comparing.from c.in-Comparing.old c.in-Comparing.at c.in-Comparing.k) c.in_ok-copy_content-in-Comparing.ensures ∙ sym c.in-Comparing.is

pub returns-in_ok-copy_content-in-Passing : goal.returns-in_ok-copy_content-in-Passing
returns-in_ok-copy_content-in-Passing c = ap (λ (x : Content). Passing x c.in-Passing.d c.in-Passing.from c.in-Passing.old c.in-Passing.at c.in-Passing.differs) c.in_ok-copy_content-in-Passing.ensures ∙ sym c.in-Passing.is

pub returns-in_ok-copy_content-in-Finding : goal.returns-in_ok-copy_content-in-Finding
returns-in_ok-copy_content-in-Finding c = ap (λ (x : Content). Finding x c.in-Finding.d c.in-Finding.row) c.in_ok-copy_content-in-Finding.ensures ∙ sym c.in-Finding.is

pub returns-in_ok-copy_content-in-Ended : goal.returns-in_ok-copy_content-in-Ended
returns-in_ok-copy_content-in-Ended c = ap (λ (x : Content). Ended x c.in-Ended.from) c.in_ok-copy_content-in-Ended.ensures ∙ sym c.in-Ended.is

pub returns-in_ok-copy_content-in-Counting : goal.returns-in_ok-copy_content-in-Counting
returns-in_ok-copy_content-in-Counting c = ap (λ (x : Content). Counting x c.in-Counting.from c.in-Counting.claim) c.in_ok-copy_content-in-Counting.ensures ∙ sym c.in-Counting.is

pub returns-in_ok-copy_content-in-Drawing : goal.returns-in_ok-copy_content-in-Drawing
returns-in_ok-copy_content-in-Drawing c = ap (λ (x : Content). Drawing x c.in-Drawing.from c.in-Drawing.count) c.in_ok-copy_content-in-Drawing.ensures ∙ sym c.in-Drawing.is

pub returns-in_ok-copy_content-in-Placing : goal.returns-in_ok-copy_content-in-Placing
returns-in_ok-copy_content-in-Placing c = ap (λ (x : Content). Placing x c.in-Placing.from c.in-Placing.i) c.in_ok-copy_content-in-Placing.ensures ∙ sym c.in-Placing.is

pub returns-in_ok-copy_content-in-Filling : goal.returns-in_ok-copy_content-in-Filling
returns-in_ok-copy_content-in-Filling c = ap (λ (x : Content). Filling x c.in-Filling.from c.in-Filling.i c.in-Filling.row c.in-Filling.k) c.in_ok-copy_content-in-Filling.ensures ∙ sym c.in-Filling.is

pub returns-in_ok-copy_content-in-Numbering : goal.returns-in_ok-copy_content-in-Numbering
returns-in_ok-copy_content-in-Numbering c = ap (λ (x : Content). Numbering x c.in-Numbering.from c.in-Numbering.i c.in-Numbering.row) c.in_ok-copy_content-in-Numbering.ensures ∙ sym c.in-Numbering.is

pub returns-in_ok-copy_content-in-Linking : goal.returns-in_ok-copy_content-in-Linking
returns-in_ok-copy_content-in-Linking c = ap (λ (x : Content). Linking x c.in-Linking.from c.in-Linking.i c.in-Linking.row) c.in_ok-copy_content-in-Linking.ensures ∙ sym c.in-Linking.is

pub returns-in_ok-copy_content-in-Publishing : goal.returns-in_ok-copy_content-in-Publishing
returns-in_ok-copy_content-in-Publishing c = ap (λ (x : Content). Publishing x c.in-Publishing.from c.in-Publishing.i c.in-Publishing.row) c.in_ok-copy_content-in-Publishing.ensures ∙ sym c.in-Publishing.is

pub returns-in_ok-copy_loads-in-Loading : goal.returns-in_ok-copy_loads-in-Loading
returns-in_ok-copy_loads-in-Loading c = ap Loading c.in_ok-copy_loads-in-Loading.ensures ∙ sym c.in-Loading.is

pub returns-in_ok-copy_loads-in-Storing-2 : goal.returns-in_ok-copy_loads-in-Storing-2
returns-in_ok-copy_loads-in-Storing-2 c = ap₂ Storing c.in_ok-copy_loads-in-Storing.ensures c.in_ok-copy_loads-in-Storing-2.ensures ∙ sym c.in-Storing.is
