use Rattle.rec_top.proofs.top.run.Goals as goal

pub returns-clause-usage_only_where_refused : goal.returns-clause-usage_only_where_refused
returns-clause-usage_only_where_refused g c = c.ran.ensures.usage_only_where_refused

pub returns-clause-refused_words : goal.returns-clause-refused_words
returns-clause-refused_words g c = c.ran.ensures.refused_words

pub returns-clause-unread : goal.returns-clause-unread
returns-clause-unread g c = c.ran.ensures.unread

pub returns-clause-whole_only_where_out_took_the_output : goal.returns-clause-whole_only_where_out_took_the_output
returns-clause-whole_only_where_out_took_the_output g c = c.ran.ensures.whole_only_where_out_took_the_output

pub returns-clause-upheld_where_right : goal.returns-clause-upheld_where_right
returns-clause-upheld_where_right g c = c.ran.ensures.upheld_where_right

pub returns-clause-refuted_only_where_wrong : goal.returns-clause-refuted_only_where_wrong
returns-clause-refuted_only_where_wrong g c = c.ran.ensures.refuted_only_where_wrong

pub returns-clause-refused_only_where_faulty : goal.returns-clause-refused_only_where_faulty
returns-clause-refused_only_where_faulty g c = c.ran.ensures.refused_only_where_faulty

pub returns-clause-full_only_where_rows_are_few : goal.returns-clause-full_only_where_rows_are_few
returns-clause-full_only_where_rows_are_few g c = c.ran.ensures.full_only_where_rows_are_few

pub returns-clause-worn_only_where_numbers_end : goal.returns-clause-worn_only_where_numbers_end
returns-clause-worn_only_where_numbers_end g c = c.ran.ensures.worn_only_where_numbers_end

pub returns-clause-read_fault_only_where_count_rose : goal.returns-clause-read_fault_only_where_count_rose
returns-clause-read_fault_only_where_count_rose g c = c.ran.ensures.read_fault_only_where_count_rose

pub returns-clause-write_fault_only_where_count_rose : goal.returns-clause-write_fault_only_where_count_rose
returns-clause-write_fault_only_where_count_rose g c = c.ran.ensures.write_fault_only_where_count_rose

pub returns-clause-write_fault_leaves_a_front : goal.returns-clause-write_fault_leaves_a_front
returns-clause-write_fault_leaves_a_front g c = c.ran.ensures.write_fault_leaves_a_front

pub returns-clause-statuses : goal.returns-clause-statuses
returns-clause-statuses g c = c.ran.ensures.statuses

pub returns-clause-drill_unread : goal.returns-clause-drill_unread
returns-clause-drill_unread g c = c.ran.ensures.drill_unread

pub returns-clause-drill_unrefused : goal.returns-clause-drill_unrefused
returns-clause-drill_unrefused g c = c.ran.ensures.drill_unrefused

pub returns-clause-reads_unfailed : goal.returns-clause-reads_unfailed
returns-clause-reads_unfailed g c = c.ran.ensures.reads_unfailed

pub returns-clause-writes_unfailed : goal.returns-clause-writes_unfailed
returns-clause-writes_unfailed g c = c.ran.ensures.writes_unfailed

pub returns-clause-line : goal.returns-clause-line
returns-clause-line g c = c.ran.ensures.line

pub returns-clause-quiet : goal.returns-clause-quiet
returns-clause-quiet g c = c.ran.ensures.quiet

pub returns-clause-silent : goal.returns-clause-silent
returns-clause-silent g c = c.ran.ensures.silent

pub returns-clause-complete : goal.returns-clause-complete
returns-clause-complete g c = c.ran.ensures.complete

pub returns-clause-complete_for_refused : goal.returns-clause-complete_for_refused
returns-clause-complete_for_refused g c = c.ran.ensures.complete_for_refused

pub returns-clause-source_later : goal.returns-clause-source_later
returns-clause-source_later g c = c.ran.ensures.source_later

pub returns-clause-out_later : goal.returns-clause-out_later
returns-clause-out_later g c = c.ran.ensures.out_later

pub returns-clause-err_later : goal.returns-clause-err_later
returns-clause-err_later g c = c.ran.ensures.err_later

pub returns-clause-no_worker : goal.returns-clause-no_worker
returns-clause-no_worker g c = c.ran.ensures.no_worker

pub returns-clause-legal : goal.returns-clause-legal
returns-clause-legal g c = c.ran.ensures.legal

pub returns-clause-rises : goal.returns-clause-rises
returns-clause-rises g c = c.ran.ensures.rises

pub returns-clause-collects : goal.returns-clause-collects
returns-clause-collects g c = c.ran.ensures.collects

pub returns-clause-no_history : goal.returns-clause-no_history
returns-clause-no_history g c = c.ran.ensures.no_history

pub returns-clause-no_history_of_the_refused : goal.returns-clause-no_history_of_the_refused
returns-clause-no_history_of_the_refused g c = c.ran.ensures.no_history_of_the_refused

pub returns-clause-each : goal.returns-clause-each
returns-clause-each g c = c.ran.ensures.each

pub returns-clause-built : goal.returns-clause-built
returns-clause-built g c = c.ran.ensures.built

pub returns-clause-fronts : goal.returns-clause-fronts
returns-clause-fronts g c = c.ran.ensures.fronts

pub returns-clause-fronts_or_nothing : goal.returns-clause-fronts_or_nothing
returns-clause-fronts_or_nothing g c = c.ran.ensures.fronts_or_nothing

pub returns-clause-good_log : goal.returns-clause-good_log
returns-clause-good_log g c = c.ran.ensures.good_log

pub returns-clause-full : goal.returns-clause-full
returns-clause-full g c = c.ran.ensures.full
