-- Whoever unfolds `computed` computes every definition of specs/.
use Rattle.lists.specs.Below.{count, all, distinct, sum, greatest}
use Rattle.lists.specs.Build.{tabulate_from, tabulate, over, overlay}
use Rattle.model.specs.Tables.{idle, start, fresh, zero_table, with_controller, with_message, controller_in, message_in}
use Rattle.model.specs.Delivery.{majority, mark_count, goes_before}
use Rattle.model.specs.Rounds.{clears, round, settle, largest, applicable}
use Rattle.model.specs.Registers.{exceeds, wins, writes, newest, register_of, registers, date_of}
use Rattle.model.specs.Events.{sent_message, sent, forward, next_slot, received, handover_set, number_of, highest_in, deliver, subject, after, with_sent, next, applied_by, controller_of, resulting, weigh, sums, class_sums, shown, panel_of, earlier, insert, names_below, names_of, finishes}
use Rattle.model.specs.Records.{after_record, size_of, report_class, reported, decode}
use Rattle.model.specs.Fair.{named, fair_magnitude, fair_amount, fair_class, fair_register, fair_date, known}
use Rattle.model.specs.WellFormed.{same_name, same_stamp, in_range, good_message, good_messages, kept_write, good_writes, good_log, good_places, good_mark, good_marks, good_buffer, good_highest, good_running, good_controller, well_formed}
use Rattle.model.specs.Facts.{in_log, greatest_applied}
use Rattle.model.specs.Questions.{first_no, fresh_questions, file_questions, lent_table, look_questions, kind_questions, record_questions, own_pending, latest, synced, unread, keepable, payload_questions, sender_questions, send_questions, handover_questions, stop_questions, read_questions, event_questions, command_questions, scratch_room, step_questions, line_fits}
use Rattle.model.specs.Calls.{answering, accepted, refused, settled, step, event, cleared, scratch_after, answer_of, fresh_table, look, is_named, pending_below, pending_of, count_before}
use Rattle.model.specs.Runs.{digits, decimal, sum_fields, name_fields, line, line_of, line_at, verdict, advance, records, begun, progress, ran, file_run, header, footer}

unfoldable pub computed : Unit {0}
unfolding count all distinct sum greatest tabulate_from tabulate over overlay idle start fresh zero_table controller_in message_in with_controller with_message majority mark_count goes_before clears round settle largest applicable exceeds wins writes newest register_of registers date_of sent_message sent forward next_slot received handover_set number_of highest_in deliver subject after with_sent next applied_by controller_of resulting weigh sums class_sums shown panel_of earlier insert names_below names_of finishes after_record size_of report_class reported decode named fair_magnitude fair_amount fair_class fair_register fair_date same_name same_stamp in_log greatest_applied known in_range good_message good_messages kept_write good_writes good_log good_places good_mark good_marks good_buffer good_highest good_running good_controller well_formed first_no fresh_questions file_questions lent_table look_questions kind_questions record_questions own_pending latest synced unread keepable payload_questions sender_questions send_questions handover_questions stop_questions read_questions event_questions command_questions scratch_room step_questions line_fits answering accepted refused settled step event cleared scratch_after answer_of fresh_table look is_named pending_below pending_of count_before digits decimal sum_fields name_fields line line_of line_at verdict advance records begun progress ran file_run header footer
computed = tt
