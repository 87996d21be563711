-- One name that opens every definition, for the theorems that compute: `unfolding computed`.
use Prim.Native.Nat.{ℕ}
use mathlib.Core.List.{flat_map}
use Rattle.job.specs.Lists.{any, all, sum_of, gap_sum, max_of, occurs, tally}
use Rattle.job.specs.Verdict.{lowest}
use Rattle.job.specs.Buffers.{filled, sized}
use Rattle.job.specs.Mode.{three, exact, mode_of}
use Rattle.job.specs.Job.{item_at, unturned, turned, type_of, turn_of, positions_of, positions, position_at, items_of, job_of, board_right, item_right, job_words, fits, larger, demanded, admission, size_at, sizes_of, head_right, size_right, fits_in}
use Rattle.listing.specs.Plate.{same, exact_fit, may_cut, leaves, kept}
use Rattle.listing.specs.Waste.{unkept, trim, waste_of, swath, swath_of}
use Rattle.listing.specs.Listing.{plate_at, cut_at, number_in, entered, cut_done, limited, pair, over_items, over_plates, walk_within, walk, model_row, listing_of, residual_types, number_from}
use Rattle.listing.specs.Records.{plate_words, cut_words, plate_words_from}
use Rattle.listing.specs.ListCall.{list_verdict, list_answer, plates_end, cuts_end}
use Rattle.plan.specs.Plan.{count_of, of_item, of_position, on_plate, leaves_plate, boards, total, short, overdrawn, counts_row, plan_row, on_size, boards_of, weighed, cost_at, plan_cost}
use Rattle.plan.specs.Prices.{prices_of, price_words, item_price, residual_price, price_limit, worth, over_limit, model_sized, prices_sized, prices_row, priced, price_sum, is_cheapest}
use Rattle.plan.specs.PlanCall.{plan_verdict, plan_answer}
use Rattle.plan.specs.PriceCall.{price_verdict, price_answer}
use Rattle.layouts.specs.Layout.{width_of, height_of, stack_width, stack_height, strip_height, strip_width, board_height, single, full_stack, same_heights, same_widths, stage_rule, board_rules, layout_rules, sheet_rules}
use Rattle.layouts.specs.Placement.{placement_words, stack_lines, strip_lines, board_lines, set_lines, lines_of, items_of_strip, items_of_board, items_of_set, types_of_set, meets_from, meets_demands, sheets_of, set_cost}
use Rattle.layouts.specs.Rectangle.{end_x, end_y, inside, apart, clear, all_apart}
use Rattle.layouts.specs.Unfold.{spent, search, highest, wait_at, wait, next_turn, done, step, open_board, placing, run, steps_for, unfolded, next_size}
use Rattle.layouts.specs.Offcuts.{chosen, events, events_of, placed_in, cuts_in, cuts_on, types_over, offcut, offcuts_in, offcuts_of, usable, offcut_words}
use Rattle.layouts.specs.OwnCuts.{begin_of, own_part, first_left, part_search, part_step, part_size, part_run, part_chosen, part_events}
use Rattle.layouts.specs.Balance.{items_on, offcuts_on, waste_by, swath_by, size_on, size_area}
use Rattle.layouts.specs.Lines.{lines_in, rows_of, row_right, layout_words, same_turn, follows, in_turn, turns, level_of, begun, in_strip, in_board, in_set, beside, before, grouped, set_of}
use Rattle.layouts.specs.LayoutsRow.{laid_board, laid_set, lowest_strip, breaks_stage, past_board, positioned, lacks, layouts_row}
use Rattle.layouts.specs.Fold.{insert_by, falling, first_of, without, to_front, ordered, cut_from, cut_of, stack_cuts, strip_cuts, board_cuts, set_cuts, folded}
use Rattle.layouts.specs.UnfoldCall.{lengths_right, lengths_row, unfold_verdict, unfolding_of, offcuts_from, unfold_answer, placements_end, offcuts_end}
use Rattle.layouts.specs.FoldCall.{fold_verdict, fold_answer, counts_end}
use Rattle.columns.specs.Group.{mark, lead, group, digits_after, same as same·columns, number_of, put}
use Rattle.columns.specs.Line.{groups, line_of, numbers_of, read_line}
use Rattle.texts.specs.Shape.{begins, formed, each_within, values, numbers_row, line_row}
use Rattle.texts.specs.Reader.{line_read, byte_taken, byte_read, fed, text_row, written}
use Rattle.texts.specs.JobLines.{after_type, after_size}
use Rattle.texts.specs.SawText.{saw_admits, after_item_price, after_plate_price, body_read, saw_after, saw_complete, named_cut, cuts_named, misshown, plates_shown, cuts_rising, count_for, counts_from, plan_counts, price_lines_row, saw_rows, placement_row, placement_line, result_row, result_line, saw_lines, saw_written, saw_text}
use Rattle.texts.specs.FoldText.{fold_admits, fold_after, fold_complete, fold_rows, count_lines, fold_lines, fold_written, fold_text}

unfoldable pub computed : ℕ
unfolding flat_map any all sum_of gap_sum max_of occurs tally lowest filled sized three exact mode_of item_at unturned turned type_of turn_of positions_of positions position_at items_of job_of board_right item_right job_words fits larger demanded admission same exact_fit may_cut leaves kept unkept trim waste_of swath swath_of plate_at cut_at number_in entered cut_done limited pair over_items over_plates walk_within walk model_row listing_of residual_types plate_words cut_words list_verdict list_answer plates_end cuts_end count_of of_item of_position on_plate leaves_plate boards total short overdrawn counts_row plan_row prices_of price_words item_price residual_price price_limit worth over_limit model_sized prices_sized prices_row priced price_sum is_cheapest plan_verdict plan_answer price_verdict price_answer width_of height_of stack_width stack_height strip_height strip_width board_height single full_stack same_heights same_widths stage_rule board_rules layout_rules placement_words stack_lines strip_lines board_lines set_lines lines_of items_of_strip items_of_board items_of_set types_of_set meets_from meets_demands end_x end_y inside apart clear all_apart spent search highest wait_at wait next_turn done step open_board placing run steps_for unfolded chosen events events_of placed_in cuts_in cuts_on types_over offcut offcuts_in offcuts_of usable offcut_words items_on offcuts_on waste_by swath_by lines_in rows_of row_right layout_words same_turn follows in_turn turns level_of begun in_strip in_board in_set beside before grouped set_of laid_board laid_set lowest_strip breaks_stage past_board positioned lacks layouts_row insert_by falling first_of without to_front ordered cut_from cut_of stack_cuts strip_cuts board_cuts set_cuts folded lengths_right lengths_row unfold_verdict unfolding_of offcuts_from unfold_answer placements_end offcuts_end fold_verdict fold_answer counts_end mark lead group digits_after same·columns number_of put groups line_of numbers_of read_line begins formed each_within values numbers_row line_row line_read byte_taken byte_read fed text_row written after_type saw_admits after_item_price after_plate_price body_read saw_after saw_complete named_cut cuts_named misshown plates_shown cuts_rising count_for counts_from plan_counts price_lines_row saw_rows placement_row placement_line result_row result_line saw_lines saw_written saw_text fold_admits fold_after fold_complete fold_rows count_lines fold_lines fold_written fold_text size_at sizes_of head_right size_right fits_in number_from plate_words_from on_size boards_of weighed cost_at plan_cost sheet_rules sheets_of set_cost next_size size_on size_area after_size begin_of own_part first_left part_search part_step part_size part_run part_chosen part_events
computed = 0
