-- The table of our own lines holds: each is computed from the definitions. Leans on Cases.
-- Assumes nothing.
use Prim.Native.Nat.{zero, suc}
use mathlib.Core.Path.{refl}
use mathlib.Core.List.{[], ◌∷◌}
use native.Mathlib.Omega.{arith}
use Rattle.trade.specs.Bytes.{Bytes}
use Rattle.trade.specs.Facts.{flow_in}
use Rattle.trade.specs.Why.{blocks, why, ask_answer, ask_of}
use Rattle.trade.specs.Pins.{period_of7, no_mark, no_nodes, bad_distance, own_bit, no_id, longer_plan, jump, too_tight, distances, step_two, trailer_of_three, counted, recorded, starts, advances, area_with, of_one, formed_of_one, alike, book_of3, book_of4, full_table, one_figure, kept_a, behind_a, full_kept, checks_kept, meets, blocked, disturbed, releases_at, due, adds, removes, writes, with_steps, book_of5, area_of5, told, told_of, Pins}
use Rattle.trade.proofs.Cases.{computed}

most_byte : Bytes (0xff ∷ [])
most_byte zero = omega arith
most_byte (suc i) = omega arith

pub pins_hold : Pins
unfolding computed flow_in period_of7 one_figure kept_a behind_a full_kept checks_kept no_mark no_nodes bad_distance own_bit no_id longer_plan jump too_tight distances step_two trailer_of_three counted recorded starts advances area_with of_one formed_of_one alike book_of3 book_of4 full_table meets blocked disturbed releases_at due adds removes writes with_steps blocks why ask_answer ask_of book_of5 area_of5 told told_of
pins_hold =
    record {
      byte_255 = most_byte;
      bit_17 = refl;
      fields = refl;
      rooms = refl;
      ten_bytes = refl;
      mark_first = refl;
      mark_second = refl;
      counts = refl;
      framed = refl;
      not_framed = refl;
      bit_at_n = refl;
      last_bit = refl;
      in_range = refl;
      out_of_range = refl;
      shorter_plan = refl;
      sender_at_n = refl;
      receiver_at_n = refl;
      to_itself = refl;
      sender_alone = refl;
      receiver_alone = refl;
      above_len = refl;
      unused_place = refl;
      used_place = refl;
      not_begun = refl;
      begun = refl;
      last_place = refl;
      past_the_end = refl;
      at_the_end = refl;
      last_slot = refl;
      order_1_2 = refl;
      order_2_3 = refl;
      order_3_4 = refl;
      order_4_5 = refl;
      order_5_6 = refl;
      order_6_7 = refl;
      order_7_8 = refl;
      order_8_9 = refl;
      order_9_13 = refl;
      order_13 = refl;
      order_table_3_5 = refl;
      order_table_5_6 = refl;
      order_table_6_8 = refl;
      order_8_13 = refl;
      order_8_short = refl;
      order_short_area = refl;
      order_13_10 = refl;
      order_10_slot = refl;
      order_10_12 = refl;
      order_12_11 = refl;
      order_8_14 = refl;
      order_14_15 = refl;
      order_15_6 = refl;
      order_6_8 = refl;
      order_later_id = refl;
      order_8_9_adding = refl;
      order_8_adding = refl;
      order_9_adding = refl;
      order_6_15 = refl;
      wrong_figure = refl;
      wrong_line_lem = refl;
      not_asked_for = refl;
      order_8_17 = refl;
      order_17_14 = refl;
      order_17_15 = refl;
      kept_right = refl;
      kept_larger = refl;
      kept_smaller = refl;
      kept_refused = refl;
      kept_order = refl;
      read_done = refl;
      read_refused = refl;
      write_done = refl;
      write_refused = refl;
      add_refused = refl;
      remove_refused = refl;
      start_done = refl;
      start_refused = refl;
      advance_done = refl;
      advance_refused = refl;
      added = refl;
      removed_first = refl;
      removed_last = refl;
      added_figures = refl;
      figures_again = refl;
      removed_figures = refl;
      shared_node = refl;
      either_grant = refl;
      each_way = refl;
      like_to_like = refl;
      carry_no_longer = refl;
      carry_no_shorter = refl;
      deadline_count = refl;
      deadline_no_shorter = refl;
      deadline_no_longer = refl;
      deadline_kept = refl;
      own_carry = refl;
      deadline_starting = refl;
      own_deadline = refl;
      deadline_adding = refl;
      one_instance = refl;
      two_instances = refl;
      releases = refl;
      latest = refl;
      begins = refl;
      later_slot = refl;
      four_bounds = refl;
      four_tight = refl;
      four_slot = refl;
      four_late = refl;
      told_first = refl;
      told_before = refl;
      told_released = refl;
      told_after = refl;
      told_waiting = refl;
      told_order_8 = refl;
      told_order_13 = refl;
      told_order_10 = refl;
      told_order_12 = refl;
      told_order_11 = refl;
      told_at_m = refl;
      told_far = refl;
      told_numbers = refl;
    }
