-- All that is shown of the machine, each from the file that proves it. Assumes nothing.
use Rattle.tp_machine.specs.Theorems.{Theorems}
use Rattle.tp_machine.proofs.Tests.{segment_means, good_means, accepted_means, complete_means}
use Rattle.tp_machine.proofs.Telling.{range_means, count_means, every_range}
use Rattle.tp_machine.proofs.RuleLaws.{rules_followed}
use Rattle.tp_machine.proofs.Writing.{header_means}
use Rattle.tp_machine.proofs.Steps.{every_step, every_taking, empties, bytes_unseen, ranges_depend, never_malformed}
use Rattle.tp_machine.proofs.Lists.{latest_one}
use Rattle.tp_machine.proofs.InOrder.{kept_in_order}
use Rattle.tp_machine.proofs.Numbers.{every_number}
use Rattle.tp_machine.proofs.Joining.{joining_covers, joining_order_unseen}
use Rattle.tp_machine.proofs.Greatest.{greatest_means}
use Rattle.tp_machine.proofs.Runs.{every_run}
use Rattle.tp_machine.proofs.Report.{every_report}
use Rattle.tp_machine.proofs.Ends.{end_is_greatest, complete_ends, every_end}
use Rattle.tp_machine.proofs.Unseen.{set_is_order, order_unseen, runs_alike}
use Rattle.tp_machine.proofs.Unnumbered.{numbers_unseen, runs_hide_numbers}
use Rattle.tp_machine.proofs.Order.{order}
use Rattle.tp_machine.proofs.AnyOrder.{order_does_not_matter, rearranged_means, complete_exactly, some_follow, rest_is_enough}
use Rattle.tp_machine.proofs.AnyOrderCases.{any_order_cases}
use Rattle.tp_machine.proofs.Cases.{cases}
use Rattle.tp_machine.proofs.Bounds.{bounds}

pub theorems : Theorems
theorems = record {
  segment_means = segment_means;
  header_means = header_means;
  good_means = good_means;
  accepted_means = accepted_means;
  greatest_means = greatest_means;
  complete_means = complete_means;
  range_means = range_means;
  count_means = count_means;
  rules_followed = rules_followed;
  order = order;
  empties = empties;
  every_step = every_step;
  every_taking = every_taking;
  bytes_unseen = bytes_unseen;
  joining_covers = joining_covers;
  joining_order_unseen = joining_order_unseen;
  ranges_depend = ranges_depend;
  every_range = every_range;
  never_malformed = never_malformed;
  end_is_greatest = end_is_greatest;
  complete_ends = complete_ends;
  kept_in_order = kept_in_order;
  every_number = every_number;
  latest_is_one = latest_one;
  every_run = every_run;
  every_report = every_report;
  every_end = every_end;
  set_is_order = set_is_order;
  order_unseen = order_unseen;
  runs_alike = runs_alike;
  numbers_unseen = numbers_unseen;
  runs_hide_numbers = runs_hide_numbers;
  order_does_not_matter = order_does_not_matter;
  rearranged_means = rearranged_means;
  complete_exactly = complete_exactly;
  some_follow = some_follow;
  rest_is_enough = rest_is_enough;
  any_order_cases = any_order_cases;
  cases = cases;
  bounds = bounds;
}
