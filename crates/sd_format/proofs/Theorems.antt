-- All that is shown of service discovery, each from the file that proves it. Assumes nothing.
use Rattle.sd_format.specs.Theorems.{Theorems}
use Rattle.sd_format.proofs.StringLaws.{strings_exact}
use Rattle.sd_format.proofs.Demand3.{demand3, cursors}
use Rattle.sd_format.proofs.CallLaws.{lent_exactly, index_exact, message_exact, tables_left}
use Rattle.sd_format.proofs.RuleLaws.{rules_followed}
use Rattle.sd_format.proofs.Order.{order}
use Rattle.sd_format.proofs.FaultLaws.{place_is_the_place}
use Rattle.sd_format.proofs.PlacesTold.{places_told}
use Rattle.sd_format.proofs.StrictLaws.{as_before, only_refuses_more}
use Rattle.sd_format.proofs.Protocols.{protocols}
use Rattle.sd_format.proofs.Cases.{cases}
use Rattle.sd_format.proofs.Places.{places}
use Rattle.sd_format.proofs.Bounds.{bounds}

pub theorems : Theorems
theorems = record {
  demand3 = demand3;
  cursors_agree = cursors;
  message_exact = message_exact;
  index_exact = index_exact;
  strings_exact = strings_exact;
  lent_exactly = lent_exactly;
  rules_followed = rules_followed;
  order = order;
  place_is_the_place = place_is_the_place;
  places_told = places_told;
  strict_off = as_before;
  strict_on = only_refuses_more;
  protocols = protocols;
  tables_left = tables_left;
  cases = cases;
  places = places;
  bounds = bounds;
}
