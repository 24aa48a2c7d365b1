-- What is shown of a stream's record. Assumes nothing.
use mathlib.Core.Path.{◌≡◌, refl, sym, ap, ◌∙◌}
use lib.ListN.{length, drop}
use lib.Seq.{drop_at}
use Rattle.tp_machine.specs.Machine.{fresh}
use Rattle.tp_range.proofs.Laws.{placed_over}
use Rattle.tp_stream.specs.Stream.{held, view, blank}
use Rattle.tp_stream.specs.Record.{RecordHolds}
use Rattle.tp_stream.proofs.StreamLaws.{held_take, stored_view, view_stored}
use Rattle.tp_stream.proofs.MalformedLaws.{more_than_most}

unused : view blank ≡ fresh 0
unfolding held blank
unused = refl

pub record_holds : RecordHolds
record_holds =
    record {
      by_name = λ limit n array end accepted few. λ i. record { limit = limit; ranges = held_take n array few i; end = end; count = accepted };
      too_many = λ s h. sym (more_than_most s h);
      put_found = view_stored;
      places_kept = λ s p few. ap (drop (length p.ranges)) (placed_over s.ranges p.ranges few) ∙ drop_at p.ranges (drop (length p.ranges) s.ranges) (length p.ranges) refl;
      nothing_moves = stored_view;
      unused = unused;
    }
