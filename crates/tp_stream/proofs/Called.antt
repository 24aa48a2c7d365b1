-- What a caller of clear and complete learns by their contracts is what the machine does: no call above tp_stream says so. And what callers of the
-- others learn is what is asked of calls one after the other (specs/AnyOrder.antt). Assumes nothing.
use mathlib.Core.Path.{◌≡◌}
use lib.ListN.{length}
use Rattle.tp_machine.specs.Machine.{clear}
use Rattle.tp_machine.specs.Taking.{complete, ready, report}
use Rattle.tp_stream.specs.Stream.{view, stored}
use Rattle.tp_stream.specs.Promises.{Began, Ran, Took}
use Rattle.tp_stream.proofs.Follows.{clears}
use Rattle.tp_stream.proofs.begin.Reads as begin_of
use Rattle.tp_stream.proofs.clear.Reads as clear_of
use Rattle.tp_stream.proofs.complete.Reads as complete_of
use Rattle.tp_stream.proofs.consume.Reads as consume_of
use Rattle.tp_stream.proofs.report.Reads as report_of
use Rattle.tp_stream.proofs.take.Reads as take_of

pub cleared : (κs : _) (a : _) (r : _) (e : _) → clear_of.Learnt κs a r e → view r ≡ clear (view a.0)
cleared κs a r e learnt = clears a.0 r learnt

pub completes : (κs : _) (a : _) (r : _) (e : _) → complete_of.Learnt κs a r e → r ≡ complete (view a.0)
completes κs a r e learnt = learnt

-- ---- calls one after the other

pub begun : (κs : _) (a : _) (r : _) (e : _) → begin_of.Learnt κs a r e → Began a.0 r
begun κs a r e learnt = learnt

pub clears_so : (κs : _) (a : _) (r : _) (e : _) → clear_of.Learnt κs a r e → r ≡ stored a.0 (clear (view a.0))
clears_so κs a r e learnt = learnt

pub consumes : (κs : _) (a : _) (r : _) (e : _) → consume_of.Learnt κs a r e → Ran a.0 a.1.0.now a.1.1.0.now r e.1.1.0.now
consumes κs a r e learnt = learnt

pub takes : (κs : _) (a : _) (r : _) (e : _) → take_of.Learnt κs a r e → Took a.0 a.1.0.now r e.1.0.now
takes κs a r e learnt = learnt

pub reports : (κs : _) (a : _) (r : _) (e : _) → report_of.Learnt κs a r e → r.now ≡ report (ready (view a.0) (length a.1.0.now)) a.1.0.now
reports κs a r e learnt = learnt
