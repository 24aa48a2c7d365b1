-- `tp_stream::malformed::malformed` meets its contract: each test that fails leaves the rest of the rule. Assumes nothing.
use mathlib.Core.Path.{◌≡◌, refl, sym, ap, ◌∙◌}
use Rattle.tp_machine.specs.Ranges.{any, some_touch}
use Rattle.tp_machine.specs.Machine.{bad_range}
use Rattle.tp_stream.specs.Stream.{view}
use Rattle.tp_stream.proofs.MalformedLaws.{more_than_most, too_high, too_late, one_bad, two_touch}
use Rattle.tp_stream.proofs.malformed.malformed.Goals as goal
use Rattle.tp_stream.proofs.malformed.malformed.Goals.{then-s-gt-MAX_RANGES-via-then-s-gt-MAX_RANGES, then-s-gt-MAX_RANGES-via-else-s-gt-MAX_RANGES+then-s-gt-MAX_LIMIT, then-s-gt-MAX_RANGES-via-else-s-gt-MAX_RANGES+else-s-gt-MAX_LIMIT+then-end_past}

pub returns-then-s-gt-MAX_RANGES : goal.returns-then-s-gt-MAX_RANGES
returns-then-s-gt-MAX_RANGES c =
    elim c.then-s-gt-MAX_RANGES.branch [
      | then-s-gt-MAX_RANGES-via-then-s-gt-MAX_RANGES w ↦ more_than_most _ w.if-s-gt-MAX_RANGES.true
      | then-s-gt-MAX_RANGES-via-else-s-gt-MAX_RANGES+then-s-gt-MAX_LIMIT w ↦ too_high _ w.if-s-gt-MAX_RANGES.false w.if-s-gt-MAX_LIMIT.true
      | then-s-gt-MAX_RANGES-via-else-s-gt-MAX_RANGES+else-s-gt-MAX_LIMIT+then-end_past w ↦ too_late _ w.if-s-gt-MAX_RANGES.false w.if-s-gt-MAX_LIMIT.false (sym w.end_past.ensures ∙ w.if-end_past.true)
    ]

pub returns-then-any_bad : goal.returns-then-any_bad
returns-then-any_bad c =
    let s = c.args.s.now in
    let one : c.any_bad.result ≡ any (bad_range (view s)) (view s).ranges =
    c.any_bad.ensures (view s) (c.reach-top.ensures (view s) refl refl) refl ∙ ap (any (bad_range (view s))) (c.held-held.ensures c.if-s-gt-MAX_RANGES.false) in
    c.if-any_bad.true
    ∙ one_bad s c.if-s-gt-MAX_RANGES.false c.if-s-gt-MAX_LIMIT.false (sym c.end_past.ensures ∙ c.if-end_past.false) (sym one ∙ c.if-any_bad.true)

pub returns-else-any_bad : goal.returns-else-any_bad
returns-else-any_bad c =
    let s = c.args.s.now in
    let one : c.any_bad.result ≡ any (bad_range (view s)) (view s).ranges =
    c.any_bad.ensures (view s) (c.reach-top.ensures (view s) refl refl) refl ∙ ap (any (bad_range (view s))) (c.held-held.ensures c.if-s-gt-MAX_RANGES.false) in
    c.some_touch.ensures
    ∙ ap some_touch (c.held-held.ensures c.if-s-gt-MAX_RANGES.false)
    ∙ two_touch s c.if-s-gt-MAX_RANGES.false c.if-s-gt-MAX_LIMIT.false (sym c.end_past.ensures ∙ c.if-end_past.false) (sym one ∙ c.if-any_bad.false)
