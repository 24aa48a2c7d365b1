-- Whether a stream is complete, and taking its report. Assumes nothing: these are definitions.
use Rattle.std.specs.Prelude.{ℕ, ◌+◌, Bool, true, false, ◌&&◌, not, List, [], ◌∷◌, length, take, ltb, eqb, Option, Some, None}
use Rattle.numbers.specs.Bytes.{be32}
use Rattle.numbers.specs.Refusals.{buffer_too_short, not_complete, malformed_state}
use Rattle.numbers.specs.Answers.{Answer, accepted, refused, refuse◌when◌else◌, given, part}
use Rattle.tp_machine.specs.declared.TpRange.{TpRange}
use Rattle.tp_machine.specs.Segments.{pasted}
use Rattle.tp_machine.specs.Machine.{State, bad_state}

abbrev pub is_known : Option ℕ → Bool
is_known None = false
is_known (Some e) = true

-- exactly one range, beginning at 0
abbrev pub whole : List TpRange → Bool
whole [] = false
whole (r ∷ []) = eqb r.start 0
whole (r ∷ x ∷ rs) = false

unfoldable pub complete : State → Bool
complete p = not (bad_state p) && (is_known p.end && whole p.ranges)

-- the end of the one range
abbrev pub end_held : List TpRange → ℕ
end_held [] = 0
end_held (r ∷ rs) = r.end

-- 38, 37, 34 for a buffer of `room` bytes, or the range's end
unfoldable pub ready : State → ℕ → Answer ℕ
ready p room =
    refuse malformed_state when bad_state p else
    refuse not_complete when not (complete p) else
    refuse buffer_too_short (16 + end_held p.ranges) when ltb room (16 + end_held p.ranges) else
    accepted (end_held p.ranges)

-- the buffer after taking: bytes 4 to 7 become the range's end plus 8
abbrev pub finished : Answer ℕ → List ℕ → List ℕ
finished (accepted e) buf = pasted buf 4 (be32 (e + 8))
finished (refused r) buf = buf

-- the report, a part of the buffer; a refusal hands back an empty one
abbrev pub report : Answer ℕ → List ℕ → List ℕ
report a buf = part (given (λ e. take (16 + e) buf) a)

-- what taking leaves; the state stays
pub record Taken : Type 0 where
  pub answer : Answer ℕ
  pub buffer : List ℕ
  pub part : List ℕ

unfoldable pub taking : State → List ℕ → Taken
taking p buf = record {
  answer = ready p (length buf);
  buffer = finished (ready p (length buf)) buf;
  part = report (ready p (length buf)) (finished (ready p (length buf)) buf);
}
