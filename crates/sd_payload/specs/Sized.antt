-- The sizes of a payload, as the code answers them. Assumes nothing: these are definitions.
use Rattle.std.specs.Prelude.{ℕ, ◌+◌, not, List, length, ltb, eqb}
use Rattle.numbers.specs.Refusals.{unexpected_end, payload_too_large, length_mismatch}
use Rattle.numbers.specs.Answers.{Answer, accepted, Verdict, pass, ◌>>◌, refuse◌when◌else◌}
use Rattle.sd_format.specs.Payload.{sizes, entries_length, options_length}

-- the length of the entries part, once the sizes pass
unfoldable pub sized : List ℕ → Answer ℕ
sized s = sizes (length s) (entries_length s) (options_length s) >> accepted (entries_length s)

-- the last three tests of the sizes: 5, 1, 6
unfoldable pub whole : (n entries options : ℕ) → Verdict
whole n entries options =
    refuse payload_too_large (12 + entries + options) when ltb 1400 (12 + entries + options) else
    refuse unexpected_end (12 + entries + options) when ltb n (12 + entries + options) else
    refuse length_mismatch (12 + entries + options) n when not (eqb n (12 + entries + options)) else
    pass
