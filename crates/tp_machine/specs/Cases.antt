-- The rules' marked case (*) of joining, as a table. Assumes nothing: these are definitions.
use Rattle.std.specs.Prelude.{ℕ, ◌+◌, ◌≡◌, Bool, true, false, cond, List, [], ◌∷◌, ◌++◌, replicate}
use Rattle.numbers.specs.Bytes.{be32, at32}
use Rattle.numbers.specs.Answers.{Verdict, pass, All}
use Rattle.tp_machine.specs.Machine.{Out, opened, fed}
use Rattle.tp_machine.specs.Taking.{complete, taking}

infix 90 ◌more_at◌ ◌final_at◌
-- a segment with n bytes of payload at `offset`: message id, length, request id, versions, type, return code, TP word, payload
abbrev pub segment : (n : ℕ) (more : Bool) (offset : ℕ) → List ℕ
segment n more offset =
    (0x12 ∷ 0x34 ∷ 0x80 ∷ 0x01 ∷ []) ++ (be32 (12 + n) ++ ((0 ∷ 0 ∷ 0 ∷ 1 ∷ 1 ∷ 1 ∷ 0x22 ∷ 0 ∷ []) ++ (be32 (offset + cond more 1 0) ++ replicate n 7)))

abbrev pub ◌more_at◌ : ℕ → ℕ → List ℕ
◌more_at◌ n offset = segment n true offset

abbrev pub ◌final_at◌ : ℕ → ℕ → List ℕ
◌final_at◌ n offset = segment n false offset

-- what is seen after a case's segments: the last answer, whether the stream is complete, and the report's length field (0 if none is given)
pub record Seen : Type 0 where
  pub answer : Verdict
  pub complete : Bool
  pub length_field : ℕ

-- the payload limit, the segments that come, and what is to be seen
pub record Case : Type 0 where
  pub limit : ℕ
  pub segments : List (List ℕ)
  pub shows : Seen

abbrev pub case : ℕ → List (List ℕ) → Verdict → Bool → ℕ → Case
case limit segments a c n = record { limit = limit; segments = segments; shows = record { answer = a; complete = c; length_field = n } }

-- a fresh stream over a buffer of zeros, after the case's segments
abbrev pub run : Case → Out
run c = fed (opened c.limit (replicate (16 + c.limit) 0)) c.segments

abbrev pub seen : Out → Seen
seen o = record { answer = o.answer; complete = complete o.state; length_field = at32 (taking o.state o.buffer).part 4 }

abbrev pub Hold : List Case → Type 0
Hold = All (λ c. seen (run c) ≡ c.shows)

-- 16 more at 0, 16 final at 16: complete, length field 40
abbrev pub table : List Case
table = case 64 (16 more_at 0 ∷ 16 final_at 16 ∷ []) pass true 40 ∷ []

abbrev pub Cases : Type 0
Cases = Hold table
