-- Answers as numbers: the rules' number, 0 for accepted, and the values that it gives, in their order. Assumes nothing: these are definitions.
use Rattle.std.specs.Prelude.{ℕ, ◌+◌, List, [], ◌∷◌, length}
use Rattle.numbers.specs.Refusals.{Refusal, gives}
use Rattle.numbers.specs.Answers as paper
use Rattle.sd_format.specs.Frames.{Frame}
use Rattle.sd_format.specs.Frames as Frames
use Rattle.sd_option.specs.declared.reading.OptionHead.{OptionHead}
use Rattle.sd_index.specs.declared.lookup.Found.{Found}
use Rattle.tp_machine.specs.declared.TpRange.{TpRange}
use Rattle.refusal.specs.declared.values.Numbers.{Numbers}
use Rattle.refusal.specs.Said.{places, padded}
use Rattle.hub.specs.declared.answers.Answer.{Answer}

-- a number and its values; places that it does not use hold 0
abbrev pub row : ℕ → List ℕ → Answer
row number vs = record { number = number; values = padded places vs }

-- numbers as data, without how many of the values count
abbrev pub without_count : Numbers → Answer
without_count n = record { number = n.number; values = n.values }

abbrev pub refusal_row : Refusal → Answer
refusal_row r = row r.number (gives r)

-- what was accepted as 0 with these values, or the refusal
abbrev pub told : {A : Type 0} → (A → List ℕ) → paper.Answer A → Answer
told values (paper.accepted a) = row 0 (values a)
told values (paper.refused r) = refusal_row r

-- ---- the values of what was accepted

abbrev pub no_values : {A : Type 0} → A → List ℕ
no_values a = []

abbrev pub one_value : ℕ → List ℕ
one_value n = n ∷ []

-- an option that starts at `at`: its type, where it starts, and how many bytes it takes
abbrev pub head_values : (at : ℕ) → OptionHead → List ℕ
head_values at h = h.code ∷ at ∷ h.size ∷ []

abbrev pub located_values : Found → List ℕ
located_values l = head_values l.offset.0 l.head

-- the same of an option as it stands in the part
abbrev pub option_values : (at : ℕ) → Frame → List ℕ
option_values at f = f.type ∷ at ∷ Frames.size f ∷ []

-- an item whose length byte stands at `at`: where its bytes start, and how many they are
abbrev pub item_values : (at : ℕ) → List ℕ → List ℕ
item_values at item = (at + 1) ∷ length item ∷ []

-- the report is as long as the message's header and its payload, which ends there
abbrev pub report_values : ℕ → List ℕ
report_values end = (16 + end) ∷ []

-- a range: where it begins and ends, and the number of the latest accepted segment in it
abbrev pub range_values : TpRange → List ℕ
range_values r = r.start ∷ r.end ∷ r.number ∷ []
