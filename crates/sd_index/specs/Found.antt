-- What lookup answers, in the words of the definitions. Assumes nothing: these are definitions.
use Rattle.refusal.specs.declared.Refusal.{Refusal}
use Rattle.std.specs.Prelude.{ℕ, ◌+◌, ◌-◌, ◌≡◌, List, take, drop, get_or, Result}
use Rattle.numbers.specs.Answers.{Answer, accepted, Verdict, given}
use Rattle.sd_format.specs.Kinds.{Kind}
use Rattle.sd_format.specs.Frames.{Frame, one_option, look_up}
use Rattle.refusal.specs.Said.{said_by}
use Rattle.sd_option.specs.Reading.{head_of}
use Rattle.sd_index.specs.declared.lookup.Found.{Found}

-- what is told of the option that starts at `at`
abbrev pub located : ℕ → Frame → Found
located at f = record { offset = record { 0 = at }; head = head_of f }

abbrev pub found_said : Result Found Refusal → Answer Found
found_said = said_by (λ f. f)

-- what is told where a table gave this for the option of number `k`: it starts where its slot says
abbrev pub by_table : List ℕ → ℕ → Answer Frame → Answer Found
by_table tab k = given (located (get_or tab k 0))

abbrev pub look_up_told : (s tab : List ℕ) (count k : ℕ) → Answer Found
look_up_told s tab count k = by_table tab k (look_up s tab count k)

-- ---- what is told pins the option

-- The option `f` as it was read at place `at` of `s`, by its type and its bytes. Where it starts and how many bytes it takes give both.
pub record Pinned (content : Kind → List ℕ → Verdict) (s : List ℕ) (at size : ℕ) (f : Frame) : Type 0 where
  pub reads : one_option content (drop at s) ≡ accepted f
  pub type : f.type ≡ get_or s (at + 2) 0
  pub body : f.body ≡ take (size - 3) (drop (at + 3) s)
