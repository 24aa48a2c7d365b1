-- The rules of joining in plain words and in their order, each refusal with its number and its values. The machine follows them
-- (specs/Theorems.antt): each call is refused exactly by the first rule whose condition holds. Assumes nothing: these are definitions.
use Rattle.std.specs.Prelude.{ℕ, ◌+◌, ◌%◌, ◌≤◌, ◌<◌, ◌≡◌, Bool, true, false, List, [], ◌∷◌, ◌⊎◌, ◌≢◌, length, Option, Some}
use Rattle.numbers.specs.Refusals.{Refusal, refusal}
use Rattle.numbers.specs.Answers.{All}
use Rattle.numbers.specs.Rules.{Rules, accept, ◌if◌else◌, part◌else◌}
use Rattle.tp_machine.specs.declared.TpRange.{TpRange}
use Rattle.tp_machine.specs.Segments.{offset, more, size, end_of}
use Rattle.tp_machine.specs.Ranges.{joined}
use Rattle.tp_machine.specs.Machine.{most, State}
use Rattle.tp_machine.specs.Taking.{end_held}
use Rattle.tp_machine.specs.Meaning.{Segment, Good, Greatest, Complete, range_of}

-- a stream is begun
abbrev pub begin_rules : (limit : ℕ) → Rules
begin_rules limit =
    refusal 36 (limit ∷ []) if 65520 < limit else
    accept

-- 33: an end is known, and the new end is past it, or this is a final segment with another end
pub record Conflict (end : Option ℕ) (more : Bool) (new : ℕ) (r : Refusal) : Type 0 where
  pub previous : ℕ
  pub known : end ≡ Some previous
  pub other : (previous < new) ⊎ ((more ≡ false) × (new ≢ previous))
  pub says : refusal 33 (previous ∷ new ∷ []) ≡ r

-- 33: this is a final segment, and its end lies below the greatest end of the ranges held
pub record Behind (ranges : List TpRange) (more : Bool) (new : ℕ) (r : Refusal) : Type 0 where
  pub final : more ≡ false
  pub previous : ℕ
  pub greatest : Greatest ranges previous
  pub below : new < previous
  pub says : refusal 33 (previous ∷ new ∷ []) ≡ r

-- a segment comes, in state `p` and with a buffer of `room` bytes
abbrev pub segment_rules : (p : State) (seg : List ℕ) (room : ℕ) → Rules
segment_rules p seg room =
    refusal 38 [] if ¬ Good p else
    refusal 30 [] if ¬ Segment seg else
    refusal 31 (offset seg ∷ size seg ∷ p.limit ∷ []) if p.limit < end_of seg else
    refusal 32 (offset seg ∷ size seg ∷ []) if (more seg ≡ true) × (size seg % 16 ≢ 0) else
    part (Conflict p.end (more seg) (end_of seg)) else
    part (Behind p.ranges (more seg) (end_of seg)) else
    refusal 34 ((16 + end_of seg) ∷ []) if room < 16 + end_of seg else
    refusal 35 [] if most < length (joined (range_of (p.count + 1) seg) p.ranges) else
    refusal 39 [] if 4294967295 ≤ p.count else
    accept

-- the report is taken
abbrev pub taking_rules : (p : State) (room : ℕ) → Rules
taking_rules p room =
    refusal 38 [] if ¬ Good p else
    refusal 37 [] if ¬ Complete p else
    refusal 34 ((16 + end_held p.ranges) ∷ []) if room < 16 + end_held p.ranges else
    accept

-- a range is asked for: the first that begins at `x` or behind it
abbrev pub range_rules : (p : State) (x : ℕ) → Rules
range_rules p x =
    refusal 38 [] if ¬ Good p else
    refusal 20 [] if All (λ r. r.start < x) p.ranges else
    accept

-- it is asked how many segments were accepted
abbrev pub count_rules : (p : State) → Rules
count_rules p =
    refusal 38 [] if ¬ Good p else
    accept
