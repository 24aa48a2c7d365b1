-- The order of refusals, by computation: for each two that stand next to each other in a chain the smallest input that breaks both rules, and the
-- answer that is due, by its number and values. Assumes nothing: these are definitions.
use Rattle.std.specs.Prelude.{ℕ, List, [], ◌∷◌, ◌++◌, replicate, Some, None}
use Rattle.numbers.specs.Answers.{◌gives◌with◌}
use Rattle.tp_machine.specs.Machine.{fresh, step, begun}
use Rattle.tp_machine.specs.Taking.{taking}
use Rattle.tp_machine.specs.Telling.{range_told, count_told}
use Rattle.tp_machine.specs.Meaning.{range}
use Rattle.tp_machine.specs.Cases.{◌more_at◌, ◌final_at◌}
use Rattle.tp_machine.specs.Bounds.{spread, holding_these, full_and_counted_out}

-- bytes that are no segment, since the length field is 0, but have an offset of 16
abbrev pub no_segment : List ℕ
no_segment = replicate 19 0 ++ (16 ∷ [])

-- a segment comes: 38, 30, 31, 32, 33, 34, 35, 39
pub record SegmentInOrder : Type 0 where
  pub 38_before_30 : (step (fresh 65521) [] []).answer gives 38 with []
  pub 30_before_31 : (step (fresh 0) no_segment []).answer gives 30 with []
  pub 31_before_32 : (step (fresh 0) (1 more_at 0) []).answer gives 31 with (0 ∷ 1 ∷ 0 ∷ [])
  pub 32_before_33 : (step (holding_these 1 [] (Some 0)) (1 more_at 0) []).answer gives 32 with (0 ∷ 1 ∷ [])
  pub 33_before_34 : (step (holding_these 1 [] (Some 0)) (1 final_at 0) []).answer gives 33 with (0 ∷ 1 ∷ [])
  -- 33 by the end that is known, before 33 by the data held: 2 is known, and 0 to 1 is held
  pub 33_before_33 : (step (holding_these 2 (range 0 1 1 ∷ []) (Some 2)) (0 final_at 0) []).answer gives 33 with (2 ∷ 0 ∷ [])
  pub 33_of_data_before_34 : (step (holding_these 1 (range 0 1 1 ∷ []) None) (0 final_at 0) []).answer gives 33 with (1 ∷ 0 ∷ [])
  -- 64 ranges are held, and none of them touches the new one
  pub 34_before_35 : (step (holding_these 64 (spread 64) None) (0 final_at 64) []).answer gives 34 with (80 ∷ [])
  pub 35_before_39 : (step full_and_counted_out (0 final_at 64) (replicate 80 0)).answer gives 35 with []
  -- this one joins some of them
  pub 39_last : (step full_and_counted_out (16 more_at 48) (replicate 80 0)).answer gives 39 with []

-- the report is taken: 38, 37, 34
pub record TakingInOrder : Type 0 where
  pub 38_before_37 : (taking (fresh 65521) []).answer gives 38 with []
  pub 37_before_34 : (taking (fresh 0) []).answer gives 37 with []
  pub 34_last : (taking (holding_these 0 (range 0 0 1 ∷ []) (Some 0)) []).answer gives 34 with (16 ∷ [])

-- a range is asked for: 38, 20
pub record RangeInOrder : Type 0 where
  pub 38_before_20 : range_told (fresh 65521) 0 gives 38 with []
  pub 20_last : range_told (fresh 0) 0 gives 20 with []

-- ---- all of them
pub record Order : Type 0 where
  pub segment : SegmentInOrder
  pub taken : TakingInOrder
  pub range : RangeInOrder
  -- a stream is begun: 36 alone
  pub begins : begun 65521 gives 36 with (65521 ∷ [])
  -- it is asked how many were accepted: 38 alone
  pub count : count_told (fresh 65521) gives 38 with []
