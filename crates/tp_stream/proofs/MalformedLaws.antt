-- 38 of a stream's record, rule by rule. Assumes nothing.
use Rattle.std.specs.List.{list_any}
use Prim.Native.Nat.{◌≤◌, ◌<◌}
use mathlib.Core.Path.{◌≡◌, refl, ap}
use mathlib.Core.Bool.{Bool, true, false, ◌||◌}
use mathlib.Core.List.{List, [], ◌∷◌}
use native.Mathlib.Omega.{arith}
use borrow.Author.Tests.{lt-ltb, le-ltb}
use Rattle.tp_machine.specs.Ranges.{any, some_touch}
use Rattle.tp_machine.specs.Machine.{most, highest, bad_range, end_past, bad_state}
use Rattle.tp_machine.proofs.Tests.{good_means}
use Rattle.tp_stream.specs.declared.TpStream.{TpStream}
use Rattle.tp_stream.specs.Stream.{view}
use Rattle.tp_stream.proofs.StreamLaws.{held_length}

pub any_listed : {A : Type 0} (f : A → Bool) (xs : List A) → list_any f xs ≡ any f xs
unfolding any
any_listed f [] = refl
any_listed f (x ∷ xs) = ap (λ (b : Bool). f x || b) (any_listed f xs)

-- ---- a stream's faults, by the tests in their order
module _ (s : TpStream) where
  pub more_than_most : most < s.count → true ≡ bad_state (view s)
  unfolding bad_state
  more_than_most h = rw (held_length, lt-ltb most s.count h)

  module _ (few : s.count ≤ most) where
    pub too_high : highest < s.limit → true ≡ bad_state (view s)
    unfolding bad_state
    too_high h = rw (held_length, le-ltb most s.count few, lt-ltb highest s.limit h)

    module _ (low : s.limit ≤ highest) where
      pub too_late : end_past s.end s.limit ≡ true → true ≡ bad_state (view s)
      unfolding bad_state
      too_late e = rw (held_length, le-ltb most s.count few, le-ltb highest s.limit low, e)

      module _ (ends : end_past s.end s.limit ≡ false) where
        pub one_bad : any (bad_range (view s)) (view s).ranges ≡ true → true ≡ bad_state (view s)
        unfolding bad_state
        one_bad e = rw (held_length, le-ltb most s.count few, le-ltb highest s.limit low, ends, e)

        pub two_touch : any (bad_range (view s)) (view s).ranges ≡ false → some_touch (view s).ranges ≡ bad_state (view s)
        unfolding bad_state
        two_touch e = rw (held_length, le-ltb most s.count few, le-ltb highest s.limit low, ends, e)

-- where it is not malformed, no more ranges are counted than may be held
pub few_counted : (s : TpStream) → bad_state (view s) ≡ false → s.count ≤ most
few_counted s m = omega (arith, ((good_means (view s)).0 m).few, held_length s.count s.ranges)
