-- A segment's header by the names that the code has for its fields. Assumes nothing.
use Prim.Native.Nat.{ℕ, zero, suc, ◌%◌, ◌<◌}
use mathlib.Core.Path.{◌≡◌, refl}
use mathlib.Core.Bool.{cond}
use mathlib.Core.List.{List}
use native.Mathlib.Omega.{arith}
use lib.Dec.{eqb}
use lib.ListN.{length-drop}
use Rattle.numbers.specs.Bytes.{at32}
use Rattle.tp_machine.specs.Segments.{offset, more, payload}
use Rattle.tp_segment.specs.ByName.{ByName}

-- a bit as a number
bit_is : (x : ℕ) → x < 2 → cond (eqb x 1) 1 0 ≡ x
bit_is zero h = refl
bit_is (suc zero) h = refl
bit_is (suc (suc x)) h = absurd (omega arith)

pub by_name : (s : List ℕ) → ByName s
unfolding offset more payload
by_name s =
    let low : at32 s 16 % 2 ≡ at32 s 16 % 16 % 2 = omega arith in
    record {
      word = rw (bit_is (at32 s 16 % 2) (omega arith)) (omega arith);
      aligned = omega arith;
      payload = λ h. rw length-drop (omega arith);
    }
