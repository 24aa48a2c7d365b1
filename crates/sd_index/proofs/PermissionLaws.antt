-- Whether an option may stand, by what the reading of one tells. Assumes nothing.
use Prim.Native.Nat.{ℕ, ◌+◌}
use mathlib.Core.Path.{◌≡◌, refl}
use mathlib.Core.Logic.{◌≢◌}
use mathlib.Core.Bool.{true, false}
use mathlib.Core.List.{List}
use Rattle.numbers.specs.Refusals.{unknown_option, ◌at_byte◌}
use Rattle.numbers.specs.Answers.{refused, pass, refuse◌when◌else◌, further}
use Rattle.sd_format.specs.Settings.{Settings}
use Rattle.sd_format.specs.Kinds.{Kind, configuration, load_balancing, address, unknown, kind_of}
use Rattle.sd_format.specs.Frames.{Frame, permitted, permit}
use Rattle.sd_format.specs.Fields.{discardable}
use Rattle.sd_option.specs.declared.reading.OptionHead.{OptionHead}
use Rattle.sd_option.specs.Reading.{head_of}
use Rattle.sd_option.specs.declared.kinds.OptionKind.{OptionKind}
use Rattle.sd_option.specs.declared.kinds.OptionKind.TheVariants.{Configuration, LoadBalancing, Address, Unknown}
use Rattle.sd_option.specs.Kinds.{kind_said}
use Rattle.sd_index.specs.Permission.{may, permit_told}

may_permitted : (g : Settings) (k : Kind) (body : List ℕ) → permitted g k body ≡ may g k (discardable body)
unfolding permitted
may_permitted g configuration body = refl
may_permitted g load_balancing body = refl
may_permitted g (address family role) body = refl
may_permitted g unknown body = refl

pub told_permits : (g : Settings) (f : Frame) → permit g f ≡ permit_told g (head_of f)
unfolding permit permit_told
told_permits g f = rw (may_permitted g (kind_of f.type) f.body)

-- by the type's kind, the setting and the bit
module _ (g : Settings) (at : ℕ) (h : OptionHead) where
  pub known_may : (k : OptionKind) → kind_said k ≡ kind_of h.code → k ≢ Unknown → pass ≡ further at (permit_told g h)
  unfolding permit_told refuse◌when◌else◌ further
  known_may Configuration is other = rw (← is) refl
  known_may LoadBalancing is other = rw (← is) refl
  known_may (Address f r) is other = rw (← is) refl
  known_may Unknown is other = absurd (other refl)

  module _ (is : unknown ≡ kind_of h.code) where
    pub set_may : g.discard ≡ true → pass ≡ further at (permit_told g h)
    unfolding permit_told refuse◌when◌else◌ further
    set_may on = rw (← is, on) refl

    pub bit_may : g.discard ≡ false → h.discardable ≡ true → pass ≡ further at (permit_told g h)
    unfolding permit_told refuse◌when◌else◌ further
    bit_may off on = rw (← is, off, on) refl

    pub may_not : g.discard ≡ false → h.discardable ≡ false → refused (unknown_option h.code at_byte (at + 3)) ≡ further at (permit_told g h)
    unfolding permit_told refuse◌when◌else◌ further
    may_not off none = rw (← is, off, none) refl
