-- Any two outcomes that one promise of this crate allows are equal; of a promise that is one equation that is transitivity. Assumes nothing.
use Rattle.std.specs.Prelude.{None}
use Prim.Native.Nat.{ℕ}
use mathlib.Core.Path.{◌≡◌, refl, sym, ◌∙◌}
use mathlib.Core.Bool.{Bool}
use mathlib.Core.List.{[]}
use Rattle.tp_machine.specs.declared.TpRange.{TpRange}
use Rattle.tp_machine.specs.Machine.{State, bad_range}
use Rattle.tp_rules.specs.Malformed.{Reach}
use Rattle.tp_rules.proofs.MalformedLaws.{reach_limit}

-- a range is judged one way: there is a state that reaches just so far
pub bad_range_unique : (top accepted : ℕ) (r : TpRange) (b c : Bool)
    → ((p : State) → Reach p top → p.count ≡ accepted → b ≡ bad_range p r)
    → ((p : State) → Reach p top → p.count ≡ accepted → c ≡ bad_range p r) → b ≡ c
bad_range_unique top accepted r b c f g =
    let p : State = record { limit = top; ranges = []; end = None; count = accepted } in
    let far = reach_limit p top refl refl in
    f p far refl ∙ sym (g p far refl)
