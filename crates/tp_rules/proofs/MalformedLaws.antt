-- 38 of one range, rule by rule. Assumes nothing.
use Rattle.std.specs.Prelude.{Option, Some, None, ℕ}
use Prim.Native.Nat.{ℕ, ◌≤◌, ◌<◌}
use mathlib.Core.Path.{◌≡◌, refl, sym, ap, ◌∙◌}
use mathlib.Core.Bool.{Bool, true, false, ◌||◌, or_assoc, or-false}
use native.Mathlib.Omega.{arith}
use borrow.Author.Tests.{le-ltb, ltb-true, ltb-false, lt-ltb}
use lib.Dec.{ltb}
use Rattle.tp_machine.specs.declared.TpRange.{TpRange}
use Rattle.tp_machine.specs.Machine.{State, end_before, never_given, bad_range, end_past}
use Rattle.tp_rules.specs.Malformed.{Reach}

-- ---- how far ranges may reach, by the end
pub reach_limit : (p : State) (limit : ℕ) → p.limit ≡ limit → p.end ≡ None → Reach p limit
reach_limit p limit e q x = rw (e, q) (sym (or-false (ltb limit x)))

pub reach_end : (p : State) (limit : ℕ) (end : Option ℕ) (e : ℕ) → end_past end limit ≡ false → p.limit ≡ limit → p.end ≡ end → end ≡ Some e → Reach p e
reach_end p limit end e low l q k x =
    let h : e ≤ limit = ltb-false limit e (ap (λ (d : Option ℕ). end_past d limit) (sym k) ∙ low) in
    rw (l, q, k) (go h (ltb limit x) refl)
  where
    go : e ≤ limit → (t : Bool) → ltb limit x ≡ t → ltb e x ≡ (t || ltb e x)
    go h true z = lt-ltb e x (omega (arith, ltb-true limit x z))
    go h false z = refl

-- ---- one range's faults: the tests of limit and end are one test of how far it may reach
pub bad_tests : (p : State) (r : TpRange) (top accepted : ℕ) → Reach p top → p.count ≡ accepted → bad_range p r ≡ (ltb r.end r.start || (ltb top r.end || never_given accepted r.number))
unfolding bad_range
bad_tests p r top accepted reach counts =
    ap (λ (t : Bool). ltb r.end r.start || t)
    (sym (ap (λ (t : Bool). t || never_given accepted r.number) (reach r.end) ∙ or_assoc (ltb p.limit r.end) (end_before p.end r.end) (never_given accepted r.number) ∙ ap (λ (n : ℕ). ltb p.limit r.end || (end_before p.end r.end || never_given n r.number)) (sym counts)))

module _ (p : State) (r : TpRange) where
  pub bad_early : r.end < r.start → true ≡ bad_range p r
  unfolding bad_range
  bad_early h = rw (lt-ltb r.end r.start h)

  module _ (top accepted : ℕ) (reach : Reach p top) (counts : p.count ≡ accepted) (h : r.start ≤ r.end) where
    pub bad_late : top < r.end → true ≡ bad_range p r
    bad_late late = sym (bad_tests p r top accepted reach counts ∙ rw (le-ltb r.end r.start h, lt-ltb top r.end late))

    pub bad_number : r.end ≤ top → (b : Bool) → b ≡ never_given accepted r.number → b ≡ bad_range p r
    bad_number low b e = e ∙ sym (bad_tests p r top accepted reach counts ∙ rw (le-ltb r.end r.start h, le-ltb top r.end low))
