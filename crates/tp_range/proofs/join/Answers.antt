-- `tp_range::join` meets its contract. Assumes nothing.
use Prim.Native.Nat.{ℕ, ◌+◌, ◌≤◌, ◌<◌}
use mathlib.Core.Path.{◌≡◌, refl, sym, ap, subst, ◌∙◌}
use mathlib.Core.Bool.{true, false}
use mathlib.Core.List.{List, ◌∷◌, [], ◌++◌}
use borrow.Author.Rules.{rules}
use native.Mathlib.Omega.{arith}
use lib.ListN.{length, take, get_or, set, length-append, length-set, length-take}
use lib.Seq.{take_all}
use Rattle.std.specs.Prelude.{Some, None}
use Rattle.std.proofs.lemmas.Grind.{common_steps}
use Rattle.tp_machine.specs.declared.TpRange.{TpRange}
use Rattle.tp_machine.specs.Machine.{most}
use Rattle.tp_machine.specs.Ranges.{touch, hull_of, keep, grow, inserted}
use Rattle.tp_range.specs.Joining.{none, placed, joined_in}
use Rattle.tp_range.proofs.Laws.{over, over_snoc, keep_touched, keep_apart, grow_touched, grow_apart, joined_room, joined_full}
use Rattle.tp_range.proofs.join.Invariants.{Held}
use Rattle.tp_range.proofs.join.Goals as goal
use Rattle.tp_range.proofs.join.Goals.{then-touches, else-touches}

module _ (new : TpRange) (array rs out : List TpRange) (kept i : ℕ) (grown : TpRange) (within : length rs ≤ length array) (H : Held new array (take i rs) out kept grown) where
  -- one range more
  module _ (h : i < length rs) where
    touched : touch new (get_or rs i none) ≡ true → Held new array (take (i + 1) rs) out kept (hull_of grown (get_or rs i none))
    touched e =
        let k : keep new (take (i + 1) rs) ≡ keep new (take i rs) = keep_touched _ _ _ none h e in
        record {
          long = H.long;
          few = grind (arith, common_steps);
          counts = H.counts ∙ sym (ap length k);
          lays = H.lays ∙ sym (ap (λ (l : List TpRange). over l array) k);
          grows = ap (λ (g : TpRange). hull_of g (get_or rs i none)) H.grows ∙ sym (grow_touched _ _ _ none h _ e);
        }

    apart : touch new (get_or rs i none) ≡ false → Held new array (take (i + 1) rs) (set out kept (get_or rs i none)) (kept + 1) grown
    apart e =
        let k : keep new (take (i + 1) rs) ≡ keep new (take i rs) ++ (get_or rs i none ∷ []) = keep_apart _ _ _ none h e in
        record {
          long = simp length-set H.long;
          few = grind (arith, common_steps);
          counts = ap (λ (n : ℕ). n + 1) H.counts ∙ sym (ap length k ∙ length-append (keep new (take i rs)) (get_or rs i none ∷ []));
          lays = (λ j. set (H.lays j) (H.counts j) (get_or rs i none)) ∙ over_snoc (keep new (take i rs)) array (get_or rs i none) (omega (arith, H.few, H.counts, length-take {A = TpRange})) ∙ sym (ap (λ (l : List TpRange). over l array) k);
          grows = H.grows ∙ sym (grow_apart _ _ _ none h _ e);
        }

  -- after the loop all that are held were looked at: the grown range has a place, or has none
  module _ (count : ℕ) (ends : length rs ≤ i) (is : rs ≡ take count array) (long : length array ≡ most) where
    all : Held new array (take count array) out kept grown
    all = subst (λ (l : List TpRange). Held new array l out kept grown) (take_all i rs ends ∙ is) H

    with_place : kept < most → Some (record { ranges = placed out (inserted grown (take kept out)); count = kept + 1 }) ≡ joined_in array count new
    with_place h =
        (λ j. Some (record { ranges = placed (all.lays j) (inserted (all.grows j) (take (all.counts j) (all.lays j))); count = all.counts j + 1 }))
        ∙ joined_room array count long new (omega (arith, all.counts))

    without : most ≤ kept → None ≡ joined_in array count new
    without h = joined_full array count long new (omega (arith, all.counts))

pub loop-r-init : goal.loop-r-init
unfolding keep grow
loop-r-init c = record { long = search rules; few = omega arith; counts = refl; lays = refl; grows = refl }

pub loop-r-preserved : goal.loop-r-preserved
loop-r-preserved c =
    let h : c.loop-r.r-index < length c.held-r-items.result.now = omega arith in
    elim c.if-touches.branch [
      | then-touches w ↦ rw (w.out-is, w.kept-is, w.grown-is, w.hull-grown.ensures) (touched _ _ _ _ _ _ _ (grind (arith, common_steps)) c.loop-r.invariant h (sym c.touches.ensures ∙ w.if-touches.true))
      | else-touches w ↦ rw (w.out-is, w.kept-is, w.grown-is) (apart _ _ _ _ _ _ _ (grind (arith, common_steps)) c.loop-r.invariant h (sym c.touches.ensures ∙ w.if-touches.false))
    ]

pub returns-then-kept-lt-MAX_RANGES : goal.returns-then-kept-lt-MAX_RANGES
returns-then-kept-lt-MAX_RANGES c =
    ap (λ (l : List TpRange). Some (record { ranges = l; count = c.loop-r.kept + 1 })) c.insert.ensures
    ∙ with_place _ c.args.ranges _ _ _ _ _ (grind (arith, common_steps)) c.loop-r.invariant c.args.count c.loop-r-test.false c.held-r-items.ensures (search rules) (omega arith)

pub returns : goal.returns
returns c = without _ c.args.ranges _ _ _ _ _ (grind (arith, common_steps)) c.loop-r.invariant c.args.count c.loop-r-test.false c.held-r-items.ensures (search rules) (omega arith)
