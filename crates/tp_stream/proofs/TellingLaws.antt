-- Laws of what a stream tells of itself: the range that is found, and the answers. Assumes nothing.
use Rattle.std.specs.Prelude.{Option, Some, None, fold}
use Rattle.std.specs.Option.{ok_or}
use Rattle.std.proofs.lemmas.List.{reverse-append}
use Rattle.std.proofs.lemmas.List.Sums.{fold-append}
use Prim.Native.Nat.{ℕ}
use mathlib.Core.Path.{◌≡◌, refl, sym, ap, ◌∙◌}
use mathlib.Core.Bool.{Bool, true, false, cond}
use mathlib.Core.List.{List, [], ◌∷◌, reverse}
use Rattle.numbers.specs.Refusals.{malformed_state}
use Rattle.numbers.specs.Answers.{Answer, accepted, refused}
use Rattle.numbers.proofs.AnswerLaws.{when_hit, when_pass}
use Rattle.refusal.specs.declared.Refusal.TheVariants.{NothingThere}
use Rattle.tp_machine.specs.declared.TpRange.{TpRange}
use Rattle.tp_machine.specs.Machine.{State, bad_state}
use Rattle.tp_machine.specs.Telling.{nearer, first_from, range_told, count_told}
use Rattle.tp_stream.specs.Telling.{range_said, in_hand, nearest}

-- ---- looking through the ranges from the last on
hand_of : (b : Bool) (r : TpRange) (f : Option TpRange) → in_hand (cond b (Some r) f) ≡ cond b (accepted r) (in_hand f)
hand_of true r f = refl
hand_of false r f = refl

pub first_found : (x : ℕ) (rs : List TpRange) → in_hand (fold (nearest x) None (reverse rs)) ≡ first_from x rs
unfolding first_from
first_found x [] = refl
first_found x (r ∷ rs) =
    let f : Option TpRange = fold (nearest x) None (reverse rs) in
    ap in_hand (ap (fold (nearest x) None) (reverse-append (r ∷ []) rs) ∙ fold-append (nearest x) None (reverse rs) (r ∷ []))
    ∙ hand_of (nearer x r (in_hand f)) r f
    ∙ ap (λ (a : Answer TpRange). cond (nearer x r a) (accepted r) a) (first_found x rs)

-- ---- the answers
module _ (p : State) where
  module _ (m : bad_state p ≡ true) where
    pub range_bad : (x : ℕ) → refused malformed_state ≡ range_told p x
    unfolding range_told
    range_bad x = sym (when_hit malformed_state (bad_state p) _ m)

    pub count_bad : refused malformed_state ≡ count_told p
    unfolding count_told
    count_bad = sym (when_hit malformed_state (bad_state p) _ m)

  module _ (m : bad_state p ≡ false) where
    pub range_good : (x : ℕ) → first_from x p.ranges ≡ range_told p x
    unfolding range_told
    range_good x = sym (when_pass malformed_state (bad_state p) _ m)

    pub count_good : accepted p.count ≡ count_told p
    unfolding count_told
    count_good = sym (when_pass malformed_state (bad_state p) _ m)

-- the one that was found, or 20
pub range_or_nothing : (o : Option TpRange) → range_said (ok_or o NothingThere) ≡ in_hand o
range_or_nothing None = refl
range_or_nothing (Some r) = refl
