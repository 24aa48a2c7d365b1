-- One item at a place of a string: what the answer to it says of the string, and what a cursor finds there. Assumes nothing.
use Prim.Native.Nat.{ℕ, ◌+◌, ◌-◌, ◌≤◌, ◌<◌}
use mathlib.Core.Path.{◌≡◌, refl, sym, ap, ◌∙◌}
use mathlib.Core.List.{List}
use native.Mathlib.Omega.{arith}
use borrow.Author.Tests.{leb-false, le-leb, lt-leb, eqb-false, eq-eqb, ne_eqb}
use lib.Dec.{leb, eqb}
use lib.ListN.{length, get_or, take, drop, length-drop}
use lib.Seq.{length-take-le}
use Rattle.numbers.specs.Refusals.{Refusal, nothing_there}
use Rattle.numbers.specs.Answers.{accepted, refused, pass, ◌>>◌, given}
use Rattle.numbers.proofs.AnswerLaws.{when_hit, when_pass, when_accepted, given_accepted, then_pass, then_accepted, accepted_inj}
use Rattle.numbers.proofs.ByteLaws.{take_rest}
use Rattle.sd_format.specs.Strings.{judge_item}
use Rattle.sd_format.proofs.StringLaws.{item_passes, left_whole, left_end, left_terminator, left_refused, left_good}
use Rattle.config_string.specs.Items.{next_item, past}

-- an item whose length byte `n` stands at `at`, with all that follows that byte
module _ (s : List ℕ) (at n : ℕ) where
  pub within : judge_item at n (drop (at + 1) s) ≡ pass → n ≤ length s - (at + 1)
  within good = simp length-drop at ((item_passes at n (drop (at + 1) s)).0 good).0

  pub past_item : judge_item at n (drop (at + 1) s) ≡ pass → past at (take n (drop (at + 1) s)) ≡ at + 1 + n
  past_item good = rw (length-take-le n (drop (at + 1) s) ((item_passes at n (drop (at + 1) s)).0 good).0) (omega arith)

-- ---- what the cursor finds

pub next_none : (s : List ℕ) (at : ℕ) → length s ≤ at → next_item s at ≡ refused nothing_there
unfolding next_item
next_none s at past_end = when_hit _ _ _ (le-leb _ _ past_end)

module _ (s : List ℕ) (at : ℕ) (inside : at < length s) where
  pub next_terminator : get_or s at 0 ≡ 0 → next_item s at ≡ refused nothing_there
  unfolding next_item
  next_terminator last = when_pass _ _ _ (lt-leb _ _ inside) ∙ when_hit _ _ _ (eq-eqb _ _ last)

  next_there : (get_or s at 0 ≡ 0 → ⊥)
      → next_item s at ≡ (judge_item at (get_or s at 0) (drop (at + 1) s) >> accepted (take (get_or s at 0) (drop (at + 1) s)))
  unfolding next_item
  next_there some = when_pass _ _ _ (lt-leb _ _ inside) ∙ when_pass _ _ _ (ne_eqb _ _ some)

  pub next_good : (get_or s at 0 ≡ 0 → ⊥) → judge_item at (get_or s at 0) (drop (at + 1) s) ≡ pass
      → next_item s at ≡ accepted (take (get_or s at 0) (drop (at + 1) s))
  next_good some good = next_there some ∙ then_pass _ _ good

  pub next_bad : (get_or s at 0 ≡ 0 → ⊥) → (r : Refusal) → judge_item at (get_or s at 0) (drop (at + 1) s) ≡ refused r → next_item s at ≡ refused r
  unfolding ◌>>◌
  next_bad some r bad = next_there some ∙ rw bad refl

-- ---- from where the cursor stands afterwards back to the item

-- an item was found: it lies in the string, between the place and where the cursor stands
pub record Found (s : List ℕ) (at next : ℕ) : Type 0 where
  pub behind : at + 1 ≤ next
  pub inside : next ≤ length s
  pub bytes : next_item s at ≡ accepted (take (next - (at + 1)) (drop (at + 1) s))

pub found : (s : List ℕ) (at next : ℕ) → given (past at) (next_item s at) ≡ accepted next → Found s at next
unfolding next_item
found s at next e =
    let n : ℕ = get_or s at 0 in
    let rest : List ℕ = drop (at + 1) s in
    let item = given_accepted (past at) (next_item s at) next e in
    let there = when_accepted nothing_there (leb (length s) at) _ item.0 item.1 in
    let some = when_accepted nothing_there (eqb n 0) (judge_item at n rest >> accepted (take n rest)) item.0 there.1 in
    let good = then_accepted (judge_item at n rest) (accepted (take n rest)) item.0 some.1 in
    let inside : at < length s = leb-false _ _ there.0 in
    let size : n ≤ length s - (at + 1) = within s at n good.0 in
    let place : next ≡ at + 1 + n = sym item.2 ∙ ap (past at) (sym (accepted_inj _ _ good.1)) ∙ past_item s at n good.0 in
    let len : next - (at + 1) ≡ n = omega arith in
    record {
      behind = omega arith;
      inside = omega arith;
      bytes = next_good s at inside (eqb-false _ _ some.0) good.0 ∙ ap (λ (k : ℕ). accepted (take k rest)) (sym len);
    }

-- ---- what the functions need: over a whole string, and at one place of it

pub ruleset walking = (left_whole, left_end, left_terminator, left_refused, left_good, within, take_rest)

pub ruleset finding = (next_none, next_terminator, next_good, next_bad, within, past_item, take_rest)
