-- The cursors' steps: what each answers, and where it stands by what it answered. Assumes nothing.
use Rattle.std.specs.Prelude.{Result, Ok}
use Prim.Native.Nat.{ℕ, ◌+◌, ◌-◌, ◌≤◌, ◌<◌}
use mathlib.Core.Path.{◌≡◌, refl, sym, ap, ◌∙◌}
use mathlib.Core.Bool.{false}
use lib.Dec.{eqb}
use mathlib.Core.List.{List}
use native.Mathlib.Omega.{arith}
use lib.ListN.{length, drop, get_or, length-drop}
use borrow.Author.Tests.{le-leb, lt-leb, eq-eqb, ne_eqb, eqb-false}
use Rattle.numbers.specs.Refusals.{Refusal, nothing_there}
use Rattle.numbers.specs.Answers.{Answer, accepted, refused, given}
use Rattle.numbers.proofs.AnswerLaws.{when_hit, when_pass, when_accepted, given_accepted, accepted_inj, not_refused}
use Rattle.sd_format.specs.Settings.{Settings}
use Rattle.sd_format.specs.Kinds.{judge_content}
use Rattle.sd_format.specs.Sequences.{stands, next_at, behind}
use Rattle.sd_format.specs.Frames.{Frame, size, read_option, look_up, next_option, Run, next_of_run, along}
use Rattle.refusal.specs.declared.Refusal as refusal
use Rattle.sd_option.specs.declared.reading.OptionHead.{OptionHead}
use Rattle.sd_option.specs.Reading.{head_of}
use Rattle.sd_option.proofs.ReadingLaws.{Found, found_head}
use Rattle.sd_index.specs.declared.lookup.Found as code
use Rattle.sd_index.specs.Found.{located, found_said, by_table, look_up_told}
use Rattle.sd_index.proofs.FoundLaws.{found_counted}

-- a cursor stands by what is told of the thing handed out where it would by the thing itself, if both move it alike
module _ {A B C : Type 0} (f : A → B) (told : B → C → C) (move : A → C → C) (same : (a : A) (c : C) → told (f a) c ≡ move a c) where
  stands_gave : (x : Answer A) (b : B) (c : C) → accepted b ≡ given f x → told b c ≡ stands move x c
  unfolding given
  stands_gave (accepted a) b c e = ap (λ (y : B). told y c) (accepted_inj b (f a) e) ∙ same a c
  stands_gave (refused r) b c e = not_refused r b (sym e)

-- and a refusal leaves it where it was
stands_kept : {A B C : Type 0} (f : A → B) (move : A → C → C) (x : Answer A) (r : Refusal) (c : C) → refused r ≡ given f x → c ≡ stands move x c
unfolding given
stands_kept f move (accepted a) r c e = not_refused r (f a) e
stands_kept f move (refused q) r c e = refl

-- ---- the option cursor

module _ (g : Settings) (s : List ℕ) (at : ℕ) where
  pub option_ended : length s ≤ at → refused nothing_there ≡ given head_of (next_option g s at)
  unfolding next_at given
  option_ended h = sym (ap (given head_of) (when_hit _ _ _ (le-leb (length s) at h)))

  pub option_within : (b : List ℕ) → b ≡ drop at s → at < length s → given head_of (next_option g s at) ≡ given head_of (read_option g b)
  unfolding next_at
  option_within b there h =
      ap (given head_of) (when_pass _ _ _ (lt-leb (length s) at h)) ∙ ap (λ (b : List ℕ). given head_of (read_option g b)) (sym there)

  module _ (h : OptionHead) (told : accepted h ≡ given head_of (next_option g s at)) where
    -- it still stands within the bytes or at their end
    pub option_fits : at + h.size ≤ length s
    unfolding next_at given
    option_fits =
        let (f, there, same) = given_accepted head_of (next_option g s at) h (sym told) in
        let (within, read) = when_accepted _ _ _ f there in
        let t : Found (judge_content g) (drop at s) h = found_head (judge_content g) (drop at s) h (ap (given head_of) read ∙ ap accepted same) in
        omega (arith, t.some, t.within, length-drop at s)

    pub option_gave : at + h.size ≡ stands (behind size) (next_option g s at) at
    option_gave = stands_gave head_of (λ h at. at + h.size) (behind size) (λ f n. refl) (next_option g s at) h at told

  pub option_kept : (r : Refusal) → refused r ≡ given head_of (next_option g s at) → at ≡ stands (behind size) (next_option g s at) at
  option_kept r told = stands_kept head_of (behind size) (next_option g s at) r at told

-- ---- the run cursor

module _ (s tab : List ℕ) (count : ℕ) (r : Run) where
  pub run_ended : r.left ≡ 0 → refused nothing_there ≡ by_table tab r.next (next_of_run s tab count r)
  unfolding next_of_run given
  run_ended e = sym (ap (by_table tab r.next) (when_hit _ _ _ (eq-eqb r.left 0 e)))

  pub run_within : (r.left ≡ 0 → ⊥) → by_table tab r.next (next_of_run s tab count r) ≡ look_up_told s tab count r.next
  unfolding next_of_run
  run_within e = ap (by_table tab r.next) (when_pass _ _ _ (ne_eqb r.left 0 e))

  module _ (f : code.Found) (told : accepted f ≡ by_table tab r.next (next_of_run s tab count r)) where
    run_there : (frame : Frame) × (eqb r.left 0 ≡ false) × (look_up s tab count r.next ≡ accepted frame)
    unfolding next_of_run
    run_there =
        let (frame, there, same) = given_accepted (located (get_or tab r.next 0)) (next_of_run s tab count r) f (sym told) in
        let (some, found) = when_accepted _ _ _ frame there in
        (frame, some, found)

    pub run_some : 1 ≤ r.left
    run_some = let n = eqb-false r.left 0 run_there.1 in omega arith

    -- the number of what was found is below the count
    pub run_counted : r.next < count
    run_counted = found_counted s tab count r.next run_there.0 run_there.2

    pub run_gave : record { next = r.next + 1; left = r.left - 1 } ≡ stands along (next_of_run s tab count r) r
    run_gave =
        stands_gave (located (get_or tab r.next 0)) (λ f r. record { next = r.next + 1; left = r.left - 1 }) along (λ f r. refl) (next_of_run s tab count r) f r told

  pub run_kept : (q : Refusal) → refused q ≡ by_table tab r.next (next_of_run s tab count r) → r ≡ stands along (next_of_run s tab count r) r
  run_kept q told = stands_kept (located (get_or tab r.next 0)) along (next_of_run s tab count r) q r told

-- the number of an option that was found is below the count
pub found_below : (s tab : List ℕ) (count k : ℕ) (a : Result code.Found refusal.Refusal) (f : code.Found) → found_said a ≡ look_up_told s tab count k → a ≡ Ok f → k < count
found_below s tab count k a f told e =
    let (frame, reads, same) = given_accepted (located (get_or tab k 0)) (look_up s tab count k) f (sym told ∙ ap found_said e) in
    found_counted s tab count k frame reads
