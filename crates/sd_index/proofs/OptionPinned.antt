-- What lookup and the option cursor tell of an option pins the option itself, its type and its bytes, and the bytes from its offset on are
-- read as that option: what `sd_option` answers of them is of the option that was handed out. Assumes nothing.
use Prim.Native.Nat.{ℕ, ◌+◌, ◌-◌}
use mathlib.Core.Path.{◌≡◌, sym, ap, ◌∙◌}
use mathlib.Core.List.{List}
use native.Mathlib.Omega.{arith}
use lib.ListN.{length, take, drop, get_or}
use lib.Seq.{get_or-drop, drop-drop}
use Rattle.numbers.specs.Answers.{Answer, accepted, refused, Verdict, given}
use Rattle.numbers.proofs.AnswerLaws.{not_refused, when_accepted, given_accepted}
use Rattle.sd_format.specs.Settings.{Settings}
use Rattle.sd_format.specs.Kinds.{Kind, judge_content, unscanned}
use Rattle.sd_format.specs.Sequences.{next_at}
use Rattle.sd_format.specs.Frames.{Frame, size, one_option, misfit, look_up, next_option}
use Rattle.sd_format.proofs.FrameLaws.{option_says}
use Rattle.sd_option.specs.declared.reading.OptionHead.{OptionHead}
use Rattle.sd_option.specs.Reading.{head_of}
use Rattle.sd_index.specs.declared.lookup.Found.{Found}
use Rattle.sd_index.specs.Found.{located, look_up_told, Pinned}

pinned : (content : Kind → List ℕ → Verdict) (s : List ℕ) (at n : ℕ) (f : Frame) → one_option content (drop at s) ≡ accepted f → size f ≡ n → Pinned content s at n f
pinned content s at n f reads e =
    let w = (option_says content (drop at s) f reads).1 in
    let k : length f.body ≡ n - 3 = omega arith in
    record {
      reads = reads;
      type = sym w.type_at ∙ get_or-drop at s 2 0;
      body = sym w.body_at ∙ ap (take (length f.body)) (drop-drop 3 at s) ∙ ap (λ (m : ℕ). take m (drop (at + 3) s)) k;
    }

-- where lookup found an option, it stands at its slot's offset
pub slot_reads : (s tab : List ℕ) (count k : ℕ) (f : Frame) → look_up s tab count k ≡ accepted f → one_option unscanned (drop (get_or tab k 0) s) ≡ accepted f
unfolding look_up misfit
slot_reads s tab count k f e =
    let counted = when_accepted _ _ _ f e in
    let slot = when_accepted _ _ _ f counted.1 in
    let lent = when_accepted _ _ _ f slot.1 in
    fitting (one_option unscanned (drop (get_or tab k 0) s)) lent.1
  where
    fitting : (a : Answer Frame) → misfit a ≡ accepted f → a ≡ accepted f
    fitting (accepted x) e = e
    fitting (refused r) e = not_refused _ f e

pub found_pinned : (s tab : List ℕ) (count k : ℕ) (l : Found) → look_up_told s tab count k ≡ accepted l
    → (f : Frame) × (look_up s tab count k ≡ accepted f) × Pinned unscanned s l.offset.0 l.head.size f
found_pinned s tab count k l e =
    let (f, found, told) = given_accepted (located (get_or tab k 0)) (look_up s tab count k) l e in
    let at : get_or tab k 0 ≡ l.offset.0 = ap (λ (x : Found). x.offset.0) told in
    (f, found, pinned unscanned s l.offset.0 l.head.size f (sym (ap (λ (m : ℕ). one_option unscanned (drop m s)) at) ∙ slot_reads s tab count k f found) (ap (λ (x : Found). x.head.size) told))

pub next_pinned : (g : Settings) (s : List ℕ) (at : ℕ) (h : OptionHead) → given head_of (next_option g s at) ≡ accepted h
    → (f : Frame) × (next_option g s at ≡ accepted f) × Pinned (judge_content g) s at h.size f
unfolding next_at
next_pinned g s at h e =
    let (f, found, told) = given_accepted head_of (next_option g s at) h e in
    (f, found, pinned (judge_content g) s at h.size f (when_accepted _ _ _ f found).1 (ap (λ (x : OptionHead). x.size) told))
