-- What the code's cursors and lookup hand out, beside those of the definitions: a cursor of the code that stands at the same place hands out the
-- same, and the bytes of an option are its layout. Assumes nothing.
use Rattle.sd_index.specs.declared.lookup.Found.{Found}
use Rattle.sd_option.specs.declared.reading.OptionHead.{OptionHead}
use Rattle.sd_entry.specs.declared.SdEntry.{SdEntry}
use Rattle.refusal.specs.declared.answers.Step.{Step}
use Prim.Native.Nat.{ℕ}
use mathlib.Core.Path.{◌≡◌, refl, sym, ap, ◌∙◌, subst}
use mathlib.Core.List.{List, [], ◌∷◌, map, map-id}
use lib.ListN.{length, take, drop, get_or}
use lib.Seq.{take_at}
use Rattle.numbers.specs.Refusals as paper
use Rattle.numbers.specs.Answers.{Answer, accepted, refused, Verdict, given, All}
use Rattle.numbers.specs.Bytes.{Bytes, be16}
use Rattle.numbers.proofs.AnswerLaws.{when_accepted}
use Rattle.numbers.proofs.ByteLaws.{bytes_drop}
use Rattle.sd_format.specs.Settings.{Settings}
use Rattle.sd_format.specs.Sequences.{next_at, behind, stands, HandsOut, ended, gave}
use Rattle.sd_format.specs.Options.{First, Opt, configuring, balancing, addressed, unrecognised}
use Rattle.sd_format.specs.Kinds.{Kind, judge_content, unscanned}
use Rattle.sd_format.specs.Frames.{Frame, size, one_option, look_up, next_option, Run, next_of_run, along}
use Rattle.sd_format.specs.Fields.{discardable}
use Rattle.sd_format.specs.Entries.{Entry, sixteen, next_entry}
use Rattle.sd_format.specs.Layout.{lay_option, OptionFits, wire}
use Rattle.sd_format.proofs.FrameLaws.{lay_frame, length_frame, option_says}
use Rattle.sd_format.proofs.BitLaws.{first_back}
use Rattle.sd_format.proofs.FieldLaws.{wired}
use Rattle.sd_option.specs.Reading.{head_of, option_said}
use Rattle.sd_entry.specs.declared.cursor.EntryCursor.{EntryCursor}
use Rattle.sd_entry.specs.Said.{answer_said}
use Rattle.sd_entry.specs.Steps.{Stepped}
use Rattle.sd_index.specs.declared.cursor.OptionCursor.{OptionCursor}
use Rattle.sd_index.specs.declared.cursor.RunCursor.{RunCursor}
use Rattle.sd_index.specs.Found.{found_said, by_table, look_up_told}
use Rattle.sd_index.specs.Steps.{OptionStepped, run_said, RunStepped}
use Rattle.sd_index.proofs.OptionPinned.{slot_reads}
use Rattle.sd_payload.specs.OfTheCode.{Told, first_of, told, told_at, told_found}

-- ---- a cursor of the code, beside one of the definitions that stands at the same place

module _ {C D A B : Type 0} (next : C → Answer A) (move : A → C → C) (next' : D → Answer B) (after : D → D) (place : D → C) (f : A → B)
    (ends : (d : D) (r : paper.Refusal) → next (place d) ≡ refused r → next' d ≡ refused r)
    (gives : (d : D) (a : A) → next (place d) ≡ accepted a → (next' d ≡ accepted (f a)) × (place (after d) ≡ move a (place d))) where
  hands_too : {c : C} {xs : List A} → HandsOut next move c xs → (d : D) → place d ≡ c → HandsOut next' (λ b. after) d (map f xs)
  hands_too (ended h) d e = ended (ends d _ (ap next e ∙ h))
  hands_too (gave {a = a} h later) d e =
      let (here, then) = gives d a (ap next e ∙ h) in
      gave here (hands_too later (after d) (then ∙ ap (move a) e))

-- ---- an option as it is handed out, from its frame

abbrev pub frame_told : Frame → Told
frame_told f = record { head = head_of f; bytes = lay_frame f }

frame_bytes : (content : Kind → List ℕ → Verdict) (s : List ℕ) (at : ℕ) (f : Frame) → Bytes s → one_option content (drop at s) ≡ accepted f
    → told_at s at (head_of f) ≡ frame_told f
frame_bytes content s at f b e =
    let w = (option_says content (drop at s) f e).1 in
    let same : take (size f) (drop at s) ≡ lay_frame f = ap (take (size f)) (sym (w.again (bytes_drop s at b))) ∙ take_at (lay_frame f) _ (size f) (length_frame f) in
    ap (λ (l : List ℕ). record { head = head_of f; bytes = l }) same

-- its own bit, whatever its kind
bit_told : (g : Settings) (o : Opt) → OptionFits g o → discardable (wire o).body ≡ (first_of o).discardable
unfolding lay_option be16
bit_told g (configuring b items) fit = ap (λ (c : First). c.discardable) (first_back b fit.0)
bit_told g (balancing b p w) fit = ap (λ (c : First). c.discardable) (first_back b fit)
bit_told g (addressed family role b a r p q) fit = ap (λ (c : First). c.discardable) (first_back b fit.0)
bit_told g (unrecognised type b rest) fit = ap (λ (c : First). c.discardable) (first_back b fit.0)

size_laid : (g : Settings) (o : Opt) → OptionFits g o → size (wire o) ≡ length (lay_option o)
size_laid g o fit = sym (length_frame (wire o)) ∙ ap length (wired g o fit).layout

pub frames_told : (g : Settings) (os : List Opt) → All (OptionFits g) os → map frame_told (map wire os) ≡ map told os
frames_told g [] fit = refl
frames_told g (o ∷ os) fit =
    let first : frame_told (wire o) ≡ told o = λ i. record {
      head = record { code = get_or (lay_option o) 2 0; discardable = bit_told g o fit.0 i; size = size_laid g o fit.0 i };
      bytes = (wired g o fit.0).layout i;
    } in
    λ i. first i ∷ frames_told g os fit.1 i

-- ---- the cursors and lookup, over any bytes

module _ (s : List ℕ) (next : EntryCursor → Step SdEntry EntryCursor) (meets : (c : EntryCursor) → Stepped s c.at (next c)) where
  pub entries_too : {xs : List Entry} → HandsOut (next_entry s) (behind sixteen) 0 xs → (new : EntryCursor) → new.at ≡ 0
      → HandsOut (λ c. answer_said (next c).answer) (λ e c. (next c).after) new xs
  entries_too {xs} hands new first =
      subst (HandsOut (λ c. answer_said (next c).answer) (λ e c. (next c).after) new) (map-id xs)
      (hands_too (next_entry s) (behind sixteen) (λ c. answer_said (next c).answer) (λ c. (next c).after) (λ c. c.at) (λ e. e)
      (λ c r e. (meets c).answer ∙ e)
      (λ c x e. ((meets c).answer ∙ e, (meets c).cursor ∙ ap (λ (a : Answer Entry). stands (behind sixteen) a c.at) e))
      hands new first)

module _ (s : List ℕ) (b : Bytes s) where
  module _ (h : Settings) (next : OptionCursor → Step OptionHead OptionCursor) (meets : (c : OptionCursor) → OptionStepped h s c.at.0 (next c)) where
    abbrev next_told : OptionCursor → Answer Told
    next_told c = given (told_at s c.at.0) (option_said (next c).answer)

    came_told : (c : OptionCursor) → next_told c ≡ given (told_at s c.at.0) (given head_of (next_option h s c.at.0))
    came_told c = ap (given (told_at s c.at.0)) (meets c).answer

    option_ends : (c : OptionCursor) (r : paper.Refusal) → next_option h s c.at.0 ≡ refused r → next_told c ≡ refused r
    unfolding given
    option_ends c r e = came_told c ∙ ap (λ (a : Answer Frame). given (told_at s c.at.0) (given head_of a)) e

    option_gives : (c : OptionCursor) (f : Frame) → next_option h s c.at.0 ≡ accepted f
        → (next_told c ≡ accepted (frame_told f)) × ((next c).after.at.0 ≡ behind size f c.at.0)
    unfolding given next_at
    option_gives c f e = (
      came_told c ∙ ap (λ (a : Answer Frame). given (told_at s c.at.0) (given head_of a)) e
          ∙ ap accepted (frame_bytes (judge_content h) s c.at.0 f b (when_accepted _ _ _ f e).1),
      (meets c).cursor ∙ ap (λ (a : Answer Frame). stands (behind size) a c.at.0) e,
    )

    pub options_too : {fs : List Frame} → HandsOut (next_option h s) (behind size) 0 fs → (new : OptionCursor) → new.at.0 ≡ 0
        → HandsOut next_told (λ o c. (next c).after) new (map frame_told fs)
    options_too hands new first =
        hands_too (next_option h s) (behind size) next_told (λ c. (next c).after) (λ c. c.at.0) frame_told option_ends option_gives hands new first

  module _ (tab : List ℕ) (count : ℕ) where
    pub found_told : (k : ℕ) → given (told_found s) (look_up_told s tab count k) ≡ given frame_told (look_up s tab count k)
    unfolding given
    found_told k = go (look_up s tab count k) refl
      where
        go : (a : Answer Frame) → look_up s tab count k ≡ a → given (told_found s) (by_table tab k a) ≡ given frame_told a
        go (accepted f) e = ap accepted (frame_bytes unscanned s (get_or tab k 0) f b (slot_reads s tab count k f e))
        go (refused r) e = refl

    module _ (next : RunCursor → Step Found RunCursor) (meets : (c : RunCursor) → RunStepped s tab count (run_said c) (next c)) where
      abbrev run_told : RunCursor → Answer Told
      run_told c = given (told_found s) (found_said (next c).answer)

      came_found : (c : RunCursor) → run_told c ≡ given (told_found s) (by_table tab c.next.0 (next_of_run s tab count (run_said c)))
      came_found c = ap (given (told_found s)) (meets c).answer

      run_ends : (c : RunCursor) (r : paper.Refusal) → next_of_run s tab count (run_said c) ≡ refused r → run_told c ≡ refused r
      unfolding given
      run_ends c r e = came_found c ∙ ap (λ (a : Answer Frame). given (told_found s) (by_table tab c.next.0 a)) e

      run_gives : (c : RunCursor) (f : Frame) → next_of_run s tab count (run_said c) ≡ accepted f
          → (run_told c ≡ accepted (frame_told f)) × (run_said (next c).after ≡ along f (run_said c))
      unfolding given next_of_run
      run_gives c f e = (
        came_found c ∙ ap (λ (a : Answer Frame). given (told_found s) (by_table tab c.next.0 a)) e
            ∙ ap accepted (frame_bytes unscanned s (get_or tab c.next.0 0) f b (slot_reads s tab count c.next.0 f (when_accepted _ _ _ f e).1)),
        (meets c).cursor ∙ ap (λ (a : Answer Frame). stands along a (run_said c)) e,
      )

      pub run_too : {r : Run} {fs : List Frame} → HandsOut (next_of_run s tab count) along r fs → (new : RunCursor) → run_said new ≡ r
          → HandsOut run_told (λ o c. (next c).after) new (map frame_told fs)
      run_too hands new first =
          hands_too (next_of_run s tab count) along run_told (λ c. (next c).after) run_said frame_told run_ends run_gives hands new first
