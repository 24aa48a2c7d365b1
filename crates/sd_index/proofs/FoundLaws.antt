-- Lookup, test by test, and that what it finds is within the count. Assumes nothing.
use Prim.Native.Nat.{ℕ, ◌≤◌, ◌<◌}
use mathlib.Core.Path.{◌≡◌, refl, sym, ap, ◌∙◌}
use mathlib.Core.Bool.{false}
use mathlib.Core.List.{List}
use lib.ListN.{length, drop, get_or}
use borrow.Author.Tests.{le-leb, lt-leb, leb-false}
use Rattle.numbers.specs.Refusals.{Refusal, nothing_there, table_misfit}
use Rattle.numbers.specs.Answers.{accepted, refused, given}
use Rattle.numbers.proofs.AnswerLaws.{when_hit, when_pass, when_accepted, given_accepted, given_refused}
use Rattle.sd_format.specs.Settings.{Settings}
use Rattle.sd_format.specs.Kinds.{unscanned}
use Rattle.sd_format.specs.Frames.{Frame, one_option, slots, misfit, look_up}
use Rattle.sd_option.specs.declared.reading.OptionHead.{OptionHead}
use Rattle.sd_option.specs.Reading.{head_of, protocol_verdict}
use Rattle.sd_option.proofs.ReadingLaws.{lookup_reads}
use Rattle.sd_index.specs.Found.{by_table, look_up_told}

-- no setting is on
abbrev pub plain : Settings
plain = record { discard = false; strict = false }

module _ (s tab : List ℕ) (count k : ℕ) where
  pub past_count : count ≤ k → refused nothing_there ≡ look_up_told s tab count k
  unfolding look_up given
  past_count h = sym (ap (by_table tab k) (when_hit _ _ _ (le-leb count k h)))

  pub past_slots : k < count → 347 ≤ k → refused table_misfit ≡ look_up_told s tab count k
  unfolding look_up slots given
  past_slots c h = sym (ap (by_table tab k) (when_pass _ _ _ (lt-leb count k c) ∙ when_hit _ _ _ (le-leb 347 k h)))

  pub past_table : k < count → k < 347 → length tab ≤ k → refused table_misfit ≡ look_up_told s tab count k
  unfolding look_up slots given
  past_table c l h = sym (ap (by_table tab k) (when_pass _ _ _ (lt-leb count k c) ∙ when_pass _ _ _ (lt-leb 347 k l) ∙ when_hit _ _ _ (le-leb (length tab) k h)))

  pub by_slot : k < count → k < 347 → k < length tab → look_up s tab count k ≡ misfit (one_option unscanned (drop (get_or tab k 0) s))
  unfolding look_up slots
  by_slot c l t = when_pass _ _ _ (lt-leb count k c) ∙ when_pass _ _ _ (lt-leb 347 k l) ∙ when_pass _ _ _ (lt-leb (length tab) k t)

  -- by the bytes at the slot's offset, read with no setting on
  module _ (c : k < count) (l : k < 347) (t : k < length tab) {at : ℕ} (slot : at ≡ get_or tab k 0) {b : List ℕ} (there : b ≡ drop at s) where
    plain_slot : look_up s tab count k ≡ misfit (one_option (protocol_verdict plain) b)
    plain_slot = by_slot c l t ∙ sym (ap misfit (lookup_reads plain b refl ∙ ap (one_option unscanned) (there ∙ ap (λ (n : ℕ). drop n s) slot)))

    pub slot_fits : {h : OptionHead} → accepted h ≡ given head_of (one_option (protocol_verdict plain) b)
        → accepted (record { offset = record { 0 = at }; head = h }) ≡ look_up_told s tab count k
    unfolding given misfit
    slot_fits {h} read =
        let (f, reads, told) = given_accepted head_of (one_option (protocol_verdict plain) b) h (sym read) in
        rw (slot, plain_slot, reads) (ap (λ (h : OptionHead). accepted (record { offset = record { 0 = get_or tab k 0 }; head = h })) (sym told))

    pub slot_misfits : {r : Refusal} → refused r ≡ given head_of (one_option (protocol_verdict plain) b) → refused table_misfit ≡ look_up_told s tab count k
    unfolding given misfit
    slot_misfits {r} read = rw (plain_slot, given_refused head_of (one_option (protocol_verdict plain) b) r (sym read)) refl

  pub found_counted : (f : Frame) → look_up s tab count k ≡ accepted f → k < count
  unfolding look_up
  found_counted f e = leb-false count k (when_accepted _ _ _ f e).0
