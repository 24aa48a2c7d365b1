-- What the proofs of this crate's functions cite: how the definitions of one entry go, one step at a time. Assumes nothing.
use Prim.Native.Nat.{ℕ, ◌+◌, ◌*◌, ◌/◌, ◌%◌, ◌-◌, ◌≤◌, ◌<◌}
use mathlib.Core.Path.{◌≡◌, refl, sym, ap, ap₂, ◌∙◌}
use mathlib.Core.Bool.{Bool, true, false, not}
use mathlib.Core.Logic.{◌⊎◌, inl, inr, ⊎_elim}
use mathlib.Core.List.{List}
use native.Mathlib.Omega.{arith}
use lib.ListN.{length, take, drop, get_or, length-drop}
use lib.Dec.{eqb, leb}
use borrow.Author.Tests.{ltb-false, eqb-true, eqb-false, lt-ltb, le-ltb, le-leb, lt-leb, eq-eqb, ne_eqb}
use Rattle.std.specs.Array.{IsFirstChunk}
use Rattle.numbers.specs.Refusals.{Refusal, unexpected_end, unknown_entry, run_out_of_bounds, nothing_there}
use Rattle.numbers.specs.Answers.{accepted, refused, Verdict, pass, ◌>>=◌, ◌>>◌, given, verdict}
use Rattle.numbers.specs.Bytes.{at16, at24, at32}
use Rattle.numbers.proofs.AnswerLaws.{when_hit, when_pass, when_accepted, bind_pass}
use Rattle.numbers.proofs.ByteLaws.{take_rest, take_tab}
use Rattle.sd_format.specs.Sequences.{next_at}
use Rattle.sd_format.specs.Entries.{Entry, head_of, head, group, minor, by_type, read_entry, next_entry, inside, judge_run, judge_runs, placed_entry}
use Rattle.sd_format.proofs.EntryLaws.{runs_of}
use Rattle.sd_entry.specs.Said.{head_said, group_said, service_said, eventgroup_said}
use Rattle.sd_entry.specs.ByName.{service_type, eventgroup_type}
use Rattle.sd_entry.specs.declared.SdServiceEntryType.{SdServiceEntryType}
use Rattle.sd_entry.specs.declared.SdServiceEntryType.TheVariants.{FindService, OfferService}
use Rattle.sd_entry.specs.declared.EventGroupEntryType.{EventGroupEntryType}
use Rattle.sd_entry.specs.declared.EventGroupEntryType.TheVariants.{SubscribeOrStop, SubscribeAckOrNack}
use Rattle.sd_entry.specs.declared.EntryHead.{EntryHead}
use Rattle.sd_entry.specs.declared.EventGroup.{EventGroup}

-- ---- the type decides

by_service : (t : SdServiceEntryType) (s : List ℕ) → by_type (service_type t) s ≡ accepted (service_said t (head s) (minor s))
unfolding by_type
by_service FindService s = refl
by_service OfferService s = refl

by_eventgroup : (t : EventGroupEntryType) (s : List ℕ) → by_type (eventgroup_type t) s ≡ accepted (eventgroup_said t (head s) (group s))
unfolding by_type
by_eventgroup SubscribeOrStop s = refl
by_eventgroup SubscribeAckOrNack s = refl

by_none : (type : ℕ) (s : List ℕ) → 2 ≤ type → (type < 6) ⊎ (8 ≤ type) → by_type type s ≡ refused (unknown_entry type)
unfolding by_type
by_none type s low high =
    rw (
      ne_eqb type 0x00 (λ e. omega arith),
      ne_eqb type 0x01 (λ e. omega arith),
      ne_eqb type 0x06 (λ e. ⊎_elim (λ h. omega arith) (λ h. omega arith) high),
      ne_eqb type 0x07 (λ e. ⊎_elim (λ h. omega arith) (λ h. omega arith) high),
    )

-- ---- one entry, from its bytes

pub read_short : (s : List ℕ) → length s < 16 → read_entry s ≡ refused (unexpected_end 16)
unfolding read_entry
read_short s h = when_hit _ _ _ (lt-ltb (length s) 16 h)

pub read_typed : (s : List ℕ) → 16 ≤ length s → read_entry s ≡ by_type (get_or s 0 0) s
unfolding read_entry
read_typed s h = when_pass _ _ _ (le-ltb (length s) 16 h)

pub read_long : (s : List ℕ) (e : Entry) → read_entry s ≡ accepted e → 16 ≤ length s
unfolding read_entry
read_long s e p = ltb-false (length s) 16 (when_accepted _ _ _ e p).0

-- only the first 16 bytes are read
by_first : (type : ℕ) (s b : List ℕ) → IsFirstChunk s b 16 → by_type type b ≡ by_type type s
unfolding by_type head group at16 at24 at32
by_first type s b first = ap (by_type type) (first.same ∙ take_tab 16 s first.enough)

read_first : (s b : List ℕ) → IsFirstChunk s b 16 → read_entry s ≡ by_type (get_or b 0 0) b
read_first s b first =
    read_typed s first.enough ∙ sym (by_first (get_or s 0 0) s b first)
    ∙ ap (λ (type : ℕ). by_type type b) (sym (ap (λ (l : List ℕ). get_or l 0 0) (first.same ∙ take_tab 16 s first.enough)))

pub read_unknown : (s b : List ℕ) → IsFirstChunk s b 16 → 2 ≤ get_or b 0 0 → (get_or b 0 0 < 6) ⊎ (8 ≤ get_or b 0 0)
    → read_entry s ≡ refused (unknown_entry (get_or b 0 0))
read_unknown s b first low high = read_first s b first ∙ by_none (get_or b 0 0) b low high

pub read_service : (s b : List ℕ) → IsFirstChunk s b 16 → (t : SdServiceEntryType) → service_type t ≡ get_or b 0 0 → (h : EntryHead) → head_said h ≡ head b
    → (m : ℕ) → m ≡ (get_or b 12 0 * 256 + get_or b 13 0) * 65536 + (get_or b 14 0 * 256 + get_or b 15 0)
    → accepted (service_said t (head_said h) m) ≡ read_entry s
unfolding at32 at16
read_service s b first t typed h head_is m minor_is =
    ap₂ (λ h m. accepted (service_said t h m)) head_is minor_is
    ∙ sym (read_first s b first ∙ ap (λ (type : ℕ). by_type type b) (sym typed) ∙ by_service t b)

pub read_eventgroup : (s b : List ℕ) → IsFirstChunk s b 16 → (t : EventGroupEntryType) → eventgroup_type t ≡ get_or b 0 0 → (h : EntryHead) → head_said h ≡ head b
    → (g : EventGroup) → group_said g ≡ group b → accepted (eventgroup_said t (head_said h) (group_said g)) ≡ read_entry s
read_eventgroup s b first t typed h head_is g group_is =
    ap₂ (λ h g. accepted (eventgroup_said t h g)) head_is group_is
    ∙ sym (read_first s b first ∙ ap (λ (type : ℕ). by_type type b) (sym typed) ∙ by_eventgroup t b)

-- ---- the runs' rule

-- a run of no option lies inside any list, any other where it ends there
module _ (n start count : ℕ) where
  pub run_empty : count ≡ 0 → inside n start count ≡ true
  unfolding inside
  run_empty e = rw (eq-eqb count 0 e)

  pub run_held : (count ≡ 0 → ⊥) → inside n start count ≡ leb (start + count) n
  unfolding inside
  run_held e = rw (ne_eqb count 0 e)

module _ (run n start count : ℕ) where
  pub run_in : inside n start count ≡ true → judge_run run n start count ≡ pass
  unfolding judge_run
  run_in e = when_pass _ _ _ (ap not e)

  pub run_out : inside n start count ≡ false → judge_run run n start count ≡ refused (run_out_of_bounds run start count n)
  unfolding judge_run
  run_out e = when_hit _ _ _ (ap not e)

-- ---- an entry beside `n` options

verdict_then : {A : Type 0} (v : Verdict) (a : A) → verdict (v >> accepted a) ≡ v
unfolding ◌>>◌ given
verdict_then (accepted u) a = refl
verdict_then (refused r) a = refl

-- a number of a pair is one or the other
one_of_two : (low t : ℕ) → low ≤ t → t < 2 + low → (t ≡ low) ⊎ (t ≡ 1 + low)
one_of_two low t a b = go (eqb t low) refl
  where
    go : (q : Bool) → eqb t low ≡ q → (t ≡ low) ⊎ (t ≡ 1 + low)
    go true e = inl (eqb-true t low e)
    go false e = let d = eqb-false t low e in inr (omega arith)

module _ (n : ℕ) (s : List ℕ) where
  pub placed_refused : (r : Refusal) → read_entry s ≡ refused r → verdict (placed_entry n s) ≡ refused r
  unfolding placed_entry ◌>>=◌ given
  placed_refused r p = rw p

  pub placed_short : length s < 16 → verdict (placed_entry n s) ≡ refused (unexpected_end 16)
  placed_short h = placed_refused _ (read_short s h)

  pub placed_unknown : 16 ≤ length s → 2 ≤ get_or s 0 0 → (get_or s 0 0 < 6) ⊎ (8 ≤ get_or s 0 0) → verdict (placed_entry n s) ≡ refused (unknown_entry (get_or s 0 0))
  placed_unknown h low high = placed_refused _ (read_typed s h ∙ by_none (get_or s 0 0) s low high)

  placed_read : (e : Entry) → by_type (get_or s 0 0) s ≡ accepted e → head_of e ≡ head s → 16 ≤ length s → verdict (placed_entry n s) ≡ runs_of n (head s)
  unfolding placed_entry
  placed_read e p said h =
      ap verdict (bind_pass (read_entry s) _ e (read_typed s h ∙ p)) ∙ verdict_then (runs_of n (head_of e)) e ∙ ap (runs_of n) said

  pub placed_known : 16 ≤ length s → (get_or s 0 0 < 2) ⊎ ((6 ≤ get_or s 0 0) × (get_or s 0 0 < 8))
      → verdict (placed_entry n s) ≡ judge_runs n (get_or s 1 0) (get_or s 3 0 / 16) (get_or s 2 0) (get_or s 3 0 % 16)
  unfolding head
  placed_known h known =
      let typed = λ (t : ℕ) (e : get_or s 0 0 ≡ t). ap (λ (type : ℕ). by_type type s) e in
      ⊎_elim
      (λ low. ⊎_elim
      (λ e. placed_read _ (typed 0x00 e ∙ by_service FindService s) refl h)
      (λ e. placed_read _ (typed 0x01 e ∙ by_service OfferService s) refl h)
      (one_of_two 0 (get_or s 0 0) (omega arith) low))
      (λ high. ⊎_elim
      (λ e. placed_read _ (typed 0x06 e ∙ by_eventgroup SubscribeOrStop s) refl h)
      (λ e. placed_read _ (typed 0x07 e ∙ by_eventgroup SubscribeAckOrNack s) refl h)
      (one_of_two 6 (get_or s 0 0) high.0 high.1))
      known

  module _ (long : 16 ≤ length s) (known : (get_or s 0 0 < 2) ⊎ ((6 ≤ get_or s 0 0) × (get_or s 0 0 < 8))) where
    -- run 1 is judged before run 2
    pub placed_first : (r : Refusal) → judge_run 1 n (get_or s 1 0) (get_or s 3 0 / 16) ≡ refused r → verdict (placed_entry n s) ≡ refused r
    unfolding judge_runs ◌>>◌
    placed_first r e = placed_known long known ∙ rw e refl

    pub placed_second : judge_run 1 n (get_or s 1 0) (get_or s 3 0 / 16) ≡ pass → verdict (placed_entry n s) ≡ judge_run 2 n (get_or s 2 0) (get_or s 3 0 % 16)
    unfolding judge_runs ◌>>◌
    placed_second e = placed_known long known ∙ rw e refl

-- ---- the cursor

module _ (s : List ℕ) (at : ℕ) where
  pub entry_ended : length s ≤ at → next_entry s at ≡ refused nothing_there
  unfolding next_at
  entry_ended h = when_hit _ _ _ (le-leb (length s) at h)

  -- within the bytes, of which the code reads what is left
  pub entry_within : at < length s → next_entry s at ≡ read_entry (take (length s - at) (drop at s))
  unfolding next_at
  entry_within h = when_pass _ _ _ (lt-leb (length s) at h) ∙ ap read_entry (sym (take_rest s at))

  -- behind an entry that was handed out the cursor still stands within the bytes or at their end
  pub entry_fits : (e : Entry) → accepted e ≡ next_entry s at → at + 16 ≤ length s
  unfolding next_at
  entry_fits e p =
      let (within, read) = when_accepted _ _ _ e (sym p) in
      let long = read_long (drop at s) e read in
      omega (arith, long, length-drop at s)
