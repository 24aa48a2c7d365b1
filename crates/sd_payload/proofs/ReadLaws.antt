-- What a reading of a payload comes to, part by part, with its answer and the whole lent table. Assumes nothing.
use Rattle.std.specs.Prelude.{Result, Ok, Err}
use Rattle.std.specs.Result.{is_err}
use mathlib.Core.Path.{◌≡◌, refl, sym, ap, ◌∙◌, subst}
use mathlib.Core.Bool.{Bool, true, false}
use mathlib.Core.List.{List, ◌++◌}
use Prim.Native.Nat.{ℕ, ◌/◌, ◌+◌, ◌-◌, ◌≤◌, ◌<◌}
use native.Mathlib.Omega.{arith}
use lib.Dec.{ltb}
use lib.ListN.{length, take, drop, get_or, length-append, length-drop}
use lib.Seq.{drop_at, get_or-take}
use borrow.Author.Tests.{lt-ltb, le-ltb, ltb-true, ltb-false}
use Rattle.numbers.specs.Refusals as paper
use Rattle.numbers.specs.Answers as answers
use Rattle.numbers.specs.Answers.{Answer, accepted, refused, ◌>>=◌, ◌>>◌, given, verdict, refuse◌when◌else◌}
use Rattle.numbers.proofs.AnswerLaws.{not_refused, refused_inj, given_accepted, given_refused, then_pass, bind_pass}
use Rattle.sd_format.specs.Settings.{Settings}
use Rattle.sd_format.specs.Frames.{Frame, read_options, slots, lent, filled, table_after}
use Rattle.sd_format.specs.Entries.{read_entries}
use Rattle.sd_format.specs.Payload.{entries_part, options_part, Reading, read_payload, flags}
use Rattle.sd_format.proofs.SequenceLaws.{length_starts}
use Rattle.sd_format.proofs.TableLaws.{length_zeros}
use Rattle.sd_format.proofs.OptionLaws.{read_parts, few_options}
use Rattle.sd_format.proofs.CallLaws.{lent_exactly}
use Rattle.refusal.specs.declared.Refusal.{Refusal}
use Rattle.refusal.specs.declared.Refusal.TheVariants.{FewSlots}
use Rattle.refusal.specs.Said.{said, verdict_said, count_said, refusal_in}
use Rattle.sd_index.specs.Indexed.{Indexed, indexed, cleared}
use Rattle.sd_index.proofs.IndexLaws.{indexed_is}
use Rattle.sd_payload.specs.declared.reading.SdHeaderFlags.{SdHeaderFlags}
use Rattle.sd_payload.specs.declared.reading.SdPayload.{SdPayload}
use Rattle.sd_payload.specs.Sized.{sized}
use Rattle.sd_payload.specs.Reads.{flags_laid, summed, settled, PayloadRead}
use Rattle.sd_payload.proofs.SizeLaws.{Parts}
use Rattle.sd_payload.proofs.EntryLoop.{entries_count}

-- ---- the answer and the table

-- a refusal that was taken out of an answer is that answer's
pub taken : {A : Type 0} {a : Result A Refusal} {r q : Refusal} → a ≡ Err r → q ≡ refusal_in a → a ≡ Err q
taken this out = this ∙ ap Err (sym (out ∙ ap refusal_in this))

-- the table once it is settled
pub settled_refused : (r : Result SdPayload Refusal) (left : List ℕ) → is_err r ≡ true → cleared left ≡ settled r left
settled_refused (Ok p) left e = let z : ◌≡◌ {A = ℕ} 0 1 = cc in absurd (omega arith)
settled_refused (Err r) left e = refl

pub settled_passed : (r : Result SdPayload Refusal) (left : List ℕ) → is_err r ≡ false → left ≡ settled r left
settled_passed (Ok p) left e = refl
settled_passed (Err r) left e = let z : ◌≡◌ {A = ℕ} 0 1 = cc in absurd (omega arith)

-- a table that was filled, or cleared, and then cleared
module _ (tab : List ℕ) (long : 347 ≤ length tab) where
  cleared_front : (front : List ℕ) → length front ≡ 347 → cleared (front ++ drop 347 tab) ≡ cleared tab
  unfolding cleared slots
  cleared_front front full =
      let same : length (front ++ drop 347 tab) ≡ length tab = rw (length-append, full, length-drop) (omega arith) in
      rw (same, le-ltb (length tab) 347 long, drop_at front (drop 347 tab) 347 full)

  after_cleared : (fs : List Frame) → length fs ≤ 347 → cleared (table_after tab (accepted fs)) ≡ cleared tab
  unfolding table_after filled slots
  after_cleared fs few = rw (le-ltb (length tab) 347 long) (cleared_front _ (simp (length-append, length_starts, length_zeros) (omega arith)))

  cleared_again : (r : paper.Refusal) → cleared (table_after tab (refused r)) ≡ cleared tab
  unfolding table_after filled slots
  cleared_again r = rw (le-ltb (length tab) 347 long) (cleared_front _ (length_zeros 347))

module _ (a : Answer Reading) (tab : List ℕ) where
  few_slots : length tab < 347 → PayloadRead a tab tab (Err (FewSlots (length tab)))
  unfolding lent slots table_after given refuse◌when◌else◌
  few_slots h = record { told = rw (lt-ltb (length tab) 347 h); slots = rw (lt-ltb (length tab) 347 h) }

  -- what was promised of the reading, of the table as it was lent, is promised of the whole
  pub into_table : (r : Result SdPayload Refusal) (tab' : List ℕ) → (length tab < 347 → (r ≡ Err (FewSlots (length tab))) × (tab' ≡ tab))
      → (347 ≤ length tab → (lent left : List ℕ) × (lent ≡ tab) × PayloadRead a lent (settled r left) r × (tab' ≡ settled r left)) → PayloadRead a tab tab' r
  into_table r tab' few enough = go (ltb (length tab) 347) refl
    where
      go : (short : Bool) → ltb (length tab) 347 ≡ short → PayloadRead a tab tab' r
      go true e = let (refuses, same) = few (ltb-true (length tab) 347 e) in rw (refuses, same) (few_slots (ltb-true (length tab) 347 e))
      go false e = let (lent, left, here, read, is) = enough (ltb-false (length tab) 347 e) in
          subst (λ (t : List ℕ). PayloadRead a tab t r) (sym is) (subst (λ (t : List ℕ). PayloadRead a t (settled r left) r) here read)

  module _ (long : 347 ≤ length tab) where
    pub read_refused : (r : Refusal) (left : List ℕ) → a ≡ refused (said r) → cleared left ≡ cleared tab → PayloadRead a tab (cleared left) (Err r)
    unfolding given cleared table_after filled
    read_refused r left e t = record { told = sym (ap (given summed) ((lent_exactly tab a).enough long ∙ e)); slots = t ∙ rw e refl }

    read_good : (rd : Reading) (p : SdPayload) (tab' : List ℕ) → a ≡ accepted rd → p ≡ summed rd → tab' ≡ table_after tab (accepted rd.frames) → PayloadRead a tab tab' (Ok p)
    unfolding given
    read_good rd p tab' e same t = record { told = ap accepted same ∙ sym (ap (given summed) ((lent_exactly tab a).enough long ∙ e)); slots = t ∙ rw e refl }

-- ---- what the reading comes to

-- a test that was refused, whatever would have come after it
refused_before : {A B : Type 0} (v : answers.Verdict) (x : A) (b : Answer B) (r : paper.Refusal) → (v >> accepted x) ≡ refused r → (v >> b) ≡ refused r
unfolding ◌>>◌
refused_before (accepted u) x b r e = not_refused r x (sym e)
refused_before {A} (refused q) x b r e = ap refused (refused_inj {A = A} q r e)

pub sizes_refuse : (g : Settings) (s : List ℕ) (r : paper.Refusal) → sized s ≡ refused r → read_payload g s ≡ refused r
unfolding sized read_payload
sizes_refuse g s r e = refused_before _ _ _ r e

module _ (g : Settings) (s tab : List ℕ) (long : 347 ≤ length tab) where
  pub sizes_refused : {v : Result ℕ Refusal} (r : Refusal) → count_said v ≡ sized s → v ≡ Err r → PayloadRead (read_payload g s) tab (cleared tab) (Err r)
  sizes_refused r e this = read_refused _ tab long r tab (sizes_refuse g s (said r) (sym e ∙ ap count_said this)) refl

  module _ (n : ℕ) (t : Parts s n) where
    reads : read_payload g s
        ≡ (read_options g (options_part s) >>= λ fs. read_entries (length fs) (entries_part s) >>= λ es. accepted (record { opening = take 4 s; entries = es; frames = fs }))
    unfolding read_payload
    reads = then_pass _ _ t.passed

    -- ---- the options

    module _ (tab₁ : List ℕ) (i : Result ℕ Refusal) (h : Indexed (indexed g (take (length s - (12 + n)) (drop (12 + n) s))) tab tab₁ i) where
      index_is : indexed g (take (length s - (12 + n)) (drop (12 + n) s)) ≡ read_options g (options_part s)
      index_is = ap (indexed g) t.options_are ∙ indexed_is g (options_part s) t.options_short

      came : count_said i ≡ given length (read_options g (options_part s))
      came = h.told ∙ ap (given length) ((lent_exactly tab _).enough long ∙ index_is)

      left : tab₁ ≡ table_after tab (read_options g (options_part s))
      left = h.slots ∙ ap (table_after tab) index_is

      pub options_refused : (r : Refusal) → i ≡ Err r → PayloadRead (read_payload g s) tab (cleared tab₁) (Err r)
      unfolding ◌>>=◌
      options_refused r e =
          let bad : read_options g (options_part s) ≡ refused (said r) = given_refused length _ (said r) (sym came ∙ ap count_said e) in
          read_refused _ tab long r tab₁ (reads ∙ rw bad) (ap cleared (left ∙ ap (table_after tab) bad) ∙ cleared_again tab long (said r))

      -- ---- the entries

      module _ (k : ℕ) (e : i ≡ Ok k) (v : Result (Unit {0}) Refusal) (judged : verdict_said v ≡ verdict (read_entries k (take (8 + n - 8) (drop 8 s)))) where
        -- the options that were read
        frames : (fs : List Frame) × (read_options g (options_part s) ≡ accepted fs) × (length fs ≡ k)
        frames = given_accepted length _ k (sym came ∙ ap count_said e)

        table_is : tab₁ ≡ table_after tab (accepted frames.0)
        table_is = left ∙ ap (table_after tab) frames.1

        verdict_is : verdict_said v ≡ verdict (read_entries k (entries_part s))
        verdict_is = judged ∙ ap (λ (t : List ℕ). verdict (read_entries k t)) t.entries_are

        pub entries_refused : (r : Refusal) → v ≡ Err r → PayloadRead (read_payload g s) tab (cleared tab₁) (Err r)
        unfolding ◌>>=◌
        entries_refused r bad =
            let (fs, read, same) = frames in
            let few : length fs ≤ 347 = omega (arith, few_options g (options_part s) fs ((read_parts g (options_part s) fs).0 read).0, t.options_short) in
            let refuses : read_entries k (entries_part s) ≡ refused (said r) = given_refused (λ es. tt) _ (said r) (sym verdict_is ∙ ap verdict_said bad) in
            read_refused _ tab long r tab₁ (reads ∙ rw (read, same, refuses)) (ap cleared table_is ∙ after_cleared tab long fs few)

        pub entries_passed : v ≡ Ok tt → (f : SdHeaderFlags) → f ≡ flags_laid (flags (get_or s 0 0))
            → PayloadRead (read_payload g s) tab tab₁ (Ok (record { flags = f; entries = n / 16; options = k }))
        entries_passed good f byte =
            let (fs, read, same) = frames in
            let (es, all_read, _) = given_accepted (λ es. tt) _ _ (sym verdict_is ∙ ap verdict_said good) in
            let count : n / 16 ≡ length es = omega (arith, entries_count k (entries_part s) es all_read, t.entries_long) in
            let first : get_or (take 4 s) 0 0 ≡ get_or s 0 0 = get_or-take 4 s 0 0 (omega arith) in
            read_good _ tab long (record { opening = take 4 s; entries = es; frames = fs }) _ tab₁
            (reads ∙ bind_pass _ _ fs read ∙ bind_pass _ _ es (ap (λ (m : ℕ). read_entries m (entries_part s)) same ∙ all_read))
            (rw (first, same, byte, count)) table_is
