-- Demand 3 and the place of a refusal, of the functions themselves, from their promises and from the same of the definitions. Assumes nothing.
use Rattle.std.specs.Prelude.{Result, Ok, Err}
use Rattle.refusal.specs.declared.Refusal.{Refusal}
use Prim.Native.Nat.{ℕ, ◌≤◌}
use mathlib.Core.Path.{◌≡◌, refl, sym, ap, ◌∙◌, subst}
use mathlib.Core.Logic.{◌⊎◌, ⊎_elim}
use mathlib.Core.List.{List, map}
use native.Mathlib.Omega.{arith}
use lib.ListN.{length, drop, length-map}
use Rattle.std.proofs.lemmas.List.{take-map, drop-map}
use Rattle.numbers.specs.Refusals as paper
use Rattle.numbers.specs.Refusals.{untold}
use Rattle.numbers.specs.Answers.{Answer, accepted, refused, given}
use Rattle.numbers.specs.Bytes.{Bytes}
use Rattle.numbers.proofs.AnswerLaws.{accepted_inj, not_refused, given_accepted, given_refused, then_accepted, then_pass}
use Rattle.numbers.proofs.ByteLaws.{bytes_drop, bytes_take}
use Rattle.sd_format.specs.Settings.{Settings}
use Rattle.sd_format.specs.Sequences.{counted}
use Rattle.sd_format.specs.Frames.{read_options, slots, look_up}
use Rattle.sd_format.specs.Fields.{fields}
use Rattle.sd_format.specs.Entries.{sixteen, placed_entry, read_entries}
use Rattle.sd_format.specs.Layout.{lay_entry, EntryFits, wire, lay_entries, lay_options, Payload}
use Rattle.sd_format.specs.Payload.{entries_length, entries_part, options_part, Reading, read_payload, shown, handed_out, read_message}
use Rattle.sd_format.specs.Demand3.{LaidOut, table_left, CursorsAgree}
use Rattle.sd_format.proofs.SequenceLaws.{all_exact, counted_map}
use Rattle.sd_format.proofs.OptionLaws.{options_read}
use Rattle.sd_format.proofs.EntryLaws.{length_entry, entry_lay, entry_read}
use Rattle.sd_format.proofs.PayloadLaws.{read_says, bytes_options}
use Rattle.sd_format.proofs.Demand3.{demand3, cursors}
use Rattle.sd_format.proofs.CallLaws.{lent_exactly, message_exact}
use Rattle.sd_format.proofs.FaultLaws.{place_is_the_place}
use Rattle.refusal.specs.Said.{said}
use Rattle.sd_payload.specs.declared.reading.SdPayload.{SdPayload}
use Rattle.sd_payload.specs.Reads.{summed, payload_said, PayloadRead}
use Rattle.sd_payload.specs.Sized.{sized}
use Rattle.sd_payload.specs.Parts.{handed}
use Rattle.sd_payload.specs.OfTheCode.{summary, Told, told, told_found, AsLaidOut, RefusedThere, OfTheCode, OfTheMessage}
use Rattle.sd_payload.proofs.PartLaws.{handed_part}
use Rattle.sd_payload.proofs.HandedOut.{frame_told, frames_told, entries_too, options_too, found_told, run_too}

-- ---- what is accepted

bytes_entries : (s : List ℕ) → Bytes s → Bytes (entries_part s)
unfolding entries_part
bytes_entries s b = bytes_take (drop 8 s) (entries_length s) (bytes_drop s 8 b)

good : (r : Result SdPayload Refusal) (u : SdPayload) → payload_said r ≡ accepted u → (p : SdPayload) × (r ≡ Ok p)
good (Ok p) u e = (p, refl)
good (Err r) u e = not_refused _ u e

-- the parts of a payload that was accepted
handed_whole : (g : Settings) (s : List ℕ) (rd : Reading) (r : Result SdPayload Refusal) (p : SdPayload) (bytes : List ℕ) → read_payload g s ≡ accepted rd → r ≡ Ok p
    → handed r s bytes ≡ bytes
unfolding read_payload sized
handed_whole g s rd r p bytes read e = rw e (sym (handed_part (Ok p) s _ (then_pass _ _ (then_accepted _ _ rd read).0) bytes))

-- ---- where it is refused

pub told_there : (g : Settings) (s : List ℕ) → Bytes s → (q : paper.Refusal) (p : ℕ) → q.place ≡ paper.told p
    → (q.place ≡ untold) ⊎ (read_options g (options_part s) ≡ refused q) → RefusedThere g (options_part s) q
told_there g s b q p there =
    ⊎_elim
    (λ none. let same : untold ≡ paper.told p = sym none ∙ there in let z : ◌≡◌ {A = ℕ} 0 1 = cc in absurd (omega arith))
    ((place_is_the_place g (options_part s) (bytes_options s b)).options q).0

module _ (g : Settings) (s tab tab' : List ℕ) (r : Result SdPayload Refusal) (b : Bytes s) (long : 347 ≤ length tab) (h : PayloadRead (read_payload g s) tab tab' r) where
  came : payload_said r ≡ given summed (read_payload g s)
  came = h.told ∙ ap (given summed) ((lent_exactly tab (read_payload g s)).enough long)

  laid_out : (p : SdPayload) → r ≡ Ok p → (q : Payload) × LaidOut g s q
  unfolding handed_out given
  laid_out p e =
      let (rd, read, same) = given_accepted summed (read_payload g s) _ (sym came ∙ ap payload_said e) in
      (shown rd, ((demand3 g s b).handed (shown rd)).0 (ap (given shown) read))

  -- over a payload that is laid out

  module _ (q : Payload) (laid : LaidOut g s q) where
    out : handed_out g s ≡ accepted q
    out = ((demand3 g s b).handed q).1 laid

    reading : (rd : Reading) × (read_payload g s ≡ accepted rd) × (shown rd ≡ q)
    unfolding handed_out
    reading = given_accepted shown (read_payload g s) q out

    answered : payload_said r ≡ accepted (summary q)
    unfolding given shown
    answered =
        let (rd, read, same) = reading in
        let counts : accepted (summed rd) ≡ accepted (summary (shown rd)) = rw (length-map rd.frames fields) refl in
        came ∙ ap (given summed) read ∙ counts ∙ ap (λ (p : Payload). accepted (summary p)) same

    entries_laid : entries_part s ≡ lay_entries q.entries
    unfolding read_entries shown
    entries_laid =
        let (rd, read, same) = reading in
        let n : ℕ = length rd.frames in
        let bytes : Bytes (entries_part s) = bytes_entries s b in
        sym ((all_exact (placed_entry n) sixteen lay_entry (EntryFits n) (λ e rest w. entry_lay n e rest w) (entry_read n) (λ e w. length_entry e) (λ e w. omega arith)
        (entries_part s) bytes rd.entries).0 (read_says g s rd read).entries_read).1
        ∙ ap (λ (p : Payload). lay_entries p.entries) same

    options_laid : options_part s ≡ lay_options q.options
    unfolding shown
    options_laid =
        let (rd, read, same) = reading in
        sym (options_read g (options_part s) (bytes_options s b) rd.frames (read_says g s rd read).frames_read).1
        ∙ ap (λ (p : Payload). lay_options p.options) same

    both : CursorsAgree g s q
    both = cursors g s b q out

    bytes : Bytes (options_part s)
    bytes = bytes_options s b

    frames : map frame_told (map wire q.options) ≡ map told q.options
    frames = frames_told g q.options laid.0.options_fit

    as_counted : (k : ℕ) → given frame_told (look_up (options_part s) (table_left g s tab) (length q.options) k) ≡ given told (counted q.options k)
    unfolding slots
    as_counted k =
        ap (given frame_told) ((demand3 g s b).looked_up q out tab long k ∙ sym (counted_map wire q.options k))
        ∙ sym (counted_map frame_told (map wire q.options) k) ∙ ap (λ (l : List Told). counted l k) frames ∙ counted_map told q.options k

    as_laid_out : AsLaidOut g q r (length q.options) (table_left g s tab) (entries_part s) (options_part s)
    unfolding slots
    as_laid_out =
        record {
          answer = answered;
          entries_part = entries_laid;
          options_part = options_laid;
          entries_handed = λ next meets new first. entries_too (entries_part s) next meets both.entries new first;
          options_handed = λ h less next meets new first. rw (← frames) (options_too (options_part s) bytes h next meets (both.options h less) new first);
          looked_up = λ ordinal found is.
              ap (given (told_found (options_part s))) is ∙ found_told (options_part s) bytes (table_left g s tab) (length q.options) ordinal.0 ∙ as_counted ordinal.0;
          run_handed = λ next meets start left new first.
              rw (← frames, drop-map frame_told start (map wire q.options), take-map frame_told left (drop start (map wire q.options)))
              (run_too (options_part s) bytes (table_left g s tab) (length q.options) next meets (both.runs tab long start left) new first);
        }

    count_is : (p : SdPayload) → r ≡ Ok p → p.options ≡ length q.options
    count_is p e = ap (λ (u : SdPayload). u.options) (accepted_inj _ (summary q) (sym (ap payload_said e) ∙ answered))

    after_it : (p : SdPayload) → r ≡ Ok p → (entries options : List ℕ) → entries ≡ handed r s (entries_part s) → options ≡ handed r s (options_part s)
        → AsLaidOut g q r p.options tab' entries options
    after_it p e entries options is-entries is-options =
        let (rd, read, same) = reading in
        let count = count_is p e in
        let es : entries ≡ entries_part s = is-entries ∙ handed_whole g s rd r p (entries_part s) read e in
        let os : options ≡ options_part s = is-options ∙ handed_whole g s rd r p (options_part s) read e in
        rw (count, h.slots, es, os) as_laid_out

  pub of_the_code : OfTheCode g s tab' r
  unfolding given
  of_the_code =
      record {
        exactly = ((λ a. laid_out a.0 a.1), (λ a. good r (summary a.0) (answered a.0 a.1)));
        after = λ p q e laid. after_it q laid p e;
        empty = λ q e bytes part is. is ∙ ap (λ (x : Result SdPayload Refusal). handed x s bytes) e;
        place = λ q e p there. told_there g s b (said q) p there ((place_is_the_place g s b).payload (said q) (given_refused summed _ (said q) (sym came ∙ ap payload_said e)));
      }

-- ---- the message

module _ (g : Settings) (m tab tab' : List ℕ) (r : Result SdPayload Refusal) (b : Bytes m) (long : 347 ≤ length tab) (h : PayloadRead (read_message g m) tab tab' r) where
  message_came : payload_said r ≡ given summed (read_message g m)
  message_came = h.told ∙ ap (given summed) ((lent_exactly tab (read_message g m)).enough long)

  read_with : (p : SdPayload) → r ≡ Ok p → (rd : Reading) × (read_message g m ≡ accepted rd)
  read_with p e = let (rd, read, same) = given_accepted summed (read_message g m) _ (sym message_came ∙ ap payload_said e) in (rd, read)

  -- the reading of the payload behind the header promises the same
  payload_behind : (p : SdPayload) → r ≡ Ok p → PayloadRead (read_payload g (drop 16 m)) tab tab' r
  unfolding read_message
  payload_behind p e =
      let (rd, read) = read_with p e in
      let same : read_message g m ≡ read_payload g (drop 16 m) = read ∙ sym (then_accepted _ _ rd read).1 in
      subst (λ (a : Answer Reading). PayloadRead a tab tab' r) same h

  pub of_the_message : OfTheMessage g m tab' r
  unfolding given
  of_the_message =
      record {
        exactly = (
          (λ a.
              let (rd, read) = read_with a.0 a.1 in
              (shown rd, ((message_exact g m b).handed (shown rd)).0 (ap (given shown) read))),
          (λ a.
              let (rd, read, same) = given_accepted shown (read_message g m) a.0 (((message_exact g m b).handed a.0).1 a.1) in
              good r (summed rd) (message_came ∙ ap (given summed) read)),
        );
        after = λ p e. of_the_code g (drop 16 m) tab tab' r (bytes_drop m 16 b) long (payload_behind p e);
        place = λ q e p there.
            told_there g (drop 16 m) (bytes_drop m 16 b) (said q) p there
            ((place_is_the_place g m b).message (said q) (given_refused summed _ (said q) (sym message_came ∙ ap payload_said e)));
      }
