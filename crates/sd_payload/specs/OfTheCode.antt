-- Demand 3 and the place of a refusal, of the functions themselves: what is so of every outcome that the promises of `read_payload`, `read_message`, the parts, `look_up` and
-- the cursors allow; proofs/OfTheCode.antt proves it. Assumes nothing: these are definitions.
use Rattle.sd_entry.specs.declared.SdEntry.{SdEntry}
use Rattle.refusal.specs.declared.answers.Step.{Step}
use Rattle.std.specs.Prelude.{ℕ, ◌≡◌, ◌↔◌, ◌⊎◌, List, [], map, length, take, drop, get_or, Result, Ok, Err}
use Rattle.numbers.specs.Refusals as paper
use Rattle.numbers.specs.Answers.{accepted, given}
use Rattle.refusal.specs.declared.Refusal.{Refusal}
use Rattle.refusal.specs.Said.{said}
use Rattle.sd_format.specs.Settings.{Settings}
use Rattle.sd_format.specs.Sequences.{HandsOut, counted}
use Rattle.sd_format.specs.Options.{First, Opt, configuring, balancing, addressed, unrecognised}
use Rattle.sd_format.specs.Layout.{lay_option, lay_entries, lay_options, Payload}
use Rattle.sd_format.specs.Payload.{entries_part, options_part}
use Rattle.sd_format.specs.Demand3.{LaidOut, NoStricter, MessageLaidOut}
use Rattle.sd_format.specs.Faults.{Stopped, NotPermitted}
use Rattle.sd_option.specs.declared.reading.OptionHead.{OptionHead}
use Rattle.sd_option.specs.Reading.{option_said}
use Rattle.sd_entry.specs.declared.cursor.EntryCursor.{EntryCursor}
use Rattle.sd_entry.specs.Said.{answer_said}
use Rattle.sd_entry.specs.Steps.{Stepped}
use Rattle.sd_index.specs.declared.Ordinal.{Ordinal}
use Rattle.sd_index.specs.declared.lookup.Found.{Found}
use Rattle.sd_index.specs.declared.cursor.OptionCursor.{OptionCursor}
use Rattle.sd_index.specs.declared.cursor.RunCursor.{RunCursor}
use Rattle.sd_index.specs.Found.{found_said, look_up_told}
use Rattle.sd_index.specs.Steps.{OptionStepped, run_of, run_said, RunStepped}
use Rattle.sd_payload.specs.declared.reading.SdPayload.{SdPayload}
use Rattle.sd_payload.specs.Reads.{flags_laid, payload_said}
use Rattle.sd_payload.specs.Parts.{handed}

-- what an answer tells of a payload
abbrev pub summary : Payload → SdPayload
summary q = record { flags = flags_laid q.flags; entries = length q.entries; options = length q.options }

-- an option as it is handed out: what is told of it, and its own bytes
pub record Told : Type 0 where
  pub head : OptionHead
  pub bytes : List ℕ

-- the byte after its type
abbrev pub first_of : Opt → First
first_of (configuring first items) = first
first_of (balancing first priority weight) = first
first_of (addressed family role first address reserved protocol port) = first
first_of (unrecognised type first rest) = first

-- by its layout and its own first byte, with nothing of the reading: its type byte, its discardable bit, and how many bytes it takes
abbrev pub told : Opt → Told
told o =
    record {
      head = record { code = get_or (lay_option o) 2 0; discardable = (first_of o).discardable; size = length (lay_option o) };
      bytes = lay_option o;
    }

-- the bytes of an option of which the head was told, at its place in the options part
abbrev pub told_at : List ℕ → ℕ → OptionHead → Told
told_at part at h = record { head = h; bytes = take h.size (drop at part) }

abbrev pub told_found : List ℕ → Found → Told
told_found part l = told_at part l.offset.0 l.head

-- After the payload that `q` lays out was read under the settings `g` with the answer `r` and the table `tab`, of so many options, and the two parts
-- were handed out. A cursor is any function that meets the promise of its `next`, from any cursor that meets the promise of its `new`.
pub record AsLaidOut (g : Settings) (q : Payload) (r : Result SdPayload Refusal) (count : ℕ) (tab entries options : List ℕ) : Type 0 where
  -- the answer tells its flags and counts
  pub answer : payload_said r ≡ accepted (summary q)
  -- the parts are its entries and its options, laid out
  pub entries_part : entries ≡ lay_entries q.entries
  pub options_part : options ≡ lay_options q.options
  -- the cursors hand out its entries and its options, one after the other, and then 20; the option cursor under any settings that ask no more
  pub entries_handed : (next : EntryCursor → Step SdEntry EntryCursor) → ((c : EntryCursor) → Stepped entries c.at (next c))
      → (new : EntryCursor) → new.at ≡ 0
      → HandsOut (λ c. answer_said (next c).answer) (λ e c. (next c).after) new q.entries
  pub options_handed : (h : Settings) → NoStricter h g → (next : OptionCursor → Step OptionHead OptionCursor) → ((c : OptionCursor) → OptionStepped h options c.at.0 (next c))
      → (new : OptionCursor) → new.at.0 ≡ 0
      → HandsOut (λ c. given (told_at options c.at.0) (option_said (next c).answer)) (λ o c. (next c).after) new (map told q.options)
  -- looking up any number gives what counting from the front gives
  pub looked_up : (ordinal : Ordinal) (found : Result Found Refusal) → found_said found ≡ look_up_told options tab count ordinal.0
      → given (told_found options) (found_said found) ≡ given told (counted q.options ordinal.0)
  -- the run cursor hands out the options of its run, as far as the list goes
  pub run_handed : (next : RunCursor → Step Found RunCursor) → ((c : RunCursor) → RunStepped options tab count (run_said c) (next c))
      → (start left : ℕ) (new : RunCursor) → run_said new ≡ run_of start left
      → HandsOut (λ c. given (told_found options) (found_said (next c).answer)) (λ o c. (next c).after) new
      (take left (drop start (map told q.options)))

-- where options are refused: at one of them, or when all are read
abbrev pub RefusedThere : Settings → (options : List ℕ) → paper.Refusal → Type 0
RefusedThere g options q = Stopped g options q ⊎ NotPermitted g options q

-- the payload `s` was read with the answer `r` and left the table `tab`
pub record OfTheCode (g : Settings) (s tab : List ℕ) (r : Result SdPayload Refusal) : Type 0 where
  -- what is accepted is laid out, and what is laid out is accepted
  pub exactly : ((p : SdPayload) × (r ≡ Ok p)) ↔ ((q : Payload) × LaidOut g s q)
  -- and then all that is handed out is what was laid out
  pub after : (p : SdPayload) (q : Payload) → r ≡ Ok p → LaidOut g s q
      → (entries options : List ℕ) → entries ≡ handed r s (entries_part s) → options ≡ handed r s (options_part s)
      → AsLaidOut g q r p.options tab entries options
  -- after a refusal no bytes are handed out
  pub empty : (q : Refusal) → r ≡ Err q → (bytes part : List ℕ) → part ≡ handed r s bytes → part ≡ []
  -- and a place that it tells is the place in the options
  pub place : (q : Refusal) → r ≡ Err q → (p : ℕ) → (said q).place ≡ paper.told p → RefusedThere g (options_part s) (said q)

-- the message `m` was read with the answer `r` and left the table `tab`
pub record OfTheMessage (g : Settings) (m tab : List ℕ) (r : Result SdPayload Refusal) : Type 0 where
  -- what is accepted is laid out, and what is laid out is accepted
  pub exactly : ((p : SdPayload) × (r ≡ Ok p)) ↔ ((q : Payload) × MessageLaidOut g m q)
  -- and then all is as after the reading of the payload behind the header
  pub after : (p : SdPayload) → r ≡ Ok p → OfTheCode g (drop 16 m) tab r
  -- a place that a refusal tells is the place in the options, the header not counted
  pub place : (q : Refusal) → r ≡ Err q → (p : ℕ) → (said q).place ≡ paper.told p → RefusedThere g (options_part (drop 16 m)) (said q)
