-- The whole payload and the SD message, read with the first refusal. Assumes nothing: these are definitions.
use Rattle.std.specs.Prelude.{ℕ, ◌+◌, ◌%◌, not, List, map, length, take, drop, get_or, ltb, eqb}
use Rattle.numbers.specs.Refusals.{unexpected_end, entries_too_large, entries_uneven, options_too_large, payload_too_large, length_mismatch, wrong_message_id, wrong_client, session_zero, wrong_interface_version, wrong_message_type, wrong_return_code}
use Rattle.numbers.specs.Answers.{Answer, accepted, Verdict, pass, ◌>>=◌, ◌>>◌, refuse◌when◌else◌, given}
use Rattle.numbers.specs.Bytes.{at16, at24, at32}
use Rattle.sd_format.specs.Settings.{Settings}
use Rattle.sd_format.specs.Options.{has}
use Rattle.sd_format.specs.Frames.{Frame, read_options}
use Rattle.sd_format.specs.Fields.{fields}
use Rattle.sd_format.specs.Entries.{Entry, entry_length, read_entries}
use Rattle.sd_format.specs.Layout.{Flags, reboot_bit, unicast_bit, initial_data_control_bit, Payload}

-- ---- the sizes: `n` bytes, the entries length and the options length

unfoldable pub sizes : (n entries options : ℕ) → Verdict
sizes n entries options =
    refuse unexpected_end 12 when ltb n 12 else
    refuse entries_too_large entries when ltb 1388 entries else
    refuse entries_uneven entries when not (eqb (entries % entry_length) 0) else
    refuse unexpected_end (12 + entries) when ltb n (12 + entries) else
    refuse options_too_large options when ltb 1388 options else
    refuse payload_too_large (12 + entries + options) when ltb 1400 (12 + entries + options) else
    refuse unexpected_end (12 + entries + options) when ltb n (12 + entries + options) else
    refuse length_mismatch (12 + entries + options) n when not (eqb n (12 + entries + options)) else
    pass

-- ---- the parts

unfoldable pub entries_length : List ℕ → ℕ
entries_length s = at32 s 4

-- where the options length stands is known from the entries length
unfoldable pub options_length : List ℕ → ℕ
options_length s = at32 s (8 + entries_length s)

-- bytes 8 to 8 plus the length
unfoldable pub entries_part : List ℕ → List ℕ
entries_part s = take (entries_length s) (drop 8 s)

unfoldable pub options_part : List ℕ → List ℕ
options_part s = drop (12 + entries_length s) s

-- ---- the reading

-- what is read: the four opening bytes, the entries, and each option as its type and the bytes after it
pub record Reading : Type 0 where
  pub opening : List ℕ
  pub entries : List Entry
  pub frames : List Frame

unfoldable pub read_payload : Settings → List ℕ → Answer Reading
read_payload g s =
    sizes (length s) (entries_length s) (options_length s) >>
    (read_options g (options_part s) >>= λ fs.
    read_entries (length fs) (entries_part s) >>= λ es.
    accepted (record { opening = take 4 s; entries = es; frames = fs }))

abbrev pub frames_of : Answer Reading → Answer (List Frame)
frames_of = given (λ r. r.frames)

-- ---- what is handed out

-- byte 0 (as the Rust: the third flag is read whatever the release; DIFFERENCES, R4)
abbrev pub flags : ℕ → Flags
flags b = record { reboot = has b reboot_bit; unicast = has b unicast_bit; initial_data_control = has b initial_data_control_bit }

-- the reading, each option by its kind's own fields
unfoldable pub shown : Reading → Payload
shown r =
    record {
      flags = flags (get_or r.opening 0 0);
      spare = get_or r.opening 0 0 % 32;
      reserved = at24 r.opening 1;
      entries = r.entries;
      options = map fields r.frames;
    }

unfoldable pub handed_out : Settings → List ℕ → Answer Payload
handed_out g s = given shown (read_payload g s)

-- ---- the message with its SD header

-- how many bytes it takes
abbrev pub header_length : ℕ
header_length = 16

unfoldable pub header : List ℕ → Verdict
header s =
    refuse unexpected_end header_length when ltb (length s) header_length else
    refuse wrong_message_id (at32 s 0) when not (eqb (at32 s 0) 0xffff8100) else
    refuse wrong_client (at16 s 8) when not (eqb (at16 s 8) 0) else
    refuse session_zero when eqb (at16 s 10) 0 else
    refuse wrong_interface_version (get_or s 13 0) when not (eqb (get_or s 13 0) 1) else
    refuse wrong_message_type (get_or s 14 0) when not (eqb (get_or s 14 0) 0x02) else
    refuse wrong_return_code (get_or s 15 0) when not (eqb (get_or s 15 0) 0) else
    pass

-- all later bytes are the payload, and its refusals count from the payload's start
unfoldable pub read_message : Settings → List ℕ → Answer Reading
read_message g s = header s >> read_payload g (drop header_length s)
