-- Demand 3 of the functions, from their contracts themselves: what a caller learns of a call (`Learnt`: its arguments, its result, and what was
-- lent as it is after it) is what the theorem asks. A contract that leaves out an argument, or takes another, is refused here, also where its code
-- does the same. Assumes nothing.
use Prim.Native.Nat.{◌≤◌}
use mathlib.Core.Path.{◌≡◌}
use lib.ListN.{length}
use Rattle.numbers.specs.Bytes.{Bytes}
use Rattle.sd_format.specs.Payload.{entries_part, options_part}
use Rattle.sd_option.specs.Settings.{settings_said}
use Rattle.sd_payload.specs.Parts.{handed}
use Rattle.sd_payload.specs.OfTheCode.{OfTheCode, OfTheMessage}
use Rattle.sd_payload.proofs.OfTheCode.{of_the_code, of_the_message}
use Rattle.sd_payload.proofs.reading.read_payload.Reads as read_payload_of
use Rattle.sd_payload.proofs.reading.read_message.Reads as read_message_of
use Rattle.sd_payload.proofs.parts.entries_part.Reads as entries_part_of
use Rattle.sd_payload.proofs.parts.options_part.Reads as options_part_of

pub reads : (κs : _) (a : _) (r : _) (e : _) → read_payload_of.Learnt κs a r e → Bytes a.1.0.now → 347 ≤ length a.1.1.0.now
    → OfTheCode (settings_said a.0) a.1.0.now e.1.1.0.now r
reads κs a r e learnt b long = of_the_code (settings_said a.0) a.1.0.now a.1.1.0.now e.1.1.0.now r b long learnt

pub reads_message : (κs : _) (a : _) (r : _) (e : _) → read_message_of.Learnt κs a r e → Bytes a.1.0.now → 347 ≤ length a.1.1.0.now
    → OfTheMessage (settings_said a.0) a.1.0.now e.1.1.0.now r
reads_message κs a r e learnt b long = of_the_message (settings_said a.0) a.1.0.now a.1.1.0.now e.1.1.0.now r b long learnt

pub hands_entries : (κs : _) (a : _) (r : _) (e : _) → entries_part_of.Learnt κs a r e → r.now ≡ handed a.1.0 a.0.now (entries_part a.0.now)
hands_entries κs a r e learnt = learnt

pub hands_options : (κs : _) (a : _) (r : _) (e : _) → options_part_of.Learnt κs a r e → r.now ≡ handed a.1.0 a.0.now (options_part a.0.now)
hands_options κs a r e learnt = learnt
