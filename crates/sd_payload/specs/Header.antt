-- The tests of an SD header, by the numbers that stand in it. Assumes nothing: these are definitions.
use Rattle.std.specs.Prelude.{ℕ, ◌≤◌, ◌≡◌, not, List, length, get_or, eqb}
use Rattle.numbers.specs.Refusals.{wrong_message_id, wrong_client, session_zero, wrong_interface_version, wrong_message_type, wrong_return_code}
use Rattle.numbers.specs.Answers.{Verdict, pass, refuse◌when◌else◌}
use Rattle.numbers.specs.Bytes.{at16, at32}
use Rattle.sd_format.specs.Payload.{header}

-- all but the first: 14 to 19
unfoldable pub header_fields : (id client session version type code : ℕ) → Verdict
header_fields id client session version type code =
    refuse wrong_message_id id when not (eqb id 0xffff8100) else
    refuse wrong_client client when not (eqb client 0) else
    refuse session_zero when eqb session 0 else
    refuse wrong_interface_version version when not (eqb version 1) else
    refuse wrong_message_type type when not (eqb type 0x02) else
    refuse wrong_return_code code when not (eqb code 0) else
    pass

-- they are the rules' tests, of a header that has its 16 bytes; proofs/HeaderLaws.antt proves it
abbrev pub HeaderBy : Type 0
HeaderBy = (s : List ℕ) → 16 ≤ length s → header s ≡ header_fields (at32 s 0) (at16 s 8) (at16 s 10) (get_or s 13 0) (get_or s 14 0) (get_or s 15 0)
