-- Fields put together, from what each call promised of its own. Assumes nothing.
use Prim.Native.Nat.{ℕ, ◌≤◌}
use mathlib.Core.Path.{◌≡◌, sym, subst}
use mathlib.Core.Bool.{cond}
use mathlib.Core.List.{List, []}
use Rattle.numbers.specs.Answers.{accepted, given}
use Rattle.numbers.proofs.AnswerLaws.{given_accepted}
use Rattle.sd_format.specs.Settings.{Settings}
use Rattle.sd_format.specs.Kinds.{judge_content}
use Rattle.sd_format.specs.Frames.{read_option}
use Rattle.sd_format.proofs.FrameLaws.{option_within}
use Rattle.sd_field.specs.Said.{first_said, Decoded, decoded}
use Rattle.sd_field.specs.declared.OptionFirst.{OptionFirst}
use Rattle.sd_entry.specs.Said.{head_said, group_said}
use Rattle.sd_entry.specs.declared.EntryHead.{EntryHead}
use Rattle.sd_entry.specs.declared.EventGroup.{EventGroup}
use Rattle.hub.specs.declared.answers.Answer.{Answer}
use Rattle.hub.specs.Answers.{row}
use Rattle.hub.specs.Entries.{fields}
use Rattle.hub.specs.Options as option
use Rattle.hub.specs.Options.{Span}

-- an entry: its answer and its one bit
pub fields_made : (code : ℕ) (h : EntryHead) (minor : ℕ) (g : EventGroup) (a : Answer) (b : ℕ) → a ≡ row 0 [] → b ≡ cond g.initial_data_requested 1 0
    → record {
      answer = a;
      code = code;
      start1 = h.start_index_options_1;
      start2 = h.start_index_options_2;
      count1 = h.number_of_options_1;
      count2 = h.number_of_options_2;
      service = h.service_id;
      instance = h.instance_id;
      major = h.major_version;
      ttl = h.ttl;
      minor = minor;
      initial_data = b;
      counter = g.counter;
      eventgroup = g.eventgroup_id;
      reserved = g.reserved;
      spare = g.spare;
    }
    ≡ fields code (head_said h) minor (group_said g)
fields_made code h minor g a b p q =
    λ i. record {
      answer = p i;
      code = code;
      start1 = h.start_index_options_1;
      start2 = h.start_index_options_2;
      count1 = h.number_of_options_1;
      count2 = h.number_of_options_2;
      service = h.service_id;
      instance = h.instance_id;
      major = h.major_version;
      ttl = h.ttl;
      minor = minor;
      initial_data = q i;
      counter = g.counter;
      eventgroup = g.eventgroup_id;
      reserved = g.reserved;
      spare = g.spare;
    }

-- an option: the same
pub option_made : (code size : ℕ) (first : OptionFirst) (priority weight : ℕ) (address : Span) (protocol port : ℕ) (string : Span) (a : Answer) (b : ℕ)
    → a ≡ row 0 [] → b ≡ cond first.discardable 1 0
    → record {
      answer = a;
      code = code;
      size = size;
      discardable = b;
      priority = priority;
      weight = weight;
      address_at = address.at;
      address_len = address.len;
      protocol = protocol;
      port = port;
      string_at = string.at;
      string_len = string.len;
    }
    ≡ option.fields code size (first_said first) priority weight address protocol port string
option_made code size first priority weight address protocol port string a b p q =
    λ i. record {
      answer = p i;
      code = code;
      size = size;
      discardable = q i;
      priority = priority;
      weight = weight;
      address_at = address.at;
      address_len = address.len;
      protocol = protocol;
      port = port;
      string_at = string.at;
      string_len = string.len;
    }

-- an option that was read takes at least four bytes
pub four_bytes : (g : Settings) (s : List ℕ) (d : Decoded) → accepted d ≡ given decoded (read_option g s) → 4 ≤ d.size
four_bytes g s d e =
    let (f, read, same) = given_accepted decoded (read_option g s) d (sym e) in
    subst (λ (d : Decoded). 4 ≤ d.size) same (option_within (judge_content g) s f read).0
