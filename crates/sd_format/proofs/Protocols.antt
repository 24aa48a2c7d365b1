-- The strict setting's cases hold of the definitions, by computation. Assumes nothing.
use mathlib.Core.Path.{refl}
use Rattle.numbers.specs.Answers.{◌>>=◌, ◌>>◌, refuse◌when◌else◌, further, given}
use Rattle.numbers.specs.Bytes.{be16, be32, at16, at32}
use Rattle.sd_format.specs.Sequences.{all_from, next_at}
use Rattle.sd_format.specs.Kinds.{kinds, row_in, row_of, judge_length, may_carry, judge_protocol, judge_content, judge_kind}
use Rattle.sd_format.specs.Frames.{frame, one_option, placed_option, all_options, read_options, read_index}
use Rattle.sd_format.specs.Payload.{sizes, entries_length, options_length, options_part, read_payload, header, read_message}
use Rattle.sd_format.specs.Protocols.{Protocols}

pub protocols : Protocols
unfolding ◌>>=◌ ◌>>◌ refuse◌when◌else◌ further given be16 be32 at16 at32 all_from next_at kinds row_in row_of judge_length may_carry judge_protocol judge_content judge_kind frame one_option placed_option all_options read_options read_index sizes entries_length options_length options_part read_payload header read_message
protocols = record {
  ipv4_endpoint_0x99 = (refl, refl);
  ipv4_multicast_0x99 = (refl, refl);
  ipv4_sd_endpoint_0x99 = (refl, refl);
  ipv6_endpoint_0x99 = (refl, refl);
  ipv6_multicast_0x99 = (refl, refl);
  ipv6_sd_endpoint_0x99 = (refl, refl);
  ipv4_endpoint_tcp = (refl, refl);
  ipv4_multicast_tcp = (refl, refl);
  ipv4_sd_endpoint_tcp = (refl, refl);
  ipv6_endpoint_tcp = (refl, refl);
  ipv6_multicast_tcp = (refl, refl);
  ipv6_sd_endpoint_tcp = (refl, refl);
  ipv4_endpoint_udp = (refl, refl);
  ipv4_multicast_udp = (refl, refl);
  ipv4_sd_endpoint_udp = (refl, refl);
  ipv6_endpoint_udp = (refl, refl);
  ipv6_multicast_udp = (refl, refl);
  ipv6_sd_endpoint_udp = (refl, refl);
  load_balancing = (refl, refl);
  unknown = (refl, refl);
  options = refl;
  index = refl;
  cursor = refl;
  in_payload = refl;
  in_message = refl;
}
