-- The code's entries and answers as those of the definitions. Assumes nothing: these are definitions.
use Rattle.refusal.specs.declared.Refusal.{Refusal}
use Rattle.std.specs.Prelude.{ℕ, Result}
use Rattle.numbers.specs.Answers.{Answer}
use Rattle.sd_format.specs.Entries.{Head, Group, Entry, find, offer, subscribe, subscribe_ack}
use Rattle.refusal.specs.Said.{said_by}
use Rattle.sd_entry.specs.declared.SdServiceEntryType.{SdServiceEntryType}
use Rattle.sd_entry.specs.declared.SdServiceEntryType.TheVariants.{FindService, OfferService}
use Rattle.sd_entry.specs.declared.EventGroupEntryType.{EventGroupEntryType}
use Rattle.sd_entry.specs.declared.EventGroupEntryType.TheVariants.{SubscribeOrStop, SubscribeAckOrNack}
use Rattle.sd_entry.specs.declared.EntryHead.{EntryHead}
use Rattle.sd_entry.specs.declared.EventGroup.{EventGroup}
use Rattle.sd_entry.specs.declared.SdEntry.{SdEntry}
use Rattle.sd_entry.specs.declared.SdEntry.TheVariants.{Service, Eventgroup}

abbrev pub head_said : EntryHead → Head
head_said h =
    record {
      start1 = h.start_index_options_1;
      start2 = h.start_index_options_2;
      count1 = h.number_of_options_1;
      count2 = h.number_of_options_2;
      service = h.service_id;
      instance = h.instance_id;
      major = h.major_version;
      ttl = h.ttl;
    }

abbrev pub group_said : EventGroup → Group
group_said g =
    record {
      reserved = g.reserved;
      initial_data = g.initial_data_requested;
      spare = g.spare;
      counter = g.counter;
      eventgroup = g.eventgroup_id;
    }

abbrev pub service_said : SdServiceEntryType → Head → ℕ → Entry
service_said FindService = find
service_said OfferService = offer

abbrev pub eventgroup_said : EventGroupEntryType → Head → Group → Entry
eventgroup_said SubscribeOrStop = subscribe
eventgroup_said SubscribeAckOrNack = subscribe_ack

abbrev pub entry_said : SdEntry → Entry
entry_said (Service type h minor) = service_said type (head_said h) minor
entry_said (Eventgroup type h g) = eventgroup_said type (head_said h) (group_said g)

abbrev pub answer_said : Result SdEntry Refusal → Answer Entry
answer_said = said_by entry_said
