-- What is promised of one entry: the answer of its reading, and its fields. Assumes nothing: these are definitions.
use Rattle.std.specs.Prelude.{ℕ, false, cond, []}
use Rattle.numbers.specs.Answers as paper
use Rattle.sd_format.specs.Entries as format
use Rattle.hub.specs.declared.answers.Answer.{Answer}
use Rattle.hub.specs.declared.entries.Entry.{Entry}
use Rattle.hub.specs.Answers.{row, refusal_row}

-- an entry of type `code`
abbrev pub fields : (code : ℕ) → format.Head → (minor : ℕ) → format.Group → Entry
fields code h minor g =
    record {
      answer = row 0 [];
      code = code;
      start1 = h.start1;
      start2 = h.start2;
      count1 = h.count1;
      count2 = h.count2;
      service = h.service;
      instance = h.instance;
      major = h.major;
      ttl = h.ttl;
      minor = minor;
      initial_data = cond g.initial_data 1 0;
      counter = g.counter;
      eventgroup = g.eventgroup;
      reserved = g.reserved;
      spare = g.spare;
    }

-- a service entry has none of these
abbrev pub no_group : format.Group
no_group = record { reserved = 0; initial_data = false; spare = 0; counter = 0; eventgroup = 0 }

abbrev pub entry_fields : format.Entry → Entry
entry_fields (format.find h minor) = fields 0x00 h minor no_group
entry_fields (format.offer h minor) = fields 0x01 h minor no_group
entry_fields (format.subscribe h g) = fields 0x06 h 0 g
entry_fields (format.subscribe_ack h g) = fields 0x07 h 0 g

-- nothing but an answer
abbrev pub no_entry : Answer → Entry
no_entry a =
    record {
      answer = a;
      code = 0;
      start1 = 0;
      start2 = 0;
      count1 = 0;
      count2 = 0;
      service = 0;
      instance = 0;
      major = 0;
      ttl = 0;
      minor = 0;
      initial_data = 0;
      counter = 0;
      eventgroup = 0;
      reserved = 0;
      spare = 0;
    }

abbrev pub entry_told : paper.Answer format.Entry → Entry
entry_told (paper.accepted e) = entry_fields e
entry_told (paper.refused r) = no_entry (refusal_row r)
